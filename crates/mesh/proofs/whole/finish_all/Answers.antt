-- `mesh::whole::finish_all` meets its contract: each block, cleared behind its rows, is its columns and zeros. Assumes nothing.
use Rattle.mesh.proofs.Blocks.{block_filled, point_at, root_at, corner_at, volume_at, end_at, length_at, side_at, words_of_lem}
use Rattle.lists.specs.Lists.{padded}
use Rattle.float.specs.Numbers.{zero32}
use Rattle.mesh.specs.Filled.{point_of, root_of, corner_of, volume_of, end_of, length_of, side_of}
use Rattle.mesh.specs.Log.{world_at, log_at}
use Rattle.mesh.specs.At.{mesh_at, particles_at, triangles_at, edges_at, boundary_at}
use lib.Ieee.{nan}
use lib.ListN.{length}
use Prim.Native.Nat.{◌/◌}
use mathlib.Core.Path.{ap, ◌∙◌}
use native.Mathlib.Omega.{arith}
use Rattle.mesh.proofs.whole.finish_all.Goals as goal

pub returns : goal.returns
unfolding world_at mesh_at particles_at triangles_at edges_at boundary_at log_at
returns c =
    let pre = c.requires in
    record {
      points = block_filled point_of _ _ _ zero32 nan _ _ _ pre.points (omega arith) (point_at _ _ c.args.points.now c.args.roots.now) c.clear_block.ensures;
      roots = block_filled root_of 2 _ _ 0 0 _ _ _ pre.roots (omega arith) (root_at _ _ c.args.points.now c.args.roots.now) c.clear_block-2.ensures;
      corners = block_filled corner_of 3 _ _ 0 0 _ _ _ pre.corners (omega arith) (corner_at _ (length c.args.volumes.now / 2) c.args.corners.now c.args.volumes.now) c.clear_block-3.ensures;
      volumes = block_filled volume_of 2 _ _ zero32 nan _ _ _ pre.volumes (omega arith) (volume_at _ _ c.args.corners.now c.args.volumes.now) c.clear_block-4.ensures;
      ends = block_filled end_of 4 _ _ 0 0 _ _ _ pre.ends (omega arith) (end_at _ _ c.args.ends.now c.args.lengths.now) c.clear_block-5.ensures;
      lengths = block_filled length_of 4 _ _ zero32 nan _ _ _ pre.lengths (omega arith) (length_at _ _ c.args.ends.now c.args.lengths.now) c.clear_block-6.ensures;
      outline = block_filled side_of 2 _ _ 0 0 _ _ _ pre.outline (omega arith) (side_at _ c.args.outline.now) c.clear_block-7.ensures;
      log = c.clear.ensures ∙ ap (padded _ 0) (words_of_lem _ _ (omega (arith, pre.log)));
    }
