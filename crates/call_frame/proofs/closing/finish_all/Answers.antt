-- `call_frame::closing::finish_all` meets its contract: the blocks are finished beside a log of no entries, and then the log is. Assumes nothing.
use Rattle.lists.specs.Lists.{padded}
use Rattle.mesh.specs.Log.{world_at, log_at}
use Rattle.mesh.specs.At.{mesh_at}
use Rattle.mesh.proofs.Blocks.{words_of_lem}
use mathlib.Core.Path.{ap, ◌∙◌}
use native.Mathlib.Omega.{arith}
use Rattle.call_frame.proofs.closing.finish_all.Goals as goal

pub finish_all-requires : goal.finish_all-requires
finish_all-requires c = let P = c.requires in
    record { points = P.points; roots = P.roots; corners = P.corners; volumes = P.volumes; ends = P.ends; lengths = P.lengths; outline = P.outline; log = omega arith }

pub shape_of-points : goal.shape_of-points
shape_of-points c = c.finish_all.auto.points

pub shape_of-roots : goal.shape_of-roots
shape_of-roots c = c.finish_all.auto.roots

pub shape_of-corners : goal.shape_of-corners
shape_of-corners c = c.finish_all.auto.corners

pub shape_of-volumes : goal.shape_of-volumes
shape_of-volumes c = c.finish_all.auto.volumes

pub shape_of-ends : goal.shape_of-ends
shape_of-ends c = c.finish_all.auto.ends

pub shape_of-lengths : goal.shape_of-lengths
shape_of-lengths c = c.finish_all.auto.lengths

pub shape_of-outline : goal.shape_of-outline
shape_of-outline c = c.finish_all.auto.outline

pub shape_of-log : goal.shape_of-log
shape_of-log c = c.clear.auto.s

pub returns : goal.returns
unfolding world_at mesh_at log_at
returns c =
    let F = c.finish_all.ensures in
    record {
      points = F.points;
      roots = F.roots;
      corners = F.corners;
      volumes = F.volumes;
      ends = F.ends;
      lengths = F.lengths;
      outline = F.outline;
      log = c.clear.ensures ∙ ap (padded _ 0) (words_of_lem _ _ (omega (arith, c.requires.log)));
    }
