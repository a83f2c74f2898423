-- `mesh::whole::copy_all` meets its contract: each block reads as the one that it was copied from. Assumes nothing.
use lib.Ieee.{nan}
use Rattle.mesh.proofs.Blocks.{copied_particles, copied_triangles, copied_edges, copied_boundary}
use Rattle.mesh.proofs.Lists.{mesh_path}
use Rattle.mesh.specs.At.{mesh_at}
use native.Mathlib.Omega.{arith}
use Rattle.mesh.proofs.whole.copy_all.Goals as goal

pub copy_block-requires-5 : goal.copy_block-requires-5
copy_block-requires-5 c = (c.requires.holds.ends, omega arith, omega arith)

pub copy_block-requires-6 : goal.copy_block-requires-6
copy_block-requires-6 c = (c.requires.holds.lengths, omega arith, omega arith)

pub copy_block-requires-7 : goal.copy_block-requires-7
copy_block-requires-7 c = (c.requires.holds.outline, omega arith, omega arith)

pub returns : goal.returns
unfolding mesh_at
returns c =
    let pre = c.requires.fits in
    mesh_path
    (copied_particles _ _ _ _ _ _ _ c.requires.fits.points c.requires.fits.roots (c.copy_block.ensures nan) (c.copy_block-2.ensures 0) c.copy_block.auto.dst c.copy_block-2.auto.dst)
    (copied_triangles _ _ _ _ _ _ _ c.requires.fits.corners c.requires.fits.volumes (c.copy_block-3.ensures 0) (c.copy_block-4.ensures nan) c.copy_block-3.auto.dst c.copy_block-4.auto.dst)
    (copied_edges _ _ _ _ _ _ _ c.requires.fits.ends c.requires.fits.lengths (c.copy_block-5.ensures 0) (c.copy_block-6.ensures nan) c.copy_block-5.auto.dst c.copy_block-6.auto.dst)
    (copied_boundary _ _ _ _ c.requires.fits.outline (c.copy_block-7.ensures 0) c.copy_block-7.auto.dst)
