-- `sheetcut::list_fronts` meets its contract: the fronts are long enough for the rows. Assumes nothing.
use native.Mathlib.Omega.{arith}
use mathlib.Core.Path.{sym}
use lib.Seq.{length-take-le}
use Rattle.sheetcut.proofs.list_fronts.Goals as goal

pub slice_bounds-list_blocks-end : goal.slice_bounds-list_blocks-end
slice_bounds-list_blocks-end c = let H = c.requires in sym (length-take-le _ _ (omega (arith, H.few_particles, H.ample.points)))

pub slice_bounds-list_blocks-end-2 : goal.slice_bounds-list_blocks-end-2
slice_bounds-list_blocks-end-2 c = let H = c.requires in sym (length-take-le _ _ (omega (arith, H.few_particles, H.ample.roots)))

pub slice_bounds-list_blocks-end-3 : goal.slice_bounds-list_blocks-end-3
slice_bounds-list_blocks-end-3 c = let H = c.requires in sym (length-take-le _ _ (omega (arith, H.few_triangles, H.ample.corners)))

pub slice_bounds-list_blocks-end-4 : goal.slice_bounds-list_blocks-end-4
slice_bounds-list_blocks-end-4 c = let H = c.requires in sym (length-take-le _ _ (omega (arith, H.few_triangles, H.ample.volumes)))

pub slice_bounds-list_blocks-end-5 : goal.slice_bounds-list_blocks-end-5
slice_bounds-list_blocks-end-5 c = let H = c.requires in sym (length-take-le _ _ (omega (arith, H.few_edges, H.ample.ends)))

pub slice_bounds-list_blocks-end-6 : goal.slice_bounds-list_blocks-end-6
slice_bounds-list_blocks-end-6 c = let H = c.requires in sym (length-take-le _ _ (omega (arith, H.few_edges, H.ample.lengths)))

pub slice_bounds-list_blocks-end-7 : goal.slice_bounds-list_blocks-end-7
slice_bounds-list_blocks-end-7 c = let H = c.requires in sym (length-take-le _ _ (omega (arith, H.few_boundary, H.ample.outline)))
