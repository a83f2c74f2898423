-- `sheet_fronts::read_fronts` meets its contract: the sheet is read into the fronts, which are exact. Assumes nothing.
use native.Mathlib.Omega.{arith}
use mathlib.Core.Path.{sym}
use lib.ListN.{drop, replicate}
use Prim.Native.Nat.{◌*◌}
use lib.Seq.{length-take-le}
use Rattle.mesh.specs.Widths.{point_columns}
use Rattle.sheet_fronts.proofs.Reading.{seen_few, front_long, exact_fronts, fronts_read}
use Rattle.sheet_fronts.proofs.read_fronts.Goals as goal

-- `sheet_fronts::read_fronts` meets its contract: the sheet is read into the fronts, which are exact. Assumes nothing.
pub overflow_mul-p : goal.overflow_mul-p
overflow_mul-p c = let F = seen_few _ _ _ c.requires.seen in let A = c.requires.ample in omega (arith, F.particles)

pub overflow_mul-r : goal.overflow_mul-r
overflow_mul-r c = let F = seen_few _ _ _ c.requires.seen in let A = c.requires.ample in omega (arith, F.particles)

pub overflow_mul-t : goal.overflow_mul-t
overflow_mul-t c = let F = seen_few _ _ _ c.requires.seen in let A = c.requires.ample in omega (arith, F.triangles)

pub overflow_mul-v : goal.overflow_mul-v
overflow_mul-v c = let F = seen_few _ _ _ c.requires.seen in let A = c.requires.ample in omega (arith, F.triangles)

pub overflow_mul-e : goal.overflow_mul-e
overflow_mul-e c = let F = seen_few _ _ _ c.requires.seen in let A = c.requires.ample in omega (arith, F.edges)

pub overflow_mul-o : goal.overflow_mul-o
overflow_mul-o c = let F = seen_few _ _ _ c.requires.seen in let A = c.requires.ample in omega (arith, F.boundary)

pub slice_bounds-read-end : goal.slice_bounds-read-end
slice_bounds-read-end c = let F = seen_few _ _ _ c.requires.seen in let A = c.requires.ample in omega (arith, F.particles, c.requires.ample.points)

pub slice_bounds-read-end-2 : goal.slice_bounds-read-end-2
slice_bounds-read-end-2 c = let F = seen_few _ _ _ c.requires.seen in let A = c.requires.ample in sym (length-take-le _ _ (omega (arith, F.particles, c.requires.ample.points)))

pub slice_bounds-read-end-3 : goal.slice_bounds-read-end-3
slice_bounds-read-end-3 c = let F = seen_few _ _ _ c.requires.seen in let A = c.requires.ample in omega (arith, F.particles, c.requires.ample.roots)

pub slice_bounds-read-end-4 : goal.slice_bounds-read-end-4
slice_bounds-read-end-4 c = let F = seen_few _ _ _ c.requires.seen in let A = c.requires.ample in sym (length-take-le _ _ (omega (arith, F.particles, c.requires.ample.roots)))

pub slice_bounds-read-end-5 : goal.slice_bounds-read-end-5
slice_bounds-read-end-5 c = let F = seen_few _ _ _ c.requires.seen in let A = c.requires.ample in omega (arith, F.triangles, c.requires.ample.corners)

pub slice_bounds-read-end-6 : goal.slice_bounds-read-end-6
slice_bounds-read-end-6 c = let F = seen_few _ _ _ c.requires.seen in let A = c.requires.ample in sym (length-take-le _ _ (omega (arith, F.triangles, c.requires.ample.corners)))

pub slice_bounds-read-end-7 : goal.slice_bounds-read-end-7
slice_bounds-read-end-7 c = let F = seen_few _ _ _ c.requires.seen in let A = c.requires.ample in omega (arith, F.triangles, c.requires.ample.volumes)

pub slice_bounds-read-end-8 : goal.slice_bounds-read-end-8
slice_bounds-read-end-8 c = let F = seen_few _ _ _ c.requires.seen in let A = c.requires.ample in sym (length-take-le _ _ (omega (arith, F.triangles, c.requires.ample.volumes)))

pub slice_bounds-read-end-9 : goal.slice_bounds-read-end-9
slice_bounds-read-end-9 c = let F = seen_few _ _ _ c.requires.seen in let A = c.requires.ample in omega (arith, F.edges, c.requires.ample.ends)

pub slice_bounds-read-end-10 : goal.slice_bounds-read-end-10
slice_bounds-read-end-10 c = let F = seen_few _ _ _ c.requires.seen in let A = c.requires.ample in sym (length-take-le _ _ (omega (arith, F.edges, c.requires.ample.ends)))

pub slice_bounds-read-end-11 : goal.slice_bounds-read-end-11
slice_bounds-read-end-11 c = let F = seen_few _ _ _ c.requires.seen in let A = c.requires.ample in omega (arith, F.edges, c.requires.ample.lengths)

pub slice_bounds-read-end-12 : goal.slice_bounds-read-end-12
slice_bounds-read-end-12 c = let F = seen_few _ _ _ c.requires.seen in let A = c.requires.ample in sym (length-take-le _ _ (omega (arith, F.edges, c.requires.ample.lengths)))

pub slice_bounds-read-end-13 : goal.slice_bounds-read-end-13
slice_bounds-read-end-13 c = let F = seen_few _ _ _ c.requires.seen in let A = c.requires.ample in omega (arith, F.boundary, c.requires.ample.outline)

pub slice_bounds-read-end-14 : goal.slice_bounds-read-end-14
slice_bounds-read-end-14 c = let F = seen_few _ _ _ c.requires.seen in let A = c.requires.ample in sym (length-take-le _ _ (omega (arith, F.boundary, c.requires.ample.outline)))

pub shape_of-points : goal.shape_of-points
shape_of-points c = let A = c.args in front_long (point_columns * A.c.particles) A.points.now c.read.new.points c.read.auto.points

pub shape_of-roots : goal.shape_of-roots
shape_of-roots c = let A = c.args in front_long (2 * A.c.particles) A.roots.now c.read.new.roots c.read.auto.roots

pub shape_of-corners : goal.shape_of-corners
shape_of-corners c = let A = c.args in front_long (3 * A.c.triangles) A.corners.now c.read.new.corners c.read.auto.corners

pub shape_of-volumes : goal.shape_of-volumes
shape_of-volumes c = let A = c.args in front_long (2 * A.c.triangles) A.volumes.now c.read.new.volumes c.read.auto.volumes

pub shape_of-ends : goal.shape_of-ends
shape_of-ends c = let A = c.args in front_long (4 * A.c.edges) A.ends.now c.read.new.ends c.read.auto.ends

pub shape_of-lengths : goal.shape_of-lengths
shape_of-lengths c = let A = c.args in front_long (4 * A.c.edges) A.lengths.now c.read.new.lengths c.read.auto.lengths

pub shape_of-outline : goal.shape_of-outline
shape_of-outline c = let A = c.args in front_long (2 * A.c.boundary) A.outline.now c.read.new.outline c.read.auto.outline

pub shape_of-blade : goal.shape_of-blade
shape_of-blade c = c.read.auto.blade

pub returns : goal.returns
returns c =
    let H = c.requires in
    let A = c.args in
    let Q = c.read in
    fronts_read A.sheet.now A.c _ Q.result Q.new.points Q.new.roots Q.new.corners Q.new.volumes Q.new.ends Q.new.lengths Q.new.outline Q.new.log A.blade.now Q.new.blade Q.ensures H.seen
    (exact_fronts A.c A.points.now A.roots.now A.corners.now A.volumes.now A.ends.now A.lengths.now A.outline.now (replicate 6 0) (seen_few _ _ _ H.seen) H.ample) H.four (drop (point_columns * A.c.particles) A.points.now) (drop (2 * A.c.particles) A.roots.now) (drop (3 * A.c.triangles) A.corners.now) (drop (2 * A.c.triangles) A.volumes.now) (drop (4 * A.c.edges) A.ends.now) (drop (4 * A.c.edges) A.lengths.now) (drop (2 * A.c.boundary) A.outline.now)
