-- `perform::calls::work` meets its contract: the kind of the mesh, and the worker of each job. Assumes nothing.
use mathlib.Core.Path.{refl, ◌∙◌}
use Prim.Native.Nat.{ℕ}
use lib.ListN.{length-set}
use native.Mathlib.Omega.{arith}
use Rattle.mesh_calls.specs.declared.Job.TheVariants.{Straddlers, Split, Cut, Crack}
use Rattle.perform.proofs.Worked.{straddlers_room, parts_unlisted, job_works, split_given, cut_ruled}
use borrow.Author.Rules.{rules}
use Rattle.perform.proofs.calls.work.Goals as goal

pub kind_of-kind-requires : goal.kind_of-kind-requires
kind_of-kind-requires c = let P = c.requires.0 in omega (arith, c.requires.0.counts.edges, c.requires.0.rooms.ends)

pub remove_straddlers-requires : goal.remove_straddlers-requires
remove_straddlers-requires c = let A = c.args in straddlers_room A.k A.room A.points.now A.roots.now A.corners.now A.volumes.now A.ends.now A.lengths.now A.outline.now A.log.now c.requires.0

pub split_by_sides-requires : goal.split_by_sides-requires
split_by_sides-requires c = let A = c.args in (c.requires.0, split_given A.k A.room A.points.now A.roots.now A.corners.now A.volumes.now A.ends.now A.lengths.now A.outline.now A.log.now A.job (Split _) c.in-Split.is A.list.now _ c.kind_of-kind.ensures _ refl c.requires.2, omega (arith, length-set A.gone.now 2048 0, c.requires.3))

pub cut_marked-ran-requires : goal.cut_marked-ran-requires
cut_marked-ran-requires c = let A = c.args in (c.requires.0, c.requires.1, omega (arith, length-set A.gone.now 2048 0, c.requires.3))

pub bounds-gone-2048-in-Cut : goal.bounds-gone-2048-in-Cut
bounds-gone-2048-in-Cut c = let A = c.args in omega (arith, length-set A.gone.now 2048 0, c.requires.3, c.cut_marked-ran.auto.list)

pub crack_body-requires : goal.crack_body-requires
crack_body-requires c = (c.requires.0, c.requires.1)

pub shape_of-ends-in-Straddlers : goal.shape_of-ends-in-Straddlers
shape_of-ends-in-Straddlers c = c.remove_straddlers.auto.ends

pub shape_of-lengths-in-Straddlers : goal.shape_of-lengths-in-Straddlers
shape_of-lengths-in-Straddlers c = c.remove_straddlers.auto.lengths

pub shape_of-outline-in-Straddlers : goal.shape_of-outline-in-Straddlers
shape_of-outline-in-Straddlers c = c.remove_straddlers.auto.outline

pub shape_of-log-in-Straddlers : goal.shape_of-log-in-Straddlers
shape_of-log-in-Straddlers c = c.remove_straddlers.auto.log

pub shape_of-gone-in-Straddlers : goal.shape_of-gone-in-Straddlers
shape_of-gone-in-Straddlers c = length-set c.args.gone.now 2048 0

pub returns-in-Straddlers : goal.returns-in-Straddlers
returns-in-Straddlers c = let A = c.args in let P = c.requires in parts_unlisted A.k A.room A.points.now A.roots.now A.corners.now A.volumes.now A.ends.now A.lengths.now A.outline.now A.log.now P.0 P.1 _ _ _ _ _ _ _ A.gone.now _ P.3 c.remove_straddlers.auto.ends c.remove_straddlers.auto.lengths
    (job_works A.k A.room A.points.now A.roots.now A.corners.now A.volumes.now A.ends.now A.lengths.now A.outline.now A.log.now A.job Straddlers c.in-Straddlers.is A.list.now _ c.kind_of-kind.ensures (c.remove_straddlers.ensures.works A.points.now A.roots.now))

pub shape_of-points-in-Split : goal.shape_of-points-in-Split
shape_of-points-in-Split c = c.split_by_sides.auto.points

pub shape_of-roots-in-Split : goal.shape_of-roots-in-Split
shape_of-roots-in-Split c = c.split_by_sides.auto.roots

pub shape_of-corners-in-Split : goal.shape_of-corners-in-Split
shape_of-corners-in-Split c = c.split_by_sides.auto.corners

pub shape_of-ends-in-Split : goal.shape_of-ends-in-Split
shape_of-ends-in-Split c = c.split_by_sides.auto.ends

pub shape_of-lengths-in-Split : goal.shape_of-lengths-in-Split
shape_of-lengths-in-Split c = c.split_by_sides.auto.lengths

pub shape_of-outline-in-Split : goal.shape_of-outline-in-Split
shape_of-outline-in-Split c = c.split_by_sides.auto.outline

pub shape_of-log-in-Split : goal.shape_of-log-in-Split
shape_of-log-in-Split c = c.split_by_sides.auto.log

pub shape_of-gone-in-Split : goal.shape_of-gone-in-Split
shape_of-gone-in-Split c = c.split_by_sides.auto.list ∙ length-set c.args.gone.now 2048 0

pub returns-in-Split : goal.returns-in-Split
returns-in-Split c = let A = c.args in (job_works A.k A.room A.points.now A.roots.now A.corners.now A.volumes.now A.ends.now A.lengths.now A.outline.now A.log.now A.job (Split _) c.in-Split.is A.list.now _ c.kind_of-kind.ensures c.split_by_sides.ensures.0, c.split_by_sides.ensures.1)

pub shape_of-points-in-Cut : goal.shape_of-points-in-Cut
shape_of-points-in-Cut c = c.cut_marked-ran.auto.points

pub shape_of-roots-in-Cut : goal.shape_of-roots-in-Cut
shape_of-roots-in-Cut c = c.cut_marked-ran.auto.roots

pub shape_of-corners-in-Cut : goal.shape_of-corners-in-Cut
shape_of-corners-in-Cut c = c.cut_marked-ran.auto.corners

pub shape_of-ends-in-Cut : goal.shape_of-ends-in-Cut
shape_of-ends-in-Cut c = c.cut_marked-ran.auto.ends

pub shape_of-lengths-in-Cut : goal.shape_of-lengths-in-Cut
shape_of-lengths-in-Cut c = c.cut_marked-ran.auto.lengths

pub shape_of-outline-in-Cut : goal.shape_of-outline-in-Cut
shape_of-outline-in-Cut c = c.cut_marked-ran.auto.outline

pub shape_of-log-in-Cut : goal.shape_of-log-in-Cut
shape_of-log-in-Cut c = c.cut_marked-ran.auto.log

pub shape_of-gone-in-Cut : goal.shape_of-gone-in-Cut
shape_of-gone-in-Cut c = let A = c.args in length-set {A = ℕ} c.cut_marked-ran.new.list 2048 0 ∙ c.cut_marked-ran.auto.list ∙ length-set A.gone.now 2048 0

pub returns-in-Cut : goal.returns-in-Cut
returns-in-Cut c = let A = c.args in let P = c.requires in let K = c.cut_marked-ran.auto in parts_unlisted A.k A.room A.points.now A.roots.now A.corners.now A.volumes.now A.ends.now A.lengths.now A.outline.now A.log.now P.0 P.1 _ _ _ _ _ _ _ c.cut_marked-ran.new.list _ (omega (arith, length-set A.gone.now 2048 0, P.3, K.list)) c.cut_marked-ran.auto.ends c.cut_marked-ran.auto.lengths
    (job_works A.k A.room A.points.now A.roots.now A.corners.now A.volumes.now A.ends.now A.lengths.now A.outline.now A.log.now A.job (Cut _ _ _ _) c.in-Cut.is A.list.now _ c.kind_of-kind.ensures (cut_ruled _ _ c.in-Cut.edition _ _ _ c.rule_in.ensures c.cut_marked-ran.ensures))

pub shape_of-points-in-Crack : goal.shape_of-points-in-Crack
shape_of-points-in-Crack c = c.crack_body.auto.points

pub shape_of-roots-in-Crack : goal.shape_of-roots-in-Crack
shape_of-roots-in-Crack c = c.crack_body.auto.roots

pub shape_of-corners-in-Crack : goal.shape_of-corners-in-Crack
shape_of-corners-in-Crack c = c.crack_body.auto.corners

pub shape_of-ends-in-Crack : goal.shape_of-ends-in-Crack
shape_of-ends-in-Crack c = c.crack_body.auto.ends

pub shape_of-lengths-in-Crack : goal.shape_of-lengths-in-Crack
shape_of-lengths-in-Crack c = c.crack_body.auto.lengths

pub shape_of-outline-in-Crack : goal.shape_of-outline-in-Crack
shape_of-outline-in-Crack c = c.crack_body.auto.outline

pub shape_of-log-in-Crack : goal.shape_of-log-in-Crack
shape_of-log-in-Crack c = c.crack_body.auto.log

pub shape_of-gone-in-Crack : goal.shape_of-gone-in-Crack
shape_of-gone-in-Crack c = length-set c.args.gone.now 2048 0

pub returns-in-Crack : goal.returns-in-Crack
returns-in-Crack c = let A = c.args in let P = c.requires in parts_unlisted A.k A.room A.points.now A.roots.now A.corners.now A.volumes.now A.ends.now A.lengths.now A.outline.now A.log.now P.0 P.1 _ _ _ _ _ _ _ A.gone.now _ P.3 c.crack_body.auto.ends c.crack_body.auto.lengths
    (job_works A.k A.room A.points.now A.roots.now A.corners.now A.volumes.now A.ends.now A.lengths.now A.outline.now A.log.now A.job (Crack _) c.in-Crack.is A.list.now _ c.kind_of-kind.ensures c.crack_body.ensures)
