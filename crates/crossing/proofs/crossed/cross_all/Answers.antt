-- `crossing::crossed::cross_all` meets its contract. The invariant: the crossings so far are done, no room lacked, the table is that of the edges, and the lent blocks are as long as they were. Assumes nothing.
use Rattle.std.proofs.lemmas.Result.{err_from_is_err_and}
use Rattle.crossing.proofs.CrossedRuns.{CrossedTo, on_start, on_room, on_number, on_step, on_stop, on_done}
use Rattle.mesh.proofs.Agree.{lent_path}
use Rattle.mesh.specs.Given.{Lent}
use Prim.Native.Nat.{◌-◌}
use mathlib.Core.Path.{◌≡◌, refl, ap, subst, ◌∙◌, sym}
use lib.ListN.{length}
use Rattle.links.specs.Linked.{EdgesLinked}
use Rattle.insert.specs.Tables.{EdgesAfter}
use borrow.Author.Rules.{rules}
use native.Mathlib.Omega.{arith}
use Rattle.crossing.proofs.crossed.cross_all.Goals as goal

pub loop-i-init : goal.loop-i-init
loop-i-init c = (on_start _ _ _ _ _ _ _ _ _ _ _ _ _ _ c.requires.0 c.requires.1, c.requires.2, refl)

pub cross-requires : goal.cross-requires
cross-requires c = let P = c.requires in let L = c.loop-i.invariant.0 in
    (on_room _ _ _ _ _ _ _ _ _ _ _ _ _ _ P.0 P.1 _ _ _ _ _ _ _ _ _ _ L, on_number _ _ _ _ _ _ _ _ _ _ _ _ _ _ P.0 P.1 _ _ _ _ _ _ _ _ _ _ L c.loop-i-test.true, c.loop-i.invariant.1)

pub shape_of-points-in_err-next : goal.shape_of-points-in_err-next
shape_of-points-in_err-next c = c.cross.auto.points ∙ ap (λ (I : Lent). I.points) c.loop-i.invariant.0.same

pub shape_of-roots-in_err-next : goal.shape_of-roots-in_err-next
shape_of-roots-in_err-next c = c.cross.auto.roots ∙ ap (λ (I : Lent). I.roots) c.loop-i.invariant.0.same

pub shape_of-ends-in_err-next : goal.shape_of-ends-in_err-next
shape_of-ends-in_err-next c = c.cross.auto.ends ∙ ap (λ (I : Lent). I.ends) c.loop-i.invariant.0.same

pub shape_of-lengths-in_err-next : goal.shape_of-lengths-in_err-next
shape_of-lengths-in_err-next c = c.cross.auto.lengths ∙ ap (λ (I : Lent). I.lengths) c.loop-i.invariant.0.same

pub shape_of-outline-in_err-next : goal.shape_of-outline-in_err-next
shape_of-outline-in_err-next c = c.cross.auto.outline ∙ ap (λ (I : Lent). I.outline) c.loop-i.invariant.0.same

pub shape_of-log-in_err-next : goal.shape_of-log-in_err-next
shape_of-log-in_err-next c = c.cross.auto.log ∙ ap (λ (I : Lent). I.log) c.loop-i.invariant.0.same

pub shape_of-bends-in_err-next : goal.shape_of-bends-in_err-next
shape_of-bends-in_err-next c = c.cross.auto.bends ∙ c.loop-i.invariant.0.same_bends

pub shape_of-snapped-in_err-next : goal.shape_of-snapped-in_err-next
shape_of-snapped-in_err-next c = c.cross.auto.snapped ∙ c.loop-i.invariant.0.same_snapped

pub shape_of-table-in_err-next : goal.shape_of-table-in_err-next
shape_of-table-in_err-next c = c.cross.auto.table ∙ c.loop-i.invariant.2

pub returns-in_err-next : goal.returns-in_err-next
returns-in_err-next c = let p = err_from_is_err_and c.from_residual.result c.from_residual.ensures.1 in rw (p.1, p.2, sym c.in_err-next.was) (on_stop _ _ _ _ _ _ _ _ _ _ _ _ _ _ c.requires.0 c.requires.1 _ _ _ _ _ _ _ _ _ _ c.loop-i.invariant.0 _ _ _ _ _ _ _ _ _ c.cross.ensures.0 _ c.in_err-next.was c.loop-i-test.true, tt)

pub loop-i-preserved : goal.loop-i-preserved
loop-i-preserved c = (on_step _ _ _ _ _ _ _ _ _ _ _ _ _ _ c.requires.0 c.requires.1 _ _ _ _ _ _ _ _ _ _ c.loop-i.invariant.0 _ _ _ _ _ _ _ _ _ c.cross.ensures.0 _ c.in_ok-next.was c.loop-i-test.true (lent_path _ _ c.cross.auto.points c.cross.auto.roots refl refl c.cross.auto.ends c.cross.auto.lengths c.cross.auto.outline c.cross.auto.log) c.cross.auto.bends c.cross.auto.snapped, subst (EdgesAfter _ _) c.in_ok-next.was c.cross.ensures.1, c.cross.auto.table ∙ c.loop-i.invariant.2)

pub shape_of-points : goal.shape_of-points
shape_of-points c = ap (λ (I : Lent). I.points) c.loop-i.invariant.0.same

pub shape_of-roots : goal.shape_of-roots
shape_of-roots c = ap (λ (I : Lent). I.roots) c.loop-i.invariant.0.same

pub shape_of-ends : goal.shape_of-ends
shape_of-ends c = ap (λ (I : Lent). I.ends) c.loop-i.invariant.0.same

pub shape_of-lengths : goal.shape_of-lengths
shape_of-lengths c = ap (λ (I : Lent). I.lengths) c.loop-i.invariant.0.same

pub shape_of-outline : goal.shape_of-outline
shape_of-outline c = ap (λ (I : Lent). I.outline) c.loop-i.invariant.0.same

pub shape_of-log : goal.shape_of-log
shape_of-log c = ap (λ (I : Lent). I.log) c.loop-i.invariant.0.same

pub shape_of-bends : goal.shape_of-bends
shape_of-bends c = c.loop-i.invariant.0.same_bends

pub shape_of-snapped : goal.shape_of-snapped
shape_of-snapped c = c.loop-i.invariant.0.same_snapped

pub shape_of-table : goal.shape_of-table
shape_of-table c = c.loop-i.invariant.2

pub returns : goal.returns
returns c = (on_done _ _ _ _ _ _ _ _ _ _ _ _ _ _ c.requires.0 c.requires.1 _ _ _ _ _ _ _ _ _ _ c.loop-i.invariant.0 (omega arith), c.loop-i.invariant.1)
