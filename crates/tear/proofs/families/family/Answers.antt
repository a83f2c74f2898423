use Prim.Native.Nat.{◌+◌, ◌-◌, ◌*◌, ◌≤◌}
use mathlib.Core.Path.{sym, ◌∙◌}
use lib.ListN.{length, length-set, set}
use native.Mathlib.Omega.{arith}
use mathlib.Core.Logic.{⊎_elim}
use lib.Seq.{length-take-le}
use Rattle.tear.proofs.FamilyLaws.{Gathering, gathering_again, gathering_in, gathering_out, gathering_done}
use borrow.Author.Rules.{rules}
use Rattle.tear.proofs.families.family.Goals as goal
use Rattle.tear.proofs.families.family.Goals.{else-has_source, then-has_source}

pub loop-i-init : goal.loop-i-init
loop-i-init c = let A = c.args in gathering_again A.a A.l A.log.now A.found.now (omega (arith, c.requires.room))

pub slice_bounds-has_source-end-in-loop-i : goal.slice_bounds-has_source-end-in-loop-i
slice_bounds-has_source-end-in-loop-i c = sym (length-take-le _ _ (omega (arith, c.loop-i.invariant.few, c.loop-i.invariant.long, length-set c.args.found.now 0 c.args.a, c.requires.room, c.loop-i-test.true)))

pub overflow_cast-found : goal.overflow_cast-found
overflow_cast-found c = omega (arith, c.shared_slice_known-then-has_source-1.given (6 * c.loop-i.i + 1))

pub loop-i-preserved : goal.loop-i-preserved
loop-i-preserved c = let A = c.args in
    let room : A.l + 1 ≤ length (set A.found.now 0 A.a) = omega (arith, c.requires.room, length-set A.found.now 0 A.a) in
    elim c.if-has_source.branch [
      | then-has_source w ↦ gathering_in _ _ _ _ _ _ _ c.loop-i.invariant c.loop-i-test.true room _ c.has_source.ensures w.if-has_source.true _ _ w.found-is w.r-is
      | else-has_source w ↦ gathering_out _ _ _ _ _ _ _ c.loop-i.invariant c.loop-i-test.true _ c.has_source.ensures w.if-has_source.false _ _ w.found-is w.r-is
    ]

pub shape_of-found : goal.shape_of-found
shape_of-found c = c.loop-i.invariant.long ∙ length-set c.args.found.now 0 c.args.a

pub returns : goal.returns
returns c = gathering_done _ _ _ _ _ _ _ c.loop-i.invariant (search rules)
