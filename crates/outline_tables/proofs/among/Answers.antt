-- `outline::among` meets its contract. Assumes nothing.
use Rattle.outline_tables.proofs.Comparing.{among_here, among_on, among_none}
use Rattle.outline_tables.specs.Rows.{sides_at}
use Rattle.outline.specs.Outline.{same_pair}
use Rattle.lists.specs.Lists.{any}
use mathlib.Core.Bool.{false}
use mathlib.Core.List.{[], ◌∷◌}
use native.Mathlib.Omega.{arith}
use mathlib.Core.Path.{◌≡◌, sym, subst}
use Prim.Native.Nat.{ℕ}
use Rattle.outline_tables.proofs.among.Goals as goal

pub loop-i-init : goal.loop-i-init
loop-i-init c = let a = c.args in (omega arith, among_none (a.x ∷ a.y ∷ []) a.q.now)

pub returns-then-same_pair : goal.returns-then-same_pair
returns-then-same_pair c = let a = c.args in let l = c.loop-i in among_here (a.x ∷ a.y ∷ []) a.q.now l.i a.m c.same_pair.result (omega arith) c.same_pair.ensures c.if-same_pair.true

pub loop-i-preserved : goal.loop-i-preserved
loop-i-preserved c = let a = c.args in let l = c.loop-i in (omega arith, among_on (a.x ∷ a.y ∷ []) a.q.now l.i c.same_pair.result l.invariant.1 c.same_pair.ensures c.if-same_pair.false)

pub returns : goal.returns
returns c = let a = c.args in let l = c.loop-i in let e : l.i ≡ a.m = omega arith in sym (subst (λ (k : ℕ). any (same_pair (a.x ∷ a.y ∷ [])) (sides_at k a.q.now) ≡ false) e l.invariant.1)
