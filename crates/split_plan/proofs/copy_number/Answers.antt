-- `split_plan::copy_number` meets its contract: by cases of the group. Assumes nothing.
use borrow.Author.Tests.{eq-eqb, ne_eqb}
use native.Mathlib.Omega.{arith}
use mathlib.Core.Logic.{⊎_elim, inl, inr}
use mathlib.Core.Path.{refl}
use Rattle.split_plan.proofs.copy_number.Goals as goal

-- `split_plan::copy_number` meets its contract: by cases of the group. Assumes nothing.
pub returns-then-g-eq0 : goal.returns-then-g-eq0
returns-then-g-eq0 c = record { is = λ w. rw (eq-eqb _ _ c.if-g-eq0.true); among = inl refl }

pub returns-then-g-count : goal.returns-then-g-count
returns-then-g-count c = record { is = λ w. rw (ne_eqb _ _ c.if-g-eq0.false); among = inr (omega (arith, c.if-g-eq0.false), omega (arith, c.if-g-eq0.false, c.if-g-count.true)) }

pub returns : goal.returns
returns c = record { is = λ w. absurd (⊎_elim (λ e. c.if-g-eq0.false e) (λ l. omega arith) w); among = inl refl }
