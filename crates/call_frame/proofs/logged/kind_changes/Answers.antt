-- `call_frame::logged::kind_changes` meets its contract: 1 or 3. Assumes nothing.
use mathlib.Core.Path.{refl, sym}
use borrow.Author.Tests.{eq-eqb, ne_eqb}
use Rattle.call_frame.proofs.logged.kind_changes.Goals as goal

-- `call_frame::logged::kind_changes` meets its contract: 1 or 3. Assumes nothing.
pub returns-then-kind-eq1 : goal.returns-then-kind-eq1
returns-then-kind-eq1 c = sym (rw (eq-eqb _ 1 c.if-kind-eq1.true) refl)

pub returns-else-kind-eq1 : goal.returns-else-kind-eq1
returns-else-kind-eq1 c = sym (rw (ne_eqb _ 1 c.if-kind-eq1.false) refl)
