-- `perform::calls::passed_by` meets its contract. Assumes nothing.
use mathlib.Core.Path.{◌∙◌, sym, ap}
use mathlib.Core.Bool.{Bool, ◌&&◌}
use borrow.Author.Rules.{rules}
use borrow.Author.Tests.{eq-eqb, ne_eqb}
use Rattle.perform.specs.Asks.{marks_tell_of}
use Rattle.perform.proofs.calls.passed_by.Goals as goal

pub returns-then-logged-eq0 : goal.returns-then-logged-eq0
returns-then-logged-eq0 c = let A = c.args in c.marks_tell.ensures ∙ sym (ap (λ (b : Bool). b && marks_tell_of A.rule A.kind) (eq-eqb _ 0 c.if-logged-eq0.true))

pub returns : goal.returns
returns c = let A = c.args in sym (ap (λ (b : Bool). b && marks_tell_of A.rule A.kind) (ne_eqb _ 0 c.if-logged-eq0.false))
