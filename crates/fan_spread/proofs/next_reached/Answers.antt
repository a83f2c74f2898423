-- `fan_spread::next_reached` meets its contract. The invariant: none of those passed has the label. Assumes nothing.
use native.Mathlib.Omega.{arith}
use native.Mathlib.Decide.{ℕ_discrete}
use mathlib.Core.Path.{sym, ◌∙◌}
use Rattle.lists.proofs.Stores.{at_eq}
use Rattle.fan_spread.proofs.next_reached.Goals as goal

pub loop-a-init : goal.loop-a-init
loop-a-init c = (omega arith, λ b l m e. omega arith)

pub returns-then-table-a : goal.returns-then-table-a
returns-then-table-a c = record { has = λ l. c.if-table-a.true; none = λ m. absurd (omega arith) }

pub loop-a-preserved : goal.loop-a-preserved
loop-a-preserved c =
    let L = c.loop-a in
    let A = c.args in
    (omega arith, λ b l m e. elim (ℕ_discrete b L.a) [ yes d ↦ c.if-table-a.false (at_eq A.table.now (sym d) ∙ e) | no n ↦ L.invariant.1 b l (omega arith) e ])

pub returns : goal.returns
returns c =
    let L = c.loop-a in
    record { has = λ l. absurd (omega arith); none = λ m b l k e. L.invariant.1 b l (omega arith) e }
