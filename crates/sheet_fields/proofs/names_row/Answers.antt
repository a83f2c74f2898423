-- `sheet_fields::names_row` meets its contract. Assumes nothing.
use mathlib.Core.Path.{sym, ◌∙◌}
use Rattle.sheet.specs.Sheet.{row_ok}
use Rattle.sheet_fields.proofs.names_row.Goals as goal

pub returns-then-pair_ok-2 : goal.returns-then-pair_ok-2
unfolding row_ok
returns-then-pair_ok-2 c = let e1 = sym c.pair_ok.ensures ∙ c.if-pair_ok.true in let e2 = sym c.pair_ok-then-three.ensures ∙ c.if-pair_ok-2.true in c.pair_ok-then-pair_ok-2.ensures ∙ rw (e1, c.if-three.true, e2)

pub returns-else-pair_ok-2 : goal.returns-else-pair_ok-2
unfolding row_ok
returns-else-pair_ok-2 c = let e1 = sym c.pair_ok.ensures ∙ c.if-pair_ok.true in let e2 = sym c.pair_ok-then-three.ensures ∙ c.if-pair_ok-2.false in rw (e1, c.if-three.true, e2)

pub returns-else-three : goal.returns-else-three
unfolding row_ok
returns-else-three c = let e1 = sym c.pair_ok.ensures ∙ c.if-pair_ok.true in rw (e1, c.if-three.false)

pub returns-else-pair_ok : goal.returns-else-pair_ok
unfolding row_ok
returns-else-pair_ok c = let e1 = sym c.pair_ok.ensures ∙ c.if-pair_ok.false in rw e1
