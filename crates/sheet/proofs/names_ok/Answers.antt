-- `sheet::names_ok` meets its contract. Assumes nothing.
use mathlib.Core.Path.{◌∙◌, sym}
use Rattle.sheet.proofs.names_ok.Goals as goal

pub returns-then-rows_ok-2 : goal.returns-then-rows_ok-2
returns-then-rows_ok-2 c = let e1 = sym c.rows_ok.ensures ∙ c.if-rows_ok.true in let e2 = sym c.rows_ok-then-rows_ok.ensures ∙ c.if-rows_ok-2.true in c.rows_ok-then-rows_ok-2.ensures ∙ rw (e1, e2)

pub returns-else-rows_ok-2 : goal.returns-else-rows_ok-2
returns-else-rows_ok-2 c = let e1 = sym c.rows_ok.ensures ∙ c.if-rows_ok.true in let e2 = sym c.rows_ok-then-rows_ok.ensures ∙ c.if-rows_ok-2.false in rw (e1, e2)

pub returns-else-rows_ok : goal.returns-else-rows_ok
returns-else-rows_ok c = let e1 = sym c.rows_ok.ensures ∙ c.if-rows_ok.false in rw e1
