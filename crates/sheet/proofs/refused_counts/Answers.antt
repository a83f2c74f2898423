-- `sheet::refused_counts` meets its contract. Assumes nothing.
use mathlib.Core.Path.{◌∙◌, sym}
use Rattle.sheet.proofs.refused_counts.Goals as goal

pub returns-then-too_many : goal.returns-then-too_many
returns-then-too_many c = let m = sym c.too_many.ensures ∙ c.if-too_many.true in rw m

pub returns : goal.returns
returns c = let m = sym c.too_many.ensures ∙ c.if-too_many.false in c.exceeds.ensures ∙ rw m
