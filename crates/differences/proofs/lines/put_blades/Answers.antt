-- `differences::lines::put_blades` meets its contract: no line where the blades are the same, else one with both. Assumes nothing.
use Rattle.differences.proofs.Writing.{lists_none, lists_line, line_without, blade_line}
use Rattle.listing.proofs.Appending.{appends_as}
use mathlib.Core.Path.{refl, sym, ◌∙◌}
use borrow.Author.Rules.{rules}
use Rattle.differences.proofs.lines.put_blades.Goals as goal

pub returns-then-same_four : goal.returns-then-same_four
returns-then-same_four c = lists_none _ _ _ _ (sym c.same_four.ensures ∙ c.if-same_four.true)

pub returns : goal.returns
returns c = lists_line _ _ _ _ _ _ (sym c.same_four.ensures ∙ c.if-same_four.false) (appends_as (line_without c.put_text-word.ensures c.put_four-first.ensures c.put_text-stroke.ensures c.put_four-second.ensures c.put_byte-end.ensures) (blade_line _ _)) refl
