-- `differences::lines::put_place` meets its contract: no line where the readings are the same, else one with both. Assumes nothing.
use Rattle.differences.proofs.Writing.{lists_none, lists_line, line_of_lem, place_line}
use Rattle.differences.specs.Work.{place_differs}
use Rattle.listing.proofs.Appending.{appends_as}
use mathlib.Core.Path.{refl, sym, ◌∙◌}
use native.Mathlib.Omega.{arith}
use borrow.Author.Rules.{rules}
use Rattle.differences.proofs.lines.put_place.Goals as goal

pub returns-then-same_reading : goal.returns-then-same_reading
unfolding place_differs
returns-then-same_reading c = lists_none _ _ _ _ (sym c.same_reading.ensures ∙ c.if-same_reading.true)

pub returns : goal.returns
unfolding place_differs
returns c = lists_line _ _ _ _ _ _ (sym c.same_reading.ensures ∙ c.if-same_reading.false) (appends_as (line_of_lem c.put_word-word.ensures c.put_plain-number.ensures c.put_reading-first.ensures c.put_text-stroke.ensures c.put_reading-second.ensures c.put_byte-end.ensures) (place_line _ _ _ _)) refl
