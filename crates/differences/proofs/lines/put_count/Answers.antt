-- `differences::lines::put_count` meets its contract: no line where the counts are equal, else one with both. Assumes nothing.
use Rattle.differences.proofs.Writing.{lists_none, lists_line, line_of_lem, count_line}
use Rattle.listing.proofs.Appending.{appends_as}
use borrow.Author.Tests.{eq-eqb, ne_eqb}
use mathlib.Core.Path.{refl}
use borrow.Author.Rules.{rules}
use Rattle.differences.proofs.lines.put_count.Goals as goal

-- `differences::lines::put_count` meets its contract: no line where the counts are equal, else one with both. Assumes nothing.
pub returns-then-m-n : goal.returns-then-m-n
returns-then-m-n c = lists_none _ _ _ _ (eq-eqb _ _ c.if-m-n.true)

pub returns : goal.returns
returns c = lists_line _ _ _ _ _ _ (ne_eqb _ _ c.if-m-n.false) (appends_as (line_of_lem c.put_text-word.ensures c.put_name-name.ensures c.put_plain-first.ensures c.put_text-stroke.ensures c.put_plain-second.ensures c.put_byte-end.ensures) (count_line _ _ _)) refl
