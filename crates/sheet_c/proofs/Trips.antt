-- What was written is read: not replaced, with the blade and the mesh of the fields, and the outline of that mesh. Assumes nothing.
use Prim.Native.Nat.{ℕ}
use native.Mathlib.Omega.{arith}
use mathlib.Core.Path.{◌≡◌, sym, ap, ◌∙◌}
use mathlib.Core.Bool.{Bool, true, false}
use mathlib.Core.List.{List}
use lib.ListN.{length, take}
use borrow.Author.Tests.{ltb-false}
use Rattle.lists.specs.Lists.{pick}
use Rattle.model.specs.Reads.{value}
use Rattle.sheet.specs.Sheet.{Sheet, sheet_from, counts_in, most}
use Rattle.edition.specs.Edition.{SheetRead, bounded, own_of, bytes_in}
use Rattle.sheet_writing.specs.Writing.{columns_from, answer_of, WriteDone}
use Rattle.std.specs.Prelude.{Result}
use Rattle.mesh.specs.declared.refusals.Refusal.{Refusal}
use Rattle.edition.specs.declared.Seen.{Seen}
use Rattle.sheet_writing.proofs.Putting.{Good, good}
use Rattle.sheet_writing.proofs.Trips as E
use Rattle.sheet_c.specs.Sheets.{sheet_words, sheet_told, sheet_reply}
use Rattle.sheet_c.specs.Fields.{fields_fit_of, handed_in, write_answer, SheetWritten}

-- an answer of 0 is a writer's own
own_answer : (f : Bool) (n : ℕ) → 0 ≡ pick f n 1 → 0 ≡ n
own_answer true n e = e
own_answer false n e = absurd (omega arith)

module _ (s before after : List ℕ) (same : length after ≡ length before) (W : SheetWritten s before after 0) where
  -- the sheet of the fields
  abbrev fielded : Sheet
  fielded = sheet_from (columns_from (handed_in s))

  done : WriteDone (handed_in s) before after 0
  unfolding write_answer
  done = record { answer = own_answer (fields_fit_of s) (answer_of (columns_from (handed_in s)) (length before)) W.answer; bits = W.bits }

  pub written_told : sheet_reply (take (bytes_in true (counts_in (columns_from (handed_in s)))) after) ≡ value (sheet_words (record { sheet = bounded (own_of fielded) fielded; replaced = false }))
  unfolding sheet_reply
  written_told =
      let g : Good (columns_from (handed_in s)) (length before) = good (columns_from (handed_in s)) (length before) (sym done.answer) in
      let w = take (bytes_in true (counts_in (columns_from (handed_in s)))) after in
      ap (λ (x : Result Seen Refusal). sheet_told x w) (E.written_seen (handed_in s) before after same done most g.few (ltb-false _ _ g.short))
      ∙ ap (λ (x : SheetRead). value (sheet_words x)) (E.written_means (handed_in s) before after same done)
