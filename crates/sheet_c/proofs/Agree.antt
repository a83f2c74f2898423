-- Any two writings of the same fields into as many bytes agree, in the answer and in every byte. Assumes nothing.
use Prim.Native.Nat.{ℕ, ◌*◌, ◌<◌}
use mathlib.Core.Path.{◌≡◌, sym, ap, ◌∙◌}
use mathlib.Core.List.{List}
use lib.ListN.{length, get_or}
use Rattle.lists.specs.Lists.{padded}
use Rattle.sheet.specs.Sheet.{sheet_from}
use Rattle.sheet.proofs.Back.{bits_of_inj}
use Rattle.sheet_writing.specs.Writing.{columns_from, put_of}
use Rattle.sheet_c.specs.Fields.{handed_in, SheetWritten}

pub written_agree : (s before after after' : List ℕ) (r r' : ℕ) → ((i : ℕ) → get_or after i 0 < 256) → ((i : ℕ) → get_or after' i 0 < 256)
    → SheetWritten s before after r → SheetWritten s before after' r' → (r ≡ r') × (after ≡ after')
written_agree s before after after' r r' small small' A B =
    let z : r ≡ r' = A.answer ∙ sym B.answer in
    (z, bits_of_inj after after' small small' (A.bits ∙ (ap (λ (x : ℕ). padded (8 * length before) 0 (put_of x (sheet_from (columns_from (handed_in s))))) z ∙ sym B.bits)))
