-- What a writing leaves open is nothing: any two outcomes that the statement allows are equal, in every byte. Assumes nothing.
use Prim.Native.Nat.{ℕ, ◌*◌, ◌<◌}
use mathlib.Core.Path.{◌≡◌, refl, sym, ap, ◌∙◌}
use mathlib.Core.List.{List}
use lib.ListN.{length, get_or}
use Rattle.std.specs.Prelude.{Result, Ok, Err}
use Rattle.mesh.specs.Refused.{refusal_in}
use Rattle.mesh.specs.declared.refusals.Refusal.{Refusal}
use Rattle.mesh.proofs.Refused.{number_tells, refused_some}
use Rattle.lists.specs.Lists.{padded}
use Rattle.sheet.specs.Sheet.{sheet_from}
use Rattle.sheet.proofs.Back.{bits_of_inj}
use Rattle.sheet_writing.specs.Writing.{Handed, columns_from, put_of, WriteDone}

-- two answers without a value that tell one number are one
refusal_tells : (r r' : Result (Unit {0}) Refusal) → refusal_in r ≡ refusal_in r' → r ≡ r'
refusal_tells (Ok a) (Ok b) e = refl
refusal_tells (Ok a) (Err d) e = absurd (refused_some d (sym e))
refusal_tells (Err d) (Ok a) e = absurd (refused_some d e)
refusal_tells (Err d) (Err f) e = ap Err (number_tells d f e)

-- two writings of the same columns into as many bytes
pub write_agree :
    (k : Handed) (before after after' : List ℕ) (r r' : ℕ) → ((i : ℕ) → get_or after i 0 < 256) → ((i : ℕ) → get_or after' i 0 < 256)
    → WriteDone k before after r → WriteDone k before after' r' → (r ≡ r') × (after ≡ after')
write_agree k before after after' r r' small small' f h =
    let z : r ≡ r' = f.answer ∙ sym h.answer in
    (z, bits_of_inj after after' small small' (f.bits ∙ (ap (λ (x : ℕ). padded (8 * length before) 0 (put_of x (sheet_from (columns_from k)))) z ∙ sym h.bits)))

-- the same of what `write` answers
pub write_answers_agree :
    (k : Handed) (before after after' : List ℕ) (r r' : Result (Unit {0}) Refusal) → ((i : ℕ) → get_or after i 0 < 256) → ((i : ℕ) → get_or after' i 0 < 256)
    → WriteDone k before after (refusal_in r) → WriteDone k before after' (refusal_in r') → (r ≡ r') × (after ≡ after')
write_answers_agree k before after after' r r' small small' f h =
    let one = write_agree k before after after' (refusal_in r) (refusal_in r') small small' f h in
    (refusal_tells r r' one.0, one.1)
