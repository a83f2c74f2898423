-- Any two results of mending the same bytes agree: the answer, every byte of the sheet, and every byte of the text. Assumes nothing.
use Prim.Native.Nat.{ℕ, ◌<◌}
use mathlib.Core.Path.{◌≡◌, sym, ◌∙◌}
use mathlib.Core.List.{List}
use lib.ListN.{get_or}
use Rattle.sheet.proofs.Back.{bits_of_inj}
use Rattle.mender.specs.Answers.{MendDone}
use Rattle.std.specs.Prelude.{Result}
use Rattle.mender.specs.declared.Mended.{Mended}
use Rattle.mender.specs.declared.MendError.{MendError}

pub agree : (s : List ℕ) (a b : ℕ) (out out' said said' : List ℕ) (r r' : Result Mended MendError) → ((i : ℕ) → get_or out i 0 < 256) → ((i : ℕ) → get_or out' i 0 < 256)
    → MendDone s a b out said r → MendDone s a b out' said' r' → (r ≡ r') × (out ≡ out') × (said ≡ said')
agree s a b out out' said said' r r' h h' A B = (A.answer ∙ sym B.answer, bits_of_inj out out' h h' (A.bits ∙ sym B.bits), A.text ∙ sym B.text)
