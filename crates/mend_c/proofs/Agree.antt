-- Any two replies to the same bytes agree. Assumes nothing.
use Prim.Native.Nat.{ℕ, ◌<◌}
use mathlib.Core.Path.{◌≡◌, sym, ◌∙◌}
use mathlib.Core.List.{List}
use lib.ListN.{get_or}
use Rattle.sheet.proofs.Back.{bits_of_inj}
use Rattle.mend_c.specs.Mends.{MendReplied}

pub agree : (s : List ℕ) (a b c r r' : ℕ) (out out' said said' counts counts' : List ℕ) → ((i : ℕ) → get_or out i 0 < 256) → ((i : ℕ) → get_or out' i 0 < 256)
    → MendReplied s a b c r out said counts → MendReplied s a b c r' out' said' counts' → (r ≡ r') × (out ≡ out') × (said ≡ said') × (counts ≡ counts')
agree s a b c r r' out out' said said' counts counts' h h' A B =
    (A.code ∙ sym B.code, bits_of_inj out out' h h' (A.bits ∙ sym B.bits), A.text ∙ sym B.text, A.words ∙ sym B.words)
