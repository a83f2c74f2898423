-- Laws of a reply that is a text: the answer by the case of what was written; any two such replies agree. Assumes nothing.
use Prim.Native.Nat.{ℕ}
use mathlib.Core.Path.{◌≡◌, refl, sym, ap, ◌∙◌}
use mathlib.Core.Bool.{Bool, true, false}
use mathlib.Core.List.{List}
use lib.Dec.{leb}
use lib.ListN.{length}
use Rattle.lists.specs.Lists.{pick}
use Rattle.listing.specs.Answers.{answer_for, Wrote}
use Rattle.std.specs.Prelude.{Option, None, Some}
use Rattle.text_c.specs.Texts.{code_for, TextReplied}

code_is : (b : Bool) (n : ℕ) → code_for (pick b (Some n) None) ≡ pick b 0 4
code_is true n = refl
code_is false n = refl

-- the answer to what was written
pub text_replied : (text : List ℕ) (lent : ℕ) (s : List ℕ) (w : Option ℕ) (r : ℕ) → Wrote text lent s w → r ≡ code_for w → TextReplied text lent r s
unfolding answer_for
text_replied text lent s w r T e =
    record { code = e ∙ ap code_for T.answer ∙ code_is (leb (length text) lent) (length text); bytes = T.bytes }

pub text_agree : (text : List ℕ) (lent r r' : ℕ) (s s' : List ℕ) → TextReplied text lent r s → TextReplied text lent r' s' → (r ≡ r') × (s ≡ s')
text_agree text lent r r' s s' A B = (A.code ∙ sym B.code, A.bytes ∙ sym B.bytes)
