-- Laws of a question to the mesh that blocks are: the answer of each entry, told, is the answer to the question. Assumes nothing.
use Prim.Native.Nat.{ℕ, ◌<◌}
use native.Mathlib.Omega.{arith}
use mathlib.Core.Path.{◌≡◌, sym, ap, subst, ◌∙◌}
use mathlib.Core.Bool.{Bool, true, false}
use mathlib.Core.List.{List}
use lib.Ieee.{Float}
use Rattle.mesh.specs.Refused.{answer_in}
use Rattle.model.specs.Mesh.{Mesh}
use Rattle.model.specs.Calls.{refusal}
use Rattle.model.specs.Reads.{refused, pieces_call, rest_measure_call, rest_measure_of_call, opens_call}
use Rattle.mesh.specs.Given.{Given, mesh_of, sizes_fit_of}
use Rattle.judge.specs.Checks.{then_check, fault_of}
use Rattle.arguments.proofs.Judged.{arguments_refuse}
use Rattle.std.specs.Prelude.{Result}
use Rattle.mesh.specs.declared.refusals.Refusal.{Refusal}
use Rattle.replies.proofs.Saying.{refusal_small, replied_as}
use Rattle.reading_replies.specs.Replies.{Replied, count_words, number_words, truth_words}
use Rattle.reading_replies.specs.Given.{number_reply, count_reply, truth_reply}
use Rattle.reading_c.specs.Questions.{question_call}
use Rattle.reading_c.specs.declared.Question.{Question}
use Rattle.reading_c.specs.declared.Question.TheVariants.{Pieces, Measure, MeasureOf, Opens, Unread}
use Rattle.reading_replies.proofs.Replying.{number_words_lem, count_words_lem}
use Rattle.reading_c.proofs.Siding.{truth_words_lem}

module _ (q : Question) (z : Bool) (M : Mesh) (l : List ℕ) (lent r : ℕ) (out : List ℕ) where
  -- a question in one of its cases
  pub question_as : (q' : Question) → q ≡ q' → Replied (question_call q' z M l) lent r out → Replied (question_call q z M l) lent r out
  question_as q' e h = subst (λ (x : Question). Replied (question_call x z M l) lent r out) (sym e) h

  pub pieces_asked : (a : Result ℕ Refusal) → q ≡ Pieces → answer_in a ≡ pieces_call z M → Replied (count_reply a) lent r out → Replied (question_call q z M l) lent r out
  pieces_asked a e f h = question_as Pieces e (replied_as (count_reply a) _ lent r out (count_words_lem a ∙ ap count_words f) h)

  pub measure_asked : (a : Result Float Refusal) → q ≡ Measure → answer_in a ≡ rest_measure_call z M → Replied (number_reply a) lent r out → Replied (question_call q z M l) lent r out
  measure_asked a e f h = question_as Measure e (replied_as (number_reply a) _ lent r out (number_words_lem a ∙ ap number_words f) h)

  pub measure_of_asked : (a : Result Float Refusal) → q ≡ MeasureOf → answer_in a ≡ rest_measure_of_call z M l → Replied (number_reply a) lent r out → Replied (question_call q z M l) lent r out
  measure_of_asked a e f h = question_as MeasureOf e (replied_as (number_reply a) _ lent r out (number_words_lem a ∙ ap number_words f) h)

  pub opens_asked : (v min : ℕ) (a : Result Bool Refusal) → q ≡ Opens v min → answer_in a ≡ opens_call z M v l min → Replied (truth_reply a) lent r out → Replied (question_call q z M l) lent r out
  opens_asked v min a e f h = question_as (Opens v min) e (replied_as (truth_reply a) _ lent r out (truth_words_lem a ∙ ap truth_words f) h)

-- behind the faults of a mesh, a bad argument
unread_code : (G : Given) (fault code : ℕ) → fault ≡ fault_of G → code ≡ then_check fault false 4 → code ≡ refusal (sizes_fit_of G) (mesh_of G) true false
unread_code G fault code f e = e ∙ ap (λ (n : ℕ). then_check n false 4) f ∙ arguments_refuse G false

-- the number fits a byte
pub unread_small : (z : Bool) (M : Mesh) (code : ℕ) → code ≡ refusal z M true false → code < 256
unread_small z M code e = let h = refusal_small z M true false in omega (arith, h, e)

pub unread_fits : (G : Given) (fault code : ℕ) → fault ≡ fault_of G → code ≡ then_check fault false 4 → code < 256
unread_fits G fault code f e = unread_small (sizes_fit_of G) (mesh_of G) code (unread_code G fault code f e)

pub unread_asked : (q : Question) (G : Given) (l : List ℕ) (lent r : ℕ) (out : List ℕ) (fault code : ℕ) → q ≡ Unread → fault ≡ fault_of G → code ≡ then_check fault false 4
    → Replied (refused code) lent r out → Replied (question_call q (sizes_fit_of G) (mesh_of G) l) lent r out
unread_asked q G l lent r out fault code e f g h =
    question_as q (sizes_fit_of G) (mesh_of G) l lent r out Unread e (replied_as (refused code) _ lent r out (ap refused (unread_code G fault code f g)) h)
