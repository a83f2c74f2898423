-- Laws of a question to an image: it is the question to the mesh that is loaded, and each reply is the reply to one. Assumes nothing.
use Prim.Native.Nat.{ℕ, ◌/◌, ◌%◌, ◌≤◌}
use mathlib.Core.Path.{◌≡◌, refl, sym, ap, subst, ◌∙◌}
use mathlib.Core.Bool.{Bool, true, false}
use mathlib.Core.Logic.{inl}
use mathlib.Core.List.{List}
use lib.ListN.{length, take}
use lib.Dec.{eqb}
use borrow.Author.Tests.{eq-eqb, ne_eqb}
use Rattle.lists.specs.Lists.{pick}
use Rattle.model.specs.Mesh.{Mesh}
use Rattle.model.specs.Calls.{refusal}
use Rattle.model.specs.Reads.{Read, refused, pieces_call, rest_measure_call, rest_measure_of_call, opens_call, groups_call}
use Rattle.mesh.specs.Given.{Given, mesh_of, sizes_fit_of}
use Rattle.image.specs.Words.{words_from}
use Rattle.image.specs.Image.{image_of, image_sized_of}
use Rattle.image.proofs.Loading.{sized_input}
use Rattle.replies.proofs.Saying.{replied_as}
use Rattle.reading_replies.specs.Replies.{Replied, number_words, truth_words, groups_words, pieces_reply, measure_reply, opens_reply, groups_reply, measure_of_reply}
use Rattle.reading_c.specs.Capped.{Capped}
use Rattle.reading_c.specs.Questions.{question_call, question_reply}
use Rattle.reading_c.specs.declared.Question.{Question}
use Rattle.reading_c.specs.declared.Question.TheVariants.{Pieces, Measure, MeasureOf, Opens, Groups, Unread}
use Rattle.reading_c.proofs.Siding.{opens_capped}
use Rattle.reading_c.proofs.Grouping.{groups_capped}
use Rattle.reading_c.proofs.Listing.{words_capped}

-- what loaded blocks answer, the image answers
pub asked_on : (q : Question) (s l : List ℕ) (G : Given) (lent r : ℕ) (out : List ℕ) → image_sized_of s ≡ true → G ≡ image_of s → Replied (question_call q (sizes_fit_of G) (mesh_of G) l) lent r out → Replied (question_reply q s l) lent r out
unfolding question_reply
asked_on q s l G lent r out h e f =
    replied_as (question_call q (sizes_fit_of G) (mesh_of G) l) _ lent r out
    (ap (λ (H : Given). question_call q (sizes_fit_of H) (mesh_of H) l) e ∙ ap (λ (b : Bool). question_call q b (mesh_of (image_of s)) l) (sized_input s h)) f

-- a question in one of its cases
pub asked_as : (q : Question) (s l : List ℕ) (lent r : ℕ) (out : List ℕ) (q' : Question) → q ≡ q' → Replied (question_reply q' s l) lent r out → Replied (question_reply q s l) lent r out
asked_as q s l lent r out q' e h = subst (λ (x : Question). Replied (question_reply x s l) lent r out) (sym e) h

-- what has not the sizes of a mesh is refused, whatever is asked
unsized_call : (q : Question) (M : Mesh) (l : List ℕ) → question_call q false M l ≡ refused 1
unfolding pieces_call rest_measure_call rest_measure_of_call opens_call groups_call refusal
unsized_call Pieces M l = refl
unsized_call Measure M l = refl
unsized_call MeasureOf M l = refl
unsized_call (Opens v min) M l = refl
unsized_call (Groups v) M l = refl
unsized_call Unread M l = refl

unsized_reply : (q : Question) (s l : List ℕ) → image_sized_of s ≡ false → question_reply q s l ≡ refused 1
unfolding question_reply
unsized_reply q s l e = ap (λ (b : Bool). question_call q b (mesh_of (image_of s)) l) e ∙ unsized_call q (mesh_of (image_of s)) l

pub asked_unsized : (q : Question) (s l : List ℕ) (lent r : ℕ) (out : List ℕ) (z : Bool) → z ≡ image_sized_of s → z ≡ false → Replied (refused 1) lent r out → Replied (question_reply q s l) lent r out
asked_unsized q s l lent r out z e f h = replied_as (refused 1) _ lent r out (sym (unsized_reply q s l (sym e ∙ f))) h

-- ---- the reply of each function is the reply to a question

pub pieces_is : (s l : List ℕ) → question_reply Pieces s l ≡ pieces_reply s
unfolding question_reply pieces_reply
pieces_is s l = refl

pub measure_is : (s l : List ℕ) → question_reply Measure s l ≡ measure_reply s
unfolding question_reply measure_reply
measure_is s l = refl

pub opens_is : (s : List ℕ) (v : ℕ) (l : List ℕ) (min : ℕ) → question_reply (Opens v min) s l ≡ opens_reply s v l min
unfolding question_reply opens_reply
opens_is s v l min = refl

pub groups_is : (s : List ℕ) (v : ℕ) (l : List ℕ) → question_reply (Groups v) s l ≡ groups_reply s v l
unfolding question_reply groups_reply
groups_is s v l = refl

pub unread_is : (s l : List ℕ) → question_reply Unread s l ≡ refused (refusal (image_sized_of s) (mesh_of (image_of s)) true false)
unfolding question_reply
unread_is s l = refl

-- one question beside two lists, which are told apart by nothing where the image has the sizes of a mesh
either_list : (q : Question) (s t l : List ℕ) → (image_sized_of s ≡ true → question_reply q s t ≡ question_reply q s l) → question_reply q s t ≡ question_reply q s l
either_list q s t l same = by (image_sized_of s) refl
  where
    by : (b : Bool) → image_sized_of s ≡ b → question_reply q s t ≡ question_reply q s l
    by true e = same e
    by false e = unsized_reply q s t e ∙ sym (unsized_reply q s l e)

pub opens_replied : (s : List ℕ) (v n : ℕ) (sides t : List ℕ) (min lent r : ℕ) (out : List ℕ) → Capped (length sides) 2049 n → t ≡ take n sides → Replied (question_reply (Opens v min) s t) lent r out
    → Replied (opens_reply s v sides min) lent r out
unfolding question_reply
opens_replied s v n sides t min lent r out c e h =
    replied_as (question_reply (Opens v min) s t) _ lent r out (either_list (Opens v min) s t sides (λ z. ap truth_words (opens_capped s v n sides t min z c e)) ∙ opens_is s v sides min) h

pub groups_replied : (s : List ℕ) (v n : ℕ) (sides t : List ℕ) (lent r : ℕ) (out : List ℕ) → Capped (length sides) 2049 n → t ≡ take n sides → Replied (question_reply (Groups v) s t) lent r out
    → Replied (groups_reply s v sides) lent r out
unfolding question_reply
groups_replied s v n sides t lent r out c e h =
    replied_as (question_reply (Groups v) s t) _ lent r out (either_list (Groups v) s t sides (λ z. ap groups_words (groups_capped s v n sides t z c e)) ∙ groups_is s v sides) h

-- sides that are few enough are capped at nothing
pub few_replied : (s : List ℕ) (v : ℕ) (sides t : List ℕ) (lent r : ℕ) (out : List ℕ) → length sides ≤ 2049 → t ≡ take (length sides) sides → Replied (question_reply (Groups v) s t) lent r out
    → Replied (groups_reply s v sides) lent r out
few_replied s v sides t lent r out h e f = groups_replied s v (length sides) sides t lent r out (inl (refl, h)) e f

-- ---- a list of particles, in words

-- the reply to it, by whether its bytes are whole words
words_reply : (s list : List ℕ) → Bool → Read (List ℕ)
words_reply s list b = pick b (question_reply MeasureOf s (words_from list 0 (length list / 4))) (refused (refusal (image_sized_of s) (mesh_of (image_of s)) true false))

words_is : (s list : List ℕ) → words_reply s list (eqb (length list % 4) 0) ≡ measure_of_reply s list
unfolding question_reply measure_of_reply words_reply
words_is s list = refl

pub measure_of_replied : (s list : List ℕ) (n : ℕ) (t : List ℕ) (lent r : ℕ) (out : List ℕ) → length list % 4 ≡ 0 → Capped (length list / 4) 1025 n → t ≡ words_from list 0 n
    → Replied (question_reply MeasureOf s t) lent r out → Replied (measure_of_reply s list) lent r out
unfolding question_reply words_reply
measure_of_replied s list n t lent r out w c e h =
    replied_as (question_reply MeasureOf s t) _ lent r out
    (ap (question_reply MeasureOf s) e
    ∙ either_list MeasureOf s (words_from list 0 n) (words_from list 0 (length list / 4)) (λ z. ap number_words (words_capped s list (length list / 4) n z c))
    ∙ sym (ap (words_reply s list) (eq-eqb (length list % 4) 0 w)) ∙ words_is s list)
    h

-- bytes that are no words
pub measure_of_ragged : (s list l : List ℕ) (lent r : ℕ) (out : List ℕ) → (length list % 4 ≡ 0 → ⊥) → Replied (question_reply Unread s l) lent r out → Replied (measure_of_reply s list) lent r out
unfolding words_reply
measure_of_ragged s list l lent r out w h =
    replied_as (question_reply Unread s l) _ lent r out (unread_is s l ∙ sym (ap (words_reply s list) (ne_eqb (length list % 4) 0 w)) ∙ words_is s list) h

-- the number of a refusal that has no words
pub unread_told : (s l : List ℕ) (lent r : ℕ) (out : List ℕ) → Replied (question_reply Unread s l) lent r out → r ≡ refusal (image_sized_of s) (mesh_of (image_of s)) true false
unfolding question_reply
unread_told s l lent r out h = h.code
