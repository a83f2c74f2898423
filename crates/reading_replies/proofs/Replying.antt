-- Laws of replies: an entry's answer as the words that it stands for, and refusal numbers that are small. Assumes nothing.
use Prim.Native.Nat.{ℕ, zero, suc, ◌<◌}
use native.Mathlib.Omega.{arith}
use mathlib.Core.Path.{◌≡◌, refl, sym, ap, subst, ◌∙◌}
use mathlib.Core.Bool.{Bool, true, ◌&&◌}
use mathlib.Core.List.{List}
use lib.ListN.{length}
use lib.Ieee.{Float}
use borrow.Author.Tests.{eq-eqb, ne_eqb}
use Rattle.std.specs.Prelude.{Option, None, Some}
use Rattle.lists.specs.Lists.{pick}
use Rattle.float.specs.Root.{root_of}
use Rattle.blade.specs.declared.Hit.{Hit}
use Rattle.blade.specs.declared.Point.{Point}
use Rattle.blade.specs.Blade.{blade_hit_of}
use Rattle.mesh.specs.Refused.{number_of, answer_in}
use Rattle.model.specs.Mesh.{Mesh}
use Rattle.model.specs.Cut.{Line}
use Rattle.model.specs.Elements.{rest_measure}
use Rattle.model.specs.Pieces.{pieces}
use Rattle.model.specs.Calls.{blade_ok, point_ok}
use Rattle.model.specs.Reads.{Read, refused, value, or_refused, rooted, root_call, blade_call, rest_measure_call, pieces_call}
use Rattle.std.specs.Prelude.{Result, Ok, Err}
use Rattle.mesh.specs.declared.refusals.Refusal.{Refusal}
use Rattle.image.specs.Words.{number_of as the_float_of}
use Rattle.replies.proofs.Saying.{pick_small, refusal_small, replied_as}
use Rattle.reading_replies.specs.Replies.{number_words, count_words, tested_words, code_of, Replied, root_reply, blade_reply, point_at_of}
use Rattle.reading_replies.specs.Given.{number_reply, number_reply_by, count_reply, count_reply_by, groups_told_by, tested_reply, tested_reply_by, SmallCode}

-- an answer of groups in one of its cases
pub told_small : {E : Type 0} (told : E → ℕ) (a b : Result ℕ E) (ws : List ℕ) → a ≡ b → SmallCode (groups_told_by told a ws) → SmallCode (groups_told_by told b ws)
told_small {E} told a b ws e h = subst (λ (o : Result ℕ E). SmallCode (groups_told_by told o ws)) e h

pub told_as : {E : Type 0} (told : E → ℕ) (a b : Result ℕ E) (ws : List ℕ) (lent r : ℕ) (out : List ℕ) → a ≡ b → Replied (groups_told_by told b ws) lent r out → Replied (groups_told_by told a ws) lent r out
told_as {E} told a b ws lent r out e h = subst (λ (o : Result ℕ E). Replied (groups_told_by told o ws) lent r out) (sym e) h

-- an answer as the model's, where `told` tells a refusal's number
abbrev pub answer_by : {A E : Type 0} → (E → ℕ) → Result A E → Read A
answer_by told (Ok a) = value a
answer_by told (Err e) = refused (told e)

answered_in : {A : Type 0} (r : Result A Refusal) → answer_by number_of r ≡ answer_in r
answered_in (Ok a) = refl
answered_in (Err e) = refl

-- ---- the words of an entry's answer are those of the model's

module _ {E : Type 0} (told : E → ℕ) where
  pub number_words_by : (r : Result Float E) → number_reply_by told r ≡ number_words (answer_by told r)
  number_words_by (Ok x) = refl
  number_words_by (Err e) = refl

  pub count_words_by : (r : Result ℕ E) → count_reply_by told r ≡ count_words (answer_by told r)
  count_words_by (Ok x) = refl
  count_words_by (Err e) = refl

  pub tested_words_by : (r : Result Hit E) → tested_reply_by told r ≡ tested_words (answer_by told r)
  tested_words_by (Ok x) = refl
  tested_words_by (Err e) = refl

pub number_words_lem : (r : Result Float Refusal) → number_reply r ≡ number_words (answer_in r)
number_words_lem r = number_words_by number_of r ∙ ap number_words (answered_in r)

pub count_words_lem : (r : Result ℕ Refusal) → count_reply r ≡ count_words (answer_in r)
count_words_lem r = count_words_by number_of r ∙ ap count_words (answered_in r)

pub tested_words_lem : (r : Result Hit Refusal) → tested_reply r ≡ tested_words (answer_in r)
tested_words_lem r = tested_words_by number_of r ∙ ap tested_words (answered_in r)

-- ---- refusals are small

-- a refusal's number, or 0 for a value
coded : {A : Type 0} → Read A → ℕ
coded (refused n) = n
coded (value x) = 0

or_small : {A : Type 0} (n : ℕ) (a : A) → n < 256 → coded (or_refused n a) < 256
unfolding coded
or_small zero a h = omega arith
or_small (suc n) a h = h

rooted_small : (r : Option Float) → coded (rooted r) < 256
unfolding coded
rooted_small (Some x) = omega arith
rooted_small None = omega arith

module _ {E : Type 0} (told : E → ℕ) where
  number_code : (r : Result Float E) → code_of (number_reply_by told r) ≡ coded (answer_by told r)
  unfolding coded
  number_code (Ok x) = refl
  number_code (Err e) = refl

  count_code : (r : Result ℕ E) → code_of (count_reply_by told r) ≡ coded (answer_by told r)
  unfolding coded
  count_code (Ok x) = refl
  count_code (Err e) = refl

  tested_code : (r : Result Hit E) → code_of (tested_reply_by told r) ≡ coded (answer_by told r)
  unfolding coded
  tested_code (Ok x) = refl
  tested_code (Err e) = refl

  pub root_small_by : (x : Float) (a : Result Float E) → answer_by told a ≡ root_call x → SmallCode (number_reply_by told a)
  root_small_by x a e = rw (number_code a) (rw e (rooted_small (root_of x)))

  pub blade_small_by : (B : Line) (p q : Point) (a : Result Hit E) → answer_by told a ≡ blade_call B p q → SmallCode (tested_reply_by told a)
  unfolding blade_call
  blade_small_by B p q a e =
      rw (tested_code a) (rw e (or_small _ (blade_hit_of B.from B.to p q) (pick_small (blade_ok B && point_ok p && point_ok q) 0 2 (omega arith) (omega arith))))

  pub pieces_small_by : (z : Bool) (M : Mesh) (a : Result ℕ E) → answer_by told a ≡ pieces_call z M → SmallCode (count_reply_by told a)
  unfolding pieces_call
  pieces_small_by z M a e = rw (count_code a) (rw e (or_small _ (pieces M) (refusal_small z M true true)))

  pub measure_small_by : (z : Bool) (M : Mesh) (a : Result Float E) → answer_by told a ≡ rest_measure_call z M → SmallCode (number_reply_by told a)
  unfolding rest_measure_call
  measure_small_by z M a e = rw (number_code a) (rw e (or_small _ (rest_measure M) (refusal_small z M true true)))

pub root_small : (x : Float) (a : Result Float Refusal) → answer_in a ≡ root_call x → SmallCode (number_reply a)
root_small x a e = root_small_by number_of x a (answered_in a ∙ e)

pub blade_small : (B : Line) (p q : Point) (a : Result Hit Refusal) → answer_in a ≡ blade_call B p q → SmallCode (tested_reply a)
blade_small B p q a e = blade_small_by number_of B p q a (answered_in a ∙ e)

pub pieces_small : (z : Bool) (M : Mesh) (a : Result ℕ Refusal) → answer_in a ≡ pieces_call z M → SmallCode (count_reply a)
pieces_small z M a e = pieces_small_by number_of z M a (answered_in a ∙ e)

pub measure_small : (z : Bool) (M : Mesh) (a : Result Float Refusal) → answer_in a ≡ rest_measure_call z M → SmallCode (number_reply a)
measure_small z M a e = measure_small_by number_of z M a (answered_in a ∙ e)

-- ---- the reply of each C function without a mesh

module _ {E : Type 0} (told : E → ℕ) where
  pub root_replied_by : (bits lent r : ℕ) (x : Float) (a : Result Float E) (out : List ℕ) → x ≡ the_float_of bits → answer_by told a ≡ root_call x → Replied (number_reply_by told a) lent r out
      → Replied (root_reply bits) lent r out
  unfolding root_reply
  root_replied_by bits lent r x a out ex ea h =
      replied_as (number_reply_by told a) _ lent r out (number_words_by told a ∙ ap number_words (ea ∙ ap root_call ex)) h

  pub blade_replied_by : (s : List ℕ) (b0 b1 p q : Point) (lent r : ℕ) (a : Result Hit E) (out : List ℕ) → length s ≡ 32 → b0 ≡ point_at_of s 0 → b1 ≡ point_at_of s 2 → p ≡ point_at_of s 4 → q ≡ point_at_of s 6
      → answer_by told a ≡ blade_call (record { from = b0; to = b1 }) p q → Replied (tested_reply_by told a) lent r out → Replied (blade_reply s) lent r out
  unfolding blade_reply
  blade_replied_by s b0 b1 p q lent r a out n e0 e1 ep eq ea h =
      let B : Line = record { from = point_at_of s 0; to = point_at_of s 2 } in
      let f : answer_by told a ≡ blade_call B (point_at_of s 4) (point_at_of s 6) =
      ea ∙ ap (λ (z : Point). blade_call (record { from = z; to = b1 }) p q) e0 ∙ ap (λ (z : Point). blade_call (record { from = point_at_of s 0; to = z }) p q) e1
      ∙ ap (λ (z : Point). blade_call B z q) ep ∙ ap (λ (z : Point). blade_call B (point_at_of s 4) z) eq in
      replied_as (tested_reply_by told a) _ lent r out
      (tested_words_by told a ∙ ap tested_words f
      ∙ sym (ap (λ (b : Bool). pick b (tested_words (blade_call B (point_at_of s 4) (point_at_of s 6))) (refused 4)) (eq-eqb (length s) 32 n)))
      h

pub root_replied : (bits lent r : ℕ) (x : Float) (a : Result Float Refusal) (out : List ℕ) → x ≡ the_float_of bits → answer_in a ≡ root_call x → Replied (number_reply a) lent r out
    → Replied (root_reply bits) lent r out
root_replied bits lent r x a out ex ea h = root_replied_by number_of bits lent r x a out ex (answered_in a ∙ ea) h

pub blade_replied : (s : List ℕ) (b0 b1 p q : Point) (lent r : ℕ) (a : Result Hit Refusal) (out : List ℕ) → length s ≡ 32 → b0 ≡ point_at_of s 0 → b1 ≡ point_at_of s 2 → p ≡ point_at_of s 4 → q ≡ point_at_of s 6
    → answer_in a ≡ blade_call (record { from = b0; to = b1 }) p q → Replied (tested_reply a) lent r out → Replied (blade_reply s) lent r out
blade_replied s b0 b1 p q lent r a out n e0 e1 ep eq ea h = blade_replied_by number_of s b0 b1 p q lent r a out n e0 e1 ep eq (answered_in a ∙ ea) h

pub blade_misread : (s : List ℕ) (lent r : ℕ) (out : List ℕ) → (length s ≡ 32 → ⊥) → Replied (refused 4) lent r out → Replied (blade_reply s) lent r out
unfolding blade_reply
blade_misread s lent r out n h =
    replied_as (refused 4) _ lent r out
    (sym (ap (λ (b : Bool). pick b (tested_words (blade_call (record { from = point_at_of s 0; to = point_at_of s 2 }) (point_at_of s 4) (point_at_of s 6))) (refused 4)) (ne_eqb (length s) 32 n))) h
