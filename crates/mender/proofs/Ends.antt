-- What an answer of the mender tells: the sheet and the text whole, or a refusal's number, which is below 10. Assumes nothing.
use Prim.Native.Nat.{ℕ, ◌-◌, ◌<◌, ◌≤◌}
use mathlib.Core.Path.{◌≡◌, refl, sym, ap}
use mathlib.Core.Bool.{Bool, true, false, cond, ◌&&◌}
use mathlib.Core.List.{List}
use native.Mathlib.Omega.{arith}
use borrow.Author.Tests.{leb-true}
use lib.Dec.{leb, ltb, eqb}
use lib.ListN.{length, take, replicate}
use lib.Seq.{take_at}
use Rattle.lists.specs.Lists.{pick, padded}
use Rattle.bits.specs.Bits.{bits_of}
use Rattle.sheet.specs.Sheet.{counts_at, too_many_of}
use Rattle.edition.specs.Edition.{second, bits_in_of, bytes_in, typed_of}
use Rattle.mending.specs.Sheets.{Mending, mended, refused, mended_sheet, sheet_bytes, said_of, mend_with, mend_of}
use Rattle.mender.specs.Answers.{fits, answer_for, bytes_of, text_of, mended_with}
use Rattle.std.specs.Prelude.{Result, Err}
use Rattle.mesh.specs.Refused.{number_of}
use Rattle.mesh.specs.declared.refusals.Refusal.{Refusal}
use Rattle.mesh.specs.declared.refusals.Refusal.TheVariants.{Size, Sheet}
use Rattle.mender.specs.declared.Mended.{Mended}
use Rattle.mender.specs.declared.MendError.{MendError}
use Rattle.mender.specs.declared.MendError.TheVariants.{Short, Refused}

pub padded_front : (n : ℕ) (x : List ℕ) → take (length x) (padded {A = ℕ} n 0 x) ≡ x
unfolding padded
padded_front n x = take_at x (replicate (n - length x) 0) (length x) refl

never : (M : Result Mended MendError) (n k : ℕ) → mended_with n k ≡ M → M ≡ Err Short → ⊥
never M n k e f = let z : ◌≡◌ {A = ℕ} 0 1 = cc in omega arith

-- what an answer with numbers tells
same_numbers : (n k m t : ℕ) → mended_with n k ≡ mended_with m t → (n ≡ m) × (k ≡ t)
same_numbers n k m t e = let q : ◌≡◌ {A = Mended} (record { sheet = n; text = k }) (record { sheet = m; text = t }) = cc in (ap (λ (x : Mended). x.sheet) q, ap (λ (x : Mended). x.text) q)

tell_by : (x y : Bool) (m t : List ℕ) (a b n k : ℕ) → leb (length m) a ≡ x → leb (length t) b ≡ y → mended_with n k ≡ pick (x && y) (mended_with (length m) (length t)) (Err Short)
    → ((x && y) ≡ true) × (n ≡ length m) × (k ≡ length t) × (n ≤ a) × (k ≤ b)
tell_by true true m t a b n k p q e = let s = same_numbers n k (length m) (length t) e in let i : n ≡ length m = s.0 in let j : k ≡ length t = s.1 in (refl, i, j, omega (arith, leb-true (length m) a p), omega (arith, leb-true (length t) b q))
tell_by true false m t a b n k p q e = absurd (never (Err Short) n k e refl)
tell_by false y m t a b n k p q e = absurd (never (Err Short) n k e refl)

pub record Telling (M : Mending) (a b n k : ℕ) : Type 0 where
  pub fit : fits M a b ≡ true
  pub sheet : n ≡ length (bytes_of M)
  pub text : k ≡ length (text_of M)
  pub room : n ≤ a
  pub room_text : k ≤ b
  pub is : M ≡ mended (bytes_of M) (text_of M)

pub tell : (M : Mending) (a b n k : ℕ) → mended_with n k ≡ answer_for M a b → Telling M a b n k
unfolding fits answer_for bytes_of text_of
tell (mended m t) a b n k e =
    let w = tell_by (leb (length m) a) (leb (length t) b) m t a b n k refl refl e in
    record { fit = w.0; sheet = w.1; text = w.2; room = w.3; room_text = w.4; is = refl }
tell (refused c) a b n k e = absurd (let z : ◌≡◌ {A = ℕ} 0 1 = cc in omega arith)

-- ---- a refusal

refused_by : (x : Bool) (m t : List ℕ) (n : Refusal) → Err (Refused n) ≡ pick x (mended_with (length m) (length t)) (Err Short) → ⊥
refused_by true m t n e = let z : ◌≡◌ {A = ℕ} 0 1 = cc in omega arith
refused_by false m t n e = let z : ◌≡◌ {A = ℕ} 0 1 = cc in omega arith

pub refused_tell : (M : Mending) (a b : ℕ) (n : Refusal) → Err (Refused n) ≡ answer_for M a b → M ≡ refused n
unfolding answer_for
refused_tell (mended m t) a b n e = absurd (refused_by (leb (length m) a && leb (length t) b) m t n e)
refused_tell (refused c) a b n e = let i : n ≡ c = cc in ap refused (sym i)

small_by : (a b x : Bool) (m t : List ℕ) (n : Refusal) → cond a (refused Sheet) (cond b (refused Size) (cond x (mended m t) (refused Sheet))) ≡ refused n → number_of n < 10
small_by true b x m t n e = let i : Sheet ≡ n = cc in omega (arith, ap number_of i)
small_by false true x m t n e = let i : Size ≡ n = cc in omega (arith, ap number_of i)
small_by false false true m t n e = absurd (let z : ◌≡◌ {A = ℕ} 0 1 = cc in omega arith)
small_by false false false m t n e = let i : Sheet ≡ n = cc in omega (arith, ap number_of i)

pub small_code : (s : List ℕ) (n : Refusal) → mend_of s ≡ refused n → number_of n < 10
unfolding mend_of mend_with
small_code s n e =
    let l = bits_of s in
    let c = counts_at (bits_in_of l) in
    small_by (ltb (length s) 6) (too_many_of c) (eqb (length s) (bytes_in (second l) c)) (sheet_bytes (second l) (mended_sheet (typed_of l))) (said_of (typed_of l)) n e
