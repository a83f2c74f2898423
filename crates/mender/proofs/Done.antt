-- What the mender leaves and answers: each of its ends. Assumes nothing.
use Prim.Native.Nat.{ℕ, ◌+◌, ◌-◌, ◌*◌, ◌<◌, ◌≤◌}
use mathlib.Core.Path.{◌≡◌, refl, sym, ap, ◌∙◌, subst}
use mathlib.Core.Bool.{Bool, true, false, ◌&&◌}
use mathlib.Core.List.{List, [], ◌++◌, append_assoc}
use native.Mathlib.Omega.{arith}
use native.Mathlib.Nat.{sub-zero}
use borrow.Author.Tests.{le-leb, lt-leb}
use lib.Dec.{leb}
use lib.ListN.{length, replicate, length-append, length-replicate, replicate-append-replicate}
use Rattle.lists.specs.Lists.{pick, padded}
use Rattle.bits.specs.Bits.{bits_of}
use Rattle.bits.proofs.Laws.{bits_none}
use Rattle.sheet.specs.Sheet.{Sheet, counts_at, counts_of, sheet_with}
use Rattle.edition.specs.Edition.{second, bits_in_of, bytes_in, typed_of}
use Rattle.listing.specs.Answers.{Wrote, answer_for as told_for, shown_for}
use Rattle.listing.specs.Work.{Finishes}
use Rattle.std.specs.Prelude.{Option, None, Some}
use Rattle.mending.specs.Sheets.{Mending, mended, refused, mended_sheet, bits_as, sheet_bytes, said_of, mend_of}
use Rattle.mending.specs.Work.{said_by, Mendable}
use Rattle.mending.proofs.Bytes.{as_length, end_inside, sheet_bits_lem, sheet_length, held_mend, typed_is}
use Rattle.mender.specs.Answers.{fits, answer_for, bytes_of, text_of, mended_with, MendDone}
use Rattle.std.specs.Prelude.{Result, Err}
use Rattle.mesh.specs.declared.refusals.Refusal.{Refusal}
use Rattle.mender.specs.declared.Mended.{Mended}
use Rattle.mender.specs.declared.MendError.{MendError}
use Rattle.mender.specs.declared.MendError.TheVariants.{Short, Refused}
use Rattle.mender.specs.Work.{Marked}
use Rattle.mender.proofs.Whole.{marked_said, plain}

-- zeros alone
pub padded_none : (n : ℕ) → padded {A = ℕ} n 0 [] ≡ replicate n 0
unfolding padded
padded_none n = ap (λ (k : ℕ). replicate k 0) (sub-zero n)

-- zeros behind a list are zeros behind it
padded_more : (n k : ℕ) (x : List ℕ) → length x + k ≤ n → padded n 0 (x ++ replicate k 0) ≡ padded n 0 x
unfolding padded
padded_more n k x h =
    let r = replicate {A = ℕ} k 0 in
    let a : length (x ++ r) ≡ length x + k = length-append x r ∙ ap (λ (j : ℕ). length x + j) (length-replicate {A = ℕ} k 0) in
    let b : n - length (x ++ r) ≡ n - (length x + k) = ap (λ (j : ℕ). n - j) a in
    let c : k + (n - (length x + k)) ≡ n - length x = omega arith in
    ap (λ (j : ℕ). (x ++ r) ++ replicate j 0) b
    ∙ (append_assoc x r (replicate (n - (length x + k)) 0) ∙ (ap (λ (y : List ℕ). x ++ y) (replicate-append-replicate k (n - (length x + k)) 0) ∙ ap (λ (j : ℕ). x ++ replicate j 0) c))

-- ---- the text

pub wrote_told : (text : List ℕ) (lent : ℕ) (s : List ℕ) (r : Option ℕ) (n : ℕ) → Wrote text lent s r → r ≡ Some n → (leb (length text) lent ≡ true) × (n ≡ length text) × (s ≡ padded lent 0 text)
unfolding told_for shown_for
wrote_told text lent s r n w e = by (leb (length text) lent) refl (sym e ∙ w.answer) w.bytes
  where
    by : (b : Bool) → leb (length text) lent ≡ b → Some n ≡ pick b (Some (length text)) None → s ≡ padded lent 0 (pick b text []) → (leb (length text) lent ≡ true) × (n ≡ length text) × (s ≡ padded lent 0 text)
    by true q f g = (q, cc, g)
    by false q f g = absurd (let z : ◌≡◌ {A = ℕ} 0 1 = cc in omega arith)

pub wrote_cut : (text : List ℕ) (lent : ℕ) (s : List ℕ) (r : Option ℕ) → Wrote text lent s r → r ≡ None → (leb (length text) lent ≡ false) × (s ≡ replicate lent 0)
unfolding told_for shown_for
wrote_cut text lent s r w e = by (leb (length text) lent) refl (sym e ∙ w.answer) w.bytes
  where
    by : (b : Bool) → leb (length text) lent ≡ b → None ≡ pick b (Some (length text)) None → s ≡ padded lent 0 (pick b text []) → (leb (length text) lent ≡ false) × (s ≡ replicate lent 0)
    by true q f g = absurd (let z : ◌≡◌ {A = ℕ} 0 1 = cc in omega arith)
    by false q f g = (q, g ∙ padded_none lent)

-- lent bytes that are cleared
pub cleared : (s s' : List ℕ) (r : Option ℕ) → Finishes s None s' r → s' ≡ replicate (length s) 0
unfolding told_for shown_for
cleared s s' r f =
    let t = replicate {A = ℕ} (length s + 1) 0 in
    let n : length t ≡ length s + 1 = length-replicate {A = ℕ} (length s + 1) 0 in
    let w = f.finished t (omega arith) in
    let q : leb (length t) (length s) ≡ false = lt-leb (length t) (length s) (omega arith) in
    w.bytes ∙ (ap (λ (b : Bool). padded (length s) 0 (pick b t [])) q ∙ padded_none (length s))

-- ---- the three ends

module _ (s : List ℕ) (a b : ℕ) (out said : List ℕ) where
  shown_none : (M : Mending) → fits M a b ≡ false → bits_of out ≡ replicate (8 * a) 0 → bits_of out ≡ padded (8 * a) 0 (bits_of (pick (fits M a b) (bytes_of M) []))
  shown_none M f o = o ∙ (sym (padded_none (8 * a)) ∙ (ap (padded (8 * a) 0) (sym bits_none) ∙ ap (λ (x : Bool). padded (8 * a) 0 (bits_of (pick x (bytes_of M) []))) (sym f)))

  said_none : (M : Mending) → fits M a b ≡ false → said ≡ replicate b 0 → said ≡ padded b 0 (pick (fits M a b) (text_of M) [])
  said_none M f o = o ∙ (sym (padded_none b) ∙ ap (λ (x : Bool). padded b 0 (pick x (text_of M) [])) (sym f))

  answer_short : (m t : List ℕ) → (leb (length m) a && leb (length t) b) ≡ false → Err Short ≡ answer_for (mended m t) a b
  unfolding answer_for
  answer_short m t f = rw f

  fits_not : (m t : List ℕ) → (leb (length m) a && leb (length t) b) ≡ false → fits (mended m t) a b ≡ false
  unfolding fits
  fits_not m t f = f

  pub done_short : (m t : List ℕ) → mend_of s ≡ mended m t → (leb (length m) a && leb (length t) b) ≡ false → bits_of out ≡ replicate (8 * a) 0 → said ≡ replicate b 0 → MendDone s a b out said (Err Short)
  done_short m t e f o p =
      let g : fits (mend_of s) a b ≡ false = ap (λ (x : Mending). fits x a b) e ∙ fits_not m t f in
      record { answer = answer_short m t f ∙ ap (λ (x : Mending). answer_for x a b) (sym e); bits = shown_none (mend_of s) g o; text = said_none (mend_of s) g p }

  answer_refused : (n : Refusal) → Err (Refused n) ≡ answer_for (refused n) a b
  unfolding answer_for
  answer_refused n = refl

  fits_refused : (n : Refusal) → fits (refused n) a b ≡ false
  unfolding fits
  fits_refused n = refl

  pub done_refused : (n : Refusal) → mend_of s ≡ refused n → bits_of out ≡ replicate (8 * a) 0 → said ≡ replicate b 0 → MendDone s a b out said (Err (Refused n))
  done_refused n e o p =
      let g : fits (mend_of s) a b ≡ false = ap (λ (x : Mending). fits x a b) e ∙ fits_refused n in
      record { answer = answer_refused n ∙ ap (λ (x : Mending). answer_for x a b) (sym e); bits = shown_none (mend_of s) g o; text = said_none (mend_of s) g p }

  whole_here : (m t : List ℕ) → leb (length m) a ≡ true → leb (length t) b ≡ true → bits_of out ≡ padded (8 * a) 0 (bits_of m) → said ≡ padded b 0 t
      → (mended_with (length m) (length t) ≡ answer_for (mended m t) a b) × (bits_of out ≡ padded (8 * a) 0 (bits_of (pick (fits (mended m t) a b) (bytes_of (mended m t)) []))) × (said ≡ padded b 0 (pick (fits (mended m t) a b) (text_of (mended m t)) []))
  unfolding answer_for fits bytes_of text_of
  whole_here m t f g o p = (rw (f, g), rw (f, g) o, rw (f, g) p)

  pub done_bytes : (m t : List ℕ) (n k : ℕ) → mend_of s ≡ mended m t → n ≡ length m → k ≡ length t → leb (length m) a ≡ true → leb (length t) b ≡ true → bits_of out ≡ padded (8 * a) 0 (bits_of m) → said ≡ padded b 0 t → MendDone s a b out said (mended_with n k)
  done_bytes m t n k e en ek f g o p =
      let w = whole_here m t f g o p in
      let x : mended_with n k ≡ mended_with (length m) (length t) = λ i. mended_with (en i) (ek i) in
      record {
        answer = x ∙ (w.0 ∙ ap (λ (y : Mending). answer_for y a b) (sym e));
        bits = w.1 ∙ ap (λ (y : Mending). padded (8 * a) 0 (bits_of (pick (fits y a b) (bytes_of y) []))) (sym e);
        text = w.2 ∙ ap (λ (y : Mending). padded b 0 (pick (fits y a b) (text_of y) [])) (sym e);
      }

-- ---- bytes that are mended, by the fates of their lists

and_left : (x y : Bool) → x ≡ false → (x && y) ≡ false
and_left true y e = absurd (let z : ◌≡◌ {A = ℕ} 0 1 = cc in omega arith)
and_left false y e = refl

and_right : (x y : Bool) → y ≡ false → (x && y) ≡ false
and_right true y e = e
and_right false y e = refl

module _ (s t e b : List ℕ) (a : Mendable s) (k : Marked s t e b) where
  abbrev two : Bool
  two = second (bits_of s)

  abbrev M : Sheet
  M = mended_sheet (typed_of (bits_of s))

  pub answer_is : mend_of s ≡ mended (sheet_bytes two M) (said_by t e b)
  answer_is =
      let i : sheet_with (counts_at (bits_in_of (bits_of s))) (bits_in_of (bits_of s)) ≡ typed_of (bits_of s) = sym (typed_is s) in
      held_mend s a ∙ (ap (λ (x : Sheet). mended (sheet_bytes two (mended_sheet x)) (said_of x)) i ∙ ap (mended (sheet_bytes two M)) (sym (marked_said s t e b a k)))

  module _ (la lb n : ℕ) (out said : List ℕ) (en : n ≡ bytes_in two (counts_of M)) where
    is_long : n ≡ length (sheet_bytes two M)
    is_long = en ∙ sym (sheet_length two M)

    pub few_bytes : la < n → bits_of out ≡ replicate (8 * la) 0 → said ≡ replicate lb 0 → MendDone s la lb out said (Err Short)
    few_bytes h o p =
        let q = is_long in
        done_short s la lb out said (sheet_bytes two M) (said_by t e b) answer_is (and_left (leb (length (sheet_bytes two M)) la) (leb (length (said_by t e b)) lb) (lt-leb (length (sheet_bytes two M)) la (omega arith))) o p

    pub few_said : leb (length (said_by t e b)) lb ≡ false → bits_of out ≡ replicate (8 * la) 0 → said ≡ replicate lb 0 → MendDone s la lb out said (Err Short)
    few_said h o p = done_short s la lb out said (sheet_bytes two M) (said_by t e b) answer_is (and_right (leb (length (sheet_bytes two M)) la) (leb (length (said_by t e b)) lb) h) o p

    pub both_fit : (j : ℕ) → n ≤ la → leb (length (said_by t e b)) lb ≡ true → j ≡ length (said_by t e b) → bits_of out ≡ padded (8 * la) 0 (bits_as two M) → said ≡ padded lb 0 (said_by t e b) → MendDone s la lb out said (mended_with n j)
    both_fit j h f ej o p =
        let q = is_long in
        let x = bits_as two M in
        let d = 8 * bytes_in two (counts_of M) - length x in
        let lx = as_length two M (plain s t e b a k) in
        let i = end_inside two (counts_of M) in
        let w : padded (8 * la) 0 (bits_of (sheet_bytes two M)) ≡ padded (8 * la) 0 x = ap (padded (8 * la) 0) (sheet_bits_lem two M (plain s t e b a k)) ∙ padded_more (8 * la) d x (omega arith) in
        done_bytes s la lb out said (sheet_bytes two M) (said_by t e b) n j answer_is is_long ej (le-leb (length (sheet_bytes two M)) la (omega arith)) f (o ∙ sym w) p

-- a length by another name
pub done_as : (s : List ℕ) (a a' b : ℕ) (out said : List ℕ) (r : Result Mended MendError) → a ≡ a' → MendDone s a b out said r → MendDone s a' b out said r
done_as s a a' b out said r e d = subst (λ (n : ℕ). MendDone s n b out said r) e d
