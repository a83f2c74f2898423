-- What the contract of the writers says, case by case, and that any two outcomes it allows agree. Assumes nothing.
use Prim.Native.Nat.{ℕ, ◌-◌, ◌≤◌, ◌<◌}
use native.Mathlib.Omega.{arith}
use native.Mathlib.Nat.{sub-zero}
use native.Mathlib.Decide.{dec_le}
use mathlib.Core.Path.{◌≡◌, refl, sym, ap, subst, ◌∙◌}
use mathlib.Core.List.{List}
use lib.ListN.{length, take, replicate}
use lib.Seq.{take_at}
use borrow.Author.Tests.{le-leb, lt-leb}
use Rattle.lists.specs.Lists.{padded}
use Rattle.std.specs.Prelude.{Option, None, Some}
use Rattle.listing.specs.Answers.{answer_for, shown_for, Wrote, Told}

-- the two cases of the contract
pub record Whole (text : List ℕ) (lent : ℕ) (s : List ℕ) (r : Option ℕ) : Type 0 where
  pub fits : length text ≤ lent
  pub count : r ≡ Some (length text)
  pub shown : s ≡ padded lent 0 text

pub record TooLong (text : List ℕ) (lent : ℕ) (s : List ℕ) (r : Option ℕ) : Type 0 where
  pub longer : lent < length text
  pub short : r ≡ None
  pub cleared : s ≡ replicate lent 0

module _ (text : List ℕ) (lent : ℕ) (s : List ℕ) (r : Option ℕ) (w : Wrote text lent s r) where
  whole : length text ≤ lent → Whole text lent s r
  unfolding answer_for shown_for
  whole h =
      record {
        fits = h;
        count = w.answer ∙ rw (le-leb (length text) lent h);
        shown = w.bytes ∙ rw (le-leb (length text) lent h);
      }

  too_long : lent < length text → TooLong text lent s r
  unfolding answer_for shown_for padded
  too_long h =
      record {
        longer = h;
        short = w.answer ∙ rw (lt-leb (length text) lent h);
        cleared = w.bytes ∙ rw (lt-leb (length text) lent h) (ap (λ (n : ℕ). replicate {A = ℕ} n 0) (sub-zero lent));
      }

  -- an answer of n bytes: the text has n bytes, and the first n of those lent are the text
  pub wrote_bytes : (n : ℕ) → r ≡ Some n → (n ≡ length text) × (take n s ≡ text) × (s ≡ padded lent 0 text)
  unfolding padded
  wrote_bytes n e =
      elim (dec_le (length text) lent) [
        | yes h ↦
            let v : Whole text lent s r = whole h in
            let c : r ≡ Some (length text) = v.count in
            let f : n ≡ length text = cc in
            (f, rw (v.shown, f) (take_at text (replicate (lent - length text) 0) (length text) refl), v.shown)
        | no h ↦
            let v : TooLong text lent s r = too_long (omega arith) in
            let c : r ≡ None = v.short in
            let z : ◌≡◌ {A = ℕ} 0 1 = cc in
            absurd (omega arith)
      ]

  -- the answer that the lent bytes are too few: so they are, and each is 0
  pub wrote_short : r ≡ None → (lent < length text) × (s ≡ replicate lent 0)
  wrote_short e =
      elim (dec_le (length text) lent) [
        | yes h ↦
            let v : Whole text lent s r = whole h in
            let c : r ≡ Some (length text) = v.count in
            let z : ◌≡◌ {A = ℕ} 0 1 = cc in
            absurd (omega arith)
        | no h ↦ let v : TooLong text lent s r = too_long (omega arith) in (v.longer, v.cleared)
      ]

-- two outcomes of one call agree
pub wrote_agree : (text : List ℕ) (lent : ℕ) (s s' : List ℕ) (r r' : Option ℕ) → Wrote text lent s r → Wrote text lent s' r' → (s ≡ s') × (r ≡ r')
wrote_agree text lent s s' r r' w w' = (w.bytes ∙ sym w'.bytes, w.answer ∙ sym w'.answer)

-- ---- a text that 65,536 bytes are enough for

-- so many lent bytes hold the whole text, and the answer is its length
pub told_whole : (text : List ℕ) (lent : ℕ) (s : List ℕ) (r : Option ℕ) → Told text lent s r → 65536 ≤ lent → (r ≡ Some (length text)) × (take (length text) s ≡ text)
told_whole text lent s None T h = absurd (omega (arith, (wrote_short text lent s None T.wrote refl).0, T.enough))
told_whole text lent s (Some n) T h =
    let w = wrote_bytes text lent s (Some n) T.wrote n refl in
    (ap Some w.0, subst (λ (k : ℕ). take k s ≡ text) w.0 w.1)

-- two outcomes of one call agree
pub told_agree : (text : List ℕ) (lent : ℕ) (s s' : List ℕ) (r r' : Option ℕ) → Told text lent s r → Told text lent s' r' → (s ≡ s') × (r ≡ r')
told_agree text lent s s' r r' T T' = wrote_agree text lent s s' r r' T.wrote T'.wrote
