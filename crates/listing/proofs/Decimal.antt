-- Laws of decimal digits: a number's are those of its tenth and its last; read back they are the number; each is a digit, and the first is not 0 but of 0. Assumes nothing.
use Prim.Native.Nat.{ℕ, zero, suc, ◌+◌, ◌-◌, ◌*◌, ◌/◌, ◌%◌, ◌≤◌, ◌<◌}
use native.Mathlib.Omega.{arith}
use native.Mathlib.Nat.{le_refl}
use native.Mathlib.Decide.{dec_le}
use mathlib.Core.Path.{◌≡◌, refl, sym, ap, subst, ◌∙◌}
use mathlib.Core.Bool.{true}
use mathlib.Core.List.{List, [], ◌∷◌, ◌++◌}
use borrow.Author.Tests.{le-ltb, lt-ltb, le-leb}
use Rattle.lists.specs.Lists.{all, head_or}
use Rattle.lists.proofs.Sifts.{all_append, true_and}
use Rattle.listing.specs.Listing.{digit, decimal_by, decimal, value_from, value_of, digit?}

-- ---- however often a tenth may be taken

by_small : (k n : ℕ) → n < 10 → decimal_by k n ≡ digit n ∷ []
unfolding decimal_by
by_small zero n h = refl
by_small (suc k) n h = rw (lt-ltb n 10 h)

by_more : (k n : ℕ) → 10 ≤ n → decimal_by (suc k) n ≡ decimal_by k (n / 10) ++ (digit (n % 10) ∷ [])
unfolding decimal_by
by_more k n h = rw (le-ltb n 10 h)

-- often enough is often enough
enough : (k j n : ℕ) → n ≤ k → n ≤ j → decimal_by k n ≡ decimal_by j n
enough zero j n h g = by_small zero n (omega arith) ∙ sym (by_small j n (omega arith))
enough (suc k) zero n h g = by_small (suc k) n (omega arith) ∙ sym (by_small zero n (omega arith))
enough (suc k) (suc j) n h g =
    elim (dec_le 10 n) [
      | yes l ↦
          by_more k n l
          ∙ ap (λ (d : List ℕ). d ++ (digit (n % 10) ∷ [])) (enough k j (n / 10) (omega arith) (omega arith))
          ∙ sym (by_more j n l)
      | no l ↦ by_small (suc k) n (omega arith) ∙ sym (by_small (suc j) n (omega arith))
    ]

-- ---- the digits of a number

-- below 10 there is one digit
pub decimal_small : (n : ℕ) → n < 10 → decimal n ≡ digit n ∷ []
unfolding decimal
decimal_small n h = by_small n n h

-- else those of the tenth, then the last
pub decimal_more : (n : ℕ) → 10 ≤ n → decimal n ≡ decimal (n / 10) ++ (digit (n % 10) ∷ [])
unfolding decimal
decimal_more zero h = absurd (omega arith)
decimal_more (suc m) h =
    by_more m (suc m) h
    ∙ ap (λ (d : List ℕ). d ++ (digit (suc m % 10) ∷ [])) (enough m (suc m / 10) (suc m / 10) (omega arith) (le_refl (suc m / 10)))

-- what holds of one digit, and passes from the digits of a tenth to those of the number, holds of every number's digits
decimal_by_lem : (P : ℕ → List ℕ → Type 0) → ((n : ℕ) → n < 10 → P n (digit n ∷ []))
    → ((n : ℕ) (d : List ℕ) → 10 ≤ n → P (n / 10) d → P n (d ++ (digit (n % 10) ∷ []))) → (k n : ℕ) → n ≤ k → P n (decimal n)
decimal_by_lem P one more zero n h = subst (P n) (sym (decimal_small n (omega arith))) (one n (omega arith))
decimal_by_lem P one more (suc k) n h =
    elim (dec_le 10 n) [
      | yes l ↦ subst (P n) (sym (decimal_more n l)) (more n (decimal (n / 10)) l (decimal_by_lem P one more k (n / 10) (omega arith)))
      | no l ↦ subst (P n) (sym (decimal_small n (omega arith))) (one n (omega arith))
    ]

-- ---- digits are read back

value_last : (m : ℕ) (l : List ℕ) (b : ℕ) → value_from m (l ++ (b ∷ [])) ≡ 10 * value_from m l + (b - 48)
unfolding value_from
value_last m [] b = refl
value_last m (a ∷ l) b = value_last (10 * m + (a - 48)) l b

pub decimal_value : (n : ℕ) → value_of (decimal n) ≡ n
unfolding value_of value_from
decimal_value n =
    decimal_by_lem (λ (m : ℕ) (d : List ℕ). value_of d ≡ m) (λ m h. omega arith)
    (λ m d h e. value_last 0 d (digit (m % 10)) ∙ let f : value_from 0 d ≡ m / 10 = e in omega arith)
    n n (le_refl n)

-- ---- each byte is a digit

digit_is : (d : ℕ) → d < 10 → digit? (digit d) ≡ true
digit_is d h = true_and (le-leb 48 (48 + d) (omega arith)) (le-leb (48 + d) 57 (omega arith))

pub decimal_digits : (n : ℕ) → all digit? (decimal n) ≡ true
unfolding all
decimal_digits n =
    decimal_by_lem (λ (m : ℕ) (d : List ℕ). all digit? d ≡ true) (λ m h. true_and (digit_is m h) refl)
    (λ m d h e. all_append digit? d (digit (m % 10) ∷ []) ∙ true_and e (true_and (digit_is (m % 10) (omega arith)) refl))
    n n (le_refl n)

-- ---- no leading 0

-- the first byte stays where one goes behind it
head_stays : (d : List ℕ) (b : ℕ) → 49 ≤ head_or 0 d → 49 ≤ head_or 0 (d ++ (b ∷ []))
head_stays [] b h = absurd (omega arith)
head_stays (a ∷ d) b h = h

pub decimal_leads : (n : ℕ) → 1 ≤ n → 49 ≤ head_or 0 (decimal n)
decimal_leads n l =
    decimal_by_lem (λ (m : ℕ) (d : List ℕ). 1 ≤ m → 49 ≤ head_or 0 d) (λ m h g. omega arith)
    (λ m d h e g. head_stays d (digit (m % 10)) (e (omega arith)))
    n n (le_refl n) l

-- 0 is the one byte `0`
pub decimal_zero : decimal 0 ≡ 48 ∷ []
decimal_zero = decimal_small 0 (omega arith)
