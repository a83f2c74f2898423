-- Sums of f32 numbers that are not below 0, each addition rounded: a sum is at least each of its numbers, and n numbers of at most 2 ^ j have a sum of at most n * 2 ^ j.
-- With them: a mass divided by a count stays in range, and an inverse is finite. Assumes nothing.
use mathlib.Core.Path.{◌≡◌, refl, sym, ap, ap₂, ◌∙◌, subst}
use mathlib.Core.Logic.{inl, inr}
use mathlib.Core.Bool.{Bool, true, false, cond, ◌&&◌, true≢false}
use mathlib.Core.List.{List, [], ◌∷◌}
use Prim.Native.Nat.{ℕ, suc, ◌+◌, ◌-◌, ◌*◌, ◌^◌, ◌≤◌, ◌<◌, zero-le}
use native.Mathlib.Nat.{le_trans, le_of_eq, le_of_lt, lt_of_le_of_lt, mul-one, one-mul, mul_assoc, mul_right_comm, add-mul, suc-mul, mul-le-mul, mul-le-mul_right, le_of_mul-le-mul_right, eq_of_mul-eq-mul_right, eq-zero-or-pos, zero-lt-suc, mul-pos, lt_of_lt_of_le, mul-le-mul_left}
use native.Mathlib.Omega.{arith}
use native.Mathlib.Decide.{dec_lt}
use lib.IntN.{pos, negsuc}
use lib.Dec.{T, lit<, lit≤}
use lib.ListN.{length}
use lib.Pow.{pow_pos, pow_mono}
use lib.Ieee.{Float, nan, inf, fin, binary32, up, down, unlike, round, sum as sum_of, fits, add, of_int, neg, le}
use lib.Ieee.Fits.{down_pos, add-fits}
use lib.Ieee.Exact.{HasValue, round_exact}
use lib.Ieee.Bits.{is_true}
use lib.Ieee.Order.{le_of_values, round_mono}
use lib.Ieee.Scale.{grid, round_same}
use lib.Ieee.Positive.{positive, positive_of_value, above, above_of_le, values_of_le}
use Rattle.lists.specs.Lists.{fold}
use Rattle.float.specs.Numbers.{plus, over, zero32, one, tiny, count32, abs_of, inv_of}
use Rattle.float.specs.Ranges.{finite?, number?}
use Rattle.float.proofs.Units.{units_of, abs_value, value_finite}
use Rattle.float.proofs.Products.{div_of}
use Rattle.float.proofs.Limits.{between, limit_finite}
use Rattle.float.proofs.Share.{not_past, round_sized}
use Rattle.model.specs.Trace.{All}

-- a number not below 0 that f32 holds, by its units
pub record Amount (x : Float) : Type 0 where
  pub fit : T (fits binary32 x)
  pub a : ℕ
  pub value : HasValue x false a (2 ^ 149)

-- a number has its units once
value_once : (x : Float) (s t : Bool) (a b c : ℕ) → HasValue x s a c → HasValue x t b c → (s ≡ t) × (a ≡ b)
value_once nan s t a b c h k = absurd h
value_once (inf r) s t a b c h k = absurd h
value_once (fin r m e) s t a b c h k = (sym h.0 ∙ k.0, eq_of_mul-eq-mul_right (down e) (down_pos e) a b (sym h.1 ∙ k.1))

-- ---- the sum of two

cross : (x y a b c e d : ℕ) → x * c ≡ a * e → y * c ≡ b * d → (x * d + y * e) * c ≡ (a + b) * (e * d)
cross x y a b c e d h k =
    let p : x * d * c ≡ a * (e * d) = mul_right_comm x d c ∙ ap (λ (z : ℕ). z * d) h ∙ mul_assoc a e d in
    let q : y * e * c ≡ b * (e * d) = mul_right_comm y e c ∙ ap (λ (z : ℕ). z * e) k ∙ mul_right_comm b d e ∙ mul_assoc b e d in
    add-mul (x * d) (y * e) c ∙ ap₂ ◌+◌ p q ∙ sym (add-mul a b (e * d))

add_of : (x y : Float) (a b c : ℕ) → 0 < c → HasValue x false a c → HasValue y false b c → add binary32 x y ≡ round binary32 false (a + b) c
unfolding add sum_of
add_of nan y a b c C h k = absurd h
add_of (inf s) y a b c C h k = absurd h
add_of (fin true m e) y a b c C h k = absurd (true≢false h.0)
add_of (fin false m e) nan a b c C h k = absurd k
add_of (fin false m e) (inf t) a b c C h k = absurd k
add_of (fin false m e) (fin true n d) a b c C h k = absurd (true≢false k.0)
add_of (fin false m e) (fin false n d) a b c C h k =
    round_same binary32 false (m * up e * down d + n * up d * down e) (down e * down d) (a + b) c (mul-pos (down_pos e) (down_pos d)) C (cross (m * up e) (n * up d) a b c (down e) (down d) h.1 k.1)

above_positive : (z : Float) (a c : ℕ) → HasValue z false a c → T (above z) → T (positive z)
above_positive nan a c h t = absurd h
above_positive (inf s) a c h t = absurd h
above_positive (fin true m e) a c h t = absurd t
above_positive (fin false m e) a c h t = t

-- rounding does not pass a value that the format holds, from above either
not_under : (num den q j : ℕ) → 0 < den → q < 2 ^ 24 → q * 2 ^ j < 2 ^ 277 → q * 2 ^ j * den ≤ num * 2 ^ 149 → grid binary32 num den < 2 ^ 277 → q * 2 ^ j ≤ grid binary32 num den
not_under num den q j p small fine h low =
    let Z = q * 2 ^ j in
    let D = 2 ^ 149 in
    let Y = round binary32 false Z D in
    let R = round binary32 false num den in
    let y : HasValue Y false Z D = round_exact binary32 false Z D q j (pow_pos 149) small fine refl in
    let r : HasValue R false (grid binary32 num den) D = round_sized false num den low in
    let l : T (le Y R) = round_mono binary32 Z D num den (pow_pos 149) p h in
    elim (eq-zero-or-pos Z) [
      | inl e ↦ le_trans (le_of_eq e) zero-le
      | inr g ↦
          let u = positive_of_value Y Z D y g in
          le_of_mul-le-mul_right (values_of_le Y R Z D (grid binary32 num den) D u (above_positive R (grid binary32 num den) D r (above_of_le Y R u l)) y r l) (pow_pos 149)
    ]

-- an amount is a value that the format holds
pub record Held (a : ℕ) : Type 0 where
  pub q : ℕ
  pub j : ℕ
  pub small : q < 2 ^ 24
  pub is : a ≡ q * 2 ^ j

amount_held : (x : Float) (X : Amount x) → Held X.a
amount_held x X =
    let U = units_of x X.fit (value_finite x false X.a (2 ^ 149) X.value) in
    record { q = U.q; j = U.j; small = U.small; is = (value_once x false U.sign X.a (U.q * 2 ^ U.j) (2 ^ 149) X.value U.value).1 }

held_under : (a num : ℕ) → Held a → a ≤ num → num < 2 ^ 277 → grid binary32 num (2 ^ 149) < 2 ^ 277 → a ≤ grid binary32 num (2 ^ 149)
held_under a num H u w low =
    let e = H.is in
    subst (λ (z : ℕ). z ≤ grid binary32 num (2 ^ 149)) (sym e)
    (not_under num (2 ^ 149) H.q H.j (pow_pos 149) H.small (subst (λ (z : ℕ). z < 2 ^ 277) e (lt_of_le_of_lt u w)) (subst (λ (z : ℕ). z * 2 ^ 149 ≤ num * 2 ^ 149) e (mul-le-mul_right (2 ^ 149) u)) low)

-- the rounded sum of x and y, which is at most q * 2 ^ j
pub record Summed (x y : Float) (X : Amount x) (Y : Amount y) (most : ℕ) : Type 0 where
  pub amount : Amount (plus x y)
  pub left : X.a ≤ amount.a
  pub right : Y.a ≤ amount.a
  pub top : amount.a ≤ most

pub summed : (x y : Float) (X : Amount x) (Y : Amount y) (q j : ℕ) → X.a + Y.a ≤ q * 2 ^ j → q < 2 ^ 24 → q * 2 ^ j < 2 ^ 277 → Summed x y X Y (q * 2 ^ j)
summed x y X Y q j u small fine =
    let n = X.a + Y.a in
    let D = 2 ^ 149 in
    let g = grid binary32 n D in
    let top : g ≤ q * 2 ^ j = not_past n D q j (pow_pos 149) small fine (mul-le-mul_right D u) in
    let low : g < 2 ^ 277 = lt_of_le_of_lt top fine in
    let w : n < 2 ^ 277 = lt_of_le_of_lt u fine in
    let v : HasValue (plus x y) false g D = subst (λ (z : Float). HasValue z false g D) (sym (add_of x y X.a Y.a D (pow_pos 149) X.value Y.value)) (round_sized false n D low) in
    record {
      amount = record { fit = add-fits binary32 x y; a = g; value = v };
      left = held_under X.a n (amount_held x X) (omega arith) w low;
      right = held_under Y.a n (amount_held y Y) (omega arith) w low;
      top = top;
    }

-- ---- the sum of a list

-- an amount of at most m units
abbrev pub UpTo : ℕ → Float → Type 0
UpTo m x = (X : Amount x) × (X.a ≤ m)

-- no more units than m
abbrev pub NoMore : ℕ → Float → Type 0
NoMore m x = (a : ℕ) → HasValue x false a (2 ^ 149) → a ≤ m

-- the sum of a list from acc on: no less than acc and than each number, and no more than so many times 2 ^ j
pub record Totalled (acc : Float) (l : List Float) (from most : ℕ) : Type 0 where
  pub amount : Amount (fold plus acc l)
  pub start : from ≤ amount.a
  pub each : All (NoMore amount.a) l
  pub top : amount.a ≤ most

fine : (q j : ℕ) → q < 2 ^ 24 → j ≤ 253 → q * 2 ^ j < 2 ^ 277
fine q j h l =
    let k : q ≤ 2 ^ 24 - 1 = omega arith in
    lt_of_le_of_lt (mul-le-mul k (pow_mono l)) (lit< tt)

totalled : (j : ℕ) → j ≤ 253 → (l : List Float) → All (UpTo (2 ^ j)) l → (acc : Float) (A : Amount acc) (k : ℕ) → A.a ≤ k * 2 ^ j → k + length l < 2 ^ 24 → Totalled acc l A.a ((k + length l) * 2 ^ j)
unfolding fold
totalled j J [] h acc A k u w = record { amount = A; start = omega arith; each = tt; top = subst (λ (m : ℕ). A.a ≤ m * 2 ^ j) (let e : k ≡ k + 0 = omega arith in e) u }
totalled j J (x ∷ l) h acc A k u w =
    let X = h.0.0 in
    let v = h.0.1 in
    let e = suc-mul k (2 ^ j) in
    let small : suc k < 2 ^ 24 = omega arith in
    let S = summed acc x A X (suc k) j (omega arith) small (fine (suc k) j small J) in
    let R = totalled j J l h.1 (plus acc x) S.amount (suc k) S.top (omega arith) in
    let s = R.start in
    record {
      amount = R.amount;
      start = let p = S.left in omega arith;
      each = (λ a d. let p = S.right in let o = (value_once x false false a X.a (2 ^ 149) d X.value).1 in omega arith, R.each);
      top = subst (λ (m : ℕ). R.amount.a ≤ m * 2 ^ j) (let e : suc k + length l ≡ k + suc (length l) = omega arith in e) R.top;
    }

no_amount : Amount zero32
unfolding fits
no_amount = record { fit = tt; a = 0; value = (refl, refl) }

pub totalled_up : (j : ℕ) → j ≤ 253 → (l : List Float) → All (UpTo (2 ^ j)) l → length l < 2 ^ 24 → Totalled zero32 l 0 (length l * 2 ^ j)
unfolding no_amount
totalled_up j J l h w =
    let e : 0 + length l ≡ length l = omega arith in
    subst (λ (m : ℕ). Totalled zero32 l 0 (m * 2 ^ j)) e (totalled j J l h zero32 no_amount 0 zero-le (omega arith))

-- ---- ranges by units

pub units_number : (y : Float) (s : Bool) (u : ℕ) → HasValue y s u (2 ^ 149) → u ≤ 2 ^ 169 → number? y ≡ true
unfolding number?
units_number y s u h l =
    is_true (le (abs_of y) (fin false 1 (pos 20)))
    (le_of_values (abs_of y) (fin false 1 (pos 20)) u (2 ^ 149) (2 ^ 169) (2 ^ 149) (pow_pos 149) (pow_pos 149) (abs_value y s u (2 ^ 149) h) (refl, refl) (mul-le-mul_right (2 ^ 149) l))

-- a magnitude of at most 2 ^ k
pub limit_units : (x : Float) (s : Bool) (a k : ℕ) → HasValue x s a (2 ^ 149) → le (abs_of x) (fin false 1 (pos k)) ≡ true → a ≤ 2 ^ k * 2 ^ 149
limit_units x s a k h l =
    let v = abs_value x s a (2 ^ 149) h in
    let w : HasValue (fin false 1 (pos k)) false (2 ^ k) 1 = (refl, ap (λ (z : ℕ). z * 1) (one-mul (2 ^ k))) in
    elim (eq-zero-or-pos a) [
      | inl e ↦ le_trans (le_of_eq e) zero-le
      | inr g ↦
          le_trans (le_of_eq (sym (mul-one a)))
          (values_of_le (abs_of x) (fin false 1 (pos k)) a (2 ^ 149) (2 ^ k) 1 (positive_of_value (abs_of x) a (2 ^ 149) v g) (positive_of_value (fin false 1 (pos k)) (2 ^ k) 1 w (pow_pos k)) v w (subst T (sym l) tt))
    ]

-- ---- a mass divided by a count

count_value : (n : ℕ) → n < 2 ^ 24 → HasValue (count32 n) false (n * 2 ^ 149) (2 ^ 149)
unfolding of_int
count_value n l = rescaled (round binary32 false n 1) n (round_exact binary32 false n 1 n 149 (zero-lt-suc 0) l (fine n 149 l (lit≤ tt)) (sym (mul-one (n * 2 ^ 149))))
  where
    rescaled : (x : Float) (n : ℕ) → HasValue x false n 1 → HasValue x false (n * 2 ^ 149) (2 ^ 149)
    rescaled nan n h = h
    rescaled (inf t) n h = h
    rescaled (fin t m e) n h = (h.0, ap (λ (z : ℕ). z * 2 ^ 149) (sym (mul-one (m * up e)) ∙ h.1) ∙ mul_right_comm n (down e) (2 ^ 149))

pub equal_in_range : (m : Float) (n : ℕ) → T (fits binary32 m) → number? m ≡ true → 0 < n → n < 2 ^ 24 → number? (over m (count32 n)) ≡ true
unfolding number?
equal_in_range m n fm nm pn l =
    let D = 2 ^ 149 in
    let U = units_of m fm (limit_finite m 1 (pos 20) nm) in
    let a = U.q * 2 ^ U.j in
    let b = n * D in
    let s = U.sign in
    let b_pos : 0 < b = mul-pos pn (pow_pos 149) in
    let a_le : a ≤ 2 ^ 169 = limit_units m s a 20 U.value nm in
    let y_is : over m (count32 n) ≡ round binary32 (unlike s false) a b = div_of m (count32 n) s false a b D (pow_pos 149) U.value (count_value n l) b_pos in
    let n_one : 1 * D ≤ n * D = mul-le-mul_right D pn in
    let top : grid binary32 a b ≤ 1 * 2 ^ 169 = not_past a b 1 169 b_pos (lit< tt) (lit< tt) (mul-le-mul a_le (le_trans (le_of_eq (sym (one-mul D))) n_one)) in
    units_number (over m (count32 n)) (unlike s false) (grid binary32 a b)
    (subst (λ (z : Float). HasValue z (unlike s false) (grid binary32 a b) D) (sym y_is) (round_sized (unlike s false) a b (lt_of_le_of_lt top (lit< tt)))) top

-- ---- an inverse

and_swap : (a b : Bool) → (a && b) ≡ true → (b && a) ≡ true
and_swap true true e = refl
and_swap true false e = e
and_swap false b e = absurd (true≢false (sym e))

pub inverse_finite : (x : Float) → T (fits binary32 x) → finite? x ≡ true → finite? (inv_of x) ≡ true
unfolding inv_of neg finite?
inverse_finite x fx ok = by (le (fin true 1547425 (negsuc 86)) x && le x tiny) refl
  where
    far : (le (fin true 1547425 (negsuc 86)) x && le x tiny) ≡ false → finite? (over one x) ≡ true
    far e =
        let D = 2 ^ 149 in
        let U = units_of x fx ok in
        let a = U.q * 2 ^ U.j in
        let near : a ≤ 1547425 * 2 ^ 62 → ⊥
        = λ u.
        let t : le (abs_of x) tiny ≡ true = is_true (le (abs_of x) tiny) (le_of_values (abs_of x) tiny a D (1547425 * 2 ^ 62) D (pow_pos 149) (pow_pos 149) (abs_value x U.sign a D U.value) (refl, refl) (mul-le-mul_right D u)) in
        true≢false (sym (and_swap (le x tiny) (le (fin true 1547425 (negsuc 86)) x) (sym (between x 1547425 (negsuc 86)) ∙ t)) ∙ e) in
        let big : 2 ^ 82 ≤ a = elim (dec_lt (1547425 * 2 ^ 62) a) [ yes h ↦ le_trans {m = 1547425 * 2 ^ 62} (lit≤ tt) (le_of_lt h) | no h ↦ absurd (near (omega arith)) ] in
        let a_pos : 0 < a = lt_of_lt_of_le (lit< tt) big in
        let y_is : over one x ≡ round binary32 (unlike false U.sign) D a = div_of one x false U.sign D a D (pow_pos 149) (refl, refl) U.value a_pos in
        let top : grid binary32 D a ≤ 1 * 2 ^ 216 = not_past D a 1 216 a_pos (lit< tt) (lit< tt) (le_trans (lit≤ tt) (mul-le-mul_left (1 * 2 ^ 216) big)) in
        value_finite (over one x) (unlike false U.sign) (grid binary32 D a) D
        (subst (λ (z : Float). HasValue z (unlike false U.sign) (grid binary32 D a) D) (sym y_is) (round_sized (unlike false U.sign) D a (lt_of_le_of_lt top (lit< tt))))

    by : (b : Bool) → (le (fin true 1547425 (negsuc 86)) x && le x tiny) ≡ b → finite? (cond b zero32 (over one x)) ≡ true
    by true e = refl
    by false e = far e
