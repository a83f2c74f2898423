-- An f32 read from its bit pattern, for the cases that `root` tells apart. Assumes nothing.
use mathlib.Core.Path.{◌≡◌, refl, sym, ap, ◌∙◌, subst}
use Prim.Native.Nat.{ℕ, zero, suc, ◌+◌, ◌-◌, ◌*◌, ◌/◌, ◌%◌, ◌^◌, ◌≤◌, ◌<◌}
use mathlib.Core.Logic.{◌⊎◌, inl, inr}
use native.Mathlib.Nat.{eq-or-lt_of_le, lt_irrefl, mul-div_cancel, mul-pos}
use native.Mathlib.Omega.{arith}
use mathlib.Core.Bool.{Bool, true, false, not, cond, true≢false}
use lib.IntN.{pos}
use lib.Dec.{T, leb, eqb, ltb, eqb→eq, ltb→lt, nltb→le, not_T, le→leb}
use lib.Arith.{lt→nleb, le→nltb}
use lib.Pow.{pow_pos}
use lib.Ieee.{Float, nan, inf, fin, down, binary32, odd, of_fields, of_bits, to_bits, nan_bits, is_nan, fits, ne}
use lib.Ieee.Compare.{differs_from_itself, nan_differs}
use lib.Ieee.Fits.{down_pos}
use lib.Ieee.Exact.{HasValue, odd_sign}
use lib.Ieee.Bits.{is_true, is_false, cond_no, of_bits-fits, of_bits-to_bits, nan_bits_above}
use Rattle.std.specs.Prelude.{Option, None, Some}
use Rattle.float.specs.Root.{RootBits, RootOfUnits, RootAt, RootOf}

pub lt_or_ge : (a b : ℕ) → (a < b) ⊎ (b ≤ a)
lt_or_ge a b = go (ltb a b) (ltb→lt a b) (nltb→le a b)
  where
    go : (t : Bool) → (T t → a < b) → (T (not t) → b ≤ a) → (a < b) ⊎ (b ≤ a)
    go true p q = inl (p tt)
    go false p q = inr (q tt)

-- a pattern, by its three fields
pub read : (b : ℕ) (s : Bool) (x t : ℕ) → leb (2 ^ 31) b ≡ s → b % 2 ^ 31 / 2 ^ 23 ≡ x → b % 2 ^ 23 ≡ t → of_bits binary32 b ≡ of_fields binary32 s x t
unfolding of_bits
read b s x t p q r = ap (λ (z : Bool). of_fields binary32 z (b % 2 ^ 31 / 2 ^ 23) (b % 2 ^ 23)) p ∙ ap (λ (z : ℕ). of_fields binary32 s z (b % 2 ^ 23)) q ∙ ap (λ (z : ℕ). of_fields binary32 s x z) r

pub positive : (b : ℕ) → b < 2 ^ 31 → leb (2 ^ 31) b ≡ false
positive b h = is_false (leb (2 ^ 31) b) (lt→nleb (2 ^ 31) b h)

pub negative : (b : ℕ) → 2 ^ 31 ≤ b → leb (2 ^ 31) b ≡ true
negative b h = is_true (leb (2 ^ 31) b) (le→leb (2 ^ 31) b h)

-- an exponent's field from 1 to 254
pub normal : (s : Bool) (x t : ℕ) → x < 254 → of_fields binary32 s (suc x) t ≡ odd 24 s (2 ^ 23 + t) x 149
unfolding of_fields
normal s x t h = cond_no (eqb (suc x) 255) (cond (eqb t 0) (inf s) nan) (odd 24 s (2 ^ 23 + t) x 149) (not_T (eqb (suc x) 255) (λ e. no x h (eqb→eq (suc x) 255 e)))
  where
    no : (x : ℕ) → x < 254 → suc x ≡ 255 → ⊥
    no x h e = omega arith

pub subnormal : (s : Bool) (t : ℕ) → of_fields binary32 s 0 t ≡ odd 24 s t 0 149
unfolding of_fields
subnormal s t = refl

-- ---- the value of the pattern k * 2 ^ 23 + q: q * 2 ^ k units
pub pattern_value : (q k : ℕ) → 2 ^ 23 ≤ q → q < 2 ^ 24 → k ≤ 252 → HasValue (of_bits binary32 (k * 2 ^ 23 + q)) false (q * 2 ^ k) (2 ^ 149)
pattern_value q k lo hi h =
    let b = k * 2 ^ 23 + q in
    let t = q - 2 ^ 23 in
    let e : of_bits binary32 b ≡ odd 24 false (2 ^ 23 + t) k 149 =
    read b false (suc k) t (positive b (omega arith)) (omega arith) (omega arith) ∙ normal false k t (omega arith) in
    let back : 2 ^ 23 + t ≡ q = omega arith in
    subst (λ (z : Float). HasValue z false (q * 2 ^ k) (2 ^ 149)) (sym e)
    (subst (λ (z : ℕ). HasValue (odd 24 false (2 ^ 23 + t) k 149) false (z * 2 ^ k) (2 ^ 149)) back (odd_sign 24 false (2 ^ 23 + t) k 149))

pub of_bits_lem : (n b : ℕ) → RootBits n b → RootOfUnits n (of_bits binary32 b)
of_bits_lem n b h =
    record {
      q = h.q;
      k = h.k;
      held = of_bits-fits binary32 b;
      size =
          subst (λ (z : ℕ). HasValue (of_bits binary32 z) false (h.q * 2 ^ h.k) (2 ^ 149)) (sym h.is)
          (pattern_value h.q h.k h.nearest.digits h.nearest.fewer h.small);
      nearest = h.nearest;
    }

pub no_nan_pattern : (n b : ℕ) → RootBits n b → T (not (nan_bits binary32 b))
no_nan_pattern n b h =
    let is = h.is in
    let small = h.small in
    let fewer = h.nearest.fewer in
    subst (λ (z : Bool). T (not z)) (sym (nan_bits_above binary32 b)) (le→nltb (255 * 2 ^ 23) (b % 2 ^ 31) (omega arith))

-- ---- what is asked of the answer, for an x of the sign s and of n units
pub sized : (x : Float) (s : Bool) (n : ℕ) (a : Option Float) → HasValue x s n (2 ^ 149) → RootAt s n x a → RootOf x a
sized nan s n a v h = absurd v
sized (inf t) s n a v h = absurd v
sized (fin t m e) s n a v h =
    subst (λ (z : ℕ). RootAt t z (fin t m e) a) (sym (ap (λ (z : ℕ). z / down e) v.1 ∙ mul-div_cancel n (down_pos e)))
    (subst (λ (z : Bool). RootAt z n (fin t m e) a) (sym v.0) h)

refused : (n : ℕ) (x : Float) → 0 < n → RootAt true n x None
refused zero x h = absurd (lt_irrefl 0 h)
refused (suc n) x h = refl

answered : (n : ℕ) (x r : Float) → 0 < n → RootOfUnits n r → RootAt false n x (Some r)
answered zero x r h u = absurd (lt_irrefl 0 h)
answered (suc n) x r h u = (r, refl, u)

pub below_zero : (q k : ℕ) → 0 < q → RootOf (odd 24 true q k 149) None
below_zero q k h = sized (odd 24 true q k 149) true (q * 2 ^ k) None (odd_sign 24 true q k 149) (refused (q * 2 ^ k) (odd 24 true q k 149) (mul-pos h (pow_pos k)))

pub above_zero : (q k : ℕ) (r : Float) → 0 < q → RootOfUnits (q * 2 ^ k) r → RootOf (odd 24 false q k 149) (Some r)
above_zero q k r h u = sized (odd 24 false q k 149) false (q * 2 ^ k) (Some r) (odd_sign 24 false q k 149) (answered (q * 2 ^ k) (odd 24 false q k 149) r (mul-pos h (pow_pos k)) u)

-- ---- the four cases of a pattern b that is no NaN's
zero_is : (s : Bool) → of_fields binary32 s 0 0 ≡ fin s 0 (pos 0)
unfolding of_fields
zero_is s = refl

pub at_zero : (b : ℕ) → b % 2 ^ 31 ≡ 0 → RootOf (of_bits binary32 b) (Some (of_bits binary32 b))
at_zero b h =
    let s = leb (2 ^ 31) b in
    let f : b % 2 ^ 31 / 2 ^ 23 ≡ 0 = omega arith in
    let d : b % 2 ^ 23 ≡ 0 = omega arith in
    subst (λ (z : Float). RootOf z (Some z)) (sym (read b s 0 0 refl f d ∙ zero_is s)) refl

topmost : (s : Bool) (t : ℕ) → RootOf (of_fields binary32 s 255 t) None
unfolding of_fields
topmost s t = go (eqb t 0)
  where
    go : (z : Bool) → RootOf (cond z (inf s) nan) None
    go true = refl
    go false = refl

negatives : (f t : ℕ) → f ≤ 255 → (f ≡ 0 → 0 < t) → RootOf (of_fields binary32 true f t) None
negatives zero t h n = subst (λ (z : Float). RootOf z None) (sym (subnormal true t)) (below_zero t 0 (n refl))
negatives (suc x) t h n = go (eq-or-lt_of_le h)
  where
    go : (suc x ≡ 255) ⊎ (suc x < 255) → RootOf (of_fields binary32 true (suc x) t) None
    go (inl e) = subst (λ (z : ℕ). RootOf (of_fields binary32 true z t) None) (sym e) (topmost true t)
    go (inr l) = subst (λ (z : Float). RootOf z None) (sym (normal true x t (omega arith))) (below_zero (2 ^ 23 + t) x (omega arith))

pub at_infinity : (b : ℕ) → b < 2 ^ 32 → (b % 2 ^ 31 ≡ 0 → ⊥) → 255 * 2 ^ 23 ≤ b → RootOf (of_bits binary32 b) None
at_infinity b w n h = elim (lt_or_ge b (2 ^ 31)) [
  | inl l ↦
      let f : b % 2 ^ 31 / 2 ^ 23 ≡ 255 = omega arith in
      subst (λ (z : Float). RootOf z None) (sym (read b false 255 (b % 2 ^ 23) (positive b l) f refl)) (topmost false (b % 2 ^ 23))
  | inr g ↦
      let f = b % 2 ^ 31 / 2 ^ 23 in
      let t = b % 2 ^ 23 in
      subst (λ (z : Float). RootOf z None) (sym (read b true f t (negative b g) refl refl))
      (negatives f t (omega arith) (λ e. omega arith))
]

pub at_subnormal : (b r : ℕ) → (b % 2 ^ 31 ≡ 0 → ⊥) → b < 255 * 2 ^ 23 → b / 2 ^ 23 ≡ 0 → RootBits (b % 2 ^ 23 * 2 ^ 0) r → RootOf (of_bits binary32 b) (Some (of_bits binary32 r))
at_subnormal b r n l z h =
    let t = b % 2 ^ 23 in
    let f : b % 2 ^ 31 / 2 ^ 23 ≡ 0 = omega arith in
    subst (λ (y : Float). RootOf y (Some (of_bits binary32 r))) (sym (read b false 0 t (positive b (omega arith)) f refl ∙ subnormal false t))
    (above_zero t 0 (of_bits binary32 r) (omega arith) (of_bits_lem (t * 2 ^ 0) r h))

pub at_normal : (b r : ℕ) → b < 255 * 2 ^ 23 → (b / 2 ^ 23 ≡ 0 → ⊥) → RootBits ((b % 2 ^ 23 + 2 ^ 23) * 2 ^ (b / 2 ^ 23 - 1)) r → RootOf (of_bits binary32 b) (Some (of_bits binary32 r))
at_normal b r l z h =
    let t = b % 2 ^ 23 in
    let x = b / 2 ^ 23 - 1 in
    let f : b % 2 ^ 31 / 2 ^ 23 ≡ suc x = omega arith in
    let m : t + 2 ^ 23 ≡ 2 ^ 23 + t = omega arith in
    subst (λ (y : Float). RootOf y (Some (of_bits binary32 r))) (sym (read b false (suc x) t (positive b (omega arith)) f refl ∙ normal false x t (omega arith)))
    (above_zero (2 ^ 23 + t) x (of_bits binary32 r) (omega arith) (of_bits_lem ((2 ^ 23 + t) * 2 ^ x) r (subst (λ (y : ℕ). RootBits (y * 2 ^ x) r) m h)))

-- ---- x itself
pub is_a_nan : (x : Float) → ne x x ≡ true → RootOf x None
is_a_nan x h = subst (λ (z : Float). RootOf z None) (sym (differs_from_itself x (subst T (sym h) tt))) refl

pub is_no_nan : (x : Float) → ne x x ≡ false → T (not (is_nan x))
unfolding is_nan
is_no_nan nan h = absurd (true≢false (sym nan_differs ∙ h))
is_no_nan (inf s) h = tt
is_no_nan (fin s m e) h = tt

-- what holds of the value that x's own bits are read as holds of x
pub by_bits : (x : Float) (P : Float → Type 0) → T (fits binary32 x) → P (of_bits binary32 (to_bits binary32 x)) → P x
by_bits x P f h = subst P (of_bits-to_bits binary32 x f) h
