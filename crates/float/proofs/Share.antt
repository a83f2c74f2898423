-- A share of a mass, (mass * weight) / total, each operation rounded. It can exceed the mass, even where the weight is the whole total (`exceeds`).
-- But rounding never passes a value that the format holds (`not_past`), so a mass of at most 2 ^ 20 in size has no larger share (`share_bounded`, `share_in_range`).
-- Assumes nothing.
use mathlib.Core.Path.{◌≡◌, refl, sym, ap, ◌∙◌, subst}
use mathlib.Core.Logic.{◌⊎◌, inl, inr}
use Prim.Native.Nat.{ℕ, ◌+◌, ◌*◌, ◌^◌, ◌≤◌, ◌<◌, zero-le}
use native.Mathlib.Nat.{le_trans, le_of_eq, le_of_lt, lt_of_le_of_lt, mul-pos, mul-one, one-mul, mul_assoc, mul_comm, mul_left_comm, mul-le-mul_right, le_of_mul-le-mul_right, zero-lt-suc}
use native.Mathlib.Omega.{arith}
use mathlib.Core.Bool.{Bool, true, false, cond, ◌&&◌, ◌||◌, true≢false}
use lib.IntN.{ℤ, pos}
use lib.Dec.{T, ltb, eqb, ltb→lt, eqb→eq, lit<}
use lib.Pow.{pow-add, pow_pos}
use lib.Ieee.{Float, nan, inf, fin, binary32, up, down, unlike, odd, units, round, of_bits, fits, mul, div, lt, le, eq}
use lib.Ieee.Fits.{down_pos, round_is}
use lib.Ieee.Exact.{HasValue, round_exact, units_val}
use lib.Ieee.Bits.{is_true}
use lib.Ieee.Order.{transfer, le_of_values, round_mono, kept, drop}
use lib.Ieee.Scale.{grid}
use lib.Ieee.Positive.{first_pos}
use Rattle.float.specs.Numbers.{zero32, abs_of, share_of}
use Rattle.float.specs.Ranges.{finite?, number?, not_below0?}
use Rattle.float.proofs.Products.{mul_of, div_of}
use Rattle.float.proofs.Units.{units_of, abs_value, value_finite, not_below}
use Rattle.float.proofs.Limits.{limit_finite}

-- mass 1/7, rounded, weight and total 29: the share is the next f32 above the mass
pub exceeds : lt (of_bits binary32 0x3e12_4925) (share_of (of_bits binary32 0x3e12_4925) (of_bits binary32 0x41e8_0000) (of_bits binary32 0x41e8_0000)) ≡ true
unfolding of_bits mul div lt
exceeds = refl

pub by_one : share_of (of_bits binary32 0x3e12_4925) (of_bits binary32 0x41e8_0000) (of_bits binary32 0x41e8_0000) ≡ of_bits binary32 0x3e12_4926
unfolding of_bits mul div
by_one = refl

-- ---- what `round` gives: a number of units, or an infinity
units_or : (s : Bool) (q k : ℕ) → (q * 2 ^ k < 2 ^ 277) ⊎ (units binary32 s q k ≡ inf s)
unfolding units
units_or s q k = go (ltb (q * 2 ^ k) (2 ^ 277)) (ltb→lt (q * 2 ^ k) (2 ^ 277))
  where
    go : (b : Bool) → (T b → q * 2 ^ k < 2 ^ 277) → (q * 2 ^ k < 2 ^ 277) ⊎ (cond b (odd 25 s q k 149) (inf s) ≡ inf s)
    go true h = inl (h tt)
    go false h = inr refl

round_or : (s : Bool) (a c : ℕ) → (grid binary32 a c < 2 ^ 277) ⊎ (round binary32 s a c ≡ inf s)
round_or s a c = elim (units_or s (kept 24 (a * 2 ^ 149) c) (drop 24 (a * 2 ^ 149) c)) [ inl h ↦ inl h | inr e ↦ inr (round_is binary32 s a c ∙ e) ]

pub round_sized : (s : Bool) (a c : ℕ) → grid binary32 a c < 2 ^ 277 → HasValue (round binary32 s a c) s (grid binary32 a c) (2 ^ 149)
round_sized s a c h = subst (λ (z : Float). HasValue z s (grid binary32 a c) (2 ^ 149)) (sym (round_is binary32 s a c)) (units_val binary32 s (kept 24 (a * 2 ^ 149) c) (drop 24 (a * 2 ^ 149) c) h)

-- ---- the order of two values that are not negative
at_most : (a b : ℕ) → T (ltb a b || (eqb a b && true)) → a ≤ b
at_most a b h = go (ltb a b) (eqb a b) (ltb→lt a b) (eqb→eq a b) h
  where
    go : (x y : Bool) → (T x → a < b) → (T y → a ≡ b) → T (x || (y && true)) → a ≤ b
    go true y p q t = le_of_lt (p tt)
    go false true p q t = le_of_eq (q tt)
    go false false p q t = absurd t

of_le : (x y : Float) (a c b d : ℕ) → 0 < c → 0 < d → HasValue x false a c → HasValue y false b d → T (le x y) → a * d ≤ b * c
unfolding le
of_le nan y a c b d C D h k l = absurd h
of_le (inf s) y a c b d C D h k l = absurd h
of_le (fin true m e) y a c b d C D h k l = absurd (true≢false h.0)
of_le (fin false m e) nan a c b d C D h k l = absurd k
of_le (fin false m e) (inf t) a c b d C D h k l = absurd k
of_le (fin false m e) (fin true n g) a c b d C D h k l = absurd (true≢false k.0)
of_le (fin false m e) (fin false n g) a c b d C D h k l =
    transfer a b c d (m * up e) (n * up g) (down e) (down g) (down_pos e) (down_pos g) (sym h.1) (sym k.1) (at_most (m * up e * down g) (n * up g * down e) l)

no_inf : (y : Float) (b d : ℕ) → HasValue y false b d → T (le (inf false) y) → ⊥
unfolding le
no_inf nan b d k l = k
no_inf (inf t) b d k l = k
no_inf (fin t n g) b d k l = l

-- rounding does not pass a value X = q * 2 ^ j units that the format holds
pub not_past : (num den q j : ℕ) → 0 < den → q < 2 ^ 24 → q * 2 ^ j < 2 ^ 277 → num * 2 ^ 149 ≤ q * 2 ^ j * den → grid binary32 num den ≤ q * 2 ^ j
not_past num den q j p small fine h =
    let Z = q * 2 ^ j in
    let Y = round binary32 false Z (2 ^ 149) in
    let y : HasValue Y false Z (2 ^ 149) = round_exact binary32 false Z (2 ^ 149) q j (pow_pos 149) small fine refl in
    let l : T (le (round binary32 false num den) Y) = round_mono binary32 num den Z (2 ^ 149) p (pow_pos 149) h in
    elim (round_or false num den) [
      | inl g ↦ le_of_mul-le-mul_right (of_le (round binary32 false num den) Y (grid binary32 num den) (2 ^ 149) Z (2 ^ 149) (pow_pos 149) (pow_pos 149) (round_sized false num den g) y l) (pow_pos 149)
      | inr e ↦ absurd (no_inf Y Z (2 ^ 149) y (subst (λ (z : Float). T (le z Y)) e l))
    ]

-- ---- the share
scaled_le : (a b k D : ℕ) → a ≤ k * D → a * b * D ≤ b * k * (D * D)
scaled_le a b k D h =
    let e : k * D * b * D ≡ b * k * (D * D) = simp (mul_assoc, mul_comm, mul_left_comm) in
    le_trans (mul-le-mul_right D (mul-le-mul_right b h)) (le_of_eq e)

share_le : (P b g k D : ℕ) → P ≤ b * k → b ≤ g → P * D ≤ 1 * (k * D) * g
share_le P b g k D h l =
    let e : g * k * D ≡ 1 * (k * D) * g = ap (λ (z : ℕ). z) (simp (mul_assoc, mul_comm, mul_left_comm)) ∙ ap (λ (z : ℕ). z * g) (sym (one-mul (k * D))) in
    le_trans (mul-le-mul_right D (le_trans h (mul-le-mul_right k l))) (le_of_eq e)

plain : (s : Bool) → unlike s false ≡ s
plain true = refl
plain false = refl

-- m, w and t are a, b and g units. The mass is at most 2 ^ 20 in size (2 ^ 169 units), and the weight, which is q * 2 ^ j, at most the total
pub share_bounded : (m w t : Float) (s v : Bool) (a b g q j : ℕ) → HasValue m s a (2 ^ 149) → HasValue w v b (2 ^ 149) → HasValue t false g (2 ^ 149)
    → a ≤ 2 ^ 169 → b ≤ g → 0 < g → q < 2 ^ 24 → b ≡ q * 2 ^ j → b * 2 ^ 20 < 2 ^ 277
    → (u : ℕ) × HasValue (share_of m w t) (unlike s v) u (2 ^ 149) × (u ≤ 2 ^ 169)
share_bounded m w t s v a b g q j hm hw ht big le pos' small is fine =
    let D = 2 ^ 149 in
    let P = grid binary32 (a * b) (D * D) in
    let r = unlike s v in
    let e : b * 2 ^ 20 ≡ q * 2 ^ (j + 20) = ap (λ (z : ℕ). z * 2 ^ 20) is ∙ mul_assoc q (2 ^ j) (2 ^ 20) ∙ ap (λ (z : ℕ). q * z) (sym (pow-add 2 j 20)) in
    let p_le : P ≤ b * 2 ^ 20 = subst (λ (z : ℕ). P ≤ z) (sym e)
    (not_past (a * b) (D * D) q (j + 20) (mul-pos (pow_pos 149) (pow_pos 149)) small (subst (λ (z : ℕ). z < 2 ^ 277) e fine) (subst (λ (z : ℕ). a * b * D ≤ z * (D * D)) e (scaled_le a b (2 ^ 20) D big))) in
    let x = mul binary32 m w in
    let hx : HasValue x r P D = subst (λ (z : Float). HasValue z r P D) (sym (mul_of m w s v a b D (pow_pos 149) hm hw)) (round_sized r (a * b) (D * D) (lt_of_le_of_lt p_le fine)) in
    let y_is : share_of m w t ≡ round binary32 r P g = div_of x t r false P g D (pow_pos 149) hx ht pos' ∙ ap (λ (z : Bool). round binary32 z P g) (plain r) in
    let u_le : grid binary32 P g ≤ 2 ^ 169 = not_past P g 1 169 pos' (lit< tt) (lit< tt) (share_le P b g (2 ^ 20) D p_le le) in
    (grid binary32 P g, subst (λ (z : Float). HasValue z r (grid binary32 P g) D) (sym y_is) (round_sized r P g (lt_of_le_of_lt u_le (lit< tt))), u_le)

-- ---- the share of a mass (docs/RULES.md, R7.3): a total that is above 0 and below an infinity, and a weight from 0 to the total
total_finite : (t : Float) (n : ℕ) (d : ℤ) → lt zero32 t ≡ true → le t (fin false n d) ≡ true → finite? t ≡ true
unfolding le lt eq finite?
total_finite nan n d p l = absurd (true≢false (sym p))
total_finite (inf true) n d p l = absurd (true≢false (sym p))
total_finite (inf false) n d p l = absurd (true≢false (sym l))
total_finite (fin s m e) n d p l = refl

weight_finite : (w t : Float) → le zero32 w ≡ true → le w t ≡ true → finite? t ≡ true → finite? w ≡ true
unfolding le lt eq finite?
weight_finite nan t p l f = absurd (true≢false (sym p))
weight_finite (inf true) t p l f = absurd (true≢false (sym p))
weight_finite (inf false) nan p l f = absurd (true≢false (sym f))
weight_finite (inf false) (inf s) p l f = absurd (true≢false (sym f))
weight_finite (inf false) (fin s m e) p l f = absurd (true≢false (sym l))
weight_finite (fin s m e) t p l f = refl

above_zero : (t : Float) (s : Bool) (a c : ℕ) → 0 < c → HasValue t s a c → lt zero32 t ≡ true → (s ≡ false) × (0 < a)
unfolding lt
above_zero nan s a c C h p = absurd h
above_zero (inf r) s a c C h p = absurd h
above_zero (fin true m e) s a c C h p = absurd (true≢false (sym p))
above_zero (fin false m e) s a c C h p =
    let g : 0 < m * up e = pos_of (m * up e) (down e) (ltb→lt (0 * down e) (m * up e * 1) (subst T (sym p) tt)) in
    (sym h.0, first_pos a (down e) (subst (λ (z : ℕ). 0 < z) h.1 (mul-pos g C)))
  where
    pos_of : (x d : ℕ) → 0 * d < x * 1 → 0 < x
    pos_of x d h = omega arith

-- a weight that is at least 0 and at most the total has no more units, and minus zero has none
weight_le : (w t : Float) (v : Bool) (b g : ℕ) → HasValue w v b (2 ^ 149) → HasValue t false g (2 ^ 149) → le zero32 w ≡ true → le w t ≡ true → b ≤ g
weight_le w t false b g hw ht p l = le_of_mul-le-mul_right (of_le w t b (2 ^ 149) g (2 ^ 149) (pow_pos 149) (pow_pos 149) hw ht (subst T (sym l) tt)) (pow_pos 149)
weight_le w t true b g hw ht p l = le_trans (le_of_eq (eqb→eq b 0 (subst T (sym (sym (not_below w true b (2 ^ 149) (pow_pos 149) hw) ∙ p)) tt))) zero-le

-- a magnitude of at most 2 ^ k is one of at most 2 ^ k * 2 ^ 149 units
units_le : (x : Float) (s : Bool) (a k : ℕ) → HasValue x s a (2 ^ 149) → le (abs_of x) (fin false 1 (pos k)) ≡ true → a ≤ 2 ^ k * 2 ^ 149
units_le x s a k h l = le_trans (le_of_eq (sym (mul-one a))) (of_le (abs_of x) (fin false 1 (pos k)) a (2 ^ 149) (2 ^ k) 1 (pow_pos 149) (zero-lt-suc 0) (abs_value x s a (2 ^ 149) h) (refl, simp (one-mul, mul-one)) (subst T (sym l) tt))

-- and at most 2 ^ 169 units are a magnitude of at most 2 ^ 20
units_in_range : (y : Float) (s : Bool) (u : ℕ) → HasValue y s u (2 ^ 149) → u ≤ 2 ^ 169 → (number? y ≡ true) × (finite? y ≡ true)
unfolding number?
units_in_range y s u h l =
    let limit = fin false 1 (pos 20) in (
      is_true (le (abs_of y) limit)
          (le_of_values (abs_of y) limit u (2 ^ 149) (2 ^ 169) (2 ^ 149) (pow_pos 149) (pow_pos 149) (abs_value y s u (2 ^ 149) h) (refl, refl) (mul-le-mul_right (2 ^ 149) l)),
      value_finite y s u (2 ^ 149) h,
    )

room : (b g : ℕ) → b ≤ g → g ≤ 2 ^ 64 * 2 ^ 149 → b * 2 ^ 20 < 2 ^ 277
room b g h l = lt_of_le_of_lt (mul-le-mul_right (2 ^ 20) (le_trans h l)) (lit< tt)

-- (mass times weight) divided by total is finite and of magnitude at most 1,048,576 where the mass is, for 0 <= weight <= total and a total above 0 and at most 2 ^ 64.
-- (The total of an accepted mesh is far below that.)
pub share_in_range : (m w t : Float) → T (fits binary32 m) → T (fits binary32 w) → T (fits binary32 t) → number? m ≡ true → not_below0? w ≡ true → le w t ≡ true → lt zero32 t ≡ true
    → le t (fin false 1 (pos 64)) ≡ true → (number? (share_of m w t) ≡ true) × (finite? (share_of m w t) ≡ true)
unfolding number? not_below0?
share_in_range m w t fm fw ft nm nw l p top =
    let D = 2 ^ 149 in
    let finite_t = total_finite t 1 (pos 64) p top in
    let um = units_of m fm (limit_finite m 1 (pos 20) nm) in
    let uw = units_of w fw (weight_finite w t nw l finite_t) in
    let ut = units_of t ft finite_t in
    let a = um.q * 2 ^ um.j in
    let b = uw.q * 2 ^ uw.j in
    let g = ut.q * 2 ^ ut.j in
    let pt = above_zero t ut.sign g D (pow_pos 149) ut.value p in
    let ht : HasValue t false g D = subst (λ (z : Bool). HasValue t z g D) pt.0 ut.value in
    let bg : b ≤ g = weight_le w t uw.sign b g uw.value ht nw l in
    let g_le : g ≤ 2 ^ 64 * D = le_trans (le_of_eq (sym (mul-one g))) (of_le t (fin false 1 (pos 64)) g D (2 ^ 64) 1 (pow_pos 149) (zero-lt-suc 0) ht (refl, refl) (subst T (sym top) tt)) in
    let r = share_bounded m w t um.sign uw.sign a b g uw.q uw.j um.value uw.value ht (units_le m um.sign a 20 um.value nm) bg pt.1 uw.small refl (room b g bg g_le) in
    units_in_range (share_of m w t) (unlike um.sign uw.sign) r.0 r.1 r.2
