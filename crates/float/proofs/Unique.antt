-- Any two answers that the definition of the root allows agree. Assumes nothing.
use mathlib.Core.Path.{◌≡◌, sym, ap, ◌∙◌, subst}
use mathlib.Core.Bool.{Bool, true, false}
use Prim.Native.Nat.{ℕ, zero, suc, ◌+◌, ◌-◌, ◌*◌, ◌^◌, ◌≤◌, ◌<◌}
use native.Mathlib.Nat.{le_antisymm, le_of_eq, lt_trans, le_of_suc-le-suc, lt_of_not-le, lt_of_mul-lt-mul_right, le_trans, mul-le-mul_right, pow-succ', pow-le-pow_right, zero-lt-suc}
use native.Mathlib.Omega.{arith}
use lib.Pow.{pow_pos}
use lib.Ieee.{Float, nan, inf, fin, binary32}
use lib.Ieee.Exact.{HasValue}
use Rattle.std.specs.Prelude.{Option, Some}
use Rattle.float.specs.Root.{Nearest, RootOfUnits, RootAt, RootOf, in_units}
use Rattle.float.proofs.Squares.{sq_lt, sq_mono}
use Rattle.float.proofs.Values.{same_value}

-- `omega` takes no number of more than 38 digits, so n * 2 ^ 149 stands as N
no_higher : (N D P J : ℕ) → 4 * N < D → D ≤ 2 ^ 50 * P → 4 * P ≤ J → 2 ^ 46 * J ≤ N → ⊥
no_higher N D P J a b c d = omega arith

wide : (q : ℕ) → q < 2 ^ 24 → 2 * q + 1 ≤ 2 ^ 25
wide q h = omega arith

-- a root's place is no higher than another's
place_le : (n q k r j : ℕ) → Nearest n q k → Nearest n r j → j ≤ k
place_le n q k r j a b = le_of_suc-le-suc (lt_of_not-le (λ (g : suc k ≤ j).
    no_higher (n * 2 ^ 149) ((2 * q + 1) * (2 * q + 1) * 4 ^ k) (4 ^ k) (4 ^ j) a.below (mul-le-mul_right (4 ^ k) (sq_mono {a = 2 * q + 1} {b = 2 ^ 25} (wide q a.fewer)))
    (le_trans (le_of_eq (sym (pow-succ' 4 k))) (pow-le-pow_right {n = 4} (zero-lt-suc 3) g)) b.place))

half : (q r : ℕ) → 2 * q - 1 < 2 * r + 1 → q ≤ r
half q r h = omega arith

-- at one place, a root's digits are no more than another's
digits_le : (n q r k : ℕ) → Nearest n q k → Nearest n r k → q ≤ r
digits_le n q r k a b =
    let h : (2 * q - 1) * (2 * q - 1) < (2 * r + 1) * (2 * r + 1) = lt_of_mul-lt-mul_right (4 ^ k) (lt_trans a.above b.below) in
    let g : 2 * q - 1 < 2 * r + 1 = sq_lt {a = 2 * q - 1} {b = 2 * r + 1} h in
    half q r g

pub nearest_unique : (n q k r j : ℕ) → Nearest n q k → Nearest n r j → (q ≡ r) × (k ≡ j)
nearest_unique n q k r j a b =
    let e : k ≡ j = le_antisymm (place_le n r j q k b a) (place_le n q k r j a b) in
    let c : Nearest n r k = subst (λ (z : ℕ). Nearest n r z) (sym e) b in
    (le_antisymm (digits_le n q r k a c) (digits_le n r q k c a), e)

pub units_unique : (n : ℕ) (x y : Float) → RootOfUnits n x → RootOfUnits n y → x ≡ y
units_unique n x y a b =
    let u = nearest_unique n a.q a.k b.q b.k a.nearest b.nearest in
    same_value binary32 x y false (a.q * 2 ^ a.k) (2 ^ 149) (pow_pos 149) a.held b.held a.size
    (subst (λ (z : ℕ). HasValue y false z (2 ^ 149)) (sym (ap (λ (z : ℕ). z * 2 ^ a.k) u.0 ∙ ap (λ (z : ℕ). b.q * 2 ^ z) u.1)) b.size)

at_unique : (s : Bool) (n : ℕ) (x : Float) (a b : Option Float) → RootAt s n x a → RootAt s n x b → a ≡ b
at_unique true zero x a b p q = p ∙ sym q
at_unique false zero x a b p q = p ∙ sym q
at_unique true (suc n) x a b p q = p ∙ sym q
at_unique false (suc n) x a b p q = p.1 ∙ ap Some (units_unique (suc n) p.0 q.0 p.2 q.2) ∙ sym q.1

pub root_unique : (x : Float) (a b : Option Float) → RootOf x a → RootOf x b → a ≡ b
root_unique nan a b p q = p ∙ sym q
root_unique (inf s) a b p q = p ∙ sym q
root_unique (fin s m e) a b p q = at_unique s (in_units m e) (fin s m e) a b p q
