-- With whole coordinates from -1024 to 1024: the fraction of a hit is within 1 / 16,777,216 of the true one, |dp| / (|dp| + |dq|). Assumes nothing.
use mathlib.Core.Path.{◌≡◌, refl, subst}
use Prim.Native.Nat.{ℕ, ◌+◌, ◌^◌}
use native.Mathlib.Omega.{arith}
use mathlib.Core.Bool.{Bool, true, false, cond, ◌&&◌, ◌||◌}
use lib.IntN.{ℤ, nat_abs}
use lib.Ieee.{Float, binary32, sub, mul, div, lt, le, eq}
use Rattle.blade.specs.declared.Point.{Point}
use Rattle.blade.specs.declared.Hit.TheVariants.{Miss, Hit as HitAt}
use Rattle.float.specs.Numbers.{zero32}
use Rattle.blade.specs.Points.{minus_of, dot_of}
use Rattle.blade.specs.Blade.{offset_along, hit_point, clamp_low, clamp_high, blade_hit_of}
use Rattle.float.specs.Whole.{Near}
use Rattle.blade.specs.Whole.{IsPoint, side_of}
use Rattle.blade.proofs.Sides.{offset_is, abs_minus}
use Rattle.blade.proofs.Fraction.{fraction_near}

never : {X : Type 0} (t : Float) (at : Point) → Miss ≡ HitAt t at → X
never t at h = let z : ◌≡◌ {A = ℕ} 0 1 = cc in absurd (no z)
  where
    no : ◌≡◌ {A = ℕ} 0 1 → ⊥
    no z = omega arith

-- a hit comes by all three tests
by_tests : (u t : Float) (met at : Point) (x y z : Bool) → cond (x || y) Miss (cond z (HitAt u met) Miss) ≡ HitAt t at → (x ≡ false) × (y ≡ false) × (u ≡ t)
by_tests u t met at true y z h = never t at h
by_tests u t met at false true z h = never t at h
by_tests u t met at false false true h = (refl, refl, cc)
by_tests u t met at false false false h = never t at h

-- A hit's fraction t is within 1 / 16,777,216 of the true one, for a blade and an edge whose coordinates are whole numbers from -1,024 to 1,024.
-- (The true fraction is the distance of p from the blade's line, divided by the sum of the distances of p and q, on its two sides.)
pub hit_near : (b0 b1 p q : Point) (x0 y0 x1 y1 xp yp xq yq : ℤ) → IsPoint b0 x0 y0 → IsPoint b1 x1 y1 → IsPoint p xp yp → IsPoint q xq yq → (t : Float) (at : Point) → blade_hit_of b0 b1 p q ≡ HitAt t at
    → Near t (nat_abs (side_of x0 y0 x1 y1 xp yp)) (nat_abs (side_of x0 y0 x1 y1 xp yp) + nat_abs (side_of x0 y0 x1 y1 xq yq))
unfolding blade_hit_of
hit_near b0 b1 p q x0 y0 x1 y1 xp yp xq yq P0 P1 Pp Pq t at h =
    let d = minus_of b1 b0 in
    let dp = offset_along d b0 p in
    let dq = offset_along d b0 q in
    let zp = side_of x0 y0 x1 y1 xp yp in
    let zq = side_of x0 y0 x1 y1 xq yq in
    let ip = offset_is b0 b1 p x0 y0 x1 y1 xp yp P0 P1 Pp in
    let iq = offset_is b0 b1 q x0 y0 x1 y1 xq yq P0 P1 Pq in
    let u = clamp_high (clamp_low (div binary32 dp (sub binary32 dp dq))) in
    let s = dot_of (minus_of (hit_point p (minus_of q p) u) b0) d in
    let c = by_tests u t (hit_point p (minus_of q p) u) at (lt zero32 (mul binary32 dp dq)) (eq dp dq) (le zero32 s && le s (dot_of d d)) h in
    subst (λ (z : Float). Near z (nat_abs zp) (nat_abs zp + nat_abs zq)) c.2
    (fraction_near dp dq zp zq ip.0 iq.0 (abs_minus zp zq (2 ^ 23) (2 ^ 23) ip.1 iq.1) c.0 c.1)
