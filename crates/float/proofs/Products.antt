-- The product and the quotient of two values that are fractions, each as one rounding. Assumes nothing.
use mathlib.Core.Path.{◌≡◌, refl, sym, ap, ◌∙◌, subst}
use Prim.Native.Nat.{ℕ, ◌*◌, ◌<◌}
use native.Mathlib.Nat.{eq_of_mul-eq-mul_right, lt_irrefl, mul-pos, zero-mul, mul_assoc, mul_comm, mul_left_comm, mul-mul-mul_comm}
use mathlib.Core.Bool.{Bool, not, cond}
use lib.IntN.{ℤ}
use lib.Dec.{T, eqb, eqb→eq, not_T}
use lib.Ieee.{Float, nan, inf, fin, binary32, up, down, unlike, round, mul, div}
use lib.Ieee.Fits.{down_pos}
use lib.Ieee.Exact.{HasValue}
use lib.Ieee.Bits.{cond_no}
use lib.Ieee.Scale.{round_same}
use lib.Ieee.Positive.{first_pos}

opened : (x : Float) (s : Bool) (a c : ℕ) → HasValue x s a c → (m : ℕ) × (e : ℤ) × (x ≡ fin s m e) × (m * up e * c ≡ a * down e)
opened nan s a c h = absurd h
opened (inf t) s a c h = absurd h
opened (fin t m e) s a c h = (m, e, ap (λ (z : Bool). fin z m e) h.0, h.1)

mul_fin : (s : Bool) (m : ℕ) (e : ℤ) (t : Bool) (n : ℕ) (d : ℤ) → mul binary32 (fin s m e) (fin t n d) ≡ round binary32 (unlike s t) (m * up e * (n * up d)) (down e * down d)
unfolding mul
mul_fin s m e t n d = refl

div_fin : (s : Bool) (m : ℕ) (e : ℤ) (t : Bool) (n : ℕ) (d : ℤ) → T (not (eqb n 0)) → div binary32 (fin s m e) (fin t n d) ≡ round binary32 (unlike s t) (m * up e * down d) (n * up d * down e)
unfolding div
div_fin s m e t n d z = cond_no (eqb n 0) (cond (eqb m 0) nan (inf (unlike s t))) (round binary32 (unlike s t) (m * up e * down d) (n * up d * down e)) z

across : (x y a b c e d : ℕ) → 0 < c → x * c ≡ a * e → y * c ≡ b * d → x * d * b ≡ a * (y * e)
across x y a b c e d C p q =
    let l : x * d * b * c ≡ x * c * (b * d) = simp (mul_assoc, mul_comm, mul_left_comm) in
    let r : a * e * (y * c) ≡ a * (y * e) * c = simp (mul_assoc, mul_comm, mul_left_comm) in
    eq_of_mul-eq-mul_right c C (x * d * b) (a * (y * e)) (l ∙ ap (λ (z : ℕ). z * (b * d)) p ∙ ap (λ (z : ℕ). a * e * z) (sym q) ∙ r)

module _ (x y : Float) (s t : Bool) (a b c : ℕ) (C : 0 < c) (h : HasValue x s a c) (k : HasValue y t b c) where
  pub mul_of : mul binary32 x y ≡ round binary32 (unlike s t) (a * b) (c * c)
  mul_of =
      let v = opened x s a c h in
      let w = opened y t b c k in
      let m = v.0 in
      let e = v.1 in
      let n = w.0 in
      let d = w.1 in
      ap (λ (z : Float). mul binary32 z y) v.2
      ∙ ap (λ (z : Float). mul binary32 (fin s m e) z) w.2
      ∙ mul_fin s m e t n d
      ∙ round_same binary32 (unlike s t) (m * up e * (n * up d)) (down e * down d) (a * b) (c * c) (mul-pos (down_pos e) (down_pos d)) (mul-pos C C)
      (mul-mul-mul_comm (m * up e) (n * up d) c c ∙ ap (λ (z : ℕ). z * (n * up d * c)) v.3 ∙ ap (λ (z : ℕ). a * down e * z) w.3 ∙ mul-mul-mul_comm a (down e) b (down d))

  pub div_of : 0 < b → div binary32 x y ≡ round binary32 (unlike s t) a b
  div_of p =
      let v = opened x s a c h in
      let w = opened y t b c k in
      let m = v.0 in
      let e = v.1 in
      let n = w.0 in
      let d = w.1 in
      let np : 0 < n * up d * c = subst (λ (z : ℕ). 0 < z) (sym w.3) (mul-pos p (down_pos d)) in
      let nz : T (not (eqb n 0)) = not_T (eqb n 0) (λ u. lt_irrefl 0 (subst (λ (z : ℕ). 0 < z) (ap (λ (z : ℕ). z * up d * c) (eqb→eq n 0 u) ∙ ap (λ (z : ℕ). z * c) (zero-mul (up d)) ∙ zero-mul c) np)) in
      let nu : 0 < n * up d = first_pos (n * up d) c np in
      ap (λ (z : Float). div binary32 z y) v.2
      ∙ ap (λ (z : Float). div binary32 (fin s m e) z) w.2
      ∙ div_fin s m e t n d nz
      ∙ round_same binary32 (unlike s t) (m * up e * down d) (n * up d * down e) a b (mul-pos nu (down_pos e)) p (across (m * up e) (n * up d) a b c (down e) (down d) C v.3 w.3)
