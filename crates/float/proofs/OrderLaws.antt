-- The total order tells any two values apart: where it says equal, they are one value. Assumes nothing.
use mathlib.Core.Path.{◌≡◌, refl, sym, ap, ap₂, ◌∙◌, subst}
use Prim.Native.Nat.{ℕ, ◌*◌, ◌≤◌}
use native.Mathlib.Nat.{le_antisymm}
use native.Mathlib.Omega.{arith}
use mathlib.Core.Bool.{Bool, true, false, not, cond, ◌||◌, true≢false}
use lib.Dec.{T, ltb, nltb→le}
use lib.Ieee.{Float, nan, inf, fin, binary32, up, down, fits, lt, is_nan}
use lib.Ieee.Fits.{down_pos}
use Rattle.std.specs.Prelude.{Option, None, Some}
use Rattle.std.specs.declared.cmp.Ordering.{Ordering}
use Rattle.std.specs.declared.cmp.Ordering.TheVariants.{Less, Equal, Greater}
use Rattle.std.specs.Float.{is_sign_negative, total_cmp}
use Rattle.float.specs.Order.{sign_of, by_sign, total_cmp_of}
use Rattle.float.proofs.Values.{same_value}

different : {X : Type 0} (o : Ordering) → o ≡ Less → o ≡ Equal → X
different o p q = let z : ◌≡◌ {A = ℕ} 0 1 = cc in absurd (no z)
  where
    no : ◌≡◌ {A = ℕ} 0 1 → ⊥
    no z = omega arith

different_2 : {X : Type 0} (o : Ordering) → o ≡ Greater → o ≡ Equal → X
different_2 o p q = let z : ◌≡◌ {A = ℕ} 0 1 = cc in absurd (no z)
  where
    no : ◌≡◌ {A = ℕ} 0 1 → ⊥
    no z = omega arith

different_3 : {X : Type 0} (o : Option Ordering) → o ≡ None → o ≡ Some Equal → X
different_3 o p q = let z : ◌≡◌ {A = ℕ} 0 1 = cc in absurd (no z)
  where
    no : ◌≡◌ {A = ℕ} 0 1 → ⊥
    no z = omega arith

inside : (o p : Ordering) → Some o ≡ Some p → o ≡ p
inside o p h = cc

same_sign : (s t : Bool) → by_sign s t ≡ Equal → s ≡ t
same_sign true true h = refl
same_sign false false h = refl
same_sign true false h = different Less refl h
same_sign false true h = different_2 Greater refl h

-- where the order says equal, neither is less and the signs agree
by_tests : (n l g : Bool) (s t : Bool) → cond n None (Some (cond l Less (cond g Greater (by_sign s t)))) ≡ Some Equal → (n ≡ false) × (l ≡ false) × (g ≡ false) × (s ≡ t)
by_tests true l g s t h = different_3 None refl h
by_tests false true g s t h = different Less refl (inside Less Equal h)
by_tests false false true s t h = different_2 Greater refl (inside Greater Equal h)
by_tests false false false s t h = (refl, refl, refl, same_sign s t (inside (by_sign s t) Equal h))

not_lt : (a b : ℕ) → ltb a b ≡ false → b ≤ a
not_lt a b h = nltb→le a b (subst (λ (z : Bool). T (not z)) (sym h) tt)

level : (a b : Float) → (is_nan a || is_nan b) ≡ false → lt a b ≡ false → lt b a ≡ false → sign_of a ≡ sign_of b → T (fits binary32 a) → T (fits binary32 b) → a ≡ b
unfolding lt is_nan sign_of
level nan b n l g s p q = absurd (true≢false n)
level (inf u) nan n l g s p q = absurd (true≢false n)
level (inf u) (inf t) n l g s p q = ap inf s
level (inf true) (fin t k d) n l g s p q = absurd (true≢false l)
level (inf false) (fin t k d) n l g s p q = absurd (true≢false g)
level (fin u m e) nan n l g s p q = absurd (true≢false n)
level (fin u m e) (inf true) n l g s p q = absurd (true≢false g)
level (fin u m e) (inf false) n l g s p q = absurd (true≢false l)
level (fin true m e) (fin false k d) n l g s p q = absurd (true≢false s)
level (fin false m e) (fin true k d) n l g s p q = absurd (true≢false (sym s))
level (fin true m e) (fin true k d) n l g s p q =
    same_value binary32 (fin true m e) (fin true k d) true (m * up e) (down e) (down_pos e) p q (refl, refl)
    (refl, le_antisymm (not_lt (m * up e * down d) (k * up d * down e) g) (not_lt (k * up d * down e) (m * up e * down d) l))
level (fin false m e) (fin false k d) n l g s p q =
    same_value binary32 (fin false m e) (fin false k d) false (m * up e) (down e) (down_pos e) p q (refl, refl)
    (refl, le_antisymm (not_lt (m * up e * down d) (k * up d * down e) l) (not_lt (k * up d * down e) (m * up e * down d) g))

pub equal_is_one : (a b : Float) → T (fits binary32 a) → T (fits binary32 b) → total_cmp_of a b ≡ Some Equal → a ≡ b
equal_is_one a b p q h =
    let c = by_tests (is_nan a || is_nan b) (lt a b) (lt b a) (sign_of a) (sign_of b) h in
    level a b c.0 c.1 c.2 c.3 p q

-- ---- the library's order is this one

sign_is : (x : Float) → is_sign_negative x ≡ sign_of x
unfolding is_sign_negative sign_of
sign_is nan = refl
sign_is (inf s) = refl
sign_is (fin s m e) = refl

signs_are : (s t : Bool) → cond s (cond t Equal Less) (cond t Greater Equal) ≡ by_sign s t
signs_are true true = refl
signs_are true false = refl
signs_are false true = refl
signs_are false false = refl

-- two values that are no NaN
pub library_order : (a b : Float) → is_nan a ≡ false → is_nan b ≡ false → Some (total_cmp a b) ≡ total_cmp_of a b
library_order a b p q =
    ap (λ (o : Ordering). Some (cond (lt a b) Less (cond (lt b a) Greater o)))
    (ap₂ (λ (s t : Bool). cond s (cond t Equal Less) (cond t Greater Equal)) (sign_is a) (sign_is b) ∙ signs_are (sign_of a) (sign_of b))
    ∙ sym (ap₂ (λ (m n : Bool). cond (m || n) None (Some (cond (lt a b) Less (cond (lt b a) Greater (by_sign (sign_of a) (sign_of b)))))) p q)
