-- What every rule of a blade gives: a side, 0 or 1, for each element of the fan. Assumes nothing.
use mathlib.Core.Path.{◌≡◌, ◌∙◌}
use mathlib.Core.Bool.{Bool, true, false, beq}
use mathlib.Core.List.{List, [], ◌∷◌, map}
use Prim.Native.Nat.{ℕ, ◌<◌}
use native.Mathlib.Omega.{arith}
use lib.ListN.{length, length-map}
use Rattle.lists.specs.Lists.{pick}
use Rattle.exact.specs.declared.Sign.{Sign}
use Rattle.exact.specs.Exact.{kept_by_of, opposite}
use Rattle.model.specs.Mesh.{Mesh}
use Rattle.model.specs.Elements.{Kind, Triangles, Straps, Nothing, fan_of}
use Rattle.model.specs.Cut.{Rule, rounded, exact, signs, Blade, left_of, kept_side, rounded_sides, sides_of_signs, exact_sign, exact_middle, rounded_sign, rounded_middle, sign_sides, sides_by, blade_sides}
use Rattle.model.specs.Trace.{All}

-- a map to 0 and 1
pub two_all : {A : Type 0} (f : A → ℕ) → ((a : A) → f a < 2) → (l : List A) → All (λ s. s < 2) (map f l)
two_all f h [] = tt
two_all f h (a ∷ l) = (h a, two_all f h l)

pub pick_two : (b : Bool) (x y : ℕ) → x < 2 → y < 2 → pick b x y < 2
pick_two true x y p q = p
pick_two false x y p q = q

-- sides by signs
signed_two : (own : Sign) (ms : List Sign) → All (λ s. s < 2) (sides_of_signs own ms)
signed_two own ms = two_all (λ m. pick (opposite (kept_by_of own ms) m) 1 0) (λ m. pick_two (opposite (kept_by_of own ms) m) 1 0 (omega arith) (omega arith)) ms

signed_every : {A : Type 0} (own : Sign) (f : A → Sign) (l : List A) → length (sides_of_signs own (map f l)) ≡ length l
signed_every own f l = length-map (map f l) (λ m. pick (opposite (kept_by_of own (map f l)) m) 1 0) ∙ length-map l f

-- by rounded numbers, by the signs of rounded offsets, and by each rule
rounded_two : (k : Kind) (B : Blade) (M : Mesh) (v : ℕ) → All (λ s. s < 2) (rounded_sides k B M v)
rounded_two k B M v =
    let raw = map (left_of B M) (fan_of k M v) in
    two_all (λ r. pick (beq r (kept_side B M v raw)) 0 1) (λ r. pick_two (beq r (kept_side B M v raw)) 0 1 (omega arith) (omega arith)) raw

rounded_every : (k : Kind) (B : Blade) (M : Mesh) (v : ℕ) → length (rounded_sides k B M v) ≡ length (fan_of k M v)
rounded_every k B M v =
    let raw = map (left_of B M) (fan_of k M v) in
    length-map raw (λ r. pick (beq r (kept_side B M v raw)) 0 1) ∙ length-map (fan_of k M v) (left_of B M)

sign_two : (k : Kind) (B : Blade) (M : Mesh) (v : ℕ) → All (λ s. s < 2) (sign_sides k B M v)
sign_two Triangles B M v = signed_two (rounded_sign B M v) (map (rounded_middle B M) (fan_of Triangles M v))
sign_two Straps B M v = rounded_two Straps B M v
sign_two Nothing B M v = rounded_two Nothing B M v

sign_every : (k : Kind) (B : Blade) (M : Mesh) (v : ℕ) → length (sign_sides k B M v) ≡ length (fan_of k M v)
sign_every Triangles B M v = signed_every (rounded_sign B M v) (rounded_middle B M) (fan_of Triangles M v)
sign_every Straps B M v = rounded_every Straps B M v
sign_every Nothing B M v = rounded_every Nothing B M v

by_two : (r : Rule) (k : Kind) (B : Blade) (M : Mesh) (v : ℕ) → All (λ s. s < 2) (sides_by r k B M v)
by_two rounded k B M v = rounded_two k B M v
by_two exact k B M v = signed_two (exact_sign B M v) (map (exact_middle B M) (fan_of k M v))
by_two signs k B M v = sign_two k B M v

by_every : (r : Rule) (k : Kind) (B : Blade) (M : Mesh) (v : ℕ) → length (sides_by r k B M v) ≡ length (fan_of k M v)
by_every rounded k B M v = rounded_every k B M v
by_every exact k B M v = signed_every (exact_sign B M v) (exact_middle B M) (fan_of k M v)
by_every signs k B M v = sign_every k B M v

-- each side is 0 or 1
pub blade_two : (k : Kind) (B : Blade) (M : Mesh) (v : ℕ) → All (λ s. s < 2) (blade_sides k B M v)
unfolding blade_sides
blade_two k B M v = by_two B.rule k B M v

-- one for each element
pub blade_every : (k : Kind) (B : Blade) (M : Mesh) (v : ℕ) → length (blade_sides k B M v) ≡ length (fan_of k M v)
unfolding blade_sides
blade_every k B M v = by_every B.rule k B M v
