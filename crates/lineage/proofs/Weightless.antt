-- A weightless group under a positive total gets mass 0 and so a pinned copy.
use Prim.Native.Nat.{ℕ, zero, suc, ◌+◌, ◌-◌, ◌*◌, ◌<◌}
use mathlib.Core.Path.{◌≡◌, refl, sym, ap, ◌∙◌, subst}
use mathlib.Core.Bool.{Bool, true, false, ◌&&◌}
use mathlib.Core.List.{List, [], ◌∷◌, ◌++◌, map}
use native.Mathlib.Omega.{arith}
use native.Mathlib.Nat.{zero-mul, mul-zero, mul-one}
use borrow.Author.Tests.{eqb-true, ne_eqb, ltb-true}
use lib.Dec.{eqb}
use lib.IntN.{pos}
use lib.ListN.{length, get_or}
use lib.Seq.{get_or-append-add}
use lib.Ieee.{Float, nan, inf, fin, binary32, fits, round, mul, div, lt, le, eq, neg, up, down, unlike}
use lib.Ieee.Exact.{HasValue}
use lib.Ieee.Fits.{round-fits, down_pos}
use Rattle.model.specs.Valid.{particle_ok, triangle_ok, edge_ok, numbers_fit_of}
use Rattle.lists.specs.Lists.{all, pick, map_at_of, up_to}
use Rattle.lists.proofs.Rows.{length_map_at}
use Rattle.lists.proofs.Stores.{map_at}
use Rattle.lists.proofs.Sifts.{up_to_length, up_to_at}
use Rattle.float.specs.Numbers.{abs_of, zero32, over, count32, share_of, inv_of}
use Rattle.float.specs.Ranges.{finite?, number?}
use Rattle.float.proofs.Exact.{round_at}
use Rattle.float.proofs.Values.{same_value}
use Rattle.model.specs.Mesh.{Particle, Mesh, blank}
use Rattle.model.specs.Elements.{Kind}
use Rattle.model.specs.Split.{Opening, opening_of, weight_of, total_of, mass_of, portion, copied}
use Rattle.lineage.proofs.Again.{tests}
use Rattle.lists.proofs.Truths.{untrue}

-- either zero
abbrev zero± : Bool → Float
zero± s = fin s 0 (pos 0)

-- 0 rounds to a zero
round_zero : (s : Bool) (a c : ℕ) → a ≡ 0 → 0 < c → round binary32 s a c ≡ zero± s
unfolding fits
round_zero s a c e h =
    let z : a ≡ 0 * c = e ∙ sym (zero-mul c) in
    let v : HasValue (round binary32 s a c) s 0 1 = subst (λ (x : ℕ). HasValue (round binary32 s x c) s 0 1) (sym z) (round_at s 0 c h (omega arith)) in
    same_value binary32 (round binary32 s a c) (zero± s) s 0 1 (omega arith) (round-fits binary32 s a c) tt v (refl, refl)

and_first : (a b : Bool) → (a && b) ≡ true → a ≡ true
and_first true b e = refl
and_first false b e = untrue e

second_of : (a b : Bool) → (a && b) ≡ true → b ≡ true
second_of true b e = e
second_of false b e = untrue e

-- a product is above 0 where its factors are
above : (a b : ℕ) → 0 < a → 0 < b → 0 < a * b
above zero b h k = absurd (omega arith)
above (suc a) zero h k = absurd (omega arith)
above (suc a) (suc b) h k = omega arith

-- a finite mass times a weight of zero is a zero
no_weight : (m w : Float) → finite? m ≡ true → eq w zero32 ≡ true → (s : Bool) × (mul binary32 m w ≡ zero± s)
unfolding finite? eq mul
no_weight nan w f e = untrue f
no_weight (inf s) w f e = untrue f
no_weight (fin s m x) nan f e = untrue e
no_weight (fin s m x) (inf t) f e = untrue e
no_weight (fin s m x) (fin t n d) f e =
    let q : n * up d * 1 ≡ 0 * 1 * down d = eqb-true (n * up d * 1) (0 * 1 * down d) (and_first _ _ e) in
    let z : n * up d ≡ 0 = omega (arith, q, zero-mul (down d), mul-one (n * up d)) in
    let a : m * up x * (n * up d) ≡ 0 = ap (λ (y : ℕ). m * up x * y) z ∙ mul-zero (m * up x) in
    (unlike s t, round_zero (unlike s t) (m * up x * (n * up d)) (down x * down d) a (above (down x) (down d) (down_pos x) (down_pos d)))

-- a zero divided by a positive total is a zero
zero_share : (s : Bool) (t : Float) → lt zero32 t ≡ true → (r : Bool) × (div binary32 (zero± s) t ≡ zero± r)
unfolding lt div
zero_share s nan h = untrue h
zero_share s (inf true) h = untrue h
zero_share s (inf false) h = (unlike s false, refl)
zero_share s (fin true n d) h = untrue h
zero_share s (fin false n d) h =
    let q : 0 * 1 * down d < n * up d * 1 = ltb-true (0 * 1 * down d) (n * up d * 1) h in
    let p : 0 < n * up d = omega (arith, q, mul-one (n * up d)) in
    let k : n ≡ 0 → ⊥ = λ e. omega (arith, p, ap (λ (y : ℕ). y * up d) e, zero-mul (up d)) in
    let c : 0 < n * up d * 1 = omega (arith, p, mul-one (n * up d)) in
    (unlike s false, rw (ne_eqb n 0 k) (round_zero (unlike s false) (0 * 1 * down d) (n * up d * 1) (omega (arith, zero-mul (down d))) c))

-- a zero is equal to 0, and its inverse is 0
zero_equal : (s : Bool) → eq (zero± s) zero32 ≡ true
unfolding eq
zero_equal true = refl
zero_equal false = refl

zero_inverse : (s : Bool) → inv_of (zero± s) ≡ zero32
unfolding inv_of le lt eq neg
zero_inverse true = refl
zero_inverse false = refl

-- the part of a particle of finite mass that a weightless group gets under a positive total
pub weightless : (O : Opening) (g : ℕ) (p : Particle) → finite? p.mass ≡ true → eq (weight_of O.fan g) zero32 ≡ true → lt zero32 (total_of O) ≡ true
    → (eq (portion O g p).mass zero32 ≡ true) × ((portion O g p).inv ≡ zero32)
unfolding portion mass_of
weightless O g p f w h =
    let a = no_weight p.mass (weight_of O.fan g) f w in
    let b = zero_share a.0 (total_of O) h in
    let m : share_of p.mass (weight_of O.fan g) (total_of O) ≡ zero± b.0 = ap (λ (x : Float). div binary32 x (total_of O)) a.1 ∙ b.1 in
    let n : mass_of O p.mass g ≡ zero± b.0 = ap (λ (t : Bool). pick t (share_of p.mass (weight_of O.fan g) (total_of O)) (over p.mass (count32 O.count))) h ∙ m in
    (ap (λ (x : Float). eq x zero32) n ∙ zero_equal b.0, ap inv_of n ∙ zero_inverse b.0)

-- the copy of group g + 1
pub copy_at : (O : Opening) (ps : List Particle) (g : ℕ) → g < O.count - 1 → get_or (copied O ps) (length ps + g) blank ≡ portion O (suc g) (get_or ps O.v blank)
unfolding copied
copy_at O ps g h =
    let n = O.count - 1 in
    let front = map_at_of (λ k a. pick (eqb k O.v) (portion O 0 a) a) ps in
    let f : ℕ → Particle = λ j. portion O (suc j) (get_or ps O.v blank) in
    let l : length front ≡ length ps = length_map_at _ ps in
    let u : length (up_to n) ≡ n = up_to_length n in
    ap (λ (x : ℕ). get_or (front ++ map f (up_to n)) (x + g) blank) (sym l)
    ∙ (get_or-append-add front (map f (up_to n)) g blank ∙ (map_at f (up_to n) g 0 blank (omega arith) ∙ ap f (up_to_at n g h)))

-- a number in range is finite
number_finite : (x : Float) → number? x ≡ true → finite? x ≡ true
unfolding number? finite? abs_of le lt eq
number_finite nan e = untrue e
number_finite (inf s) e = untrue e
number_finite (fin s m d) e = refl

mass_finite : (p : Particle) → particle_ok p ≡ true → finite? p.mass ≡ true
mass_finite p e = number_finite p.mass (tests p e).mass

-- so is the mass of each particle of an accepted mesh, and of none
masses_finite : (ps : List Particle) (v : ℕ) → all particle_ok ps ≡ true → finite? (get_or ps v blank).mass ≡ true
unfolding all finite?
masses_finite [] v e = refl
masses_finite (p ∷ ps) zero e = mass_finite p (and_first (particle_ok p) (all particle_ok ps) e)
masses_finite (p ∷ ps) (suc v) e = masses_finite ps v (second_of (particle_ok p) (all particle_ok ps) e)

-- in any mesh whose numbers are accepted: the copy of a weightless group under a positive total has mass 0 and is pinned
pub weightless_copy : (k : Kind) (M : Mesh) (v : ℕ) (sides : List ℕ) (g : ℕ) → let O = opening_of k M v sides in let copy = get_or (copied O M.particles) (length M.particles + g) blank in
    numbers_fit_of M ≡ true → g < O.count - 1 → eq (weight_of O.fan (suc g)) zero32 ≡ true → lt zero32 (total_of O) ≡ true
    → (eq copy.mass zero32 ≡ true) × (copy.inv ≡ zero32)
unfolding opening_of numbers_fit_of
weightless_copy k M v sides g n h w t =
    let O = opening_of k M v sides in
    let f : finite? (get_or M.particles v blank).mass ≡ true = masses_finite M.particles v (and_first (all particle_ok M.particles) (all triangle_ok M.triangles) (and_first (all particle_ok M.particles && all triangle_ok M.triangles) (all edge_ok M.edges) n)) in
    subst (λ (p : Particle). (eq p.mass zero32 ≡ true) × (p.inv ≡ zero32)) (sym (copy_at O M.particles g h)) (weightless O (suc g) (get_or M.particles v blank) f w t)
