-- Two sheets have no difference exactly when their meshes and their blades are equal; and then, and only then, the text is `0` and the end of a line. Assumes nothing.
use Prim.Native.Nat.{ℕ, zero, suc, ◌<◌}
use mathlib.Core.Path.{◌≡◌, refl, sym, ap, ap₂, ◌∙◌}
use mathlib.Core.List.{List, [], ◌∷◌, ◌++◌, map, append_assoc}
use native.Mathlib.Omega.{arith}
use lib.Dec.{ltb}
use lib.ListN.{length, get_or}
use borrow.Author.Tests.{ltb-true}
use mathlib.Core.Bool.{true}
use Rattle.lists.proofs.Sifts.{and_true}
use Rattle.sheet.proofs.Back.{blade_below}
use lib.Ieee.{to_signed}
use Rattle.lists.specs.Lists.{each, map_at_of, head_or}
use Rattle.float.specs.Numbers.{zero32, one}
use Rattle.blade.specs.declared.Point.{Point}
use Rattle.model.specs.Mesh.{Particle, Triangle, Edge, Side, Mesh}
use Rattle.bits.specs.Rows.{Fit, FitAll}
use Rattle.listing.specs.Listing.{decimal}
use Rattle.listing.proofs.Decimal.{decimal_zero}
use Rattle.sheet.specs.Sheet.{Sheet, FitSheet, all_below, the_field_of, coord, particle_w, triangle_w, edge_w, boundary_w}
use Rattle.sheet.specs.Read.{the_float_of, the_inverse_of, particle_from, particles_from, triangle_from, triangles_from, edge_from, edges_from, boundary_from, place_in, mesh_of_sheet, blade_of_sheet}
use Rattle.sheet.proofs.CoordLaws.{coord_whole, field_coord}
use Rattle.sheet.proofs.Back.{row3, row2}
use Rattle.differences.specs.Differences.{Difference, counts, place, blades, differences, line_of, difference_text}
use Rattle.differences.specs.declared.Part.TheVariants.{Particles, Triangles, Edges, Boundary}
use Rattle.differences.proofs.Places.{same_none, none_same}

-- ---- fields from numbers

-- 11-bit fields with one float are one field
float_field : (m n : ℕ) → m < 2048 → n < 2048 → the_float_of m ≡ the_float_of n → m ≡ n
unfolding the_float_of
float_field m n h g e =
    let z : coord m ≡ coord n = sym (coord_whole m h) ∙ (ap (to_signed 63) e ∙ coord_whole n g) in
    sym (field_coord m h) ∙ (ap the_field_of z ∙ field_coord n g)

-- flags with one inverse mass are one flag
zero_one : zero32 ≡ one → ⊥
zero_one q = let z : to_signed 63 zero32 ≡ to_signed 63 one = ap (to_signed 63) q in let k : ◌≡◌ {A = ℕ} 0 1 = cc in omega arith

flag_field : (m n : ℕ) → m < 2 → n < 2 → the_inverse_of m ≡ the_inverse_of n → m ≡ n
unfolding the_inverse_of
flag_field zero zero h g e = refl
flag_field zero (suc zero) h g e = absurd (zero_one (sym e))
flag_field (suc zero) zero h g e = absurd (zero_one e)
flag_field (suc zero) (suc zero) h g e = refl
flag_field (suc (suc m)) n h g e = absurd (omega arith)
flag_field zero (suc (suc n)) h g e = absurd (omega arith)
flag_field (suc zero) (suc (suc n)) h g e = absurd (omega arith)

-- rows of three fields, of two, of four
three_is : (u v w : ℕ) (r s : List ℕ) → Fit (u ∷ v ∷ w ∷ []) r → Fit (u ∷ v ∷ w ∷ []) s → get_or r 0 0 ≡ get_or s 0 0 → get_or r 1 0 ≡ get_or s 1 0 → get_or r 2 0 ≡ get_or s 2 0 → r ≡ s
three_is u v w r s f g a b c =
    let m : get_or r 0 0 ∷ get_or r 1 0 ∷ get_or r 2 0 ∷ [] ≡ get_or s 0 0 ∷ get_or s 1 0 ∷ get_or s 2 0 ∷ [] = λ i. a i ∷ b i ∷ c i ∷ [] in
    sym (row3 u v w r f).0 ∙ (m ∙ (row3 u v w s g).0)

two_is : (u v : ℕ) (r s : List ℕ) → Fit (u ∷ v ∷ []) r → Fit (u ∷ v ∷ []) s → get_or r 0 0 ≡ get_or s 0 0 → get_or r 1 0 ≡ get_or s 1 0 → r ≡ s
two_is u v r s f g a b = let m : get_or r 0 0 ∷ get_or r 1 0 ∷ [] ≡ get_or s 0 0 ∷ get_or s 1 0 ∷ [] = λ i. a i ∷ b i ∷ [] in sym (row2 u v r f) ∙ (m ∙ row2 u v s g)

-- ---- rows from what they are read as

module _ {A : Type 0} (ws : List ℕ) where
  rows_at : (f g : ℕ → List ℕ → A) → ((k : ℕ) (r s : List ℕ) → Fit ws r → Fit ws s → f k r ≡ g k s → r ≡ s) → (a b : List (List ℕ)) → FitAll ws a → FitAll ws b → map_at_of f a ≡ map_at_of g b → a ≡ b
  unfolding map_at_of FitAll
  rows_at f g h [] [] p q e = refl
  rows_at f g h [] (s ∷ b) p q e = let z : ◌≡◌ {A = ℕ} 0 1 = cc in absurd (omega arith)
  rows_at f g h (r ∷ a) [] p q e = let z : ◌≡◌ {A = ℕ} 0 1 = cc in absurd (omega arith)
  rows_at f g h (r ∷ a) (s ∷ b) p q e =
      let x : f 0 r ≡ g 0 s = cc in
      let y : map_at_of (λ k. f (suc k)) a ≡ map_at_of (λ k. g (suc k)) b = cc in
      ap₂ (λ (t : List ℕ) (l : List (List ℕ)). t ∷ l) (h 0 r s p.0 q.0 x) (rows_at (λ k. f (suc k)) (λ k. g (suc k)) (λ k. h (suc k)) a b p.1 q.1 y)

  rows_of : (f g : List ℕ → A) → ((r s : List ℕ) → Fit ws r → Fit ws s → f r ≡ g s → r ≡ s) → (a b : List (List ℕ)) → FitAll ws a → FitAll ws b → map f a ≡ map g b → a ≡ b
  unfolding FitAll
  rows_of f g h [] [] p q e = refl
  rows_of f g h [] (s ∷ b) p q e = let z : ◌≡◌ {A = ℕ} 0 1 = cc in absurd (omega arith)
  rows_of f g h (r ∷ a) [] p q e = let z : ◌≡◌ {A = ℕ} 0 1 = cc in absurd (omega arith)
  rows_of f g h (r ∷ a) (s ∷ b) p q e =
      let x : f r ≡ g s = cc in
      let y : map f a ≡ map g b = cc in
      ap₂ (λ (t : List ℕ) (l : List (List ℕ)). t ∷ l) (h r s p.0 q.0 x) (rows_of f g h a b p.1 q.1 y)

-- the list of a sheet from the list of its mesh
particles_tell : (a b : List (List ℕ)) → FitAll particle_w a → FitAll particle_w b → particles_from a ≡ particles_from b → a ≡ b
unfolding particles_from particle_from
particles_tell a b f g e =
    rows_at particle_w _ _
    (λ k r s p q h.
    let u = row3 11 11 1 r p in
    let v = row3 11 11 1 s q in
    three_is 11 11 1 r s p q (float_field (get_or r 0 0) (get_or s 0 0) u.1 v.1 (ap (λ (x : Particle). x.x) h)) (float_field (get_or r 1 0) (get_or s 1 0) u.2 v.2 (ap (λ (x : Particle). x.y) h))
    (flag_field (get_or r 2 0) (get_or s 2 0) u.3 v.3 (ap (λ (x : Particle). x.inv) h)))
    a b f g e

triangles_tell : (p q : ℕ → Point) (a b : List (List ℕ)) → FitAll triangle_w a → FitAll triangle_w b → triangles_from p a ≡ triangles_from q b → a ≡ b
unfolding triangles_from triangle_from
triangles_tell p q a b f g e =
    rows_of triangle_w _ _ (λ r s u v h. three_is 10 10 10 r s u v (ap (λ (t : Triangle). get_or t.corners 0 0) h) (ap (λ (t : Triangle). get_or t.corners 1 0) h) (ap (λ (t : Triangle). get_or t.corners 2 0) h)) a b f g e

edges_tell : (p q : ℕ → Point) (a b : List (List ℕ)) → FitAll edge_w a → FitAll edge_w b → edges_from p a ≡ edges_from q b → a ≡ b
unfolding edges_from edge_from
edges_tell p q a b f g e =
    rows_of edge_w _ _ (λ r s u v h. three_is 10 10 1 r s u v (ap (λ (t : Edge). t.a) h) (ap (λ (t : Edge). t.b) h) (ap (λ (t : Edge). t.structural) h)) a b f g e

boundary_tells : (a b : List (List ℕ)) → FitAll boundary_w a → FitAll boundary_w b → boundary_from a ≡ boundary_from b → a ≡ b
unfolding boundary_from
boundary_tells a b f g e = rows_of boundary_w _ _ (λ r s u v h. two_is 10 10 r s u v (ap (λ (t : Side). get_or t.corners 0 0) h) (ap (λ (t : Side). get_or t.corners 1 0) h)) a b f g e

blade_tells : (a b : List ℕ) → all_below 2048 a ≡ true → all_below 2048 b ≡ true → map the_float_of a ≡ map the_float_of b → a ≡ b
unfolding all_below
blade_tells [] [] f g e = refl
blade_tells [] (y ∷ b) f g e = let z : ◌≡◌ {A = ℕ} 0 1 = cc in absurd (omega arith)
blade_tells (x ∷ a) [] f g e = let z : ◌≡◌ {A = ℕ} 0 1 = cc in absurd (omega arith)
blade_tells (x ∷ a) (y ∷ b) f g e =
    let u = and_true (ltb x 2048) (all_below 2048 a) f in
    let v = and_true (ltb y 2048) (all_below 2048 b) g in
    let h : the_float_of x ≡ the_float_of y = cc in
    let t : map the_float_of a ≡ map the_float_of b = cc in
    ap₂ (λ (n : ℕ) (l : List ℕ). n ∷ l) (float_field x y (ltb-true x 2048 u.0) (ltb-true y 2048 v.0) h) (blade_tells a b u.1 v.1 t)

-- ---- no difference

-- where no width is passed, meshes and blades tell the sheets apart
sheet_told : (a b : Sheet) → FitSheet a → FitSheet b → mesh_of_sheet a ≡ mesh_of_sheet b → blade_of_sheet a ≡ blade_of_sheet b → a ≡ b
unfolding mesh_of_sheet blade_of_sheet
sheet_told a b f g m d =
    let p : a.particles ≡ b.particles = particles_tell a.particles b.particles f.particles g.particles (ap (λ (x : Mesh). x.particles) m) in
    let t : a.triangles ≡ b.triangles = triangles_tell (place_in (particles_from a.particles)) (place_in (particles_from b.particles)) a.triangles b.triangles f.triangles g.triangles (ap (λ (x : Mesh). x.triangles) m) in
    let e : a.edges ≡ b.edges = edges_tell (place_in (particles_from a.particles)) (place_in (particles_from b.particles)) a.edges b.edges f.edges g.edges (ap (λ (x : Mesh). x.edges) m) in
    let o : a.boundary ≡ b.boundary = boundary_tells a.boundary b.boundary f.boundary g.boundary (ap (λ (x : Mesh). x.boundary) m) in
    let k : a.blade ≡ b.blade = blade_tells a.blade b.blade (blade_below a.blade f.blade) (blade_below b.blade g.blade) d in
    λ i. record { particles = p i; triangles = t i; edges = e i; boundary = o i; blade = k i }

-- two sheets with no difference have one mesh and one blade; and the other way round
pub nothing_differs : (a b : Sheet) → FitSheet a → FitSheet b
    → (differences a b ≡ [] → (mesh_of_sheet a ≡ mesh_of_sheet b) × (blade_of_sheet a ≡ blade_of_sheet b)) × ((mesh_of_sheet a ≡ mesh_of_sheet b) × (blade_of_sheet a ≡ blade_of_sheet b) → differences a b ≡ [])
nothing_differs a b f g = (
  λ e. let s : a ≡ b = none_same a b e in (ap mesh_of_sheet s, ap blade_of_sheet s),
  λ w. let s : a ≡ b = sheet_told a b f g w.0 w.1 in ap (λ (x : Sheet). differences a x) (sym s) ∙ same_none a,
)

-- ---- the text

-- no line begins with a digit
line_leads : (d : Difference) (l : List ℕ) → 97 < head_or 0 (line_of d ++ l)
unfolding line_of
line_leads (counts p m n) l = omega arith
line_leads (place Particles k r s) l = omega arith
line_leads (place Triangles k r s) l = omega arith
line_leads (place Edges k r s) l = omega arith
line_leads (place Boundary k r s) l = omega arith
line_leads (blades a b) l = omega arith

pub none_text : difference_text [] ≡ 48 ∷ 10 ∷ []
unfolding difference_text each
none_text = rw decimal_zero

pub text_none : (ds : List Difference) → difference_text ds ≡ 48 ∷ 10 ∷ [] → ds ≡ []
unfolding difference_text each
text_none [] e = refl
text_none (d ∷ ds) e =
    let x = line_of d in
    let y = each line_of ds in
    let z = decimal (length (d ∷ ds)) in
    let q : x ++ y ++ z ++ (10 ∷ []) ≡ x ++ (y ++ (z ++ (10 ∷ []))) = simp append_assoc in
    let h : head_or 0 (x ++ (y ++ (z ++ (10 ∷ [])))) ≡ 48 = ap (head_or 0) (sym q ∙ e) in
    absurd (omega (arith, line_leads d (y ++ (z ++ (10 ∷ []))), h))

-- the text is `0` and the end of a line exactly when the meshes and the blades are equal
pub zero_printed : (a b : Sheet) → FitSheet a → FitSheet b
    → (difference_text (differences a b) ≡ 48 ∷ 10 ∷ [] → (mesh_of_sheet a ≡ mesh_of_sheet b) × (blade_of_sheet a ≡ blade_of_sheet b))
    × ((mesh_of_sheet a ≡ mesh_of_sheet b) × (blade_of_sheet a ≡ blade_of_sheet b) → difference_text (differences a b) ≡ 48 ∷ 10 ∷ [])
zero_printed a b f g =
    let n = nothing_differs a b f g in
    (λ e. n.0 (text_none (differences a b) e), λ w. ap difference_text (n.1 w) ∙ none_text)
