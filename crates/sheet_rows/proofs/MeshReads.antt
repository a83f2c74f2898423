-- The lists that rows by their places make are the mesh that the sheet is.
use Prim.Native.Nat.{ℕ, zero, suc, ◌+◌, ◌*◌, ◌/◌, ◌≤◌, ◌<◌}
use native.Mathlib.Omega.{arith}
use native.Mathlib.Nat.{suc-mul, zero-mul}
use mathlib.Core.Path.{◌≡◌, refl, sym, ap, ◌∙◌, subst}
use mathlib.Core.Bool.{Bool, true, false}
use mathlib.Core.List.{List, [], ◌∷◌, map}
use lib.ListN.{length, take, drop, set}
use lib.Seq.{drop-drop}
use lib.Ieee.{Float}
use Rattle.lists.specs.Lists.{tab, map_at_of, padded}
use Rattle.columns.proofs.Rows.{tab_at, tab_ext, rows_map, map_tab}
use Rattle.float.specs.Numbers.{zero32}
use Rattle.blade.specs.declared.Point.{Point}
use Rattle.blade.specs.Points.{minus_of, length_of}
use Rattle.model.specs.Mesh.{Particle, Mesh, blank}
use Rattle.model.specs.Elements.{at}
use Rattle.mesh.specs.At.{particle_row, particles_at, triangles_at, edges_at, boundary_at, mesh_at}
use Rattle.lists.proofs.Sifts.{and_true}
use Rattle.bits.specs.Bits.{num, field_at}
use Rattle.bits.specs.Rows.{total, unpack, read_rows}
use Rattle.sheet.specs.Sheet.{particle_w, triangle_w, edge_w}
use Rattle.sheet.specs.Work.{row_at, ok_at_of}
use Rattle.split_plan.specs.Opened.{place_in as point_in}
use Rattle.sheet_rows.specs.Work.{particle_bits, triangle_bits, edge_bits}
use Rattle.sheet.specs.Read.{area_of, particle_from, triangle_from, edge_from, particles_from, triangles_from, edges_from, place_in}
use Rattle.sheet.specs.declared.Counts.{Counts}
use Rattle.mesh.specs.Log.{World, world_at, log_at}
use Rattle.mesh.specs.Given.{Lent}
use Rattle.mesh.specs.Filled.{Filled}
use Rattle.mesh.specs.declared.Counts as M
use Rattle.mesh.specs.Widths.{point_columns}
use Rattle.sheet.proofs.MeshReads.{read_tab}
use Rattle.sheet_rows.proofs.RowReads.{two_named, three_named}

-- the fields of a row by their places
second : (l : List ℕ) (p v w : ℕ) → num (take w (drop v (drop p l))) ≡ field_at l (p + v) w
second l p v w = ap (λ (t : List ℕ). num (take w t)) (drop-drop v p l)

third : (l : List ℕ) (p u v w : ℕ) → num (take w (drop v (drop u (drop p l)))) ≡ field_at l (p + (u + v)) w
third l p u v w = let e : p + u + v ≡ p + (u + v) = omega arith in ap (λ (t : List ℕ). num (take w (drop v t))) (drop-drop u p l) ∙ (second l (p + u) v w ∙ ap (λ (j : ℕ). field_at l j w) e)

pub particles_read : (n : ℕ) (l : List ℕ) (p : ℕ) → particles_from (read_rows particle_w n (drop p l)) ≡ tab n (particle_bits l p)
unfolding particles_from total unpack
particles_read n l p =
    ap (map_at_of _) (read_tab particle_w n l p) ∙ rows_map _ n _
    ∙ tab_ext n _ _ (λ k h i. particle_from k (field_at l (p + k * 23) 11) (second l (p + k * 23) 11 11 i) (third l (p + k * 23) 11 11 1 i))

pub triangles_read : (place : ℕ → Point) (n : ℕ) (l : List ℕ) (p : ℕ) → triangles_from place (read_rows triangle_w n (drop p l)) ≡ tab n (triangle_bits place l p)
unfolding triangles_from total unpack
triangles_read place n l p =
    ap (map _) (read_tab triangle_w n l p) ∙ map_tab _ n _
    ∙ tab_ext n _ _ (λ k h i. triangle_from place (field_at l (p + k * 30) 10) (second l (p + k * 30) 10 10 i) (third l (p + k * 30) 10 10 10 i))

pub edges_read : (place : ℕ → Point) (n : ℕ) (l : List ℕ) (p : ℕ) → edges_from place (read_rows edge_w n (drop p l)) ≡ tab n (edge_bits place l p)
unfolding edges_from total unpack
edges_read place n l p =
    ap (map _) (read_tab edge_w n l p) ∙ map_tab _ n _
    ∙ tab_ext n _ _ (λ k h i. edge_from place (field_at l (p + k * 21) 10) (second l (p + k * 21) 10 10 i) (third l (p + k * 21) 10 10 1 i))

-- each of n rows that are right is right
pub ok_at : (three : Bool) (p : ℕ) (l : List ℕ) (at st n : ℕ) → ok_at_of three p l at st n ≡ true → (k : ℕ) → k < n → row_at three p l (at + k * st) ≡ true
unfolding ok_at_of
ok_at three p l at st zero e k h = absurd (omega arith)
ok_at three p l at st (suc n) e zero h =
    let z : at + zero * st ≡ at = omega (arith, zero-mul st) in
    ap (λ (j : ℕ). row_at three p l j) z ∙ (and_true (row_at three p l at) (ok_at_of three p l (at + st) st n) e).0
ok_at three p l at st (suc n) e (suc k) h =
    let z : at + suc k * st ≡ at + st + k * st = omega (arith, suc-mul k st) in
    ap (λ (j : ℕ). row_at three p l j) z ∙ ok_at three p l (at + st) st n (and_true (row_at three p l at) (ok_at_of three p l (at + st) st n) e).1 k (omega arith)

-- where a particle stands, by the points and by the list
pub place_same : (n : ℕ) (P : List Float) (R : List ℕ) (ps : List Particle) → particles_at n P R ≡ ps → (k : ℕ) → k < n → point_in P k ≡ place_in ps k
unfolding particles_at
place_same n P R ps e k h =
    ap at (sym (tab_at n (particle_row (length P / point_columns) (length R / 2) P R) k blank h)) ∙ ap (λ (q : List Particle). place_in q k) e

module _ (n : ℕ) (f g : ℕ → Point) (same : (k : ℕ) → k < n → f k ≡ g k) where
  -- triangles from places that agree
  pub triangles_same : (l : List ℕ) (p t : ℕ) → ok_at_of true n l p 30 t ≡ true → tab t (triangle_bits f l p) ≡ tab t (triangle_bits g l p)
  unfolding triangle_from
  triangles_same l p t e =
      tab_ext t _ _
      (λ k h.
      let a = field_at l (p + k * 30) 10 in
      let b = field_at l (p + k * 30 + 10) 10 in
      let c = field_at l (p + k * 30 + 20) 10 in
      let w = three_named n a b c (ok_at true n l p 30 t e k h) in
      λ i. record { corners = a ∷ b ∷ c ∷ []; volume = area_of (same a w.0 i) (same b w.1 i) (same c w.2 i); stress = zero32 })

  -- edges from places that agree
  pub edges_same : (l : List ℕ) (p t : ℕ) → ok_at_of false n l p 21 t ≡ true → tab t (edge_bits f l p) ≡ tab t (edge_bits g l p)
  unfolding edge_from
  edges_same l p t e =
      tab_ext t _ _
      (λ k h.
      let a = field_at l (p + k * 21) 10 in
      let b = field_at l (p + k * 21 + 10) 10 in
      let w = two_named false n a b (field_at l (p + k * 21 + 20) 10) (ok_at false n l p 21 t e k h) in
      λ i.
      record {
        a = a;
        b = b;
        structural = field_at l (p + k * 21 + 20) 1;
        torn = 0;
        rest = length_of (minus_of (same b w.1 i) (same a w.0 i));
        initial = length_of (minus_of (same b w.1 i) (same a w.0 i));
        impulse = zero32;
        stress = zero32;
      })

-- blocks that are filled with a world are filled with an equal one
pub filled_same :
    {W W' : World} {L L' : Lent} (p : List Float) (q c : List ℕ) (v : List Float) (e : List ℕ) (l : List Float) (o g : List ℕ) → W ≡ W' → L ≡ L' → Filled W L p q c v e l o g → Filled W' L' p q c v e l o g
filled_same {W} {W'} {L} {L'} p q c v e l o g w m f = subst (λ (x : Lent). Filled W' x p q c v e l o g) m (subst (λ (x : World). Filled x L p q c v e l o g) w f)

-- no entry
none : (G : List ℕ) → log_at 0 G ≡ []
unfolding log_at tab
none G = refl

-- a mesh with an empty log as a world
pub world_same :
    (k : M.Counts) (P : List Float) (R C : List ℕ) (U : List Float) (E : List ℕ) (L : List Float) (O G : List ℕ) (m : Mesh) → k.log ≡ 0 → mesh_at k P R C U E L O ≡ m
    → world_at k P R C U E L O G ≡ record { mesh = m; log = [] }
unfolding world_at
world_same k P R C U E L O G m z e = λ i. record { mesh = e i; log = (ap (λ (n : ℕ). log_at n G) z ∙ none G) i }

-- nothing read is an empty world
pub empty_world :
    (P : List Float) (R C : List ℕ) (U : List Float) (E : List ℕ) (L : List Float) (O G : List ℕ)
    → world_at (record { particles = 0; triangles = 0; edges = 0; boundary = 0; log = 0 }) P R C U E L O G ≡ record { mesh = record { particles = []; triangles = []; edges = []; boundary = [] }; log = [] }
unfolding world_at mesh_at particles_at triangles_at edges_at boundary_at log_at tab
empty_world P R C U E L O G = refl

-- four stores at the front keep the length
pub four_long : (l : List Float) (a b c d : Float) → 4 ≤ length l → length (set (set (set (set l 0 a) 1 b) 2 c) 3 d) ≡ length l
four_long [] a b c d h = absurd (omega arith)
four_long (x ∷ []) a b c d h = absurd (omega arith)
four_long (x ∷ y ∷ []) a b c d h = absurd (omega arith)
four_long (x ∷ y ∷ z ∷ []) a b c d h = absurd (omega arith)
four_long (x ∷ y ∷ z ∷ w ∷ l) a b c d h = refl

-- four stores at the front, and 0 behind them
pub four_put : (l : List Float) (a b c d : Float) → 4 ≤ length l
    → padded (length (set (set (set (set l 0 a) 1 b) 2 c) 3 d)) zero32 (take 4 (set (set (set (set l 0 a) 1 b) 2 c) 3 d)) ≡ padded (length l) zero32 (a ∷ b ∷ c ∷ d ∷ [])
four_put [] a b c d h = absurd (omega arith)
four_put (x ∷ []) a b c d h = absurd (omega arith)
four_put (x ∷ y ∷ []) a b c d h = absurd (omega arith)
four_put (x ∷ y ∷ z ∷ []) a b c d h = absurd (omega arith)
four_put (x ∷ y ∷ z ∷ w ∷ l) a b c d h = refl
