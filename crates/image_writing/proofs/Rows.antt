-- Laws of the rows that stand in seven blocks: how many words their image has, and that these are the words of the mesh that the blocks hold. Assumes nothing.
use Prim.Native.Nat.{ℕ, zero, suc, ◌+◌, ◌-◌, ◌*◌, ◌/◌, ◌≤◌, ◌<◌}
use native.Mathlib.Omega.{arith}
use mathlib.Core.Path.{◌≡◌, refl, sym, ap, subst, ◌∙◌}
use mathlib.Core.List.{List, [], ◌∷◌, ◌++◌, map}
use lib.ListN.{length, drop, length-drop, length-append}
use lib.Seq.{get_or-drop}
use lib.Ieee.{Float, nan}
use Rattle.lists.specs.Lists.{tab}
use Rattle.lists.specs.LeftOut.{Rising, left_out}
use Rattle.lists.proofs.Sifts.{take_tab, tab_ext, map_tab}
use Rattle.lists.proofs.Stores.{tab_length}
use Rattle.columns.specs.Block.{cell, stack}
use Rattle.columns.proofs.Cells.{col_fits}
use Rattle.model.specs.Mesh.{Particle, Triangle, Edge, Side, Mesh}
use Rattle.mesh.specs.At.{mesh_at, particles_at, triangles_at, edges_at, boundary_at, particle_row, triangle_row, edge_row, side_row}
use Rattle.mesh.specs.Filled.{point_of, root_of, corner_of, volume_of, end_of, length_of, side_of}
use Rattle.mesh.specs.declared.Counts.{Counts}
use Rattle.mesh.specs.Widths.{point_columns}
use Rattle.mesh.proofs.Blocks.{point_at, stack_ext}
use Rattle.image.specs.Words.{bits_in_of}
use Rattle.image.specs.Image.{image_words, image_words_of}
use Rattle.image_writing.specs.Stores.{fronts_of, left_fronts, block_words, left_words, Standing, StandingWith}
use Rattle.image_writing.proofs.Left.{none_rising, left_length, left_map, left_fronts_none, left_fronts_length, fronts_length}
use Rattle.image_writing.proofs.Puts.{bits_length}
use Rattle.image_writing.proofs.Stored.{left_words_none, standing_with}

-- ---- columns

-- the fronts of a block's columns without the listed places are the columns of the rows that are left there
left_rows : {A B : Type 0} (d : B) (w n R : ℕ) (is : List ℕ) (s : List B) (row : ℕ → A) (col : ℕ → A → B) → n ≤ R → w * R ≤ length s → ((c k : ℕ) → c < w → col c (row k) ≡ cell d R s c k)
    → left_fronts w n R is s ≡ stack w (λ c. map (col c) (left_out is (tab n row)))
unfolding left_fronts cell
left_rows {A} {B} d w n R is s row col few room reads =
    stack_ext w _ _
    (λ c h.
    let long : n ≤ length (drop (c * R) s) = omega (arith, col_fits c w R h, length-drop (c * R) s) in
    ap (left_out is) (take_tab n (drop (c * R) s) d long ∙ tab_ext n _ _ (λ k _. get_or-drop (c * R) s k d ∙ sym (reads c k h)) ∙ sym (map_tab (col c) n row)) ∙ left_map (col c) is (tab n row))

-- the same of all rows
fronts_rows : {A B : Type 0} (d : B) (w n R : ℕ) (s : List B) (row : ℕ → A) (col : ℕ → A → B) → n ≤ R → w * R ≤ length s → ((c k : ℕ) → c < w → col c (row k) ≡ cell d R s c k)
    → fronts_of w n R s ≡ stack w (λ c. map (col c) (tab n row))
unfolding left_out
fronts_rows d w n R s row col few room reads = sym (left_fronts_none w n R s) ∙ left_rows d w n R [] s row col few room reads

-- ---- seven blocks

root_cell : (P R : ℕ) (p : List Float) (r : List ℕ) (c k : ℕ) → c < 2 → root_of c (particle_row P R p r k) ≡ cell 0 R r c k
root_cell P R p r zero k h = refl
root_cell P R p r (suc zero) k h = refl
root_cell P R p r (suc (suc c)) k h = absurd (omega arith)

corner_cell : (C W : ℕ) (s : List ℕ) (v : List Float) (c k : ℕ) → c < 3 → corner_of c (triangle_row C W s v k) ≡ cell 0 C s c k
corner_cell C W s v zero k h = refl
corner_cell C W s v (suc zero) k h = refl
corner_cell C W s v (suc (suc zero)) k h = refl
corner_cell C W s v (suc (suc (suc c))) k h = absurd (omega arith)

volume_cell : (C W : ℕ) (s : List ℕ) (v : List Float) (c k : ℕ) → c < 2 → volume_of c (triangle_row C W s v k) ≡ cell nan W v c k
volume_cell C W s v zero k h = refl
volume_cell C W s v (suc zero) k h = refl
volume_cell C W s v (suc (suc c)) k h = absurd (omega arith)

end_cell : (E L : ℕ) (e : List ℕ) (l : List Float) (c k : ℕ) → c < 4 → end_of c (edge_row E L e l k) ≡ cell 0 E e c k
end_cell E L e l zero k h = refl
end_cell E L e l (suc zero) k h = refl
end_cell E L e l (suc (suc zero)) k h = refl
end_cell E L e l (suc (suc (suc zero))) k h = refl
end_cell E L e l (suc (suc (suc (suc c)))) k h = absurd (omega arith)

length_cell : (E L : ℕ) (e : List ℕ) (l : List Float) (c k : ℕ) → c < 4 → length_of c (edge_row E L e l k) ≡ cell nan L l c k
length_cell E L e l zero k h = refl
length_cell E L e l (suc zero) k h = refl
length_cell E L e l (suc (suc zero)) k h = refl
length_cell E L e l (suc (suc (suc zero))) k h = refl
length_cell E L e l (suc (suc (suc (suc c)))) k h = absurd (omega arith)

side_cell : (O : ℕ) (o : List ℕ) (c k : ℕ) → c < 2 → side_of c (side_row O o k) ≡ cell 0 O o c k
side_cell O o zero k h = refl
side_cell O o (suc zero) k h = refl
side_cell O o (suc (suc c)) k h = absurd (omega arith)

-- equal counts and equal columns are one image
words_path : {a a' b b' f f' g g' : ℕ} {p p' r r' c c' v v' e e' l l' o o' : List ℕ} → a ≡ a' → b ≡ b' → f ≡ f' → g ≡ g' → p ≡ p' → r ≡ r' → c ≡ c' → v ≡ v' → e ≡ e' → l ≡ l' → o ≡ o'
    → (a ∷ b ∷ f ∷ g ∷ []) ++ p ++ r ++ c ++ v ++ e ++ l ++ o ≡ (a' ∷ b' ∷ f' ∷ g' ∷ []) ++ p' ++ r' ++ c' ++ v' ++ e' ++ l' ++ o'
words_path ea eb ef eg ep er ec ev ee el eo i = (ea i ∷ eb i ∷ ef i ∷ eg i ∷ []) ++ ep i ++ er i ++ ec i ++ ev i ++ ee i ++ el i ++ eo i

-- meshes of equal lists have one image
image_path : {P P' : List Particle} {T T' : List Triangle} {E E' : List Edge} {B B' : List Side} → P ≡ P' → T ≡ T' → E ≡ E' → B ≡ B'
    → image_words_of (record { particles = P; triangles = T; edges = E; boundary = B }) ≡ image_words_of (record { particles = P'; triangles = T'; edges = E'; boundary = B' })
image_path ep et ee eb i = image_words_of (record { particles = ep i; triangles = et i; edges = ee i; boundary = eb i })

-- ---- how many words

eight_long : (h p r c v e l o : List ℕ) → length (h ++ p ++ r ++ c ++ v ++ e ++ l ++ o) ≡ length h + length p + length r + length c + length v + length e + length l + length o
eight_long h p r c v e l o =
    let a = length-append h p in
    let b = length-append (h ++ p) r in
    let d = length-append (h ++ p ++ r) c in
    let f = length-append (h ++ p ++ r ++ c) v in
    let g = length-append (h ++ p ++ r ++ c ++ v) e in
    let i = length-append (h ++ p ++ r ++ c ++ v ++ e) l in
    let j = length-append (h ++ p ++ r ++ c ++ v ++ e ++ l) o in
    omega (arith, a, b, d, f, g, i, j)

module _ (k : Counts) (is : List ℕ) (p : List Float) (r c : List ℕ) (v : List Float) (e : List ℕ) (l : List Float) (o : List ℕ)
    (h : StandingWith k (length is) (length p) (length r) (length c) (length v) (length e) (length l) (length o)) (up : Rising is (length is) (k.edges + length is)) where
  -- an image without the listed edges has as many words as its counts say
  pub left_words_long : length (left_words k is p r c v e l o) ≡ image_words k.particles k.triangles k.edges k.boundary
  unfolding left_words
  left_words_long =
      let P = k.particles in
      let T = k.triangles in
      let E = k.edges in
      let N : ℕ = E + length is in
      let n₁ : length (bits_in_of (fronts_of point_columns P (length p / point_columns) p)) ≡ point_columns * P = bits_length (fronts_of point_columns P (length p / point_columns) p) ∙ fronts_length point_columns P (length p / point_columns) p h.points (omega arith) in
      let n₂ = fronts_length 2 P (length r / 2) r h.roots (omega arith) in
      let n₃ = fronts_length 3 T (length c / 3) c h.corners (omega arith) in
      let n₄ : length (bits_in_of (fronts_of 2 T (length v / 2) v)) ≡ 2 * T = bits_length (fronts_of 2 T (length v / 2) v) ∙ fronts_length 2 T (length v / 2) v h.volumes (omega arith) in
      let n₅ = left_fronts_length 4 N (length e / 4) is e h.ends (omega arith) up in
      let n₆ : length (bits_in_of (left_fronts 4 N (length l / 4) is l)) ≡ 4 * (N - length is) = bits_length (left_fronts 4 N (length l / 4) is l) ∙ left_fronts_length 4 N (length l / 4) is l h.lengths (omega arith) up in
      let n₇ = fronts_length 2 k.boundary (length o / 2) o h.outline (omega arith) in
      let all =
      eight_long (P ∷ T ∷ E ∷ k.boundary ∷ []) (bits_in_of (fronts_of point_columns P (length p / point_columns) p)) (fronts_of 2 P (length r / 2) r) (fronts_of 3 T (length c / 3) c) (bits_in_of (fronts_of 2 T (length v / 2) v))
      (left_fronts 4 N (length e / 4) is e) (bits_in_of (left_fronts 4 N (length l / 4) is l)) (fronts_of 2 k.boundary (length o / 2) o) in
      all ∙ omega (arith, n₁, n₂, n₃, n₄, n₅, n₆, n₇)

  -- ---- whose words they are

  -- those of the mesh whose rows are the first of the blocks without the listed edges
  pub left_image : (M : Mesh) → M.particles ≡ particles_at k.particles p r → M.triangles ≡ triangles_at k.triangles c v → M.edges ≡ left_out is (edges_at (k.edges + length is) e l)
      → M.boundary ≡ boundary_at k.boundary o → left_words k is p r c v e l o ≡ image_words_of M
  unfolding left_words image_words_of particles_at triangles_at edges_at boundary_at
  left_image M ep et ee eb =
      let N : ℕ = k.edges + length is in
      let rows = edge_row (length e / 4) (length l / 4) e l in
      let n : length (tab N rows) ≡ N = tab_length N rows in
      let m = left_length is (tab N rows) (subst (λ (x : ℕ). Rising is (length is) x) (sym n) up) in
      let few : k.edges ≡ length (left_out is (tab N rows)) = omega (arith, m, n) in
      words_path (sym (tab_length k.particles _)) (sym (tab_length k.triangles _)) few (sym (tab_length k.boundary _))
      (ap bits_in_of (fronts_rows nan point_columns k.particles (length p / point_columns) p (particle_row (length p / point_columns) (length r / 2) p r) point_of h.points (omega arith) (λ c i q. sym (point_at (length p / point_columns) (length r / 2) p r c i q))))
      (fronts_rows 0 2 k.particles (length r / 2) r (particle_row (length p / point_columns) (length r / 2) p r) root_of h.roots (omega arith) (root_cell (length p / point_columns) (length r / 2) p r))
      (fronts_rows 0 3 k.triangles (length c / 3) c (triangle_row (length c / 3) (length v / 2) c v) corner_of h.corners (omega arith) (corner_cell (length c / 3) (length v / 2) c v))
      (ap bits_in_of (fronts_rows nan 2 k.triangles (length v / 2) v (triangle_row (length c / 3) (length v / 2) c v) volume_of h.volumes (omega arith) (volume_cell (length c / 3) (length v / 2) c v)))
      (left_rows 0 4 N (length e / 4) is e rows end_of h.ends (omega arith) (end_cell (length e / 4) (length l / 4) e l))
      (ap bits_in_of (left_rows nan 4 N (length l / 4) is l rows length_of h.lengths (omega arith) (length_cell (length e / 4) (length l / 4) e l)))
      (fronts_rows 0 2 k.boundary (length o / 2) o (side_row (length o / 2) o) side_of h.outline (omega arith) (side_cell (length o / 2) o))
      ∙ image_path (sym ep) (sym et) (sym ee) (sym eb)

-- the same of all rows
module _ (k : Counts) (p : List Float) (r c : List ℕ) (v : List Float) (e : List ℕ) (l : List Float) (o : List ℕ) (h : Standing k (length p) (length r) (length c) (length v) (length e) (length l) (length o)) where
  stands : StandingWith k 0 (length p) (length r) (length c) (length v) (length e) (length l) (length o)
  stands = standing_with k _ _ _ _ _ _ _ h

  pub block_words_long : length (block_words k p r c v e l o) ≡ image_words k.particles k.triangles k.edges k.boundary
  block_words_long = sym (ap length (left_words_none k p r c v e l o)) ∙ left_words_long k [] p r c v e l o stands (none_rising [] _)

  pub rows_image : block_words k p r c v e l o ≡ image_words_of (mesh_at k p r c v e l o)
  unfolding mesh_at left_out
  rows_image =
      let z : k.edges ≡ k.edges + length {A = ℕ} [] = omega arith in
      sym (left_words_none k p r c v e l o) ∙ left_image k [] p r c v e l o stands (none_rising [] _) (mesh_at k p r c v e l o) refl refl (ap (λ (x : ℕ). edges_at x e l) z) refl
