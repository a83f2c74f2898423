-- Blocks that are filled with a mesh: it fits them, and the image of their first rows is the image of the mesh. Assumes nothing.
use Prim.Native.Nat.{ℕ, zero, suc, ◌+◌, ◌-◌, ◌*◌, ◌/◌, ◌≤◌, ◌<◌}
use native.Mathlib.Omega.{arith}
use native.Mathlib.Nat.{zero-mul}
use mathlib.Core.Path.{◌≡◌, refl, sym, ap, ap₂, ◌∙◌}
use mathlib.Core.List.{List, [], ◌∷◌, ◌++◌, append_assoc}
use lib.ListN.{length, take, drop, replicate, length-append, length-replicate, length-map}
use lib.Seq.{take_at, drop_at, take-append-le}
use lib.Ieee.{Float}
use native.Mathlib.Decide.{ℕ_discrete}
use Rattle.lists.specs.Lists.{padded}
use Rattle.float.specs.Numbers.{zero32}
use Rattle.columns.specs.Block.{stack, block_of}
use Rattle.columns.proofs.Cells.{next_col}
use Rattle.model.specs.Mesh.{Mesh}
use Rattle.mesh.specs.Given.{Lent}
use Rattle.mesh.specs.Log.{World}
use Rattle.mesh.specs.Filled.{Filled, point_of, root_of, corner_of, volume_of, end_of, length_of, side_of}
use Rattle.mesh.specs.Widths.{point_columns}
use Rattle.image.specs.Words.{bits_in_of}
use Rattle.image.specs.Image.{image_words_of}
use Rattle.image_writing.specs.Stores.{fronts_of, block_words}

module _ {A : Type 0} where
  -- a padded list is not shorter than the list, and as long as it is padded to where the list fits
  padded_least : (m : ℕ) (z : A) (l : List A) → length l ≤ length (padded m z l)
  unfolding padded
  padded_least m z l = omega (arith, length-append l (replicate (m - length l) z))

  padded_long : (m : ℕ) (z : A) (l : List A) → length l ≤ m → length (padded m z l) ≡ m
  unfolding padded
  padded_long m z l h = omega (arith, length-append l (replicate (m - length l) z), length-replicate (m - length l) z)

  -- w columns of n places or more
  stack_least : (w n : ℕ) (g : ℕ → List A) → ((c : ℕ) → n ≤ length (g c)) → w * n ≤ length (stack w g)
  unfolding stack
  stack_least zero n g h = omega (arith, zero-mul n)
  stack_least (suc w) n g h =
      let i = stack_least w n g h in
      let z : suc w ≡ w + 1 = omega arith in
      let e = ap (λ (x : ℕ). x * n) z ∙ next_col w n in
      omega (arith, i, e, h w, length-append (stack w g) (g w))

  -- w columns of R places
  stack_long : (w R : ℕ) (g : ℕ → List A) → ((c : ℕ) → length (g c) ≡ R) → length (stack w g) ≡ w * R
  unfolding stack
  stack_long zero R g h = sym (zero-mul R)
  stack_long (suc w) R g h =
      let i = stack_long w R g h in
      let z : suc w ≡ w + 1 = omega arith in
      let e = ap (λ (x : ℕ). x * R) z ∙ next_col w R in
      omega (arith, i, e, h w, length-append (stack w g) (g w))

  -- a block as long as it was lent holds its columns
  pub block_holds : (len w R n : ℕ) (z : A) (f : ℕ → List A) (s : List A) → s ≡ block_of len w R z f → length s ≡ len → ((c : ℕ) → length (f c) ≡ n) → w * n ≤ len
  block_holds len w R n z f s e l h =
      let g : ℕ → List A = λ c. padded R z (f c) in
      let a = stack_least w n g (λ c. let b = padded_least R z (f c) in omega (arith, b, h c)) in
      let b = padded_least len z (stack w g) in
      omega (arith, a, b, sym (ap length e) ∙ l)

  -- the front of column c of a stack, whatever stands behind it
  column_front : (w c R n : ℕ) (g : ℕ → List A) (x : List A) → c < w → n ≤ R → ((j : ℕ) → length (g j) ≡ R) → take n (drop (c * R) (stack w g ++ x)) ≡ take n (g c)
  unfolding stack
  column_front zero c R n g x h few long = absurd (omega arith)
  column_front (suc w) c R n g x h few long = by (ℕ_discrete c w) (λ q. column_front w c R n g (g w ++ x) q few long)
    where
      by : Dec (c ≡ w) → (c < w → take n (drop (c * R) (stack w g ++ (g w ++ x))) ≡ take n (g c)) → take n (drop (c * R) (stack w g ++ g w ++ x)) ≡ take n (g c)
      by (yes e) again =
          ap (λ (k : ℕ). take n (drop (k * R) (stack w g ++ g w ++ x))) e ∙ ap (λ (l : List A). take n (drop (w * R) l)) (append_assoc (stack w g) (g w) x)
          ∙ ap (take n) (drop_at (stack w g) (g w ++ x) (w * R) (stack_long w R g long)) ∙ take-append-le n (g w) x (omega (arith, long w)) ∙ ap (λ (k : ℕ). take n (g k)) (sym e)
      by (no e) again =
          ap (λ (l : List A). take n (drop (c * R) l)) (append_assoc (stack w g) (g w) x) ∙ again (omega (arith, e))

  -- stacks of equal columns are equal
  stack_ext : (w : ℕ) (f g : ℕ → List A) → ((c : ℕ) → c < w → f c ≡ g c) → stack w f ≡ stack w g
  unfolding stack
  stack_ext zero f g h = refl
  stack_ext (suc w) f g h = ap₂ (λ (a b : List A). a ++ b) (stack_ext w f g (λ c p. h c (omega arith))) (h w (omega arith))

  -- the front of a padded list
  padded_front : (R n : ℕ) (z : A) (l : List A) → length l ≡ n → take n (padded R z l) ≡ l
  unfolding padded
  padded_front R n z l h = take_at l (replicate (R - length l) z) n h

  -- the fronts of a block's columns are the columns that it was made of
  pub fronts_of_lem : (len w R n : ℕ) (z : A) (f : ℕ → List A) (s : List A) → s ≡ block_of len w R z f → n ≤ R → ((c : ℕ) → length (f c) ≡ n) → fronts_of w n R s ≡ stack w f
  unfolding fronts_of padded
  fronts_of_lem len w R n z f s e few h =
      let g : ℕ → List A = λ c. padded R z (f c) in
      let x : List A = replicate (len - length (stack w g)) z in
      ap (λ (t : List A). stack w (λ c. take n (drop (c * R) t))) e
      ∙ stack_ext w (λ c. take n (drop (c * R) (stack w g ++ x))) f
      (λ c p. column_front w c R n g x p few (λ j. padded_long R z (f j) (omega (arith, h j))) ∙ padded_front R n z (f c) (h c))

-- ---- seven blocks that are filled with a mesh

-- each list of a mesh fits the lent columns
pub record Room (M : Mesh) (L : Lent) : Type 0 where
  pub points : length M.particles ≤ L.points / point_columns
  pub roots : length M.particles ≤ L.roots / 2
  pub corners : length M.triangles ≤ L.corners / 3
  pub volumes : length M.triangles ≤ L.volumes / 2
  pub ends : length M.edges ≤ L.ends / 4
  pub lengths : length M.edges ≤ L.lengths / 4
  pub outline : length M.boundary ≤ L.outline / 2

-- blocks that are as long as they were lent
pub record Long (L : Lent) (p : List Float) (r c : List ℕ) (v : List Float) (e : List ℕ) (l : List Float) (o : List ℕ) : Type 0 where
  pub points : length p ≡ L.points
  pub roots : length r ≡ L.roots
  pub corners : length c ≡ L.corners
  pub volumes : length v ≡ L.volumes
  pub ends : length e ≡ L.ends
  pub lengths : length l ≡ L.lengths
  pub outline : length o ≡ L.outline

module _ (W : World) (L : Lent) (p : List Float) (r c : List ℕ) (v : List Float) (e : List ℕ) (l : List Float) (o g : List ℕ) (h : Filled W L p r c v e l o g) (n : Long L p r c v e l o) where
  pub filled_room : Room W.mesh L
  filled_room =
      let M = W.mesh in
      let a = block_holds L.points point_columns (L.points / point_columns) (length M.particles) zero32 _ p h.points n.points (λ k. length-map M.particles (point_of k)) in
      let b = block_holds L.roots 2 (L.roots / 2) (length M.particles) 0 _ r h.roots n.roots (λ k. length-map M.particles (root_of k)) in
      let d = block_holds L.corners 3 (L.corners / 3) (length M.triangles) 0 _ c h.corners n.corners (λ k. length-map M.triangles (corner_of k)) in
      let f = block_holds L.volumes 2 (L.volumes / 2) (length M.triangles) zero32 _ v h.volumes n.volumes (λ k. length-map M.triangles (volume_of k)) in
      let i = block_holds L.ends 4 (L.ends / 4) (length M.edges) 0 _ e h.ends n.ends (λ k. length-map M.edges (end_of k)) in
      let j = block_holds L.lengths 4 (L.lengths / 4) (length M.edges) zero32 _ l h.lengths n.lengths (λ k. length-map M.edges (length_of k)) in
      let m = block_holds L.outline 2 (L.outline / 2) (length M.boundary) 0 _ o h.outline n.outline (λ k. length-map M.boundary (side_of k)) in
      record {
        points = omega (arith, a);
        roots = omega (arith, b);
        corners = omega (arith, d);
        volumes = omega (arith, f);
        ends = omega (arith, i);
        lengths = omega (arith, j);
        outline = omega (arith, m);
      }

-- seven equal columns of words are one image
words_path : (h : List ℕ) {p p' r r' c c' v v' e e' l l' o o' : List ℕ} → p ≡ p' → r ≡ r' → c ≡ c' → v ≡ v' → e ≡ e' → l ≡ l' → o ≡ o' → h ++ p ++ r ++ c ++ v ++ e ++ l ++ o ≡ h ++ p' ++ r' ++ c' ++ v' ++ e' ++ l' ++ o'
words_path h ep er ec ev ee el eo i = h ++ ep i ++ er i ++ ec i ++ ev i ++ ee i ++ el i ++ eo i

module _ (W : World) (L : Lent) (p : List Float) (r c : List ℕ) (v : List Float) (e : List ℕ) (l : List Float) (o g : List ℕ) (h : Filled W L p r c v e l o g) (n : Long L p r c v e l o) (logged : ℕ) where
  pub filled_words : block_words (record { particles = length W.mesh.particles; triangles = length W.mesh.triangles; edges = length W.mesh.edges; boundary = length W.mesh.boundary; log = logged }) p r c v e l o ≡ image_words_of W.mesh
  unfolding block_words image_words_of
  filled_words =
      let M = W.mesh in
      let q = filled_room W L p r c v e l o g h n in
      words_path (length M.particles ∷ length M.triangles ∷ length M.edges ∷ length M.boundary ∷ [])
      (ap bits_in_of (ap (λ (x : ℕ). fronts_of point_columns (length M.particles) (x / point_columns) p) n.points ∙ fronts_of_lem L.points point_columns (L.points / point_columns) (length M.particles) zero32 _ p h.points q.points (λ k. length-map M.particles (point_of k))))
      (ap (λ (x : ℕ). fronts_of 2 (length M.particles) (x / 2) r) n.roots ∙ fronts_of_lem L.roots 2 (L.roots / 2) (length M.particles) 0 _ r h.roots q.roots (λ k. length-map M.particles (root_of k)))
      (ap (λ (x : ℕ). fronts_of 3 (length M.triangles) (x / 3) c) n.corners ∙ fronts_of_lem L.corners 3 (L.corners / 3) (length M.triangles) 0 _ c h.corners q.corners (λ k. length-map M.triangles (corner_of k)))
      (ap bits_in_of (ap (λ (x : ℕ). fronts_of 2 (length M.triangles) (x / 2) v) n.volumes ∙ fronts_of_lem L.volumes 2 (L.volumes / 2) (length M.triangles) zero32 _ v h.volumes q.volumes (λ k. length-map M.triangles (volume_of k))))
      (ap (λ (x : ℕ). fronts_of 4 (length M.edges) (x / 4) e) n.ends ∙ fronts_of_lem L.ends 4 (L.ends / 4) (length M.edges) 0 _ e h.ends q.ends (λ k. length-map M.edges (end_of k)))
      (ap bits_in_of (ap (λ (x : ℕ). fronts_of 4 (length M.edges) (x / 4) l) n.lengths ∙ fronts_of_lem L.lengths 4 (L.lengths / 4) (length M.edges) zero32 _ l h.lengths q.lengths (λ k. length-map M.edges (length_of k))))
      (ap (λ (x : ℕ). fronts_of 2 (length M.boundary) (x / 2) o) n.outline ∙ fronts_of_lem L.outline 2 (L.outline / 2) (length M.boundary) 0 _ o h.outline q.outline (λ k. length-map M.boundary (side_of k)))
