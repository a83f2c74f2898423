-- Laws of a whole image: the tests of its lists are those of the mesh that it is. Assumes nothing.
use Prim.Native.Nat.{ℕ, ◌+◌, ◌*◌, ◌/◌}
use native.Mathlib.Omega.{arith}
use mathlib.Core.Path.{◌≡◌, refl, ap, ap₂, ◌∙◌}
use mathlib.Core.Bool.{Bool, ◌&&◌}
use mathlib.Core.List.{List}
use lib.ListN.{length}
use lib.Dec.{ltb}
use Rattle.lists.specs.Lists.{all, up_to}
use Rattle.model.specs.Valid.{particle_ok, triangle_ok, edge_ok, root_ok, corners_ok, numbers_fit_of, indices_fit_of}
use Rattle.mesh.specs.At.{particles_at, triangles_at, edges_at}
use Rattle.mesh.specs.Given.{Given, mesh_of, sizes}
use Rattle.mesh.specs.Widths.{point_columns, particle_words}
use Rattle.judge.specs.Told.{pair_ok, VolumesTold}
use Rattle.judge.proofs.Checked.{numbers_told, indices_told}
use Rattle.image.specs.Words.{word_at_of, words_from, numbers_from}
use Rattle.image.specs.Image.{blocks_in, image_of}
use Rattle.image_checks.specs.Runs.{words_ok, pairs_ok, threes_ok}
use Rattle.image.proofs.InBlocks.{words_long, numbers_long}
use Rattle.image_checks.proofs.Lists.{roots_told, corners_told, pairs_told}

-- equal counts give one input
pub counted : (s : List ℕ) (p t e b : ℕ) → p ≡ word_at_of s 0 → t ≡ word_at_of s 1 → e ≡ word_at_of s 2 → b ≡ word_at_of s 3 → blocks_in s p t e b ≡ image_of s
unfolding image_of
counted s p t e b ep et ee eb i = blocks_in s (ep i) (et i) (ee i) (eb i)

module _ (s : List ℕ) (p t e b : ℕ) where
  -- how many rows each list has
  rows_p : p ≡ length (numbers_from s 4 (point_columns * p)) / point_columns
  rows_p = omega (arith, numbers_long s 4 (point_columns * p))

  rows_t : t ≡ length (words_from s (4 + particle_words * p) (3 * t)) / 3
  rows_t = omega (arith, words_long s (4 + particle_words * p) (3 * t))

  rows_e : e ≡ length (words_from s (4 + particle_words * p + 5 * t) (4 * e)) / 4
  rows_e = omega (arith, words_long s (4 + particle_words * p + 5 * t) (4 * e))

  rows_b : b ≡ length (words_from s (4 + particle_words * p + 5 * t + 8 * e) (2 * b)) / 2
  rows_b = omega (arith, words_long s (4 + particle_words * p + 5 * t + 8 * e) (2 * b))

  -- the numbers of the blocks
  blocks_numbers :
      (x y z : Bool) → x ≡ all particle_ok (particles_at p (numbers_from s 4 (point_columns * p)) (words_from s (4 + point_columns * p) (2 * p)))
      → VolumesTold t (numbers_from s (4 + particle_words * p + 3 * t) (2 * t)) y
      → z ≡ all edge_ok (edges_at e (words_from s (4 + particle_words * p + 5 * t) (4 * e)) (numbers_from s (4 + particle_words * p + 5 * t + 4 * e) (4 * e)))
      → (x && y && z) ≡ numbers_fit_of (mesh_of (blocks_in s p t e b))
  unfolding mesh_of blocks_in
  blocks_numbers x y z hx hy hz =
      let G = blocks_in s p t e b in
      numbers_told (sizes G) G x y z (hx ∙ ap (λ (m : ℕ). all particle_ok (particles_at m G.points G.roots)) rows_p)
      (λ cs. hy cs ∙ ap (λ (m : ℕ). all triangle_ok (triangles_at m cs G.volumes)) rows_t)
      (hz ∙ ap (λ (m : ℕ). all edge_ok (edges_at m G.ends G.lengths)) rows_e)

  -- the indices of the blocks
  blocks_indices :
      (x y z w : Bool) → x ≡ words_ok (λ (j : ℕ). ltb j p) s (4 + point_columns * p) p → y ≡ threes_ok p s (4 + particle_words * p) t
      → z ≡ pairs_ok p s (4 + particle_words * p + 5 * t) e → w ≡ pairs_ok p s (4 + particle_words * p + 5 * t + 8 * e) b
      → (x && y && z && w) ≡ indices_fit_of (mesh_of (blocks_in s p t e b))
  unfolding mesh_of blocks_in
  blocks_indices x y z w hx hy hz hw =
      let G = blocks_in s p t e b in
      indices_told (sizes G) G x y z w (λ ps. roots_told s p x hx ps ∙ ap (λ (n : ℕ). all (root_ok n) (particles_at n ps G.roots)) rows_p)
      (λ vs. corners_told p s (4 + particle_words * p) t y hy vs ∙ ap₂ (λ (n m : ℕ). all (corners_ok n) (triangles_at m G.corners vs)) rows_p rows_t)
      (hz ∙ pairs_told p s (4 + particle_words * p + 5 * t) e (4 * e) _ (omega arith) rows_e ∙ ap₂ (λ (n m : ℕ). all (pair_ok n (length G.ends / 4) G.ends) (up_to m)) rows_p rows_e)
      (hw ∙ pairs_told p s (4 + particle_words * p + 5 * t + 8 * e) b (2 * b) _ (omega arith) rows_b
      ∙ ap₂ (λ (n m : ℕ). all (pair_ok n (length G.outline / 2) G.outline) (up_to m)) rows_p rows_b)

-- the same of an image, whose counts were read
module _ (s : List ℕ) (p t e : ℕ) (ep : p ≡ word_at_of s 0) (et : t ≡ word_at_of s 1) (ee : e ≡ word_at_of s 2) where
  pub image_numbers :
      (x y z : Bool) → x ≡ all particle_ok (particles_at p (numbers_from s 4 (point_columns * p)) (words_from s (4 + point_columns * p) (2 * p)))
      → VolumesTold t (numbers_from s (4 + particle_words * p + 3 * t) (2 * t)) y
      → z ≡ all edge_ok (edges_at e (words_from s (4 + particle_words * p + 5 * t) (4 * e)) (numbers_from s (4 + particle_words * p + 5 * t + 4 * e) (4 * e)))
      → (x && y && z) ≡ numbers_fit_of (mesh_of (image_of s))
  image_numbers x y z hx hy hz =
      blocks_numbers s p t e (word_at_of s 3) x y z hx hy hz ∙ ap (λ (G : Given). numbers_fit_of (mesh_of G)) (counted s p t e (word_at_of s 3) ep et ee refl)

  pub image_indices :
      (b : ℕ) → b ≡ word_at_of s 3
      → (x y z w : Bool) → x ≡ words_ok (λ (j : ℕ). ltb j p) s (4 + point_columns * p) p → y ≡ threes_ok p s (4 + particle_words * p) t
      → z ≡ pairs_ok p s (4 + particle_words * p + 5 * t) e → w ≡ pairs_ok p s (4 + particle_words * p + 5 * t + 8 * e) b
      → (x && y && z && w) ≡ indices_fit_of (mesh_of (image_of s))
  image_indices b eb x y z w hx hy hz hw =
      blocks_indices s p t e b x y z w hx hy hz hw ∙ ap (λ (G : Given). indices_fit_of (mesh_of G)) (counted s p t e b ep et ee eb)
