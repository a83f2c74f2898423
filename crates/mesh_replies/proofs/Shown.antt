-- The words of the rows that stand in blocks are those of the mesh and of the log that the blocks hold. Assumes nothing.
use Prim.Native.Nat.{ℕ, ◌+◌, ◌*◌, ◌≤◌}
use native.Mathlib.Omega.{arith}
use mathlib.Core.Path.{◌≡◌, sym, ap, subst, ◌∙◌}
use mathlib.Core.List.{List}
use lib.ListN.{length, take}
use lib.Seq.{length-take-le}
use lib.Ieee.{Float}
use Rattle.lists.specs.LeftOut.{Rising, left_out}
use Rattle.model.specs.Mesh.{Mesh}
use Rattle.mesh.specs.At.{particles_at, triangles_at, edges_at, boundary_at}
use Rattle.mesh.specs.Log.{log_at, words_in}
use Rattle.mesh.specs.declared.Counts.{Counts}
use Rattle.mesh.proofs.Blocks.{words_of_lem}
use Rattle.image.specs.Image.{image_words, image_words_of}
use Rattle.image_writing.specs.Stores.{left_words, StandingWith}
use Rattle.image_writing.proofs.Left.{rising_all}
use Rattle.image_writing.proofs.Rows.{left_words_long, left_image}
use Rattle.edge_drops.specs.Parted.{listed}
use Rattle.mesh_replies.specs.Told.{listed_edges, Tellable}

-- ---- rows that can be told

module _ (k : Counts) (gone : List ℕ) (lp lr lc lv le ll lo lg logged : ℕ) (h : Tellable k gone lp lr lc lv le ll lo lg logged) where
  -- the list has room for the listed edges, so that they are as many as it says
  pub listed_few : listed gone ≤ length gone
  listed_few = omega (arith, h.few_edges, h.list)

  pub listed_count : length (listed_edges gone) ≡ listed gone
  listed_count = length-take-le (listed gone) gone listed_few

  -- they stand in their blocks
  pub standing : StandingWith k (length (listed_edges gone)) lp lr lc lv le ll lo
  standing =
      record { points = h.points; roots = h.roots; corners = h.corners; volumes = h.volumes; ends = omega (arith, h.ends, listed_count); lengths = omega (arith, h.lengths, listed_count); outline = h.outline }

  -- the listed edges rise
  pub listed_rising : Rising (listed_edges gone) (length (listed_edges gone)) (k.edges + length (listed_edges gone))
  listed_rising =
      subst (λ (n : ℕ). Rising (listed_edges gone) (length (listed_edges gone)) (k.edges + n)) (sym listed_count) (rising_all gone (listed gone) (k.edges + listed gone) h.rising listed_few)

-- ---- the words

module _ (k : Counts) (gone : List ℕ) (p : List Float) (r c : List ℕ) (v : List Float) (e : List ℕ) (l : List Float) (o : List ℕ) (lg logged : ℕ)
    (h : Tellable k gone (length p) (length r) (length c) (length v) (length e) (length l) (length o) lg logged) where
  -- as many as the counts say
  pub told_long : length (left_words k (listed_edges gone) p r c v e l o) ≡ image_words k.particles k.triangles k.edges k.boundary
  told_long = left_words_long k (listed_edges gone) p r c v e l o (standing k gone _ _ _ _ _ _ _ lg logged h) (listed_rising k gone _ _ _ _ _ _ _ lg logged h)

  -- those of the mesh that the blocks hold without the listed edges
  pub told_image : (M : Mesh) → M.particles ≡ particles_at k.particles p r → M.triangles ≡ triangles_at k.triangles c v
      → M.edges ≡ left_out (listed_edges gone) (edges_at (k.edges + listed gone) e l) → M.boundary ≡ boundary_at k.boundary o → left_words k (listed_edges gone) p r c v e l o ≡ image_words_of M
  told_image M ep et ee eb =
      left_image k (listed_edges gone) p r c v e l o (standing k gone _ _ _ _ _ _ _ lg logged h) (listed_rising k gone _ _ _ _ _ _ _ lg logged h) M ep et
      (ee ∙ ap (λ (n : ℕ). left_out (listed_edges gone) (edges_at (k.edges + n) e l)) (sym (listed_count k gone _ _ _ _ _ _ _ lg logged h))) eb

-- ---- the log

pub rows_log : (n : ℕ) (g : List ℕ) → 6 * n ≤ length g → take (6 * n) g ≡ words_in (log_at n g)
unfolding log_at
rows_log n g h = words_of_lem n g h
