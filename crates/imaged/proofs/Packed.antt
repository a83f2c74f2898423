-- Blocks that are just as long as the columns of a mesh hold that mesh. Assumes nothing.
use Prim.Native.Nat.{ℕ, zero, suc, ◌-◌, ◌*◌, ◌/◌}
use mathlib.Core.Path.{◌≡◌, refl, sym, ap, ap₂, ◌∙◌, subst}
use mathlib.Core.List.{List, [], ◌++◌, map, append-nil}
use native.Mathlib.Omega.{arith}
use lib.ListN.{length, replicate, length-map}
use Rattle.lists.specs.Lists.{padded, each}
use Rattle.float.specs.Numbers.{zero32}
use Rattle.columns.specs.Block.{stack, block_of}
use Rattle.model.specs.Mesh.{Mesh}
use Rattle.mesh.specs.At.{mesh_at}
use Rattle.mesh.specs.Log.{world_of}
use Rattle.mesh.specs.Given.{Given, Lent, given, sizes, mesh_of}
use Rattle.mesh.specs.Filled.{Filled, lent, point_of, root_of, corner_of, volume_of, end_of, length_of, side_of}
use Rattle.mesh.specs.declared.Counts.{Counts}
use Rattle.mesh.specs.Widths.{point_columns}
use Rattle.filled.specs.Counts.{counts_in}
use Rattle.filled.proofs.Cells.{stack_long}
use Rattle.model.specs.Trace.{Rowed}
use Rattle.filled.proofs.Held.{mesh_held}

-- the seven blocks of a mesh, each as long as its columns
abbrev pub packed_of : Mesh → Given
packed_of M =
    given (stack point_columns (λ k. map (point_of k) M.particles)) (stack 2 (λ k. map (root_of k) M.particles)) (stack 3 (λ k. map (corner_of k) M.triangles)) (stack 2 (λ k. map (volume_of k) M.triangles))
    (stack 4 (λ k. map (end_of k) M.edges)) (stack 4 (λ k. map (length_of k) M.edges)) (stack 2 (λ k. map (side_of k) M.boundary))

module _ {A : Type 0} (z : A) where
  -- a list that is as long as it is to be padded stays
  padded_same : (n : ℕ) (l : List A) → length l ≡ n → padded n z l ≡ l
  unfolding padded
  padded_same n l h =
      let e : n - length l ≡ 0 = omega arith in
      ap (λ (k : ℕ). l ++ replicate k z) e ∙ append-nil l

  stack_same : (n : ℕ) (f : ℕ → List A) → ((j : ℕ) → length (f j) ≡ n) → (w : ℕ) → stack w (λ c. padded n z (f c)) ≡ stack w f
  unfolding stack
  stack_same n f even zero = refl
  stack_same n f even (suc w) = ap₂ {C = List A} (λ x y. x ++ y) (stack_same n f even w) (padded_same n (f w) (even w))

  -- columns one behind the other are a block of their own length
  pub packed_block : (w R n : ℕ) (f : ℕ → List A) → ((j : ℕ) → length (f j) ≡ n) → R ≡ n → stack w f ≡ block_of (length (stack w f)) w R z f
  packed_block w R n f even e =
      subst (λ (r : ℕ). stack w f ≡ block_of (length (stack w f)) w r z f) (sym e)
      (sym (ap (λ (l : List A). padded (length (stack w f)) z l) (stack_same n f even w) ∙ padded_same (length (stack w f)) (stack w f) refl))

module _ (M : Mesh) where
  pub points_long : length (packed_of M).points ≡ point_columns * length M.particles
  points_long = stack_long (length M.particles) _ (λ j. length-map M.particles (point_of j)) point_columns

  pub roots_long : length (packed_of M).roots ≡ 2 * length M.particles
  roots_long = stack_long (length M.particles) _ (λ j. length-map M.particles (root_of j)) 2

  pub corners_long : length (packed_of M).corners ≡ 3 * length M.triangles
  corners_long = stack_long (length M.triangles) _ (λ j. length-map M.triangles (corner_of j)) 3

  pub volumes_long : length (packed_of M).volumes ≡ 2 * length M.triangles
  volumes_long = stack_long (length M.triangles) _ (λ j. length-map M.triangles (volume_of j)) 2

  pub ends_long : length (packed_of M).ends ≡ 4 * length M.edges
  ends_long = stack_long (length M.edges) _ (λ j. length-map M.edges (end_of j)) 4

  pub lengths_long : length (packed_of M).lengths ≡ 4 * length M.edges
  lengths_long = stack_long (length M.edges) _ (λ j. length-map M.edges (length_of j)) 4

  pub outline_long : length (packed_of M).outline ≡ 2 * length M.boundary
  outline_long = stack_long (length M.boundary) _ (λ j. length-map M.boundary (side_of j)) 2

  -- as many places as these blocks have, and no log
  abbrev lengths_of : Lent
  lengths_of = lent (packed_of M).points (packed_of M).roots (packed_of M).corners (packed_of M).volumes (packed_of M).ends (packed_of M).lengths (packed_of M).outline []

  packed_filled : Filled (world_of M []) lengths_of (packed_of M).points (packed_of M).roots (packed_of M).corners (packed_of M).volumes (packed_of M).ends (packed_of M).lengths (packed_of M).outline []
  unfolding padded each
  packed_filled =
      record {
        points = packed_block zero32 point_columns _ (length M.particles) _ (λ j. length-map M.particles (point_of j)) (omega (arith, points_long));
        roots = packed_block 0 2 _ (length M.particles) _ (λ j. length-map M.particles (root_of j)) (omega (arith, roots_long));
        corners = packed_block 0 3 _ (length M.triangles) _ (λ j. length-map M.triangles (corner_of j)) (omega (arith, corners_long));
        volumes = packed_block zero32 2 _ (length M.triangles) _ (λ j. length-map M.triangles (volume_of j)) (omega (arith, volumes_long));
        ends = packed_block 0 4 _ (length M.edges) _ (λ j. length-map M.edges (end_of j)) (omega (arith, ends_long));
        lengths = packed_block zero32 4 _ (length M.edges) _ (λ j. length-map M.edges (length_of j)) (omega (arith, lengths_long));
        outline = packed_block 0 2 _ (length M.boundary) _ (λ j. length-map M.boundary (side_of j)) (omega (arith, outline_long));
        log = refl;
      }

  sizes_packed : sizes (packed_of M) ≡ counts_in (world_of M [])
  sizes_packed =
      let p : length (packed_of M).points / point_columns ≡ length M.particles = omega (arith, points_long) in
      let t : length (packed_of M).corners / 3 ≡ length M.triangles = omega (arith, corners_long) in
      let e : length (packed_of M).ends / 4 ≡ length M.edges = omega (arith, ends_long) in
      let b : length (packed_of M).outline / 2 ≡ length M.boundary = omega (arith, outline_long) in
      rw (p, t, e, b)

  -- they hold the mesh
  pub packed_held : Rowed M → mesh_of (packed_of M) ≡ M
  unfolding mesh_of
  packed_held S =
      let G = packed_of M in
      ap (λ (k : Counts). mesh_at k G.points G.roots G.corners G.volumes G.ends G.lengths G.outline) sizes_packed
      ∙ mesh_held (world_of M []) lengths_of G.points G.roots G.corners G.volumes G.ends G.lengths G.outline [] packed_filled S refl
