-- Laws of an image that is read straight into lent blocks: a column in its place, and the mesh that the blocks then hold. Assumes nothing.
use Prim.Native.Nat.{ℕ, ◌+◌, ◌-◌, ◌*◌, ◌/◌, ◌≤◌, ◌<◌}
use native.Mathlib.Omega.{arith}
use mathlib.Core.Path.{◌≡◌, sym, ap, subst, ◌∙◌}
use mathlib.Core.Bool.{true}
use mathlib.Core.List.{List}
use lib.ListN.{length, take}
use lib.Ieee.{Float, nan}
use borrow.Rule.Slice.PartMut.{mid_of, put_mid}
use Rattle.lists.specs.Lists.{tab}
use Rattle.lists.proofs.Sifts.{tab_ext, tab_take, tab_drop}
use Rattle.lists.proofs.Stores.{tab_length}
use Rattle.columns.specs.Block.{BlockCopied}
use Rattle.columns.proofs.Blocks.{BlockCopying, copy_part_fits, copy_part_given, block_copy_more}
use Rattle.mesh.specs.At.{mesh_at, particles_at, triangles_at, edges_at, boundary_at}
use Rattle.mesh.specs.Given.{Given, mesh_of, sizes, as_rooms}
use Rattle.mesh.specs.Filled.{Fits}
use Rattle.mesh.specs.declared.Counts.{Counts}
use Rattle.mesh.specs.declared.Rooms.{Rooms}
use Rattle.model.specs.Calls.{too_small}
use Rattle.call_frame.specs.Framed.{copy_need}
use Rattle.mesh.proofs.Blocks.{copied_particles, copied_triangles, copied_edges, copied_boundary}
use Rattle.mesh.proofs.Lists.{mesh_path}
use Rattle.mesh.specs.Widths.{point_columns, particle_words}
use Rattle.image.specs.Words.{word_at_of, number_of, words_from, numbers_from}
use Rattle.image.specs.Image.{image_words, image_of, blocks_in, image_sized_of}
use Rattle.image.proofs.Loading.{sized_loadable, particles_few, triangles_few, edges_few, boundary_few}

-- ---- one column of many

-- a part of a list that is made place by place
tab_part : {A : Type 0} (f : ℕ → A) (m a n : ℕ) → a + n ≤ m → mid_of a (a + n - a) (tab m f) ≡ tab n (λ k. f (a + k))
tab_part f m a n h =
    let e : a + n - a ≡ n = omega arith in
    ap (λ (j : ℕ). mid_of a j (tab m f)) e ∙ ap (take n) (tab_drop a m f) ∙ tab_take n (m - a) (λ k. f (a + k)) (omega arith)

module _ {A : Type 0} (d : A) (n w R : ℕ) (f : ℕ → A) where
  -- the columns that are to be placed
  abbrev columns : List A
  columns = tab (w * n) f

  module _ (s₀ s : List A) (c o a : ℕ) (v : BlockCopying d n w R columns s₀ s c o a) (h : c < w) (room : w * R ≤ length s₀) (few : n ≤ R) where
    -- the turn's column lies in the block, and among the columns
    pub place_fits : o + R ≤ length s
    place_fits = copy_part_fits d n w R columns s₀ s c o a v h (omega (arith, tab_length (w * n) f)) room few

    pub place_given : a + n ≤ w * n
    place_given = let e = copy_part_given d n w R columns s₀ s c o a v h (omega (arith, tab_length (w * n) f)) room few in omega (arith, e, tab_length (w * n) f)

    -- a turn places one column more
    pub place_more : (p : List A) → take n p ≡ tab n (λ k. f (a + k)) → length p ≡ length (mid_of o (o + R - o) s) → BlockCopying d n w R columns s₀ (put_mid o (o + R - o) s p) (c + 1) (o + R) (a + n)
    place_more p q long =
        let part : mid_of a (a + n - a) columns ≡ tab n (λ k. f (a + k)) = tab_part f (w * n) a n place_given in
        let wide : length (mid_of a (a + n - a) columns) ≡ n = ap length part ∙ tab_length n (λ k. f (a + k)) in
        block_copy_more d n w R columns s₀ s c o a v h (omega (arith, tab_length (w * n) f)) room few p (ap (λ (m : ℕ). take m p) wide ∙ q ∙ sym part) long

-- the same of the words and of the numbers of an image
pub words_more : (b : List ℕ) (at n w R : ℕ) (s₀ s : List ℕ) (c o a : ℕ) (v : BlockCopying 0 n w R (words_from b at (w * n)) s₀ s c o a) (h : c < w) (room : w * R ≤ length s₀) (few : n ≤ R) (p : List ℕ)
    → take n p ≡ words_from b (at + a) n → length p ≡ length (mid_of o (o + R - o) s) → BlockCopying 0 n w R (words_from b at (w * n)) s₀ (put_mid o (o + R - o) s p) (c + 1) (o + R) (a + n)
unfolding words_from
words_more b at n w R s₀ s c o a v h room few p q long =
    place_more 0 n w R (λ k. word_at_of b (at + k)) s₀ s c o a v h room few p (q ∙ tab_ext n _ _ (λ k _. ap (word_at_of b) (let e : at + a + k ≡ at + (a + k) = omega arith in e))) long

pub numbers_more : (b : List ℕ) (at n w R : ℕ) (s₀ s : List Float) (c o a : ℕ) (v : BlockCopying nan n w R (numbers_from b at (w * n)) s₀ s c o a) (h : c < w) (room : w * R ≤ length s₀) (few : n ≤ R) (p : List Float)
    → take n p ≡ numbers_from b (at + a) n → length p ≡ length (mid_of o (o + R - o) s) → BlockCopying nan n w R (numbers_from b at (w * n)) s₀ (put_mid o (o + R - o) s p) (c + 1) (o + R) (a + n)
unfolding numbers_from
numbers_more b at n w R s₀ s c o a v h room few p q long =
    place_more nan n w R (λ k. number_of (word_at_of b (at + k))) s₀ s c o a v h room few p
    (q ∙ tab_ext n _ _ (λ k _. ap (λ (j : ℕ). number_of (word_at_of b j)) (let e : at + a + k ≡ at + (a + k) = omega arith in e))) long

-- where the turn's column lies
pub words_lie : (b : List ℕ) (at n w R : ℕ) (s₀ s : List ℕ) (c o a : ℕ) → BlockCopying 0 n w R (words_from b at (w * n)) s₀ s c o a → c < w → w * R ≤ length s₀ → n ≤ R → (o + R ≤ length s) × (a + n ≤ w * n)
unfolding words_from
words_lie b at n w R s₀ s c o a v h room few =
    (place_fits 0 n w R (λ k. word_at_of b (at + k)) s₀ s c o a v h room few, place_given 0 n w R (λ k. word_at_of b (at + k)) s₀ s c o a v h room few)

pub numbers_lie : (b : List ℕ) (at n w R : ℕ) (s₀ s : List Float) (c o a : ℕ) → BlockCopying nan n w R (numbers_from b at (w * n)) s₀ s c o a → c < w → w * R ≤ length s₀ → n ≤ R → (o + R ≤ length s) × (a + n ≤ w * n)
unfolding numbers_from
numbers_lie b at n w R s₀ s c o a v h room few =
    (place_fits nan n w R (λ k. number_of (word_at_of b (at + k))) s₀ s c o a v h room few, place_given nan n w R (λ k. number_of (word_at_of b (at + k))) s₀ s c o a v h room few)

-- ---- the whole image

module _ (s : List ℕ) where
  -- the counts of the input that an image is
  pub sizes_told : sizes (image_of s) ≡ record { particles = word_at_of s 0; triangles = word_at_of s 1; edges = word_at_of s 2; boundary = word_at_of s 3; log = 0 }
  unfolding image_of blocks_in words_from numbers_from
  sizes_told =
      let p = tab_length (point_columns * word_at_of s 0) (λ k. number_of (word_at_of s (4 + k))) in
      let t = tab_length (3 * word_at_of s 1) (λ k. word_at_of s (4 + particle_words * word_at_of s 0 + k)) in
      let e = tab_length (4 * word_at_of s 2) (λ k. word_at_of s (4 + particle_words * word_at_of s 0 + 5 * word_at_of s 1 + k)) in
      let b = tab_length (2 * word_at_of s 3) (λ k. word_at_of s (4 + particle_words * word_at_of s 0 + 5 * word_at_of s 1 + 8 * word_at_of s 2 + k)) in
      let qp : (sizes (image_of s)).particles ≡ word_at_of s 0 = omega (arith, p) in
      let qt : (sizes (image_of s)).triangles ≡ word_at_of s 1 = omega (arith, t) in
      let qe : (sizes (image_of s)).edges ≡ word_at_of s 2 = omega (arith, e) in
      let qb : (sizes (image_of s)).boundary ≡ word_at_of s 3 = omega (arith, b) in
      λ i. record { particles = qp i; triangles = qt i; edges = qe i; boundary = qb i; log = 0 }

  pub counts_read : (p t e b : ℕ) → p ≡ word_at_of s 0 → t ≡ word_at_of s 1 → e ≡ word_at_of s 2 → b ≡ word_at_of s 3 → ◌≡◌ {A = Counts} (record { particles = p; triangles = t; edges = e; boundary = b; log = 0 }) (sizes (image_of s))
  counts_read p t e b qp qt qe qb = (λ i. record { particles = qp i; triangles = qt i; edges = qe i; boundary = qb i; log = 0 }) ∙ sym sizes_told

-- the same read off the counts
pub counts_told : (s : List ℕ) (k : Counts) → k ≡ sizes (image_of s) → (k.particles ≡ word_at_of s 0) × (k.triangles ≡ word_at_of s 1) × (k.edges ≡ word_at_of s 2) × (k.boundary ≡ word_at_of s 3)
counts_told s k q =
    let e = q ∙ sizes_told s in
    (ap (λ (j : Counts). j.particles) e, ap (λ (j : Counts). j.triangles) e, ap (λ (j : Counts). j.edges) e, ap (λ (j : Counts). j.boundary) e)

-- seven blocks into which the image of a mesh of these counts was read
pub record Placings (s : List ℕ) (k : Counts) (lp lr lc lv le ll lo : ℕ) (p : List Float) (r c : List ℕ) (v : List Float) (e : List ℕ) (l : List Float) (o : List ℕ) : Type 0 where
  pub points : BlockCopied nan k.particles point_columns (lp / point_columns) (numbers_from s 4 (point_columns * k.particles)) p
  pub roots : BlockCopied 0 k.particles 2 (lr / 2) (words_from s (4 + point_columns * k.particles) (2 * k.particles)) r
  pub corners : BlockCopied 0 k.triangles 3 (lc / 3) (words_from s (4 + particle_words * k.particles) (3 * k.triangles)) c
  pub volumes : BlockCopied nan k.triangles 2 (lv / 2) (numbers_from s (4 + particle_words * k.particles + 3 * k.triangles) (2 * k.triangles)) v
  pub ends : BlockCopied 0 k.edges 4 (le / 4) (words_from s (4 + particle_words * k.particles + 5 * k.triangles) (4 * k.edges)) e
  pub lengths : BlockCopied nan k.edges 4 (ll / 4) (numbers_from s (4 + particle_words * k.particles + 5 * k.triangles + 4 * k.edges) (4 * k.edges)) l
  pub outline : BlockCopied 0 k.boundary 2 (lo / 2) (words_from s (4 + particle_words * k.particles + 5 * k.triangles + 8 * k.edges) (2 * k.boundary)) o
  pub long_points : length p ≡ lp
  pub long_roots : length r ≡ lr
  pub long_corners : length c ≡ lc
  pub long_volumes : length v ≡ lv
  pub long_ends : length e ≡ le
  pub long_lengths : length l ≡ ll
  pub long_outline : length o ≡ lo

-- n columns of a list that has so many
columns_of : {A : Type 0} {d : A} {w R n m : ℕ} {src s : List A} → BlockCopied d n w R src s → n ≡ m → BlockCopied d m w R src s
columns_of {A} {d} {w} {R} {n} {m} {src} {s} h e = subst (λ (j : ℕ). BlockCopied d j w R src s) e h

-- so they hold its mesh, list by list
module _ (s : List ℕ) where
  abbrev told : Counts
  told = record { particles = word_at_of s 0; triangles = word_at_of s 1; edges = word_at_of s 2; boundary = word_at_of s 3; log = 0 }

  module _ (lp lr lc lv le ll lo : ℕ) (p : List Float) (r c : List ℕ) (v : List Float) (e : List ℕ) (l : List Float) (o : List ℕ) (P : Placings s told lp lr lc lv le ll lo p r c v e l o) where
    particles_placed : particles_at (sizes (image_of s)).particles p r ≡ particles_at (sizes (image_of s)).particles (image_of s).points (image_of s).roots
    unfolding image_of blocks_in words_from numbers_from
    particles_placed =
        let a = tab_length (point_columns * word_at_of s 0) (λ k. number_of (word_at_of s (4 + k))) in
        let b = tab_length (2 * word_at_of s 0) (λ k. word_at_of s (4 + point_columns * word_at_of s 0 + k)) in
        let qa : word_at_of s 0 ≡ length (image_of s).points / point_columns = omega (arith, a) in
        let qb : word_at_of s 0 ≡ length (image_of s).roots / 2 = omega (arith, b) in
        copied_particles (sizes (image_of s)).particles (image_of s).points p (image_of s).roots r lp lr (omega arith) (omega (arith, qa, qb)) (columns_of P.points qa) (columns_of P.roots qb) P.long_points P.long_roots

    triangles_placed : triangles_at (sizes (image_of s)).triangles c v ≡ triangles_at (sizes (image_of s)).triangles (image_of s).corners (image_of s).volumes
    unfolding image_of blocks_in words_from numbers_from
    triangles_placed =
        let a = tab_length (3 * word_at_of s 1) (λ k. word_at_of s (4 + particle_words * word_at_of s 0 + k)) in
        let b = tab_length (2 * word_at_of s 1) (λ k. number_of (word_at_of s (4 + particle_words * word_at_of s 0 + 3 * word_at_of s 1 + k))) in
        let qa : word_at_of s 1 ≡ length (image_of s).corners / 3 = omega (arith, a) in
        let qb : word_at_of s 1 ≡ length (image_of s).volumes / 2 = omega (arith, b) in
        copied_triangles (sizes (image_of s)).triangles (image_of s).corners c (image_of s).volumes v lc lv (omega arith) (omega (arith, qa, qb)) (columns_of P.corners qa) (columns_of P.volumes qb) P.long_corners P.long_volumes

    edges_placed : edges_at (sizes (image_of s)).edges e l ≡ edges_at (sizes (image_of s)).edges (image_of s).ends (image_of s).lengths
    unfolding image_of blocks_in words_from numbers_from
    edges_placed =
        let a = tab_length (4 * word_at_of s 2) (λ k. word_at_of s (4 + particle_words * word_at_of s 0 + 5 * word_at_of s 1 + k)) in
        let b = tab_length (4 * word_at_of s 2) (λ k. number_of (word_at_of s (4 + particle_words * word_at_of s 0 + 5 * word_at_of s 1 + 4 * word_at_of s 2 + k))) in
        let qa : word_at_of s 2 ≡ length (image_of s).ends / 4 = omega (arith, a) in
        let qb : word_at_of s 2 ≡ length (image_of s).lengths / 4 = omega (arith, b) in
        copied_edges (sizes (image_of s)).edges (image_of s).ends e (image_of s).lengths l le ll (omega arith) (omega (arith, qa, qb)) (columns_of P.ends qa) (columns_of P.lengths qb) P.long_ends P.long_lengths

    boundary_placed : boundary_at (sizes (image_of s)).boundary o ≡ boundary_at (sizes (image_of s)).boundary (image_of s).outline
    unfolding image_of blocks_in words_from
    boundary_placed =
        let a = tab_length (2 * word_at_of s 3) (λ k. word_at_of s (4 + particle_words * word_at_of s 0 + 5 * word_at_of s 1 + 8 * word_at_of s 2 + k)) in
        let qa : word_at_of s 3 ≡ length (image_of s).outline / 2 = omega (arith, a) in
        copied_boundary (sizes (image_of s)).boundary (image_of s).outline o lo (omega arith) (columns_of P.outline qa) P.long_outline

    told_placed : mesh_at (sizes (image_of s)) p r c v e l o ≡ mesh_of (image_of s)
    unfolding mesh_of mesh_at
    told_placed = mesh_path particles_placed triangles_placed edges_placed boundary_placed

pub placed_mesh : (s : List ℕ) (k : Counts) (lp lr lc lv le ll lo : ℕ) (p : List Float) (r c : List ℕ) (v : List Float) (e : List ℕ) (l : List Float) (o : List ℕ) → k ≡ sizes (image_of s)
    → Placings s k lp lr lc lv le ll lo p r c v e l o → mesh_at (sizes (image_of s)) p r c v e l o ≡ mesh_of (image_of s)
placed_mesh s k lp lr lc lv le ll lo p r c v e l o q h =
    told_placed s lp lr lc lv le ll lo p r c v e l o (subst (λ (j : Counts). Placings s j lp lr lc lv le ll lo p r c v e l o) (q ∙ sizes_told s) h)

-- ---- the room

-- the bytes of an image that has the sizes of a mesh, by its counts
pub record Bytes (k : Counts) (bytes : ℕ) : Type 0 where
  pub long : bytes ≡ 4 * image_words k.particles k.triangles k.edges k.boundary
  pub few_particles : k.particles ≤ 1024
  pub few_triangles : k.triangles ≤ 1024
  pub few_edges : k.edges ≤ 2048
  pub few_boundary : k.boundary ≤ 2048

pub image_bytes : (s : List ℕ) (k : Counts) → image_sized_of s ≡ true → k ≡ sizes (image_of s) → Bytes k (length s)
image_bytes s k h q =
    subst (λ (j : Counts). Bytes j (length s)) (sym (q ∙ sizes_told s))
    (record { long = (sized_loadable s h).long; few_particles = particles_few s h; few_triangles = triangles_few s h; few_edges = edges_few s h; few_boundary = boundary_few s h })

-- the room that a copy of these counts lacks is the one that the copy of the input lacks
pub lacking_as : (k : Counts) (G : Given) (R : Rooms) (lack : ℕ) → k ≡ sizes G → lack ≡ too_small (as_rooms R) (copy_need k) → lack ≡ too_small (as_rooms R) (copy_need (sizes G))
lacking_as k G R lack q e = e ∙ ap (λ (j : Counts). too_small (as_rooms R) (copy_need j)) q

-- local blocks have room for the mesh of any image
pub local_fits : (s : List ℕ) (k : Counts) → image_sized_of s ≡ true → k ≡ sizes (image_of s)
    → Fits k (record { points = 1024 * point_columns; roots = 2048; corners = 3072; volumes = 2048; ends = 8192; lengths = 8192; outline = 4096; log = 0 })
local_fits s k h q =
    let b = image_bytes s k h q in
    let g : k.log ≡ 0 = ap (λ (j : Counts). j.log) q in
    record {
      points = omega (arith, b.few_particles);
      roots = omega (arith, b.few_particles);
      corners = omega (arith, b.few_triangles);
      volumes = omega (arith, b.few_triangles);
      ends = omega (arith, b.few_edges);
      lengths = omega (arith, b.few_edges);
      outline = omega (arith, b.few_boundary);
      log = omega (arith, g);
    }

-- and still have it while they stay as long
pub fits_still : {k : Counts} {lp lr lc lv le ll lo lp' lr' lc' lv' le' ll' lo' : ℕ} → Fits k (record { points = lp; roots = lr; corners = lc; volumes = lv; ends = le; lengths = ll; outline = lo; log = 0 })
    → lp' ≡ lp → lr' ≡ lr → lc' ≡ lc → lv' ≡ lv → le' ≡ le → ll' ≡ ll → lo' ≡ lo → Fits k (record { points = lp'; roots = lr'; corners = lc'; volumes = lv'; ends = le'; lengths = ll'; outline = lo'; log = 0 })
fits_still {k} h ep er ec ev ee el eo =
    subst (Fits k) (λ i. record { points = sym ep i; roots = sym er i; corners = sym ec i; volumes = sym ev i; ends = sym ee i; lengths = sym el i; outline = sym eo i; log = 0 }) h
