-- Filled blocks, read back with the counts of what they were filled with, hold that mesh and that log.
use Prim.Native.Nat.{ℕ, zero, suc, ◌+◌, ◌-◌, ◌*◌, ◌/◌, ◌<◌, ◌≤◌}
use mathlib.Core.Path.{◌≡◌, refl, sym, ap, ◌∙◌}
use mathlib.Core.List.{List, [], ◌∷◌, map}
use native.Mathlib.Omega.{arith}
use lib.ListN.{length, get_or, replicate, length-map, length-append}
use lib.Ieee.{Float, nan}
use Rattle.lists.specs.Lists.{padded, each}
use Rattle.lists.proofs.Stores.{map_at}
use Rattle.float.specs.Numbers.{zero32}
use Rattle.columns.specs.Block.{cell, block_of}
use Rattle.columns.proofs.Rows.{tab_ext, tab_of}
use Rattle.model.specs.Mesh.{Triangle, Side, blank, blank_triangle, blank_edge}
use Rattle.model.specs.Trace.{Threes, Twos, Rowed}
use Rattle.model_laws.proofs.Laws.{all_in}
use Rattle.model_laws.proofs.Rows.{two_are, three_are}
use Rattle.mesh.specs.At.{particle_row, triangle_row, edge_row, side_row, particles_at, triangles_at, edges_at, boundary_at, mesh_at}
use Rattle.mesh.specs.Log.{World, Words, word_list, words_in, log_at}
use Rattle.mesh.specs.Given.{Lent}
use Rattle.mesh.specs.Filled.{Filled, Fits, lent, point_of, root_of, corner_of, volume_of, end_of, length_of, side_of}
use Rattle.mesh.specs.Widths.{point_columns}
use Rattle.mesh.proofs.Columns.{by_columns}
use Rattle.filled.specs.Counts.{counts_in}
use Rattle.filled.proofs.Cells.{padded_at, block_long, block_cell, block_least}

-- a boundary entry for places that none has
abbrev blank_side : Side
blank_side = record { corners = 0 ∷ 0 ∷ [] }

-- a block whose columns are the fields f 0, f 1, .. of the rows l
module _ {A B : Type 0} (z : B) (len w : ℕ) (f : ℕ → A → B) (l : List A) (s : List B) (is : s ≡ block_of len w (len / w) z (λ k. map (f k) l)) (fits : length l ≤ len / w) (room : w * (len / w) ≤ len) where
  few : (j : ℕ) → length (map (f j) l) ≤ len / w
  few j = omega (arith, length-map l (f j))

  -- has the places that were lent
  pub field_long : length s ≡ len
  field_long = ap length is ∙ block_long z len w (len / w) (λ k. map (f k) l) few room

  -- and in column c, at place k, the field of row k
  pub field_cell : (d : B) (a : A) (c k : ℕ) → c < w → k < length l → cell d (length s / w) s c k ≡ f c (get_or l k a)
  field_cell d a c k h q =
      let e : length s / w ≡ len / w = ap (λ (n : ℕ). n / w) field_long in
      ap (λ (n : ℕ). cell d n s c k) e
      ∙ (ap (λ (x : List B). cell d (len / w) x c k) is
      ∙ (block_cell z len w (len / w) (λ k. map (f k) l) few room d c k h (omega (arith, length-map l (f c))) ∙ map_at (f c) l k a d q))

-- rows that stand in a block that kept its length have room there
rows_fit : {A B : Type 0} (z : B) (len w : ℕ) (f : ℕ → A → B) (l : List A) (s : List B) → s ≡ block_of len w (len / w) z (λ k. map (f k) l) → length s ≡ len → w * length l ≤ len
rows_fit z len w f l s is kept = omega (arith, block_least z len w (len / w) (length l) (λ k. map (f k) l) (λ j. length-map l (f j)), ap length is, kept)

-- six words an entry
words_long : (l : List Words) → length (words_in l) ≡ 6 * length l
unfolding each
words_long [] = refl
words_long (e ∷ l) = omega (arith, length-append (word_list e) (words_in l), words_long l)

log_fits : (n : ℕ) (l : List Words) (g : List ℕ) → g ≡ padded n 0 (words_in l) → length g ≡ n → 6 * length l ≤ n
unfolding padded
log_fits n l g is kept = omega (arith, ap length is, length-append (words_in l) (replicate {A = ℕ} (n - length (words_in l)) 0), words_long l, kept)

-- ---- the log

-- no entry
abbrev no_words : Words
no_words = record { kind = 0; a = 0; b = 0; p = 0; q = 0; t = 0 }

-- six words behind the first entry are those behind the others
words_next : (x : Words) (l : List Words) (i : ℕ) → get_or (words_in (x ∷ l)) (suc (suc (suc (suc (suc (suc i)))))) 0 ≡ get_or (words_in l) i 0
unfolding each
words_next x l i = refl

-- the words of the first entry
words_first : (x : Words) (l : List Words) (j : ℕ) → j < 6 → get_or (words_in (x ∷ l)) j 0 ≡ get_or (word_list x) j 0
unfolding each
words_first x l zero h = refl
words_first x l (suc zero) h = refl
words_first x l (suc (suc zero)) h = refl
words_first x l (suc (suc (suc zero))) h = refl
words_first x l (suc (suc (suc (suc zero)))) h = refl
words_first x l (suc (suc (suc (suc (suc zero))))) h = refl
words_first x l (suc (suc (suc (suc (suc (suc j)))))) h = absurd (omega arith)

-- word j of entry k
words_at : (l : List Words) (k j : ℕ) → k < length l → j < 6 → get_or (words_in l) (6 * k + j) 0 ≡ get_or (word_list (get_or l k no_words)) j 0
words_at [] k j hk h = absurd (omega arith)
words_at (x ∷ l) zero j hk h = let e : 6 * 0 + j ≡ j = omega arith in ap (λ (i : ℕ). get_or (words_in (x ∷ l)) i 0) e ∙ words_first x l j h
words_at (x ∷ l) (suc k) j hk h =
    let e : 6 * suc k + j ≡ suc (suc (suc (suc (suc (suc (6 * k + j)))))) = omega arith in
    ap (λ (i : ℕ). get_or (words_in (x ∷ l)) i 0) e ∙ (words_next x l (6 * k + j) ∙ words_at l k j (omega arith) h)

-- the log of a block that is filled with it
pub log_held : (lg : ℕ) (l : List Words) (G : List ℕ) → G ≡ padded lg 0 (words_in l) → log_at (length l) G ≡ l
unfolding log_at
log_held lg l G eg =
    let x : (k j : ℕ) → k < length l → j < 6 → get_or G (6 * k + j) 0 ≡ get_or (word_list (get_or l k no_words)) j 0
    = λ k j hk hj. ap (λ (s : List ℕ). get_or s (6 * k + j) 0) eg ∙ (padded_at 0 lg (words_in l) 0 (6 * k + j) (omega (arith, words_long l)) ∙ words_at l k j hk hj) in
    let y : (k : ℕ) → k < length l → get_or G (6 * k) 0 ≡ (get_or l k no_words).kind
    = λ k hk. let e : 6 * k ≡ 6 * k + 0 = omega arith in ap (λ (i : ℕ). get_or G i 0) e ∙ x k 0 hk (omega arith) in
    tab_ext (length l) _ (λ k. get_or l k no_words)
    (λ k h i.
    record {
      kind = y k h i;
      a = x k 1 h (omega arith) i;
      b = x k 2 h (omega arith) i;
      p = x k 3 h (omega arith) i;
      q = x k 4 h (omega arith) i;
      t = x k 5 h (omega arith) i;
    })
    ∙ tab_of l no_words

-- ---- the mesh

-- a row of three, and one of two, whose corners are these
corners_held : {x y z : ℕ} (t : Triangle) → length t.corners ≡ 3 → x ≡ corner_of 0 t → y ≡ corner_of 1 t → z ≡ corner_of 2 t → x ∷ y ∷ z ∷ [] ≡ t.corners
corners_held t e p q r = (λ i. p i ∷ q i ∷ r i ∷ []) ∙ sym (three_are t.corners e)

side_held : {x y : ℕ} (s : Side) → length s.corners ≡ 2 → x ≡ side_of 0 s → y ≡ side_of 1 s → x ∷ y ∷ [] ≡ s.corners
side_held s e p q = (λ i. p i ∷ q i ∷ []) ∙ sym (two_are s.corners e)

module _ (W : World) (L : Lent) (p : List Float) (r c : List ℕ) (v : List Float) (e : List ℕ) (l : List Float) (o g : List ℕ) (F : Filled W L p r c v e l o g) where
  -- lent blocks keep their lengths, so what they were filled with has room in them
  pub filled_fits : lent p r c v e l o g ≡ L → Fits (counts_in W) L
  filled_fits kept =
      let M = W.mesh in
      record {
        points = omega (arith, rows_fit zero32 L.points point_columns point_of M.particles p F.points (ap (λ (x : Lent). x.points) kept));
        roots = omega (arith, rows_fit 0 L.roots 2 root_of M.particles r F.roots (ap (λ (x : Lent). x.roots) kept));
        corners = omega (arith, rows_fit 0 L.corners 3 corner_of M.triangles c F.corners (ap (λ (x : Lent). x.corners) kept));
        volumes = omega (arith, rows_fit zero32 L.volumes 2 volume_of M.triangles v F.volumes (ap (λ (x : Lent). x.volumes) kept));
        ends = omega (arith, rows_fit 0 L.ends 4 end_of M.edges e F.ends (ap (λ (x : Lent). x.ends) kept));
        lengths = omega (arith, rows_fit zero32 L.lengths 4 length_of M.edges l F.lengths (ap (λ (x : Lent). x.lengths) kept));
        outline = omega (arith, rows_fit 0 L.outline 2 side_of M.boundary o F.outline (ap (λ (x : Lent). x.outline) kept));
        log = omega (arith, log_fits L.log W.log g F.log (ap (λ (x : Lent). x.log) kept));
      }

  -- blocks with room for what they were filled with
  module _ (room : Fits (counts_in W) L) where
    particles_held : particles_at (length W.mesh.particles) p r ≡ W.mesh.particles
    unfolding particles_at
    particles_held =
        let rows = W.mesh.particles in
        let x : (j k : ℕ) → j < point_columns → k < length rows → cell nan (length p / point_columns) p j k ≡ point_of j (get_or rows k blank) =
        λ j k h q. field_cell zero32 L.points point_columns point_of rows p F.points room.points (omega arith) nan blank j k h q in
        let y : (j k : ℕ) → j < 2 → k < length rows → cell 0 (length r / 2) r j k ≡ root_of j (get_or rows k blank) =
        λ j k h q. field_cell 0 L.roots 2 root_of rows r F.roots room.roots (omega arith) 0 blank j k h q in
        tab_ext (length rows) (particle_row (length p / point_columns) (length r / 2) p r) (λ k. get_or rows k blank)
        (λ k q. by_columns _ (λ j. point_of j (get_or rows k blank)) _ _ _ _ (λ j h. x j k h q) (y 0 k (omega arith) q) (y 1 k (omega arith) q))
        ∙ tab_of rows blank

    pub triangles_held : Threes W.mesh.triangles → triangles_at (length W.mesh.triangles) c v ≡ W.mesh.triangles
    unfolding triangles_at
    triangles_held three =
        let rows = W.mesh.triangles in
        let x : (j k : ℕ) → j < 3 → k < length rows → cell 0 (length c / 3) c j k ≡ corner_of j (get_or rows k blank_triangle) =
        λ j k h q. field_cell 0 L.corners 3 corner_of rows c F.corners room.corners (omega arith) 0 blank_triangle j k h q in
        let y : (j k : ℕ) → j < 2 → k < length rows → cell nan (length v / 2) v j k ≡ volume_of j (get_or rows k blank_triangle) =
        λ j k h q. field_cell zero32 L.volumes 2 volume_of rows v F.volumes room.volumes (omega arith) nan blank_triangle j k h q in
        tab_ext (length rows) (triangle_row (length c / 3) (length v / 2) c v) (λ k. get_or rows k blank_triangle)
        (λ k q i.
        record {
          corners = corners_held (get_or rows k blank_triangle) (all_in (λ (t : Triangle). length t.corners ≡ 3) rows k blank_triangle q three) (x 0 k (omega arith) q) (x 1 k (omega arith) q) (x 2 k (omega arith) q) i;
          volume = y 0 k (omega arith) q i;
          stress = y 1 k (omega arith) q i;
        })
        ∙ tab_of rows blank_triangle

    pub edges_held : edges_at (length W.mesh.edges) e l ≡ W.mesh.edges
    unfolding edges_at
    edges_held =
        let rows = W.mesh.edges in
        let x : (j k : ℕ) → j < 4 → k < length rows → cell 0 (length e / 4) e j k ≡ end_of j (get_or rows k blank_edge) =
        λ j k h q. field_cell 0 L.ends 4 end_of rows e F.ends room.ends (omega arith) 0 blank_edge j k h q in
        let y : (j k : ℕ) → j < 4 → k < length rows → cell nan (length l / 4) l j k ≡ length_of j (get_or rows k blank_edge) =
        λ j k h q. field_cell zero32 L.lengths 4 length_of rows l F.lengths room.lengths (omega arith) nan blank_edge j k h q in
        tab_ext (length rows) (edge_row (length e / 4) (length l / 4) e l) (λ k. get_or rows k blank_edge)
        (λ k q. rw (x 0 k (omega arith) q, x 1 k (omega arith) q, x 2 k (omega arith) q, x 3 k (omega arith) q, y 0 k (omega arith) q, y 1 k (omega arith) q, y 2 k (omega arith) q, y 3 k (omega arith) q) refl)
        ∙ tab_of rows blank_edge

    boundary_held : Twos W.mesh.boundary → boundary_at (length W.mesh.boundary) o ≡ W.mesh.boundary
    unfolding boundary_at
    boundary_held two =
        let rows = W.mesh.boundary in
        let x : (j k : ℕ) → j < 2 → k < length rows → cell 0 (length o / 2) o j k ≡ side_of j (get_or rows k blank_side) =
        λ j k h q. field_cell 0 L.outline 2 side_of rows o F.outline room.outline (omega arith) 0 blank_side j k h q in
        tab_ext (length rows) (side_row (length o / 2) o) (λ k. get_or rows k blank_side)
        (λ k q i. record { corners = side_held (get_or rows k blank_side) (all_in (λ (s : Side). length s.corners ≡ 2) rows k blank_side q two) (x 0 k (omega arith) q) (x 1 k (omega arith) q) i })
        ∙ tab_of rows blank_side

    -- read back they are that mesh
    pub mesh_filled : Rowed W.mesh → mesh_at (counts_in W) p r c v e l o ≡ W.mesh
    unfolding mesh_at
    mesh_filled S = rw (particles_held, triangles_held S.triangles, edges_held, boundary_held S.boundary) refl

  -- and so they are where the lent blocks kept their lengths
  pub mesh_held : Rowed W.mesh → lent p r c v e l o g ≡ L → mesh_at (counts_in W) p r c v e l o ≡ W.mesh
  mesh_held S kept = mesh_filled (filled_fits kept) S
