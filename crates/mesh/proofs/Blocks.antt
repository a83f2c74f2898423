-- A block that was cleared holds its rows' fields; a block that was copied to reads as the one that it was copied from.
use Prim.Native.Nat.{ℕ, zero, suc, ◌+◌, ◌*◌, ◌/◌, ◌≤◌, ◌<◌}
use native.Mathlib.Omega.{arith}
use mathlib.Core.Path.{◌≡◌, refl, sym, ap, ap₂, ◌∙◌}
use mathlib.Core.List.{List, [], ◌∷◌, ◌++◌, map}
use lib.ListN.{length, get_or, take, drop, length-drop}
use lib.Seq.{get_or-drop, take-add}
use lib.Ieee.{Float, nan}
use Rattle.lists.specs.Lists.{each, tab, padded}
use Rattle.mesh.specs.Log.{Words, entry_row, words_in}
use Rattle.mesh.specs.At.{particle_row, triangle_row, edge_row, side_row, particles_at, triangles_at, edges_at, boundary_at}
use Rattle.mesh.specs.Filled.{point_of, root_of, corner_of, volume_of, end_of, length_of, side_of}
use Rattle.mesh.proofs.Columns.{by_columns}
use Rattle.mesh.specs.Widths.{point_columns}
use Rattle.columns.specs.Block.{cell}
use Rattle.columns.specs.Block.{stack}
use Rattle.columns.specs.Block.{block_of}
use Rattle.columns.specs.Block.{BlockCopied}
use Rattle.columns.proofs.Rows.{tab_ext, tab_suc, take_tab, map_tab}
use Rattle.columns.proofs.Cells.{col_fits}

-- stacks of equal columns are equal
pub stack_ext : {A : Type 0} (w : ℕ) (f g : ℕ → List A) → ((c : ℕ) → c < w → f c ≡ g c) → stack w f ≡ stack w g
unfolding stack
stack_ext zero f g h = refl
stack_ext (suc w) f g h = ap₂ (λ (a b : List _). a ++ b) (stack_ext w f g (λ c p. h c (omega arith))) (h w (omega arith))

-- a cleared block, by the fields of its rows
pub block_filled :
    {Row A : Type 0} (field : ℕ → Row → A) (w n R : ℕ) (z d : A) (s s' : List A) (row : ℕ → Row) → n ≤ R → w * R ≤ length s
    → ((c k : ℕ) → c < w → cell d R s c k ≡ field c (row k))
    → s' ≡ block_of (length s) w R z (λ c. take n (drop (c * R) s)) → s' ≡ block_of (length s) w R z (λ c. map (field c) (tab n row))
unfolding cell
block_filled {Row} {A} field w n R z d s s' row few room same e =
    e ∙ ap (padded (length s) z) (stack_ext w _ _ (λ c h. ap (padded R z) (column c h)))
  where
    column : (c : ℕ) → c < w → take n (drop (c * R) s) ≡ map (field c) (tab n row)
    column c h =
        take_tab n (drop (c * R) s) d (rw length-drop (omega (arith, col_fits c w R h)))
        ∙ tab_ext n (λ k. get_or (drop (c * R) s) k d) (λ k. field c (row k)) (λ k p. get_or-drop (c * R) s k d ∙ same c k h)
        ∙ sym (map_tab (field c) n row)

module _ (P R : ℕ) (points : List Float) (roots : List ℕ) where
  -- each column of points is a field of the particles
  pub point_at : (c k : ℕ) → c < point_columns → cell nan P points c k ≡ point_of c (particle_row P R points roots k)
  point_at zero k h = refl
  point_at (suc zero) k h = refl
  point_at (suc (suc zero)) k h = refl
  point_at (suc (suc (suc zero))) k h = refl
  point_at (suc (suc (suc (suc zero)))) k h = refl
  point_at (suc (suc (suc (suc (suc zero))))) k h = refl
  point_at (suc (suc (suc (suc (suc (suc zero)))))) k h = refl
  point_at (suc (suc (suc (suc (suc (suc (suc zero))))))) k h = refl
  point_at (suc (suc (suc (suc (suc (suc (suc (suc c)))))))) k h = absurd (omega arith)

  -- each column of roots is a field of the particles
  pub root_at : (c k : ℕ) → c < 2 → cell 0 R roots c k ≡ root_of c (particle_row P R points roots k)
  root_at zero k h = refl
  root_at (suc zero) k h = refl
  root_at (suc (suc c)) k h = absurd (omega arith)

module _ (C W : ℕ) (corners : List ℕ) (volumes : List Float) where
  -- each column of corners is a field of the triangles
  pub corner_at : (c k : ℕ) → c < 3 → cell 0 C corners c k ≡ corner_of c (triangle_row C W corners volumes k)
  corner_at zero k h = refl
  corner_at (suc zero) k h = refl
  corner_at (suc (suc zero)) k h = refl
  corner_at (suc (suc (suc c))) k h = absurd (omega arith)

  -- each column of volumes is a field of the triangles
  pub volume_at : (c k : ℕ) → c < 2 → cell nan W volumes c k ≡ volume_of c (triangle_row C W corners volumes k)
  volume_at zero k h = refl
  volume_at (suc zero) k h = refl
  volume_at (suc (suc c)) k h = absurd (omega arith)

module _ (E L : ℕ) (ends : List ℕ) (lengths : List Float) where
  -- each column of ends is a field of the edges
  pub end_at : (c k : ℕ) → c < 4 → cell 0 E ends c k ≡ end_of c (edge_row E L ends lengths k)
  end_at zero k h = refl
  end_at (suc zero) k h = refl
  end_at (suc (suc zero)) k h = refl
  end_at (suc (suc (suc zero))) k h = refl
  end_at (suc (suc (suc (suc c)))) k h = absurd (omega arith)

  -- each column of lengths is a field of the edges
  pub length_at : (c k : ℕ) → c < 4 → cell nan L lengths c k ≡ length_of c (edge_row E L ends lengths k)
  length_at zero k h = refl
  length_at (suc zero) k h = refl
  length_at (suc (suc zero)) k h = refl
  length_at (suc (suc (suc zero))) k h = refl
  length_at (suc (suc (suc (suc c)))) k h = absurd (omega arith)

-- each column of the outline is a field of the boundary
pub side_at : (O : ℕ) (outline : List ℕ) (c k : ℕ) → c < 2 → cell 0 O outline c k ≡ side_of c (side_row O outline k)
side_at O outline zero k h = refl
side_at O outline (suc zero) k h = refl
side_at O outline (suc (suc c)) k h = absurd (omega arith)

-- the words of a log with one more entry
words_snoc : (l : List Words) (e : Words) → words_in (l ++ (e ∷ [])) ≡ words_in l ++ (e.kind ∷ e.a ∷ e.b ∷ e.p ∷ e.q ∷ e.t ∷ [])
unfolding each
words_snoc [] e = refl
words_snoc (x ∷ l) e = ap (λ (t : List ℕ). x.kind ∷ x.a ∷ x.b ∷ x.p ∷ x.q ∷ x.t ∷ t) (words_snoc l e)

-- the first six of a list
front_six : (l : List ℕ) → 6 ≤ length l → take 6 l ≡ get_or l 0 0 ∷ get_or l 1 0 ∷ get_or l 2 0 ∷ get_or l 3 0 ∷ get_or l 4 0 ∷ get_or l 5 0 ∷ []
front_six [] h = absurd (omega arith)
front_six (a ∷ []) h = absurd (omega arith)
front_six (a ∷ b ∷ []) h = absurd (omega arith)
front_six (a ∷ b ∷ c ∷ []) h = absurd (omega arith)
front_six (a ∷ b ∷ c ∷ d ∷ []) h = absurd (omega arith)
front_six (a ∷ b ∷ c ∷ d ∷ e ∷ []) h = absurd (omega arith)
front_six (a ∷ b ∷ c ∷ d ∷ e ∷ f ∷ l) h = refl

-- six more of a list's front
six : (j : ℕ) (l : List ℕ) → j + 6 ≤ length l → take (j + 6) l ≡ take j l ++ (get_or l j 0 ∷ get_or l (j + 1) 0 ∷ get_or l (j + 2) 0 ∷ get_or l (j + 3) 0 ∷ get_or l (j + 4) 0 ∷ get_or l (j + 5) 0 ∷ [])
six j l h =
    let z : j + 0 ≡ j = omega arith in
    take-add j 6 l
    ∙ ap (λ (t : List ℕ). take j l ++ t)
    (front_six (drop j l) (rw length-drop (omega arith))
    ∙ (λ i. (get_or-drop j l 0 0 ∙ ap (λ (k : ℕ). get_or l k 0) z) i ∷ get_or-drop j l 1 0 i ∷ get_or-drop j l 2 0 i ∷ get_or-drop j l 3 0 i ∷ get_or-drop j l 4 0 i ∷ get_or-drop j l 5 0 i ∷ []))

-- no entry, no words
no_words : (log : List ℕ) → take (6 * 0) log ≡ words_in (tab 0 (entry_row log))
unfolding each tab
no_words log = refl

-- the front of a log, by its entries
pub words_of_lem : (n : ℕ) (log : List ℕ) → 6 * n ≤ length log → take (6 * n) log ≡ words_in (tab n (entry_row log))
words_of_lem zero log h = no_words log
words_of_lem (suc n) log h =
    let e : 6 * suc n ≡ 6 * n + 6 = omega arith in
    ap (λ (k : ℕ). take k log) e ∙ six (6 * n) log (omega arith)
    ∙ ap (λ (t : List ℕ). t ++ (get_or log (6 * n) 0 ∷ get_or log (6 * n + 1) 0 ∷ get_or log (6 * n + 2) 0 ∷ get_or log (6 * n + 3) 0 ∷ get_or log (6 * n + 4) 0 ∷ get_or log (6 * n + 5) 0 ∷ [])) (words_of_lem n log (omega arith))
    ∙ sym (ap words_in (tab_suc n (entry_row log)) ∙ words_snoc (tab n (entry_row log)) (entry_row log n))

-- ---- a copy of each list
module _ (n : ℕ) where
  -- the particles of copied blocks
  pub copied_particles :
      (P P' : List Float) (R R' : List ℕ) (lp lr : ℕ) → n ≤ length P / point_columns → n ≤ length R / 2 → BlockCopied nan (length P / point_columns) point_columns (lp / point_columns) P P' → BlockCopied 0 (length R / 2) 2 (lr / 2) R R'
      → length P' ≡ lp → length R' ≡ lr → particles_at n P' R' ≡ particles_at n P R
  unfolding particles_at
  copied_particles P P' R R' lp lr hp hr p r ep er =
      rw (ep, er)
      (tab_ext n _ _ (λ k h. by_columns _ _ _ _ _ _ (λ c q. p.cells c k q (omega arith)) (r.cells 0 k (omega arith) (omega arith)) (r.cells 1 k (omega arith) (omega arith))))

  -- the triangles of copied blocks
  pub copied_triangles :
      (C C' : List ℕ) (F F' : List Float) (lc lf : ℕ) → n ≤ length C / 3 → n ≤ length F / 2 → BlockCopied 0 (length C / 3) 3 (lc / 3) C C' → BlockCopied nan (length F / 2) 2 (lf / 2) F F'
      → length C' ≡ lc → length F' ≡ lf → triangles_at n C' F' ≡ triangles_at n C F
  unfolding triangles_at
  copied_triangles C C' F F' lc lf hc hf c f ec ef =
      rw (ec, ef)
      (tab_ext n _ _
      (λ k h i.
      record {
        corners = c.cells 0 k (omega arith) (omega arith) i ∷ c.cells 1 k (omega arith) (omega arith) i ∷ c.cells 2 k (omega arith) (omega arith) i ∷ [];
        volume = f.cells 0 k (omega arith) (omega arith) i;
        stress = f.cells 1 k (omega arith) (omega arith) i;
      }))

  -- the edges of copied blocks
  pub copied_edges :
      (E E' : List ℕ) (L L' : List Float) (le ll : ℕ) → n ≤ length E / 4 → n ≤ length L / 4 → BlockCopied 0 (length E / 4) 4 (le / 4) E E' → BlockCopied nan (length L / 4) 4 (ll / 4) L L'
      → length E' ≡ le → length L' ≡ ll → edges_at n E' L' ≡ edges_at n E L
  unfolding edges_at
  copied_edges E E' L L' le ll he hl e l ee el =
      rw (ee, el)
      (tab_ext n _ _
      (λ k h i.
      record {
        a = e.cells 0 k (omega arith) (omega arith) i;
        b = e.cells 1 k (omega arith) (omega arith) i;
        structural = e.cells 2 k (omega arith) (omega arith) i;
        torn = e.cells 3 k (omega arith) (omega arith) i;
        rest = l.cells 0 k (omega arith) (omega arith) i;
        initial = l.cells 1 k (omega arith) (omega arith) i;
        impulse = l.cells 2 k (omega arith) (omega arith) i;
        stress = l.cells 3 k (omega arith) (omega arith) i;
      }))

  -- the boundary of a copied block
  pub copied_boundary :
      (O O' : List ℕ) (lo : ℕ) → n ≤ length O / 2 → BlockCopied 0 (length O / 2) 2 (lo / 2) O O' → length O' ≡ lo → boundary_at n O' ≡ boundary_at n O
  unfolding boundary_at
  copied_boundary O O' lo ho o eo =
      rw eo (tab_ext n _ _ (λ k h i. record { corners = o.cells 0 k (omega arith) (omega arith) i ∷ o.cells 1 k (omega arith) (omega arith) i ∷ [] }))
