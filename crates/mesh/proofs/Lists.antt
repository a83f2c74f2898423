-- What stores in blocks do to the lists that the blocks are read as.
use Prim.Native.Nat.{ℕ, ◌+◌, ◌-◌, ◌*◌, ◌/◌, ◌≤◌, ◌<◌}
use native.Mathlib.Omega.{arith}
use native.Mathlib.Decide.{ℕ_discrete}
use mathlib.Core.Path.{◌≡◌, refl, sym, ◌∙◌}
use mathlib.Core.List.{List, [], ◌∷◌, ◌++◌}
use lib.ListN.{length, get_or, set, length-set}
use lib.Seq.{get_or-set_same, get_or-set_other}
use lib.Ieee.{Float, nan}
use borrow.Author.Tests.{eq-eqb, ne_eqb}
use Rattle.lists.specs.Lists.{tab}
use Rattle.model.specs.Mesh.{Particle, Triangle, Edge, Side, Mesh, blank}
use Rattle.mesh.specs.Log.{Words, World, log_at}
use Rattle.model.specs.Split.{retargeted, only_at}
use Rattle.mesh.specs.Workers.{with_copy, edge_of, EdgeRoom, Removed, Mapped}
use Rattle.mesh.specs.At.{particle_row, triangle_row, edge_row, particles_at, triangles_at, edges_at}
use Rattle.mesh.specs.declared.EdgeRow.{EdgeRow}
use Rattle.mesh.specs.Widths.{point_columns}
use Rattle.mesh.proofs.Columns.{by_columns, by_columns_but}
use Rattle.columns.specs.Block.{cell}
use Rattle.columns.specs.Block.{BlockShifted}
use Rattle.columns.specs.View.{NextMarked}
use Rattle.columns.specs.Block.{RowCopied, RowTurned}
use Rattle.columns.proofs.Rows.{tab_length, tab_at, tab_ext, rows_push, rows_map}
use Rattle.columns.proofs.Keep.{RowsMoved, Compacting, compact_start, compact_more, compact_done}
use Rattle.columns.proofs.Cells.{store_same, store_row, store_col}
use Rattle.columns.proofs.RowLaws.{row_turned, row_unturned}

-- ---- an append of a copy
module _ (v n P R : ℕ) (m w : Float) (S S₁ : List Float) (T T₁ : List ℕ) (here : v < n) (hp : n < P) (hr : n < R) (room : point_columns * P ≤ length S₁)
    (rc : RowCopied nan v n point_columns P S S₁) (rt : RowCopied 0 v n 2 R T T₁) where
  -- with the mass stored
  S₂ : List Float
  S₂ = set S₁ (4 * P + n) m

  -- with the inverse mass stored too
  S₃ : List Float
  unfolding S₂
  S₃ = set S₂ (5 * P + n) w

  -- the rows before are as they were
  old : (c k : ℕ) → k < n → cell nan P S₃ c k ≡ cell nan P S c k
  unfolding S₃ S₂
  old c k h =
      store_row nan P S₂ 5 n w c k (omega arith) hp (λ q. omega arith) ∙ store_row nan P S₁ 4 n m c k (omega arith) hp (λ q. omega arith) ∙ rc.old c k (omega arith) (λ q. omega arith)

  -- the new row is v's, but for the two
  new : (c : ℕ) → c < point_columns → (c ≡ 4 → ⊥) → (c ≡ 5 → ⊥) → cell nan P S₃ c n ≡ cell nan P S c v
  unfolding S₃ S₂
  new c h no_mass no_inverse = store_col nan P S₂ 5 n w c n hp hp no_inverse ∙ store_col nan P S₁ 4 n m c n hp hp no_mass ∙ rc.new c h

  -- the rows with the copy behind them
  pub pushed_rows : tab (n + 1) (particle_row P R (set (set S₁ (4 * P + n) m) (5 * P + n) w) T₁) ≡ with_copy v m w (tab n (particle_row P R S T))
  unfolding with_copy S₃ S₂
  pushed_rows =
      rows_push n _ _ _
      (λ k h. by_columns _ _ _ _ _ _ (λ c q. old c k h) (rt.old 0 k (omega arith) (λ q. omega arith)) (rt.old 1 k (omega arith) (λ q. omega arith)))
      (rw (tab_at n (particle_row P R S T) v blank here)
      (by_columns_but _ (λ c. cell nan P S c v) m w _ _ _ _ new (store_col nan P S₂ 5 n w 4 n hp hp (λ q. omega arith) ∙ store_same nan P S₁ 4 n m (omega arith))
      (store_same nan P S₂ 5 n w (rw length-set (omega arith)))
      (rt.new 0 (omega arith))
      (rt.new 1 (omega arith))))

-- the particles with the copy behind them
pub pushed :
    (v n : ℕ) (m w : Float) (S S₁ : List Float) (T T₁ : List ℕ) → v < n → n + 1 ≤ length S / point_columns → n + 1 ≤ length T / 2
    → RowCopied nan v n point_columns (length S / point_columns) S S₁ → RowCopied 0 v n 2 (length T / 2) T T₁ → length S₁ ≡ length S → length T₁ ≡ length T
    → particles_at (n + 1) (set (set S₁ (4 * (length S / point_columns) + n) m) (5 * (length S / point_columns) + n) w) T₁ ≡ with_copy v m w (particles_at n S T)
unfolding particles_at
pushed v n m w S S₁ T T₁ here hp hr rc rt ls lt =
    let e : length (set (set S₁ (4 * (length S / point_columns) + n) m) (5 * (length S / point_columns) + n) w) ≡ length S = simp length-set ls in
    rw (e, lt) (pushed_rows v n (length S / point_columns) (length T / 2) m w S S₁ T T₁ here (omega arith) (omega arith) (omega arith) rc rt)

-- ---- a compaction
-- the rows of the edges, where the same rows of both blocks were moved
edges_moved :
    (n to from len E L : ℕ) (A A' : List ℕ) (B B' : List Float) → n ≤ E → n ≤ L → to + len ≤ n → from + len ≤ n → BlockShifted 0 to from len 4 E A A' → BlockShifted nan to from len 4 L B B'
    → RowsMoved n to from len (edge_row E L A B) (edge_row E L A' B')
edges_moved n to from len E L A A' B B' he hl ht hf a b =
    record {
      moved =
          λ k h i.
          record {
            a = a.moved 0 k (omega arith) h i;
            b = a.moved 1 k (omega arith) h i;
            structural = a.moved 2 k (omega arith) h i;
            torn = a.moved 3 k (omega arith) h i;
            rest = b.moved 0 k (omega arith) h i;
            initial = b.moved 1 k (omega arith) h i;
            impulse = b.moved 2 k (omega arith) h i;
            stress = b.moved 3 k (omega arith) h i;
          };
      other =
          λ k h ne i.
          record {
            a = a.other 0 k (omega arith) ne i;
            b = a.other 1 k (omega arith) ne i;
            structural = a.other 2 k (omega arith) ne i;
            torn = a.other 3 k (omega arith) ne i;
            rest = b.other 0 k (omega arith) ne i;
            initial = b.other 1 k (omega arith) ne i;
            impulse = b.other 2 k (omega arith) ne i;
            stress = b.other 3 k (omega arith) ne i;
          };
    }

-- at the head of the loop: the edges are compacted up to row r, and w of them stand at the front
pub record Removing (mask : List ℕ) (n : ℕ) (A₀ A : List ℕ) (B₀ B : List Float) (w r : ℕ) : Type 0 where
  pub ends_long : length A ≡ length A₀
  pub lengths_long : length B ≡ length B₀
  pub rows : Compacting mask n (edge_row (length A₀ / 4) (length B₀ / 4) A₀ B₀) (edge_row (length A₀ / 4) (length B₀ / 4) A B) w r

module _ (mask : List ℕ) (n : ℕ) (A₀ : List ℕ) (B₀ : List Float) where
  -- before the first turn nothing is moved
  pub removing_start : (r : ℕ) → NextMarked mask 0 n r → Removing mask n A₀ A₀ B₀ B₀ r r
  removing_start r x = record { ends_long = refl; lengths_long = refl; rows = compact_start mask n _ r x }

  -- a turn leaves out a marked edge, and moves those up to the next
  pub removing_more :
      (A A' : List ℕ) (B B' : List Float) (w r b : ℕ) → Removing mask n A₀ A B₀ B w r → r < n → NextMarked mask (r + 1) n b → EdgeRoom n (length A₀) (length B₀)
      → BlockShifted 0 w (r + 1) (b - (r + 1)) 4 (length A₀ / 4) A A' → BlockShifted nan w (r + 1) (b - (r + 1)) 4 (length B₀ / 4) B B' → length A' ≡ length A → length B' ≡ length B
      → Removing mask n A₀ A' B₀ B' (w + (b - (r + 1))) b
  removing_more A A' B B' w r b v h x room p q la lb =
      let on : r + 1 ≤ b = x.above in
      let all : b ≤ n = x.below in
      let few : w ≤ r = v.rows.within in
      record {
        ends_long = la ∙ v.ends_long;
        lengths_long = lb ∙ v.lengths_long;
        rows = compact_more mask n _ _ _ w r b v.rows h x (edges_moved n w (r + 1) (b - (r + 1)) _ _ A A' B B' room.ends room.lengths (omega arith) (omega arith) p q);
      }

  -- after the last turn the edges are those that the mask leaves
  pub removing_done : (A : List ℕ) (B : List Float) (w r : ℕ) → Removing mask n A₀ A B₀ B w r → n ≤ r → Removed mask n w (edges_at n A₀ B₀) (edges_at w A B)
  unfolding edges_at
  removing_done A B w r v h = let q = compact_done mask n _ _ w r v.rows h in record { count = q.0; edges = rw (v.ends_long, v.lengths_long) q.1 }

-- ---- a row put into four columns
-- a row was put into four columns at place n
pub record Put {A : Type 0} (d : A) (R n : ℕ) (s : List A) (a₀ a₁ a₂ a₃ : A) (s' : List A) : Type 0 where
  pub old : (c k : ℕ) → k < n → cell d R s' c k ≡ cell d R s c k
  pub at0 : cell d R s' 0 n ≡ a₀
  pub at1 : cell d R s' 1 n ≡ a₁
  pub at2 : cell d R s' 2 n ≡ a₂
  pub at3 : cell d R s' 3 n ≡ a₃

module _ {A : Type 0} (d : A) (R n : ℕ) (s : List A) (a₀ a₁ a₂ a₃ : A) (room : 4 * R ≤ length s) (h : n < R) where
  -- the first of four stores
  s₁ : List A
  s₁ = set s (0 * R + n) a₀

  -- the second
  s₂ : List A
  unfolding s₁
  s₂ = set s₁ (1 * R + n) a₁

  -- the third
  s₃ : List A
  unfolding s₂ s₁
  s₃ = set s₂ (2 * R + n) a₂

  -- four stores put a row
  put_cols : Put d R n s a₀ a₁ a₂ a₃ (set (set (set (set s (0 * R + n) a₀) (1 * R + n) a₁) (2 * R + n) a₂) (3 * R + n) a₃)
  unfolding s₁ s₂ s₃
  put_cols =
      record {
        old =
            λ c k g.
            store_row d R s₃ 3 n a₃ c k (omega arith) h (λ q. omega arith) ∙ store_row d R s₂ 2 n a₂ c k (omega arith) h (λ q. omega arith)
            ∙ store_row d R s₁ 1 n a₁ c k (omega arith) h (λ q. omega arith) ∙ store_row d R s 0 n a₀ c k (omega arith) h (λ q. omega arith);
        at0 =
            store_col d R s₃ 3 n a₃ 0 n h h (λ q. omega arith) ∙ store_col d R s₂ 2 n a₂ 0 n h h (λ q. omega arith) ∙ store_col d R s₁ 1 n a₁ 0 n h h (λ q. omega arith)
            ∙ store_same d R s 0 n a₀ (omega arith);
        at1 =
            store_col d R s₃ 3 n a₃ 1 n h h (λ q. omega arith) ∙ store_col d R s₂ 2 n a₂ 1 n h h (λ q. omega arith) ∙ store_same d R s₁ 1 n a₁ (simp length-set (omega arith));
        at2 = store_col d R s₃ 3 n a₃ 2 n h h (λ q. omega arith) ∙ store_same d R s₂ 2 n a₂ (simp length-set (omega arith));
        at3 = store_same d R s₃ 3 n a₃ (simp length-set (omega arith));
      }

  -- as the program writes the places
  pub put : Put d R n s a₀ a₁ a₂ a₃ (set (set (set (set s n a₀) (R + n) a₁) (2 * R + n) a₂) (3 * R + n) a₃)
  put =
      let e₀ : 0 * R + n ≡ n = omega arith in
      let e₁ : 1 * R + n ≡ R + n = omega arith in
      simp (e₀, e₁) at put_cols

-- the rows with one more behind them
edge_rows :
    (n E L : ℕ) (r : EdgeRow) (A A' : List ℕ) (B B' : List Float) → Put 0 E n A r.a r.b r.structural r.torn A' → Put nan L n B r.rest r.initial r.impulse r.stress B'
    → tab (n + 1) (edge_row E L A' B') ≡ tab n (edge_row E L A B) ++ (edge_of r ∷ [])
edge_rows n E L r A A' B B' p q =
    rows_push n _ _ _
    (λ k h i.
    record {
      a = p.old 0 k h i;
      b = p.old 1 k h i;
      structural = p.old 2 k h i;
      torn = p.old 3 k h i;
      rest = q.old 0 k h i;
      initial = q.old 1 k h i;
      impulse = q.old 2 k h i;
      stress = q.old 3 k h i;
    })
    (λ i. record { a = p.at0 i; b = p.at1 i; structural = p.at2 i; torn = p.at3 i; rest = q.at0 i; initial = q.at1 i; impulse = q.at2 i; stress = q.at3 i })

-- the edges with one more behind them
pub edge_pushed :
    (n : ℕ) (r : EdgeRow) (A : List ℕ) (B : List Float) → n + 1 ≤ length A / 4 → n + 1 ≤ length B / 4
    → edges_at (n + 1) (set (set (set (set A n r.a) (length A / 4 + n) r.b) (2 * (length A / 4) + n) r.structural) (3 * (length A / 4) + n) r.torn)
    (set (set (set (set B n r.rest) (length B / 4 + n) r.initial) (2 * (length B / 4) + n) r.impulse) (3 * (length B / 4) + n) r.stress)
    ≡ edges_at n A B ++ (edge_of r ∷ [])
unfolding edges_at
edge_pushed n r A B ha hb =
    simp length-set
    (edge_rows n (length A / 4) (length B / 4) r A _ B _ (put 0 (length A / 4) n A _ _ _ _ (omega arith) (omega arith)) (put nan (length B / 4) n B _ _ _ _ (omega arith) (omega arith)))

-- ---- w for v in the corners of a triangle
-- a row turned is one triangle retargeted
pub retargeting : (e v w : ℕ) (s s' : List ℕ) → length s' ≡ length s → RowTurned 3 (length s / 3) e v w s s' → Mapped (only_at e (retargeted v w)) s s'
unfolding triangles_at
retargeting e v w s s' l T =
    record {
      triangles =
          λ n volumes hn.
          rw l
          (tab_ext n _ _ (λ k h. at k (length volumes / 2) volumes (omega arith) (ℕ_discrete k e)) ∙ sym (rows_map (only_at e (retargeted v w)) n _));
    }
  where
    at : (k W : ℕ) (volumes : List Float) → k < length s / 3 → Dec (k ≡ e)
        → triangle_row (length s / 3) W s' volumes k ≡ only_at e (retargeted v w) k (triangle_row (length s / 3) W s volumes k)
    at k W volumes hk (yes q) = rw (eq-eqb k e q, q) (λ i. record { corners = row_turned T i; volume = cell nan W volumes 0 e; stress = cell nan W volumes 1 e })
    at k W volumes hk (no q) = rw (ne_eqb k e q) (λ i. record { corners = row_unturned T k hk q i; volume = cell nan W volumes 0 k; stress = cell nan W volumes 1 k })

-- ---- an entry of six wordsIn
module _ (n : ℕ) (s : List ℕ) (x₀ x₁ x₂ x₃ x₄ x₅ : ℕ) (room : n < length s / 6) where
  abbrev o : ℕ
  o = 6 * n

  abbrev t₁ : List ℕ
  t₁ = set s o x₀

  abbrev t₂ : List ℕ
  t₂ = set t₁ (o + 1) x₁

  abbrev t₃ : List ℕ
  t₃ = set t₂ (o + 2) x₂

  abbrev t₄ : List ℕ
  t₄ = set t₃ (o + 3) x₃

  abbrev t₅ : List ℕ
  t₅ = set t₄ (o + 4) x₄

  -- six stores put an entry behind the log
  pub noted : log_at (n + 1) (set t₅ (o + 5) x₅) ≡ log_at n s ++ (record { kind = x₀; a = x₁; b = x₂; p = x₃; q = x₄; t = x₅ } ∷ [])
  unfolding log_at
  noted =
      rows_push n _ _ _
      (λ k h i.
      record { kind = old (6 * k) (omega arith) i; a = old (6 * k + 1) (omega arith) i; b = old (6 * k + 2) (omega arith) i; p = old (6 * k + 3) (omega arith) i; q = old (6 * k + 4) (omega arith) i; t = old (6 * k + 5) (omega arith) i })
      (λ i.
      record {
        kind = (not t₅ 5 x₅ o (λ q. omega arith) ∙ not t₄ 4 x₄ o (λ q. omega arith) ∙ not t₃ 3 x₃ o (λ q. omega arith) ∙ not t₂ 2 x₂ o (λ q. omega arith) ∙ not t₁ 1 x₁ o (λ q. omega arith) ∙ get_or-set_same s o x₀ 0 (omega arith)) i;
        a = (not t₅ 5 x₅ (o + 1) (λ q. omega arith) ∙ not t₄ 4 x₄ (o + 1) (λ q. omega arith) ∙ not t₃ 3 x₃ (o + 1) (λ q. omega arith) ∙ not t₂ 2 x₂ (o + 1) (λ q. omega arith) ∙ get_or-set_same t₁ (o + 1) x₁ 0 (simp length-set (omega arith))) i;
        b = (not t₅ 5 x₅ (o + 2) (λ q. omega arith) ∙ not t₄ 4 x₄ (o + 2) (λ q. omega arith) ∙ not t₃ 3 x₃ (o + 2) (λ q. omega arith) ∙ get_or-set_same t₂ (o + 2) x₂ 0 (simp length-set (omega arith))) i;
        p = (not t₅ 5 x₅ (o + 3) (λ q. omega arith) ∙ not t₄ 4 x₄ (o + 3) (λ q. omega arith) ∙ get_or-set_same t₃ (o + 3) x₃ 0 (simp length-set (omega arith))) i;
        q = (not t₅ 5 x₅ (o + 4) (λ q. omega arith) ∙ get_or-set_same t₄ (o + 4) x₄ 0 (simp length-set (omega arith))) i;
        t = get_or-set_same t₅ (o + 5) x₅ 0 (simp length-set (omega arith)) i;
      })
    where
      not : (l : List ℕ) (j x i : ℕ) → (i ≡ 6 * n + j → ⊥) → get_or (set l (6 * n + j) x) i 0 ≡ get_or l i 0
      not l j x i ne = get_or-set_other l (6 * n + j) i x 0 ne

      old : (i : ℕ) → i < 6 * n → get_or (set t₅ (6 * n + 5) x₅) i 0 ≡ get_or s i 0
      old i h =
          not t₅ 5 x₅ i (λ q. omega arith) ∙ not t₄ 4 x₄ i (λ q. omega arith) ∙ not t₃ 3 x₃ i (λ q. omega arith) ∙ not t₂ 2 x₂ i (λ q. omega arith) ∙ not t₁ 1 x₁ i (λ q. omega arith)
          ∙ get_or-set_other s (6 * n) i x₀ 0 (λ q. omega arith)

-- ---- lengths, and a mesh by its four lists
-- as many particles as rows
pub particles_length : (n : ℕ) (points : List Float) (roots : List ℕ) → length (particles_at n points roots) ≡ n
unfolding particles_at
particles_length n points roots = tab_length n _

-- as many edges as rows
pub edges_length : (n : ℕ) (ends : List ℕ) (lengths : List Float) → length (edges_at n ends lengths) ≡ n
unfolding edges_at
edges_length n ends lengths = tab_length n _

-- as many entries as rows
pub log_length : (n : ℕ) (log : List ℕ) → length (log_at n log) ≡ n
unfolding log_at
log_length n log = tab_length n _

-- meshes with equal lists are equal
pub mesh_path :
    {ps qs : List Particle} {ts us : List Triangle} {es fs : List Edge} {bs cs : List Side} → ps ≡ qs → ts ≡ us → es ≡ fs → bs ≡ cs
    → ◌≡◌ {A = Mesh} (record { particles = ps; triangles = ts; edges = es; boundary = bs }) (record { particles = qs; triangles = us; edges = fs; boundary = cs })
mesh_path p t e b = λ i. record { particles = p i; triangles = t i; edges = e i; boundary = b i }

-- worlds with equal meshes and logs are equal
pub world_path : {M N : Mesh} {l k : List Words} → M ≡ N → l ≡ k → ◌≡◌ {A = World} (record { mesh = M; log = l }) (record { mesh = N; log = k })
world_path m l = λ i. record { mesh = m i; log = l i }
