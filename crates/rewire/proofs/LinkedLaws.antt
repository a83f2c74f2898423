-- Laws of the other edges at v, where the edges at each particle are found by a table: an end moved, the straps of a fan, an edge appended, and the walk over the list of the edges at v. Assumes nothing.
use mathlib.Core.Path.{◌≡◌, refl, sym, ◌∙◌, ap, ap₂, subst}
use mathlib.Core.Logic.{◌⊎◌, ⊎_elim}
use mathlib.Core.Bool.{true, not, ◌&&◌}
use mathlib.Core.List.{List, [], ◌∷◌, ◌++◌}
use Prim.Native.Nat.{ℕ, zero, suc, ◌+◌, ◌/◌, ◌-◌, ◌<◌, ◌≤◌}
use native.Mathlib.Omega.{arith}
use native.Mathlib.Numerals.{add-one}
use native.Mathlib.Decide.{ℕ_discrete}
use borrow.Author.Tests.{eq-eqb, ne_eqb}
use lib.ListN.{length, get_or, take}
use lib.Seq.{get_or_at}
use lib.Ieee.{Float}
use Rattle.lists.specs.Lists.{stands, tab}
use Rattle.lists.specs.Labels.{replaced}
use Rattle.lists.proofs.Stores.{replaced_case, tab_at}
use Rattle.lists.proofs.Sifts.{and_true, tab_ext}
use Rattle.lists.proofs.Rows.{rows_map}
use Rattle.columns.specs.Block.{cell}
use Rattle.columns.proofs.Cells.{col_0, col_1}
use Rattle.model.specs.Mesh.{Edge, blank_edge}
use Rattle.model.specs.Elements.{Kind, element?, ends_of}
use Rattle.model.specs.Split.{moved, calm, only_at, copy_for_of}
use Rattle.mesh.specs.At.{edges_at}
use Rattle.mesh.specs.Workers.{row_at, group_of}
use Rattle.mesh.proofs.Fan.{replaced_self}
use Rattle.links.specs.Links.{holds, LinksOf}
use Rattle.link_changes.specs.Changes.{corner_moved, MoveRoom, AppendRoom}
use Rattle.links.specs.Rooms.{CellsListed, ListRoom, RowRead, ColumnOf}
use Rattle.links.specs.Linked.{EdgesLinked}
use Rattle.link_changes.proofs.Chained.{moved_here, moved_row, moved_column}
use Rattle.link_changes.proofs.Edged.{pairs_append_room, pairs_appended, pairs_move_room, pairs_moved}
use Rattle.links.proofs.Gaps.{Gap, stop_of, stop_first, stop_read, stop_end, stop_here}
use Rattle.split_plan.specs.Answers.{CopyIs}
use Rattle.std.specs.Prelude.{Option, Some}
use Rattle.work.proofs.Grows.{edges_many, edges_get}
use Rattle.copies.specs.Ends.{EndsMoved}
use Rattle.rewire.specs.Edges.{SettleRoom, EdgeSettled, EdgesRoom, NextNamed, TableRoom, LinkedGrown, EndRoom, StrapsRoom, EndsBelow, PushRoom}
use Rattle.rewire.specs.Parts.{EndsMapped}
use Rattle.rewire.proofs.FanLaws.{moved_self, group_fresh, Moving, moving_more}
use Rattle.rewire.proofs.EdgeLaws.{not_first, pushed_same, Passing, passing_start, passing_step, passing_next, ends_ahead}

-- ---- a row of the block, and its two cells

-- a row names v where its cells hold it
row_holds_lem : (v i : ℕ) (ends : List ℕ) (lengths : List Float) → stands v (ends_of (row_at ends lengths i)) ≡ holds 2 (cell 0 (length ends / 4) ends) v i
unfolding holds tab
row_holds_lem v i ends lengths = refl

-- equal rows have equal cells
row_cells : (ends ends' : List ℕ) (lengths lengths' : List Float) (j : ℕ) → row_at ends' lengths' j ≡ row_at ends lengths j
    → (c : ℕ) → c < 2 → cell 0 (length ends / 4) ends c j ≡ cell 0 (length ends' / 4) ends' c j
row_cells ends ends' lengths lengths' j e zero h = ap (λ (z : Edge). z.a) (sym e)
row_cells ends ends' lengths lengths' j e (suc zero) h = ap (λ (z : Edge). z.b) (sym e)
row_cells ends ends' lengths lengths' j e (suc (suc c)) h = absurd (omega arith)

-- a w that is v changes nothing
stays : (v w z : ℕ) → w ≡ v → replaced v w z ≡ z
stays v w z e = ap (λ (u : ℕ). replaced v u z) e ∙ replaced_self v z

-- ---- an end is moved

module _ {i v w m : ℕ} {ends table : List ℕ} (P : EndRoom i v w m ends table) where
  abbrev f : ℕ → ℕ → ℕ
  f = cell 0 (length ends / 4) ends

  pub end_row : RowRead 2 (length ends / 4) v i ends
  end_row = record { here = omega (arith, P.here, P.linked.rows); columns = omega arith; holding = P.holding }

  -- v stays
  pub end_kept : w ≡ v → EndsMoved i v w ends ends × EdgesLinked m ends table
  end_kept e = (record { here = λ B. sym (ap (λ (u : ℕ). moved v u (row_at ends B i)) e ∙ moved_self v (row_at ends B i)); others = λ B j l d. refl }, P.linked)

  module _ (ne : w ≡ v → ⊥) {c : ℕ} (C : ColumnOf 2 v i (cell 0 (length ends / 4) ends) c) where
    pub end_room : MoveRoom i c w 1024 2 2048 (length ends / 4) m ends table
    end_room = pairs_move_room (omega arith) P.linked P.here C.among P.head (P.fresh ne)

    -- the other end is not v
    single : (d : ℕ) → d < 2 → (d ≡ c → ⊥) → f d i ≡ v → ⊥
    single d x n e =
        let lo : d < c → ⊥ = λ z. P.linked.apart.apart d c i z C.among P.here (e ∙ sym C.is) in
        let hi : c < d → ⊥ = λ z. P.linked.apart.apart c d i z x P.here (C.is ∙ sym e) in
        omega (arith, n, lo, hi)

    pub end_done : (ends' table' : List ℕ) → length ends' ≡ length ends → length table' ≡ length table → EndsMoved i v w ends ends'
        → LinksOf 1024 2 2048 m (corner_moved i c w (cell 0 (length ends / 4) ends)) table' → EdgesLinked m ends' table'
    end_done ends' table' le lt M L =
        pairs_moved (omega arith) P.linked P.here C.among P.head (P.fresh ne) le lt (λ d j x y. cells d j x y (ℕ_discrete j i) (ℕ_discrete d c)) L
      where
        turned : (d : ℕ) → d < 2 → cell 0 (length ends' / 4) ends' d i ≡ replaced v w (f d i)
        turned zero x = ap (λ (z : Edge). z.a) (M.here [])
        turned (suc zero) x = ap (λ (z : Edge). z.b) (M.here [])
        turned (suc (suc d)) x = absurd (omega arith)

        to_w : replaced v w (f c i) ≡ w
        to_w = rw (eq-eqb (f c i) v C.is)

        cells : (d j : ℕ) → d < 2 → j < m → Dec (j ≡ i) → Dec (d ≡ c) → corner_moved i c w f d j ≡ cell 0 (length ends' / 4) ends' d j
        cells d j x y (no q) r = sym (moved_row 1024 2 2048 i c w f d j q) ∙ row_cells ends ends' [] [] j (M.others [] j (omega (arith, P.linked.rows)) q) d x
        cells d j x y (yes q) (yes r) = rw (q, r) (moved_here 1024 2 2048 i c w f ∙ sym (turned c C.among ∙ to_w))
        cells d j x y (yes q) (no r) =
            let as_is : replaced v w (f d i) ≡ f d i = rw (ne_eqb (f d i) v (single d x r)) in
            rw q (sym (moved_column 1024 2 2048 i c w f d r) ∙ sym (turned d x ∙ as_is))

-- ---- the straps of a fan

-- one row moved, as all rows have it
ends_mapped : (i v w : ℕ) (s s' : List ℕ) → EndsMoved i v w s s' → EndsMapped (only_at i (moved v w)) s s'
unfolding edges_at
ends_mapped i v w s s' M =
    record { edges = λ n lengths hn. tab_ext n _ _ (λ k h. at lengths k (omega arith) (ℕ_discrete k i)) ∙ sym (rows_map (only_at i (moved v w)) n _) }
  where
    at : (lengths : List Float) (k : ℕ) → k < length s / 4 → Dec (k ≡ i) → row_at s' lengths k ≡ only_at i (moved v w) k (row_at s lengths k)
    at lengths k h (yes q) = rw (eq-eqb k i q, q) (M.here lengths)
    at lengths k h (no q) = rw (ne_eqb k i q) (M.others lengths k h q)

module _ {v before n e : ℕ} {numbers groups ends₀ table₀ : List ℕ} (P : StrapsRoom v before n e numbers groups ends₀ table₀) (ends : List ℕ) (i : ℕ) (G : Moving v before n numbers groups ends₀ ends i) (h : i < n) where
  abbrev strap : ℕ
  strap = get_or numbers i 0

  -- the strap of the next part is as it was
  as_was : row_at ends [] strap ≡ row_at ends₀ [] strap
  unfolding edges_at
  as_was =
      let f : ℕ → Edge = λ k. moved v (copy_for_of v before (group_of (take i numbers) (take i groups) k)) (row_at ends₀ [] k) in
      let w = P.parts.within i h in
      sym (tab_at e (row_at ends []) strap blank_edge w)
      ∙ ap (λ (l : List Edge). get_or l strap blank_edge) (G.mapped.edges e [] P.linked.rows ∙ rows_map _ e (row_at ends₀ []))
      ∙ tab_at e f strap blank_edge w
      ∙ ap (λ (g : ℕ). moved v (copy_for_of v before g) (row_at ends₀ [] strap)) (group_fresh numbers groups i (λ j p q. let r = P.parts.rising j i p h in omega arith))
      ∙ moved_self v (row_at ends₀ [] strap)

  -- it can be moved to the copy of its group
  pub strap_room : {table : List ℕ} {w : ℕ} → EdgesLinked e ends table → w ≡ copy_for_of v before (get_or groups i 0) → EndRoom (get_or numbers i 0) v w e ends table
  strap_room {table} {w} L q =
      record {
        linked = L;
        here = P.parts.within i h;
        holding =
            sym (row_holds_lem v strap ends []) ∙ ap (λ (z : Edge). stands v (ends_of z)) as_was ∙ row_holds_lem v strap ends₀ [] ∙ P.holding i h;
        head = subst (λ (z : ℕ). z < 1024) (sym q) (P.copies i h);
        fresh = λ ne c x r. away ne c x r (ℕ_discrete (get_or groups i 0) 0);
      }
    where
      below : (c : ℕ) → c < 2 → cell 0 (length ends₀ / 4) ends₀ c strap < before
      below zero x = P.ends_in.first strap (P.parts.within i h)
      below (suc zero) x = P.ends_in.second strap (P.parts.within i h)
      below (suc (suc c)) x = absurd (omega arith)

      away : (w ≡ v → ⊥) → (c : ℕ) → c < 2 → cell 0 (length ends / 4) ends c strap ≡ w → Dec (get_or groups i 0 ≡ 0) → ⊥
      away ne c x r (yes z) = ne (q ∙ ap (copy_for_of v before) z)
      away ne c x r (no z) =
          let k : copy_for_of v before (get_or groups i 0) ≡ before + get_or groups i 0 - 1 = rw (ne_eqb (get_or groups i 0) 0 z) in
          let s = row_cells ends₀ ends [] [] strap as_was c x in
          let b = below c x in
          omega (arith, z)

  -- and then the next one comes
  pub strap_on : {w : ℕ} (ends' : List ℕ) → w ≡ copy_for_of v before (get_or groups i 0) → EndsMoved (get_or numbers i 0) v w ends ends' → length ends' ≡ length ends → Moving v before n numbers groups ends₀ ends' (i + 1)
  strap_on {w} ends' q M l =
      moving_more v before n numbers groups i P.parts h ends₀ ends ends' G
      (subst (λ (z : ℕ). EndsMapped (only_at strap (moved v z)) ends ends') q (ends_mapped strap v w ends ends' M)) l

-- ---- an edge is appended

module _ {n : ℕ} {e : Edge} {ends : List ℕ} {ll : ℕ} {table : List ℕ} (P : PushRoom n e ends ll table) (ends' : List ℕ) (lengths lengths' : List Float) (le : length ends' ≡ length ends)
    (grown : edges_at (n + 1) ends' lengths' ≡ edges_at n ends lengths ++ (e ∷ [])) where
  last : e ≡ row_at ends' lengths' n
  last =
      sym (get_or_at (edges_at n ends lengths) e [] blank_edge n (edges_many n ends lengths)) ∙ ap (λ (s : List Edge). get_or s n blank_edge) (sym grown)
      ∙ edges_get (n + 1) ends' lengths' n (omega arith)

  same : (c j : ℕ) → c < 2 → j < n → cell 0 (length ends / 4) ends c j ≡ cell 0 (length ends' / 4) ends' c j
  same c j x y = row_cells ends ends' lengths lengths' j (pushed_same n ends ends' lengths lengths' e grown j y) c x

  below : EndsBelow 1024 (row_at ends' lengths' n)
  below = subst (EndsBelow 1024) last P.row

  rows : n + 1 ≤ length ends' / 4
  rows = omega (arith, le, P.columns.ends)

  pub push_room : AppendRoom 1024 2 2048 (length ends' / 4) n ends' table
  push_room = pairs_append_room (omega arith) P.linked ends' same P.few rows below.first below.second below.differ

  pub push_done : {table' : List ℕ} → length table' ≡ length table → LinksOf 1024 2 2048 (n + 1) (cell 0 (length ends' / 4) ends') table' → EdgesLinked (n + 1) ends' table'
  push_done long L = pairs_appended (omega arith) P.linked ends' same P.few rows below.first below.second below.differ long L

-- ---- copies of an edge

module _ (count : ℕ) {v before w : ℕ} (e : Edge) (B : EndsBelow before e) (most : before ≤ 1024) (heads : before + count ≤ 1025) (A : (w ≡ v) ⊎ ((before ≤ w) × (w + 1 < before + count))) where
  low : (z : ℕ) → z < before → replaced v w z < 1024
  low z h =
      ⊎_elim (λ q. subst (λ (y : ℕ). y < 1024) (sym (stays v w z q)) (omega arith))
      (λ q. ⊎_elim (λ r. omega (arith, r.1, q.1)) (λ r. omega (arith, r.1)) (replaced_case v w z)) A

  two : (x y : ℕ) → x < before → y < before → (x ≡ y → ⊥) → replaced v w x ≡ replaced v w y → ⊥
  two x y hx hy n e =
      ⊎_elim (λ q. n (sym (stays v w x q) ∙ e ∙ stays v w y q))
      (λ q.
      ⊎_elim (λ r. ⊎_elim (λ s. n (r.0 ∙ sym s.0)) (λ s. omega (arith, r.1, s.1, q.0)) (replaced_case v w y))
      (λ r. ⊎_elim (λ s. omega (arith, r.1, s.1, q.0)) (λ s. n (sym r.1 ∙ e ∙ s.1)) (replaced_case v w y)) (replaced_case v w x)) A

  -- a copy has two different ends
  pub copy_below : EndsBelow 1024 (calm (moved v w e))
  copy_below = record { first = low e.a B.first; second = low e.b B.second; differ = two e.a e.b B.first B.second B.differ }

-- ---- one edge

module _ {K : Kind} {i v before k n count p m room : ℕ} {verts groups : List ℕ} {lp : ℕ} {ends : List ℕ} {lengths : List Float} {table : List ℕ}
    (P : SettleRoom K i v before k n count p m room verts groups lp ends lengths) (T : TableRoom before count p m room ends table)
    (other : not (element? K (row_at ends lengths i)) && stands v (ends_of (row_at ends lengths i)) ≡ true) where
  in_block : ((row_at ends lengths i).a < p) × ((row_at ends lengths i).b < p)
  in_block = P.ends_in (not_first (element? K (row_at ends lengths i)) (stands v (ends_of (row_at ends lengths i))) other)

  -- its ends
  pub settle_ends : (e : Edge) → e ≡ row_at ends lengths i → EndsBelow before e
  settle_ends e q =
      subst (EndsBelow before) (sym q)
      (record {
        first = omega (arith, in_block.0, T.behind);
        second = omega (arith, in_block.1, T.behind);
        differ = T.linked.apart.apart 0 1 i (omega arith) (omega arith) P.i_in;
      })

  -- it can be moved to a copy
  pub settle_end : {g w : ℕ} → CopyIs v before count g w → EndRoom i v w m ends table
  settle_end {g} {w} C =
      record {
        linked = T.linked;
        here = P.i_in;
        holding = sym (row_holds_lem v i ends lengths) ∙ (and_true (not (element? K (row_at ends lengths i))) (stands v (ends_of (row_at ends lengths i))) other).1;
        head = ⊎_elim (λ q. omega (arith, P.v_in, T.behind, T.most)) (λ q. omega (arith, q.1, T.heads)) C.among;
        fresh = λ ne c x e. ⊎_elim (λ q. ne q) (λ q. away c x e q.0) C.among;
      }
    where
      away : (c : ℕ) → c < 2 → cell 0 (length ends / 4) ends c i ≡ w → before ≤ w → ⊥
      away zero x e l = omega (arith, in_block.0, T.behind)
      away (suc zero) x e l = omega (arith, in_block.1, T.behind)
      away (suc (suc c)) x e l = omega arith

-- the table of rows that grew
pub linked_rows : {r : Option ℕ} {m : ℕ} {ends table : List ℕ} → r ≡ Some m → LinkedGrown r ends table → EdgesLinked m ends table
linked_rows {r} {m} {ends} {table} q L = subst (λ (z : Option ℕ). LinkedGrown z ends table) q L

-- ---- the walk over the edges at v

-- where the walk stands behind q of the edges at v: the number of the next one, or e
abbrev pub stop_at : ℕ → ℕ → List ℕ → ℕ → ℕ
stop_at v e ends q = stop_of 2 e (cell 0 (length ends / 4) ends) v q

-- the next number that is held is the next edge that names v
gap_named : (v b e x : ℕ) (ends : List ℕ) → Gap (holds 2 (cell 0 (length ends / 4) ends) v) b e x → NextNamed v b e ends x
unfolding holds tab
gap_named v b e x ends G =
    record {
      onward = G.onward;
      within = G.within;
      unnamed = λ j a c. sym (ap₂ (λ (s t : ℕ). stands v (s ∷ t ∷ [])) (col_0 0 (length ends / 4) ends j) (col_1 0 (length ends / 4) ends j)) ∙ G.none j a c;
    }

walk_first : (v e : ℕ) (ends : List ℕ) → NextNamed v 0 e ends (stop_at v e ends 0)
walk_first v e ends = gap_named v 0 e (stop_at v e ends 0) ends (stop_first 2 e (cell 0 (length ends / 4) ends) v)

-- the edges at v can be listed
pub list_room : {K : Kind} {v before k n count p e room : ℕ} {verts groups : List ℕ} {lp : ℕ} {ends : List ℕ} {lengths : List Float} {table : List ℕ} {ll : ℕ}
    → EdgesRoom K v before k n count p e room verts groups lp ends lengths → TableRoom before count p e room ends table → e ≤ ll
    → ListRoom v 1024 2 2048 (length ends / 4) e ends table ll
list_room E T fits =
    record {
      room = record { cells = T.linked.few; rows = T.linked.rows; columns = omega arith; table = T.linked.long; small = omega (arith, T.linked.few) };
      here = omega (arith, E.v_in, T.behind, T.most);
      linked = T.linked.are;
      fits = fits;
    }

module _ {K : Kind} {v before k n count p e room : ℕ} {verts groups : List ℕ} {points : List Float} {ends₀ : List ℕ} {lengths₀ : List Float} where
  -- an edge that is to come names what it named
  named_ahead : {ends : List ℕ} {lengths : List Float} {rows i r : ℕ} → Passing K v before k n count p e room verts groups points ends₀ ends lengths₀ lengths rows i
      → NextNamed v i e ends₀ r → NextNamed v i e ends r
  named_ahead {ends} {lengths} P N =
      record {
        onward = N.onward;
        within = N.within;
        unnamed =
            λ j a b.
            let q = P.ahead j a (omega (arith, N.within)) in
            ap₂ (λ (s t : ℕ). stands v (s ∷ t ∷ []))
            (sym (col_0 0 (length ends / 4) ends j) ∙ ap (λ (z : Edge). z.a) q ∙ col_0 0 (length ends₀ / 4) ends₀ j)
            (sym (col_1 0 (length ends / 4) ends j) ∙ ap (λ (z : Edge). z.b) q ∙ col_1 0 (length ends₀ / 4) ends₀ j)
            ∙ N.unnamed j a b;
      }

  module _ (E : EdgesRoom K v before k n count p e room verts groups (length points) ends₀ lengths₀) where
    pub walk_start : Passing K v before k n count p e room verts groups points ends₀ ends₀ lengths₀ lengths₀ e (stop_at v e ends₀ 0)
    walk_start = passing_next E.copy.columns.ends (passing_start K v before k n count p e room verts groups points ends₀ lengths₀ E.copy.rows) (walk_first v e ends₀)

    module _ {list : List ℕ} {named : ℕ} (C : CellsListed 2 e v (cell 0 (length ends₀ / 4) ends₀) list named) (fits : e ≤ length list)
        {ends : List ℕ} {lengths : List Float} {rows q : ℕ} (P : Passing K v before k n count p e room verts groups points ends₀ ends lengths₀ lengths rows (stop_at v e ends₀ q)) where
      -- at the end of the list
      pub walk_done : named ≤ q → q ≤ named → Passing K v before k n count p e room verts groups points ends₀ ends lengths₀ lengths rows e
      walk_done h l =
          let z : q ≡ named = omega arith in
          subst (λ (j : ℕ). Passing K v before k n count p e room verts groups points ends₀ ends lengths₀ lengths rows j) (ap (stop_at v e ends₀) z ∙ stop_end (cell 0 (length ends₀ / 4) ends₀) C fits) P

      module _ (h : q < named) where
        -- at an edge of the list
        pub walk_here : Passing K v before k n count p e room verts groups points ends₀ ends lengths₀ lengths rows (get_or list q 0)
        walk_here = subst (λ (j : ℕ). Passing K v before k n count p e room verts groups points ends₀ ends lengths₀ lengths rows j) (stop_read (cell 0 (length ends₀ / 4) ends₀) C fits q h) P

        pub walk_inside : get_or list q 0 < e
        walk_inside = subst (λ (j : ℕ). j < e) (stop_read (cell 0 (length ends₀ / 4) ends₀) C fits q h) (stop_here (cell 0 (length ends₀ / 4) ends₀) C fits q h).inside

        -- it can be settled
        pub walk_room : SettleRoom K (get_or list q 0) v before k n count p rows room verts groups (length points) ends lengths
        walk_room =
            record {
              copy =
                  record {
                    ring = E.copy.ring;
                    small = E.copy.small;
                    rows = P.most;
                    columns = record { ends = omega (arith, P.ends_long, E.copy.columns.ends); lengths = omega (arith, P.lengths_long, E.copy.columns.lengths) };
                  };
              rests = E.rests;
              v_in = E.v_in;
              corners_in = E.corners_in;
              i_in = omega (arith, P.least, walk_inside);
              ends_in = ends_ahead K p _ _ (walk_here.ahead (get_or list q 0) (omega arith) walk_inside) (E.ends_in (get_or list q 0) walk_inside);
            }

        -- and then comes the next one
        pub walk_on : {r : Option ℕ} {ends' : List ℕ} {lengths' : List Float} → EdgeSettled K (get_or list q 0) v before k n count p rows room verts groups points ends ends' lengths lengths' r
            → (m : ℕ) → r ≡ Some m → length ends' ≡ length ends → length lengths' ≡ length lengths
            → Passing K v before k n count p e room verts groups points ends₀ ends' lengths₀ lengths' m (stop_at v e ends₀ (q + 1))
        walk_on {r} {ends'} {lengths'} S m z le ll =
            let Q = passing_step K v before k n count p e room verts groups points ends₀ lengths₀ ends lengths rows (get_or list q 0) walk_here walk_inside r ends' lengths' S m z le ll in
            let N : NextNamed v (get_or list q 0 + 1) e ends₀ (stop_at v e ends₀ (q + 1)) =
            ap_next (sym (ap suc (stop_read (cell 0 (length ends₀ / 4) ends₀) C fits q h) ∙ sym (add-one (get_or list q 0)))) (add-one q) (gap_named v (suc (stop_at v e ends₀ q)) e (stop_at v e ends₀ (suc q)) ends₀ (stop_here (cell 0 (length ends₀ / 4) ends₀) C fits q h).next) in
            passing_next E.copy.columns.ends Q (named_ahead Q N)
          where
            ap_next : {a b s t : ℕ} → a ≡ b → s ≡ t → NextNamed v b e ends₀ (stop_at v e ends₀ t) → NextNamed v a e ends₀ (stop_at v e ends₀ s)
            ap_next {a} {b} {s} {t} x y N = subst (λ (j : ℕ). NextNamed v a e ends₀ (stop_at v e ends₀ j)) (sym y) (subst (λ (j : ℕ). NextNamed v j e ends₀ (stop_at v e ends₀ t)) (sym x) N)
