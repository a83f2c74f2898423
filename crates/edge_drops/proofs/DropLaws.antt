-- Laws of listed edges that go one by one, the last of them first: one row of the blocks gone, and the table without it. Assumes nothing.
use mathlib.Core.Path.{◌≡◌, refl, sym, ◌∙◌, ap, ap₂, subst}
use mathlib.Core.Bool.{Bool}
use mathlib.Core.List.{List, ◌++◌}
use Prim.Native.Nat.{ℕ, suc, ◌+◌, ◌/◌, ◌-◌, ◌<◌, ◌≤◌}
use native.Mathlib.Omega.{arith}
use native.Mathlib.Decide.{dec_lt}
use borrow.Author.Tests.{lt-ltb, le-ltb}
use lib.Dec.{ltb}
use lib.ListN.{length, get_or, take}
use lib.Ieee.{Float, nan}
use Rattle.lists.specs.Lists.{pick, tab}
use Rattle.lists.specs.LeftOut.{without, left_out}
use Rattle.lists.proofs.Sifts.{tab_ext, tab_take, tab_drop}
use Rattle.lists.proofs.Walks.{tab_split}
use Rattle.lists.proofs.Risen.{rising_room, rising_few, take_more, left_out_last}
use Rattle.columns.specs.Block.{cell, BlockShifted}
use Rattle.mesh.specs.At.{edges_at}
use Rattle.mesh.specs.Workers.{row_at}
use Rattle.links.specs.Links.{LinksOf}
use Rattle.link_changes.specs.Changes.{corner_dropped, DropRoom}
use Rattle.links.specs.Rooms.{CornersApart}
use Rattle.links.specs.Linked.{EdgesLinked}
use Rattle.links.proofs.Same.{links_ext}
use Rattle.link_changes.proofs.Chained.{apart_ext}
use Rattle.edge_drops.specs.Drops.{RowAsked, RowGone, DropAsked, ListedRoom}

-- ---- one row gone

-- the row that comes to stand at k, where row i went
abbrev past : ℕ → ℕ → ℕ
past i k = pick (ltb k i) k (suc k)

-- a table without its element i
tab_past : {A : Type 0} (m i : ℕ) (f : ℕ → A) → i < m → tab (m - 1) (λ k. f (past i k)) ≡ without i (tab m f)
unfolding without
tab_past {A} m i f h =
    let len : m - 1 - i ≡ m - suc i = omega arith in
    tab_split i (m - 1) (λ k. f (past i k)) (omega arith)
    ∙ ap₂ (λ (a b : List A). a ++ b)
    (tab_ext i (λ k. f (past i k)) f (λ k l. ap (λ (t : Bool). f (pick t k (suc k))) (lt-ltb k i l)) ∙ sym (tab_take i m f (omega arith)))
    (ap (λ (z : ℕ). tab z (λ k. f (past i (i + k)))) len
    ∙ tab_ext (m - suc i) (λ k. f (past i (i + k))) (λ k. f (suc i + k))
    (λ k l.
    let s : suc (i + k) ≡ suc i + k = omega arith in
    ap (λ (t : Bool). f (pick t (i + k) (suc (i + k)))) (le-ltb (i + k) i (omega arith)) ∙ ap f s)
    ∙ sym (tab_drop (suc i) m f))

-- a block whose rows behind i moved up by one
shifted_at : {A : Type 0} (d : A) (i m R : ℕ) (s s' : List A) → i < m → m ≤ R → BlockShifted d i (i + 1) (m - 1 - i) 4 R s s' → (c k : ℕ) → c < 4 → k < m - 1 → cell d R s' c k ≡ cell d R s c (past i k)
shifted_at d i m R s s' h fits B c k x l =
    elim (dec_lt k i) [
      | yes y ↦ B.other c k (omega arith) (λ p q. omega arith) ∙ ap (λ (t : Bool). cell d R s c (pick t k (suc k))) (sym (lt-ltb k i y))
      | no y ↦
          let a : i + (k - i) ≡ k = omega (arith, y) in
          let b : i + 1 + (k - i) ≡ suc k = omega (arith, y) in
          ap (cell d R s' c) (sym a) ∙ B.moved c (k - i) x (omega (arith, y)) ∙ ap (cell d R s c) b ∙ ap (λ (t : Bool). cell d R s c (pick t k (suc k))) (sym (le-ltb k i (omega (arith, y))))
    ]

past_below : (i m k : ℕ) → k < m - 1 → past i k < m
past_below i m k l =
    elim (dec_lt k i) [
      | yes y ↦ subst (λ (t : Bool). pick t k (suc k) < m) (sym (lt-ltb k i y)) (omega arith)
      | no y ↦ subst (λ (t : Bool). pick t k (suc k) < m) (sym (le-ltb k i (omega (arith, y)))) (omega arith)
    ]

-- the corners of the cells that are left
apart_past : (P k m i : ℕ) (f : ℕ → ℕ → ℕ) → CornersApart P k m f → CornersApart P k (m - 1) (corner_dropped i f)
unfolding corner_dropped
apart_past P k m i f A =
    record {
      below = λ c j x y. A.below c (past i j) x (past_below i m j y);
      apart = λ b c j x y z. A.apart b c (past i j) x y (past_below i m j z);
    }

module _ {i m : ℕ} {ends : List ℕ} {ll : ℕ} (P : RowAsked i m (length ends) ll) (ends' : List ℕ) (le : length ends' ≡ length ends) (E : BlockShifted 0 i (i + 1) (m - 1 - i) 4 (length ends / 4) ends ends') where
  end_past : (c k : ℕ) → c < 4 → k < m - 1 → cell 0 (length ends' / 4) ends' c k ≡ cell 0 (length ends / 4) ends c (past i k)
  end_past c k x l = ap (λ (z : ℕ). cell 0 (z / 4) ends' c k) le ∙ shifted_at 0 i m (length ends / 4) ends ends' P.here P.rows.ends E c k x l

  module _ (lengths lengths' : List Float) (fits : length lengths ≡ ll) (ll' : length lengths' ≡ length lengths) (F : BlockShifted nan i (i + 1) (m - 1 - i) 4 (length lengths / 4) lengths lengths') where
    length_past : (c k : ℕ) → c < 4 → k < m - 1 → cell nan (length lengths' / 4) lengths' c k ≡ cell nan (length lengths / 4) lengths c (past i k)
    length_past c k x l =
        ap (λ (z : ℕ). cell nan (z / 4) lengths' c k) ll' ∙ shifted_at nan i m (length lengths / 4) lengths lengths' P.here (omega (arith, P.rows.lengths)) F c k x l

    row_past : (k : ℕ) → k < m - 1 → row_at ends' lengths' k ≡ row_at ends lengths (past i k)
    row_past k l =
        λ z.
        record {
          a = end_past 0 k (omega arith) l z;
          b = end_past 1 k (omega arith) l z;
          structural = end_past 2 k (omega arith) l z;
          torn = end_past 3 k (omega arith) l z;
          rest = length_past 0 k (omega arith) l z;
          initial = length_past 1 k (omega arith) l z;
          impulse = length_past 2 k (omega arith) l z;
          stress = length_past 3 k (omega arith) l z;
        }

    -- the rows that are left
    pub gone_row : RowGone i m ends ends' lengths lengths'
    unfolding edges_at
    gone_row = record { edges = tab_ext (m - 1) (row_at ends' lengths') (λ k. row_at ends lengths (past i k)) row_past ∙ tab_past m i (row_at ends lengths) P.here; moved = E }

module _ {i m : ℕ} {ends : List ℕ} {ll : ℕ} {table : List ℕ} (P : DropAsked i m ends ll table) where
  -- the blocks have room for it
  pub row_room : RowAsked i m (length ends) ll
  row_room = record { here = P.here; rows = record { ends = P.linked.rows; lengths = P.lengths } }

  -- it can be taken out of the table
  pub gone_room : DropRoom i 1024 2 2048 (length ends / 4) m ends table
  gone_room =
      let L = P.linked in
      record {
        room = record { cells = L.few; rows = L.rows; columns = omega arith; table = L.long; small = omega (arith, L.few) };
        linked = L.are;
        apart = L.apart;
        here = P.here;
      }

  module _ (ends' : List ℕ) (le : length ends' ≡ length ends) (E : BlockShifted 0 i (i + 1) (m - 1 - i) 4 (length ends / 4) ends ends') where
    dropped : (c j : ℕ) → c < 4 → j < m - 1 → corner_dropped i (cell 0 (length ends / 4) ends) c j ≡ cell 0 (length ends' / 4) ends' c j
    unfolding corner_dropped
    dropped c j x y = sym (end_past row_room ends' le E c j x y)

    -- and then the table is that of the rows that are left
    pub gone_linked : (table' : List ℕ) → length table' ≡ length table → LinksOf 1024 2 2048 (m - 1) (corner_dropped i (cell 0 (length ends / 4) ends)) table' → EdgesLinked (m - 1) ends' table'
    gone_linked table' lt D =
        let L = P.linked in
        let same : (c j : ℕ) → c < 2 → j < m - 1 → corner_dropped i (cell 0 (length ends / 4) ends) c j ≡ cell 0 (length ends' / 4) ends' c j = λ c j x y. dropped c j (omega arith) y in
        record {
          long = omega (arith, lt, L.long);
          few = omega (arith, L.few);
          rows = omega (arith, le, L.rows);
          are = links_ext 1024 2 2048 (m - 1) _ (cell 0 (length ends' / 4) ends') table' same D;
          apart = apart_ext 1024 2 (m - 1) _ (cell 0 (length ends' / 4) ends') same (apart_past 1024 2 m i (cell 0 (length ends / 4) ends) L.apart);
        }

-- ---- the listed rows, one by one

-- at the head of the loop: the first `more` of the list are still to go, and `left` rows are left
pub record Closing (list : List ℕ) (n s : ℕ) (ends₀ : List ℕ) (lengths₀ : List Float) (ends : List ℕ) (lengths : List Float) (left more : ℕ) : Type 0 where
  pub same : left_out (take more list) (edges_at left ends lengths) ≡ left_out (take s list) (edges_at n ends₀ lengths₀)
  pub count : left + s ≡ n + more
  pub inside : more ≤ s
  pub ends_long : length ends ≡ length ends₀
  pub lengths_long : length lengths ≡ length lengths₀

-- and the table is that of those that are left
pub record Dropping (list : List ℕ) (n s : ℕ) (ends₀ : List ℕ) (lengths₀ : List Float) (table₀ ends : List ℕ) (lengths : List Float) (table : List ℕ) (left more : ℕ) : Type 0 where
  pub rows : Closing list n s ends₀ lengths₀ ends lengths left more
  pub linked : EdgesLinked left ends table
  pub table_long : length table ≡ length table₀

module _ (list : List ℕ) (n s : ℕ) (ends₀ : List ℕ) (lengths₀ : List Float) (R : ListedRoom list n s (length ends₀) (length lengths₀)) where
  pub closing_start : Closing list n s ends₀ lengths₀ ends₀ lengths₀ n s
  closing_start = record { same = refl; count = refl; inside = omega arith; ends_long = refl; lengths_long = refl }

  module _ (ends : List ℕ) (lengths : List Float) (left more : ℕ) (G : Closing list n s ends₀ lengths₀ ends lengths left more) where
    -- after the last one
    pub closing_done : more ≡ 0 → (left ≡ n - s) × (edges_at left ends lengths ≡ left_out (take s list) (edges_at n ends₀ lengths₀))
    unfolding left_out
    closing_done z = (omega (arith, G.count, rising_few R.rising), ap (λ (k : ℕ). left_out (take k list) (edges_at left ends lengths)) (sym z) ∙ G.same)

    module _ (some : 0 < more) where
      pub closing_read : more - 1 < length list
      closing_read = omega (arith, G.inside, R.few)

      pub closing_room : RowAsked (get_or list (more - 1) 0) left (length ends) (length lengths)
      closing_room =
          record {
            here = omega (arith, G.count, G.inside, rising_room R.rising (more - 1) (omega (arith, G.inside)));
            rows =
                record {
                  ends = omega (arith, G.count, G.inside, G.ends_long, R.rows.ends);
                  lengths = omega (arith, G.count, G.inside, G.lengths_long, R.rows.lengths);
                };
          }

      -- one goes
      pub closing_more : (ends' : List ℕ) (lengths' : List Float) → edges_at (left - 1) ends' lengths' ≡ without (get_or list (more - 1) 0) (edges_at left ends lengths)
          → length ends' ≡ length ends → length lengths' ≡ length lengths → Closing list n s ends₀ lengths₀ ends' lengths' (left - 1) (more - 1)
      closing_more ends' lengths' q le ll =
          let k : suc (more - 1) ≡ more = omega arith in
          record {
            same =
                ap (left_out (take (more - 1) list)) q ∙ sym (left_out_last (take (more - 1) list) (get_or list (more - 1) 0) (edges_at left ends lengths))
                ∙ ap (λ (is : List ℕ). left_out is (edges_at left ends lengths)) (sym (take_more (more - 1) list 0 closing_read) ∙ ap (λ (z : ℕ). take z list) k) ∙ G.same;
            count = omega (arith, G.count, G.inside, closing_room.here);
            inside = omega (arith, G.inside);
            ends_long = le ∙ G.ends_long;
            lengths_long = ll ∙ G.lengths_long;
          }

module _ (list : List ℕ) (n s : ℕ) (ends₀ : List ℕ) (lengths₀ : List Float) (table₀ : List ℕ) (R : ListedRoom list n s (length ends₀) (length lengths₀)) where
  pub dropping_start : EdgesLinked n ends₀ table₀ → Dropping list n s ends₀ lengths₀ table₀ ends₀ lengths₀ table₀ n s
  dropping_start L = record { rows = closing_start list n s ends₀ lengths₀ R; linked = L; table_long = refl }

  module _ (ends : List ℕ) (lengths : List Float) (table : List ℕ) (left more : ℕ) (G : Dropping list n s ends₀ lengths₀ table₀ ends lengths table left more) where
    -- after the last one
    pub dropping_done : more ≡ 0 → (left ≡ n - s) × (edges_at left ends lengths ≡ left_out (take s list) (edges_at n ends₀ lengths₀)) × EdgesLinked left ends table
    dropping_done z = let d = closing_done list n s ends₀ lengths₀ R ends lengths left more G.rows z in (d.0, d.1, G.linked)

    module _ (some : 0 < more) where
      pub dropping_read : more - 1 < length list
      dropping_read = closing_read list n s ends₀ lengths₀ R ends lengths left more G.rows some

      pub dropping_room : DropAsked (get_or list (more - 1) 0) left ends (length lengths) table
      dropping_room =
          let P = closing_room list n s ends₀ lengths₀ R ends lengths left more G.rows some in
          record { linked = G.linked; here = P.here; lengths = P.rows.lengths }

      -- one goes
      pub dropping_more : (ends' : List ℕ) (lengths' : List Float) (table' : List ℕ) → edges_at (left - 1) ends' lengths' ≡ without (get_or list (more - 1) 0) (edges_at left ends lengths)
          → EdgesLinked (left - 1) ends' table' → length ends' ≡ length ends → length lengths' ≡ length lengths → length table' ≡ length table
          → Dropping list n s ends₀ lengths₀ table₀ ends' lengths' table' (left - 1) (more - 1)
      dropping_more ends' lengths' table' q L le ll lt =
          record { rows = closing_more list n s ends₀ lengths₀ R ends lengths left more G.rows some ends' lengths' q le ll; linked = L; table_long = lt ∙ G.table_long }

  -- what the others ask, where the last is gone
  pub rest_room : 0 < s → (le ll : ℕ) → le ≡ length ends₀ → ll ≡ length lengths₀ → ListedRoom list (n - 1) (s - 1) le ll
  rest_room h le ll p q =
      record {
        few = omega (arith, R.few);
        rising =
            record {
              rises = λ i j l m. R.rising.rises i j l (omega arith);
              below = λ i l. omega (arith, R.rising.rises i (s - 1) l (omega arith), R.rising.below (s - 1) (omega arith));
            };
        rows = record { ends = omega (arith, p, R.rows.ends); lengths = omega (arith, q, R.rows.lengths) };
      }

  -- and all are gone behind them
  pub rest_gone : 0 < s → (ends : List ℕ) (lengths : List Float) → edges_at (n - 1) ends lengths ≡ without (get_or list (s - 1) 0) (edges_at n ends₀ lengths₀)
      → (ends' : List ℕ) (lengths' : List Float) (r : ℕ) → r ≡ n - 1 - (s - 1) → edges_at r ends' lengths' ≡ left_out (take (s - 1) list) (edges_at (n - 1) ends lengths)
      → (r ≡ n - s) × (edges_at r ends' lengths' ≡ left_out (take s list) (edges_at n ends₀ lengths₀))
  rest_gone h ends lengths q ends' lengths' r c d =
      let k : suc (s - 1) ≡ s = omega arith in (
        omega (arith, c),
        d ∙ ap (left_out (take (s - 1) list)) q ∙ sym (left_out_last (take (s - 1) list) (get_or list (s - 1) 0) (edges_at n ends₀ lengths₀))
            ∙ ap (λ (is : List ℕ). left_out is (edges_at n ends₀ lengths₀)) (sym (take_more (s - 1) list 0 (omega (arith, R.few))) ∙ ap (λ (z : ℕ). take z list) k),
      )
