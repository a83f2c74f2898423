-- Laws of the table of edges or of boundary entries, in a block of w columns: with a row that was appended, with an end that was moved, and with a row turned from one particle to another. Assumes nothing.
use Prim.Native.Nat.{ℕ, zero, suc, ◌+◌, ◌*◌, ◌/◌, ◌≤◌, ◌<◌}
use native.Mathlib.Omega.{arith}
use native.Mathlib.Decide.{ℕ_discrete, dec_lt}
use mathlib.Core.Path.{◌≡◌, refl, sym, ap, ◌∙◌, subst}
use mathlib.Core.Logic.{⊎_elim}
use mathlib.Core.List.{List}
use lib.ListN.{length, set, length-set}
use borrow.Author.Tests.{eq-eqb, ne_eqb}
use Rattle.lists.specs.Labels.{replaced}
use Rattle.lists.proofs.Stores.{replaced_case}
use Rattle.columns.proofs.Cells.{col_fits, store_same, store_row, store_col}
use Rattle.columns.specs.Block.{cell, RowTurned}
use Rattle.links.specs.Links.{LinksOf}
use Rattle.link_changes.specs.Changes.{corner_moved, AppendRoom, MoveRoom, TurnRoom}
use Rattle.links.specs.Rooms.{CornersApart, RowRead, ColumnOf}
use Rattle.links.specs.Linked.{PairsLinked}
use Rattle.links.proofs.Same.{links_ext}
use Rattle.links.proofs.Parts.{two_columns}
use Rattle.link_changes.proofs.Chained.{moved_here, moved_row, moved_column, apart_ext}

-- ---- a row behind the others

-- a row of two ends that differ, behind n of which each is as it was
module _ {w n : ℕ} {ends table : List ℕ} (wide : 2 ≤ w) (L : PairsLinked w n ends table) (ends' : List ℕ)
    (same : (c j : ℕ) → c < 2 → j < n → cell 0 (length ends / w) ends c j ≡ cell 0 (length ends' / w) ends' c j)
    (few : n + 1 ≤ 2048) (rows : n + 1 ≤ length ends' / w)
    (first : cell 0 (length ends' / w) ends' 0 n < 1024) (second : cell 0 (length ends' / w) ends' 1 n < 1024)
    (differ : cell 0 (length ends' / w) ends' 0 n ≡ cell 0 (length ends' / w) ends' 1 n → ⊥) where
  more_apart : CornersApart 1024 2 (n + 1) (cell 0 (length ends' / w) ends')
  more_apart =
      record {
        below = λ c j x y. low c j x (dec_lt j n) y;
        apart = λ b c j x y z. two b c j x y (dec_lt j n) z;
      }
    where
      before : CornersApart 1024 2 n (cell 0 (length ends' / w) ends')
      before = apart_ext 1024 2 n (cell 0 (length ends / w) ends) (cell 0 (length ends' / w) ends') same L.apart

      last : (c : ℕ) → c < 2 → cell 0 (length ends' / w) ends' c n < 1024
      last zero x = first
      last (suc zero) x = second
      last (suc (suc c)) x = absurd (omega arith)

      low : (c j : ℕ) → c < 2 → Dec (j < n) → j < n + 1 → cell 0 (length ends' / w) ends' c j < 1024
      low c j x (yes l) y = before.below c j x l
      low c j x (no l) y = let q : n ≡ j = omega (arith, l) in subst (λ (z : ℕ). cell 0 (length ends' / w) ends' c z < 1024) q (last c x)

      at_last : (b c : ℕ) → b < c → c < 2 → cell 0 (length ends' / w) ends' b n ≡ cell 0 (length ends' / w) ends' c n → ⊥
      at_last zero zero x y e = omega arith
      at_last zero (suc zero) x y e = differ e
      at_last zero (suc (suc c)) x y e = omega arith
      at_last (suc b) c x y e = omega arith

      two : (b c j : ℕ) → b < c → c < 2 → Dec (j < n) → j < n + 1 → cell 0 (length ends' / w) ends' b j ≡ cell 0 (length ends' / w) ends' c j → ⊥
      two b c j x y (yes l) z = before.apart b c j x y l
      two b c j x y (no l) z =
          let q : n ≡ j = omega (arith, l) in
          subst (λ (k : ℕ). cell 0 (length ends' / w) ends' b k ≡ cell 0 (length ends' / w) ends' c k → ⊥) q (at_last b c x y)

  -- it can be put into the table
  pub pairs_append_room : AppendRoom 1024 2 2048 (length ends' / w) n ends' table
  pairs_append_room =
      record {
        room = record { cells = few; rows = rows; columns = two_columns ends' wide; table = L.long; small = omega arith };
        linked = links_ext 1024 2 2048 n (cell 0 (length ends / w) ends) (cell 0 (length ends' / w) ends') table same L.are;
        apart = more_apart;
      }

  -- and then the table has it
  pub pairs_appended : {table' : List ℕ} → length table' ≡ length table → LinksOf 1024 2 2048 (n + 1) (cell 0 (length ends' / w) ends') table' → PairsLinked w (n + 1) ends' table'
  pairs_appended long A = record { long = omega (arith, long, L.long); few = few; rows = rows; are = A; apart = more_apart }

-- ---- an end that is another

-- corners of which one became w, which was none of that cell
apart_moved : (P k n i c w : ℕ) (f : ℕ → ℕ → ℕ) → CornersApart P k n f → w < P → ((d : ℕ) → d < k → f d i ≡ w → ⊥) → CornersApart P k n (corner_moved i c w f)
apart_moved P k n i c w f A head fresh =
    record {
      below = λ d j x y. low d j x y (ℕ_discrete j i) (ℕ_discrete d c);
      apart = λ b d j x y z. two b d j x y z (ℕ_discrete j i) (ℕ_discrete b c) (ℕ_discrete d c);
    }
  where
    here : corner_moved i c w f c i ≡ w
    here = moved_here P k n i c w f

    row : (d j : ℕ) → (j ≡ i → ⊥) → f d j ≡ corner_moved i c w f d j
    row = moved_row P k n i c w f

    column : (d : ℕ) → (d ≡ c → ⊥) → f d i ≡ corner_moved i c w f d i
    column = moved_column P k n i c w f

    low : (d j : ℕ) → d < k → j < n → Dec (j ≡ i) → Dec (d ≡ c) → corner_moved i c w f d j < P
    low d j x y (no e) q = subst (λ (z : ℕ). z < P) (row d j e) (A.below d j x y)
    low d j x y (yes e) (yes q) = rw (e, q) (subst (λ (z : ℕ). z < P) (sym here) head)
    low d j x y (yes e) (no q) = rw e (subst (λ (z : ℕ). z < P) (column d q) (A.below d i x (subst (λ (z : ℕ). z < n) e y)))

    two : (b d j : ℕ) → b < d → d < k → j < n → Dec (j ≡ i) → Dec (b ≡ c) → Dec (d ≡ c) → corner_moved i c w f b j ≡ corner_moved i c w f d j → ⊥
    two b d j x y z (no e) q r s = A.apart b d j x y z (row b j e ∙ s ∙ sym (row d j e))
    two b d j x y z (yes e) (yes q) (yes r) s = omega arith
    two b d j x y z (yes e) (yes q) (no r) s =
        fresh d y (column d r ∙ ap (corner_moved i c w f d) (sym e) ∙ sym s ∙ ap (corner_moved i c w f b) e ∙ ap (λ (u : ℕ). corner_moved i c w f u i) q ∙ here)
    two b d j x y z (yes e) (no q) (yes r) s =
        fresh b (omega arith) (column b q ∙ ap (corner_moved i c w f b) (sym e) ∙ s ∙ ap (corner_moved i c w f d) e ∙ ap (λ (u : ℕ). corner_moved i c w f u i) r ∙ here)
    two b d j x y z (yes e) (no q) (no r) s =
        A.apart b d i x y (subst (λ (u : ℕ). u < n) e z) (column b q ∙ ap (corner_moved i c w f b) (sym e) ∙ s ∙ ap (corner_moved i c w f d) e ∙ sym (column d r))

-- end c of row i is to become z
module _ {w n i c z : ℕ} {ends table : List ℕ} (wide : 2 ≤ w) (L : PairsLinked w n ends table) (here : i < n) (column : c < 2) (head : z < 1024)
    (fresh : (d : ℕ) → d < 2 → cell 0 (length ends / w) ends d i ≡ z → ⊥) where
  -- it can be moved in the table
  pub pairs_move_room : MoveRoom i c z 1024 2 2048 (length ends / w) n ends table
  pairs_move_room =
      record {
        room = record { cells = L.few; rows = L.rows; columns = two_columns ends wide; table = L.long; small = omega (arith, L.few) };
        linked = L.are;
        apart = L.apart;
        here = here;
        column = column;
        head = head;
        fresh = fresh;
      }

  -- and then the table is that of the block which has z there
  pub pairs_moved : {ends' table' : List ℕ} → length ends' ≡ length ends → length table' ≡ length table
      → ((d j : ℕ) → d < 2 → j < n → corner_moved i c z (cell 0 (length ends / w) ends) d j ≡ cell 0 (length ends' / w) ends' d j)
      → LinksOf 1024 2 2048 n (corner_moved i c z (cell 0 (length ends / w) ends)) table' → PairsLinked w n ends' table'
  pairs_moved {ends'} {table'} le lt same M =
      record {
        long = omega (arith, lt, L.long);
        few = L.few;
        rows = subst (λ (l : ℕ). n ≤ l / w) (sym le) L.rows;
        are = links_ext 1024 2 2048 n _ (cell 0 (length ends' / w) ends') table' same M;
        apart = apart_ext 1024 2 n _ (cell 0 (length ends' / w) ends') same (apart_moved 1024 2 n i c z (cell 0 (length ends / w) ends) L.apart head fresh);
      }

-- ---- a row turned

module _ {w i v z n : ℕ} {block table : List ℕ} (P : TurnRoom w i v z n block table) where
  abbrev R : ℕ
  R = length block / w

  abbrev f : ℕ → ℕ → ℕ
  f = cell 0 R block

  turn_here : i < R
  turn_here = omega (arith, P.here, P.linked.rows)

  pub turn_row : RowRead 2 R v i block
  turn_row = record { here = turn_here; columns = two_columns block P.wide; holding = P.holding }

  -- v stays
  pub turn_kept : z ≡ v → RowTurned 2 (length block / w) i v z block block × PairsLinked w n block table
  turn_kept e = (record { here = λ c h. sym (ap (λ (u : ℕ). replaced v u (f c i)) e ∙ itself (f c i)); beside = λ c j h l. refl; others = λ c j l h. refl }, P.linked)
    where
      itself : (x : ℕ) → replaced v v x ≡ x
      itself x = ⊎_elim (λ y. y.1 ∙ sym y.0) (λ y. y.1) (replaced_case v v x)

  module _ (ne : z ≡ v → ⊥) {c : ℕ} (C : ColumnOf 2 v i (cell 0 (length block / w) block) c) where
    pub turn_room : MoveRoom i c z 1024 2 2048 R n block table
    turn_room = pairs_move_room P.wide P.linked P.here C.among P.head (P.fresh ne)

    -- its place
    pub turn_place : c * R + i < length block
    turn_place = omega (arith, col_fits c 2 R C.among, two_columns block P.wide, turn_here)

    -- the other end is not v
    single : (d : ℕ) → d < 2 → (d ≡ c → ⊥) → f d i ≡ v → ⊥
    single d x k e =
        let lo : d < c → ⊥ = λ y. P.linked.apart.apart d c i y C.among P.here (e ∙ sym C.is) in
        let hi : c < d → ⊥ = λ y. P.linked.apart.apart c d i y x P.here (C.is ∙ sym e) in
        omega (arith, k, lo, hi)

    abbrev s' : List ℕ
    s' = set block (c * R + i) z

    cells : (d j : ℕ) → d < 2 → j < n → Dec (j ≡ i) → Dec (d ≡ c) → corner_moved i c z f d j ≡ cell 0 R s' d j
    cells d j x y (no q) r = sym (moved_row 1024 2 2048 i c z f d j q) ∙ sym (store_row 0 R block c i z d j (omega (arith, P.linked.rows)) turn_here q)
    cells d j x y (yes q) (yes r) = rw (q, r) (moved_here 1024 2 2048 i c z f ∙ sym (store_same 0 R block c i z turn_place))
    cells d j x y (yes q) (no r) = rw q (sym (moved_column 1024 2 2048 i c z f d r) ∙ sym (store_col 0 R block c i z d i turn_here turn_here r))

    turned : (d : ℕ) → d < 2 → Dec (d ≡ c) → cell 0 R s' d i ≡ replaced v z (f d i)
    turned d x (yes r) = rw r (store_same 0 R block c i z turn_place ∙ sym (hit (f c i) C.is))
      where
        hit : (y : ℕ) → y ≡ v → replaced v z y ≡ z
        hit y e = rw (eq-eqb y v e)
    turned d x (no r) = store_col 0 R block c i z d i turn_here turn_here r ∙ sym (miss (f d i) (single d x r))
      where
        miss : (y : ℕ) → (y ≡ v → ⊥) → replaced v z y ≡ y
        miss y e = rw (ne_eqb y v e)

    pub turn_done : {table' : List ℕ} → length table' ≡ length table → LinksOf 1024 2 2048 n (corner_moved i c z (cell 0 (length block / w) block)) table'
        → RowTurned 2 (length block / w) i v z block (set block (c * (length block / w) + i) z) × PairsLinked w n (set block (c * (length block / w) + i) z) table'
    turn_done lt L =
        let le : length s' ≡ length block = length-set block (c * R + i) z in (
          record {
            here = λ d x. turned d x (ℕ_discrete d c);
            beside = λ d j x l. let a = C.among in store_col 0 R block c i z d j l turn_here (λ e. omega arith);
            others = λ d j l e. store_row 0 R block c i z d j l turn_here e;
          },
          pairs_moved P.wide P.linked P.here C.among P.head (P.fresh ne) le lt
              (λ d j x y. cells d j x y (ℕ_discrete j i) (ℕ_discrete d c) ∙ ap (λ (l : ℕ). cell 0 (l / w) s' d j) (sym le)) L,
        )
