-- Laws of the walk to a cell's place in a chain, and of a cell that is new in the block. Assumes nothing.
use Rattle.lists.proofs.Truths.{not_true}
use Prim.Native.Nat.{ℕ, zero, suc, ◌+◌, ◌*◌, ◌≤◌, ◌<◌, zero-le, ◌-◌}
use native.Mathlib.Numerals.{add-one}
use native.Mathlib.Omega.{arith}
use mathlib.Core.Path.{◌≡◌, refl, sym, ◌∙◌}
use mathlib.Core.Logic.{◌⊎◌, inl, inr, ⊎_elim}
use mathlib.Core.List.{List}
use lib.ListN.{length, get_or, set, length-set}
use lib.Seq.{get_or-set_same, get_or-set_other}
use Rattle.columns.specs.Block.{cell}
use Rattle.columns.proofs.Cells.{col_fits, apart}
use Rattle.links.specs.Links.{lowest, holds, LinksOf}
use Rattle.links.specs.Rooms.{LinkRoom, RowRead, ColumnOf}
use Rattle.link_changes.specs.Changes.{LeadsTo, SlotOf, SlotRoom, ChainRoom, CellPut, CellTaken}
use Rattle.links.proofs.Lowest.{low_most, holds_ext}
use Rattle.links.proofs.Walked.{NextIs, next_is}
use Rattle.link_changes.proofs.Chained.{leads_read, leads_ext, leads_fits}

-- ---- the walk

-- at the head of the loop: the place passes over cells below i only, and `next` is what it has
pub record Slotting (P k R v i : ℕ) (corner : ℕ → ℕ → ℕ) (t : List ℕ) (at next : ℕ) : Type 0 where
  pub from : ℕ
  pub leads : LeadsTo P k R corner v at from
  pub below : from ≤ i
  pub reads : next ≡ get_or t at 0

-- how far the walk can go still
pub left_to : ℕ → ℕ → ℕ
left_to i zero = 0
left_to i (suc j) = i - j

module _ (v i P k R S : ℕ) (s t : List ℕ) (I : SlotRoom v i P k R S s t) where
  pub slotting_start : Slotting P k R v i (cell 0 S s) t v (get_or t v 0)
  slotting_start = record { from = 0; leads = inl (record { low = I.head; at = refl; first = refl }); below = zero-le; reads = refl }

  module _ (at next : ℕ) (G : Slotting P k R v i (cell 0 S s) t at next) where
    -- it has the lowest cell from there on
    has : next ≡ lowest (holds k I.corner v) G.from (I.count - G.from)
    has =
        G.reads
        ∙ leads_read P k R I.corner I.count t I.linked v at G.from
        (leads_ext P k R (cell 0 S s) I.corner i v at G.from (λ c j x y. sym (I.same c j x y)) G.below G.leads)

    -- no cell below i is left, or it is past i
    pub slotting_done : (next ≡ 0) ⊎ (i < next) → SlotOf P k R v i (cell 0 S s) at
    slotting_done d =
        record {
          from = G.from;
          leads = G.leads;
          below = G.below;
          none = λ j x y. sym (holds_ext k I.corner (cell 0 S s) v j (λ c h. I.same c j h y)) ∙ not_true _ (λ e. no_one j x y (low_most (holds k I.corner v) G.from (I.count - G.from) j x (omega (arith, G.below, I.among)) e));
        }
      where
        no_one : (j : ℕ) → G.from ≤ j → j < i → (0 < lowest (holds k I.corner v) G.from (I.count - G.from)) × (lowest (holds k I.corner v) G.from (I.count - G.from) ≤ suc j) → ⊥
        no_one j x y m = ⊎_elim (λ z. omega (arith, m.0, has)) (λ z. omega (arith, m.1, has)) d

    -- a cell that holds v is next
    module _ (some : 0 < next) where
      abbrev one : NextIs (holds k I.corner v) G.from (I.count - G.from) (next - 1)
      one = next_is (holds k I.corner v) G.from (I.count - G.from) (next - 1) (sym has ∙ omega arith)

      pub slotting_after : G.from < next
      slotting_after = omega (arith, one.after)

      module _ (low : next ≤ i) where
        pub slotting_row : RowRead k S v (next - 1) s
        slotting_row =
            record {
              here = omega (arith, I.rows);
              columns = I.columns;
              holding = sym (holds_ext k I.corner (cell 0 S s) v (next - 1) (λ c h. I.same c (next - 1) h (omega arith))) ∙ one.passes;
            }

        module _ (r : ℕ) (Q : ColumnOf k v (next - 1) (cell 0 S s) r) where
          pub slotting_link : P + (r * R + (next - 1)) < length t
          slotting_link = omega (arith, I.places, I.cells, col_fits r k R Q.among)

          abbrev pub slotting_more : Slotting P k R v i (cell 0 S s) t (P + (r * R + (next - 1))) (get_or t (P + (r * R + (next - 1))) 0)
          slotting_more =
              record {
                from = next;
                leads = inr (record { column = r; row = next - 1; among = Q.among; here = omega (arith, I.cells); is = Q.is; at = refl; behind = omega arith });
                below = low;
                reads = refl;
              }

  -- the walk goes on
  pub slotting_less : (at next : ℕ) (G : Slotting P k R v i (cell 0 S s) t at next) (some : 0 < next) (low : next ≤ i) (r : ℕ) (Q : ColumnOf k v (next - 1) (cell 0 S s) r)
      → left_to i (get_or t (P + (r * R + (next - 1))) 0) < left_to i next
  unfolding left_to
  slotting_less at zero G some low r Q = absurd (omega arith)
  slotting_less at (suc q) G some low r Q = by _ refl
    where
      by : (y : ℕ) → y ≡ get_or t (P + (r * R + (suc q - 1))) 0 → left_to i y < i - q
      by zero e = omega arith
      by (suc y) e =
          let h = slotting_after _ _ (slotting_more at (suc q) G some low r Q) (omega (arith, e)) in
          omega (arith, h, e)

-- ---- a cell put in

-- the room for it, where the table is that of cells which are those of the block before cell i
pub chain_room : (v i c P k R S n : ℕ) (s t : List ℕ) (lt : ℕ) → LinkRoom P k R S n (length s) lt → length t ≡ lt → i < n → c < k → v < P
    → (made : ℕ → ℕ → ℕ) → ((b j : ℕ) → b < k → j < i → made b j ≡ cell 0 S s b j) → LinksOf P k R n made t → ChainRoom v i c P k R S s t
chain_room v i c P k R S n s t lt I long here column low made same L =
    record {
      slot =
          record {
            head = low;
            cells = omega (arith, I.cells);
            rows = omega (arith, I.rows);
            columns = I.columns;
            places = rw long I.table;
            count = n;
            corner = made;
            among = omega arith;
            same = same;
            linked = L;
          };
      here = omega (arith, I.cells);
      small = omega (arith, I.small);
      column = column;
    }

module _ (v i c P k R S : ℕ) (s t : List ℕ) (I : ChainRoom v i c P k R S s t) (r : ℕ) (O : SlotOf P k R v i (cell 0 S s) r) where
  pub put_in_link : P + (c * R + i) < length t
  put_in_link = omega (arith, I.here, I.slot.places, col_fits c k R I.column)

  pub put_in_slot : r < length t
  put_in_slot = let h = leads_fits P k R (cell 0 S s) v r O.from O.leads in omega (arith, h, I.slot.places)

  -- the place before cell i is not its link
  pub slot_apart : r ≡ P + (c * R + i) → ⊥
  slot_apart e = by O.leads
    where
      by : LeadsTo P k R (cell 0 S s) v r O.from → ⊥
      by (inl H) = omega (arith, H.at, H.low)
      by (inr K) = apart K.column c R K.row i K.here I.here (λ q. omega (arith, K.behind, O.below)) (omega (arith, K.at))

  pub put_made : CellPut P k R v i c (cell 0 S s) t (set (set t (P + (c * R + i)) (get_or t r 0)) r (i + 1))
  put_made =
      record {
        slot = r;
        is = O;
        chained = get_or-set_same (set t (P + (c * R + i)) (get_or t r 0)) r (i + 1) 0 (rw (length-set t (P + (c * R + i)) (get_or t r 0)) put_in_slot) ∙ add-one i;
        link = get_or-set_other (set t (P + (c * R + i)) (get_or t r 0)) r (P + (c * R + i)) (i + 1) 0 (λ e. slot_apart (sym e)) ∙ get_or-set_same t (P + (c * R + i)) (get_or t r 0) 0 put_in_link;
        others = λ x y z. get_or-set_other (set t (P + (c * R + i)) (get_or t r 0)) r x (i + 1) 0 y ∙ get_or-set_other t (P + (c * R + i)) x (get_or t r 0) 0 z;
      }

  -- or taken out
  pub take_made : CellTaken P k R v i c (cell 0 S s) t (set (set t r (get_or t (P + (c * R + i)) 0)) (P + (c * R + i)) 0)
  take_made =
      record {
        slot = r;
        is = O;
        chained = get_or-set_other (set t r (get_or t (P + (c * R + i)) 0)) (P + (c * R + i)) r 0 0 slot_apart ∙ get_or-set_same t r (get_or t (P + (c * R + i)) 0) 0 put_in_slot;
        link = get_or-set_same (set t r (get_or t (P + (c * R + i)) 0)) (P + (c * R + i)) 0 0 (rw (length-set t r (get_or t (P + (c * R + i)) 0)) put_in_link);
        others = λ x y z. get_or-set_other (set t r (get_or t (P + (c * R + i)) 0)) (P + (c * R + i)) x 0 0 z ∙ get_or-set_other t r x (get_or t (P + (c * R + i)) 0) 0 y;
      }
