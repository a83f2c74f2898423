-- Laws of one edge: its tests, its row as a program reads it, and an end moved. Assumes nothing.
use mathlib.Core.Path.{◌≡◌, sym, ◌∙◌, ap}
use mathlib.Core.Bool.{Bool, true, false, not, ◌&&◌}
use mathlib.Core.List.{List, [], ◌∷◌}
use Prim.Native.Nat.{ℕ, ◌+◌, ◌*◌, ◌/◌, ◌<◌, ◌≤◌}
use native.Mathlib.Omega.{arith}
use borrow.Author.Tests.{eq-eqb, ne_eqb}
use lib.Dec.{eqb}
use lib.ListN.{length, get_or}
use lib.Ieee.{Float, nan}
use Rattle.lists.specs.Lists.{stands}
use Rattle.lists.proofs.Truths.{pick_self}
use Rattle.columns.specs.Block.{cell, RowTurned}
use Rattle.columns.proofs.Cells.{col_0, col_1}
use Rattle.model.specs.Mesh.{Edge}
use Rattle.mesh.specs.At.{edge_row}
use Rattle.mesh.specs.Workers.{row_at}
use Rattle.copies.specs.Ends.{EndsMoved}

-- ---- tests of one edge

module _ {t : Bool} (v a b : ℕ) where
  -- an element is no other edge
  pub other_element : t ≡ true → false ≡ not t && stands v (a ∷ b ∷ [])
  other_element e = rw e

  -- one that is none, by its first end, and by its second
  pub other_first : t ≡ false → a ≡ v → true ≡ not t && stands v (a ∷ b ∷ [])
  other_first e q = rw (e, eq-eqb a v q)

  pub other_second : t ≡ false → (a ≡ v → ⊥) → eqb b v ≡ not t && stands v (a ∷ b ∷ [])
  other_second e q = rw (e, ne_eqb a v q) (pick_self (eqb b v))

-- ---- rows of the edges

-- a row as a program reads it
pub row_read : (A : List ℕ) (B : List Float) (i : ℕ)
    → ◌≡◌ {A = Edge}
    (record {
      a = get_or A i 0;
      b = get_or A (length A / 4 + i) 0;
      structural = get_or A (2 * (length A / 4) + i) 0;
      torn = get_or A (3 * (length A / 4) + i) 0;
      rest = get_or B i nan;
      initial = get_or B (length B / 4 + i) nan;
      impulse = get_or B (2 * (length B / 4) + i) nan;
      stress = get_or B (3 * (length B / 4) + i) nan;
    })
    (row_at A B i)
unfolding cell
row_read A B i =
    λ h.
    record {
      a = sym (col_0 0 (length A / 4) A i) h;
      b = sym (col_1 0 (length A / 4) A i) h;
      structural = get_or A (2 * (length A / 4) + i) 0;
      torn = get_or A (3 * (length A / 4) + i) 0;
      rest = sym (col_0 nan (length B / 4) B i) h;
      initial = sym (col_1 nan (length B / 4) B i) h;
      impulse = get_or B (2 * (length B / 4) + i) nan;
      stress = get_or B (3 * (length B / 4) + i) nan;
    }

-- a row turned in its first two columns is an edge with its ends moved
pub ends_moved : (i v w : ℕ) (s s' : List ℕ) → i < length s / 4 → length s' ≡ length s → RowTurned 2 (length s / 4) i v w s s' → EndsMoved i v w s s'
ends_moved i v w s s' h long T =
    record {
      here =
          λ B.
          ap (λ (m : ℕ). edge_row (m / 4) (length B / 4) s' B i) long
          ∙ (λ z.
          record {
            a = T.here 0 (omega arith) z;
            b = T.here 1 (omega arith) z;
            structural = T.beside 2 i (omega arith) h z;
            torn = T.beside 3 i (omega arith) h z;
            rest = cell nan (length B / 4) B 0 i;
            initial = cell nan (length B / 4) B 1 i;
            impulse = cell nan (length B / 4) B 2 i;
            stress = cell nan (length B / 4) B 3 i;
          });
      others =
          λ B j l n.
          ap (λ (m : ℕ). edge_row (m / 4) (length B / 4) s' B j) long
          ∙ (λ z.
          record {
            a = T.others 0 j l n z;
            b = T.others 1 j l n z;
            structural = T.others 2 j l n z;
            torn = T.others 3 j l n z;
            rest = cell nan (length B / 4) B 0 j;
            initial = cell nan (length B / 4) B 1 j;
            impulse = cell nan (length B / 4) B 2 j;
            stress = cell nan (length B / 4) B 3 j;
          });
    }
