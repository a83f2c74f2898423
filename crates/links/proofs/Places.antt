-- Laws of single places: a table cleared, the place of v among the corners of a cell, and what the table has there. Assumes nothing.
use Prim.Native.Nat.{ℕ, ◌+◌, ◌*◌, ◌≤◌, ◌<◌}
use native.Mathlib.Nat.{zero-mul}
use native.Mathlib.Omega.{arith}
use native.Mathlib.Decide.{ℕ_discrete}
use mathlib.Core.Path.{◌≡◌, sym, ap, ◌∙◌}
use mathlib.Core.Logic.{⊎_elim}
use mathlib.Core.List.{List}
use lib.ListN.{length, get_or, set, length-set}
use Rattle.lists.proofs.Stores.{stored}
use Rattle.columns.specs.Block.{cell}
use Rattle.columns.proofs.Cells.{col_fits, next_col}
use Rattle.links.specs.Links.{next_of}
use Rattle.links.specs.Rooms.{RowRead, ColumnOf, NextIs}
use Rattle.links.proofs.Lowest.{holds_get}

-- ---- a table cleared

pub record Clearing (t₀ t : List ℕ) (i : ℕ) : Type 0 where
  pub long : length t ≡ length t₀
  pub below : i ≤ length t₀
  pub zeros : (j : ℕ) → j < i → get_or t j 0 ≡ 0

pub clearing_more : (t₀ t : List ℕ) (i : ℕ) → Clearing t₀ t i → i < length t → Clearing t₀ (set t i 0) (i + 1)
clearing_more t₀ t i r h =
    record {
      long = length-set t i 0 ∙ r.long;
      below = omega (arith, r.long);
      zeros = λ j l. ⊎_elim (λ y. y.1) (λ y. let ne = y.0 in y.1 ∙ r.zeros j (omega (arith, ne))) (stored t i 0 j h);
    }

-- ---- the column of v in row i: columns before the one looked at do not have it

pub record Looking (k S v i : ℕ) (s : List ℕ) (c q : ℕ) : Type 0 where
  pub below : c < k
  pub at : q ≡ c * S + i
  pub none : (b : ℕ) → b < c → cell 0 S s b i ≡ v → ⊥

module _ (k S v i : ℕ) (s : List ℕ) (I : RowRead k S v i s) where
  abbrev held : (c : ℕ) × ((c < k) × (cell 0 S s c i ≡ v))
  held = holds_get k (cell 0 S s) i v I.holding

  pub looking_start : Looking k S v i s 0 i
  looking_start =
      let z : 0 * S + i ≡ i = omega (arith, zero-mul S) in
      record { below = omega (arith, held.1.0); at = sym z; none = λ b h. absurd (omega arith) }

  module _ (c q : ℕ) (r : Looking k S v i s c q) where
    pub looking_fits : q + S ≤ length s + i
    looking_fits = omega (arith, col_fits c k S r.below, r.at, I.columns)

    read : cell 0 S s c i ≡ get_or s q 0
    unfolding cell
    read = ap (λ (x : ℕ). get_or s x 0) (sym r.at)

    pub looking_found : get_or s q 0 ≡ v → ColumnOf k v i (cell 0 S s) c
    looking_found e = record { among = r.below; is = read ∙ e }

    pub looking_more : c + 1 < k → (get_or s q 0 ≡ v → ⊥) → Looking k S v i s (c + 1) (q + S)
    looking_more h n =
        let f = next_col c S in
        record { below = h; at = omega (arith, r.at); none = λ b l. by b l (ℕ_discrete b c) }
      where
        by : (b : ℕ) → b < c + 1 → Dec (b ≡ c) → cell 0 S s b i ≡ v → ⊥
        by b l (yes z) y = n (sym read ∙ ap (λ (x : ℕ). cell 0 S s x i) (sym z) ∙ y)
        by b l (no z) y = r.none b (omega (arith, z)) y

    -- it is in the last column, where in no other
    pub looking_last : k ≤ c + 1 → ColumnOf k v i (cell 0 S s) c
    looking_last h =
        let g = held in
        let n : g.0 < c → ⊥ = λ l. r.none g.0 l g.1.1 in
        let e : g.0 ≡ c = omega (arith, n, g.1.0) in
        record { among = r.below; is = ap (λ (x : ℕ). cell 0 S s x i) (sym e) ∙ g.1.1 }

-- ---- the link in that column

pub link_fits : (P k R v i lt : ℕ) (corner : ℕ → ℕ → ℕ) (r : ℕ) → i < R → P + k * R ≤ lt → ColumnOf k v i corner r → P + (r * R + i) < lt
link_fits P k R v i lt corner r l h Q = omega (arith, col_fits r k R Q.among)

pub next_read : (P k R v i : ℕ) (corner : ℕ → ℕ → ℕ) (table : List ℕ) (r : ℕ) → i < R → ColumnOf k v i corner r → NextIs P k R v i corner table (get_or table (P + (r * R + i)) 0)
next_read P k R v i corner table r l Q = record { is = λ n L. L.links r i Q.among l ∙ ap (λ (u : ℕ). next_of k n corner u i) Q.is }
