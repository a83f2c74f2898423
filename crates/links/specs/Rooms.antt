-- What the functions of this crate ask, and what their inner functions promise. The table has columns of R links, the block of corners has columns of S places. Definitions only.
use Rattle.std.specs.Prelude.{ℕ, suc, ◌+◌, ◌*◌, ◌<◌, ◌≤◌, ◌≡◌, true, List, length, get_or, take}
use Rattle.lists.specs.Lists.{pick}
use Rattle.columns.specs.Block.{cell}
use Rattle.links.specs.Links.{holds, first_of, next_of, cells_of, LinksOf}

-- n cells of k corners in a block of lc places, and a table of lt places for them
pub record LinkRoom (P k R S n lc lt : ℕ) : Type 0 where
  pub cells : n ≤ R
  pub rows : n ≤ S
  pub columns : k * S ≤ lc
  pub table : P + k * R ≤ lt
  pub small : n < 65536

-- the corners of n cells are among P particles, and no cell has one twice
pub record CornersApart (P k n : ℕ) (corner : ℕ → ℕ → ℕ) : Type 0 where
  pub below : (c i : ℕ) → c < k → i < n → corner c i < P
  pub apart : (b c i : ℕ) → b < c → c < k → i < n → corner b i ≡ corner c i → ⊥

-- cell i stands first at each of its corners, and links to what stood first there
pub record CellLinked (P k R i : ℕ) (corner : ℕ → ℕ → ℕ) (t t' : List ℕ) : Type 0 where
  pub heads : (v : ℕ) → v < P → get_or t' v 0 ≡ pick (holds k corner v i) (suc i) (get_or t v 0)
  pub links : (c : ℕ) → c < k → get_or t' (P + (c * R + i)) 0 ≡ get_or t (corner c i) 0
  pub others : (c j : ℕ) → c < k → j < R → (j ≡ i → ⊥) → get_or t' (P + (c * R + j)) 0 ≡ get_or t (P + (c * R + j)) 0

-- r is the column of v in row i
pub record ColumnOf (k v i : ℕ) (corner : ℕ → ℕ → ℕ) (r : ℕ) : Type 0 where
  pub among : r < k
  pub is : corner r i ≡ v

-- row i is within the columns, and holds v
pub record RowRead (k S v i : ℕ) (corners : List ℕ) : Type 0 where
  pub here : i < S
  pub columns : k * S ≤ length corners
  pub holding : holds k (cell 0 S corners) v i ≡ true

-- row i is within the columns, and its k corners are different ones of P particles; the table has lt places
pub record RowLent (P k R S i : ℕ) (corners : List ℕ) (lt : ℕ) : Type 0 where
  pub linked : i < R
  pub here : i < S
  pub small : i < 65535
  pub columns : k * S ≤ length corners
  pub table : P + k * R ≤ lt
  pub below : (c : ℕ) → c < k → cell 0 S corners c i < P
  pub apart : (b c : ℕ) → b < c → c < k → cell 0 S corners b i ≡ cell 0 S corners c i → ⊥

-- n cells whose table is to be built
pub record BuildRoom (P k R S n : ℕ) (corners : List ℕ) (lt : ℕ) : Type 0 where
  pub room : LinkRoom P k R S n (length corners) lt
  pub apart : CornersApart P k n (cell 0 S corners)

-- row i holds v, and the table has room for its links
pub record LinkRead (P k R S v i : ℕ) (corners : List ℕ) (lt : ℕ) : Type 0 where
  pub row : RowRead k S v i corners
  pub linked : i < R
  pub table : P + k * R ≤ lt

-- every place has 0
pub record Cleared (t : List ℕ) : Type 0 where
  pub zero_at : (j : ℕ) → j < length t → get_or t j 0 ≡ 0

-- r is the first cell that holds v, whatever cells the table is of
pub record FirstIs (v : ℕ) (table : List ℕ) (r : ℕ) : Type 0 where
  pub is : (P k R n : ℕ) (corner : ℕ → ℕ → ℕ) → LinksOf P k R n corner table → v < P → r ≡ first_of k n corner v

-- r is the next cell behind i that holds v, however many cells the table is of
pub record NextIs (P k R v i : ℕ) (corner : ℕ → ℕ → ℕ) (table : List ℕ) (r : ℕ) : Type 0 where
  pub is : (n : ℕ) → LinksOf P k R n corner table → r ≡ next_of k n corner v i

-- the table is that of n cells, v has a head in it, and the cells that hold v have room in a list of ll places
pub record ListRoom (v P k R S n : ℕ) (corners table : List ℕ) (ll : ℕ) : Type 0 where
  pub room : LinkRoom P k R S n (length corners) (length table)
  pub here : v < P
  pub linked : LinksOf P k R n (cell 0 S corners) table
  pub fits : n ≤ ll

-- the first r of the list are the cells that hold v, rising; there are at most n
pub record CellsListed (k n v : ℕ) (corner : ℕ → ℕ → ℕ) (list : List ℕ) (r : ℕ) : Type 0 where
  pub are : take r list ≡ cells_of k n corner v
  pub few : r ≤ n
