-- The corners of cells where one of them changes, and what the functions of this crate ask and promise. Names and letters as in links/specs. Definitions only.
use Rattle.std.specs.Prelude.{ℕ, suc, ◌+◌, ◌*◌, ◌/◌, ◌<◌, ◌≤◌, ◌-◌, ◌≡◌, true, false, ◌&&◌, ◌⊎◌, List, length, get_or, eqb, ltb}
use Rattle.lists.specs.Lists.{pick}
use Rattle.columns.specs.Block.{cell}
use Rattle.links.specs.Links.{holds, LinksOf}
use Rattle.links.specs.Rooms.{LinkRoom, CornersApart}
use Rattle.links.specs.Linked.{PairsLinked}

-- the corners where corner c of cell i is w
unfoldable pub corner_moved : ℕ → ℕ → ℕ → (ℕ → ℕ → ℕ) → ℕ → ℕ → ℕ
corner_moved i c w corner d j = pick (eqb d c && eqb j i) w (corner d j)

-- the corners where cell i has none: P, which has no head, at each place
unfoldable pub corner_gone : ℕ → ℕ → (ℕ → ℕ → ℕ) → ℕ → ℕ → ℕ
corner_gone P i corner d j = pick (eqb j i) P (corner d j)

-- the corners where cell i is gone, and those behind it are up by one
unfoldable pub corner_dropped : ℕ → (ℕ → ℕ → ℕ) → ℕ → ℕ → ℕ
corner_dropped i corner d j = corner d (pick (ltb j i) j (suc j))

-- a number of the table, where those above `own` are less by one
unfoldable pub less_one : ℕ → ℕ → ℕ
less_one own y = pick (ltb own y) (y - 1) y

-- ---- a cell put into the chain of a particle, or taken out of it

-- place x is the head of v, which leads to the cells from 0 on
pub record HeadTo (P v x a : ℕ) : Type 0 where
  pub low : v < P
  pub at : x ≡ v
  pub first : a ≡ 0

-- place x is the link of a cell that has v in that column, and leads to the cells behind it
pub record LinkTo (P k R : ℕ) (corner : ℕ → ℕ → ℕ) (v x a : ℕ) : Type 0 where
  pub column : ℕ
  pub row : ℕ
  pub among : column < k
  pub here : row < R
  pub is : corner column row ≡ v
  pub at : x ≡ P + (column * R + row)
  pub behind : a ≡ suc row

-- place x of the table leads to the first cell from a on that holds v
abbrev pub LeadsTo : ℕ → ℕ → ℕ → (ℕ → ℕ → ℕ) → ℕ → ℕ → ℕ → Type 0
LeadsTo P k R corner v x a = HeadTo P v x a ⊎ LinkTo P k R corner v x a

-- r is the place before cell i in the chain of v: the cells that it passes over do not hold v
pub record SlotOf (P k R v i : ℕ) (corner : ℕ → ℕ → ℕ) (r : ℕ) : Type 0 where
  pub from : ℕ
  pub leads : LeadsTo P k R corner v r from
  pub below : from ≤ i
  pub none : (j : ℕ) → from ≤ j → j < i → holds k corner v j ≡ false

-- the table is that of some cells, of which the first i are those of the block
pub record SlotRoom (v i P k R S : ℕ) (corners table : List ℕ) : Type 0 where
  pub head : v < P
  pub cells : i ≤ R
  pub rows : i ≤ S
  pub columns : k * S ≤ length corners
  pub places : P + k * R ≤ length table
  pub count : ℕ
  pub corner : ℕ → ℕ → ℕ
  pub among : i ≤ count
  pub same : (c j : ℕ) → c < k → j < i → corner c j ≡ cell 0 S corners c j
  pub linked : LinksOf P k R count corner table

-- and it has a link for corner c of cell i
pub record ChainRoom (v i c P k R S : ℕ) (corners table : List ℕ) : Type 0 where
  pub slot : SlotRoom v i P k R S corners table
  pub here : i < R
  pub small : i < 65535
  pub column : c < k

-- the place before cell i has it, and the link of its corner c has what stood there
pub record CellPut (P k R v i c : ℕ) (corner : ℕ → ℕ → ℕ) (t t' : List ℕ) : Type 0 where
  pub slot : ℕ
  pub is : SlotOf P k R v i corner slot
  pub chained : get_or t' slot 0 ≡ suc i
  pub link : get_or t' (P + (c * R + i)) 0 ≡ get_or t slot 0
  pub others : (x : ℕ) → (x ≡ slot → ⊥) → (x ≡ P + (c * R + i) → ⊥) → get_or t' x 0 ≡ get_or t x 0

-- row n is new in the block: the table is that of the n cells before it
pub record AppendRoom (P k R S n : ℕ) (corners table : List ℕ) : Type 0 where
  pub room : LinkRoom P k R S (n + 1) (length corners) (length table)
  pub linked : LinksOf P k R n (cell 0 S corners) table
  pub apart : CornersApart P k (n + 1) (cell 0 S corners)

-- the place before cell i has what stood in the link of its corner c, and that link has none
pub record CellTaken (P k R v i c : ℕ) (corner : ℕ → ℕ → ℕ) (t t' : List ℕ) : Type 0 where
  pub slot : ℕ
  pub is : SlotOf P k R v i corner slot
  pub chained : get_or t' slot 0 ≡ get_or t (P + (c * R + i)) 0
  pub link : get_or t' (P + (c * R + i)) 0 ≡ 0
  pub others : (x : ℕ) → (x ≡ slot → ⊥) → (x ≡ P + (c * R + i) → ⊥) → get_or t' x 0 ≡ get_or t x 0

-- corner c of cell i is to become w, which is none of its corners
pub record MoveRoom (i c w P k R S n : ℕ) (corners table : List ℕ) : Type 0 where
  pub room : LinkRoom P k R S n (length corners) (length table)
  pub linked : LinksOf P k R n (cell 0 S corners) table
  pub apart : CornersApart P k n (cell 0 S corners)
  pub here : i < n
  pub column : c < k
  pub head : w < P
  pub fresh : (d : ℕ) → d < k → cell 0 S corners d i ≡ w → ⊥

-- ---- a cell that goes

-- the table is that of n cells, and cell i is one of them
pub record DropRoom (i P k R S n : ℕ) (corners table : List ℕ) : Type 0 where
  pub room : LinkRoom P k R S n (length corners) (length table)
  pub linked : LinksOf P k R n (cell 0 S corners) table
  pub apart : CornersApart P k n (cell 0 S corners)
  pub here : i < n

-- the table has lt places, and cell i is one of n
pub record RaiseRoom (i P k R n lt : ℕ) : Type 0 where
  pub here : i < n
  pub cells : n ≤ R
  pub table : P + k * R ≤ lt

-- the links of the cells behind i are up by one, and the other places are as they were
pub record LinksRaised (i P k R n : ℕ) (t t' : List ℕ) : Type 0 where
  pub heads : (v : ℕ) → v < P → get_or t' v 0 ≡ get_or t v 0
  pub raised : (c j : ℕ) → c < k → i ≤ j → suc j < n → get_or t' (P + (c * R + j)) 0 ≡ get_or t (P + (c * R + suc j)) 0
  pub others : (c j : ℕ) → c < k → j < R → (i ≤ j → suc j < n → ⊥) → get_or t' (P + (c * R + j)) 0 ≡ get_or t (P + (c * R + j)) 0

-- every number above own is less by one
pub record NumbersLowered (own : ℕ) (t t' : List ℕ) : Type 0 where
  pub at : (x : ℕ) → x < length t → get_or t' x 0 ≡ less_one own (get_or t x 0)

-- ---- a row of two different particles, as an edge or a boundary entry is, in a block of `width` columns

-- row i of n holds v, and is to have w for it, which it has not already
pub record TurnRoom (width i v w n : ℕ) (block table : List ℕ) : Type 0 where
  pub wide : 2 ≤ width
  pub linked : PairsLinked width n block table
  pub here : i < n
  pub holding : holds 2 (cell 0 (length block / width) block) v i ≡ true
  pub head : w < 1024
  pub fresh : (w ≡ v → ⊥) → (c : ℕ) → c < 2 → cell 0 (length block / width) block c i ≡ w → ⊥
