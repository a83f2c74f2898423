-- `link_changes::drop_cell` meets its contract: the cell is out of its chains, the links behind it are up, and the numbers above it less by one (proofs/Dropped.antt). Assumes nothing.
use Rattle.link_changes.proofs.Dropped.{drop_room, drop_done}
use native.Mathlib.Omega.{arith}
use borrow.Author.Rules.{rules}
use Rattle.link_changes.proofs.drop_cell.Goals as goal

-- `link_changes::drop_cell` meets its contract: the cell is out of its chains, the links behind it are up, and the numbers above it less by one (proofs/Dropped.antt). Assumes nothing.
pub take_cell-requires : goal.take_cell-requires
take_cell-requires c = c.requires

pub raise_links-requires : goal.raise_links-requires
raise_links-requires c = drop_room _ _ _ _ _ _ _ _ c.requires _ c.take_cell.auto.table

pub returns : goal.returns
returns c = drop_done _ _ _ _ _ _ _ _ c.requires _ _ _ c.take_cell.auto.table c.raise_links.auto.table c.take_cell.ensures c.raise_links.ensures c.lower.ensures
