-- `copies::edges::move_ends` meets its contract: a row is turned in its first two columns. Assumes nothing.
use Rattle.copies.proofs.RowLaws.{ends_moved}
use native.Mathlib.Omega.{arith}
use borrow.Author.Rules.{rules}
use Rattle.copies.proofs.edges.move_ends.Goals as goal

-- `copies::edges::move_ends` meets its contract: a row is turned in its first two columns. Assumes nothing.
pub turn_row-requires : goal.turn_row-requires
turn_row-requires c = record { here = c.requires; columns = omega arith }

pub returns : goal.returns
returns c = ends_moved _ _ _ _ _ c.requires (search rules) c.turn_row.ensures
