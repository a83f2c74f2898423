-- `edge_drops::close_row` meets its contract: one row gone from the blocks (proofs/DropLaws.antt). Assumes nothing.
use lib.Ieee.{nan}
use Rattle.edge_drops.proofs.DropLaws.{gone_row}
use mathlib.Core.Path.{refl}
use borrow.Author.Rules.{rules}
use Rattle.edge_drops.proofs.close_row.Goals as goal

pub returns : goal.returns
returns c = gone_row c.requires _ c.shift_block.auto.s (c.shift_block.ensures 0) _ _ refl c.shift_block-2.auto.s (c.shift_block-2.ensures nan)
