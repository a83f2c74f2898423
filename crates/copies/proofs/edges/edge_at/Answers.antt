-- `copies::edges::edge_at` meets its contract: eight reads are a row. Assumes nothing.
use Rattle.copies.proofs.RowLaws.{row_read}
use borrow.Author.Rules.{rules}
use Rattle.copies.proofs.edges.edge_at.Goals as goal

pub returns : goal.returns
returns c = row_read c.args.ends.now c.args.lengths.now c.args.i
