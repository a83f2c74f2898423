-- `copies::edges::copied` meets its contract: field by field. Assumes nothing.
use lib.Ieee.{of_bits}
use Rattle.float.specs.Numbers.{zero32}
use borrow.Author.Rules.{rules}
use Rattle.copies.proofs.edges.copied.Goals as goal

pub returns : goal.returns
unfolding of_bits
returns c = let r = c.args.row in
    λ i. record { a = c.swapped.ensures i; b = c.swapped-2.ensures i; structural = c.args.row.structural; torn = c.args.row.torn; rest = c.args.row.rest; initial = c.args.row.initial; impulse = zero32; stress = c.args.row.stress }
