use lib.Ieee.{of_bits}
use mathlib.Core.Bool.{true, false}
use Rattle.insert.proofs.ShareLaws.{share_taken}
use borrow.Author.Rules.{rules}
use Rattle.insert.proofs.shares.share_of.Goals as goal

-- src/shares.rt:63:9
pub returns-then-total : goal.returns-then-total
unfolding of_bits
returns-then-total c = let A = c.args in share_taken A.v A.len A.total A.points.now true c.if-total.true

-- src/shares.rt:57:1
pub returns : goal.returns
unfolding of_bits
returns c = let A = c.args in share_taken A.v A.len A.total A.points.now false c.if-total.false
