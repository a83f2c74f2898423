-- `tear::ways::offsets` meets its contract: the loop over the row is `Adding` of proofs/WayLaws.antt. Assumes nothing.
use Prim.Native.Nat.{◌-◌}
use lib.ListN.{length}
use lib.Ieee.{of_bits}
use Rattle.tear.proofs.WayLaws.{Adding, adding_start, adding_more, adding_done}
use borrow.Author.Rules.{rules}
use Rattle.tear.proofs.ways.offsets.Goals as goal

pub loop-i-init : goal.loop-i-init
unfolding of_bits
loop-i-init c = adding_start _ _ _

pub rest_point-requires : goal.rest_point-requires
rest_point-requires c = c.requires.in_block c.loop-i.i c.loop-i-test.true

pub loop-i-preserved : goal.loop-i-preserved
loop-i-preserved c = adding_more _ _ _ _ _ c.loop-i.invariant c.loop-i-test.true _ _ _ c.rest_point.ensures c.sub.ensures c.add-s.ensures

pub returns : goal.returns
returns c = adding_done _ _ _ _ _ c.loop-i.invariant (search rules)
