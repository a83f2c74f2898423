-- `edge_drops::close` meets its contract: the listed edges go as `drop_listed` has them go (proofs/PartedLaws.antt). Assumes nothing.
use Rattle.edge_drops.proofs.PartedLaws.{listing_room, closed_all, closed_none}
use native.Mathlib.Omega.{arith}
use Rattle.edge_drops.proofs.close.Goals as goal

pub returns-then-s-eq0 : goal.returns-then-s-eq0
returns-then-s-eq0 c = let A = c.args in closed_none A.left A.ends.now A.lengths.now A.list.now A.table.now c.requires.1 c.if-s-eq0.true

pub drop_listed-requires : goal.drop_listed-requires
drop_listed-requires c = (listing_room c.requires.0, c.requires.1)

pub shape_of-ends : goal.shape_of-ends
shape_of-ends c = c.drop_listed.auto.ends

pub shape_of-lengths : goal.shape_of-lengths
shape_of-lengths c = c.drop_listed.auto.lengths

pub shape_of-table : goal.shape_of-table
shape_of-table c = c.drop_listed.auto.table

pub returns : goal.returns
returns c = let A = c.args in let D = c.drop_listed.ensures in closed_all A.left _ A.ends.now A.lengths.now _ _ A.list.now D.0 D.1 _ D.2
