use native.Mathlib.Omega.{arith}
use lib.Ieee.{of_bits}
use Rattle.insert.proofs.PlanLaws.{plan_is, row_a, row_b, totals_room}
use Rattle.insert.proofs.ShareLaws.{share_is}
use borrow.Author.Rules.{rules}
use Rattle.insert.proofs.plan.plan_at.Goals as goal

-- src/plan.rt:69:9
pub edge_at-row-requires : goal.edge_at-row-requires
edge_at-row-requires c = let P = c.requires.0 in
    record { ends = omega (arith, c.requires.0.here, c.requires.0.room.ends); lengths = omega (arith, c.requires.0.here, c.requires.0.room.lengths) }

-- src/plan.rt:70:9
pub strap_totals-totals-requires : goal.strap_totals-totals-requires
strap_totals-totals-requires c = let A = c.args in totals_room A.f _ A.t _ _ A.points.now A.ends.now A.lengths.now c.requires.0 _ c.edge_at-row.ensures c.requires.1

-- src/plan.rt:71:9
pub share_of-first-requires : goal.share_of-first-requires
share_of-first-requires c = let P = c.requires.0 in let A = c.args in
    omega (arith, c.requires.0.points, row_a A.f _ A.t _ _ A.points.now A.ends.now A.lengths.now P _ c.edge_at-row.ensures)

-- src/plan.rt:72:9
pub share_of-second-requires : goal.share_of-second-requires
share_of-second-requires c = let P = c.requires.0 in let A = c.args in
    omega (arith, c.requires.0.points, row_b A.f _ A.t _ _ A.points.now A.ends.now A.lengths.now P _ c.edge_at-row.ensures)

-- src/plan.rt:56:1
pub returns : goal.returns
unfolding of_bits
returns c = let T = c.strap_totals-totals.ensures in
    plan_is _ _ _ _ _ _ _ _ c.requires.0 _ c.edge_at-row.ensures _ _ _ c.clamp_to.ensures (share_is _ _ _ _ _ _ _ _ T.0 c.share_of-first.ensures) (share_is _ _ _ _ _ _ _ _ T.1 c.share_of-second.ensures)
