-- `boundary::entries::side_group` meets its contract: by the first holder, and else by the end that is not v. Assumes nothing.
use Rattle.boundary.proofs.BoundaryLaws.{side_here, side_second, side_first}
use native.Mathlib.Omega.{arith}
use borrow.Author.Rules.{rules}
use Rattle.boundary.proofs.entries.side_group.Goals as goal

-- `boundary::entries::side_group` meets its contract: by the first holder, and else by the end that is not v. Assumes nothing.
pub first_holder-i-requires : goal.first_holder-i-requires
first_holder-i-requires c = let R = c.requires.room in record { few = c.requires.room.few; corners = c.requires.room.corners; verts = c.requires.room.verts; groups = omega arith }

pub returns-then-i-n : goal.returns-then-i-n
returns-then-i-n c = side_here c.first_holder-i.ensures c.if-i-n.true

pub group_toward-requires : goal.group_toward-requires
group_toward-requires c = let P = c.requires in record { room = P.room; x_in = P.reach.y_in; v_in = P.reach.v_in; corners_in = P.reach.corners_in }

pub returns-then-x-v : goal.returns-then-x-v
returns-then-x-v c = side_second c.first_holder-i.ensures (omega (arith, c.if-i-n.false)) c.requires c.if-x-v.true c.group_toward.ensures

pub group_toward-requires-2 : goal.group_toward-requires-2
group_toward-requires-2 c = let P = c.requires in record { room = P.room; x_in = P.reach.x_in; v_in = P.reach.v_in; corners_in = P.reach.corners_in }

pub returns : goal.returns
returns c = side_first c.first_holder-i.ensures (omega (arith, c.if-i-n.false)) c.requires c.if-x-v.false c.group_toward-2.ensures
