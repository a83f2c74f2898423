-- `crossing::crossed::cross` meets its contract: the crossing is inserted behind its marks, or its near end is marked. Assumes nothing.
use native.Mathlib.Omega.{arith}
use Rattle.crossing.proofs.CrossedLaws.{plan_room, insertable_room, bends_room, step_room, plan_linked, near_few, near_room, cross_inserts, cross_snaps}
use mathlib.Core.Path.{◌∙◌}
use borrow.Author.Rules.{rules}
use Rattle.crossing.proofs.crossed.cross.Goals as goal

-- `crossing::crossed::cross` meets its contract: the crossing is inserted behind its marks, or its near end is marked. Assumes nothing.
pub plan_at-plan-requires : goal.plan_at-plan-requires
plan_at-plan-requires c = (plan_room _ _ _ _ _ _ _ _ _ _ c.requires.0 _ c.requires.1, c.requires.2)

pub insertable-requires : goal.insertable-requires
insertable-requires c = insertable_room _ _ _ _ _ _ _ _ _ _ c.requires.0 c.plan_at-plan.result c.plan_at-plan.ensures.a_in c.plan_at-plan.ensures.b_in

pub mark_bends-requires : goal.mark_bends-requires
mark_bends-requires c = (bends_room _ _ _ _ _ _ _ _ _ _ c.requires.0 c.plan_at-plan.result c.plan_at-plan.ensures.a_in c.plan_at-plan.ensures.b_in, c.requires.2)

pub insert-requires : goal.insert-requires
insert-requires c = (step_room _ _ _ _ _ _ _ _ _ _ c.requires.0 c.plan_at-plan.result c.plan_at-plan.ensures.a_in c.plan_at-plan.ensures.b_in c.plan_at-plan.ensures.before_is (omega (arith, c.plan_at-plan.ensures.number_is, c.requires.1)), plan_linked _ _ _ _ _ _ _ _ _ c.plan_at-plan.result c.requires.1 c.plan_at-plan.ensures c.requires.2)

pub shape_of-points-then-insertable : goal.shape_of-points-then-insertable
shape_of-points-then-insertable c = c.insert.auto.points

pub shape_of-roots-then-insertable : goal.shape_of-roots-then-insertable
shape_of-roots-then-insertable c = c.insert.auto.roots

pub shape_of-ends-then-insertable : goal.shape_of-ends-then-insertable
shape_of-ends-then-insertable c = c.insert.auto.ends

pub shape_of-lengths-then-insertable : goal.shape_of-lengths-then-insertable
shape_of-lengths-then-insertable c = c.insert.auto.lengths

pub shape_of-outline-then-insertable : goal.shape_of-outline-then-insertable
shape_of-outline-then-insertable c = c.insert.auto.outline

pub shape_of-log-then-insertable : goal.shape_of-log-then-insertable
shape_of-log-then-insertable c = c.insert.auto.log

pub shape_of-bends-then-insertable : goal.shape_of-bends-then-insertable
shape_of-bends-then-insertable c = c.mark_bends.auto.marks

pub shape_of-table-then-insertable : goal.shape_of-table-then-insertable
shape_of-table-then-insertable c = c.insert.auto.table

pub returns-then-insertable : goal.returns-then-insertable
returns-then-insertable c = (cross_inserts _ _ _ _ _ _ _ _ _ _ _ _ _ c.plan_at-plan.result c.insertable.result c.plan_at-plan.ensures c.insertable.ensures _ _ _ _ _ _ _ _ c.if-insertable.true c.mark_bends.ensures c.insert.ensures.0, c.insert.ensures.1)

pub bounds-snapped-near : goal.bounds-snapped-near
bounds-snapped-near c = near_room _ _ _ _ _ _ _ _ _ _ c.requires.0 c.plan_at-plan.result c.plan_at-plan.ensures.a_in c.plan_at-plan.ensures.b_in c.args.t _ c.near_end-near.ensures

pub returns : goal.returns
returns c = (cross_snaps _ _ _ _ _ _ _ _ _ _ _ _ _ c.plan_at-plan.result c.insertable.result c.plan_at-plan.ensures c.insertable.ensures c.if-insertable.false _ c.near_end-near.ensures (near_room _ _ _ _ _ _ _ _ _ _ c.requires.0 c.plan_at-plan.result c.plan_at-plan.ensures.a_in c.plan_at-plan.ensures.b_in c.args.t _ c.near_end-near.ensures) c.requires.0.ready.counts, c.requires.2)
