-- `edition::read::read` meets its contract. What is accepted is read, and what is refused leaves 0. Assumes nothing.
use Prim.Native.Nat.{◌≤◌}
use native.Mathlib.Omega.{arith}
use mathlib.Core.Path.{sym, ◌∙◌}
use mathlib.Core.List.{[]}
use lib.ListN.{length}
use Rattle.mesh.specs.Filled.{lent}
use Rattle.edition.specs.Reading.{world_of, blade_left}
use Rattle.edition.proofs.Entering.{held, lent_room, lent_refused, room_log}
use Rattle.edition.proofs.Meshes.{outlined_sides}
use Rattle.edition.proofs.read.read.Goals as goal

pub look_into-seen-requires : goal.look_into-seen-requires
look_into-seen-requires c = let h : 6144 ≤ 6144 = omega arith in h

pub accept-requires : goal.accept-requires
accept-requires c =
    let a = c.args in
    let k = c.look_into-seen in
    held a.limits a.s.now _ (lent a.points.now a.roots.now a.corners.now a.volumes.now a.ends.now a.lengths.now a.outline.now []) (length a.blade.now) _ _ _ _ (sym k.ensures.answer ∙ c.in-Ok.is) (sym c.room-lent.ensures ∙ c.in-Ok-lent.is) (omega (arith, k.auto.block))
    (outlined_sides _ a.s.now _ _ _ c.in-Ok.is k.ensures.outlined)

pub shape_of-points-in-Ok-lent : goal.shape_of-points-in-Ok-lent
shape_of-points-in-Ok-lent c = c.accept.auto.points

pub shape_of-roots-in-Ok-lent : goal.shape_of-roots-in-Ok-lent
shape_of-roots-in-Ok-lent c = c.accept.auto.roots

pub shape_of-corners-in-Ok-lent : goal.shape_of-corners-in-Ok-lent
shape_of-corners-in-Ok-lent c = c.accept.auto.corners

pub shape_of-volumes-in-Ok-lent : goal.shape_of-volumes-in-Ok-lent
shape_of-volumes-in-Ok-lent c = c.accept.auto.volumes

pub shape_of-ends-in-Ok-lent : goal.shape_of-ends-in-Ok-lent
shape_of-ends-in-Ok-lent c = c.accept.auto.ends

pub shape_of-lengths-in-Ok-lent : goal.shape_of-lengths-in-Ok-lent
shape_of-lengths-in-Ok-lent c = c.accept.auto.lengths

pub shape_of-outline-in-Ok-lent : goal.shape_of-outline-in-Ok-lent
shape_of-outline-in-Ok-lent c = c.accept.auto.outline

pub shape_of-log-in-Ok-lent : goal.shape_of-log-in-Ok-lent
shape_of-log-in-Ok-lent c = c.accept.auto.log

pub shape_of-blade-in-Ok-lent : goal.shape_of-blade-in-Ok-lent
shape_of-blade-in-Ok-lent c = c.accept.auto.blade

pub returns-in-Ok-lent : goal.returns-in-Ok-lent
unfolding world_of blade_left
returns-in-Ok-lent c =
    let a = c.args in
    record {
      answer = lent_room a.limits a.s.now (lent a.points.now a.roots.now a.corners.now a.volumes.now a.ends.now a.lengths.now a.outline.now a.log.now) (length a.blade.now) _ _ _ (sym c.look_into-seen.ensures.answer ∙ c.in-Ok.is) (sym c.in-Ok-lent.is ∙ (c.room-lent.ensures ∙ room_log _ _ (lent a.points.now a.roots.now a.corners.now a.volumes.now a.ends.now a.lengths.now a.outline.now a.log.now) (length a.blade.now)));
      blocks = c.accept.ensures.0;
      blade = c.accept.ensures.1;
    }

pub shape_of-points-in-Err-lent : goal.shape_of-points-in-Err-lent
shape_of-points-in-Err-lent c = c.refuse.auto.points

pub shape_of-roots-in-Err-lent : goal.shape_of-roots-in-Err-lent
shape_of-roots-in-Err-lent c = c.refuse.auto.roots

pub shape_of-corners-in-Err-lent : goal.shape_of-corners-in-Err-lent
shape_of-corners-in-Err-lent c = c.refuse.auto.corners

pub shape_of-volumes-in-Err-lent : goal.shape_of-volumes-in-Err-lent
shape_of-volumes-in-Err-lent c = c.refuse.auto.volumes

pub shape_of-ends-in-Err-lent : goal.shape_of-ends-in-Err-lent
shape_of-ends-in-Err-lent c = c.refuse.auto.ends

pub shape_of-lengths-in-Err-lent : goal.shape_of-lengths-in-Err-lent
shape_of-lengths-in-Err-lent c = c.refuse.auto.lengths

pub shape_of-outline-in-Err-lent : goal.shape_of-outline-in-Err-lent
shape_of-outline-in-Err-lent c = c.refuse.auto.outline

pub shape_of-log-in-Err-lent : goal.shape_of-log-in-Err-lent
shape_of-log-in-Err-lent c = c.refuse.auto.log

pub shape_of-blade-in-Err-lent : goal.shape_of-blade-in-Err-lent
shape_of-blade-in-Err-lent c = c.refuse.auto.blade

pub returns-in-Err-lent : goal.returns-in-Err-lent
unfolding world_of blade_left
returns-in-Err-lent c =
    let a = c.args in
    record {
      answer = lent_room a.limits a.s.now (lent a.points.now a.roots.now a.corners.now a.volumes.now a.ends.now a.lengths.now a.outline.now a.log.now) (length a.blade.now) _ _ _ (sym c.look_into-seen.ensures.answer ∙ c.in-Ok.is) (sym c.in-Err-lent.is ∙ (c.room-lent.ensures ∙ room_log _ _ (lent a.points.now a.roots.now a.corners.now a.volumes.now a.ends.now a.lengths.now a.outline.now a.log.now) (length a.blade.now)));
      blocks = c.refuse.ensures.0;
      blade = c.refuse.ensures.1;
    }

pub shape_of-points-in-Err : goal.shape_of-points-in-Err
shape_of-points-in-Err c = c.refuse-in-Err.auto.points

pub shape_of-roots-in-Err : goal.shape_of-roots-in-Err
shape_of-roots-in-Err c = c.refuse-in-Err.auto.roots

pub shape_of-corners-in-Err : goal.shape_of-corners-in-Err
shape_of-corners-in-Err c = c.refuse-in-Err.auto.corners

pub shape_of-volumes-in-Err : goal.shape_of-volumes-in-Err
shape_of-volumes-in-Err c = c.refuse-in-Err.auto.volumes

pub shape_of-ends-in-Err : goal.shape_of-ends-in-Err
shape_of-ends-in-Err c = c.refuse-in-Err.auto.ends

pub shape_of-lengths-in-Err : goal.shape_of-lengths-in-Err
shape_of-lengths-in-Err c = c.refuse-in-Err.auto.lengths

pub shape_of-outline-in-Err : goal.shape_of-outline-in-Err
shape_of-outline-in-Err c = c.refuse-in-Err.auto.outline

pub shape_of-log-in-Err : goal.shape_of-log-in-Err
shape_of-log-in-Err c = c.refuse-in-Err.auto.log

pub shape_of-blade-in-Err : goal.shape_of-blade-in-Err
shape_of-blade-in-Err c = c.refuse-in-Err.auto.blade

pub returns-in-Err : goal.returns-in-Err
unfolding world_of blade_left
returns-in-Err c =
    let a = c.args in
    record {
      answer = lent_refused a.limits a.s.now (lent a.points.now a.roots.now a.corners.now a.volumes.now a.ends.now a.lengths.now a.outline.now a.log.now) (length a.blade.now) _ (sym c.look_into-seen.ensures.answer ∙ c.in-Err.is);
      blocks = c.refuse-in-Err.ensures.0;
      blade = c.refuse-in-Err.ensures.1;
    }
