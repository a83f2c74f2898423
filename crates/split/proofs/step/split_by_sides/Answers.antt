-- `split::step::split_by_sides` meets its contract: each kind is split by tables of its own, and one of neither has no fan. Assumes nothing.
use mathlib.Core.Path.{ap}
use native.Mathlib.Omega.{arith}
use lib.ListN.{length-set}
use Rattle.elements.specs.Table.{kind_is}
use Rattle.split.proofs.TabledLaws.{parts_none, nothing_works, sides_as, given_as}
use borrow.Author.Rules.{rules}
use Rattle.split.proofs.step.split_by_sides.Goals as goal

pub split_fan-requires : goal.split_fan-requires
split_fan-requires c = let P = c.requires in (P.0, given_as (kind_is c.args.kind) (ap kind_is c.in-Triangles.is) P.1, P.2)

pub split_fan-requires-in-Straps : goal.split_fan-requires-in-Straps
split_fan-requires-in-Straps c = let P = c.requires in (P.0, given_as (kind_is c.args.kind) (ap kind_is c.in-Straps.is) P.1, P.2)

pub shape_of-points-in-Triangles : goal.shape_of-points-in-Triangles
shape_of-points-in-Triangles c = c.split_fan.auto.points

pub shape_of-roots-in-Triangles : goal.shape_of-roots-in-Triangles
shape_of-roots-in-Triangles c = c.split_fan.auto.roots

pub shape_of-corners-in-Triangles : goal.shape_of-corners-in-Triangles
shape_of-corners-in-Triangles c = c.split_fan.auto.corners

pub shape_of-ends-in-Triangles : goal.shape_of-ends-in-Triangles
shape_of-ends-in-Triangles c = c.split_fan.auto.ends

pub shape_of-lengths-in-Triangles : goal.shape_of-lengths-in-Triangles
shape_of-lengths-in-Triangles c = c.split_fan.auto.lengths

pub shape_of-outline-in-Triangles : goal.shape_of-outline-in-Triangles
shape_of-outline-in-Triangles c = c.split_fan.auto.outline

pub shape_of-log-in-Triangles : goal.shape_of-log-in-Triangles
shape_of-log-in-Triangles c = c.split_fan.auto.log

pub shape_of-list-in-Triangles : goal.shape_of-list-in-Triangles
shape_of-list-in-Triangles c = c.split_fan.auto.list

pub returns-in-Triangles : goal.returns-in-Triangles
returns-in-Triangles c = let A = c.args in (sides_as (kind_is A.kind) (ap kind_is c.in-Triangles.is) A.v A.sides.now c.split_fan.ensures.0, c.split_fan.ensures.1)

pub shape_of-points-in-Straps : goal.shape_of-points-in-Straps
shape_of-points-in-Straps c = c.split_fan-in-Straps.auto.points

pub shape_of-roots-in-Straps : goal.shape_of-roots-in-Straps
shape_of-roots-in-Straps c = c.split_fan-in-Straps.auto.roots

pub shape_of-corners-in-Straps : goal.shape_of-corners-in-Straps
shape_of-corners-in-Straps c = c.split_fan-in-Straps.auto.corners

pub shape_of-ends-in-Straps : goal.shape_of-ends-in-Straps
shape_of-ends-in-Straps c = c.split_fan-in-Straps.auto.ends

pub shape_of-lengths-in-Straps : goal.shape_of-lengths-in-Straps
shape_of-lengths-in-Straps c = c.split_fan-in-Straps.auto.lengths

pub shape_of-outline-in-Straps : goal.shape_of-outline-in-Straps
shape_of-outline-in-Straps c = c.split_fan-in-Straps.auto.outline

pub shape_of-log-in-Straps : goal.shape_of-log-in-Straps
shape_of-log-in-Straps c = c.split_fan-in-Straps.auto.log

pub shape_of-list-in-Straps : goal.shape_of-list-in-Straps
shape_of-list-in-Straps c = c.split_fan-in-Straps.auto.list

pub returns-in-Straps : goal.returns-in-Straps
returns-in-Straps c = let A = c.args in (sides_as (kind_is A.kind) (ap kind_is c.in-Straps.is) A.v A.sides.now c.split_fan-in-Straps.ensures.0, c.split_fan-in-Straps.ensures.1)

pub shape_of-list-in-Nothing : goal.shape_of-list-in-Nothing
shape_of-list-in-Nothing c = length-set c.args.list.now 2048 0

pub returns-in-Nothing : goal.returns-in-Nothing
returns-in-Nothing c = let A = c.args in parts_none A.room A.k A.points.now A.roots.now A.corners.now A.volumes.now A.ends.now A.lengths.now A.outline.now A.log.now c.requires.0 _ A.list.now c.requires.2 (nothing_works A.room A.k A.points.now A.roots.now A.corners.now A.volumes.now A.ends.now A.lengths.now A.outline.now A.log.now c.requires.0 (kind_is A.kind) (ap kind_is c.in-Nothing.is) A.v A.sides.now c.requires.1)
