use Rattle.straddling.specs.Listing.{WalkTold}
use mathlib.Core.Path.{subst, ◌∙◌}
use borrow.Author.Rules.{rules}
use Prim.Native.Nat.{◌-◌}
use native.Mathlib.Omega.{arith}
use lib.ListN.{length-replicate}
use Prim.Native.Nat.{ℕ}
use Rattle.elements.specs.Table.{kind_is}
use Rattle.straddling.proofs.StraddlerLaws.{corners_fit, near_room}
use Rattle.straddling.proofs.ListLaws.{none_walked, Rounding, rounding_start, rounding_room, rounding_passed, rounding_more, rounding_done}
use Rattle.straddling.proofs.list_straddlers.Goals as goal

pub overflow_mul-m : goal.overflow_mul-m
overflow_mul-m c = omega (arith, corners_fit (kind_is c.args.kind) c.args.n c.corners_per.ensures c.requires.0.ring)

pub mark_corners-requires : goal.mark_corners-requires
mark_corners-requires c = corners_fit (kind_is c.args.kind) c.args.n c.corners_per.ensures c.requires.0.ring

pub loop-q-init : goal.loop-q-init
loop-q-init c = rounding_start _ _ _ _ _ _ _ _ _ _ _ _ _ none_walked (length-replicate {A = ℕ} 1024 0)

pub offset_bounds-verts-q : goal.offset_bounds-verts-q
offset_bounds-verts-q c = let f = corners_fit (kind_is c.args.kind) c.args.n c.corners_per.ensures c.requires.0.ring in omega (arith, f, c.loop-q-test.true)

pub bounds-verts-q : goal.bounds-verts-q
bounds-verts-q c = let f = corners_fit (kind_is c.args.kind) c.args.n c.corners_per.ensures c.requires.0.ring in omega (arith, f, c.loop-q-test.true)

pub loop-q-preserved-then-is_walked : goal.loop-q-preserved-then-is_walked
loop-q-preserved-then-is_walked c = rounding_passed _ _ _ _ _ _ _ _ _ _ _ _ _ _ _ _ c.loop-q.invariant c.requires.2 _ (subst (WalkTold _ _ _) c.if-is_walked.true c.is_walked.ensures)

pub offset_bounds-verts-q-in-loop-q : goal.offset_bounds-verts-q-in-loop-q
offset_bounds-verts-q-in-loop-q c = let f = corners_fit (kind_is c.args.kind) c.args.n c.corners_per.ensures c.requires.0.ring in omega (arith, f, c.loop-q-test.true)

pub bounds-verts-q-in-loop-q : goal.bounds-verts-q-in-loop-q
bounds-verts-q-in-loop-q c = let f = corners_fit (kind_is c.args.kind) c.args.n c.corners_per.ensures c.requires.0.ring in omega (arith, f, c.loop-q-test.true)

pub list_edges_at-listed-requires : goal.list_edges_at-listed-requires
list_edges_at-listed-requires c = let P = c.requires in (rounding_room _ _ _ _ _ _ _ _ _ _ _ _ _ _ _ _ c.loop-q.invariant P.0 (near_room (kind_is c.args.kind) c.args.n c.corners_per.ensures c.mark_corners.ensures P.2 (omega (arith, c.mark_corners.auto.near))) P.3 P.1, P.4)

pub loop-q-preserved : goal.loop-q-preserved
loop-q-preserved c = rounding_more _ _ _ _ _ _ _ _ _ _ _ _ _ _ _ _ c.loop-q.invariant _ (subst (WalkTold _ _ _) c.if-is_walked.false c.is_walked.ensures) c.is_walked.auto.walked _ _ c.list_edges_at-listed.ensures c.list_edges_at-listed.auto.list

pub shape_of-list : goal.shape_of-list
shape_of-list c = c.loop-q.invariant.long

pub returns : goal.returns
returns c = rounding_done _ _ _ _ _ _ _ _ _ _ _ _ _ _ _ _ c.loop-q.invariant c.requires.0.ring c.corners_per.ensures c.loop-q-test.false c.requires.1
