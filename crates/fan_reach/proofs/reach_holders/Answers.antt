-- `fan_reach::reach_holders` meets its contract. The invariant: the elements that hold x before place p have been looked at. Assumes nothing.
use Rattle.fan_reach.proofs.Touching.{walking_start, walking_hit, walking_pass, walking_up, walking_at, walking_end}
use Rattle.fan_reach.proofs.Corners.{place_in}
use lib.ListN.{length}
use Prim.Native.Nat.{◌<◌}
use mathlib.Core.Path.{sym, ◌∙◌}
use native.Mathlib.Omega.{arith}
use borrow.Author.Rules.{rules}
use Rattle.fan_reach.proofs.reach_holders.Goals as goal
use Rattle.fan_reach.proofs.reach_holders.Goals.{else-verts-p, then-verts-p}

pub loop-p-init : goal.loop-p-init
loop-p-init c = walking_start c.requires.verts_len.1 c.args.x c.from-p.result c.requires.reached c.from-p.ensures

pub reach_one-requires : goal.reach_one-requires
reach_one-requires c = let A = c.args in
    record { verts_len = (c.requires.verts_len.0, place_in (length A.sides.now) A.k c.loop-p.p (length A.verts.now) c.requires.verts_len.0 (search rules)); reached = c.loop-p.invariant.touching.reached }

pub loop-p-smaller : goal.loop-p-smaller
loop-p-smaller c = let A = c.args in
    let l : c.loop-p.p < length A.verts.now = search rules in
    let u = walking_up c.requires.verts_len.1 A.x c.loop-p.invariant l c.from-p-in-loop-p.result c.from-p-in-loop-p.ensures in
    omega arith

pub loop-p-preserved : goal.loop-p-preserved
loop-p-preserved c = let A = c.args in
    let L = c.loop-p in
    let l : L.p < length A.verts.now = search rules in
    elim c.if-verts-p.branch [
      | then-verts-p w ↦ walking_at w.table-is (walking_hit c.requires.verts_len.1 A.x L.invariant l c.from-p-in-loop-p.result c.from-p-in-loop-p.ensures w.reach_one.ensures)
      | else-verts-p w ↦ walking_at w.table-is (walking_pass c.requires.verts_len.1 A.x L.invariant l c.from-p-in-loop-p.result c.from-p-in-loop-p.ensures w.if-verts-p.false)
    ]

pub shape_of-table : goal.shape_of-table
shape_of-table c = c.loop-p.invariant.touching.reached.spreading.long ∙ sym c.requires.reached.spreading.long

pub returns : goal.returns
returns c = walking_end c.loop-p.invariant (search rules)
