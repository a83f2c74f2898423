-- `fan_reach::reach_linked` meets its contract. The invariant: the elements that share a particle at a place of a before p have been looked at. Assumes nothing.
use Rattle.fan_reach.proofs.Touching.{touching_at, corners_start, corners_other, corners_own, corners_end}
use Rattle.fan.proofs.Shared.{rows_end}
use lib.ListN.{length}
use mathlib.Core.Path.{sym, ◌∙◌}
use native.Mathlib.Omega.{arith}
use Rattle.fan_reach.proofs.reach_linked.Goals as goal
use Rattle.fan_reach.proofs.reach_linked.Goals.{else-x-v, then-x-v}

pub overflow_mul-first : goal.overflow_mul-first
overflow_mul-first c = let w = rows_end c.args.a c.args.a (length c.args.sides.now) c.args.k _ c.requires.verts_len.0 (c.requires.reached.within, c.requires.reached.within) in
    omega arith

pub overflow_add-p-end : goal.overflow_add-p-end
overflow_add-p-end c = let w = rows_end c.args.a c.args.a (length c.args.sides.now) c.args.k _ c.requires.verts_len.0 (c.requires.reached.within, c.requires.reached.within) in
    omega arith

pub loop-p-init : goal.loop-p-init
loop-p-init c = corners_start c.requires.reached

pub offset_bounds-verts-p : goal.offset_bounds-verts-p
offset_bounds-verts-p c = let w = rows_end c.args.a c.args.a (length c.args.sides.now) c.args.k _ c.requires.verts_len.0 (c.requires.reached.within, c.requires.reached.within) in
    omega arith

pub bounds-verts-p : goal.bounds-verts-p
bounds-verts-p c = let w = rows_end c.args.a c.args.a (length c.args.sides.now) c.args.k _ c.requires.verts_len.0 (c.requires.reached.within, c.requires.reached.within) in
    omega arith

pub reach_holders-requires : goal.reach_holders-requires
reach_holders-requires c = record { verts_len = (c.requires.verts_len.0, c.requires.verts_len.1); reached = c.loop-p.invariant.reached }

pub loop-p-preserved : goal.loop-p-preserved
loop-p-preserved c = let A = c.args in
    let L = c.loop-p in
    elim c.if-x-v.branch [
      | then-x-v w ↦ touching_at w.table-is (corners_other L.p L.invariant w.reach_holders.ensures)
      | else-x-v w ↦ touching_at w.table-is (corners_own L.p L.invariant w.if-x-v.false)
    ]

pub shape_of-table : goal.shape_of-table
shape_of-table c = c.loop-p.invariant.reached.spreading.long ∙ sym c.requires.reached.spreading.long

pub returns : goal.returns
returns c = corners_end c.requires.verts_len.2 (omega arith) c.loop-p.invariant
