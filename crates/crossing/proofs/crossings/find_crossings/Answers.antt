use native.Mathlib.Omega.{arith}
use Prim.Native.Nat.{◌-◌}
use Rattle.crossing.proofs.CrossingLaws.{Finding, finding_start, finding_step, finding_done}
use Rattle.crossing.proofs.crossings.find_crossings.Goals as goal

-- src/crossings.rt:51:5
pub loop-i-init : goal.loop-i-init
loop-i-init c = finding_start _ _ _ _ _ _ _

-- src/crossings.rt:52:13
pub hit_of-hit-requires : goal.hit_of-hit-requires
hit_of-hit-requires c = let P = c.requires in
    let t = c.loop-i-test.true in
    record { here = omega (arith, P.ends_in.rows); a_in = P.ends_in.first _ t; b_in = P.ends_in.second _ t }

-- src/crossings.rt:53:9
pub note_hit-m-requires : goal.note_hit-m-requires
note_hit-m-requires c = let P = c.requires in
    let L = c.loop-i.invariant in
    (omega (arith, P.numbers_long, c.loop-i.invariant.numbers_long, c.loop-i.invariant.few, c.loop-i-test.true), omega (arith, P.ts_long, c.loop-i.invariant.ts_long, c.loop-i.invariant.few, c.loop-i-test.true), omega (arith, P.few, c.loop-i-test.true))

-- src/crossings.rt:51:5
pub loop-i-preserved : goal.loop-i-preserved
loop-i-preserved c = finding_step _ _ _ _ _ _ _ _ _ _ _ c.loop-i.invariant _ _ _ _ c.loop-i-test.true c.hit_of-hit.ensures c.note_hit-m.ensures c.note_hit-m.auto.numbers c.note_hit-m.auto.ts

-- src/crossings.rt:37:1
pub shape_of-numbers : goal.shape_of-numbers
shape_of-numbers c = c.loop-i.invariant.numbers_long

-- src/crossings.rt:37:1
pub shape_of-ts : goal.shape_of-ts
shape_of-ts c = c.loop-i.invariant.ts_long

-- src/crossings.rt:37:1
pub returns : goal.returns
returns c = finding_done _ _ _ _ _ _ _ _ _ _ _ c.loop-i.invariant c.loop-i-test.false
