-- `float::root::floor_root` meets its contract. The invariant: the root lies from r up to, and not at, r + b. The measure is b.
-- Assumes nothing.
use mathlib.Core.Path.{◌≡◌}
use Prim.Native.Nat.{◌+◌, ◌/◌}
use native.Mathlib.Omega.{arith}
use Rattle.float.proofs.Squares.{root_lt, sq_fits, covers}
use Rattle.float.proofs.root.floor_root.Goals as goal

pub overflow_mul-t : goal.overflow_mul-t
overflow_mul-t c =
    let r = c.loop-b.r in
    let b = (c.loop-b.b + 1) / 2 in
    record { fits = sq_fits (r + b) (omega (arith, root_lt c.args.n r c.requires c.loop-b.invariant.0)) }

pub loop-b-preserved-then-t-n : goal.loop-b-preserved-then-t-n
loop-b-preserved-then-t-n c =
    let b = (c.loop-b.b + 1) / 2 in
    (c.if-t-n.true, covers c.args.n c.loop-b.r c.loop-b.b b c.loop-b.invariant.1 (omega arith), omega arith, omega arith)

pub loop-b-preserved : goal.loop-b-preserved
loop-b-preserved c =
    (c.loop-b.invariant.0, c.if-t-n.false, omega arith, omega arith)

pub returns : goal.returns
returns c =
    let one : c.loop-b.b ≡ 1 = omega arith in
    (c.loop-b.invariant.0, rw one at c.loop-b.invariant.1)
