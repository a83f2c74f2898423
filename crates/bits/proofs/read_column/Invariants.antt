-- `bits::read_column` meets its contract. Assumes nothing.
use Prim.Native.Nat.{◌-◌, ◌+◌, ◌*◌, ◌^◌, ◌<◌, ◌≤◌}
use mathlib.Core.Path.{◌≡◌}
use mathlib.Core.List.{◌++◌}
use lib.ListN.{length, take, drop}
use Rattle.bits.specs.Bits.{bits_of}
use Rattle.bits.specs.Rows.{column_at}
use Rattle.bits.proofs.read_column.Given as goal

-- `bits::read_column` meets its contract. Assumes nothing.
abbrev pub invariant-loop-i : goal.invariant-loop-i
invariant-loop-i l =
    (l.i ≤ l.n) × (length l.out ≡ length l.initial.out) × (l.pos + (l.n - l.i) * l.step ≤ 8 * length l.s) × (l.pos + (l.n - l.i) * l.step < 2 ^ 32)
    × (drop l.i l.out ≡ drop l.i l.initial.out)
    × (take l.i l.out ++ column_at (bits_of l.s) l.pos l.step l.w (l.n - l.i) ≡ column_at (bits_of l.s) l.at l.step l.w l.n)
