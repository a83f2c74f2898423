-- `mender::fates::mark_list` meets its contract. Assumes nothing.
use Rattle.mender.specs.Work.{codes_at}
use Rattle.bits.specs.Bits.{bits_of}
use lib.ListN.{length, take}
use mathlib.Core.List.{◌++◌}
use mathlib.Core.Path.{◌≡◌}
use Prim.Native.Nat.{◌+◌, ◌-◌, ◌*◌, ◌^◌, ◌<◌, ◌≤◌}
use Rattle.mender.proofs.fates.mark_list.Given as goal

-- `mender::fates::mark_list` meets its contract. Assumes nothing.
abbrev pub invariant-loop-i : goal.invariant-loop-i
invariant-loop-i l = (l.i ≤ l.n) × (length l.mask ≡ l.n) × (l.pos + 44 + (l.n - l.i) * l.step ≤ 8 * length l.s) × (l.pos + 44 + (l.n - l.i) * l.step < 2 ^ 32)
    × (take l.i l.mask ++ codes_at l.three l.p (bits_of l.s) l.pos l.step (l.n - l.i) ≡ codes_at l.three l.p (bits_of l.s) l.at l.step l.n)

abbrev pub decreases-loop-i : goal.decreases-loop-i
decreases-loop-i l = l.n - l.i
