-- `sheet::rows_ok` meets its contract. Assumes nothing.
use Prim.Native.Nat.{◌-◌, ◌+◌, ◌*◌}
use mathlib.Core.Path.{◌≡◌}
use Rattle.bits.specs.Bits.{bits_of}
use Rattle.sheet.specs.Work.{ok_at_of}
use Rattle.sheet.proofs.rows_ok.Given as goal

abbrev pub invariant-loop-i : goal.invariant-loop-i
invariant-loop-i l = ok_at_of l.three l.p (bits_of l.s) (l.at + l.i * l.step) l.step (l.n - l.i) ≡ ok_at_of l.three l.p (bits_of l.s) l.at l.step l.n
