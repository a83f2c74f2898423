-- `readings::grouping::opens_in` meets its contract: the tables have room for these elements. Assumes nothing.
use Prim.Native.Nat.{ℕ}
use lib.ListN.{length-replicate}
use native.Mathlib.Omega.{arith}
use Rattle.readings.proofs.grouping.opens_in.Goals as goal

pub whole_as_slice-fan_opens : goal.whole_as_slice-fan_opens
whole_as_slice-fan_opens g c = omega (arith, c.requires.1)

pub whole_as_slice-fan_opens-2 : goal.whole_as_slice-fan_opens-2
whole_as_slice-fan_opens-2 g c = omega (arith, c.requires.1)

pub whole_as_slice-fan_opens-3 : goal.whole_as_slice-fan_opens-3
whole_as_slice-fan_opens-3 g c = omega (arith, c.requires.1)

pub fan_opens-requires : goal.fan_opens-requires
fan_opens-requires g c = let P = c.requires in (P.0, rw (length-replicate {A = ℕ} g.row.N 0) P.2, rw (length-replicate {A = ℕ} g.row.N 0) P.3)
