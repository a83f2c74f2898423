-- `reading_c::questions::ask_in` meets its contract: the blocks have room. Assumes nothing.
use Prim.Native.Nat.{ℕ}
use native.Mathlib.Omega.{arith}
use lib.ListN.{length-replicate}
use lib.Ieee.{of_bits, binary32}
use Rattle.reading_c.proofs.questions.ask_in.Goals as goal

pub ask_within-requires : goal.ask_within-requires
ask_within-requires g c = let P = c.requires in (P.0, P.1, rw (length-replicate g.row.P (of_bits binary32 0), length-replicate {A = ℕ} g.row.R 0, length-replicate {A = ℕ} g.row.C 0, length-replicate g.row.V (of_bits binary32 0), length-replicate {A = ℕ} g.row.E 0, length-replicate g.row.E (of_bits binary32 0), length-replicate {A = ℕ} g.row.B 0) P.2)

pub whole_as_slice-ask_within : goal.whole_as_slice-ask_within
whole_as_slice-ask_within g c = omega (arith, c.requires)

pub whole_as_slice-ask_within-2 : goal.whole_as_slice-ask_within-2
whole_as_slice-ask_within-2 g c = omega (arith, c.requires)

pub whole_as_slice-ask_within-3 : goal.whole_as_slice-ask_within-3
whole_as_slice-ask_within-3 g c = omega (arith, c.requires)

pub whole_as_slice-ask_within-4 : goal.whole_as_slice-ask_within-4
whole_as_slice-ask_within-4 g c = omega (arith, c.requires)

pub whole_as_slice-ask_within-5 : goal.whole_as_slice-ask_within-5
whole_as_slice-ask_within-5 g c = omega (arith, c.requires)

pub whole_as_slice-ask_within-6 : goal.whole_as_slice-ask_within-6
whole_as_slice-ask_within-6 g c = omega (arith, c.requires)

pub whole_as_slice-ask_within-7 : goal.whole_as_slice-ask_within-7
whole_as_slice-ask_within-7 g c = omega (arith, c.requires)
