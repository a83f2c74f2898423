-- `reading_c::tabled::sum_in` meets its contract: the tables have room. Assumes nothing.
use Prim.Native.Nat.{ℕ}
use lib.ListN.{length-replicate}
use lib.Ieee.{of_bits, binary32}
use Rattle.reading_c.proofs.tabled.sum_in.Goals as goal

pub sum_by-requires : goal.sum_by-requires
sum_by-requires g c = rw (length-replicate {A = ℕ} g.row.N 0, length-replicate {A = ℕ} g.row.C 0, length-replicate g.row.N (of_bits binary32 0)) c.requires.0
