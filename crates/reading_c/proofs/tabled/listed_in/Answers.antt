-- `reading_c::tabled::listed_in` meets its contract: the tables have room. Assumes nothing.
use Prim.Native.Nat.{ℕ}
use lib.ListN.{length-replicate}
use lib.Ieee.{of_bits, binary32}
use Rattle.reading_c.proofs.tabled.listed_in.Goals as goal

pub listed_by-requires : goal.listed_by-requires
listed_by-requires g c = let P = c.requires in (rw (length-replicate {A = ℕ} g.row.N 0, length-replicate {A = ℕ} g.row.C 0, length-replicate g.row.N (of_bits binary32 0)) P.0, rw (length-replicate {A = ℕ} g.row.N 0) P.1)
