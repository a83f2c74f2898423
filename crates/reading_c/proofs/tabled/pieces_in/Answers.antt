-- `reading_c::tabled::pieces_in` meets its contract: the tables have room. Assumes nothing.
use Prim.Native.Nat.{ℕ}
use native.Mathlib.Omega.{arith}
use lib.ListN.{length-replicate}
use lib.Ieee.{of_bits, binary32}
use Rattle.reading_c.proofs.tabled.pieces_in.Goals as goal

pub pieces_by-requires : goal.pieces_by-requires
pieces_by-requires g c = (rw (length-replicate {A = ℕ} g.row.N 0, length-replicate {A = ℕ} g.row.C 0, length-replicate g.row.N (of_bits binary32 0)) c.requires.0, rw (length-replicate {A = ℕ} g.row.C 0) (omega arith), rw (length-replicate {A = ℕ} g.row.C 0) (omega arith))
