-- `readings::grouping::groups_in` meets its contract: the table has room for these sides. Assumes nothing.
use Prim.Native.Nat.{ℕ}
use lib.ListN.{length-replicate}
use native.Mathlib.Omega.{arith}
use Rattle.readings.proofs.grouping.groups_in.Goals as goal

pub whole_as_slice-groups_by : goal.whole_as_slice-groups_by
whole_as_slice-groups_by g c = omega (arith, c.requires.2)

pub groups_by-requires : goal.groups_by-requires
groups_by-requires g c = let P = c.requires in (P.0, P.1, rw (length-replicate {A = ℕ} g.row.N 0) P.3)
