-- `reading_c::questions::groups_in` meets its contract: the table has a place for each side. Assumes nothing.
use Prim.Native.Nat.{ℕ}
use native.Mathlib.Omega.{arith}
use lib.ListN.{length-replicate}
use Rattle.reading_c.proofs.questions.groups_in.Goals as goal

pub whole_as_slice-groups_within : goal.whole_as_slice-groups_within
whole_as_slice-groups_within g c = omega (arith, c.requires.1)

pub groups_within-requires : goal.groups_within-requires
groups_within-requires g c = rw (length-replicate {A = ℕ} g.row.N 0) c.requires

pub returns : goal.returns
returns g c = c.groups_within.ensures
