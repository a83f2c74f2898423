-- `links::next_at` meets its contract: what the table has in the column of v. Assumes nothing.
use Rattle.links.proofs.Places.{link_fits, next_read}
use native.Mathlib.Omega.{arith}
use Prim.Native.Nat.{◌+◌, ◌*◌}
use Rattle.links.proofs.next_at.Goals as goal

-- `links::next_at` meets its contract: what the table has in the column of v. Assumes nothing.
pub corner_at-c-requires : goal.corner_at-c-requires
corner_at-c-requires c = c.requires.row

pub bounds-table-heads : goal.bounds-table-heads
bounds-table-heads c = link_fits _ _ _ _ _ _ _ _ c.requires.linked c.requires.table c.corner_at-c.ensures

pub overflow_cast-result : goal.overflow_cast-result
overflow_cast-result c = omega (arith, c.shared_slice_known-3-1.given (c.args.heads + (c.corner_at-c.result * c.args.span + c.args.i)))

pub returns : goal.returns
returns c = next_read _ _ _ _ _ _ _ _ c.requires.linked c.corner_at-c.ensures
