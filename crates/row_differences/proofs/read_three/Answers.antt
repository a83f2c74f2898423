-- `row_differences::read_three` meets its contract: one column behind the other. Assumes nothing.
use Rattle.row_differences.proofs.Walking.{front_taken}
use native.Mathlib.Omega.{arith}
use Rattle.row_differences.proofs.read_three.Goals as goal

pub read_column-requires : goal.read_column-requires
read_column-requires c = let p = c.requires in record { room = omega (arith, p.rows.room); small = omega (arith, p.rows.small); wide = omega arith; narrow = omega (arith, p.narrow); places = p.first }

pub read_column-requires-2 : goal.read_column-requires-2
read_column-requires-2 c = let p = c.requires in record { room = omega (arith, p.rows.room, p.narrow); small = omega (arith, p.rows.small, p.narrow); wide = omega arith; narrow = omega (arith, p.narrow); places = p.second }

pub read_column-requires-3 : goal.read_column-requires-3
read_column-requires-3 c = let p = c.requires in record { room = omega (arith, p.rows.room, p.narrow); small = omega (arith, p.rows.small, p.narrow); wide = omega arith; narrow = omega (arith, p.narrow_third); places = p.third }

pub returns : goal.returns
returns c = record { first = front_taken _ _ _ _ _ _ _ c.read_column.ensures; second = front_taken _ _ _ _ _ _ _ c.read_column-2.ensures; third = front_taken _ _ _ _ _ _ _ c.read_column-3.ensures }
