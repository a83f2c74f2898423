-- `edition::look` meets its contract. Assumes nothing.
use Prim.Native.Nat.{◌≤◌}
use native.Mathlib.Omega.{arith}
use Rattle.edition.proofs.look.Goals as goal

pub look_into-requires : goal.look_into-requires
look_into-requires c = let h : 6144 ≤ 6144 = omega arith in h

pub returns : goal.returns
returns c = c.look_into.ensures.answer
