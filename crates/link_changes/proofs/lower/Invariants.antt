-- `link_changes::lower` meets its contract: the numbers passed are less (`Lowering` of proofs/Dropped.antt). Assumes nothing.
use Rattle.link_changes.proofs.Dropped.{Lowering, lowering_more}
use lib.ListN.{length}
use mathlib.Core.Path.{refl}
use native.Mathlib.Omega.{arith}
use native.Mathlib.Nat.{not-suc-le-zero}
use Prim.Native.Nat.{zero-le, ◌-◌}
use Rattle.link_changes.proofs.lower.Given as goal

-- `link_changes::lower` meets its contract: the numbers passed are less (`Lowering` of proofs/Dropped.antt). Assumes nothing.
abbrev pub invariant-loop-x : goal.invariant-loop-x
invariant-loop-x l = Lowering l.own l.initial.table l.table l.x
