-- `rewire::linked::rewire_straps` meets its contract: the loop is `Moving` of proofs/FanLaws.antt, with the table of the block so far (proofs/LinkedLaws.antt). Assumes nothing.
use Rattle.links.specs.Linked.{EdgesLinked}
use Rattle.rewire.proofs.FanLaws.{Moving, moving_start, moving_done}
use Rattle.rewire.proofs.LinkedLaws.{strap_room, strap_on}
use lib.ListN.{length}
use mathlib.Core.Path.{◌≡◌, refl, ◌∙◌}
use native.Mathlib.Omega.{arith}
use Prim.Native.Nat.{◌-◌}
use Rattle.rewire.proofs.linked.rewire_straps.Given as goal

-- `rewire::linked::rewire_straps` meets its contract: the loop is `Moving` of proofs/FanLaws.antt, with the table of the block so far (proofs/LinkedLaws.antt). Assumes nothing.
abbrev pub invariant-loop-i : goal.invariant-loop-i
invariant-loop-i l = Moving l.v l.before l.n l.numbers l.groups l.initial.ends l.ends l.i × EdgesLinked l.e l.ends l.table × (length l.table ≡ length l.initial.table)

abbrev pub decreases-loop-i : goal.decreases-loop-i
decreases-loop-i l = l.n - l.i
