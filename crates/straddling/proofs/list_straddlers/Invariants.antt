use Rattle.straddling.specs.Listing.{WalkTold}
use mathlib.Core.Path.{subst, ◌∙◌}
use borrow.Author.Rules.{rules}
use Prim.Native.Nat.{◌-◌}
use native.Mathlib.Omega.{arith}
use lib.ListN.{length-replicate}
use Prim.Native.Nat.{ℕ}
use Rattle.elements.specs.Table.{kind_is}
use Rattle.straddling.proofs.StraddlerLaws.{corners_fit, near_room}
use Rattle.straddling.proofs.ListLaws.{none_walked, Rounding, rounding_start, rounding_room, rounding_passed, rounding_more, rounding_done}
use Rattle.straddling.proofs.list_straddlers.Given as goal

-- `straddling::list_straddlers` meets its contract: the loop over the corners is `Rounding` of proofs/ListLaws.antt. Assumes nothing.
abbrev pub invariant-loop-q : goal.invariant-loop-q
invariant-loop-q l = Rounding (kind_is l.of.kind) l.of.v l.of.before l.of.n l.of.count l.t l.e l.verts l.groups l.corners l.ends l.initial.list l.list l.listed l.q l.walked
