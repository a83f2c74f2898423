-- `pieces::sides::find_facet` meets its contract. The invariant: the facet stands at no place from e on. Assumes nothing.
use borrow.Author.Rules.{rules}
use native.Mathlib.Omega.{arith}
use mathlib.Core.Path.{◌≡◌, sym, ◌∙◌, subst}
use Prim.Native.Nat.{ℕ, ◌+◌, ◌*◌, ◌-◌, ◌<◌}
use lib.ListN.{get_or}
use Rattle.pieces.specs.Sides.{LastIn, Sought}
use Rattle.pieces.proofs.FacetChains.{Seeking, seek_start, seek_pass, seek_found, seek_end}
use Rattle.pieces.proofs.sides.find_facet.Given as goal

-- `pieces::sides::find_facet` meets its contract. The invariant: the facet stands at no place from e on. Assumes nothing.
abbrev pub invariant-loop-e : goal.invariant-loop-e
invariant-loop-e l = (S : Sought l.low l.first l.links l.lows) → Seeking S.f S.g S.t l.e

abbrev pub decreases-loop-e : goal.decreases-loop-e
decreases-loop-e l = l.e
