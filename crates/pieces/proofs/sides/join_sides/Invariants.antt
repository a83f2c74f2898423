-- `pieces::sides::join_sides` meets its contract. The invariant: the first i elements are joined. Assumes nothing.
use borrow.Author.Rules.{rules}
use native.Mathlib.Omega.{arith}
use mathlib.Core.Path.{◌≡◌, refl, sym, ◌∙◌, ap, subst}
use mathlib.Core.List.{List}
use mathlib.Core.Logic.{⊎_elim}
use Prim.Native.Nat.{ℕ, ◌+◌, ◌*◌, ◌≤◌, ◌-◌}
use lib.ListN.{length}
use Rattle.bodies.specs.Tables.{Tied}
use Rattle.pieces.specs.Sides.{low_of, high_of, SameFacet, Sided, SideRoom}
use Rattle.pieces.proofs.FacetChains.{room_of, room_for, room_own, sided_none, sided_same}
use Rattle.pieces.proofs.sides.join_sides.Given as goal

-- `pieces::sides::join_sides` meets its contract. The invariant: the first i elements are joined. Assumes nothing.
abbrev pub invariant-loop-i : goal.invariant-loop-i
invariant-loop-i l = (l.i ≤ l.n) × (length l.heads ≡ length l.initial.heads) × (length l.links ≡ length l.initial.links) × (length l.lows ≡ length l.initial.lows) × (length l.parent ≡ length l.initial.parent) × Sided l.k l.verts l.heads l.links l.lows (l.i * l.k) l.parent

abbrev pub decreases-loop-i : goal.decreases-loop-i
decreases-loop-i l = l.n - l.i
