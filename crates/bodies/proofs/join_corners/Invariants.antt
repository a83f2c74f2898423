-- `bodies::join_corners` meets its contract. The invariant: the first j corners of element i are joined to the first. Assumes nothing.
use borrow.Author.Rules.{rules}
use native.Mathlib.Omega.{arith}
use mathlib.Core.Path.{◌≡◌, refl, ◌∙◌, ap}
use mathlib.Core.List.{List}
use mathlib.Core.Logic.{⊎_elim}
use Prim.Native.Nat.{ℕ, ◌+◌, ◌*◌, ◌<◌, ◌≤◌, ◌-◌}
use lib.ListN.{length, get_or}
use Rattle.bodies.specs.Tables.{Link, Tied}
use Rattle.bodies.proofs.Corners.{corners_room, first_below, corner_below}
use Rattle.bodies.proofs.Trees.{tied_join, tied_one, tied_first, tied_at, link_more, link_here, link_split}
use Rattle.bodies.proofs.join_corners.Given as goal

-- `bodies::join_corners` meets its contract. The invariant: the first j corners of element i are joined to the first. Assumes nothing.
abbrev pub invariant-loop-j : goal.invariant-loop-j
invariant-loop-j l = (l.j ≤ l.k) × (length l.parent ≡ length l.initial.parent) × Tied (Link l.k l.verts (l.i * l.k + l.j)) l.parent
