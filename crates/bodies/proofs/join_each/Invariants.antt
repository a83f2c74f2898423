-- `bodies::join_each` meets its contract. The invariant: the corners of the elements below i are joined. Assumes nothing.
use borrow.Author.Rules.{rules}
use native.Mathlib.Omega.{arith}
use mathlib.Core.Path.{◌≡◌, refl, sym, ◌∙◌, ap}
use Prim.Native.Nat.{ℕ, ◌*◌, ◌≤◌, ◌-◌}
use lib.ListN.{length}
use Rattle.bodies.specs.Tables.{Link, Tied}
use Rattle.bodies.proofs.Corners.{corners_for}
use Rattle.bodies.proofs.Trees.{tied_start, tied_at, link_none}
use Rattle.bodies.proofs.join_each.Given as goal

-- `bodies::join_each` meets its contract. The invariant: the corners of the elements below i are joined. Assumes nothing.
abbrev pub invariant-loop-i : goal.invariant-loop-i
invariant-loop-i l = (l.i ≤ l.n) × (length l.parent ≡ length l.initial.parent) × Tied (Link l.k l.verts (l.i * l.k)) l.parent
