-- `bodies::mark_used` meets its contract. The invariant: the first t corners are marked, and no other particle. Assumes nothing.
use borrow.Author.Rules.{rules}
use native.Mathlib.Omega.{arith}
use mathlib.Core.Path.{◌≡◌, refl, ◌∙◌, subst}
use Prim.Native.Nat.{ℕ, ◌*◌, ◌<◌, ◌≤◌, ◌-◌}
use lib.ListN.{length, get_or, take, length-set}
use Rattle.bodies.specs.Tables.{Marked}
use Rattle.bodies.proofs.Marks.{marked_none, marked_corner, used_marked}
use Rattle.bodies.proofs.mark_used.Given as goal

-- `bodies::mark_used` meets its contract. The invariant: the first t corners are marked, and no other particle. Assumes nothing.
abbrev pub invariant-loop-t : goal.invariant-loop-t
invariant-loop-t l = (l.t ≤ l.n * l.k) × (length l.used ≡ length l.initial.used) × Marked (take l.t l.verts) l.used
