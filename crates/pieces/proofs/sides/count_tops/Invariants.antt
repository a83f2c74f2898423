-- `pieces::sides::count_tops` meets its contract. The invariant: the tops below i are counted. Assumes nothing.
use borrow.Author.Rules.{rules}
use native.Mathlib.Omega.{arith}
use mathlib.Core.Path.{◌≡◌, sym, ◌∙◌, ap}
use mathlib.Core.Logic.{⊎_elim}
use Prim.Native.Nat.{ℕ, ◌≤◌, ◌-◌}
use lib.ListN.{length}
use Rattle.pieces.proofs.Tops.{tops_below, tops_start, tops_yes, tops_no, tops_all}
use Rattle.pieces.proofs.sides.count_tops.Given as goal

-- `pieces::sides::count_tops` meets its contract. The invariant: the tops below i are counted. Assumes nothing.
abbrev pub invariant-loop-i : goal.invariant-loop-i
invariant-loop-i l = (l.i ≤ length l.labels) × (l.count ≤ l.i) × (l.count ≡ tops_below l.labels l.i)

abbrev pub decreases-loop-i : goal.decreases-loop-i
decreases-loop-i l = length l.labels - l.i
