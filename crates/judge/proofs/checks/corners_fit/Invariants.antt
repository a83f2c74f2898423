-- `judge::checks::corners_fit` meets its contract: the word of the triangles so far tells of the corners of each. Assumes nothing.
use Rattle.std.proofs.Common.{◌≡◌, ℕ, ◌-◌, ◌/◌, ◌≤◌, List, length}
use lib.Ieee.{Float}
use Rattle.lists.specs.Lists.{all, up_to}
use Rattle.model.specs.Valid.{corners_ok}
use Rattle.mesh.specs.At.{triangle_row}
use Rattle.judge.specs.Told.{fine}
use Rattle.judge.proofs.checks.corners_fit.Given as goal

-- `judge::checks::corners_fit` meets its contract: the word of the triangles so far tells of the corners of each. Assumes nothing.
abbrev pub invariant-loop-i : goal.invariant-loop-i
invariant-loop-i l = ((volumes : List Float) → fine l.fault ≡ all (λ (k : ℕ). corners_ok l.n (triangle_row (length l.corners / 3) (length volumes / 2) l.corners volumes k)) (up_to l.i)) × (l.i ≤ l.t)

abbrev pub decreases-loop-i : goal.decreases-loop-i
decreases-loop-i l = l.t - l.i
