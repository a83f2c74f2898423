-- `split_plan::next_group` meets its contract. The invariant: best is the least group so far from `from` on that holds x, else count. Assumes nothing.
use Prim.Native.Nat.{◌≤◌}
use Rattle.split_plan.proofs.Rings.{Least}
use Rattle.split_plan.proofs.next_group.Given as goal

-- `split_plan::next_group` meets its contract. The invariant: best is the least group so far from `from` on that holds x, else count. Assumes nothing.
abbrev pub invariant-loop-i : goal.invariant-loop-i
invariant-loop-i l = (l.i ≤ l.n) × Least l.x l.from l.count l.k l.verts l.groups l.i l.best
