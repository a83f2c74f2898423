use native.Mathlib.Omega.{arith}
use lib.Ieee.{nan}
use lib.ListN.{length-set}
use Rattle.insert.proofs.StoreLaws.{put_four, stored_edge}
use borrow.Author.Rules.{rules}
use Rattle.insert.proofs.edges.store_edge.Goals as goal

-- src/edges.rt:35:5
pub bounds-ends-e : goal.bounds-ends-e
bounds-ends-e c = simp length-set (omega (arith, c.requires.ends))

-- src/edges.rt:36:5
pub bounds-ends-e-2 : goal.bounds-ends-e-2
bounds-ends-e-2 c = simp length-set (omega (arith, c.requires.ends))

-- src/edges.rt:37:5
pub bounds-ends-e-3 : goal.bounds-ends-e-3
bounds-ends-e-3 c = simp length-set (omega (arith, c.requires.ends))

-- src/edges.rt:39:5
pub bounds-lengths-l : goal.bounds-lengths-l
bounds-lengths-l c = simp length-set (omega (arith, c.requires.lengths))

-- src/edges.rt:40:5
pub bounds-lengths-l-2 : goal.bounds-lengths-l-2
bounds-lengths-l-2 c = simp length-set (omega (arith, c.requires.lengths))

-- src/edges.rt:41:5
pub bounds-lengths-l-3 : goal.bounds-lengths-l-3
bounds-lengths-l-3 c = simp length-set (omega (arith, c.requires.lengths))

-- src/edges.rt:28:1
pub returns : goal.returns
returns c = let A = c.args in
    stored_edge A.i A.row _ _ _ _ (put_four 0 _ _ (omega (arith, c.requires.ends)) A.ends.now _ _ _ _ (omega arith)) (put_four nan _ _ (omega (arith, c.requires.lengths)) A.lengths.now _ _ _ _ (omega arith))
