use native.Mathlib.Omega.{arith}
use lib.Ieee.{nan}
use lib.ListN.{length-set}
use Rattle.insert.proofs.StoreLaws.{put_eight, put_two, pushed_particle}
use borrow.Author.Rules.{rules}
use Rattle.insert.proofs.particles.append_particle.Goals as goal

-- src/particles.rt:109:5
pub bounds-points-p : goal.bounds-points-p
bounds-points-p c = simp length-set (omega (arith, c.requires.points))

-- src/particles.rt:110:5
pub bounds-points-p-2 : goal.bounds-points-p-2
bounds-points-p-2 c = simp length-set (omega (arith, c.requires.points))

-- src/particles.rt:111:5
pub bounds-points-p-3 : goal.bounds-points-p-3
bounds-points-p-3 c = simp length-set (omega (arith, c.requires.points))

-- src/particles.rt:112:5
pub bounds-points-p-4 : goal.bounds-points-p-4
bounds-points-p-4 c = simp length-set (omega (arith, c.requires.points))

-- src/particles.rt:113:5
pub bounds-points-p-5 : goal.bounds-points-p-5
bounds-points-p-5 c = simp length-set (omega (arith, c.requires.points))

pub bounds-points-p-6 : goal.bounds-points-p-6
bounds-points-p-6 c = simp length-set (omega (arith, c.requires.points))

pub bounds-points-p-7 : goal.bounds-points-p-7
bounds-points-p-7 c = simp length-set (omega (arith, c.requires.points))

-- src/particles.rt:115:5
pub bounds-roots-r : goal.bounds-roots-r
bounds-roots-r c = simp length-set (omega (arith, c.requires.roots))

-- src/particles.rt:100:1
pub shape_of-points : goal.shape_of-points
shape_of-points c = simp length-set

-- src/particles.rt:100:1
pub returns : goal.returns
returns c = let A = c.args in
    pushed_particle A.n A.row _ _ _ _ c.requires.points c.requires.roots (put_eight nan _ _ (omega (arith, c.requires.points)) A.points.now _ _ _ _ _ _ _ _ (omega arith)) (put_two 0 _ _ (omega (arith, c.requires.roots)) A.roots.now _ _ (omega arith))
