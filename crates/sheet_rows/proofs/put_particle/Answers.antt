-- `sheet_rows::put_particle` meets its contract. Assumes nothing.
use Rattle.sheet_rows.proofs.RowPuts.{particle_put}
use native.Mathlib.Omega.{arith}
use mathlib.Core.Path.{◌∙◌}
use lib.Ieee.{of_bits}
use lib.ListN.{length-set}
use borrow.Author.Rules.{rules}
use Rattle.sheet_rows.proofs.put_particle.Goals as goal

pub bounds-points-p : goal.bounds-points-p
bounds-points-p c = simp length-set (omega (arith, c.requires.room.points))

pub bounds-points-p-2 : goal.bounds-points-p-2
bounds-points-p-2 c = simp length-set (omega (arith, c.requires.room.points))

pub bounds-points-p-3 : goal.bounds-points-p-3
bounds-points-p-3 c = simp length-set (omega (arith, c.requires.room.points))

pub bounds-points-p-4 : goal.bounds-points-p-4
bounds-points-p-4 c = simp length-set (omega (arith, c.requires.room.points))

pub bounds-points-p-5 : goal.bounds-points-p-5
bounds-points-p-5 c = simp length-set (omega (arith, c.requires.room.points))

pub bounds-points-p-6 : goal.bounds-points-p-6
bounds-points-p-6 c = simp length-set (omega (arith, c.requires.room.points))

pub bounds-points-p-7 : goal.bounds-points-p-7
bounds-points-p-7 c = simp length-set (omega (arith, c.requires.room.points))

pub bounds-roots-r : goal.bounds-roots-r
bounds-roots-r c = simp length-set (omega (arith, c.requires.room.roots))

pub shape_of-points : goal.shape_of-points
shape_of-points c = simp length-set

pub returns : goal.returns
unfolding of_bits
returns c = particle_put _ _ _ _ _ _ _ _ _ c.float_of-fx.ensures c.float_of-fy.ensures c.inverse_of.ensures c.requires.room.points c.requires.room.roots
