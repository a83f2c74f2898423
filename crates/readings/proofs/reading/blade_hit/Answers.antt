-- `readings::reading::blade_hit` meets its contract: four points tested, then the blade test. Assumes nothing.
use Rattle.readings.proofs.Refusing.{blade_refuses, blade_answers}
use Rattle.judge.proofs.Joined.{and_next}
use Rattle.readings.proofs.reading.blade_hit.Goals as goal

pub returns-then-z : goal.returns-then-z
returns-then-z c = blade_answers _ _ _ _ (and_next _ _ _ _ _ c.both-z-3.ensures (and_next _ _ _ _ _ c.both-z-2.ensures (and_next _ _ _ _ _ c.both-z.ensures c.point_fits.ensures c.point_fits-2.ensures) c.point_fits-3.ensures) c.point_fits-4.ensures) _ c.if-z.true c.blade_hit.ensures

pub returns : goal.returns
returns c = blade_refuses _ _ _ _ (and_next _ _ _ _ _ c.both-z-3.ensures (and_next _ _ _ _ _ c.both-z-2.ensures (and_next _ _ _ _ _ c.both-z.ensures c.point_fits.ensures c.point_fits-2.ensures) c.point_fits-3.ensures) c.point_fits-4.ensures) c.if-z.false
