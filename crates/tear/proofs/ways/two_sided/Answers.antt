-- `tear::ways::two_sided` meets its contract: the inverse mass, then the sides. Assumes nothing.
use mathlib.Core.Path.{sym}
use lib.Seq.{length-take-le}
use lib.Ieee.{of_bits}
use Rattle.tear.proofs.WayLaws.{two_both, two_pinned}
use borrow.Author.Rules.{rules}
use Rattle.tear.proofs.ways.two_sided.Goals as goal

pub slice_bounds-both_sides-end : goal.slice_bounds-both_sides-end
slice_bounds-both_sides-end c = sym (length-take-le _ _ c.requires.0)

pub returns-then-points-size : goal.returns-then-points-size
unfolding of_bits
returns-then-points-size c = two_both _ _ _ _ c.if-points-size.true c.both_sides.ensures

pub returns : goal.returns
unfolding of_bits
returns c = two_pinned _ _ _ c.if-points-size.false
