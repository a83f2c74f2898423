-- `pieces::sides::count_sides` meets its contract. Assumes nothing.
use borrow.Author.Rules.{rules}
use mathlib.Core.Path.{◌∙◌}
use Rattle.pieces.proofs.FacetChains.{side_number}
use Rattle.pieces.proofs.sides.count_sides.Goals as goal

-- `pieces::sides::count_sides` meets its contract. Assumes nothing.
pub join_sides-requires : goal.join_sides-requires
join_sides-requires c = c.requires

pub shape_of-heads : goal.shape_of-heads
shape_of-heads c = c.join_sides.auto.heads

pub shape_of-links : goal.shape_of-links
shape_of-links c = c.join_sides.auto.links

pub shape_of-lows : goal.shape_of-lows
shape_of-lows c = c.join_sides.auto.lows

pub shape_of-parent : goal.shape_of-parent
shape_of-parent c = c.join_sides.auto.parent

pub returns : goal.returns
returns c =
    let P = c.requires in
    let J = c.join_sides in
    side_number P.two P.corners.width.1 (J.auto.parent ∙ P.places_long) J.ensures c.count_tops.ensures
