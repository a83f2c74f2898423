-- `cut::facets::part_fan` meets its contract. All sides 0, or the sides by the blade. Assumes nothing.
use Rattle.cut.proofs.FanSides.{free_sides, blade_parts, snapped_parts}
use Rattle.elements.specs.Table.{kind_is}
use borrow.Author.Rules.{rules}
use Rattle.cut.proofs.facets.part_fan.Goals as goal

pub returns-in-Free : goal.returns-in-Free
returns-in-Free c = let A = c.args in
    free_sides A.way (kind_is A.kind) A.v A.n A.verts.now A.points.now _ _ c.in-Free.is c.requires.sides_long c.clear.ensures

pub returns-in-Blade : goal.returns-in-Blade
returns-in-Blade c = let A = c.args in
    blade_parts A.way (kind_is A.kind) A.v A.n A.verts.now A.points.now _ _ _ _ c.in-Blade.is c.blade_sides.ensures

pub returns-in-Snapped : goal.returns-in-Snapped
returns-in-Snapped c = let A = c.args in
    snapped_parts A.way (kind_is A.kind) A.v A.n A.verts.now A.points.now _ _ _ c.in-Snapped.is c.blade_sides-in-Snapped.ensures
