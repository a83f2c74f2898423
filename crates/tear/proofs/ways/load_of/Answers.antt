-- `tear::ways::load_of` meets its contract: by the kind. Assumes nothing.
use mathlib.Core.Path.{ap}
use native.Mathlib.Omega.{arith}
use lib.Ieee.{of_bits}
use Rattle.elements.specs.Table.{kind_is}
use Rattle.tear.proofs.WayLaws.{load_triangle, load_strap, load_nothing}
use borrow.Author.Rules.{rules}
use Rattle.tear.proofs.ways.load_of.Goals as goal

pub offset_bounds-loads-i : goal.offset_bounds-loads-i
offset_bounds-loads-i c = omega (arith, c.requires.triangle (ap kind_is c.in-Triangles.is))

pub bounds-loads-i : goal.bounds-loads-i
bounds-loads-i c = c.requires.triangle (ap kind_is c.in-Triangles.is)

pub overflow_mul-result : goal.overflow_mul-result
overflow_mul-result c = omega (arith, c.requires.strap (ap kind_is c.in-Straps.is))

pub overflow_add-result : goal.overflow_add-result
overflow_add-result c = omega (arith, c.requires.strap (ap kind_is c.in-Straps.is))

pub offset_bounds-lengths-m : goal.offset_bounds-lengths-m
offset_bounds-lengths-m c = omega (arith, c.requires.strap (ap kind_is c.in-Straps.is))

pub bounds-lengths-m : goal.bounds-lengths-m
bounds-lengths-m c = omega (arith, c.requires.strap (ap kind_is c.in-Straps.is))

pub returns-in-Triangles : goal.returns-in-Triangles
returns-in-Triangles c = load_triangle (kind_is c.args.kind) _ _ _ (ap kind_is c.in-Triangles.is) (c.requires.triangle (ap kind_is c.in-Triangles.is))

pub returns-in-Straps : goal.returns-in-Straps
returns-in-Straps c = load_strap (kind_is c.args.kind) _ _ _ (ap kind_is c.in-Straps.is)

pub returns-in-Nothing : goal.returns-in-Nothing
unfolding of_bits
returns-in-Nothing c = load_nothing (kind_is c.args.kind) _ _ _ (ap kind_is c.in-Nothing.is)
