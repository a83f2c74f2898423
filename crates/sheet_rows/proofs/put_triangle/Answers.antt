-- `sheet_rows::put_triangle` meets its contract. Assumes nothing.
use Rattle.sheet_rows.proofs.RowPuts.{triangle_put}
use Rattle.split_plan.specs.Opened.{place_in}
use Rattle.sheet.specs.Read.{area_of}
use native.Mathlib.Omega.{arith}
use mathlib.Core.Path.{◌∙◌}
use lib.Ieee.{of_bits}
use lib.ListN.{length-set}
use borrow.Author.Rules.{rules}
use Rattle.sheet_rows.proofs.put_triangle.Goals as goal

pub bounds-corners-t : goal.bounds-corners-t
bounds-corners-t c = simp length-set (omega (arith, c.requires.corners))

pub bounds-corners-t-2 : goal.bounds-corners-t-2
bounds-corners-t-2 c = simp length-set (omega (arith, c.requires.corners))

pub bounds-volumes-v : goal.bounds-volumes-v
bounds-volumes-v c = simp length-set (omega (arith, c.requires.volumes))

pub returns : goal.returns
unfolding of_bits
returns c = triangle_put (place_in c.args.points.now) _ _ _ _ _ _ _ (c.area.ensures ∙ (λ i. area_of (c.place.ensures i) (c.place-2.ensures i) (c.place-3.ensures i))) c.requires.corners c.requires.volumes
