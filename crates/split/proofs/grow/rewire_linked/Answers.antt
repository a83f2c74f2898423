-- `split::grow::rewire_linked` meets its contract: the table by `link_splits::split_links`, the corners by `rewire::fans::rewire_triangles` (proofs/LinkLaws.antt). Assumes nothing.
use lib.Seq.{length-take-le}
use mathlib.Core.Path.{sym}
use Rattle.split.proofs.LinkLaws.{links_rewired}
use Rattle.split.proofs.grow.rewire_linked.Goals as goal

-- `split::grow::rewire_linked` meets its contract: the table by `link_splits::split_links`, the corners by `rewire::fans::rewire_triangles` (proofs/LinkLaws.antt). Assumes nothing.
pub slice_bounds-split_links-end : goal.slice_bounds-split_links-end
slice_bounds-split_links-end c = sym (length-take-le _ _ c.requires.0.numbers_long)

pub slice_bounds-split_links-end-2 : goal.slice_bounds-split_links-end-2
slice_bounds-split_links-end-2 c = sym (length-take-le _ _ c.requires.0.groups_long)

pub split_links-requires : goal.split_links-requires
split_links-requires c = c.requires.1

pub rewire_triangles-requires : goal.rewire_triangles-requires
rewire_triangles-requires c = c.requires.0

pub shape_of-corners : goal.shape_of-corners
shape_of-corners c = c.rewire_triangles.auto.corners

pub shape_of-links : goal.shape_of-links
shape_of-links c = c.split_links.auto.table

pub returns : goal.returns
returns c = (c.rewire_triangles.ensures, links_rewired c.requires.0 c.requires.1.room.rows c.rewire_triangles.auto.corners c.split_links.ensures c.rewire_triangles.ensures)
