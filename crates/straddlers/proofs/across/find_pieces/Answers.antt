-- `straddlers::across::find_pieces` meets its contract: the table of all elements, and its pieces. Assumes nothing.
use Rattle.elements.specs.Table.{kind_is}
use Rattle.straddlers.proofs.PieceTables.{corners_more, table_corners, pieces_told}
use native.Mathlib.Omega.{arith}
use borrow.Author.Rules.{rules}
use Rattle.straddlers.proofs.across.find_pieces.Goals as goal

pub join_elements-requires : goal.join_elements-requires
join_elements-requires c = let T = c.element_table-n in let P = c.requires in table_corners _ _ _ _ _ _ _ _ _ _ _ _ _ P.few_triangles P.few_edges P.corners_in P.ends_in (omega (arith, T.auto.verts)) c.corners_per-k.ensures T.ensures

pub mark_used-requires : goal.mark_used-requires
mark_used-requires c = let T = c.element_table-n in let P = c.requires in corners_more (table_corners _ _ _ _ _ _ _ _ _ _ _ _ _ P.few_triangles P.few_edges P.corners_in P.ends_in (omega (arith, T.auto.verts)) c.corners_per-k.ensures T.ensures) P.used_long

pub returns : goal.returns
returns c = pieces_told (kind_is c.args.kind) _ _ _ _ _ _ _ _ c.corners_per-k.ensures c.element_table-n.ensures c.join_elements.ensures c.mark_used.ensures (omega (arith, c.requires.used_long, c.join_elements.auto.parent, c.mark_used.auto.used))
