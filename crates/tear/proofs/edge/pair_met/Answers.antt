-- `tear::edge::pair_met` meets its contract: the table of all elements, then the pair that the log and it tell of. Assumes nothing.
use native.Mathlib.Omega.{arith}
use borrow.Author.Rules.{rules}
use Rattle.elements.specs.Table.{kind_is}
use Rattle.tear.proofs.PairLaws.{pair_room, met_told}
use Rattle.tear.proofs.edge.pair_met.Goals as goal

pub element_table-n-requires : goal.element_table-n-requires
element_table-n-requires c = let P = c.requires.0.table in
    record { few = c.requires.0.table.few; corners = c.requires.0.table.corners; volumes = c.requires.0.table.volumes; ends = c.requires.0.table.ends; lengths = c.requires.0.table.lengths; numbers = (omega (arith, c.requires.0.table.few.0), omega (arith, c.requires.0.table.few.1)); verts = (omega (arith, c.requires.0.table.few.0), omega (arith, c.requires.0.table.few.1)); measures = (omega (arith, c.requires.0.table.few.0), omega (arith, c.requires.0.table.few.1)) }

pub family_pair-requires : goal.family_pair-requires
family_pair-requires c = let P = c.requires in let A = c.args in let T = c.element_table-n in
    pair_room (kind_is A.kind) A.k A.points.now A.roots.now A.corners.now A.volumes.now A.ends.now A.lengths.now A.outline.now A.log.now P.0 _ _ _ _ _ T.ensures c.corners_per-per.ensures (omega (arith, T.auto.verts))

pub returns : goal.returns
returns c = let P = c.requires in let A = c.args in let T = c.element_table-n in
    met_told (kind_is A.kind) A.k A.points.now A.roots.now A.corners.now A.volumes.now A.ends.now A.lengths.now A.outline.now A.log.now P.0 _ _ _ _ _ T.ensures c.corners_per-per.ensures A.in_element A.a A.b _ c.family_pair.ensures
