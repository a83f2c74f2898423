-- `tear::edge::pair_now` meets its contract: a pair that an element holds, or else one that an edge joins. Assumes nothing.
use borrow.Author.Rules.{rules}
use Rattle.elements.specs.Table.{kind_is}
use Rattle.tear.proofs.PairLaws.{told_held, told_joined}
use Rattle.tear.proofs.edge.pair_now.Goals as goal

pub returns-in-Some : goal.returns-in-Some
returns-in-Some c = let A = c.args in told_held (kind_is A.kind) A.k A.points.now A.roots.now A.corners.now A.volumes.now A.ends.now A.lengths.now A.outline.now A.log.now c.requires.0 c.requires.1 A.a A.b _ _ _ c.in-Some.is c.pair_met-held.ensures

pub returns-in-None : goal.returns-in-None
returns-in-None c = let A = c.args in told_joined (kind_is A.kind) A.k A.points.now A.roots.now A.corners.now A.volumes.now A.ends.now A.lengths.now A.outline.now A.log.now c.requires.0 c.requires.1 A.a A.b _ _ c.in-None.is c.pair_met-held.ensures c.pair_met.ensures
