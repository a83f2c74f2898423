-- `tear::loads::triangle_load` meets its contract: three pairs of corners, one behind the other. Assumes nothing.
use Rattle.tear.proofs.LoadLaws.{apart_ab, apart_ac, apart_bc, triangle_loaded}
use borrow.Author.Rules.{rules}
use Rattle.tear.proofs.loads.triangle_load.Goals as goal

pub pair_load-first-requires : goal.pair_load-first-requires
pair_load-first-requires c = let P = c.requires in let A = c.args in (P.0.edges, P.1, apart_ab A.corners.now A.volumes.now A.i P.2)

pub pair_load-second-requires : goal.pair_load-second-requires
pair_load-second-requires c = let P = c.requires in let A = c.args in (P.0.edges, P.1, apart_ac A.corners.now A.volumes.now A.i P.2)

pub pair_load-requires : goal.pair_load-requires
pair_load-requires c = let P = c.requires in let A = c.args in (P.0.edges, P.1, apart_bc A.corners.now A.volumes.now A.i P.2)

pub returns : goal.returns
returns c = triangle_loaded _ _ _ _ _ _ _ _ _ c.pair_load-first.ensures c.pair_load-second.ensures c.pair_load.ensures
