-- `straddling::list_edge` meets its contract: by cases of its tests (proofs/ListLaws.antt). Assumes nothing.
use borrow.Author.Tests.{not-true, not-false}
use Rattle.straddling.proofs.ListLaws.{edge_other, edge_not, edge_room, edge_put}
use borrow.Author.Rules.{rules}
use mathlib.Core.Path.{ap}
use mathlib.Core.Bool.{not}
use Rattle.straddling.proofs.list_edge.Goals as goal

pub returns-then-ends-i : goal.returns-then-ends-i
returns-then-ends-i c = edge_other _ _ _ _ _ _ _ _ _ _ _ _ _ c.requires.0.yet _ _ c.if-ends-i.true

pub near_straddles-requires : goal.near_straddles-requires
near_straddles-requires c = let P = c.requires in (P.0.room, P.1, P.0.by_near, P.0.linked, P.2)

pub returns-then-not-near_straddles : goal.returns-then-not-near_straddles
returns-then-not-near_straddles c = edge_not _ _ _ _ _ _ _ _ _ _ _ _ _ c.requires.0.yet _ _ c.near_straddles.result c.near_straddles.ensures (not-true _ (ap not c.if-not-near_straddles.true))

pub put_rising-requires : goal.put_rising-requires
put_rising-requires c = edge_room _ _ _ _ _ _ _ _ _ _ _ _ _ c.requires.0.yet c.args.x _ c.requires.1 c.requires.0.long

pub returns : goal.returns
returns c = edge_put _ _ _ _ _ _ _ _ _ _ _ _ _ c.requires.0.yet _ _ c.requires.1 c.near_straddles.result c.near_straddles.ensures (not-false _ (ap not c.if-not-near_straddles.false)) _ _ c.put_rising.ensures
