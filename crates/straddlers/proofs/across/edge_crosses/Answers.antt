-- `straddlers::across::edge_crosses` meets its contract: an element stays, and of another edge the ends tell. Assumes nothing.
use Rattle.straddlers.proofs.PieceMasks.{told_element, told_other, ends_read}
use borrow.Author.Rules.{rules}
use Rattle.straddlers.proofs.across.edge_crosses.Goals as goal

pub returns-then-is_element : goal.returns-then-is_element
returns-then-is_element c = told_element _ _ _ _ _ c.is_element.result c.is_element.ensures c.if-is_element.true

pub apart-requires : goal.apart-requires
apart-requires c = ends_read _ _ _ _ c.requires

pub returns : goal.returns
returns c = told_other _ _ _ _ _ c.is_element.result c.is_element.ensures c.if-is_element.false c.apart.result c.apart.ensures
