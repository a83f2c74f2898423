-- `bodies::join_elements` meets its contract. Assumes nothing.
use borrow.Author.Rules.{rules}
use Rattle.bodies.proofs.Trees.{body_roots}
use Rattle.bodies.proofs.join_elements.Goals as goal

pub returns : goal.returns
returns c =
    let J = c.join_each.ensures in
    let E = c.flatten.ensures in
    body_roots J E.kept E.flat
