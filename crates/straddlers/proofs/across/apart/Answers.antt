-- `straddlers::across::apart` meets its contract: one test behind the other. Assumes nothing.
use Rattle.straddlers.proofs.PieceMasks.{spans_root, spans_first, spans_second}
use borrow.Author.Rules.{rules}
use Rattle.straddlers.proofs.across.apart.Goals as goal

pub returns-then-parent-x : goal.returns-then-parent-x
returns-then-parent-x c = spans_root _ _ _ _ c.if-parent-x.true

pub returns-then-used-x-ne1 : goal.returns-then-used-x-ne1
returns-then-used-x-ne1 c = spans_first _ _ _ _ c.if-used-x-ne1.true

pub returns : goal.returns
returns c = spans_second _ _ _ _ c.if-parent-x.false c.if-used-x-ne1.false
