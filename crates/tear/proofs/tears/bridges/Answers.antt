-- `tear::tears::bridges` meets its contract: one test behind the other. Assumes nothing.
use Rattle.tear.proofs.TearLaws.{bridge_first, bridge_second, bridge_none}
use borrow.Author.Rules.{rules}
use Rattle.tear.proofs.tears.bridges.Goals as goal

pub returns-then-is_copy : goal.returns-then-is_copy
returns-then-is_copy c = let A = c.args in bridge_first A.v A.before A.count A.other A.a A.b _ _ c.is_end.ensures c.if-is_end.true c.is_copy.ensures c.if-is_copy.true

pub returns-then-is_end : goal.returns-then-is_end
returns-then-is_end c = let A = c.args in bridge_second A.v A.before A.count A.other A.a A.b _ _ _ c.is_end.ensures c.if-is_end.true c.is_copy.ensures c.if-is_copy.false c.is_copy-then-is_end.ensures

pub returns : goal.returns
returns c = let A = c.args in bridge_none A.v A.before A.count A.other A.a A.b _ c.is_end.ensures c.if-is_end.false
