-- `marks::particles::one_near` meets its contract. One after the other. Assumes nothing.
use Rattle.marks.proofs.MarkLaws.{near_first, near_second, near_third}
use borrow.Author.Rules.{rules}
use Rattle.marks.proofs.particles.one_near.Goals as goal

pub returns-then-near-x-eq1 : goal.returns-then-near-x-eq1
returns-then-near-x-eq1 c = let A = c.args in near_first A.near.now A.x A.y A.z c.if-near-x-eq1.true

pub returns-then-near-y-eq1 : goal.returns-then-near-y-eq1
returns-then-near-y-eq1 c = let A = c.args in near_second A.near.now A.x A.y A.z c.if-near-y-eq1.true

pub returns : goal.returns
returns c = let A = c.args in near_third A.near.now A.x A.y A.z c.if-near-x-eq1.false c.if-near-y-eq1.false
