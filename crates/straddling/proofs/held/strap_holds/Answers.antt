-- `straddling::held::strap_holds` meets its contract: one test behind the other. Assumes nothing.
use Rattle.straddling.proofs.HeldLaws.{strap_loose, strap_both, strap_not}
use native.Mathlib.Omega.{arith}
use borrow.Author.Rules.{rules}
use Rattle.straddling.proofs.held.strap_holds.Goals as goal

pub returns-then-ends-n-ne1 : goal.returns-then-ends-n-ne1
returns-then-ends-n-ne1 c = let A = c.args in strap_loose A.x A.y A.ends.now A.i c.if-ends-n-ne1.true

pub row_holds-requires : goal.row_holds-requires
row_holds-requires c = record { here = c.requires; columns = omega arith }

pub row_holds-requires-then-row_holds : goal.row_holds-requires-then-row_holds
row_holds-requires-then-row_holds c = record { here = c.requires; columns = omega arith }

pub returns-then-row_holds : goal.returns-then-row_holds
returns-then-row_holds c = let A = c.args in strap_both A.x A.y A.ends.now A.i c.if-ends-n-ne1.false c.row_holds.result c.row_holds.ensures c.if-row_holds.true c.row_holds-then-row_holds.result c.row_holds-then-row_holds.ensures

pub returns : goal.returns
returns c = let A = c.args in strap_not A.x A.y A.ends.now A.i c.if-ends-n-ne1.false c.row_holds.result c.row_holds.ensures c.if-row_holds.false
