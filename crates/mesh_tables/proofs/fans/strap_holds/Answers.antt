-- `mesh_tables::fans::strap_holds` meets its contract: the flag, and one end after the other. Assumes nothing.
use Rattle.mesh_tables.proofs.FanLaws.{strap_other, strap_first, strap_last}
use Rattle.mesh_tables.proofs.fans.strap_holds.Goals as goal

-- `mesh_tables::fans::strap_holds` meets its contract: the flag, and one end after the other. Assumes nothing.
pub returns-then-structural-ne1 : goal.returns-then-structural-ne1
returns-then-structural-ne1 c = let A = c.args in strap_other A.v A.a A.b _ c.if-structural-ne1.true

pub returns-then-a-v : goal.returns-then-a-v
returns-then-a-v c = let A = c.args in strap_first A.v A.a A.b _ c.if-structural-ne1.false c.if-a-v.true

pub returns : goal.returns
returns c = let A = c.args in strap_last A.v A.a A.b _ c.if-structural-ne1.false c.if-a-v.false
