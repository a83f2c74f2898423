-- `mesh_tables::fans::triangle_holds` meets its contract: one corner after the other. Assumes nothing.
use Rattle.mesh_tables.proofs.FanLaws.{three_first, three_second, three_last}
use Rattle.mesh_tables.proofs.fans.triangle_holds.Goals as goal

-- `mesh_tables::fans::triangle_holds` meets its contract: one corner after the other. Assumes nothing.
pub returns-then-a-v : goal.returns-then-a-v
returns-then-a-v c = three_first _ _ _ _ c.if-a-v.true

pub returns-then-b-v : goal.returns-then-b-v
returns-then-b-v c = three_second _ _ _ _ c.if-a-v.false c.if-b-v.true

pub returns : goal.returns
returns c = three_last _ _ _ _ c.if-a-v.false c.if-b-v.false
