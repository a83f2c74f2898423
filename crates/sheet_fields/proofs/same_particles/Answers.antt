-- `sheet_fields::same_particles` meets its contract. Assumes nothing.
use Rattle.sheet_fields.proofs.WholeLaws.{even_whole, uneven_whole}
use Rattle.sheet_fields.proofs.same_particles.Goals as goal

-- `sheet_fields::same_particles` meets its contract. Assumes nothing.
pub returns-then-y-x : goal.returns-then-y-x
returns-then-y-x c = even_whole c.args.x.now c.args.y.now c.args.pinned.now c.if-y-x.true

pub returns-else-y-x : goal.returns-else-y-x
returns-else-y-x c = uneven_whole c.args.x.now c.args.y.now c.args.pinned.now c.if-y-x.false
