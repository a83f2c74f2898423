-- `call_frame::frame::lacking` meets its contract: the first room that is below its count. Assumes nothing.
use Rattle.call_frame.proofs.Begun.{particles_lack, edges_lack, boundary_lacks, none_lacks}
use Rattle.call_frame.proofs.frame.lacking.Goals as goal

-- `call_frame::frame::lacking` meets its contract: the first room that is below its count. Assumes nothing.
pub returns-then-room-k : goal.returns-then-room-k
returns-then-room-k c = particles_lack c.args.k c.args.room c.if-room-k.true

pub returns-then-room-k-2 : goal.returns-then-room-k-2
returns-then-room-k-2 c = edges_lack c.args.k c.args.room c.if-room-k.false c.if-room-k-2.true

pub returns-then-room-k-3 : goal.returns-then-room-k-3
returns-then-room-k-3 c = boundary_lacks c.args.k c.args.room c.if-room-k.false c.if-room-k-2.false c.if-room-k-3.true

pub returns : goal.returns
returns c = none_lacks c.args.k c.args.room c.if-room-k.false c.if-room-k-2.false c.if-room-k-3.false
