-- `mender::fates::byte_len` meets its contract. Assumes nothing.
use Rattle.mender.proofs.Puts.{bytes_by}
use Rattle.mender.proofs.fates.byte_len.Goals as goal

pub returns-then-second : goal.returns-then-second
returns-then-second c = (bytes_by c.args.second c.args.c _ c.end_bit-end.ensures).0 c.if-second.true

pub returns-else-second : goal.returns-else-second
returns-else-second c = (bytes_by c.args.second c.args.c _ c.end_bit-end.ensures).1 c.if-second.false
