-- `mender::write::put_blade` meets its contract. Assumes nothing.
use Rattle.mender.proofs.Puts.{blade_put}
use Rattle.bits.specs.Bits.{bits_of}
use Rattle.mender.proofs.write.put_blade.Goals as goal

pub returns : goal.returns
returns c = let a = c.args in blade_put (bits_of a.s.now) _ _ a.at a.to _ _ _ _ c.field-a.ensures.0 c.field-b.ensures.0 c.field-c.ensures.0 c.field-d.ensures.0 c.put_four.ensures
