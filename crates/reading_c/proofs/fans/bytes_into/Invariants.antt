-- `reading_c::fans::bytes_into` meets its contract: a block fills with bytes. Assumes nothing.
use Prim.Native.Nat.{◌-◌}
use Rattle.reading_c.proofs.Siding.{Copying}
use Rattle.reading_c.proofs.fans.bytes_into.Given as goal

-- `reading_c::fans::bytes_into` meets its contract: a block fills with bytes. Assumes nothing.
abbrev pub invariant-loop-i : goal.invariant-loop-i
invariant-loop-i l = Copying l.bytes l.n l.initial.out l.out l.i
