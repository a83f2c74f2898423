-- `sheet_c::writing::signed_into` meets its contract: a column fills with whole numbers. Assumes nothing.
use Prim.Native.Nat.{◌+◌, ◌-◌}
use Rattle.image.specs.Words.{word_at_of}
use Rattle.image.proofs.Words.{Filling}
use Rattle.sheet_c.specs.Fields.{signed_of}
use Rattle.sheet_c.proofs.writing.signed_into.Given as goal

-- `sheet_c::writing::signed_into` meets its contract: a column fills with whole numbers. Assumes nothing.
abbrev pub invariant-loop-i : goal.invariant-loop-i
invariant-loop-i l = Filling (λ k. signed_of (word_at_of l.bytes (l.at + k))) l.n l.initial.out l.out l.i

abbrev pub decreases-loop-i : goal.decreases-loop-i
decreases-loop-i l = l.n - l.i
