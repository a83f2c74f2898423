-- `bits::field` meets its contract. Assumes nothing.
use Prim.Native.Nat.{◌^◌, ◌<◌, ◌≤◌}
use mathlib.Core.Path.{◌≡◌}
use Rattle.bits.specs.Bits.{field_at, bits_of}
use Rattle.bits.proofs.field.Given as goal

-- `bits::field` meets its contract. Assumes nothing.
abbrev pub invariant-loop-k : goal.invariant-loop-k
invariant-loop-k l = (l.k ≤ l.w) × (l.r ≡ field_at (bits_of l.s) l.at l.k) × (l.r < 2 ^ l.k)
