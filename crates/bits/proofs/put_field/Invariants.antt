-- `bits::put_field` meets its contract. Assumes nothing.
use Prim.Native.Nat.{◌≤◌}
use mathlib.Core.Path.{◌≡◌}
use lib.ListN.{length, take}
use lib.Seq.{sets}
use Rattle.bits.specs.Bits.{bits, bits_of}
use Rattle.bits.proofs.put_field.Given as goal

-- `bits::put_field` meets its contract. Assumes nothing.
abbrev pub invariant-loop-k : goal.invariant-loop-k
invariant-loop-k l = (l.k ≤ l.w) × (length l.s ≡ length l.initial.s) × (bits_of l.s ≡ sets (bits_of l.initial.s) l.at (take l.k (bits l.w l.v)))
