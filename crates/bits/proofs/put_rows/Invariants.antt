-- `bits::put_rows` meets its contract. Assumes nothing.
use Prim.Native.Nat.{◌-◌, ◌+◌, ◌*◌, ◌^◌, ◌<◌, ◌≤◌}
use mathlib.Core.Path.{◌≡◌}
use mathlib.Core.List.{[], ◌∷◌}
use lib.ListN.{length}
use lib.Seq.{sets}
use Rattle.bits.specs.Bits.{bits_of}
use Rattle.bits.specs.Rows.{write_rows, rows_of}
use Rattle.bits.proofs.put_rows.Given as goal

-- `bits::put_rows` meets its contract. Assumes nothing.
abbrev pub invariant-loop-i : goal.invariant-loop-i
invariant-loop-i l =
    (l.i ≤ l.n) × (length l.s ≡ length l.initial.s) × (l.pos + (l.n - l.i) * l.step ≤ 8 * length l.initial.s) × (l.pos + (l.n - l.i) * l.step < 2 ^ 32)
    × (sets (bits_of l.s) l.pos (write_rows (l.w0 ∷ l.w1 ∷ l.w2 ∷ []) (rows_of (l.a ∷ l.b ∷ l.c ∷ []) l.i (l.n - l.i))) ≡ sets (bits_of l.initial.s) l.at (write_rows (l.w0 ∷ l.w1 ∷ l.w2 ∷ []) (rows_of (l.a ∷ l.b ∷ l.c ∷ []) 0 l.n)))
