-- `mender::write::put_kept` meets its contract. Assumes nothing.
use Rattle.mending.specs.Work.{kept_by_of, zeros_of}
use Rattle.bits.specs.Rows.{read_rows, write_rows}
use Rattle.bits.specs.Bits.{bits_of}
use lib.Seq.{sets}
use lib.ListN.{length, drop}
use mathlib.Core.List.{[], ◌∷◌}
use mathlib.Core.Path.{◌≡◌}
use Prim.Native.Nat.{◌+◌, ◌-◌, ◌*◌, ◌^◌, ◌<◌, ◌≤◌}
use Rattle.mender.proofs.write.put_kept.Given as goal

-- `mender::write::put_kept` meets its contract. Assumes nothing.
abbrev pub invariant-loop-i : goal.invariant-loop-i
invariant-loop-i l = (l.i ≤ l.n) × (length l.out ≡ length l.initial.out) × (l.from + (l.n - l.i) * l.step ≤ 8 * length l.s) × (l.from + (l.n - l.i) * l.step < 2 ^ 32)
    × (l.end + zeros_of (drop l.i l.mask) * l.step ≡ l.to + zeros_of l.mask * l.step)
    × (sets (bits_of l.out) l.end (write_rows (l.w0 ∷ l.w1 ∷ l.w2 ∷ []) (kept_by_of (drop l.i l.mask) (read_rows (l.w0 ∷ l.w1 ∷ l.w2 ∷ []) (l.n - l.i) (drop l.from (bits_of l.s)))))
    ≡ sets (bits_of l.initial.out) l.to (write_rows (l.w0 ∷ l.w1 ∷ l.w2 ∷ []) (kept_by_of l.mask (read_rows (l.w0 ∷ l.w1 ∷ l.w2 ∷ []) l.n (drop l.at (bits_of l.s))))))

abbrev pub decreases-loop-i : goal.decreases-loop-i
decreases-loop-i l = l.n - l.i
