-- `sheet_fields::put_particles` meets its contract. Assumes nothing.
use Prim.Native.Nat.{◌-◌, ◌+◌, ◌*◌, ◌^◌, ◌<◌, ◌≤◌}
use mathlib.Core.Path.{◌≡◌}
use mathlib.Core.List.{[], ◌∷◌, map}
use lib.ListN.{length}
use lib.Seq.{sets}
use Rattle.bits.specs.Bits.{bits_of}
use Rattle.bits.specs.Rows.{write_rows, rows_of}
use Rattle.sheet.specs.Sheet.{the_field_of, particle_w}
use Rattle.sheet_fields.proofs.put_particles.Given as goal

-- `sheet_fields::put_particles` meets its contract. Assumes nothing.
abbrev pub invariant-loop-i : goal.invariant-loop-i
invariant-loop-i l =
    (l.i ≤ l.n) × (length l.s ≡ length l.initial.s) × (l.pos + (l.n - l.i) * 23 ≤ 8 * length l.initial.s) × (l.pos + (l.n - l.i) * 23 < 2 ^ 32)
    × (sets (bits_of l.s) l.pos (write_rows particle_w (rows_of (map the_field_of l.x ∷ map the_field_of l.y ∷ l.pinned ∷ []) l.i (l.n - l.i))) ≡ sets (bits_of l.initial.s) l.at (write_rows particle_w (rows_of (map the_field_of l.x ∷ map the_field_of l.y ∷ l.pinned ∷ []) 0 l.n)))
