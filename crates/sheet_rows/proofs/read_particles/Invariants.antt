-- `sheet_rows::read_particles` meets its contract. Assumes nothing.
use Rattle.sheet_rows.proofs.RowReads.{no_particles, tab_more, particle_same}
use Rattle.sheet_rows.specs.Work.{particle_bits}
use Rattle.bits.specs.Bits.{bits_of}
use Rattle.mesh.specs.At.{particles_at}
use Rattle.lists.specs.Lists.{tab}
use lib.ListN.{length}
use Prim.Native.Nat.{ℕ, ◌+◌, ◌*◌, ◌-◌, ◌≤◌}
use native.Mathlib.Omega.{arith}
use mathlib.Core.Path.{◌≡◌, ◌∙◌, refl, subst}
use Rattle.sheet_rows.proofs.read_particles.Given as goal

-- `sheet_rows::read_particles` meets its contract. Assumes nothing.
abbrev pub invariant-loop-i : goal.invariant-loop-i
invariant-loop-i l = (l.i ≤ l.n) × (length l.points ≡ length l.initial.points) × (length l.roots ≡ length l.initial.roots) × (l.pos ≡ l.at + l.i * 23) × (particles_at l.i l.points l.roots ≡ tab l.i (particle_bits (bits_of l.s) l.at))
