-- `fan_c::strap_numbers` meets its contract: the invariant is the fan among the rows that were passed. Assumes nothing.
use Prim.Native.Nat.{◌*◌, ◌≤◌, ◌-◌}
use mathlib.Core.Path.{◌≡◌}
use mathlib.Core.List.{List}
use lib.Ieee.{Float}
use lib.ListN.{length}
use Rattle.mesh_tables.specs.Fans.{NumbersRead, straps_with}
use Rattle.image.specs.Words.{words_from}
use Rattle.fan_c.proofs.strap_numbers.Given as goal

-- `fan_c::strap_numbers` meets its contract: the invariant is the fan among the rows that were passed. Assumes nothing.
abbrev pub invariant-loop-i : goal.invariant-loop-i
invariant-loop-i l = ((M : List Float) → NumbersRead (straps_with l.v l.i (words_from l.bytes l.at (4 * l.e)) M) l.r l.numbers) × (length l.numbers ≡ length l.initial.numbers) × (l.r ≤ l.i) × (l.i ≤ l.e)
