-- The loop of `fans_export::fans_scan`: so many triangles were looked at, and at most as many found. Assumes nothing.
use Rattle.std.specs.Prelude.{length, ◌-◌, ◌*◌, ◌≤◌, ◌≡◌}
use Rattle.fans_export.proofs.fans_scan.Given as goal

abbrev pub invariant-loop-i : goal.invariant-loop-i
invariant-loop-i l = (l.i ≤ l.fn.t) × (l.r ≤ l.i) × (l.o ≡ 3 * l.r) × (length l.numbers ≡ length l.initial.numbers) × (length l.verts ≡ length l.initial.verts) × (length l.measures ≡ length l.initial.measures)
