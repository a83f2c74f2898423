-- The loop of `replay::replay`: a turn is one call. Assumes nothing.
use Rattle.std.specs.Prelude.{length, ◌≡◌, ◌≤◌}
use Rattle.replay.proofs.replay.Given as goal

abbrev pub invariant-loop-number : goal.invariant-loop-number
invariant-loop-number g l =
    (l.calls ≡ l.number) × (l.passed ≤ l.calls) × (length l.bytes ≡ length l.initial.bytes) × (length l.out ≡ length l.initial.out) × (length l.log ≡ length l.initial.log)
