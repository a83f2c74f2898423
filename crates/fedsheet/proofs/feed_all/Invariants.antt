-- The loop of `fedsheet::feed_all`: a turn is one part. Assumes nothing.
use Rattle.std.specs.Prelude.{◌≡◌, length}
use Rattle.fedsheet.proofs.feed_all.Given as goal

abbrev pub invariant-loop : goal.invariant-loop
invariant-loop l = length l.reader ≡ length l.initial.reader
