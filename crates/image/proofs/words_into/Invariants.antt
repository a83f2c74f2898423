-- `image::words_into` meets its contract: a block fills with words. Assumes nothing.
use Prim.Native.Nat.{◌+◌, ◌-◌}
use Rattle.image.specs.Words.{word_at_of}
use Rattle.image.proofs.Words.{Filling}
use Rattle.image.proofs.words_into.Given as goal

-- `image::words_into` meets its contract: a block fills with words. Assumes nothing.
abbrev pub invariant-loop-i : goal.invariant-loop-i
invariant-loop-i l = Filling (λ k. word_at_of l.bytes (l.at + k)) l.n l.initial.out l.out l.i
