-- `image_writing::words_out` meets its contract: one word more a turn. Assumes nothing.
use Prim.Native.Nat.{◌-◌}
use native.Mathlib.Omega.{arith}
use borrow.Author.Rules.{rules}
use Rattle.image.proofs.Words.{Writing, write_start, write_more, write_done}
use Rattle.image_writing.proofs.words_out.Given as goal

-- `image_writing::words_out` meets its contract: one word more a turn. Assumes nothing.
abbrev pub invariant-loop-i : goal.invariant-loop-i
invariant-loop-i l = Writing l.first l.table l.n l.initial.out l.out l.i
