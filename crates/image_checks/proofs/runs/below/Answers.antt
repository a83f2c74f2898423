-- `image_checks::runs::below` meets its contract: the word of the words so far tells of each of them. Assumes nothing.
use native.Mathlib.Omega.{arith}
use Prim.Native.Nat.{ℕ}
use mathlib.Core.Path.{ap, ◌∙◌}
use lib.Dec.{ltb}
use Rattle.judge.specs.Told.{fine}
use Rattle.judge.proofs.Wide.{none_told, more_told, end_told}
use Rattle.judge.proofs.Fine.{or_fine}
use Rattle.image_checks.proofs.runs.below.Goals as goal

pub loop-i-init : goal.loop-i-init
unfolding fine
loop-i-init c = (none_told _, omega arith)

pub one-fault-requires : goal.one-fault-requires
one-fault-requires c = (omega arith, c.word_at.ensures.1)

pub loop-i-preserved : goal.loop-i-preserved
loop-i-preserved c = (more_told _ _ _ _ _ (or_fine _ _) c.loop-i.invariant.0 (c.one-fault.ensures ∙ ap (λ (w : ℕ). ltb w c.args.bound) c.word_at.ensures.0), omega arith)

pub returns : goal.returns
unfolding fine
returns c = end_told _ _ _ _ c.loop-i.invariant.0 c.loop-i.invariant.1 c.loop-i-test.false
