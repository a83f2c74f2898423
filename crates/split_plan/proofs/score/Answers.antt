-- `split_plan::score` meets its contract. Each call gives its part. Assumes nothing.
use mathlib.Core.Path.{◌∙◌, ap, ap₂}
use lib.Ieee.{Float, of_bits}
use Rattle.float.specs.Numbers.{over, times, max_of, small}
use Rattle.split_plan.specs.Answers.{score_by}
use Rattle.split_plan.proofs.score.Goals as goal

pub returns : goal.returns
unfolding score_by of_bits
returns c = ap₂ over c.dot.ensures (c.larger.ensures ∙ ap (λ (t : Float). max_of t small) (ap₂ times c.length.ensures c.length-2.ensures))
