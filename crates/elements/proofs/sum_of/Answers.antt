-- `elements::sum_of` meets its contract. The invariant: s is the sum of the numbers that were passed. Assumes nothing.
use Prim.Native.Nat.{ℕ}
use native.Mathlib.Omega.{arith}
use mathlib.Core.Path.{◌≡◌, sym, ◌∙◌, ap}
use lib.ListN.{take, get_or}
use lib.Ieee.{Float, of_bits, nan}
use Rattle.float.specs.Numbers.{plus}
use Rattle.model.specs.Elements.{sum}
use Rattle.elements.proofs.Measures.{sum_none, sum_front}
use Rattle.elements.proofs.sum_of.Goals as goal

pub loop-i-init : goal.loop-i-init
unfolding of_bits
loop-i-init c = (omega arith, sym sum_none)

pub loop-i-preserved : goal.loop-i-preserved
loop-i-preserved c = let L = c.loop-i in
    let l = c.args.measures.now in
    (omega arith, ap (λ (x : Float). plus x (get_or l L.i nan)) L.invariant.1 ∙ sym (sum_front l L.i (omega arith)))

pub returns : goal.returns
returns c = let e : c.loop-i.i ≡ c.args.n = omega arith in
    c.loop-i.invariant.1 ∙ ap (λ (j : ℕ). sum (take j c.args.measures.now)) e
