-- `mesh_tables::measures::strap_sum` meets its contract: s is the sum of the straps among the edges that were passed. Assumes nothing.
use borrow.Author.Rules.{rules}
use native.Mathlib.Omega.{arith}
use Prim.Native.Nat.{ℕ, ◌+◌, ◌/◌, ◌≤◌, ◌-◌}
use lib.Ieee.{Float, of_bits, nan}
use lib.ListN.{length, get_or}
use Rattle.float.specs.Numbers.{plus}
use mathlib.Core.Path.{◌≡◌, sym, ◌∙◌, ap}
use mathlib.Core.Logic.{⊎_elim}
use Rattle.model.specs.Elements.{straps_from}
use Rattle.mesh.specs.At.{edges_at}
use Rattle.mesh_tables.proofs.Summing.{summed, straps_none, straps_take, straps_skip}
use Rattle.mesh_tables.proofs.measures.strap_sum.Goals as goal
use Rattle.mesh_tables.proofs.measures.strap_sum.Goals.{else-ends-c-eq1, then-ends-c-eq1}

pub loop-i-init : goal.loop-i-init
unfolding of_bits
loop-i-init c = (omega arith, sym (straps_none c.args.ends.now c.args.lengths.now))

pub loop-i-preserved : goal.loop-i-preserved
loop-i-preserved c =
    let A = c.args in
    let L = c.loop-i in
    let E = A.ends.now in
    let S = A.lengths.now in
    elim c.if-ends-c-eq1.branch [
      | then-ends-c-eq1 w ↦ (omega arith, w.s-is ∙ ap (λ (x : Float). plus x (get_or S (length S / 4 + L.i) nan)) L.invariant.1 ∙ sym (straps_take E S L.i w.if-ends-c-eq1.true))
      | else-ends-c-eq1 w ↦ (omega arith, w.s-is ∙ L.invariant.1 ∙ sym (straps_skip E S L.i w.if-ends-c-eq1.false))
    ]

pub returns : goal.returns
returns c =
    let A = c.args in
    let L = c.loop-i in
    let e : L.i ≡ A.e = omega (arith, L.invariant.0) in
    L.invariant.1 ∙ ap (λ (j : ℕ). summed (straps_from 0 (edges_at j A.ends.now A.lengths.now))) e
