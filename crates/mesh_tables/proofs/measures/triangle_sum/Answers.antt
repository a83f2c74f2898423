-- `mesh_tables::measures::triangle_sum` meets its contract: s is the sum of the triangles that were passed. Assumes nothing.
use borrow.Author.Rules.{rules}
use native.Mathlib.Omega.{arith}
use Prim.Native.Nat.{ℕ, ◌≤◌, ◌-◌}
use lib.Ieee.{Float, of_bits, nan}
use Rattle.float.specs.Numbers.{plus}
use mathlib.Core.Path.{◌≡◌, sym, ◌∙◌, ap, ap₂}
use Rattle.model.specs.Elements.{triangles_from}
use Rattle.mesh.specs.At.{triangles_at}
use Rattle.mesh_tables.proofs.Summing.{summed, triangles_none, triangles_sum}
use Rattle.mesh_tables.proofs.measures.triangle_sum.Goals as goal

pub loop-i-init : goal.loop-i-init
unfolding of_bits
loop-i-init c = (omega arith, sym (triangles_none c.args.corners.now c.args.volumes.now))

pub loop-i-preserved : goal.loop-i-preserved
loop-i-preserved c =
    let A = c.args in
    let L = c.loop-i in
    (omega arith, ap₂ plus L.invariant.1 c.abs-s.ensures ∙ sym (triangles_sum A.corners.now A.volumes.now L.i))

pub returns : goal.returns
returns c =
    let A = c.args in
    let L = c.loop-i in
    let e : L.i ≡ A.t = omega (arith, L.invariant.0) in
    L.invariant.1 ∙ ap (λ (j : ℕ). summed (triangles_from 0 (triangles_at j A.corners.now A.volumes.now))) e
