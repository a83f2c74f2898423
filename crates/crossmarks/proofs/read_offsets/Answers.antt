-- `crossmarks::read_offsets` meets its contract. The invariant: the offsets so far stand in the table. Assumes nothing.
use Rattle.crossmarks.specs.Noting.{OffsetsAre}
use Rattle.crossmarks.proofs.NotingLaws.{offsets_none, offsets_more, offsets_done}
use mathlib.Core.Path.{◌≡◌, refl, ◌∙◌}
use Prim.Native.Nat.{◌-◌, ◌≤◌}
use native.Mathlib.Omega.{arith}
use lib.ListN.{length, length-set}
use borrow.Author.Rules.{rules}
use Rattle.crossmarks.proofs.read_offsets.Goals as goal

pub loop-w-init : goal.loop-w-init
loop-w-init c = (omega arith, refl, offsets_none _ _ _ _)

pub loop-w-preserved : goal.loop-w-preserved
loop-w-preserved c =
    let L = c.loop-w in
    let A = c.args in
    (omega arith, length-set L.offsets L.w _ ∙ L.invariant.1, offsets_more A.b0 A.b1 A.points.now L.offsets L.w _ _ L.invariant.2 (omega (arith, c.requires.1, L.invariant.1)) c.place.ensures c.offset.ensures)

pub shape_of-offsets : goal.shape_of-offsets
shape_of-offsets c = c.loop-w.invariant.1

pub returns : goal.returns
returns c = offsets_done _ _ _ _ _ _ (omega arith) c.loop-w.invariant.2
