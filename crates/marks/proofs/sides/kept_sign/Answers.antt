-- `marks::sides::kept_sign` meets its contract. The invariant: v and the rows so far are on the line. Assumes nothing.
use Rattle.marks.proofs.SignLaws.{triangle_in, AllOn, on_none, on_more, sign_own, sign_first, sign_none}
use Rattle.marks.specs.Marking.{blade_by}
use Rattle.marks.specs.declared.Rule.TheVariants.{Signs}
use Prim.Native.Nat.{◌≤◌, ◌-◌, ◌*◌, ◌+◌}
use mathlib.Core.Path.{◌≡◌, sym, ◌∙◌}
use borrow.Author.Rules.{rules}
use borrow.Author.Tests.{not-true, not-false}
use native.Mathlib.Omega.{arith}
use mathlib.Core.Path.{ap}
use mathlib.Core.Bool.{not}
use Rattle.marks.proofs.sides.kept_sign.Goals as goal

pub place-requires : goal.place-requires
place-requires c = c.requires.here

pub returns-then-not-on_line : goal.returns-then-not-on_line
returns-then-not-on_line c =
    let A = c.args in
    sign_own (blade_by Signs A.b0 A.b1) A.points.now A.v A.n A.verts.now _ _ _ c.place.ensures c.offset.ensures c.sign_of-own.ensures
    (sym c.on_line.ensures ∙ not-true _ (ap not c.if-not-on_line.true))

pub loop-i-init : goal.loop-i-init
loop-i-init c = let A = c.args in
    (omega arith, omega arith, on_none (blade_by Signs A.b0 A.b1) A.points.now A.verts.now)

pub row_sign-s-requires : goal.row_sign-s-requires
row_sign-s-requires c =
    let L = c.loop-i in
    triangle_in c.args.n c.args.verts.now _ c.requires.long c.requires.corners_in L.i L.at (L.at + 3 - L.at) c.loop-i-test.true L.invariant.1 (omega arith)

pub returns-then-not-on_line-2 : goal.returns-then-not-on_line-2
returns-then-not-on_line-2 c =
    let L = c.loop-i in
    let A = c.args in
    sign_first (blade_by Signs A.b0 A.b1) A.points.now A.v A.n A.verts.now _ _ _ c.place.ensures c.offset.ensures c.sign_of-own.ensures
    (sym c.on_line.ensures ∙ not-false _ (ap not c.if-not-on_line.false)) L.i L.at (L.at + 3 - L.at) _ c.loop-i-test.true L.invariant.2 L.invariant.1 (omega arith)
    c.row_sign-s.ensures (sym c.on_line-in-loop-i.ensures ∙ not-true _ (ap not c.if-not-on_line-2.true))

pub loop-i-preserved : goal.loop-i-preserved
loop-i-preserved c =
    let L = c.loop-i in
    let A = c.args in (
      omega arith,
      omega (arith, L.invariant.1),
      on_more (blade_by Signs A.b0 A.b1) A.points.now A.verts.now L.i L.at (L.at + 3 - L.at) _ L.invariant.2 L.invariant.1 (omega arith)
          c.row_sign-s.ensures (sym c.on_line-in-loop-i.ensures ∙ not-false _ (ap not c.if-not-on_line-2.false)),
    )

pub returns : goal.returns
returns c =
    let L = c.loop-i in
    let A = c.args in
    sign_none (blade_by Signs A.b0 A.b1) A.points.now A.v A.n A.verts.now _ _ _ c.place.ensures c.offset.ensures c.sign_of-own.ensures
    (sym c.on_line.ensures ∙ not-false _ (ap not c.if-not-on_line.false)) L.i (omega arith) L.invariant.2
