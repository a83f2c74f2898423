-- `marks::sides::blade_sides` meets its contract. Rounded numbers decide, or signs for triangles. Assumes nothing.
use Rattle.marks.proofs.SideLaws.{other?, by_rounded, by_signs, by_others}
use Rattle.marks.specs.Sided.{SidesRoom}
use Rattle.elements.specs.declared.Kind.{Kind}
use Rattle.elements.specs.Table.{kind_is}
use Rattle.model.specs.Elements.{corners_per_of}
use lib.ListN.{length}
use mathlib.Core.Path.{subst, ap}
use borrow.Author.Rules.{rules}
use Rattle.marks.proofs.sides.blade_sides.Goals as goal

pub returns-in_default : goal.returns-in_default
returns-in_default c =
    let A = c.args in
    by_rounded (kind_is A.kind) A.rule A.b0 A.b1 A.v A.n A.verts.now A.points.now _ c.in_default.is c.rounded_sides.ensures

pub sign_sides-requires : goal.sign_sides-requires
sign_sides-requires c =
    let A = c.args in
    subst (λ (k : Kind). SidesRoom A.v (corners_per_of (kind_is k)) A.n A.verts.now (length A.points.now) (length A.sides.now)) c.in-Triangles.is c.requires

pub returns-in-Triangles : goal.returns-in-Triangles
returns-in-Triangles c =
    let A = c.args in
    by_signs (kind_is A.kind) A.rule A.b0 A.b1 A.v A.n A.verts.now A.points.now _ c.in-Signs.is (ap kind_is c.in-Triangles.is) c.sign_sides.ensures

pub returns-in-Straps : goal.returns-in-Straps
returns-in-Straps c =
    let A = c.args in
    by_others (kind_is A.kind) A.rule A.b0 A.b1 A.v A.n A.verts.now A.points.now _ c.in-Signs.is (ap (λ (k : Kind). other? (kind_is k)) c.in-Straps.is) c.rounded_sides-in-Straps.ensures

pub returns-in-Nothing : goal.returns-in-Nothing
returns-in-Nothing c =
    let A = c.args in
    by_others (kind_is A.kind) A.rule A.b0 A.b1 A.v A.n A.verts.now A.points.now _ c.in-Signs.is (ap (λ (k : Kind). other? (kind_is k)) c.in-Nothing.is) c.rounded_sides-in-Nothing.ensures
