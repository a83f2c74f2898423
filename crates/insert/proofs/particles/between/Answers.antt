use Rattle.blade.specs.Points.{lerp_of}
use Rattle.blade.specs.declared.Point.{Point}
use mathlib.Core.Path.{◌∙◌, ap₂}
use Rattle.insert.proofs.InsertLaws.{between_is}
use borrow.Author.Rules.{rules}
use Rattle.insert.proofs.particles.between.Goals as goal

-- src/particles.rt:76:1
pub returns : goal.returns
returns c = let A = c.args in
    let mixed : Point → Point → Point = λ f g. lerp_of f g A.plan.at in
    between_is A.plan A.m A.n A.damaged A.points.now _ _ _ _
    (c.lerp-at.ensures ∙ ap₂ mixed c.place.ensures c.place-2.ensures)
    (c.lerp-rest.ensures ∙ ap₂ mixed c.rest_point.ensures c.rest_point-2.ensures)
    (c.lerp-velocity.ensures ∙ ap₂ mixed c.velocity_of.ensures c.velocity_of-2.ensures)
    c.inv.ensures
