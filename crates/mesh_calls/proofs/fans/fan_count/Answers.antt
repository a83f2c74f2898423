-- `mesh_calls::fans::fan_count` meets its contract: the elements of the kind that was found. Assumes nothing.
use mathlib.Core.Path.{refl}
use Rattle.elements.specs.Table.{elements_in}
use Rattle.elements.specs.declared.Kind.TheVariants.{Triangles, Straps, Nothing}
use Rattle.lists.specs.Lists.{sift}
use Rattle.mesh_calls.proofs.Fanned.{fan_counted}
use native.Mathlib.Omega.{arith}
use borrow.Author.Rules.{rules}
use Rattle.mesh_calls.proofs.fans.fan_count.Goals as goal

pub returns-in-Triangles : goal.returns-in-Triangles
unfolding elements_in
returns-in-Triangles c = let A = c.args in λ points roots volumes lengths outline. fan_counted A.v A.k points roots A.corners.now volumes A.ends.now lengths outline _ Triangles _ c.kind_of-kind.ensures c.in-Triangles.is (c.triangles_with.ensures volumes)

pub returns-in-Straps : goal.returns-in-Straps
unfolding elements_in
returns-in-Straps c = let A = c.args in λ points roots volumes lengths outline. fan_counted A.v A.k points roots A.corners.now volumes A.ends.now lengths outline _ Straps _ c.kind_of-kind.ensures c.in-Straps.is (c.straps_with.ensures lengths)

pub returns-in-Nothing : goal.returns-in-Nothing
unfolding elements_in sift
returns-in-Nothing c = let A = c.args in λ points roots volumes lengths outline. fan_counted A.v A.k points roots A.corners.now volumes A.ends.now lengths outline _ Nothing _ c.kind_of-kind.ensures c.in-Nothing.is refl
