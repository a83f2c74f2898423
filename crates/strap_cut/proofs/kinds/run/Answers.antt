-- `strap_cut::kinds::run` meets its contract: each kind is cut by its own worker, and nothing is done to neither. Assumes nothing.
use Rattle.strap_cut.proofs.KindLaws.{cut_triangles, cut_straps, cut_nothing}
use borrow.Author.Rules.{rules}
use Rattle.mesh.specs.Log.{world_at}
use Rattle.strap_cut.proofs.kinds.run.Goals as goal

pub cut_triangles-requires : goal.cut_triangles-requires
cut_triangles-requires c = let P = c.requires in (P.0, P.1)

pub cut_straps-requires : goal.cut_straps-requires
cut_straps-requires c = c.requires

pub shape_of-points-in-Triangles : goal.shape_of-points-in-Triangles
shape_of-points-in-Triangles c = c.cut_triangles.auto.points

pub shape_of-roots-in-Triangles : goal.shape_of-roots-in-Triangles
shape_of-roots-in-Triangles c = c.cut_triangles.auto.roots

pub shape_of-corners-in-Triangles : goal.shape_of-corners-in-Triangles
shape_of-corners-in-Triangles c = c.cut_triangles.auto.corners

pub shape_of-ends-in-Triangles : goal.shape_of-ends-in-Triangles
shape_of-ends-in-Triangles c = c.cut_triangles.auto.ends

pub shape_of-lengths-in-Triangles : goal.shape_of-lengths-in-Triangles
shape_of-lengths-in-Triangles c = c.cut_triangles.auto.lengths

pub shape_of-outline-in-Triangles : goal.shape_of-outline-in-Triangles
shape_of-outline-in-Triangles c = c.cut_triangles.auto.outline

pub shape_of-log-in-Triangles : goal.shape_of-log-in-Triangles
shape_of-log-in-Triangles c = c.cut_triangles.auto.log

pub returns-in-Triangles : goal.returns-in-Triangles
returns-in-Triangles c = let A = c.args in
    cut_triangles A.room A.rule A.b0 A.b1 A.f A.kind c.in-Triangles.is c.cut_triangles.ensures

pub shape_of-points-in-Straps : goal.shape_of-points-in-Straps
shape_of-points-in-Straps c = c.cut_straps.auto.points

pub shape_of-roots-in-Straps : goal.shape_of-roots-in-Straps
shape_of-roots-in-Straps c = c.cut_straps.auto.roots

pub shape_of-corners-in-Straps : goal.shape_of-corners-in-Straps
shape_of-corners-in-Straps c = c.cut_straps.auto.corners

pub shape_of-ends-in-Straps : goal.shape_of-ends-in-Straps
shape_of-ends-in-Straps c = c.cut_straps.auto.ends

pub shape_of-lengths-in-Straps : goal.shape_of-lengths-in-Straps
shape_of-lengths-in-Straps c = c.cut_straps.auto.lengths

pub shape_of-outline-in-Straps : goal.shape_of-outline-in-Straps
shape_of-outline-in-Straps c = c.cut_straps.auto.outline

pub shape_of-log-in-Straps : goal.shape_of-log-in-Straps
shape_of-log-in-Straps c = c.cut_straps.auto.log

pub shape_of-list : goal.shape_of-list
shape_of-list c = c.cut_straps.auto.list

pub returns-in-Straps : goal.returns-in-Straps
returns-in-Straps c = let A = c.args in
    cut_straps A.room A.rule A.b0 A.b1 A.f A.kind c.in-Straps.is c.cut_straps.ensures

pub returns-in-Nothing : goal.returns-in-Nothing
returns-in-Nothing c = let A = c.args in
    cut_nothing A.room A.rule A.b0 A.b1 A.f A.kind (λ q. world_at q A.points.now A.roots.now A.corners.now A.volumes.now A.ends.now A.lengths.now A.outline.now A.log.now) A.k c.in-Nothing.is c.requires.0.counts
