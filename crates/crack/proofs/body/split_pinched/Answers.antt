-- `crack::body::split_pinched` meets its contract: those of triangles are split in the tables that are here; there are none of another kind. Assumes nothing.
use native.Mathlib.Omega.{arith}
use Rattle.mesh.specs.Log.{world_at}
use Rattle.crack.proofs.BodyLaws.{pinched_linked, pinched_split, pinched_straps, pinched_nothing}
use Rattle.crack.proofs.body.split_pinched.Goals as goal

pub split_pinched-requires : goal.split_pinched-requires
split_pinched-requires c = let A = c.args in let P = c.requires in (P.0, P.1, omega arith, omega arith, pinched_linked A.kind c.in-Triangles.is P.2)

pub shape_of-points : goal.shape_of-points
shape_of-points c = c.split_pinched.auto.points

pub shape_of-roots : goal.shape_of-roots
shape_of-roots c = c.split_pinched.auto.roots

pub shape_of-corners : goal.shape_of-corners
shape_of-corners c = c.split_pinched.auto.corners

pub shape_of-ends : goal.shape_of-ends
shape_of-ends c = c.split_pinched.auto.ends

pub shape_of-lengths : goal.shape_of-lengths
shape_of-lengths c = c.split_pinched.auto.lengths

pub shape_of-outline : goal.shape_of-outline
shape_of-outline c = c.split_pinched.auto.outline

pub shape_of-log : goal.shape_of-log
shape_of-log c = c.split_pinched.auto.log

pub shape_of-links : goal.shape_of-links
shape_of-links c = c.split_pinched.auto.links

pub returns-in-Triangles : goal.returns-in-Triangles
returns-in-Triangles c = let A = c.args in pinched_split A.kind c.in-Triangles.is c.split_pinched.ensures.0

pub returns-in-Straps : goal.returns-in-Straps
returns-in-Straps c = let A = c.args in let P = c.requires in pinched_straps A.kind (λ q. world_at q A.points.now A.roots.now A.corners.now A.volumes.now A.ends.now A.lengths.now A.outline.now A.log.now) A.k c.in-Straps.is P.0.counts

pub returns-in-Nothing : goal.returns-in-Nothing
returns-in-Nothing c = let A = c.args in let P = c.requires in pinched_nothing A.kind (λ q. world_at q A.points.now A.roots.now A.corners.now A.volumes.now A.ends.now A.lengths.now A.outline.now A.log.now) A.k c.in-Nothing.is P.0.counts
