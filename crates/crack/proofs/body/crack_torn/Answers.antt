-- `crack::body::crack_torn` meets its contract: the tables hold the ends and the loads of the input, and the edges are cracked by them. Assumes nothing.
use native.Mathlib.Omega.{arith}
use lib.ListN.{get_or-replicate}
use Rattle.elements.specs.Table.{kind_is}
use Rattle.tear.proofs.LinkLaws.{numbered}
use Rattle.crack.proofs.BodyLaws.{turns_work}
use Rattle.crack.proofs.body.crack_torn.Goals as goal

-- `crack::body::crack_torn` meets its contract: the tables hold the ends and the loads of the input, and the edges are cracked by them. Assumes nothing.
pub overflow_cast-none : goal.overflow_cast-none
overflow_cast-none c = let P = c.requires.0 in omega (arith, c.requires.0.counts.edges, c.requires.0.rooms.few_edges)

pub read_loads-requires : goal.read_loads-requires
read_loads-requires c = let P = c.requires.0 in let A = c.args in
    let N = numbered A.room A.k A.points.now A.roots.now A.corners.now A.volumes.now A.ends.now A.lengths.now A.outline.now _ P in (
      record {
        corners = omega (arith, c.requires.0.counts.triangles, c.requires.0.rooms.corners);
        volumes = omega (arith, c.requires.0.counts.triangles, c.requires.0.rooms.volumes);
        edges = record { ends = omega (arith, c.requires.0.counts.edges, c.requires.0.rooms.ends); lengths = omega (arith, c.requires.0.counts.edges, c.requires.0.rooms.lengths) };
      },
      omega (arith, c.requires.0.counts.triangles, c.requires.0.rooms.few_triangles),
      N,
      record {
        inside = omega (arith, c.requires.0.counts.edges, c.requires.0.rooms.ends);
        below = N.ends_in;
        long = omega arith;
        empty = λ s h. get_or-replicate 2048 s A.k.edges 0 h;
        nexts = omega (arith, c.requires.0.counts.edges, c.requires.0.rooms.few_edges);
      },
    )

pub keep_ends-requires : goal.keep_ends-requires
keep_ends-requires c = let P = c.requires.0 in let A = c.args in
    record {
      inside = omega (arith, c.requires.0.counts.edges, c.requires.0.rooms.ends);
      below = (numbered A.room A.k A.points.now A.roots.now A.corners.now A.volumes.now A.ends.now A.lengths.now A.outline.now _ P).ends_in;
      first = omega (arith, c.requires.0.counts.edges, c.requires.0.rooms.few_edges, c.read_loads.auto.heads);
      second = omega (arith, c.requires.0.counts.edges, c.requires.0.rooms.few_edges, c.read_loads.auto.nexts);
    }

pub crack_listed-requires : goal.crack_listed-requires
crack_listed-requires c = let P = c.requires in let A = c.args in let K = c.keep_ends in
    let N = numbered A.room A.k A.points.now A.roots.now A.corners.now A.volumes.now A.ends.now A.lengths.now A.outline.now _ P.0 in (
      P.0,
      record {
        first = omega (arith, P.0.counts.edges, P.0.rooms.few_edges, c.keep_ends.auto.from, c.read_loads.auto.heads);
        second = omega (arith, P.0.counts.edges, P.0.rooms.few_edges, c.keep_ends.auto.to, c.read_loads.auto.nexts);
        first_few = λ i l. omega (arith, K.ensures.first i l, N.ends_in.first i l);
        second_few = λ i l. omega (arith, K.ensures.second i l, N.ends_in.second i l);
        loads = record { long = λ q. omega (arith, P.0.counts.triangles, P.0.rooms.few_triangles, c.read_loads.auto.loads) };
        logged = P.1;
      },
      P.2,
    )

pub shape_of-points : goal.shape_of-points
shape_of-points c = c.crack_listed.auto.points

pub shape_of-roots : goal.shape_of-roots
shape_of-roots c = c.crack_listed.auto.roots

pub shape_of-corners : goal.shape_of-corners
shape_of-corners c = c.crack_listed.auto.corners

pub shape_of-ends : goal.shape_of-ends
shape_of-ends c = c.crack_listed.auto.ends

pub shape_of-lengths : goal.shape_of-lengths
shape_of-lengths c = c.crack_listed.auto.lengths

pub shape_of-outline : goal.shape_of-outline
shape_of-outline c = c.crack_listed.auto.outline

pub shape_of-log : goal.shape_of-log
shape_of-log c = c.crack_listed.auto.log

pub shape_of-links : goal.shape_of-links
shape_of-links c = c.crack_listed.auto.links

pub returns : goal.returns
returns c = let A = c.args in
    (turns_work (kind_is A.kind) A.minimum A.torn.now A.k A.points.now A.roots.now A.corners.now A.volumes.now A.ends.now A.lengths.now A.outline.now A.log.now _ _ _ c.keep_ends.ensures c.read_loads.ensures c.crack_listed.ensures.0, c.crack_listed.ensures.1)
