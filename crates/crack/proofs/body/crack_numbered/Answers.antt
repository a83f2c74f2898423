-- `crack::body::crack_numbered` meets its contract: a number that is not below e is skipped, any other is cracked. Assumes nothing.
use Prim.Native.Nat.{ℕ, ◌<◌, ◌≤◌}
use native.Mathlib.Omega.{arith}
use mathlib.Core.Path.{sym, subst}
use mathlib.Core.Bool.{Bool}
use mathlib.Core.List.{List, [], ◌∷◌, map}
use borrow.Author.Tests.{le-ltb, lt-ltb}
use lib.ListN.{get_or}
use lib.Ieee.{Float}
use Rattle.lists.specs.Lists.{pick, sift, fold}
use Rattle.model.specs.Elements.{Kind}
use Rattle.elements.specs.Table.{kind_is}
use Rattle.mesh.specs.Log.{World, world_at}
use Rattle.mesh.specs.declared.Counts.{Counts}
use Rattle.mesh.specs.declared.Rooms.{Rooms}
use Rattle.work.specs.Working.{Within}
use Rattle.work.specs.Ran.{Ran}
use Rattle.tornedge.specs.Cracks.{CrackTold}
use Rattle.crack.specs.Bodies.{ends_listed, CracksTold}
use Rattle.crack.proofs.BodyLaws.{cracks_none}
use Rattle.crack.proofs.body.crack_numbered.Goals as goal
use Rattle.std.specs.Prelude.{Ok}

-- `crack::body::crack_numbered` meets its contract: a number that is not below e is skipped, any other is cracked. Assumes nothing.
-- a number that is skipped
number_skipped : (K : Kind) (min t : ℕ) (loads : List Float) (L : Rooms) (e : ℕ) (from to : List ℕ) (n : ℕ) {at : Counts → World} (k : Counts) → e ≤ n → Within k L → CracksTold K min t (ends_listed e from to (n ∷ [])) loads L (at k) at (Ok k)
unfolding ends_listed sift
number_skipped K min t loads L e from to n {at} k h b =
    subst (λ (s : Bool). CracksTold K min t (map (λ i. (get_or from i 0, get_or to i 0)) (pick s (n ∷ []) [])) loads L (at k) at (Ok k)) (sym (le-ltb n e h)) (cracks_none K min t loads L k b)

-- one that is cracked
number_cracked : {K : Kind} {min t : ℕ} {loads : List Float} {L : Rooms} {W : World} {at : Counts → World} {r : Ran} (e : ℕ) (from to : List ℕ) (n : ℕ) → n < e → CrackTold K min (get_or from n 0) (get_or to n 0) t loads L W at r
    → CracksTold K min t (ends_listed e from to (n ∷ [])) loads L W at r
unfolding ends_listed sift fold
number_cracked {K} {min} {t} {loads} {L} {W} {at} {r} e from to n h F =
    subst (λ (s : Bool). CracksTold K min t (map (λ i. (get_or from i 0, get_or to i 0)) (pick s (n ∷ []) [])) loads L W at r) (sym (lt-ltb n e h)) (record { works = F.works })

pub returns-then-number-e : goal.returns-then-number-e
returns-then-number-e c = let A = c.args in
    (number_skipped (kind_is A.kind) A.minimum A.k.triangles A.loads.now A.room A.e A.from.now A.to.now A.number {at = λ q. world_at q A.points.now A.roots.now A.corners.now A.volumes.now A.ends.now A.lengths.now A.outline.now A.log.now} A.k (omega (arith, c.if-number-e.true)) c.requires.0.counts, c.requires.2)

pub crack_edge-requires : goal.crack_edge-requires
crack_edge-requires c = let P = c.requires in (P.0, P.1.logged, P.1.loads, P.1.first_few c.args.number (omega (arith, c.if-number-e.false)), P.1.second_few c.args.number (omega (arith, c.if-number-e.false)), P.2)

pub shape_of-points : goal.shape_of-points
shape_of-points c = c.crack_edge.auto.points

pub shape_of-roots : goal.shape_of-roots
shape_of-roots c = c.crack_edge.auto.roots

pub shape_of-corners : goal.shape_of-corners
shape_of-corners c = c.crack_edge.auto.corners

pub shape_of-ends : goal.shape_of-ends
shape_of-ends c = c.crack_edge.auto.ends

pub shape_of-lengths : goal.shape_of-lengths
shape_of-lengths c = c.crack_edge.auto.lengths

pub shape_of-outline : goal.shape_of-outline
shape_of-outline c = c.crack_edge.auto.outline

pub shape_of-log : goal.shape_of-log
shape_of-log c = c.crack_edge.auto.log

pub shape_of-links : goal.shape_of-links
shape_of-links c = c.crack_edge.auto.links

pub returns : goal.returns
returns c = let A = c.args in
    (number_cracked A.e A.from.now A.to.now A.number (omega (arith, c.if-number-e.false)) c.crack_edge.ensures.0, c.crack_edge.ensures.1)
