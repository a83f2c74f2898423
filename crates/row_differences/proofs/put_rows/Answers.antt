-- `row_differences::put_rows` meets its contract: one place a turn, to the end of the longer list. Assumes nothing.
use Rattle.row_differences.proofs.Walking.{walk_start, walk_more, walk_done, coords_at}
use native.Mathlib.Omega.{arith}
use Rattle.row_differences.proofs.put_rows.Goals as goal

pub loop-k-init : goal.loop-k-init
loop-k-init c = walk_start _ _ _ _ _ _

pub reading-r-requires : goal.reading-r-requires
reading-r-requires c = c.requires.first

pub reading-s-requires : goal.reading-s-requires
reading-s-requires c = c.requires.second

pub put_place-l-requires : goal.put_place-l-requires
put_place-l-requires c = let a = c.args in let p = c.requires in let W = c.loop-k.invariant in let L = c.longer-n.ensures in record { first = coords_at a.part a.a.now a.b.now a.c.now _ _ c.reading-r.ensures p.coords; second = coords_at a.part a.x.now a.y.now a.z.now _ _ c.reading-s.ensures p.coords_second; few = omega (arith, c.loop-k.invariant.few, c.loop-k.invariant.below, L.few, p.few, p.few_second, p.counted) }

pub loop-k-preserved : goal.loop-k-preserved
loop-k-preserved c = let a = c.args in walk_more a.part a.a.now a.b.now a.c.now a.x.now a.y.now a.z.now _ _ _ _ _ _ _ _ _ _ c.loop-k.invariant c.loop-k-test.true c.reading-r.ensures c.reading-s.ensures c.put_place-l.ensures c.put_place-l.auto.out

pub shape_of-out : goal.shape_of-out
shape_of-out c = c.loop-k.invariant.long

pub returns : goal.returns
returns c = let a = c.args in let L = c.longer-n.ensures in walk_done a.part a.a.now a.b.now a.c.now a.x.now a.y.now a.z.now _ _ _ _ _ _ c.loop-k.invariant c.loop-k-test.false L.first L.second
