-- `pieces::sides::join_facet` meets its contract. Assumes nothing.
use borrow.Author.Rules.{rules}
use native.Mathlib.Omega.{arith}
use mathlib.Core.Path.{◌≡◌}
use Prim.Native.Nat.{◌<◌}
use lib.ListN.{length-set}
use Rattle.pieces.proofs.FacetChains.{facet_with, sought, sided_pass, join_ready, sided_join}
use Rattle.pieces.proofs.sides.join_facet.Goals as goal

pub overflow_mul-h : goal.overflow_mul-h
overflow_mul-h c =
    let P = c.requires in
    let F = facet_with c.smaller_of-low.ensures c.larger_of-high.ensures P.step in
    omega (arith, F.chain, F.inside, P.room.few, P.room.heads_long, P.room.links_long, P.room.lows_long)

pub overflow_add-h : goal.overflow_add-h
overflow_add-h c =
    let P = c.requires in
    let F = facet_with c.smaller_of-low.ensures c.larger_of-high.ensures P.step in
    omega (arith, F.chain, F.inside, P.room.few, P.room.heads_long, P.room.links_long, P.room.lows_long)

pub offset_bounds-heads-h : goal.offset_bounds-heads-h
offset_bounds-heads-h c =
    let P = c.requires in
    let F = facet_with c.smaller_of-low.ensures c.larger_of-high.ensures P.step in
    omega (arith, F.chain, F.inside, P.room.few, P.room.heads_long, P.room.links_long, P.room.lows_long)

pub bounds-heads-h : goal.bounds-heads-h
bounds-heads-h c =
    let P = c.requires in
    let F = facet_with c.smaller_of-low.ensures c.larger_of-high.ensures P.step in
    omega (arith, F.chain, F.inside, P.room.few, P.room.heads_long, P.room.links_long, P.room.lows_long)

pub overflow_add-heads : goal.overflow_add-heads
overflow_add-heads c =
    let P = c.requires in
    let F = facet_with c.smaller_of-low.ensures c.larger_of-high.ensures P.step in
    omega (arith, F.chain, F.inside, P.room.few, P.room.heads_long, P.room.links_long, P.room.lows_long)

pub overflow_cast-heads : goal.overflow_cast-heads
overflow_cast-heads c =
    let P = c.requires in
    let F = facet_with c.smaller_of-low.ensures c.larger_of-high.ensures P.step in
    omega (arith, F.chain, F.inside, P.room.few, P.room.heads_long, P.room.links_long, P.room.lows_long)

pub offset_bounds-heads-h-2 : goal.offset_bounds-heads-h-2
offset_bounds-heads-h-2 c =
    let P = c.requires in
    let F = facet_with c.smaller_of-low.ensures c.larger_of-high.ensures P.step in
    omega (arith, F.chain, F.inside, P.room.few, P.room.heads_long, P.room.links_long, P.room.lows_long)

pub bounds-heads-h-2 : goal.bounds-heads-h-2
bounds-heads-h-2 c =
    let P = c.requires in
    let F = facet_with c.smaller_of-low.ensures c.larger_of-high.ensures P.step in
    omega (arith, F.chain, F.inside, P.room.few, P.room.heads_long, P.room.links_long, P.room.lows_long)

pub offset_bounds-links-t : goal.offset_bounds-links-t
offset_bounds-links-t c =
    let P = c.requires in
    let F = facet_with c.smaller_of-low.ensures c.larger_of-high.ensures P.step in
    omega (arith, F.chain, F.inside, P.room.few, P.room.heads_long, P.room.links_long, P.room.lows_long)

pub bounds-links-t : goal.bounds-links-t
bounds-links-t c =
    let P = c.requires in
    let F = facet_with c.smaller_of-low.ensures c.larger_of-high.ensures P.step in
    omega (arith, F.chain, F.inside, P.room.few, P.room.heads_long, P.room.links_long, P.room.lows_long)

pub overflow_cast-lows : goal.overflow_cast-lows
overflow_cast-lows c =
    let P = c.requires in
    let F = facet_with c.smaller_of-low.ensures c.larger_of-high.ensures P.step in
    omega (arith, F.chain, F.inside, P.room.few, P.room.heads_long, P.room.links_long, P.room.lows_long)

pub offset_bounds-lows-t : goal.offset_bounds-lows-t
offset_bounds-lows-t c =
    let P = c.requires in
    let F = facet_with c.smaller_of-low.ensures c.larger_of-high.ensures P.step in
    omega (arith, F.chain, F.inside, P.room.few, P.room.heads_long, P.room.links_long, P.room.lows_long)

pub bounds-lows-t : goal.bounds-lows-t
bounds-lows-t c =
    let P = c.requires in
    let F = facet_with c.smaller_of-low.ensures c.larger_of-high.ensures P.step in
    omega (arith, F.chain, F.inside, P.room.few, P.room.heads_long, P.room.links_long, P.room.lows_long)

pub find_facet-e-requires : goal.find_facet-e-requires
find_facet-e-requires c =
    let P = c.requires in
    let F = facet_with c.smaller_of-low.ensures c.larger_of-high.ensures P.step in
    sought P.room F P.sided c.from.result c.from.ensures

pub element_of-j-requires : goal.element_of-j-requires
element_of-j-requires c = c.requires.room.rows.some

pub join-requires : goal.join-requires
join-requires c =
    let P = c.requires in
    let F = facet_with c.smaller_of-low.ensures c.larger_of-high.ensures P.step in
    let l : 0 < c.find_facet-e.result = search rules in
    join_ready P.room F P.sided (c.find_facet-e.ensures (sought P.room F P.sided c.from.result c.from.ensures)) l c.element_of-j.ensures

pub shape_of-heads-then-e-gt0 : goal.shape_of-heads-then-e-gt0
shape_of-heads-then-e-gt0 c = length-set c.args.heads.now _ _

pub shape_of-links-then-e-gt0 : goal.shape_of-links-then-e-gt0
shape_of-links-then-e-gt0 c = length-set c.args.links.now _ _

pub shape_of-lows-then-e-gt0 : goal.shape_of-lows-then-e-gt0
shape_of-lows-then-e-gt0 c = length-set c.args.lows.now _ _

pub shape_of-parent : goal.shape_of-parent
shape_of-parent c = c.join.ensures.long

pub returns-then-e-gt0 : goal.returns-then-e-gt0
returns-then-e-gt0 c = λ n verts R step S.
    let F = facet_with c.smaller_of-low.ensures c.larger_of-high.ensures step in
    let l : 0 < c.find_facet-e.result = search rules in
    sided_join R F S (c.find_facet-e.ensures (sought R F S c.from.result c.from.ensures)) l c.element_of-j.ensures c.join.ensures

pub shape_of-heads-else-e-gt0 : goal.shape_of-heads-else-e-gt0
shape_of-heads-else-e-gt0 c = length-set c.args.heads.now _ _

pub shape_of-links-else-e-gt0 : goal.shape_of-links-else-e-gt0
shape_of-links-else-e-gt0 c = length-set c.args.links.now _ _

pub shape_of-lows-else-e-gt0 : goal.shape_of-lows-else-e-gt0
shape_of-lows-else-e-gt0 c = length-set c.args.lows.now _ _

pub returns-else-e-gt0 : goal.returns-else-e-gt0
returns-else-e-gt0 c = λ n verts R step S.
    let F = facet_with c.smaller_of-low.ensures c.larger_of-high.ensures step in
    let z : c.find_facet-e.result ≡ 0 = omega (arith, c.if-e-gt0.false) in
    sided_pass R F S (c.find_facet-e.ensures (sought R F S c.from.result c.from.ensures)) z
