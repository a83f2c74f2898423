-- `outline::chains::link_corners` meets its contract. The invariant: the places below t are linked. Assumes nothing.
use native.Mathlib.Omega.{arith}
use mathlib.Core.Path.{◌≡◌, refl, sym, ◌∙◌, subst}
use Prim.Native.Nat.{ℕ, ◌+◌, ◌<◌}
use lib.ListN.{length, get_or, length-set}
use Rattle.outline_tables.specs.Links.{chain_at, Chained}
use Rattle.outline_tables.proofs.Linking.{chained_none, chained_more, sized_more, chain_below}
use Rattle.outline_tables.proofs.chains.link_corners.Goals as goal

pub loop-t-init : goal.loop-t-init
loop-t-init c =
    let A = c.args in
    let P = c.requires in
    (omega arith, refl, refl, refl, chained_none (chain_at A.a.now A.b.now A.c.now) A.heads.now A.links.now P.none, P.empty)

pub chain_of-k-requires : goal.chain_of-k-requires
chain_of-k-requires c =
    let P = c.requires in
    (P.even, omega (arith, P.inside))

pub offset_bounds-heads-k : goal.offset_bounds-heads-k
offset_bounds-heads-k c =
    let A = c.args in
    let P = c.requires in
    let L = c.loop-t in
    let K = c.chain_of-k in
    omega (arith, K.ensures, chain_below A.a.now A.b.now A.c.now L.t, P.few, P.heads_long, P.links_long, P.sizes_long, L.invariant.1, L.invariant.2, L.invariant.3)

pub bounds-heads-k : goal.bounds-heads-k
bounds-heads-k c =
    let A = c.args in
    let P = c.requires in
    let L = c.loop-t in
    let K = c.chain_of-k in
    omega (arith, K.ensures, chain_below A.a.now A.b.now A.c.now L.t, P.few, P.heads_long, P.links_long, P.sizes_long, L.invariant.1, L.invariant.2, L.invariant.3)

pub offset_bounds-links-t : goal.offset_bounds-links-t
offset_bounds-links-t c =
    let A = c.args in
    let P = c.requires in
    let L = c.loop-t in
    let K = c.chain_of-k in
    omega (arith, K.ensures, chain_below A.a.now A.b.now A.c.now L.t, P.few, P.heads_long, P.links_long, P.sizes_long, L.invariant.1, L.invariant.2, L.invariant.3)

pub bounds-links-t : goal.bounds-links-t
bounds-links-t c =
    let A = c.args in
    let P = c.requires in
    let L = c.loop-t in
    let K = c.chain_of-k in
    omega (arith, K.ensures, chain_below A.a.now A.b.now A.c.now L.t, P.few, P.heads_long, P.links_long, P.sizes_long, L.invariant.1, L.invariant.2, L.invariant.3)

pub overflow_cast-heads : goal.overflow_cast-heads
overflow_cast-heads c =
    let A = c.args in
    let P = c.requires in
    let L = c.loop-t in
    let K = c.chain_of-k in
    omega (arith, K.ensures, chain_below A.a.now A.b.now A.c.now L.t, P.few, P.heads_long, P.links_long, P.sizes_long, L.invariant.1, L.invariant.2, L.invariant.3)

pub offset_bounds-heads-k-in-loop-t : goal.offset_bounds-heads-k-in-loop-t
offset_bounds-heads-k-in-loop-t c =
    let A = c.args in
    let P = c.requires in
    let L = c.loop-t in
    let K = c.chain_of-k in
    omega (arith, K.ensures, chain_below A.a.now A.b.now A.c.now L.t, P.few, P.heads_long, P.links_long, P.sizes_long, L.invariant.1, L.invariant.2, L.invariant.3)

pub bounds-heads-k-in-loop-t : goal.bounds-heads-k-in-loop-t
bounds-heads-k-in-loop-t c =
    let A = c.args in
    let P = c.requires in
    let L = c.loop-t in
    let K = c.chain_of-k in
    omega (arith, K.ensures, chain_below A.a.now A.b.now A.c.now L.t, P.few, P.heads_long, P.links_long, P.sizes_long, L.invariant.1, L.invariant.2, L.invariant.3)

pub offset_bounds-sizes-k : goal.offset_bounds-sizes-k
offset_bounds-sizes-k c =
    let A = c.args in
    let P = c.requires in
    let L = c.loop-t in
    let K = c.chain_of-k in
    omega (arith, K.ensures, chain_below A.a.now A.b.now A.c.now L.t, P.few, P.heads_long, P.links_long, P.sizes_long, L.invariant.1, L.invariant.2, L.invariant.3)

pub bounds-sizes-k : goal.bounds-sizes-k
bounds-sizes-k c =
    let A = c.args in
    let P = c.requires in
    let L = c.loop-t in
    let K = c.chain_of-k in
    omega (arith, K.ensures, chain_below A.a.now A.b.now A.c.now L.t, P.few, P.heads_long, P.links_long, P.sizes_long, L.invariant.1, L.invariant.2, L.invariant.3)

pub bounds-sizes-k-in-loop-t : goal.bounds-sizes-k-in-loop-t
bounds-sizes-k-in-loop-t c =
    let A = c.args in
    let P = c.requires in
    let L = c.loop-t in
    let K = c.chain_of-k in
    omega (arith, K.ensures, chain_below A.a.now A.b.now A.c.now L.t, P.few, P.heads_long, P.links_long, P.sizes_long, L.invariant.1, L.invariant.2, L.invariant.3)

pub overflow_add-sizes : goal.overflow_add-sizes
overflow_add-sizes c =
    let A = c.args in
    let P = c.requires in
    let L = c.loop-t in
    let K = c.chain_of-k in
    omega (arith, K.ensures, chain_below A.a.now A.b.now A.c.now L.t, P.few, P.heads_long, P.links_long, P.sizes_long, L.invariant.1, L.invariant.2, L.invariant.3, L.invariant.5.most K.result)

pub loop-t-preserved : goal.loop-t-preserved
loop-t-preserved c =
    let A = c.args in
    let P = c.requires in
    let L = c.loop-t in
    let K = c.chain_of-k in
    let a = A.a.now in
    let b = A.b.now in
    let d = A.c.now in
    let k = K.result in
    let e = K.ensures in
    let m : k < 1024 = omega (arith, chain_below a b d L.t) in
    let h : k < length L.heads = omega (arith, P.heads_long, L.invariant.1) in
    let s : k < length L.sizes = omega (arith, P.sizes_long, L.invariant.3) in
    let l : L.t < length L.links = omega (arith, P.few, P.links_long, L.invariant.2) in (
      omega arith,
      length-set L.heads k (L.t + 1) ∙ L.invariant.1,
      length-set L.links L.t (get_or L.heads k 0) ∙ L.invariant.2,
      length-set L.sizes k (get_or L.sizes k 0 + 1) ∙ L.invariant.3,
      chained_more (chain_at a b d) L.heads L.links L.t k (sym e) L.invariant.4 l h m,
      sized_more L.sizes L.t k s L.invariant.5,
    )

pub shape_of-heads : goal.shape_of-heads
shape_of-heads c = c.loop-t.invariant.1

pub shape_of-links : goal.shape_of-links
shape_of-links c = c.loop-t.invariant.2

pub shape_of-sizes : goal.shape_of-sizes
shape_of-sizes c = c.loop-t.invariant.3

pub returns : goal.returns
returns c =
    let A = c.args in
    let L = c.loop-t in
    let e : L.t ≡ A.q = omega arith in
    subst (λ (q : ℕ). Chained (chain_at A.a.now A.b.now A.c.now) L.heads L.links q) e L.invariant.4
