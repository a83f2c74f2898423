-- `outline::chains::holders_along` meets its contract. The invariant: the triangles from t on that hold the side are counted, and e is where the chain goes on.
-- Assumes nothing.
use borrow.Author.Rules.{rules}
use native.Mathlib.Omega.{arith}
use mathlib.Core.Path.{◌≡◌, sym, ◌∙◌, subst}
use Prim.Native.Nat.{ℕ, ◌*◌, ◌/◌, ◌%◌, ◌-◌, ◌<◌}
use Rattle.outline_tables.specs.Links.{chain_at, LastBefore}
use Rattle.outline_tables.proofs.Linking.{Walk, walk_start, walk_hit, walk_pass, walk_end}
use Rattle.outline_tables.proofs.chains.holders_along.Goals as goal
use Rattle.outline_tables.proofs.chains.holders_along.Goals.{else-holds_before, then-holds_before+else-n-eq1}

pub offset_bounds-heads-x : goal.offset_bounds-heads-x
offset_bounds-heads-x c = let T = c.requires in omega (arith, T.heads_long)

pub bounds-heads-x : goal.bounds-heads-x
bounds-heads-x c = let T = c.requires in omega (arith, T.heads_long)

pub loop-e-init : goal.loop-e-init
loop-e-init c =
    let A = c.args in
    let P = c.requires in
    let chain = chain_at A.a.now A.b.now A.c.now in
    let k = A.x % 1024 in
    (omega arith, walk_start A.a.now A.b.now A.c.now A.x A.y A.m _ (subst (λ (e : ℕ). LastBefore chain k (3 * A.m) e) (sym c.from-e.ensures) (P.chained.head k (omega arith))))

pub holds_before-requires : goal.holds_before-requires
holds_before-requires c =
    let P = c.requires in
    let W = c.loop-e.invariant.1 in
    (P.even, omega (arith, c.loop-e.invariant.1.below, P.inside))

pub returns-then-n-eq1 : goal.returns-then-n-eq1
returns-then-n-eq1 c =
    let A = c.args in
    let P = c.requires in
    let L = c.loop-e in
    let H = c.holds_before in
    let l : 0 < L.e = search rules in
    let h : L.e - 1 < 3 * A.m = omega (arith, L.invariant.1.below) in
    let W = walk_hit A.a.now A.b.now A.c.now A.x A.y A.m L.n L.t L.e _ L.invariant.1 l (P.chained.link (L.e - 1) h) (sym H.ensures ∙ c.if-holds_before.true) in
    let one : L.n ≡ 1 = search rules in
    omega (arith, W.count)

pub offset_bounds-links-s : goal.offset_bounds-links-s
offset_bounds-links-s c =
    let P = c.requires in
    let W = c.loop-e.invariant.1 in
    omega (arith, c.loop-e.invariant.1.below, P.few, P.links_long)

pub bounds-links-s : goal.bounds-links-s
bounds-links-s c =
    let P = c.requires in
    let W = c.loop-e.invariant.1 in
    omega (arith, c.loop-e.invariant.1.below, P.few, P.links_long)

pub loop-e-smaller : goal.loop-e-smaller
loop-e-smaller c =
    let A = c.args in
    let P = c.requires in
    let L = c.loop-e in
    let h : L.e - 1 < 3 * A.m = omega (arith, L.invariant.1.below) in
    omega (arith, (P.chained.link (L.e - 1) h).below, c.from-e-in-loop-e.ensures)

pub loop-e-preserved : goal.loop-e-preserved
loop-e-preserved c =
    let A = c.args in
    let P = c.requires in
    let L = c.loop-e in
    let H = c.holds_before in
    let a = A.a.now in
    let b = A.b.now in
    let d = A.c.now in
    let l : 0 < L.e = search rules in
    let h : L.e - 1 < 3 * A.m = omega (arith, L.invariant.1.below) in
    let j = (L.e - 1) / 3 in
    let f = c.from-e-in-loop-e.result in
    let K = subst (λ (e : ℕ). LastBefore (chain_at a b d) (chain_at a b d (L.e - 1)) (L.e - 1) e) (sym c.from-e-in-loop-e.ensures) (P.chained.link (L.e - 1) h) in
    elim c.if-holds_before.branch [
      | then-holds_before+else-n-eq1 w ↦ (omega (arith, L.invariant.0, w.n-is), subst (λ (n : ℕ). Walk a b d A.x A.y A.m n j f) (sym w.n-is) (walk_hit a b d A.x A.y A.m L.n L.t L.e f L.invariant.1 l K (sym H.ensures ∙ w.if-holds_before.true)))
      | else-holds_before w ↦ (omega (arith, L.invariant.0, w.n-is), subst (λ (n : ℕ). Walk a b d A.x A.y A.m n j f) (sym w.n-is) (walk_pass a b d A.x A.y A.m L.n L.t L.e f L.invariant.1 l K (sym H.ensures ∙ w.if-holds_before.false)))
    ]

pub returns : goal.returns
returns c =
    let A = c.args in
    let L = c.loop-e in
    let z : L.e ≡ 0 = omega arith in
    let d = walk_end A.a.now A.b.now A.c.now A.x A.y A.m L.n L.t (subst (λ (e : ℕ). Walk A.a.now A.b.now A.c.now A.x A.y A.m L.n L.t e) z L.invariant.1) in
    omega (arith, L.invariant.0)
