-- `outline::single_side` meets its contract. The invariant: n tells how many of the first i triangles hold the side, up to 2. Assumes nothing.
use Rattle.outline_tables.proofs.Linking.{told_more, told_same, told_end}
use native.Mathlib.Omega.{arith}
use mathlib.Core.Path.{sym, ap, ◌∙◌}
use Prim.Native.Nat.{ℕ, min}
use Rattle.outline_tables.proofs.single_side.Goals as goal
use Rattle.outline_tables.proofs.single_side.Goals.{else-holds_side, then-holds_side}

pub loop-i-init : goal.loop-i-init
loop-i-init c =
    let P = c.requires in
    let e = c.side_holders-n.ensures in
    (P.0.inside, omega arith, omega arith)

pub offset_bounds-a-i : goal.offset_bounds-a-i
offset_bounds-a-i c = let E = c.requires.0.even in omega (arith, c.requires.0.even.second, c.requires.0.even.third)

pub bounds-a-i : goal.bounds-a-i
bounds-a-i c = let E = c.requires.0.even in omega (arith, c.requires.0.even.second, c.requires.0.even.third)

pub offset_bounds-b-i : goal.offset_bounds-b-i
offset_bounds-b-i c = let E = c.requires.0.even in omega (arith, c.requires.0.even.second, c.requires.0.even.third)

pub bounds-b-i : goal.bounds-b-i
bounds-b-i c = let E = c.requires.0.even in omega (arith, c.requires.0.even.second, c.requires.0.even.third)

pub offset_bounds-c-i : goal.offset_bounds-c-i
offset_bounds-c-i c = let E = c.requires.0.even in omega (arith, c.requires.0.even.second, c.requires.0.even.third)

pub bounds-c-i : goal.bounds-c-i
bounds-c-i c = let E = c.requires.0.even in omega (arith, c.requires.0.even.second, c.requires.0.even.third)

pub loop-i-preserved : goal.loop-i-preserved
loop-i-preserved c =
    let A = c.args in
    let L = c.loop-i in
    let H = c.holds_side in
    let a = A.a.now in
    let b = A.b.now in
    let d = A.c.now in
    elim c.if-holds_side.branch [
      | then-holds_side w ↦ (omega arith, omega (arith, w.n-is, L.invariant.1), ap (λ (n : ℕ). min 2 n) w.n-is ∙ told_more a b d A.x A.y L.n L.i L.invariant.2 (sym H.ensures ∙ w.if-holds_side.true))
      | else-holds_side w ↦ (omega arith, omega (arith, w.n-is, L.invariant.1), ap (λ (n : ℕ). min 2 n) w.n-is ∙ told_same a b d A.x A.y L.n L.i L.invariant.2 (sym H.ensures ∙ w.if-holds_side.false))
    ]

pub returns : goal.returns
returns c =
    let A = c.args in
    let L = c.loop-i in
    told_end A.a.now A.b.now A.c.now A.x A.y L.n L.i L.invariant.2 (omega arith)
