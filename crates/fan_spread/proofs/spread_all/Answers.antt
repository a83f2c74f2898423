-- `fan_spread::spread_all` meets its contract. The invariant: the labels below i are spread. Assumes nothing.
use Rattle.fan_reach.proofs.Spreading.{settled_none, settled_skip, settled_at, spread_all}
use Rattle.fan_reach.specs.Spread.{Settled}
use Rattle.fan.specs.Fan.{fan}
use lib.ListN.{length}
use Prim.Native.Nat.{ℕ}
use mathlib.Core.Path.{◌≡◌, sym, ◌∙◌, subst}
use native.Mathlib.Omega.{arith}
use borrow.Author.Rules.{rules}
use Rattle.fan_spread.proofs.spread_all.Goals as goal
use Rattle.fan_spread.proofs.spread_all.Goals.{else-table-i, then-table-i}

pub loop-i-init : goal.loop-i-init
loop-i-init c = let O = c.own_numbers in
    (search rules, settled_none _ _ (O.auto.table ∙ c.requires.verts_len.1) O.ensures)

pub bounds-table-i : goal.bounds-table-i
bounds-table-i c = let e = c.loop-i.invariant.1.spreading.long in
    omega arith

pub spread_label-requires : goal.spread_label-requires
spread_label-requires c = record { verts_len = (c.requires.verts_len.0, c.requires.lent); settled = c.loop-i.invariant.1; label_in_bounds = (search rules, c.if-table-i.true) }

pub loop-i-preserved : goal.loop-i-preserved
loop-i-preserved c = let L = c.loop-i in
    elim c.if-table-i.branch [
      | then-table-i w ↦ (omega arith, settled_at w.table-is w.spread_label.ensures)
      | else-table-i w ↦ (omega arith, settled_at w.table-is (settled_skip L.invariant.1 (search rules) w.if-table-i.false))
    ]

pub shape_of-table : goal.shape_of-table
shape_of-table c = c.loop-i.invariant.1.spreading.long ∙ sym c.requires.verts_len.1

pub returns : goal.returns
returns c = let A = c.args in
    let L = c.loop-i in
    let e : L.i ≡ length A.sides.now = omega arith in
    spread_all (subst (λ (m : ℕ). Settled (fan A.verts.now A.k A.v A.needed A.sides.now) m L.table) e L.invariant.1)
