-- `fan_groups::number_side` meets its contract. The invariant: the turns up to place i of this side. Assumes nothing.
use borrow.Author.Rules.{rules}
use native.Mathlib.Omega.{arith}
use mathlib.Core.Path.{◌≡◌, sym, ◌∙◌, ap, subst}
use Prim.Native.Nat.{ℕ, ◌<◌}
use lib.ListN.{length, length-set}
use Rattle.fan.specs.Parts.{Turned}
use Rattle.fan.proofs.Numbering.{turned_skip, turned_side, turned_label, turned_new, turned_old, turned_at}
use Rattle.fan_groups.proofs.number_side.Goals as goal
use Rattle.fan_groups.proofs.number_side.Goals.{else-sides-i, then-sides-i+else-label-i, then-sides-i+then-label-i}

pub loop-i-init : goal.loop-i-init
loop-i-init c = (search rules, c.requires.turning.1.1.part.long, omega arith, λ p T U. U)

pub overflow_sub-label : goal.overflow_sub-label
overflow_sub-label c =
    let L = c.loop-i in
    let Q = c.requires.turning in
    let h = turned_label c.requires.turning.1.0 (L.invariant.3 c.requires.turning.0 c.requires.turning.1.0 c.requires.turning.1.1) (search rules) c.if-sides-i.true in
    omega arith

pub offset_bounds-table-label : goal.offset_bounds-table-label
offset_bounds-table-label c =
    let L = c.loop-i in
    let Q = c.requires.turning in
    let h = turned_label c.requires.turning.1.0 (L.invariant.3 c.requires.turning.0 c.requires.turning.1.0 c.requires.turning.1.1) (search rules) c.if-sides-i.true in
    let d = c.requires.turning.1.0.down L.i (search rules) in
    omega arith

pub bounds-table-label : goal.bounds-table-label
bounds-table-label c =
    let L = c.loop-i in
    let Q = c.requires.turning in
    let h = turned_label c.requires.turning.1.0 (L.invariant.3 c.requires.turning.0 c.requires.turning.1.0 c.requires.turning.1.1) (search rules) c.if-sides-i.true in
    let d = c.requires.turning.1.0.down L.i (search rules) in
    let e = L.invariant.1 in
    omega arith

pub loop-i-preserved : goal.loop-i-preserved
loop-i-preserved c =
    let L = c.loop-i in
    let l : L.i < length c.args.sides.now = search rules in
    elim c.if-sides-i.branch [
      | then-sides-i+then-label-i w ↦ (omega arith, ap length w.table-is ∙ simp length-set L.invariant.1, omega (arith, w.count-is), λ p T U. turned_at w.table-is w.count-is (turned_new T (L.invariant.3 p T U) l w.if-sides-i.true w.if-label-i.true))
      | then-sides-i+else-label-i w ↦ (omega arith, ap length w.table-is ∙ simp length-set L.invariant.1, omega (arith, w.count-is), λ p T U. turned_at w.table-is w.count-is (turned_old T (L.invariant.3 p T U) l w.if-sides-i.true w.if-label-i.false))
      | else-sides-i w ↦ (omega arith, ap length w.table-is ∙ L.invariant.1, omega (arith, w.count-is), λ p T U. turned_at w.table-is w.count-is (turned_skip w.if-sides-i.false (L.invariant.3 p T U)))
    ]

pub shape_of-table : goal.shape_of-table
shape_of-table c = c.loop-i.invariant.1 ∙ sym c.requires.turning.1.1.part.long

pub returns : goal.returns
returns c =
    let A = c.args in
    let L = c.loop-i in
    let e : L.i ≡ length A.sides.now = omega arith in
    record { turns = (λ p T U. turned_side (subst (λ (m : ℕ). Turned A.sides.now p A.side m L.table L.count) e (L.invariant.3 p T U))); upper_bound = omega arith }
