-- `outline::copy_sides` meets its contract. Assumes nothing.
use Rattle.outline_tables.proofs.Comparing.{copy_none, copy_turn, copy_end}
use native.Mathlib.Omega.{arith}
use mathlib.Core.Path.{refl, ◌∙◌}
use Rattle.outline_tables.proofs.copy_sides.Goals as goal

pub loop-i-init : goal.loop-i-init
loop-i-init c = (omega arith, refl, copy_none _ _)

pub loop-i-preserved : goal.loop-i-preserved
loop-i-preserved c = let l = c.loop-i in
    let a = c.args in
    let s = c.add_side-i in
    (omega (arith, s.ensures.count), s.auto.outline ∙ l.invariant.1, copy_turn a.own.now a.outline.now l.outline _ l.i _ l.invariant.1 l.invariant.2 s.ensures)

pub shape_of-outline : goal.shape_of-outline
shape_of-outline c = c.loop-i.invariant.1

pub returns : goal.returns
returns c = let l = c.loop-i in let a = c.args in copy_end a.own.now a.outline.now l.outline l.i a.m (omega arith) (omega (arith, c.requires.0.second)) l.invariant.2
