-- `fan_spread::spread_label` meets its contract. The invariant: a is next; the measure: how many elements are not yet spread. Assumes nothing.
use Rattle.fan_reach.proofs.Spreading.{going_none, going_reached, going_on, going_all}
use mathlib.Core.Path.{sym, ◌∙◌}
use native.Mathlib.Omega.{arith}
use borrow.Author.Rules.{rules}
use Rattle.fan_spread.proofs.spread_label.Goals as goal

pub loop-a-init : goal.loop-a-init
loop-a-init c = let P = c.requires in
    going_none P.settled P.label_in_bounds.0 P.label_in_bounds.1

pub spread_from-requires : goal.spread_from-requires
spread_from-requires c = let P = c.requires in
    record { verts_len = P.verts_len; reached = going_reached c.loop-a.invariant P.label_in_bounds.0 (search rules) }

pub next_reached-a-requires : goal.next_reached-a-requires
next_reached-a-requires c = let l = c.requires.label_in_bounds.0 in
    let e = c.spread_from.ensures.spreading.long in
    omega arith

pub loop-a-smaller : goal.loop-a-smaller
loop-a-smaller c = c.spread_from.ensures.fewer

pub loop-a-preserved : goal.loop-a-preserved
loop-a-preserved c = going_on c.loop-a.invariant c.requires.label_in_bounds.0 c.spread_from.ensures c.next_reached-a.ensures

pub shape_of-table : goal.shape_of-table
shape_of-table c = c.loop-a.invariant.spreading.long ∙ sym c.requires.settled.spreading.long

pub returns : goal.returns
returns c = going_all c.loop-a.invariant c.requires.label_in_bounds.0 (search rules)
