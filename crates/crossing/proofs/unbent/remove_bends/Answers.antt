-- `crossing::unbent::remove_bends` meets its contract: nothing where nothing is marked, else the removal of the marked edges alone. Assumes nothing.
use mathlib.Core.Path.{sym, ◌∙◌}
use native.Mathlib.Omega.{arith}
use Rattle.crossing.proofs.UnbentLaws.{bends_gone, bends_none, zeros_mark}
use borrow.Author.Rules.{rules}
use Rattle.crossing.proofs.unbent.remove_bends.Goals as goal

pub returns-then-s-eq0 : goal.returns-then-s-eq0
returns-then-s-eq0 c = bends_none _ _ _ _ _ _ _ c.requires.counts (sym c.count_marked-s.ensures ∙ c.if-s-eq0.true)

pub remove_marked-requires : goal.remove_marked-requires
remove_marked-requires c = let P = c.requires in
    let C = P.counts in
    record { marked_are = c.count_marked-s.ensures; edge_mask_long = P.marks; side_mask_long = omega (arith, c.requires.counts.boundary, P.few_boundary); ends_long = omega (arith, c.requires.counts.edges, P.ends); ends_in = P.ends_in; lengths_long = omega (arith, c.requires.counts.edges, P.lengths); outline_long = omega (arith, c.requires.counts.boundary, P.outline); log_in = c.requires.counts.log; log_long = P.log }

pub shape_of-ends : goal.shape_of-ends
shape_of-ends c = c.remove_marked.auto.ends

pub shape_of-lengths : goal.shape_of-lengths
shape_of-lengths c = c.remove_marked.auto.lengths

pub shape_of-outline : goal.shape_of-outline
shape_of-outline c = c.remove_marked.auto.outline

pub shape_of-log : goal.shape_of-log
shape_of-log c = c.remove_marked.auto.log

pub returns : goal.returns
returns c = bends_gone _ _ _ _ _ _ _ _ _ _ _ _ _ c.requires.counts (λ z. c.if-s-eq0.false (c.count_marked-s.ensures ∙ z)) (zeros_mark 2048 _) c.remove_marked.ensures
