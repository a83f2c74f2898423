-- `differing::whole::put_all` meets its contract: counts, lists, outlines and blades are all differences. Assumes nothing.
use Rattle.differing.proofs.Wholes.{counts_few, lists_few, all_lines}
use Rattle.differences.proofs.Writing.{lists_then, lists_as}
use Rattle.differing.specs.Differed.{read_sheet}
use mathlib.Core.Path.{◌∙◌}
use Rattle.differing.proofs.whole.put_all.Goals as goal

pub put_lists-lists-requires : goal.put_lists-lists-requires
put_lists-lists-requires c = let p = c.requires in let a = c.args in record { first = p.first; second = p.second; few = counts_few a.c a.d c.put_counts-counts.ensures }

pub put_rest-requires : goal.put_rest-requires
put_rest-requires c = let p = c.requires in let a = c.args in record { first = p.first; second = p.second; few = lists_few (read_sheet a.first.now) (read_sheet a.second.now) p.first.within p.second.within c.put_lists-lists.ensures (counts_few a.c a.d c.put_counts-counts.ensures) }

pub shape_of-out : goal.shape_of-out
shape_of-out c = c.put_rest.auto.out ∙ (c.put_lists-lists.auto.out ∙ c.put_counts-counts.auto.out)

pub returns : goal.returns
returns c = let p = c.requires in let a = c.args in lists_as (lists_then (lists_then c.put_counts-counts.ensures c.put_lists-lists.ensures) c.put_rest.ensures) (all_lines (read_sheet a.first.now) (read_sheet a.second.now) a.c a.d p.first.counts p.second.counts)
