-- `straddlers::across::mark_edges` meets its contract: the loop over the edges is `Marking` and `Counting` of proofs/PieceMasks.antt. Assumes nothing.
use borrow.Author.Rules.{rules}
use Rattle.work.proofs.Removals.{Marking, Counting, marking_start, marking_step, counting_start, counting_step, counting_few, mark_small}
use Rattle.straddlers.proofs.PieceMasks.{edges_marked}
use Rattle.straddlers.specs.Straddling.{edge_crosses}
use Rattle.elements.specs.Table.{kind_is}
use mathlib.Core.List.{[]}
use mathlib.Core.Path.{ap, ◌∙◌}
use mathlib.Core.Bool.{Bool}
use Rattle.lists.specs.Lists.{pick}
use Prim.Native.Nat.{◌-◌}
use native.Mathlib.Omega.{arith}
use Rattle.straddlers.proofs.across.mark_edges.Goals as goal

pub loop-i-init : goal.loop-i-init
loop-i-init c = (marking_start _ _ _, counting_start _)

pub edge_crosses-requires : goal.edge_crosses-requires
edge_crosses-requires c = record { here = omega (arith, c.loop-i-test.true, c.requires.ends_long); used_long = c.requires.used_long; first = c.requires.ends_in.first _ c.loop-i-test.true; second = c.requires.ends_in.second _ c.loop-i-test.true }

pub loop-i-preserved : goal.loop-i-preserved
loop-i-preserved c = let e = c.mark-m.ensures ∙ ap (λ (z : Bool). pick z 1 0) (c.edge_crosses.ensures.is []) in (marking_step _ _ _ _ _ _ c.loop-i.invariant.0 c.loop-i-test.true c.requires.mask_long e, counting_step _ _ _ _ c.loop-i.invariant.1 e)

pub shape_of-mask : goal.shape_of-mask
shape_of-mask c = c.loop-i.invariant.0.long

pub returns : goal.returns
returns c = edges_marked _ _ _ _ _ _ _ _ _ c.loop-i.invariant.0 c.loop-i.invariant.1 c.loop-i-test.false

pub overflow_add-count : goal.overflow_add-count
overflow_add-count c = omega (arith, counting_few _ _ _ c.loop-i.invariant.1, c.loop-i-test.true, c.requires.few, c.mark-m.ensures, mark_small c.edge_crosses.result)
