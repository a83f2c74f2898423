-- `straddlers::across::mark_edges` meets its contract: the loop over the edges is `Marking` and `Counting` of proofs/PieceMasks.antt. Assumes nothing.
use borrow.Author.Rules.{rules}
use Rattle.work.proofs.Removals.{Marking, Counting, marking_start, marking_step, counting_start, counting_step, counting_few, mark_small}
use Rattle.straddlers.proofs.PieceMasks.{edges_marked}
use Rattle.straddlers.specs.Straddling.{edge_crosses}
use Rattle.elements.specs.Table.{kind_is}
use mathlib.Core.List.{[]}
use mathlib.Core.Path.{ap, ◌∙◌}
use mathlib.Core.Bool.{Bool}
use Rattle.lists.specs.Lists.{pick}
use Prim.Native.Nat.{◌-◌}
use native.Mathlib.Omega.{arith}
use Rattle.straddlers.proofs.across.mark_edges.Given as goal

-- `straddlers::across::mark_edges` meets its contract: the loop over the edges is `Marking` and `Counting` of proofs/PieceMasks.antt. Assumes nothing.
abbrev pub invariant-loop-i : goal.invariant-loop-i
invariant-loop-i l = Marking (edge_crosses (kind_is l.kind) l.parent l.used l.ends []) l.n l.initial.mask l.mask l.i × Counting (edge_crosses (kind_is l.kind) l.parent l.used l.ends []) l.i l.count

abbrev pub decreases-loop-i : goal.decreases-loop-i
decreases-loop-i l = l.n - l.i
