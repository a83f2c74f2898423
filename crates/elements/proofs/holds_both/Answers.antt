-- `elements::holds_both` meets its contract: the invariant is that some element holds both where one of the rest does. The laws are in proofs/Held.antt.
use Prim.Native.Nat.{◌+◌, ◌≤◌}
use native.Mathlib.Omega.{arith}
use mathlib.Core.Path.{sym, ◌∙◌}
use lib.ListN.{length}
use Rattle.elements.proofs.Held.{seeking_start, seeking_reads, seeking_more, seeking_found, seeking_done}
use Rattle.elements.proofs.holds_both.Goals as goal

pub loop-i-init : goal.loop-i-init
loop-i-init c = seeking_start _ _ _ _ _

pub overflow_add-b : goal.overflow_add-b
overflow_add-b c =
    let reads_fit : c.loop-i.a + c.args.k ≤ length c.args.verts.now = seeking_reads _ _ _ _ _ _ _ c.loop-i.invariant c.loop-i-test.true c.requires in omega (arith, reads_fit)

pub offset_bounds-verts-a : goal.offset_bounds-verts-a
offset_bounds-verts-a c =
    let reads_fit : c.loop-i.a + c.args.k ≤ length c.args.verts.now = seeking_reads _ _ _ _ _ _ _ c.loop-i.invariant c.loop-i-test.true c.requires in omega (arith, reads_fit)

pub slice_bounds-both_in-end : goal.slice_bounds-both_in-end
slice_bounds-both_in-end c =
    let reads_fit : c.loop-i.a + c.args.k ≤ length c.args.verts.now = seeking_reads _ _ _ _ _ _ _ c.loop-i.invariant c.loop-i-test.true c.requires in reads_fit

pub returns-then-both_in : goal.returns-then-both_in
returns-then-both_in c = seeking_found _ _ _ _ _ _ _ c.loop-i.invariant c.loop-i-test.true (sym c.both_in.ensures ∙ c.if-both_in.true)

pub loop-i-preserved : goal.loop-i-preserved
loop-i-preserved c = seeking_more _ _ _ _ _ _ _ c.loop-i.invariant c.loop-i-test.true (sym c.both_in.ensures ∙ c.if-both_in.false)

pub returns : goal.returns
returns c = seeking_done _ _ _ _ _ _ _ c.loop-i.invariant (omega arith)
