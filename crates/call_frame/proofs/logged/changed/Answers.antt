-- `call_frame::logged::changed` meets its contract: it asks the kind of each entry, and stops at the first that tells of a change. Assumes nothing.
use native.Mathlib.Omega.{arith}
use mathlib.Core.Path.{sym, ◌∙◌}
use Rattle.columns.proofs.Rows.{any_none, any_more, any_stops, any_end}
use Rattle.mesh.specs.Log.{log_at}
use Rattle.call_frame.proofs.logged.changed.Goals as goal

pub loop-i-init : goal.loop-i-init
loop-i-init c = (any_none _ _, omega arith)

pub returns-then-kind_changes : goal.returns-then-kind_changes
unfolding log_at
returns-then-kind_changes c = sym (any_stops _ _ _ _ c.loop-i-test.true (sym c.kind_changes.ensures ∙ c.if-kind_changes.true))

pub loop-i-preserved : goal.loop-i-preserved
loop-i-preserved c = (any_more _ _ _ c.loop-i.invariant.0 (sym c.kind_changes.ensures ∙ c.if-kind_changes.false), omega arith)

pub returns : goal.returns
unfolding log_at
returns c = any_end _ _ _ _ c.loop-i.invariant.0 c.loop-i.invariant.1 c.loop-i-test.false
