-- `listing::put_entries` meets its contract: one entry more a turn. Assumes nothing.
use Rattle.listing.proofs.Entries.{entries_more}
use Rattle.listing.proofs.Appending.{grow_start, grow_more, grow_done}
use Rattle.listing.specs.Work.{entry_line}
use Rattle.mesh.specs.Log.{log_at}
use Rattle.lists.specs.Lists.{each, tab}
use native.Mathlib.Omega.{arith}
use mathlib.Core.Path.{refl}
use Rattle.listing.proofs.put_entries.Goals as goal

pub loop-i-init : goal.loop-i-init
unfolding each log_at tab
loop-i-init c = let a = c.args in grow_start (λ k. each (entry_line a.word.now a.kind a.count) (log_at k a.log.now)) _ _ _ refl

pub put_entry-at-requires : goal.put_entry-at-requires
put_entry-at-requires c = record { room = omega arith; few = c.requires.few }

pub loop-i-preserved : goal.loop-i-preserved
loop-i-preserved c = grow_more c.loop-i.invariant c.loop-i-test.true c.put_entry-at.ensures (entries_more _ _ _ _ _) c.put_entry-at.auto.out

pub shape_of-out : goal.shape_of-out
shape_of-out c = c.loop-i.invariant.long

pub returns : goal.returns
returns c = grow_done c.loop-i.invariant c.loop-i-test.false
