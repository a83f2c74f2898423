-- `mesh_replies::outcome::reply_done` meets its contract: the answer and the log, where the bytes have room for them. Assumes nothing.
use mathlib.Core.Path.{refl, ◌∙◌}
use native.Mathlib.Omega.{arith}
use Rattle.mesh_replies.proofs.Tellings.{done_storable, done_short, done_replied}
use Rattle.mesh_replies.proofs.outcome.reply_done.Goals as goal

pub returns-then-out-end : goal.returns-then-out-end
returns-then-out-end c = let A = c.args in done_short A.k A.gone.now A.points.now A.roots.now A.corners.now A.volumes.now A.ends.now A.lengths.now A.outline.now _ _ c.requires A.any _ _ _ _ _ c.if-out-end.true (rw c.number.ensures at c.refuse.ensures)

pub store_without-requires : goal.store_without-requires
store_without-requires c = let A = c.args in done_storable A.k A.gone.now A.points.now A.roots.now A.corners.now A.volumes.now A.ends.now A.lengths.now A.outline.now _ _ c.requires _ _ (c.put_word-2.auto.out ∙ c.put_word.auto.out) c.if-out-end.false

pub returns : goal.returns
returns c = let A = c.args in done_replied A.k A.gone.now A.points.now A.roots.now A.corners.now A.volumes.now A.ends.now A.lengths.now A.outline.now _ _ c.requires A.any _ _ _ _ A.out.now _ _ _ _ _ refl c.if-out-end.false c.one_if.ensures c.put_word.ensures c.put_word-2.ensures c.store_without.ensures (c.store_without.auto.out ∙ c.put_word-2.auto.out ∙ c.put_word.auto.out) c.clear_bytes_from.ensures c.log_out.ensures refl
