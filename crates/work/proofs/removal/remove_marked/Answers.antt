-- `work::removal::remove_marked` meets its contract: the notes, then the edges, then the boundary. Assumes nothing.
use Rattle.work.proofs.Removals.{blocks_gone}
use native.Mathlib.Omega.{arith}
use Rattle.work.proofs.removal.remove_marked.Goals as goal

pub note_marked-g-requires : goal.note_marked-g-requires
note_marked-g-requires c =
    let P = c.requires in
    (record { mask_long = P.edge_mask_long; ends_long = P.ends_long; ends_in = P.ends_in; log_long = omega (arith, P.marked_are, P.log_in, P.log_long, c.if-room-k.false) }, P.marked_are)

pub returns : goal.returns
returns c = blocks_gone _ _ _ _ _ _ _ _ _ _ _ _ _ _ _ _ c.requires (omega (arith, c.if-room-k.false)) c.note_marked-g.ensures c.drop_marked-e.ensures (c.keep_block-b.ensures 0) c.keep_block-b.auto.s
