-- `mender::mend_marked` meets its contract. Assumes nothing.
use Rattle.mender.proofs.Done.{wrote_told, wrote_cut, cleared, few_bytes, few_said, both_fit}
use Rattle.mender.proofs.Whole.{kept_counts, small_kept, room_by}
use Rattle.mending.proofs.Bytes.{held_six}
use Rattle.edition.specs.Edition.{bytes_in}
use Rattle.sheet.specs.Work.{Small}
use lib.ListN.{length}
use mathlib.Core.Path.{sym, ap₂, ◌∙◌, subst}
use Rattle.mender.proofs.mend_marked.Goals as goal

-- `mender::mend_marked` meets its contract. Assumes nothing.
pub counts_in-c-requires : goal.counts_in-c-requires
counts_in-c-requires c = held_six c.args.s.now c.requires.held

pub is_second-requires : goal.is_second-requires
is_second-requires c = held_six c.args.s.now c.requires.held

pub byte_len-n-requires : goal.byte_len-n-requires
byte_len-n-requires c = subst Small (sym (kept_counts c.args.s.now c.args.triangles.now c.args.edges.now c.args.boundary.now c.requires.held c.requires.marked c.counts_in-c.result _ _ _ c.counts_in-c.ensures.is c.staying.ensures c.staying-2.ensures c.staying-3.ensures)) (small_kept c.args.s.now c.args.triangles.now c.args.edges.now c.args.boundary.now c.requires.held c.requires.marked)

pub returns-then-mended-n : goal.returns-then-mended-n
returns-then-mended-n c = few_bytes c.args.s.now c.args.triangles.now c.args.edges.now c.args.boundary.now c.requires.held c.requires.marked (length c.args.mended.now) (length c.args.text.now) _ _ _ (c.byte_len-n.ensures ∙ ap₂ bytes_in c.is_second.ensures (kept_counts c.args.s.now c.args.triangles.now c.args.edges.now c.args.boundary.now c.requires.held c.requires.marked c.counts_in-c.result _ _ _ c.counts_in-c.ensures.is c.staying.ensures c.staying-2.ensures c.staying-3.ensures)) c.if-mended-n.true c.requires.zeros (cleared _ _ _ c.finish.ensures)

pub put_sheet-requires : goal.put_sheet-requires
put_sheet-requires c = record { held = c.requires.held; marked = c.requires.marked; room = room_by _ _ _ (c.byte_len-n.ensures ∙ ap₂ bytes_in c.is_second.ensures (kept_counts c.args.s.now c.args.triangles.now c.args.edges.now c.args.boundary.now c.requires.held c.requires.marked c.counts_in-c.result _ _ _ c.counts_in-c.ensures.is c.staying.ensures c.staying-2.ensures c.staying-3.ensures)) c.if-mended-n.false; zeros = c.requires.zeros }

pub returns-in-Some : goal.returns-in-Some
returns-in-Some c = let w = wrote_told _ _ _ _ _ c.put_said-told.ensures c.in-Some.is in both_fit c.args.s.now c.args.triangles.now c.args.edges.now c.args.boundary.now c.requires.held c.requires.marked (length c.args.mended.now) (length c.args.text.now) _ _ _ (c.byte_len-n.ensures ∙ ap₂ bytes_in c.is_second.ensures (kept_counts c.args.s.now c.args.triangles.now c.args.edges.now c.args.boundary.now c.requires.held c.requires.marked c.counts_in-c.result _ _ _ c.counts_in-c.ensures.is c.staying.ensures c.staying-2.ensures c.staying-3.ensures)) _ c.if-mended-n.false w.0 w.1 c.put_sheet.ensures w.2

pub returns-in-None : goal.returns-in-None
returns-in-None c = let w = wrote_cut _ _ _ _ c.put_said-told.ensures c.in-None.is in few_said c.args.s.now c.args.triangles.now c.args.edges.now c.args.boundary.now c.requires.held c.requires.marked (length c.args.mended.now) (length c.args.text.now) _ _ _ (c.byte_len-n.ensures ∙ ap₂ bytes_in c.is_second.ensures (kept_counts c.args.s.now c.args.triangles.now c.args.edges.now c.args.boundary.now c.requires.held c.requires.marked c.counts_in-c.result _ _ _ c.counts_in-c.ensures.is c.staying.ensures c.staying-2.ensures c.staying-3.ensures)) w.0 c.requires.zeros w.1
