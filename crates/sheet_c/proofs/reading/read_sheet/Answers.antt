-- `sheet_c::reading::read_sheet` meets its contract: the sheet is read into local blocks, and their words are the reply. Assumes nothing.
use mathlib.Core.Path.{refl}
use Rattle.sheet_c.proofs.Sheeting.{lent_path, refused_small, sheet_refused, sheet_storing, sheet_whole}
use Rattle.sheet_c.proofs.reading.read_sheet.Goals as goal

pub reply_blocks-requires : goal.reply_blocks-requires
reply_blocks-requires c = let W = c.read-seen in sheet_storing c.args.bytes.now _ _ _ _ _ _ _ _ _ _ _ _ W.ensures (record { points = refl; roots = refl; corners = refl; volumes = refl; ends = refl; lengths = refl; outline = refl }) refl _ _ c.in-Ok.is (lent_path W.auto.points W.auto.roots W.auto.corners W.auto.volumes W.auto.ends W.auto.lengths W.auto.outline W.auto.log) W.auto.blade

pub reply_refused-requires : goal.reply_refused-requires
reply_refused-requires c = let W = c.read-seen in rw c.number.ensures (refused_small c.args.bytes.now _ _ _ _ _ _ _ _ _ _ _ _ W.ensures (record { points = refl; roots = refl; corners = refl; volumes = refl; ends = refl; lengths = refl; outline = refl }) refl _ c.in-Err.is)

pub returns-in-Ok : goal.returns-in-Ok
returns-in-Ok c = let W = c.read-seen in sheet_whole c.args.bytes.now _ _ _ _ _ _ _ _ _ _ _ _ W.ensures (record { points = refl; roots = refl; corners = refl; volumes = refl; ends = refl; lengths = refl; outline = refl }) refl _ _ c.in-Ok.is (lent_path W.auto.points W.auto.roots W.auto.corners W.auto.volumes W.auto.ends W.auto.lengths W.auto.outline W.auto.log) W.auto.blade _ c.flag.ensures _ _ _ c.reply_blocks.ensures

pub returns-in-Err : goal.returns-in-Err
returns-in-Err c = let W = c.read-seen in sheet_refused c.args.bytes.now _ _ _ _ _ _ _ _ _ _ _ _ W.ensures (record { points = refl; roots = refl; corners = refl; volumes = refl; ends = refl; lengths = refl; outline = refl }) refl _ _ _ _ c.in-Err.is (rw c.number.ensures at c.reply_refused.ensures)
