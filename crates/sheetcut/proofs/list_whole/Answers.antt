-- `sheetcut::list_whole` meets its contract: the sheet is read into blocks, whose fronts are cut. Assumes nothing.
use mathlib.Core.Path.{refl}
use Rattle.sheet_fronts.proofs.Reading.{seen_told}
use Rattle.sheetcut.proofs.Cutting.{whole_cuttable, fronts_listed}
use Rattle.sheetcut.proofs.list_whole.Goals as goal

pub read_fronts-requires : goal.read_fronts-requires
read_fronts-requires c = record { seen = seen_told _ _ _ c.requires; ample = record { points = refl; roots = refl; corners = refl; volumes = refl; ends = refl; lengths = refl; outline = refl }; four = refl }

pub list_fronts-requires : goal.list_fronts-requires
list_fronts-requires c =
    let W = c.read_fronts in
    whole_cuttable c.args.sheet.now c.args.c _ _ _ c.requires (record { points = W.auto.points; roots = W.auto.roots; corners = W.auto.corners; volumes = W.auto.volumes; ends = W.auto.ends; lengths = W.auto.lengths; outline = W.auto.outline }) W.auto.blade

pub returns : goal.returns
returns c =
    let W = c.read_fronts in
    fronts_listed c.args.sheet.now c.args.c W.new.points W.new.roots W.new.corners W.new.volumes W.new.ends W.new.lengths W.new.outline W.new.blade W.ensures _ _ _ _ c.list_fronts.ensures
