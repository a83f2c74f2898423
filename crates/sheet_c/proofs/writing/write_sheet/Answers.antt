-- `sheet_c::writing::write_sheet` meets its contract: 1, or what a writer of sheets answers. Assumes nothing.
use Rattle.sheet_c.proofs.Fielding.{fields_room, refused_one}
use Rattle.sheet_c.proofs.writing.write_sheet.Goals as goal

pub write_fields-requires : goal.write_fields-requires
write_fields-requires c = fields_room _ _ c.fields_ok.ensures c.if-fields_ok.true

pub shape_of-out-then-fields_ok : goal.shape_of-out-then-fields_ok
shape_of-out-then-fields_ok c = c.write_fields.auto.out

pub returns-then-fields_ok : goal.returns-then-fields_ok
returns-then-fields_ok c = c.write_fields.ensures

pub shape_of-out : goal.shape_of-out
shape_of-out c = c.blank.auto.s

pub returns : goal.returns
returns c = refused_one _ _ _ _ c.fields_ok.ensures c.if-fields_ok.false c.blank.ensures
