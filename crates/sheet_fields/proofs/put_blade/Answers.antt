-- `sheet_fields::put_blade` meets its contract. Assumes nothing.
use mathlib.Core.Path.{◌∙◌}
use lib.IntN.{pos}
use lib.ListN.{get_or}
use Rattle.sheet_fields.proofs.WholeLaws.{read_field, blade_fields}
use Rattle.sheet_fields.proofs.put_blade.Goals as goal

pub put_four-requires : goal.put_four-requires
put_four-requires c = c.requires.0

pub returns : goal.returns
returns c =
    let d = c.args.blade.now in
    c.put_four.ensures ∙ rw (blade_fields d _ _ _ _
    (read_field _ (get_or d 0 (pos 0)) c.field_of-arg-1.given c.field_of-x0.ensures)
    (read_field _ (get_or d 1 (pos 0)) c.field_of-arg-2-1.given c.field_of-y0.ensures)
    (read_field _ (get_or d 2 (pos 0)) c.field_of-arg-3-1.given c.field_of-x1.ensures)
    (read_field _ (get_or d 3 (pos 0)) c.field_of-arg-4-1.given c.field_of-y1.ensures))
