-- `sheet_rows::read_blade` meets its contract. Assumes nothing.
use native.Mathlib.Omega.{arith}
use mathlib.Core.Path.{◌≡◌, ap, ◌∙◌}
use mathlib.Core.List.{[], ◌∷◌}
use lib.ListN.{length, length-set}
use Rattle.lists.specs.Lists.{padded}
use Rattle.float.specs.Numbers.{zero32}
use Rattle.sheet.specs.Read.{the_float_of}
use Rattle.sheet_rows.proofs.MeshReads.{four_long, four_put}
use borrow.Author.Rules.{rules}
use Rattle.sheet_rows.proofs.read_blade.Goals as goal

-- `sheet_rows::read_blade` meets its contract. Assumes nothing.
pub field-requires : goal.field-requires
field-requires c = record { room = omega (arith, c.requires.rows.room); narrow = omega arith; small = omega (arith, c.requires.rows.small) }

pub float_of-requires : goal.float_of-requires
float_of-requires c = c.field.ensures.1

pub field-requires-2 : goal.field-requires-2
field-requires-2 c = record { room = omega (arith, c.requires.rows.room); narrow = omega arith; small = omega (arith, c.requires.rows.small) }

pub float_of-requires-2 : goal.float_of-requires-2
float_of-requires-2 c = c.field-2.ensures.1

pub bounds-blade-1 : goal.bounds-blade-1
bounds-blade-1 c = simp length-set (omega (arith, c.requires.room))

pub field-requires-3 : goal.field-requires-3
field-requires-3 c = record { room = omega (arith, c.requires.rows.room); narrow = omega arith; small = omega (arith, c.requires.rows.small) }

pub float_of-requires-3 : goal.float_of-requires-3
float_of-requires-3 c = c.field-3.ensures.1

pub bounds-blade-2 : goal.bounds-blade-2
bounds-blade-2 c = simp length-set (omega (arith, c.requires.room))

pub field-requires-4 : goal.field-requires-4
field-requires-4 c = record { room = omega (arith, c.requires.rows.room); narrow = omega arith; small = omega (arith, c.requires.rows.small) }

pub float_of-requires-4 : goal.float_of-requires-4
float_of-requires-4 c = c.field-4.ensures.1

pub bounds-blade-3 : goal.bounds-blade-3
bounds-blade-3 c = simp length-set (omega (arith, c.requires.room))

pub clear-requires : goal.clear-requires
clear-requires c = simp length-set (omega (arith, c.requires.room))

pub shape_of-blade : goal.shape_of-blade
shape_of-blade c = c.clear.auto.s ∙ four_long c.args.blade.now c.float_of.result c.float_of-2.result c.float_of-3.result c.float_of-4.result c.requires.room

pub returns : goal.returns
returns c = c.clear.ensures ∙ (four_put c.args.blade.now c.float_of.result c.float_of-2.result c.float_of-3.result c.float_of-4.result c.requires.room ∙ (λ i. padded (length c.args.blade.now) zero32 ((c.float_of.ensures ∙ ap the_float_of c.field.ensures.0) i ∷ (c.float_of-2.ensures ∙ ap the_float_of c.field-2.ensures.0) i ∷ (c.float_of-3.ensures ∙ ap the_float_of c.field-3.ensures.0) i ∷ (c.float_of-4.ensures ∙ ap the_float_of c.field-4.ensures.0) i ∷ [])))
