-- `differing::whole::blade_at` meets its contract: field by field. Assumes nothing.
use Rattle.sheet.proofs.MeshReads.{blade_row}
use Rattle.bits.specs.Bits.{bits_of}
use mathlib.Core.List.{[], ◌∷◌}
use mathlib.Core.Path.{◌∙◌}
use native.Mathlib.Omega.{arith}
use Rattle.differing.proofs.whole.blade_at.Goals as goal

-- `differing::whole::blade_at` meets its contract: field by field. Assumes nothing.
pub field-requires : goal.field-requires
field-requires c = let p = c.requires in record { room = omega (arith, p.room); narrow = omega arith; small = omega (arith, p.small) }

pub field-requires-2 : goal.field-requires-2
field-requires-2 c = let p = c.requires in record { room = omega (arith, p.room); narrow = omega arith; small = omega (arith, p.small) }

pub field-requires-3 : goal.field-requires-3
field-requires-3 c = let p = c.requires in record { room = omega (arith, p.room); narrow = omega arith; small = omega (arith, p.small) }

pub field-requires-4 : goal.field-requires-4
field-requires-4 c = let p = c.requires in record { room = omega (arith, p.room); narrow = omega arith; small = omega (arith, p.small) }

pub returns : goal.returns
returns c = record { is = (λ i. c.field.ensures.0 i ∷ c.field-2.ensures.0 i ∷ c.field-3.ensures.0 i ∷ c.field-4.ensures.0 i ∷ []) ∙ blade_row (bits_of c.args.s.now) c.args.at; fits = record { x0 = c.field.ensures.1; y0 = c.field-2.ensures.1; x1 = c.field-3.ensures.1; y1 = c.field-4.ensures.1 } }
