-- `fan_c::image_fan` meets its contract: the faults of the mesh, an absent particle, or the fan. Assumes nothing.
use native.Mathlib.Omega.{arith}
use mathlib.Core.Path.{refl}
use Rattle.image.proofs.Loading.{sized_counts}
use Rattle.fan_c.proofs.Fanning.{handed, fan_fault, fan_absent, fan_found}
use Rattle.fan_c.proofs.image_fan.Goals as goal

pub returns-in_err-image_fault : goal.returns-in_err-image_fault
returns-in_err-image_fault c = handed _ _ _ c.from_residual.ensures.1 (fan_fault c.args.bytes.now c.requires.0 _ _ _ c.in_err-image_fault.ensures _ refl)

pub returns-then-v-word_at : goal.returns-then-v-word_at
returns-then-v-word_at c = fan_found c.args.bytes.now c.requires.0 _ _ _ c.in_ok-image_fault.ensures refl _ _ c.word_at.ensures.0 c.if-v-word_at.true c.fan_numbers-n.ensures

pub returns : goal.returns
returns c = fan_absent c.args.bytes.now c.requires.0 _ _ _ c.in_ok-image_fault.ensures refl _ c.word_at.ensures.0 c.if-v-word_at.false

pub word_at-requires : goal.word_at-requires
word_at-requires c = omega (arith, sized_counts _ c.requires.0)
