-- `fan_c::fan` meets its contract: 1, or the answer on the image. Assumes nothing.
use mathlib.Core.Path.{sym, ◌∙◌}
use native.Mathlib.Omega.{arith}
use Rattle.fan_c.proofs.Fanning.{fan_tellable, fan_replied, fan_unsized}
use Rattle.fan_c.proofs.fan.Goals as goal

pub image_fan-found-requires : goal.image_fan-found-requires
image_fan-found-requires c = (sym c.image_sized.ensures ∙ c.if-image_sized.true, omega arith)

pub reply_found-requires : goal.reply_found-requires
reply_found-requires c = fan_tellable _ _ _ _ _ _ (omega arith) c.image_fan-found.ensures

pub returns-then-image_sized : goal.returns-then-image_sized
returns-then-image_sized c = fan_replied _ _ _ _ _ _ _ c.image_fan-found.ensures c.reply_found.ensures

pub returns : goal.returns
returns c = fan_unsized _ _ _ _ _ _ c.image_sized.ensures c.if-image_sized.false c.reply_refused.ensures
