-- `reading_c::tiny::groups_asked` meets its contract: a tiny image in tiny blocks, or the question. Assumes nothing.
use native.Mathlib.Omega.{arith}
use mathlib.Core.Path.{sym, ◌∙◌}
use Rattle.image.proofs.Loading.{sized_counts}
use Rattle.reading_c.proofs.tiny.groups_asked.Goals as goal

pub is_tiny-requires : goal.is_tiny-requires
is_tiny-requires c = sized_counts _ (sym c.image_sized.ensures ∙ c.if-image_sized.true)

pub tiny_groups-requires : goal.tiny_groups-requires
tiny_groups-requires c = (sym c.image_sized.ensures ∙ c.if-image_sized.true, c.requires, sym c.is_tiny.ensures ∙ c.if-is_tiny.true)

pub returns-then-is_tiny : goal.returns-then-is_tiny
returns-then-is_tiny c = c.tiny_groups.ensures

pub image_asked-requires : goal.image_asked-requires
image_asked-requires c = omega arith

pub returns : goal.returns
returns c = c.image_asked.ensures
