-- `tear::ways::goes_first` meets its contract: by the order of the loads. Assumes nothing.
use mathlib.Core.Path.{refl, ap, ◌∙◌}
use Rattle.std.specs.Prelude.{Some}
use Rattle.tear.proofs.WayLaws.{first_told}
use Rattle.tear.proofs.ways.goes_first.Goals as goal

pub returns-in-Some-Less : goal.returns-in-Some-Less
returns-in-Some-Less c = first_told _ _ _ _ _ _ c.total_cmp-o.ensures (c.in-Some-Less.is ∙ ap Some (rw c.in-Some-Less.is at c.in-Some-Less.field-0-is)) refl

pub returns-in-Some-Equal : goal.returns-in-Some-Equal
returns-in-Some-Equal c = first_told _ _ _ _ _ _ c.total_cmp-o.ensures (c.in-Some-Equal.is ∙ ap Some (rw c.in-Some-Equal.is at c.in-Some-Equal.field-0-is)) refl

pub returns-in-Some-Greater : goal.returns-in-Some-Greater
returns-in-Some-Greater c = first_told _ _ _ _ _ _ c.total_cmp-o.ensures (c.in-Some-Greater.is ∙ ap Some (rw c.in-Some-Greater.is at c.in-Some-Greater.field-0-is)) refl

pub returns-in-None : goal.returns-in-None
returns-in-None c = first_told _ _ _ _ _ _ c.total_cmp-o.ensures c.in-None.is refl
