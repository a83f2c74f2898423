-- `sheet_rows::span` meets its contract. Assumes nothing.
use mathlib.Core.Path.{ap, ap₂, ◌∙◌}
use Rattle.blade.specs.declared.Point.{Point}
use Rattle.blade.specs.Points.{minus_of, length_of}
use borrow.Author.Rules.{rules}
use Rattle.sheet_rows.proofs.span.Goals as goal

pub returns : goal.returns
returns c = c.length.ensures ∙ ap length_of (c.sub.ensures ∙ ap₂ (λ (p q : Point). minus_of p q) c.place.ensures c.place-2.ensures)
