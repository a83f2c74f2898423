-- `sheet_fields::all_same` meets its contract. Assumes nothing.
use mathlib.Core.Path.{sym, ◌∙◌}
use Rattle.sheet_fields.proofs.WholeLaws.{fields_long}
use Rattle.sheet_fields.proofs.all_same.Goals as goal

pub returns-then-same3-3 : goal.returns-then-same3-3
returns-then-same3-3 c = let e1 = sym c.same_particles.ensures ∙ c.if-same_particles.true in let e2 = sym c.same3.ensures ∙ c.if-same3.true in let e3 = sym c.same3-then-same3.ensures ∙ c.if-same3-2.true in let e4 = sym c.same3-then-same3-2.ensures ∙ c.if-same3-3.true in rw (e1, e2, e3, e4, fields_long c.args.blade.now)

pub returns-else-same3-3 : goal.returns-else-same3-3
returns-else-same3-3 c = let e1 = sym c.same_particles.ensures ∙ c.if-same_particles.true in let e2 = sym c.same3.ensures ∙ c.if-same3.true in let e3 = sym c.same3-then-same3.ensures ∙ c.if-same3-2.true in let e4 = sym c.same3-then-same3-2.ensures ∙ c.if-same3-3.false in rw (e1, e2, e3, e4)

pub returns-else-same3-2 : goal.returns-else-same3-2
returns-else-same3-2 c = let e1 = sym c.same_particles.ensures ∙ c.if-same_particles.true in let e2 = sym c.same3.ensures ∙ c.if-same3.true in let e3 = sym c.same3-then-same3.ensures ∙ c.if-same3-2.false in rw (e1, e2, e3)

pub returns-else-same3 : goal.returns-else-same3
returns-else-same3 c = let e1 = sym c.same_particles.ensures ∙ c.if-same_particles.true in let e2 = sym c.same3.ensures ∙ c.if-same3.false in rw (e1, e2)

pub returns-else-same_particles : goal.returns-else-same_particles
returns-else-same_particles c = let e1 = sym c.same_particles.ensures ∙ c.if-same_particles.false in rw (e1)
