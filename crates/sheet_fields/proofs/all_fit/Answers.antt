-- `sheet_fields::all_fit` meets its contract. Assumes nothing.
use mathlib.Core.Path.{sym, ◌∙◌}
use Rattle.sheet_fields.proofs.all_fit.Goals as goal

pub returns-then-fits3-3 : goal.returns-then-fits3-3
returns-then-fits3-3 c = let e1 = sym c.particles_fit.ensures ∙ c.if-particles_fit.true in let e2 = sym c.fits3.ensures ∙ c.if-fits3.true in let e3 = sym c.fits3-then-fits3.ensures ∙ c.if-fits3-2.true in let e4 = sym c.fits3-then-fits3-2.ensures ∙ c.if-fits3-3.true in c.whole_fit.ensures ∙ rw (e1, e2, e3, e4)

pub returns-else-fits3-3 : goal.returns-else-fits3-3
returns-else-fits3-3 c = let e1 = sym c.particles_fit.ensures ∙ c.if-particles_fit.true in let e2 = sym c.fits3.ensures ∙ c.if-fits3.true in let e3 = sym c.fits3-then-fits3.ensures ∙ c.if-fits3-2.true in let e4 = sym c.fits3-then-fits3-2.ensures ∙ c.if-fits3-3.false in rw (e1, e2, e3, e4)

pub returns-else-fits3-2 : goal.returns-else-fits3-2
returns-else-fits3-2 c = let e1 = sym c.particles_fit.ensures ∙ c.if-particles_fit.true in let e2 = sym c.fits3.ensures ∙ c.if-fits3.true in let e3 = sym c.fits3-then-fits3.ensures ∙ c.if-fits3-2.false in rw (e1, e2, e3)

pub returns-else-fits3 : goal.returns-else-fits3
returns-else-fits3 c = let e1 = sym c.particles_fit.ensures ∙ c.if-particles_fit.true in let e2 = sym c.fits3.ensures ∙ c.if-fits3.false in rw (e1, e2)

pub returns-else-particles_fit : goal.returns-else-particles_fit
returns-else-particles_fit c = let e1 = sym c.particles_fit.ensures ∙ c.if-particles_fit.false in rw (e1)
