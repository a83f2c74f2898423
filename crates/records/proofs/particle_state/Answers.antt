-- `records::particle_state` meets its contract: past the end it refuses, and elsewhere `told` is given the fields of the record at v. Assumes nothing.
use Rattle.std.proofs.Common.{◌∙◌, ap, Float}
use Rattle.std.proofs.lemmas.List.{get_or_default}
use Rattle.std.specs.Prelude.{Ok}
use Rattle.records.specs.declared.State.{State}
use Rattle.records.specs.State.{state_in}
use Rattle.records.specs.declared.Particle.{Particle}
use Rattle.records.proofs.Answered.{told_by, unused, absent, present}
use Rattle.records.proofs.particle_state.Goals as goal

pub returns-then-particles-v : goal.returns-then-particles-v
returns-then-particles-v c = absent _ _ c.if-particles-v.true

pub returns : goal.returns
returns c = ap (λ (s : State). state_in (Ok s)) (c.told.ensures ∙ ap told_by (get_or_default _ _ _ unused c.if-particles-v.false)) ∙ present _ _ c.if-particles-v.false
