-- The answer to a job is that of the call of the model, where their outcomes are the same. Assumes nothing.
use Prim.Native.Nat.{ℕ}
use mathlib.Core.Path.{◌≡◌, subst}
use mathlib.Core.List.{List}
use lib.Ieee.{Float}
use Rattle.model.specs.Calls.{Outcome}
use Rattle.mesh.specs.Given.{Lent}
use Rattle.call_frame.specs.declared.Answer.{Answer}
use Rattle.call_frame.specs.Answered.{Answered}
use Rattle.std.specs.Prelude.{Result}
use Rattle.mesh.specs.declared.refusals.Refusal.{Refusal}

pub answered_as : {o o' : Outcome} {L : Lent} {a : Result Answer Refusal} {p : List Float} {r c : List ℕ} {v : List Float} {e : List ℕ} {l : List Float} {b g : List ℕ} → o ≡ o' → Answered o L a p r c v e l b g → Answered o' L a p r c v e l b g
answered_as {L = L} {a} {p} {r} {c} {v} {e} {l} {b} {g} q h = subst (λ (o : Outcome). Answered o L a p r c v e l b g) q h
