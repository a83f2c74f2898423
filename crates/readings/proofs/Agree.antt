-- Any two outcomes that an entry's contract allows agree: the same answer, and the same content of the table that was lent.
-- The other entries state their answer as an equation and are lent nothing to write, so that one law holds for all of them.
use Prim.Native.Nat.{ℕ}
use mathlib.Core.Path.{◌≡◌, sym, ap, ◌∙◌}
use mathlib.Core.List.{List}
use Rattle.std.specs.Prelude.{Result, Ok, Err}
use Rattle.model.specs.Reads.{Read, refused, value}
use Rattle.mesh.specs.declared.refusals.Refusal.{Refusal}
use Rattle.mesh.proofs.Refused.{answer_tells}
use Rattle.mesh.specs.Refused.{answer_in}
use Rattle.readings.specs.Answers.{GroupsAnswered}

-- two answers that equal what the definition gives
pub answers_agree : {A : Type 0} {o r s : A} → r ≡ o → s ≡ o → r ≡ s
answers_agree p q = p ∙ sym q

-- root, blade_hit, pieces, rest_measure, rest_measure_of, opens_without_confetti: two answers that say what the definition gives
pub told_agree : {A : Type 0} {o : Read A} {r s : Result A Refusal} → answer_in r ≡ o → answer_in s ≡ o → r ≡ s
told_agree {r = r} {s = s} p q = answer_tells r s (answers_agree p q)

-- groups: the count or the refusal, and every place of the lent table
pub groups_agree : {o : Read (List ℕ × ℕ)} {lent : ℕ} {r s : Result ℕ Refusal} {t u : List ℕ} → GroupsAnswered o lent r t → GroupsAnswered o lent s u → (r ≡ s) × (t ≡ u)
groups_agree P Q = (told_agree P.answer Q.answer, answers_agree P.table_is Q.table_is)
