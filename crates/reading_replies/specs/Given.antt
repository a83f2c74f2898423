-- The reply to an entry's answer, case by case. Only the contracts between the functions need this file. Definitions only.
use Rattle.std.specs.Prelude.{ℕ, ◌<◌, List, [], ◌∷◌, Bool, Float, Result, Ok, Err}
use Rattle.std.specs.Float.{binary32}
use Rattle.std.specs.Float.Ieee.{to_bits}
use Rattle.lists.specs.Lists.{pick}
use Rattle.model.specs.Reads.{Read, refused, value}
use Rattle.blade.specs.declared.Hit.{Hit}
use Rattle.mesh.specs.Refused.{number_of}
use Rattle.mesh.specs.declared.refusals.Refusal.{Refusal}
use Rattle.reading_replies.specs.Replies.{code_of, hit_words}

-- an answer that is a number, a count, a truth, a blade test, where `told` tells a refusal's number
abbrev pub number_reply_by : {E : Type 0} → (E → ℕ) → Result Float E → Read (List ℕ)
number_reply_by told (Err e) = refused (told e)
number_reply_by told (Ok x) = value (to_bits binary32 x ∷ [])

abbrev pub count_reply_by : {E : Type 0} → (E → ℕ) → Result ℕ E → Read (List ℕ)
count_reply_by told (Err e) = refused (told e)
count_reply_by told (Ok n) = value (n ∷ [])

-- a count, and words behind it
abbrev pub groups_told_by : {E : Type 0} → (E → ℕ) → Result ℕ E → List ℕ → Read (List ℕ)
groups_told_by told (Err e) ws = refused (told e)
groups_told_by told (Ok n) ws = value (n ∷ ws)

abbrev pub truth_reply_by : {E : Type 0} → (E → ℕ) → Result Bool E → Read (List ℕ)
truth_reply_by told (Err e) = refused (told e)
truth_reply_by told (Ok b) = value (pick b 1 0 ∷ [])

abbrev pub tested_reply_by : {E : Type 0} → (E → ℕ) → Result Hit E → Read (List ℕ)
tested_reply_by told (Err e) = refused (told e)
tested_reply_by told (Ok h) = value (hit_words h)

-- the same of what a `Refusal` refuses
abbrev pub number_reply : Result Float Refusal → Read (List ℕ)
number_reply = number_reply_by number_of

abbrev pub count_reply : Result ℕ Refusal → Read (List ℕ)
count_reply = count_reply_by number_of

abbrev pub groups_told : Result ℕ Refusal → List ℕ → Read (List ℕ)
groups_told = groups_told_by number_of

abbrev pub truth_reply : Result Bool Refusal → Read (List ℕ)
truth_reply = truth_reply_by number_of

abbrev pub tested_reply : Result Hit Refusal → Read (List ℕ)
tested_reply = tested_reply_by number_of

-- the number of a refusal fits a byte
abbrev pub SmallCode : Read (List ℕ) → Type 0
SmallCode o = code_of o < 256
