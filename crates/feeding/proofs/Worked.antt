-- Document 01's worked sheet fed in parts, in both editions, and sheets that are too long. Computed examples. Assumes nothing.
use Prim.Native.Nat.{ℕ, zero, suc, ◌≤◌}
use mathlib.Core.Bool.{false, cond, ◌||◌}
use native.Mathlib.Omega.{arith}
use mathlib.Core.Path.{◌≡◌, refl, ap, ◌∙◌}
use mathlib.Core.List.{List, [], ◌∷◌, ◌++◌, map}
use lib.ListN.{length, take, drop}
use Rattle.bits.specs.Bits.{bits, bits_of, num}
use Rattle.sheet.specs.Sheet.{above, most, too_many_of, counts_at}
use Rattle.sheet.specs.declared.Counts.{Counts}
use Rattle.sheet.proofs.Cases.{worked, worked_counts}
use Rattle.edition.specs.Edition.{as_first_of, bits_in_of, typed_with, typed_seen, seen_in, seen_of, whole_with}
use Rattle.std.specs.Prelude.{Err}
use Rattle.mesh.specs.declared.refusals.Refusal.TheVariants.{Size, Sheet}
use Rattle.edition.proofs.Cases.{worked2, worked_seen, worked2_seen}
use Rattle.feeding.specs.Parts.{joined}
use Rattle.feeding.specs.Feeding.{size, kept_in, OpenDone, Feeds}
use Rattle.feeding.proofs.Long.{seen_full}
use Rattle.feeding.proofs.Cuts.{kept_seen, fed_keeps}

-- ---- ways of cutting the worked sheet

-- in parts of one byte: 46 of them, and 36 in the second edition
abbrev pub ones : List ℕ → List (List ℕ)
ones l = map (λ x. x ∷ []) l

-- in parts of 0, 1, 2, .., 8 bytes, and the rest
unfoldable pub steps : ℕ → ℕ → List ℕ → List (List ℕ)
steps zero k l = l ∷ []
steps (suc n) k l = take k l ∷ steps n (suc k) (drop k l)

pub ones_count : (length (ones worked) ≡ 46) × (length (ones worked2) ≡ 36)
unfolding worked worked2
ones_count = (refl, refl)

pub ones_joined : joined (ones worked) ≡ worked
unfolding joined worked
ones_joined = refl

pub ones2_joined : joined (ones worked2) ≡ worked2
unfolding joined worked2
ones2_joined = refl

pub steps_joined : joined (steps 9 0 worked) ≡ worked
unfolding joined worked steps
steps_joined = refl

pub steps2_joined : joined (steps 9 0 worked2) ≡ worked2
unfolding joined worked2 steps
steps2_joined = refl

pub one_joined : joined (worked ∷ []) ≡ worked
unfolding joined worked
one_joined = refl

-- whichever way it is cut, what a reader keeps is the worked sheet, whole
pub worked_fed : (parts : List (List ℕ)) (b₀ b₁ b₂ : List ℕ) (a : ℕ) → joined parts ≡ worked → length b₀ ≡ size → OpenDone b₀ a b₁ → Feeds b₁ parts b₂ → seen_of most (kept_in b₂) ≡ whole_with worked_counts false
worked_fed parts b₀ b₁ b₂ a j h O F = kept_seen most (joined parts) b₂ (fed_keeps parts b₀ b₁ b₂ a h O F) ∙ (ap (seen_of most) j ∙ worked_seen)

-- in the second edition too
pub worked2_fed : (parts : List (List ℕ)) (b₀ b₁ b₂ : List ℕ) (a : ℕ) → joined parts ≡ worked2 → length b₀ ≡ size → OpenDone b₀ a b₁ → Feeds b₁ parts b₂ → seen_of most (kept_in b₂) ≡ whole_with worked_counts false
worked2_fed parts b₀ b₁ b₂ a j h O F = kept_seen most (joined parts) b₂ (fed_keeps parts b₀ b₁ b₂ a h O F) ∙ (ap (seen_of most) j ∙ worked2_seen)

-- ---- refusals

-- its first 45 bytes: 9; the first 35 of the second edition's: 9
pub short_seen : seen_of most (take 45 worked) ≡ Err Sheet
unfolding worked seen_in typed_seen typed_with bits_in_of bits_of bits num above
short_seen = refl

pub short2_seen : seen_of most (take 35 worked2) ≡ Err Sheet
unfolding worked2 seen_in typed_seen typed_with bits_in_of as_first_of bits_of bits num above
short2_seen = refl

-- a reader that was fed nothing: 9
pub nothing_seen : seen_of most (joined []) ≡ Err Sheet
unfolding joined seen_in typed_seen
nothing_seen = refl

-- the header of a full sheet: 1,024 particles, 1,024 triangles, 2,048 edges and 2,048 boundary entries
abbrev pub full_header : List ℕ
full_header = 128 ∷ 16 ∷ 2 ∷ 0 ∷ 32 ∷ 0 ∷ []

full_counts : counts_at (bits_in_of (bits_of full_header)) ≡ most
unfolding bits_in_of bits_of bits num
full_counts = refl

-- 17,293 bytes or more that begin like it: 9
pub long_seen : (rest : List ℕ) → 17287 ≤ length rest → seen_of most (full_header ++ rest) ≡ Err Sheet
unfolding above
long_seen rest h = seen_full most full_header rest (omega arith) (omega arith) ∙ ap (λ (c : Counts). Err (cond (too_many_of c || above most c) Size Sheet)) full_counts
