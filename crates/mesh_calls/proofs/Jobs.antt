-- The calls that give a mesh are those of the model; each only goes on, and its right arguments have room for the triangles. Assumes nothing.
use Prim.Native.Nat.{ℕ, zero, suc}
use native.Mathlib.Omega.{arith}
use mathlib.Core.Path.{◌≡◌, refl, ap}
use mathlib.Core.Bool.{Bool, true, false, ◌&&◌}
use mathlib.Core.List.{List}
use lib.Dec.{eqb}
use lib.Ieee.{Float}
use Rattle.lists.specs.Lists.{pick}
use Rattle.lists.proofs.Sifts.{and_true}
use Rattle.model.specs.Mesh.{Mesh}
use Rattle.model.specs.Elements.{Kind, kind_of}
use Rattle.model.specs.Run.{Run, Rooms as RoomsOf, start}
use Rattle.model.specs.Cut.{Line, rounded, exact, cut}
use Rattle.model.specs.Calls.{sides_ok, fraction_ok, triangles_lent, refusal, known, exact_refusal, first_of, cut_refusal, Outcome, outcome, unless, split_call, straddlers_call, cut_call, crack_call}
use Rattle.model.specs.Trace.{Threes}
use Rattle.model_laws.proofs.Accepted.{accepted_rowed}
use Rattle.model_laws.proofs.Exactly.{signs_exact}
use Rattle.model_laws.proofs.Kept.{cut_no_refusal}
use Rattle.model_laws.proofs.Whole.{exactable}
use Rattle.model_laws.proofs.Steps.{Onward, sides_onward, straddlers_onward, cut_onward, crack_onward}
use Rattle.blade.specs.declared.Point.{Point}
use Rattle.marks.specs.Marking.{rule_is, blade_by}
use Rattle.marks.specs.declared.Rule.TheVariants.{Rounded, Signs}
use Rattle.mesh_calls.specs.Jobs.{job_numbers, job_arguments, job_edition, job_refusal, rule_in_of, job_run, job_call}
use Rattle.mesh_calls.specs.declared.Job.{Job}
use Rattle.mesh_calls.specs.declared.Job.TheVariants.{Straddlers, Split, Cut, Crack}

-- ---- the calls of the model

-- nothing but a cut has an edition that refuses
first_alone : (n : ℕ) → first_of n 0 ≡ n
first_alone zero = refl
first_alone (suc n) = refl

-- so what refuses it are the checks 1 to 4
unless_checked : (r : ℕ) (o : Outcome) → unless (first_of r 0) o ≡ unless r o
unless_checked r o = ap (λ (n : ℕ). unless n o) (first_alone r)

pub straddlers_is : (ls : List ℕ) (sized : Bool) (M : Mesh) (L : RoomsOf) → job_call Straddlers ls sized M L ≡ straddlers_call sized M L
unfolding job_call straddlers_call
straddlers_is ls sized M L = unless_checked (refusal sized M true (job_arguments Straddlers ls L M)) (outcome L (job_run Straddlers ls (kind_of M) (start M)))

pub split_is : (v : ℕ) (ls : List ℕ) (sized : Bool) (M : Mesh) (L : RoomsOf) → job_call (Split v) ls sized M L ≡ split_call sized M v ls L
unfolding job_call split_call
split_is v ls sized M L = unless_checked (refusal sized M true (job_arguments (Split v) ls L M)) (outcome L (job_run (Split v) ls (kind_of M) (start M)))

-- what nothing refuses is the same, where it may be another thing that is done
unless_same : (r : ℕ) (o q : Outcome) → (r ≡ 0 → o ≡ q) → unless r o ≡ unless r q
unless_same zero o q h = h refl
unless_same (suc n) o q h = refl

-- the rule of signs in edition 2 cuts as the exact one, where nothing of that edition refuses; edition 1 has one rule
rule_same : (M : Mesh) (B : Line) (f : Float) (second : Bool) → Threes M.triangles → pick second (exact_refusal M B) 0 ≡ 0
    → cut (kind_of M) (record { line = B; rule = rule_is (pick second Signs Rounded) }) f (start M) ≡ cut (kind_of M) (record { line = B; rule = pick second exact rounded }) f (start M)
rule_same M B f true three e = let X = exactable M B e in signs_exact M B f three X.mesh X.line X.kind
rule_same M B f false three e = refl

-- The cut of an edition: the program's, by the signs of rounded offsets in edition 2, is the model's, which is exact.
pub cut_is : (n : ℕ) (b0 b1 : Point) (f : Float) (ls : List ℕ) (sized : Bool) (M : Mesh) (L : RoomsOf) → job_call (Cut n b0 b1 f) ls sized M L ≡ cut_call sized M n (record { from = b0; to = b1 }) f L
unfolding job_call cut_call
cut_is n b0 b1 f ls sized M L =
    let B : Line = record { from = b0; to = b1 } in
    unless_same (cut_refusal sized M n B f L) _ _ (λ z. ap (outcome L) (rule_same M B f (eqb n 2) (accepted_rowed M (cut_no_refusal sized M n B f L z).0.indices).triangles (cut_no_refusal sized M n B f L z).1))

pub crack_is : (min : ℕ) (ls : List ℕ) (sized : Bool) (M : Mesh) (L : RoomsOf) → job_call (Crack min) ls sized M L ≡ crack_call sized M ls min L
unfolding job_call crack_call
crack_is min ls sized M L = unless_checked (refusal sized M true (job_arguments (Crack min) ls L M)) (outcome L (job_run (Crack min) ls (kind_of M) (start M)))

-- ---- each job

-- it only goes on
pub job_onward : (j : Job) (ls : List ℕ) (K : Kind) (R : Run) → Onward R (job_run j ls K R)
job_onward Straddlers ls K R = straddlers_onward K R
job_onward (Split v) ls K R = sides_onward K v ls R
job_onward (Cut n b0 b1 f) ls K R = cut_onward K (blade_by (rule_in_of n) b0 b1) f R
job_onward (Crack min) ls K R = crack_onward K min ls R

-- right arguments have room for the triangles
pub job_lent : (j : Job) (ls : List ℕ) (L : RoomsOf) (M : Mesh) → job_arguments j ls L M ≡ true → triangles_lent L M ≡ true
job_lent Straddlers ls L M e = e
job_lent (Split v) ls L M e = (and_true (sides_ok M v ls) (triangles_lent L M) e).1
job_lent (Cut n b0 b1 f) ls L M e = (and_true (known n && fraction_ok f) (triangles_lent L M) e).1
job_lent (Crack min) ls L M e = e

first_none : (a b : ℕ) → first_of a b ≡ 0 → a ≡ 0
first_none zero b e = refl
first_none (suc a) b e = absurd (omega (arith, e))

-- what is not refused has passed the checks 1 to 4
pub job_checked : (j : Job) (ls : List ℕ) (sized : Bool) (M : Mesh) (L : RoomsOf) → job_refusal j ls sized M L ≡ 0 → refusal sized M (job_numbers j) (job_arguments j ls L M) ≡ 0
job_checked j ls sized M L e = first_none (refusal sized M (job_numbers j) (job_arguments j ls L M)) (job_edition j M) e
