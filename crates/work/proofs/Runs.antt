-- Laws of runs at work in lent blocks: one step behind a run, and one worker behind another. Assumes nothing.
use mathlib.Core.Path.{◌≡◌, refl, ◌∙◌, ap, subst}
use mathlib.Core.List.{List, [], ◌∷◌, ◌++◌}
use Prim.Native.Nat.{ℕ, zero, suc, ◌<◌, ◌≤◌}
use native.Mathlib.Omega.{arith}
use borrow.Author.Tests.{ne_eqb, le-ltb, lt-ltb}
use lib.ListN.{length}
use lib.Dec.{eqb}
use lib.Ieee.{Float}
use Rattle.lists.specs.Lists.{pick}
use Rattle.model.specs.Mesh.{Mesh}
use Rattle.model.specs.Run as M
use Rattle.model.specs.Run.{Entry, Need, Run, step_to}
use Rattle.model.specs.Calls.{too_small, first_fault}
use Rattle.model_laws.proofs.Steps.{Onward, fault_front, fault_stays}
use Rattle.mesh.specs.Log.{World, world_of}
use Rattle.mesh.specs.Given.{as_rooms}
use Rattle.mesh.specs.declared.Counts.{Counts}
use Rattle.mesh.specs.declared.Rooms.{Rooms}
use Rattle.work.specs.Working.{Within, Went, Works, WorksBeside}
use Rattle.work.specs.Ran.{Ran}
use Rattle.std.specs.Prelude.{Ok, Err}
use Rattle.mesh.specs.declared.refusals.Refusal.{Refusal}
use Rattle.mesh.specs.Refused.{number_of}

-- ---- the rooms of one step

-- a need within the rooms
pub room_enough : (L : M.Rooms) (N : Need) → N.particles ≤ L.particles → N.edges ≤ L.edges → N.boundary ≤ L.boundary → N.log ≤ L.log → too_small L N ≡ 0
unfolding too_small
room_enough L N p e b l = rw (le-ltb _ _ p, le-ltb _ _ e, le-ltb _ _ b, le-ltb _ _ l)

-- only the log lacks room
pub log_lacks : (L : M.Rooms) (N : Need) → N.particles ≤ L.particles → N.edges ≤ L.edges → N.boundary ≤ L.boundary → L.log < N.log → too_small L N ≡ 8
unfolding too_small
log_lacks L N p e b l = rw (le-ltb _ _ p, le-ltb _ _ e, le-ltb _ _ b, lt-ltb _ _ l)

-- ---- one step behind a run

-- the places that a step to M needs, behind the log of R
abbrev pub need_behind : Run → Mesh → List Entry → ℕ → ℕ → Need
need_behind R M more e b = record { particles = length M.particles; edges = e; boundary = b; log = length (R.log ++ more) }

pub pick_same : (t : ℕ) → pick (eqb t 0) 0 t ≡ t
pick_same zero = refl
pick_same (suc t) = rw (ne_eqb (suc t) 0 (λ d. omega arith))

-- where no step of R lacks room, what lacks is what the one behind it lacks
pub step_fault : (L : M.Rooms) (R : Run) (M : Mesh) (more : List Entry) (e b : ℕ) → first_fault L R.needs ≡ 0
    → first_fault L (step_to R M more e b).needs ≡ too_small L (need_behind R M more e b)
unfolding step_to first_fault
step_fault L R M more e b z =
    let N : Need = need_behind R M more e b in
    fault_front L R.needs (N ∷ []) ∙ ap (λ x. pick (eqb x 0) (first_fault L (N ∷ [])) x) z ∙ pick_same (too_small L N)

-- what a worker tells of one step to M that logs `more`: the room that it lacks; or the blocks hold M and the log
abbrev pub StepTold : Rooms → Run → Mesh → List Entry → ℕ → ℕ → (Counts → World) → Ran → Type 0
StepTold L R M more e b at (Err c) = (too_small (as_rooms L) (need_behind R M more e b) ≡ number_of c) × (0 < number_of c)
StepTold L R M more e b at (Ok k) = (too_small (as_rooms L) (need_behind R M more e b) ≡ 0) × Within k L × (at k ≡ world_of M (R.log ++ more))

-- so a worker on one step went as it told
pub went_step : (L : Rooms) (R : Run) (M : Mesh) (more : List Entry) (e b : ℕ) (at : Counts → World) (r : Ran) → first_fault (as_rooms L) R.needs ≡ 0
    → StepTold L R M more e b at r → Went L (step_to R M more e b) at r
unfolding step_to
went_step L R M more e b at (Err c) z T = (step_fault (as_rooms L) R M more e b z ∙ T.0, T.1)
went_step L R M more e b at (Ok k) z T = (step_fault (as_rooms L) R M more e b z ∙ T.0, T.1, T.2)

-- ---- one worker behind another

-- what holds whatever stands in the blocks of the particles holds for the blocks that are there
pub beside : {f : Run → Run} {L : Rooms} {W : List Float → List ℕ → World} {at : List Float → List ℕ → Counts → World} {r : Ran} → WorksBeside f L W at r
    → (points : List Float) (roots : List ℕ) → Works f L (W points roots) (at points roots) r
beside B points roots = B.works points roots

-- a worker that does nothing
pub works_stay : {L : Rooms} {at : Counts → World} (k : Counts) → Within k L → Works (λ (R : Run). R) L (at k) at (Ok k)
works_stay k w = record { went = λ R e z. (z, w, e) }

-- a worker on f is one on g, where the two agree on the runs that the blocks hold
pub works_as : {f g : Run → Run} {L : Rooms} {W : World} {at : Counts → World} {r : Ran} → ((R : Run) → W ≡ world_of R.mesh R.log → f R ≡ g R) → Works f L W at r → Works g L W at r
works_as {L = L} {at = at} {r = r} same F = record { went = λ R e z. subst (λ (S : Run). Went L S at r) (same R e) (F.went R e z) }

-- f is done, and then g is done to what it left
pub works_then : {f g : Run → Run} {L : Rooms} {W : World} {at at' : Counts → World} {k : Counts} {r : Ran} → Works f L W at (Ok k) → Works g L (at k) at' r
    → Works (λ (R : Run). g (f R)) L W at' r
works_then {f} F G = record { went = λ R e z. let h = F.went R e z in G.went (f R) h.2 h.0 }

-- f lacks room, and so does what goes on behind it
pub works_refused : {f : Run → Run} (g : Run → Run) {L : Rooms} {W : World} {at at' : Counts → World} {c : Refusal} → ((R : Run) → Onward (f R) (g (f R))) → Works f L W at (Err c)
    → Works (λ (R : Run). g (f R)) L W at' (Err c)
works_refused {f} g {L} {c = c} O F =
    record {
      went =
          λ R e z.
          let h = F.went R e z in
          by (number_of c) (f R) (g (f R)) (O R) h.0 h.1;
    }
  where
    by : (c : ℕ) (S T : Run) → Onward S T → first_fault (as_rooms L) S.needs ≡ c → 0 < c → (first_fault (as_rooms L) T.needs ≡ c) × (0 < c)
    by zero S T G e p = absurd (omega arith)
    by (suc n) S T G e p = (fault_stays (as_rooms L) S T n G e, p)

-- an answer that is known
pub works_known : {f : Run → Run} {L : Rooms} {W : World} {at : Counts → World} (r s : Ran) → r ≡ s → Works f L W at r → Works f L W at s
works_known {f} {L} {W} {at} r s e F = subst (λ (x : Ran). Works f L W at x) e F
