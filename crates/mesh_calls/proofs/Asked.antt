-- The arguments of a job, as its tests tell them. Assumes nothing.
use Prim.Native.Nat.{ℕ, ◌/◌}
use mathlib.Core.Path.{◌≡◌, sym, ◌∙◌, ap}
use mathlib.Core.Bool.{Bool, ◌||◌}
use mathlib.Core.List.{List}
use borrow.Author.Tests.{eq-eqb, ne_eqb}
use lib.Dec.{eqb, leb}
use lib.ListN.{length}
use lib.Ieee.{Float}
use Rattle.model.specs.Calls.{triangles_lent, known}
use Rattle.lists.proofs.Stores.{tab_length}
use Rattle.model.specs.Mesh.{Mesh}
use Rattle.mesh.specs.At.{triangle_row, triangles_at, mesh_at}
use Rattle.mesh.specs.Given.{as_rooms}
use Rattle.mesh.specs.declared.Counts.{Counts}
use Rattle.mesh.specs.declared.Rooms.{Rooms}
use Rattle.mesh_calls.specs.Jobs.{job_arguments}
use Rattle.mesh_calls.specs.declared.Job.{Job}

-- an edition that is known, tested first against 1
pub known_first : (n : ℕ) (t : Bool) → n ≡ 1 → t ≡ eqb n 1 → t ≡ known n
known_first n t h e = e ∙ eq-eqb n 1 h ∙ sym (ap (λ (b : Bool). b || eqb n 2) (eq-eqb n 1 h))

-- and then against 2
pub known_second : (n : ℕ) (t : Bool) → (n ≡ 1 → ⊥) → t ≡ eqb n 2 → t ≡ known n
known_second n t h e = e ∙ sym (ap (λ (b : Bool). b || eqb n 2) (ne_eqb n 1 h))

-- the triangles have room
pub room_test : (k : Counts) (points : List Float) (roots corners : List ℕ) (volumes : List Float) (ends : List ℕ) (lengths : List Float) (outline : List ℕ) (R : Rooms) {t : Bool} → t ≡ leb k.triangles R.triangles
    → t ≡ triangles_lent (as_rooms R) (mesh_at k points roots corners volumes ends lengths outline)
unfolding mesh_at triangles_at
room_test k points roots corners volumes ends lengths outline R e =
    e ∙ ap (λ (n : ℕ). leb n R.triangles) (sym (tab_length k.triangles (triangle_row (length corners / 3) (length volumes / 2) corners volumes)))

-- the test of a job, in the arm that names it
pub job_fits : (M : Mesh) (R : Rooms) (job j : Job) (ls : List ℕ) {t : Bool} → job ≡ j → t ≡ job_arguments j ls (as_rooms R) M → t ≡ job_arguments job ls (as_rooms R) M
job_fits M R job j ls e q = q ∙ ap (λ (x : Job). job_arguments x ls (as_rooms R) M) (sym e)
