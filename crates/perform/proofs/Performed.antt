-- A call from its beginning to its end, whatever is to be done: refused, or begun and worked on, it comes to the model's outcome. Assumes nothing.
use Prim.Native.Nat.{ℕ}
use mathlib.Core.Path.{◌≡◌, refl, sym, ◌∙◌, ap, subst}
use mathlib.Core.Bool.{true, ◌&&◌}
use mathlib.Core.List.{List, []}
use lib.Dec.{eqb, ltb}
use lib.ListN.{length}
use lib.Ieee.{Float}
use borrow.Author.Tests.{ltb-true, eqb-true}
use Rattle.lists.specs.Lists.{tab, all}
use Rattle.lists.proofs.Sifts.{and_true, all_get}
use Rattle.model.specs.Mesh.{Mesh}
use Rattle.model.specs.Elements.{Kind, kind_of, fan_of}
use Rattle.model.specs.Run.{Rooms as RoomsOf}
use Rattle.model.specs.Calls.{refused, sides_ok, triangles_lent}
use Rattle.mesh.specs.At.{mesh_at}
use Rattle.mesh.specs.Log.{World, log_at, world_at}
use Rattle.mesh.specs.Given.{Given, Lent, mesh_of, sizes, sizes_fit_of, as_rooms}
use Rattle.mesh.specs.Filled.{lent}
use Rattle.mesh.specs.declared.Counts.{Counts}
use Rattle.mesh.specs.declared.Rooms.{Rooms}
use Rattle.work.specs.Working.{Roomed, Ready, Works, Logged}
use Rattle.split.specs.Tables.{SidesGiven}
use Rattle.work.specs.Ran.{Ran}
use Rattle.call_frame.specs.Framed.{RoomsLent, BeginAsked, Begun, Came}
use Rattle.call_frame.proofs.Begun.{begin_asked, begun_by, began_passed, began_ready}
use Rattle.call_frame.proofs.Calls.{Counted, blocks_counted, nothing_before, begun_refused, came_begun, came_worked, unlogged}
use Rattle.mesh_calls.specs.Jobs.{job_numbers, job_arguments, job_refusal, job_run, job_call}
use Rattle.perform.specs.Asks.{JobAsked}
use Rattle.mesh_calls.specs.declared.Job.{Job}
use Rattle.mesh_calls.specs.declared.Job.TheVariants.{Straddlers, Split, Cut, Crack}
use Rattle.mesh_calls.proofs.Jobs.{job_onward, job_lent, job_checked}
use Rattle.std.specs.Prelude.{Ok, Err}
use Rattle.mesh.specs.declared.refusals.Refusal.{Refusal}
use Rattle.mesh.specs.Refused.{number_of}

-- right sides are given
sides_given : (M : Mesh) (v : ℕ) (sides : List ℕ) → sides_ok M v sides ≡ true → SidesGiven (kind_of M) M v sides
unfolding sides_ok
sides_given M v sides e =
    let fit = and_true (ltb v (length M.particles) && all (λ s. ltb s 2) sides) (eqb (length sides) (length (fan_of (kind_of M) M v))) e in
    let here = and_true (ltb v (length M.particles)) (all (λ s. ltb s 2) sides) fit.0 in
    record {
      here = ltb-true _ _ here.0;
      every = eqb-true _ _ fit.1;
      two = λ i h. ltb-true _ _ (all_get (λ s. ltb s 2) sides i 0 here.1 h);
    }

-- and are what the worker asks
pub job_given : (j : Job) (ls : List ℕ) (L : RoomsOf) (M : Mesh) → job_arguments j ls L M ≡ true → JobAsked j ls M
job_given Straddlers ls L M e = tt
job_given (Split v) ls L M e = sides_given M v ls (and_true (sides_ok M v ls) (triangles_lent L M) e).0
job_given (Cut n b0 b1 f) ls L M e = tt
job_given (Crack min) ls L M e = tt

-- ---- every job

-- where nothing refuses a job, its input may be copied
pub job_begins : (j : Job) (ls : List ℕ) (G : Given) (R : Rooms) (I : Lent) (code : ℕ) → code ≡ job_refusal j ls (sizes_fit_of G) (mesh_of G) (as_rooms R) → RoomsLent R I → BeginAsked code R G I
job_begins j ls G R I code e rooms =
    record { sized = λ z. (asked z).sized z; triangles = λ z. (asked z).triangles z; rooms = rooms }
  where
    asked : code ≡ 0 → BeginAsked code R G I
    asked z =
        begin_asked G R I code (job_numbers j) (job_arguments j ls (as_rooms R) (mesh_of G)) (z ∙ sym (job_checked j ls (sizes_fit_of G) (mesh_of G) (as_rooms R) (sym e ∙ z)))
        (job_lent j ls (as_rooms R) (mesh_of G)) rooms

-- no entries are a log
nothing_logged : (g : List ℕ) → Logged 0 g
unfolding log_at tab
nothing_logged g = record { entries = []; words = refl }

module _ (j : Job) (ls : List ℕ) (G : Given) {R : Rooms} {begun : ℕ} where
  -- a refusal
  pub job_refused : {held : Mesh} → Begun (job_refusal j ls (sizes_fit_of G) (mesh_of G) (as_rooms R)) R (mesh_of G) held begun → (c : Refusal) → begun ≡ number_of c
      → (at : Counts → World) → Came (job_call j ls (sizes_fit_of G) (mesh_of G) (as_rooms R)) R at (Err c)
  unfolding job_call
  job_refused B c h at = came_begun (job_run j ls (kind_of (mesh_of G))) (job_onward j ls (kind_of (mesh_of G))) G B at c h

  -- the outcome is that number
  pub job_turned : {held : Mesh} → Begun (job_refusal j ls (sizes_fit_of G) (mesh_of G) (as_rooms R)) R (mesh_of G) held begun → (begun ≡ 0 → ⊥)
      → job_call j ls (sizes_fit_of G) (mesh_of G) (as_rooms R) ≡ refused begun
  unfolding job_call
  job_turned B h = begun_refused (job_run j ls (kind_of (mesh_of G))) (job_onward j ls (kind_of (mesh_of G))) G B h

  -- the copy may be worked on
  pub job_asked : (p : List Float) (r c : List ℕ) (v : List Float) (e : List ℕ) (l : List Float) (o g : List ℕ)
      → Begun (job_refusal j ls (sizes_fit_of G) (mesh_of G) (as_rooms R)) R (mesh_of G) (mesh_at (sizes G) p r c v e l o) begun → begun ≡ 0 → Roomed R (lent p r c v e l o g)
      → Ready R (sizes G) (lent p r c v e l o g) (mesh_at (sizes G) p r c v e l o) × Logged 0 g × JobAsked j ls (mesh_at (sizes G) p r c v e l o)
  job_asked p r c v e l o g B z rooms =
      let none = nothing_before (job_run j ls (kind_of (mesh_of G))) (job_onward j ls (kind_of (mesh_of G))) G B z in
      let C = begun_by B (none ∙ sym (job_checked j ls (sizes_fit_of G) (mesh_of G) (as_rooms R) none)) in
      let ok = (began_passed G (job_numbers j) (job_arguments j ls (as_rooms R) (mesh_of G)) C z).asked in (
        began_ready G (job_numbers j) (job_arguments j ls (as_rooms R) (mesh_of G)) C z (lent p r c v e l o g) (job_lent j ls (as_rooms R) (mesh_of G)) rooms,
        nothing_logged g,
        subst (JobAsked j ls) (sym (B.copied z)) (job_given j ls (as_rooms R) (mesh_of G) ok),
      )

  -- and what the work came to is the outcome, in whatever way the blocks hold it
  pub job_worked : (p₁ : List Float) (r₁ c₁ : List ℕ) (v₁ : List Float) (e₁ : List ℕ) (l₁ : List Float) (o₁ g₁ : List ℕ) (at : Counts → World) (ran : Ran) → ((k : Counts) → ran ≡ Ok k → Counted k (at k))
      → Begun (job_refusal j ls (sizes_fit_of G) (mesh_of G) (as_rooms R)) R (mesh_of G) (mesh_at (sizes G) p₁ r₁ c₁ v₁ e₁ l₁ o₁) begun → begun ≡ 0
      → Works (job_run j ls (kind_of (mesh_at (sizes G) p₁ r₁ c₁ v₁ e₁ l₁ o₁))) R (world_at (sizes G) p₁ r₁ c₁ v₁ e₁ l₁ o₁ g₁) at ran → Came (job_call j ls (sizes_fit_of G) (mesh_of G) (as_rooms R)) R at ran
  unfolding job_call
  job_worked p₁ r₁ c₁ v₁ e₁ l₁ o₁ g₁ at ran C B z W =
      came_worked (job_run j ls (kind_of (mesh_of G))) (job_onward j ls (kind_of (mesh_of G))) G B at _ ran C (unlogged (sizes G) p₁ r₁ c₁ v₁ e₁ l₁ o₁ g₁ refl) z
      (subst (λ (K : Kind). Works (job_run j ls K) R (world_at (sizes G) p₁ r₁ c₁ v₁ e₁ l₁ o₁ g₁) at ran) (ap kind_of (B.copied z)) W)

  -- as of the fronts of lent blocks
  pub job_came : (p₁ : List Float) (r₁ c₁ : List ℕ) (v₁ : List Float) (e₁ : List ℕ) (l₁ : List Float) (o₁ g₁ : List ℕ) (p : List Float) (r c : List ℕ) (v : List Float) (e : List ℕ) (l : List Float) (o g : List ℕ) (ran : Ran)
      → Begun (job_refusal j ls (sizes_fit_of G) (mesh_of G) (as_rooms R)) R (mesh_of G) (mesh_at (sizes G) p₁ r₁ c₁ v₁ e₁ l₁ o₁) begun → begun ≡ 0
      → Works (job_run j ls (kind_of (mesh_at (sizes G) p₁ r₁ c₁ v₁ e₁ l₁ o₁))) R (world_at (sizes G) p₁ r₁ c₁ v₁ e₁ l₁ o₁ g₁) (λ k. world_at k p r c v e l o g) ran
      → Came (job_call j ls (sizes_fit_of G) (mesh_of G) (as_rooms R)) R (λ k. world_at k p r c v e l o g) ran
  job_came p₁ r₁ c₁ v₁ e₁ l₁ o₁ g₁ p r c v e l o g ran = job_worked p₁ r₁ c₁ v₁ e₁ l₁ o₁ g₁ (λ k. world_at k p r c v e l o g) ran (λ k q. blocks_counted p r c v e l o g k)
