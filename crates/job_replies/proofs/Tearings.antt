-- Laws of the jobs that give a mesh, on an image: judged, begun, worked on and told. Assumes nothing.
use Prim.Native.Nat.{ℕ, zero, suc, ◌<◌}
use native.Mathlib.Omega.{arith}
use mathlib.Core.Path.{◌≡◌, refl, sym, ap, subst, ◌∙◌}
use mathlib.Core.Bool.{Bool, true, not, ◌&&◌}
use mathlib.Core.List.{List, []}
use lib.Dec.{eqb}
use lib.ListN.{length}
use lib.Ieee.{Float}
use Rattle.model.specs.Mesh.{Mesh}
use Rattle.model.specs.Elements.{straps?, kind_of}
use Rattle.model.specs.Run.{Rooms as RoomsOf, start}
use Rattle.model.specs.Cut.{Line}
use Rattle.model.specs.Calls.{Outcome, refusal, whole_mesh, whole_line, exact_refusal, first_of, unless, outcome}
use Rattle.model.specs.Reads.{refused}
use Rattle.mesh.specs.At.{mesh_at}
use Rattle.mesh.specs.Log.{World, world_at}
use Rattle.edge_drops.specs.Parted.{world_parted, ListingAfter}
use Rattle.edge_drops.proofs.PartedLaws.{listing_done}
use Rattle.mesh.specs.Given.{sizes_fit_of, mesh_of, sizes, as_rooms}
use Rattle.mesh.specs.Filled.{lent}
use Rattle.mesh.specs.declared.Counts.{Counts}
use Rattle.mesh.specs.declared.Rooms.{Rooms}
use Rattle.work.specs.Working.{Roomed, Ready, Works, Logged}
use Rattle.work.specs.Ran.{Ran}
use Rattle.call_frame.specs.Framed.{Begun, Came}
use Rattle.call_frame.proofs.Begun.{begun_by}
use Rattle.mesh_calls.specs.Jobs.{job_numbers, job_arguments, job_edition, job_refusal, job_run, job_call}
use Rattle.perform.specs.Asks.{JobAsked}
use Rattle.mesh_calls.specs.declared.Job.{Job}
use Rattle.mesh_calls.specs.declared.Job.TheVariants.{Straddlers, Split, Cut, Crack}
use Rattle.perform.proofs.Performed.{job_turned, job_asked, job_worked}
use Rattle.image.specs.Image.{image_of, image_sized_of}
use Rattle.reading_replies.specs.Given.{SmallCode}
use Rattle.mesh_replies.specs.Both.{BothReplied}
use Rattle.mesh_replies.specs.Told.{mesh_told, log_told, Telling}
use Rattle.call_words.specs.Rooms.{Limited}
use Rattle.job_replies.specs.Outcomes.{mesh_reply, OutcomeReplied}
use Rattle.replies.proofs.Saying.{refusal_small, pick_small}
use Rattle.image.proofs.Loading.{sized_input}
use Rattle.job_replies.proofs.Outcomes.{fault_small, unless_small, parted_counted, came_telling, came_replied}
use Rattle.model.specs.Calls.{refused as turned_down}

-- ---- what refuses a job is small

first_small : (n m : ℕ) → n < 256 → m < 256 → first_of n m < 256
first_small zero m h k = k
first_small (suc n) m h k = h

-- 11, 12 or none
edition_small : (j : Job) (M : Mesh) → job_edition j M < 256
edition_small Straddlers M = omega arith
edition_small (Split v) M = omega arith
edition_small (Cut n b0 b1 f) M =
    let B : Line = record { from = b0; to = b1 } in
    pick_small (eqb n 2) (exact_refusal M B) 0
    (pick_small (not (whole_mesh M && whole_line B)) 11 _ (omega arith) (pick_small (straps? (kind_of M)) 12 0 (omega arith) (omega arith)))
    (omega arith)
edition_small (Crack min) M = omega arith

judged_small : (j : Job) (ls : List ℕ) (z : Bool) (M : Mesh) (L : RoomsOf) → job_refusal j ls z M L < 256
judged_small j ls z M L =
    first_small (refusal z M (job_numbers j) (job_arguments j ls L M)) (job_edition j M) (refusal_small z M (job_numbers j) (job_arguments j ls L M)) (edition_small j M)

module _ (j : Job) (ls s : List ℕ) (R : Rooms) where
  -- the checks, and the outcome, of a job on an image
  abbrev pub checked : ℕ
  checked = job_refusal j ls (image_sized_of s) (mesh_of (image_of s)) (as_rooms R)

  abbrev pub called : Outcome
  called = job_call j ls (image_sized_of s) (mesh_of (image_of s)) (as_rooms R)

  -- its refusals are small
  called_small : SmallCode (mesh_reply called)
  unfolding job_call
  called_small = unless_small checked (as_rooms R) (job_run j ls (kind_of (mesh_of (image_of s))) (start (mesh_of (image_of s)))) (judged_small j ls (image_sized_of s) (mesh_of (image_of s)) (as_rooms R))

  pub checked_small : (code : ℕ) → code ≡ checked → code < 256
  checked_small code e = subst (λ (n : ℕ). n < 256) (sym e) (judged_small j ls (image_sized_of s) (mesh_of (image_of s)) (as_rooms R))

  -- a check refuses
  pub checked_replied : (code lent' logged x : ℕ) (out log : List ℕ) → code ≡ checked → (code ≡ 0 → ⊥) → BothReplied (refused code) [] lent' logged x out log → OutcomeReplied called lent' logged x out log
  unfolding job_call
  checked_replied code lent' logged x out log e h b = by code e h b
    where
      O : Outcome
      O = outcome (as_rooms R) (job_run j ls (kind_of (mesh_of (image_of s))) (start (mesh_of (image_of s))))

      by : (code : ℕ) → code ≡ checked → (code ≡ 0 → ⊥) → BothReplied (refused code) [] lent' logged x out log → OutcomeReplied (unless checked O) lent' logged x out log
      by zero e h b = absurd (h refl)
      by (suc n) e h b = subst (λ (m : ℕ). OutcomeReplied (unless m O) lent' logged x out log) e b

  -- where none did, the reading of the mesh into the blocks is the beginning of the job
  pub accepted_begun : (held : Mesh) (code : ℕ) → checked ≡ 0 → Begun 0 R (mesh_of (image_of s)) held code → code ≡ 0 → Begun checked R (mesh_of (image_of s)) held 0
  accepted_begun held code e B z = subst (Begun checked R (mesh_of (image_of s)) held) z (begun_by B (sym e))

  module _ (sized : image_sized_of s ≡ true) where
    -- what the checks told of the blocks that hold the mesh they told of the image
    pub judged : (k : Counts) (p : List Float) (r c : List ℕ) (v : List Float) (e : List ℕ) (l : List Float) (o : List ℕ) (code : ℕ) → k ≡ sizes (image_of s)
        → mesh_at (sizes (image_of s)) p r c v e l o ≡ mesh_of (image_of s) → code ≡ job_refusal j ls true (mesh_at k p r c v e l o) (as_rooms R) → code ≡ checked
    judged k p r c v e l o code q m f =
        f ∙ ap (λ (n : Counts). job_refusal j ls true (mesh_at n p r c v e l o) (as_rooms R)) q ∙ ap (λ (N : Mesh). job_refusal j ls true N (as_rooms R)) m
        ∙ ap (λ (z : Bool). job_refusal j ls z (mesh_of (image_of s)) (as_rooms R)) (sym sized)

    -- the same number, by the sizes of the input
    by_sizes : checked ≡ job_refusal j ls (sizes_fit_of (image_of s)) (mesh_of (image_of s)) (as_rooms R)
    by_sizes = ap (λ (z : Bool). job_refusal j ls z (mesh_of (image_of s)) (as_rooms R)) (sym (sized_input s sized))

    -- and the same outcome
    to_sized : (at : Counts → _) (ran : Ran) → Came (job_call j ls (sizes_fit_of (image_of s)) (mesh_of (image_of s)) (as_rooms R)) R at ran → Came called R at ran
    to_sized at ran C = subst (λ (z : Bool). Came (job_call j ls z (mesh_of (image_of s)) (as_rooms R)) R at ran) (sized_input s sized) C

    -- a room lacks
    pub lack_small : (held : Mesh) (code : ℕ) → Begun 0 R (mesh_of (image_of s)) held code → code < 256
    lack_small held code B = let h = fault_small (as_rooms R) (start (mesh_of (image_of s))).needs in omega (arith, h, B.number)

    pub lack_replied : (held : Mesh) (code lent' logged x : ℕ) (out log : List ℕ) → checked ≡ 0 → Begun 0 R (mesh_of (image_of s)) held code → (code ≡ 0 → ⊥) → BothReplied (refused code) [] lent' logged x out log → OutcomeReplied called lent' logged x out log
    lack_replied held code lent' logged x out log e B h b =
        subst (λ (o : Outcome). OutcomeReplied o lent' logged x out log) (sym turned) b
      where
        turned : called ≡ turned_down code
        turned = ap (λ (z : Bool). job_call j ls z (mesh_of (image_of s)) (as_rooms R)) (sym (sized_input s sized)) ∙ job_turned j ls (image_of s) (begun_by B (sym e ∙ by_sizes)) h

    -- ---- the work

    module _ (p₁ : List Float) (r₁ c₁ : List ℕ) (v₁ : List Float) (e₁ : List ℕ) (l₁ : List Float) (o₁ g₁ : List ℕ) (k : Counts) (q : k ≡ sizes (image_of s))
        (B : Begun checked R (mesh_of (image_of s)) (mesh_at (sizes (image_of s)) p₁ r₁ c₁ v₁ e₁ l₁ o₁) 0) where
      begun_sized : Begun (job_refusal j ls (sizes_fit_of (image_of s)) (mesh_of (image_of s)) (as_rooms R)) R (mesh_of (image_of s)) (mesh_at (sizes (image_of s)) p₁ r₁ c₁ v₁ e₁ l₁ o₁) 0
      begun_sized = begun_by B by_sizes

      -- the mesh in the blocks may be worked on
      pub work_asked : Roomed R (lent p₁ r₁ c₁ v₁ e₁ l₁ o₁ g₁) → Ready R k (lent p₁ r₁ c₁ v₁ e₁ l₁ o₁ g₁) (mesh_at k p₁ r₁ c₁ v₁ e₁ l₁ o₁) × Logged k.log g₁ × JobAsked j ls (mesh_at k p₁ r₁ c₁ v₁ e₁ l₁ o₁)
      work_asked A =
          subst (λ (n : Counts). Ready R n (lent p₁ r₁ c₁ v₁ e₁ l₁ o₁ g₁) (mesh_at n p₁ r₁ c₁ v₁ e₁ l₁ o₁) × Logged n.log g₁ × JobAsked j ls (mesh_at n p₁ r₁ c₁ v₁ e₁ l₁ o₁)) (sym q)
          (job_asked j ls (image_of s) p₁ r₁ c₁ v₁ e₁ l₁ o₁ g₁ begun_sized refl A)

      module _ (p : List Float) (r c : List ℕ) (v : List Float) (e : List ℕ) (l : List Float) (o g gone : List ℕ) (ran : Ran)
          (W : Works (job_run j ls (kind_of (mesh_at k p₁ r₁ c₁ v₁ e₁ l₁ o₁))) R (world_at k p₁ r₁ c₁ v₁ e₁ l₁ o₁ g₁) (λ n. world_parted n p r c v e l o g gone) ran × ListingAfter (length e) (length l) gone ran) where
        -- what the blocks hold without the listed edges
        abbrev at : Counts → World
        at n = world_parted n p r c v e l o g gone

        came : Came called R at ran
        came =
            to_sized at ran
            (job_worked j ls (image_of s) p₁ r₁ c₁ v₁ e₁ l₁ o₁ g₁ at ran (λ n f. parted_counted p r c v e l o g gone n (listing_done (length e) (length l) gone ran n f W.1)) begun_sized refl
            (subst (λ (n : Counts). Works (job_run j ls (kind_of (mesh_at n p₁ r₁ c₁ v₁ e₁ l₁ o₁))) R (world_at n p₁ r₁ c₁ v₁ e₁ l₁ o₁ g₁) at ran) q W.0))

        -- what it came to can be told
        pub work_telling : (logged : ℕ) → Roomed R (lent p r c v e l o g) → Limited R logged → Telling ran gone (length p) (length r) (length c) (length v) (length e) (length l) (length o) (length g) logged
        work_telling logged A z = came_telling R at gone called ran (length p) (length r) (length c) (length v) (length e) (length l) (length o) (length g) logged came W.1 A z called_small

        -- and told, it is the reply
        pub work_replied : (lent' logged x : ℕ) (out log : List ℕ) → Roomed R (lent p r c v e l o g) → Limited R logged → BothReplied (mesh_told ran gone p r c v e l o g) (log_told ran g) lent' logged x out log → OutcomeReplied called lent' logged x out log
        work_replied lent' logged x out log A z b = came_replied R p r c v e l o g gone logged called ran lent' x out log came (work_telling logged A z) b
