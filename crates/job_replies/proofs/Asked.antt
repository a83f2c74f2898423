-- Laws of a job beside the bytes of rooms: the checks, and rooms that could not be read. Assumes nothing.
use Prim.Native.Nat.{ℕ, zero, suc, ◌<◌, min}
use native.Mathlib.Omega.{arith}
use mathlib.Core.Path.{◌≡◌, refl, sym, ap, subst, ◌∙◌}
use mathlib.Core.Bool.{Bool, true, false, not, ◌&&◌}
use mathlib.Core.List.{List, []}
use lib.ListN.{length}
use lib.Dec.{eqb}
use borrow.Author.Tests.{ne_eqb}
use Rattle.lists.specs.Lists.{pick}
use Rattle.model.specs.Mesh.{Mesh}
use Rattle.model.specs.Elements.{straps?, kind_of}
use Rattle.model.specs.Valid.{numbers_fit_of, indices_fit_of}
use Rattle.model.specs.Run.{Rooms as RoomsOf}
use Rattle.model.specs.Calls.{Outcome, refusal, whole_mesh, whole_line, first_of}
use Rattle.model.specs.Calls.{refused as turned_down}
use Rattle.model.specs.Reads.{refused}
use Rattle.mesh.specs.Given.{mesh_of, as_rooms}
use Rattle.mesh.specs.declared.Rooms.{Rooms}
use Rattle.mesh_calls.specs.Jobs.{job_numbers, job_arguments, job_edition, job_refusal}
use Rattle.mesh_calls.specs.declared.Job.{Job}
use Rattle.mesh_calls.specs.declared.Job.TheVariants.{Straddlers, Split, Cut, Crack}
use Rattle.image.specs.Image.{image_of, image_sized_of}
use Rattle.mesh_replies.specs.Both.{BothReplied}
use Rattle.call_words.specs.Rooms.{rooms_too}
use Rattle.job_replies.specs.Outcomes.{OutcomeReplied, with_rooms}
use Rattle.job_replies.proofs.Tearings.{checked, called, checked_small, checked_replied}
use Rattle.replies.proofs.Saying.{pick_small}

-- what a cut's edition refuses comes behind 4
late : (j : Job) (M : Mesh) → ◌≡◌ {A = ℕ} (rooms_too (job_edition j M) false) 4
late Straddlers M = refl
late (Split v) M = refl
late (Cut n b0 b1 f) M = by (eqb n 2) (not (whole_mesh M && whole_line (record { from = b0; to = b1 }))) (straps? (kind_of M))
  where
    by : (a b c : Bool) → ◌≡◌ {A = ℕ} (rooms_too (pick a (pick b 11 (pick c 12 0)) 0) false) 4
    by true true c = refl
    by true false true = refl
    by true false false = refl
    by false b c = refl
late (Crack min) M = refl

-- beside rooms that could not be read: what the checks 1 to 3 refuse, or 4
argument_told : (j : Job) (ls : List ℕ) (z : Bool) (M : Mesh) (L : RoomsOf) → rooms_too (job_refusal j ls z M L) false ≡ refusal z M (job_numbers j) false
unfolding refusal
argument_told j ls z M L = by (not z) (not (numbers_fit_of M && job_numbers j)) (not (indices_fit_of M)) (not (job_arguments j ls L M))
  where
    by : (a b c d : Bool) → ◌≡◌ {A = ℕ} (rooms_too (first_of (pick a 1 (pick b 2 (pick c 3 (pick d 4 0)))) (job_edition j M)) false) (pick a 1 (pick b 2 (pick c 3 4)))
    by true b c d = refl
    by false true c d = refl
    by false false true d = refl
    by false false false true = refl
    by false false false false = late j M

told_small : (b : Bool) (code : ℕ) → code < 256 → rooms_too code b < 256
told_small true code h = h
told_small false code h = pick_small (eqb code 0) 4 (min code 4) (omega arith) (omega arith)

-- rooms that could not be read are refused
some_told : (code : ℕ) → 0 < rooms_too code false
some_told zero = omega arith
some_told (suc n) = subst (λ (b : Bool). 0 < pick b 4 (min (suc n) 4)) (sym (ne_eqb (suc n) 0 (λ d. omega arith))) (omega arith)

-- nothing is told where no check refuses and all could be read
none_told : (code : ℕ) (b : Bool) → rooms_too code b ≡ 0 → (code ≡ 0) × (b ≡ true)
none_told code true e = (e, refl)
none_told code false e = let h : 0 < 0 = subst (λ (n : ℕ). 0 < n) e (some_told code) in absurd (omega (arith, h))

module _ (j : Job) (ls s rooms : List ℕ) (R : Rooms) where
  -- the outcome of a job on an image, beside the bytes of rooms
  abbrev pub answered : Outcome
  answered = with_rooms s rooms (job_numbers j) (called j ls s R)

  -- the rooms are four words
  abbrev right : Bool
  right = eqb (length rooms) 16

  module _ (code right_code : ℕ) (e : code ≡ checked j ls s R) (q : right_code ≡ rooms_too code right) where
    -- a refusal is small
    pub job_small : right_code < 256
    job_small = let h = told_small right code (checked_small j ls s R code e) in omega (arith, q, h)

    -- nothing refused
    pub job_accepted : right_code ≡ 0 → checked j ls s R ≡ 0
    job_accepted z = sym e ∙ (none_told code right (sym q ∙ z)).0

    -- beside four words the outcome is the job's
    by_rooms : right ≡ true → called j ls s R ≡ answered
    unfolding with_rooms
    by_rooms t = sym (ap (λ (b : Bool). pick b (called j ls s R) (turned_down (refusal (image_sized_of s) (mesh_of (image_of s)) (job_numbers j) false))) t)

    module _ (lent logged x : ℕ) (out log : List ℕ) where
      pub job_replied : right_code ≡ 0 → OutcomeReplied (called j ls s R) lent logged x out log → OutcomeReplied answered lent logged x out log
      job_replied z h = subst (λ (o : Outcome). OutcomeReplied o lent logged x out log) (by_rooms (none_told code right (sym q ∙ z)).1) h

      -- a check refused, or the rooms could not be read
      pub job_turned : (right_code ≡ 0 → ⊥) → BothReplied (refused right_code) [] lent logged x out log → OutcomeReplied answered lent logged x out log
      unfolding with_rooms
      job_turned ne h = by right refl
        where
          by : (b : Bool) → right ≡ b → OutcomeReplied answered lent logged x out log
          by true t =
              let same : right_code ≡ code = q ∙ ap (rooms_too code) t in
              subst (λ (o : Outcome). OutcomeReplied o lent logged x out log) (by_rooms t)
              (checked_replied j ls s R code lent logged x out log e (λ z. ne (same ∙ z)) (subst (λ (n : ℕ). BothReplied (refused n) [] lent logged x out log) same h))
          by false t =
              let same : right_code ≡ refusal (image_sized_of s) (mesh_of (image_of s)) (job_numbers j) false =
              q ∙ ap (rooms_too code) t ∙ ap (λ (n : ℕ). rooms_too n false) e ∙ argument_told j ls (image_sized_of s) (mesh_of (image_of s)) (as_rooms R) in
              subst (λ (o : Outcome). OutcomeReplied o lent logged x out log)
              (sym (ap (λ (b : Bool). pick b (called j ls s R) (turned_down (refusal (image_sized_of s) (mesh_of (image_of s)) (job_numbers j) false))) t))
              (subst (λ (n : ℕ). BothReplied (refused n) [] lent logged x out log) same h)
