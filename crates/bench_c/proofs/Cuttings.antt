-- Laws of the C functions that cut and crack: their arguments, and the job that each is. Assumes nothing.
use Prim.Native.Nat.{ℕ, ◌/◌, ◌%◌, ◌≤◌, ◌*◌, ◌+◌}
use native.Mathlib.Omega.{arith}
use mathlib.Core.Path.{◌≡◌, sym, ap, subst, ◌∙◌}
use mathlib.Core.Bool.{Bool, true, false}
use mathlib.Core.List.{List, []}
use lib.ListN.{length}
use lib.Dec.{eqb, leb}
use borrow.Author.Tests.{eq-eqb, ne_eqb, leb-true}
use Rattle.lists.proofs.Sifts.{and_true}
use Rattle.model.specs.Calls.{Outcome, refusal, blade_ok, crack_call}
use Rattle.model.specs.Reads.{refused}
use Rattle.mesh.specs.Given.{mesh_of}
use Rattle.mesh_calls.specs.Jobs.{job_numbers, job_call}
use Rattle.mesh_calls.specs.declared.Job.{Job}
use Rattle.mesh_calls.specs.declared.Job.TheVariants.{Cut, Crack}
use Rattle.mesh_calls.proofs.Jobs.{cut_is, crack_is}
use Rattle.image.specs.Words.{words_from, number_of}
use Rattle.image.specs.Image.{image_of, image_sized_of}
use Rattle.reading_replies.specs.Replies.{point_at_of}
use Rattle.mesh_replies.specs.Both.{BothReplied}
use Rattle.job_replies.specs.Outcomes.{OutcomeReplied, with_rooms}
use Rattle.bench_c.specs.Torn.{rooms_in_of, if_read, blade_in, cut_outcome, words_few_of, crack_outcome}

module _ (s rooms : List ℕ) (lent logged x : ℕ) (out log : List ℕ) where
  -- bytes that were read
  read_replied : (b : Bool) (o : Outcome) → b ≡ true → OutcomeReplied o lent logged x out log → OutcomeReplied (if_read b s o) lent logged x out log
  read_replied b o e h = subst (λ (z : Bool). OutcomeReplied (if_read z s o) lent logged x out log) (sym e) h

  -- bytes that could not be read are a bad argument
  misread_replied : (b : Bool) (o : Outcome) (code : ℕ) → b ≡ false → code ≡ refusal (image_sized_of s) (mesh_of (image_of s)) true false → BothReplied (refused code) [] lent logged x out log → OutcomeReplied (if_read b s o) lent logged x out log
  misread_replied b o code e f h =
      subst (λ (z : Bool). OutcomeReplied (if_read z s o) lent logged x out log) (sym e) (subst (λ (n : ℕ). BothReplied (refused n) [] lent logged x out log) f h)

  -- ---- the cut

  module _ (blade : List ℕ) (edition bits : ℕ) where
    pub cut_misread : (code : ℕ) → (length blade ≡ 16 → ⊥) → code ≡ refusal (image_sized_of s) (mesh_of (image_of s)) true false → BothReplied (refused code) [] lent logged x out log → OutcomeReplied (cut_outcome s blade edition bits rooms logged) lent logged x out log
    unfolding cut_outcome
    cut_misread code n f h = misread_replied (eqb (length blade) 16) _ code (ne_eqb (length blade) 16 n) f h

    pub cut_replied : (job : Job) (ls : List ℕ) → length blade ≡ 16 → job ≡ Cut edition (point_at_of blade 0) (point_at_of blade 2) (number_of bits)
        → OutcomeReplied (with_rooms s rooms (job_numbers job) (job_call job ls (image_sized_of s) (mesh_of (image_of s)) (rooms_in_of rooms logged))) lent logged x out log
        → OutcomeReplied (cut_outcome s blade edition bits rooms logged) lent logged x out log
    unfolding cut_outcome
    cut_replied job ls n e h =
        read_replied (eqb (length blade) 16) _ (eq-eqb (length blade) 16 n)
        (subst (λ (o : Outcome). OutcomeReplied o lent logged x out log)
        (ap (λ (j : Job). with_rooms s rooms (job_numbers j) (job_call j ls (image_sized_of s) (mesh_of (image_of s)) (rooms_in_of rooms logged))) e
        ∙ ap (with_rooms s rooms (blade_ok (blade_in blade))) (cut_is edition (point_at_of blade 0) (point_at_of blade 2) (number_of bits) ls (image_sized_of s) (mesh_of (image_of s)) (rooms_in_of rooms logged)))
        h)

  -- ---- the crack

  module _ (torn : List ℕ) (min : ℕ) where
    pub crack_misread : (b : Bool) (code : ℕ) → b ≡ words_few_of (length torn) → b ≡ false → code ≡ refusal (image_sized_of s) (mesh_of (image_of s)) true false → BothReplied (refused code) [] lent logged x out log
        → OutcomeReplied (crack_outcome s torn min rooms logged) lent logged x out log
    unfolding crack_outcome
    crack_misread b code e n f h = misread_replied (words_few_of (length torn)) _ code (sym e ∙ n) f h

    pub crack_replied : (b : Bool) (ls : List ℕ) → b ≡ words_few_of (length torn) → b ≡ true → ls ≡ words_from torn 0 (length torn / 4)
        → OutcomeReplied (with_rooms s rooms (job_numbers (Crack min)) (job_call (Crack min) ls (image_sized_of s) (mesh_of (image_of s)) (rooms_in_of rooms logged))) lent logged x out log
        → OutcomeReplied (crack_outcome s torn min rooms logged) lent logged x out log
    unfolding crack_outcome
    crack_replied b ls e y l h =
        read_replied (words_few_of (length torn)) _ (sym e ∙ y)
        (subst (λ (o : Outcome). OutcomeReplied (with_rooms s rooms true o) lent logged x out log)
        (crack_is min ls (image_sized_of s) (mesh_of (image_of s)) (rooms_in_of rooms logged) ∙ ap (λ (t : List ℕ). crack_call (image_sized_of s) (mesh_of (image_of s)) t min (rooms_in_of rooms logged)) l)
        h)

-- words that are few have places in the table, and stand in the bytes
pub few_words : (n : ℕ) (b : Bool) → b ≡ words_few_of n → b ≡ true → (4 * (0 + n / 4) ≤ n) × (n / 4 ≤ 2048)
few_words n b e y =
    let both = and_true (eqb (n % 4) 0) (leb n 8192) (sym e ∙ y) in
    let most : n ≤ 8192 = leb-true n 8192 both.1 in
    (omega arith, omega (arith, most))
