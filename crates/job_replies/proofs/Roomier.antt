-- A job in smaller rooms answers what it answers in larger ones, or is refused because a room lacks. Assumes nothing.
use Prim.Native.Nat.{ℕ, zero, suc, ◌≤◌}
use native.Mathlib.Omega.{arith}
use mathlib.Core.Path.{◌≡◌, refl, sym, ap, subst, ◌∙◌}
use mathlib.Core.Bool.{Bool, true, false, ◌&&◌}
use mathlib.Core.Logic.{◌⊎◌, inl, inr, ⊎_elim}
use mathlib.Core.List.{List, [], ◌∷◌}
use lib.ListN.{length}
use lib.Dec.{eqb, ltb}
use borrow.Author.Tests.{ne_eqb, le-ltb, ltb-false, le-leb}
use Rattle.lists.specs.Lists.{pick}
use Rattle.model.specs.Mesh.{Mesh}
use Rattle.model.specs.Elements.{kind_of}
use Rattle.model.specs.Run.{Need, Rooms, Run, start}
use Rattle.model.specs.Calls.{Outcome, done, refusal, first_of, sides_ok, known, fraction_ok, triangles_lent, too_small, first_fault, fitted, outcome, unless}
use Rattle.model.specs.Calls.{refused as turned_down}
use Rattle.mesh.specs.Given.{mesh_of}
use Rattle.image.specs.Image.{image_of, image_sized_of}
use Rattle.mesh_calls.specs.Jobs.{job_numbers, job_arguments, job_edition, job_refusal, job_run, job_call}
use Rattle.mesh_calls.specs.declared.Job.{Job}
use Rattle.mesh_calls.specs.declared.Job.TheVariants.{Straddlers, Split, Cut, Crack}
use Rattle.call_words.specs.Rooms.{lacks_room_of}
use Rattle.job_replies.specs.Outcomes.{OutcomeReplied, with_rooms}

-- each room of K that a step may need is within that of L
pub record Roomier (K L : Rooms) : Type 0 where
  pub particles : K.particles ≤ L.particles
  pub edges : K.edges ≤ L.edges
  pub boundary : K.boundary ≤ L.boundary
  pub log : K.log ≤ L.log

-- the number says that a room lacks
abbrev Lack : ℕ → Type 0
Lack n = (5 ≤ n) × (n ≤ 8)

-- an outcome is such a refusal
abbrev pub Lacking : Outcome → Type 0
Lacking (turned_down n) = Lack n
Lacking (done M l c) = ⊥

module _ (K L : Rooms) (w : Roomier K L) where
  -- ---- a step

  no_room_lacks : (a b c d : Bool) → a ≡ false → b ≡ false → c ≡ false → d ≡ false → ◌≡◌ {A = ℕ} (pick a 5 (pick b 6 (pick c 7 (pick d 8 0)))) 0
  no_room_lacks a b c d ea eb ec ed = λ i. pick (ea i) 5 (pick (eb i) 6 (pick (ec i) 7 (pick (ed i) 8 0)))

  -- what has room is within what is roomier
  still : (n k l : ℕ) → k ≤ l → ltb k n ≡ false → ltb l n ≡ false
  still n k l h e = le-ltb l n (omega (arith, h, ltb-false k n e))

  step_roomier : (N : Need) → ((too_small K N ≡ 0) × (too_small L N ≡ 0)) ⊎ Lack (too_small K N)
  unfolding too_small
  step_roomier N = by (ltb K.particles N.particles) (ltb K.edges N.edges) (ltb K.boundary N.boundary) (ltb K.log N.log) refl refl refl refl
    where
      by : (a b c d : Bool) → ltb K.particles N.particles ≡ a → ltb K.edges N.edges ≡ b → ltb K.boundary N.boundary ≡ c → ltb K.log N.log ≡ d
          → (◌≡◌ {A = ℕ} (pick a 5 (pick b 6 (pick c 7 (pick d 8 0)))) 0 × (too_small L N ≡ 0)) ⊎ Lack (pick a 5 (pick b 6 (pick c 7 (pick d 8 0))))
      by true b c d ea eb ec ed = inr (omega arith, omega arith)
      by false true c d ea eb ec ed = inr (omega arith, omega arith)
      by false false true d ea eb ec ed = inr (omega arith, omega arith)
      by false false false true ea eb ec ed = inr (omega arith, omega arith)
      by false false false false ea eb ec ed =
          inl
          (refl, no_room_lacks _ _ _ _ (still N.particles _ _ w.particles ea) (still N.edges _ _ w.edges eb) (still N.boundary _ _ w.boundary ec) (still N.log _ _ w.log ed))

  -- ---- the steps of a run

  -- a step that has room leaves the word to the next; one that lacks it has it
  free_first : (t x : ℕ) → t ≡ 0 → pick (eqb t 0) x t ≡ x
  free_first t x e = λ i. pick (eqb (e i) 0) x (e i)

  lack_first : (t x : ℕ) → Lack t → pick (eqb t 0) x t ≡ t
  lack_first t x l = ap (λ (b : Bool). pick b x t) (ne_eqb t 0 (λ z. omega (arith, z, l.0)))

  steps_roomier : (Ns : List Need) → ((first_fault K Ns ≡ 0) × (first_fault L Ns ≡ 0)) ⊎ Lack (first_fault K Ns)
  unfolding first_fault
  steps_roomier [] = inl (refl, refl)
  steps_roomier (N ∷ Ns) =
      ⊎_elim
      (λ z.
      ⊎_elim (λ y. inl (free_first (too_small K N) (first_fault K Ns) z.0 ∙ y.0, free_first (too_small L N) (first_fault L Ns) z.1 ∙ y.1))
      (λ l. inr (subst Lack (sym (free_first (too_small K N) (first_fault K Ns) z.0)) l)) (steps_roomier Ns))
      (λ l. inr (subst Lack (sym (lack_first (too_small K N) (first_fault K Ns) l)) l))
      (step_roomier N)

  -- ---- the answer

  lack_fitted : (n : ℕ) (R : Run) → Lack n → Lacking (fitted n R)
  lack_fitted zero R l = absurd (omega (arith, l.0))
  lack_fitted (suc n) R l = l

  outcome_roomier : (R : Run) → Lacking (outcome K R) ⊎ (outcome K R ≡ outcome L R)
  unfolding outcome
  outcome_roomier R =
      ⊎_elim (λ z. inr (ap (λ (n : ℕ). fitted n R) (z.0 ∙ sym z.1))) (λ l. inl (lack_fitted (first_fault K R.needs) R l)) (steps_roomier R.needs)

  unless_roomier : (r : ℕ) (o p : Outcome) → Lacking o ⊎ (o ≡ p) → Lacking (unless r o) ⊎ (unless r o ≡ unless r p)
  unless_roomier zero o p h = h
  unless_roomier (suc r) o p h = inr refl

  module _ (ls : List ℕ) (sized : Bool) (M : Mesh) (lent : triangles_lent K M ≡ triangles_lent L M) where
    -- the checks look at the triangles' room alone
    arguments_same : (j : Job) → job_arguments j ls K M ≡ job_arguments j ls L M
    arguments_same Straddlers = lent
    arguments_same (Split v) = ap (λ (b : Bool). sides_ok M v ls && b) lent
    arguments_same (Cut n b0 b1 f) = ap (λ (b : Bool). known n && fraction_ok f && b) lent
    arguments_same (Crack min) = lent

    refusal_same : (j : Job) → job_refusal j ls sized M K ≡ job_refusal j ls sized M L
    refusal_same j = ap (λ (b : Bool). first_of (refusal sized M (job_numbers j) b) (job_edition j M)) (arguments_same j)

    -- So the job is refused in K because a room lacks there, or answers in K what it answers in L.
    pub job_roomier : (j : Job) → Lacking (job_call j ls sized M K) ⊎ (job_call j ls sized M K ≡ job_call j ls sized M L)
    unfolding job_call
    job_roomier j =
        let R : Run = job_run j ls (kind_of M) (start M) in
        subst (λ (n : ℕ). Lacking (unless (job_refusal j ls sized M K) (outcome K R)) ⊎ (unless (job_refusal j ls sized M K) (outcome K R) ≡ unless n (outcome L R))) (refusal_same j)
        (unless_roomier (job_refusal j ls sized M K) (outcome K R) (outcome L R) (outcome_roomier R))

-- ---- its reply

true_false : ◌≡◌ {A = Bool} true false → ⊥
true_false e = let z : ◌≡◌ {A = ℕ} 1 0 = ap (λ (b : Bool). pick b 1 0) e in omega arith

-- 5 says that a room lacks
pub five_lacks : {P : Type 0} → lacks_room_of 5 ≡ false → P
five_lacks e = absurd (true_false e)

module _ (lent logged x : ℕ) (out log : List ℕ) where
  -- the number that is told of a room that lacks
  lack_told : (o : Outcome) → Lacking o → OutcomeReplied o lent logged x out log → lacks_room_of x ≡ true
  lack_told (turned_down n) l h = λ i. (le-leb 5 x (omega (arith, l.0, h.code)) i) && (le-leb x 8 (omega (arith, l.1, h.code)) i)
  lack_told (done M es c) l h = absurd l

  -- the reply to an outcome, where it is not such a number, is the reply to the other
  pub roomier_replied : (s rooms : List ℕ) (numbers : Bool) (o p : Outcome) → Lacking o ⊎ (o ≡ p) → lacks_room_of x ≡ false → OutcomeReplied (with_rooms s rooms numbers o) lent logged x out log → OutcomeReplied (with_rooms s rooms numbers p) lent logged x out log
  unfolding with_rooms
  roomier_replied s rooms numbers o p h f a =
      ⊎_elim (λ l. by (eqb (length rooms) 16) l a) (λ e. subst (λ (q : Outcome). OutcomeReplied (with_rooms s rooms numbers q) lent logged x out log) e a) h
    where
      other : Outcome
      other = turned_down (refusal (image_sized_of s) (mesh_of (image_of s)) numbers false)

      by : (b : Bool) → Lacking o → OutcomeReplied (pick b o other) lent logged x out log → OutcomeReplied (pick b p other) lent logged x out log
      by true l a = absurd (true_false (sym (lack_told o l a) ∙ f))
      by false l a = a
