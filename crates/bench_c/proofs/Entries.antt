-- Laws of the C functions that give a mesh: rooms, and the job that each is. Assumes nothing.
use Prim.Native.Nat.{ℕ}
use mathlib.Core.Path.{◌≡◌, refl, sym, ap, subst, ◌∙◌}
use mathlib.Core.Bool.{Bool, true, false, not, ◌&&◌}
use mathlib.Core.Logic.{⊎_elim}
use mathlib.Core.List.{List, []}
use lib.ListN.{length, take}
use lib.Dec.{eqb}
use borrow.Author.Tests.{eqb-true}
use Rattle.lists.specs.Lists.{pick}
use Rattle.model.specs.Mesh.{Mesh}
use Rattle.model.specs.Elements.{kind_of}
use Rattle.model.specs.Valid.{numbers_fit_of, indices_fit_of}
use Rattle.model.specs.Split.{split_by_sides_of}
use Rattle.model.specs.Run.{Rooms as RoomsOf, start}
use Rattle.model.specs.Calls.{Outcome, unless, outcome, sides_ok, triangles_lent, refusal, split_call}
use Rattle.model.specs.Calls.{refused as turned_down}
use Rattle.model.specs.Reads.{refused}
use Rattle.mesh.specs.Given.{mesh_of, as_rooms}
use Rattle.mesh.specs.declared.Rooms.{Rooms}
use Rattle.mesh_calls.specs.Jobs.{job_numbers, job_call}
use Rattle.mesh_calls.specs.declared.Job.{Job}
use Rattle.mesh_calls.specs.declared.Job.TheVariants.{Straddlers, Split}
use Rattle.mesh_calls.proofs.Jobs.{straddlers_is, split_is}
use Rattle.image.specs.Image.{image_of, image_sized_of}
use Rattle.reading_c.specs.Capped.{Capped}
use Rattle.mesh_replies.specs.Both.{BothReplied}
use Rattle.job_replies.specs.Outcomes.{OutcomeReplied, with_rooms}
use Rattle.bench_c.specs.Torn.{rooms_in_of, split_outcome, straddlers_outcome}
use Rattle.call_words.specs.Rooms.{rooms_given}
use Rattle.reading_c.proofs.Siding.{capped_sides}

-- ---- rooms

made_as : (s : List ℕ) (logged : ℕ) (R : Rooms) → R ≡ rooms_given s logged → as_rooms R ≡ rooms_in_of s logged
unfolding rooms_given
made_as s logged R e = ap as_rooms e

-- the reply in rooms that the program made of four words is the reply in those of the words; beside other bytes rooms are not looked at
pub made_replied : (j : Job) (ls s rooms : List ℕ) (R : Rooms) (lent logged x : ℕ) (out log : List ℕ) → (length rooms ≡ 16 → R ≡ rooms_given rooms logged)
    → OutcomeReplied (with_rooms s rooms (job_numbers j) (job_call j ls (image_sized_of s) (mesh_of (image_of s)) (as_rooms R))) lent logged x out log
    → OutcomeReplied (with_rooms s rooms (job_numbers j) (job_call j ls (image_sized_of s) (mesh_of (image_of s)) (rooms_in_of rooms logged))) lent logged x out log
unfolding with_rooms
made_replied j ls s rooms R lent logged x out log made h = by (eqb (length rooms) 16) refl h
  where
    told : Bool → RoomsOf → Type 0
    told b L = OutcomeReplied (pick b (job_call j ls (image_sized_of s) (mesh_of (image_of s)) L) (turned_down (refusal (image_sized_of s) (mesh_of (image_of s)) (job_numbers j) false))) lent logged x out log

    by : (b : Bool) → eqb (length rooms) 16 ≡ b → told b (as_rooms R) → told b (rooms_in_of rooms logged)
    by true e t = subst (told true) (made_as rooms logged R (made (eqb-true (length rooms) 16 e))) t
    by false e t = t

-- no image of a mesh: nothing else is looked at
pub job_unsized : (j : Job) (ls s rooms : List ℕ) (lent logged x : ℕ) (out log : List ℕ) (z : Bool) → z ≡ image_sized_of s → z ≡ false → BothReplied (refused 1) [] lent logged x out log
    → OutcomeReplied (with_rooms s rooms (job_numbers j) (job_call j ls (image_sized_of s) (mesh_of (image_of s)) (rooms_in_of rooms logged))) lent logged x out log
unfolding with_rooms job_call refusal
job_unsized j ls s rooms lent logged x out log z e f h = by (eqb (length rooms) 16)
  where
    by : (b : Bool) → OutcomeReplied (pick b (job_call j ls (image_sized_of s) (mesh_of (image_of s)) (rooms_in_of rooms logged)) (turned_down (refusal (image_sized_of s) (mesh_of (image_of s)) (job_numbers j) false))) lent logged x out log
    by true = subst (λ (y : Bool). OutcomeReplied (job_call j ls y (mesh_of (image_of s)) (rooms_in_of rooms logged)) lent logged x out log) (sym f ∙ e) h
    by false = subst (λ (y : Bool). OutcomeReplied (turned_down (refusal y (mesh_of (image_of s)) (job_numbers j) false)) lent logged x out log) (sym f ∙ e) h

-- ---- the job of each

pub straddlers_replied : (ls s rooms : List ℕ) (lent logged x : ℕ) (out log : List ℕ) → OutcomeReplied (with_rooms s rooms (job_numbers Straddlers) (job_call Straddlers ls (image_sized_of s) (mesh_of (image_of s)) (rooms_in_of rooms logged))) lent logged x out log
    → OutcomeReplied (straddlers_outcome s rooms logged) lent logged x out log
unfolding straddlers_outcome
straddlers_replied ls s rooms lent logged x out log h =
    subst (λ (o : Outcome). OutcomeReplied (with_rooms s rooms true o) lent logged x out log) (straddlers_is ls (image_sized_of s) (mesh_of (image_of s)) (rooms_in_of rooms logged)) h

-- a bad argument is refused, whatever the run
unless_either : (z : Bool) (M : Mesh) (x y : Outcome) → unless (refusal z M true false) x ≡ unless (refusal z M true false) y
unfolding refusal
unless_either z M x y = by (not z) (not (numbers_fit_of M && true)) (not (indices_fit_of M))
  where
    by : (a b c : Bool) → unless (pick a 1 (pick b 2 (pick c 3 4))) x ≡ unless (pick a 1 (pick b 2 (pick c 3 4))) y
    by true b c = refl
    by false true c = refl
    by false false true = refl
    by false false false = refl

split_refused : (z : Bool) (M : Mesh) (w : ℕ) (t sides : List ℕ) (L : RoomsOf) → sides_ok M w t ≡ false → sides_ok M w sides ≡ false → split_call z M w t L ≡ split_call z M w sides L
unfolding split_call
split_refused z M w t sides L e f =
    let x : Outcome = outcome L (split_by_sides_of (kind_of M) w t (start M)) in
    let y : Outcome = outcome L (split_by_sides_of (kind_of M) w sides (start M)) in
    ap (λ (b : Bool). unless (refusal z M true (b && triangles_lent L M)) x) e ∙ unless_either z M x y ∙ sym (ap (λ (b : Bool). unless (refusal z M true (b && triangles_lent L M)) y) f)

-- beside no image of a mesh the sides are not looked at
split_unsized : (M : Mesh) (w : ℕ) (t sides : List ℕ) (L : RoomsOf) → split_call false M w t L ≡ split_call false M w sides L
unfolding split_call refusal
split_unsized M w t sides L = refl

-- a capped list of sides asks the same
split_capped : (s : List ℕ) (w r : ℕ) (sides t : List ℕ) (L : RoomsOf) → Capped (length sides) 2049 r → t ≡ take r sides
    → split_call (image_sized_of s) (mesh_of (image_of s)) w t L ≡ split_call (image_sized_of s) (mesh_of (image_of s)) w sides L
split_capped s w r sides t L c e = by (image_sized_of s) refl
  where
    by : (z : Bool) → image_sized_of s ≡ z → split_call (image_sized_of s) (mesh_of (image_of s)) w t L ≡ split_call (image_sized_of s) (mesh_of (image_of s)) w sides L
    by true h =
        ⊎_elim
        (λ y. ap (λ (l : List ℕ). split_call (image_sized_of s) (mesh_of (image_of s)) w l L) y)
        (λ y. split_refused (image_sized_of s) (mesh_of (image_of s)) w t sides L y.0 y.1)
        (capped_sides s w r sides t h c e)
    by false h =
        subst (λ (z : Bool). split_call z (mesh_of (image_of s)) w t L ≡ split_call z (mesh_of (image_of s)) w sides L) (sym h) (split_unsized (mesh_of (image_of s)) w t sides L)

pub split_replied : (s : List ℕ) (w n : ℕ) (sides t rooms : List ℕ) (lent logged x : ℕ) (out log : List ℕ) → Capped (length sides) 2049 n → t ≡ take n sides
    → OutcomeReplied (with_rooms s rooms (job_numbers (Split w)) (job_call (Split w) t (image_sized_of s) (mesh_of (image_of s)) (rooms_in_of rooms logged))) lent logged x out log
    → OutcomeReplied (split_outcome s w sides rooms logged) lent logged x out log
unfolding split_outcome
split_replied s w n sides t rooms lent logged x out log c e h =
    subst (λ (o : Outcome). OutcomeReplied (with_rooms s rooms true o) lent logged x out log)
    (split_is w t (image_sized_of s) (mesh_of (image_of s)) (rooms_in_of rooms logged) ∙ split_capped s w n sides t (rooms_in_of rooms logged) c e)
    h
