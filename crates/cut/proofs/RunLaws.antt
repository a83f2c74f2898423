-- Laws of marked particles split one after the other: the particles that are chosen, the run so far, and what its blocks are ready for. Assumes nothing.
use mathlib.Core.Path.{◌≡◌, refl, sym, ◌∙◌, ap, subst}
use mathlib.Core.Bool.{Bool, true, false}
use mathlib.Core.List.{List, [], ◌∷◌, ◌++◌, map}
use Prim.Native.Nat.{ℕ, zero, suc, ◌+◌, ◌<◌, ◌≤◌}
use native.Mathlib.Omega.{arith}
use borrow.Author.Tests.{eq-eqb, ne_eqb}
use lib.ListN.{length, get_or, take, drop, take-append-drop}
use Rattle.lists.specs.Lists.{pick, stands, sift, fold, tab, up_to, rising}
use Rattle.lists.proofs.Sifts.{pick_by, sift_append, fold_append, tab_take, up_to_length, up_to_at}
use Rattle.lists.proofs.Steps.{sift_step}
use Rattle.model.specs.Elements.{Kind}
use Rattle.model.specs.Valid.{indices_fit_of}
use Rattle.model.specs.Run.{Entry, Run, step_to}
use Rattle.model.specs.Split.{Opening, opening_of, splits?, split_made, split_step, split_by_sides_of, settled, at_longest}
use Rattle.model.specs.Cut.{slackened, at_copy}
use Rattle.model.specs.Calls.{first_fault}
use Rattle.model_laws.proofs.Steps.{Onward, onward_fold, split_onward, sides_onward}
use Rattle.model_laws.proofs.Traced.{opening_fits, copied_length}
use Rattle.model_laws.proofs.Indexed.{Indexed, opening_inside, step_indexed, sides_indexed, slack_keeps, fold_indexed}
use Rattle.model_laws.proofs.Accepted.{accepted_indexed, indexed_accepted}
use Rattle.mesh.specs.Log.{World, world_of, words_of}
use Rattle.mesh.specs.Given.{Lent, as_rooms}
use Rattle.mesh.specs.declared.Counts.{Counts}
use Rattle.mesh.specs.declared.Rooms.{Rooms}
use Rattle.work.specs.Working.{Within, Roomed, Ready, Works}
use Rattle.work.specs.Ran.{Ran}
use Rattle.work.proofs.Runs.{works_stay, works_then, works_refused, works_as}
use Rattle.elements.proofs.Measures.{sift_agree}
use Rattle.cut.specs.declared.facets.Parting.{Parting}
use Rattle.cut.specs.declared.facets.Parting.TheVariants.{Free, Blade as BladeFrom, Snapped}
use Rattle.marks.specs.Marking.{Marks, marked?}
use Rattle.cut.specs.Running.{sides_in, split_by_of, split_in, chosen}
use Rattle.marks.proofs.MarkLaws.{mark_tells}
use Rattle.std.specs.Prelude.{Ok, Err}
use Rattle.mesh.specs.declared.refusals.Refusal.{Refusal}

-- ---- the particles that are chosen

pub chosen_none : (marks : List ℕ) → chosen 0 marks ≡ []
unfolding chosen up_to tab sift
chosen_none marks = refl

pub chosen_step : (marks : List ℕ) (v : ℕ) → chosen (v + 1) marks ≡ chosen v marks ++ pick (marked? marks v) (v ∷ []) []
unfolding chosen up_to
chosen_step marks v = sift_step (marked? marks) (λ k. k) v

-- those below m come first
pub chosen_more : (marks : List ℕ) (m p : ℕ) → m ≤ p → chosen m marks ++ sift (marked? marks) (drop m (up_to p)) ≡ chosen p marks
unfolding chosen up_to
chosen_more marks m p h =
    ap (λ (l : List ℕ). sift (marked? marks) l ++ sift (marked? marks) (drop m (tab p (λ k. k)))) (sym (tab_take m p (λ k. k) h))
    ∙ sym (sift_append (marked? marks) (take m (tab p (λ k. k))) (drop m (tab p (λ k. k))))
    ∙ ap (sift (marked? marks)) (take-append-drop m (tab p (λ k. k)))

pub chosen_rising : (marks listed : List ℕ) (p : ℕ) → Marks listed marks → p ≤ length marks → chosen p marks ≡ rising p listed
unfolding chosen rising
chosen_rising marks listed p A h =
    sift_agree (marked? marks) (λ k. stands k listed) (up_to p) 0
    (λ i l.
    let b : i < p = omega (arith, up_to_length p) in
    let e : get_or (up_to p) i 0 ≡ i = up_to_at p i b in
    mark_tells _ _ (A.mark (get_or (up_to p) i 0) (omega arith)))

-- ---- one split

-- it goes on
by_onward : (w : Parting) (K : Kind) (R : Run) (v : ℕ) → Onward R (split_by_of w K R v)
unfolding split_by_of
by_onward w K R v = sides_onward K v (sides_in w K R.mesh v) R

pub in_onward : (w : Parting) (K : Kind) (R : Run) (v : ℕ) → Onward R (split_in w K R v)
unfolding split_in
in_onward Free K R v = by_onward Free K R v
in_onward (BladeFrom r b0 b1) K R v = by_onward (BladeFrom r b0 b1) K R v
in_onward (Snapped b0 b1) K R v = split_onward _ _ K _ R

-- it keeps the indices
pub by_indexed : (w : Parting) (K : Kind) (R : Run) (v : ℕ) → Indexed R.mesh → Indexed (split_by_of w K R v).mesh
unfolding split_by_of
by_indexed w K R v X = sides_indexed K v (sides_in w K R.mesh v) R X

in_indexed : (w : Parting) (K : Kind) (R : Run) (v : ℕ) → Indexed R.mesh → Indexed (split_in w K R v).mesh
unfolding split_in
in_indexed Free K R v X = by_indexed Free K R v X
in_indexed (BladeFrom r b0 b1) K R v X = by_indexed (BladeFrom r b0 b1) K R v X
in_indexed (Snapped b0 b1) K R v X =
    let sides : List ℕ = sides_in (Snapped b0 b1) K R.mesh v in
    let O : Opening = opening_of K R.mesh v sides in
    step_indexed [] (slackened (at_copy O)) (slack_keeps (at_copy O)) K O R (opening_fits K R.mesh v sides) (opening_inside K R.mesh v sides) X

-- it takes no particle away
by_grown : (w : Parting) (K : Kind) (R : Run) (v : ℕ) → length R.mesh.particles ≤ length (split_by_of w K R v).mesh.particles
unfolding split_by_of split_by_sides_of split_step split_made step_to settled at_longest
by_grown w K R v =
    let O : Opening = opening_of K R.mesh v (sides_in w K R.mesh v) in
    pick_by (λ (S : Run). length R.mesh.particles ≤ length S.mesh.particles) (splits? O R.mesh) (omega (arith, copied_length O R.mesh.particles)) (omega arith)

in_grown : (w : Parting) (K : Kind) (R : Run) (v : ℕ) → length R.mesh.particles ≤ length (split_in w K R v).mesh.particles
unfolding split_in split_step split_made step_to settled at_longest slackened
in_grown Free K R v = by_grown Free K R v
in_grown (BladeFrom r b0 b1) K R v = by_grown (BladeFrom r b0 b1) K R v
in_grown (Snapped b0 b1) K R v =
    let O : Opening = opening_of K R.mesh v (sides_in (Snapped b0 b1) K R.mesh v) in
    pick_by (λ (S : Run). length R.mesh.particles ≤ length S.mesh.particles) (splits? O R.mesh) (omega (arith, copied_length O R.mesh.particles)) (omega arith)

fold_grown : (w : Parting) (K : Kind) (R : Run) (l : List ℕ) → length R.mesh.particles ≤ length (fold (split_in w K) R l).mesh.particles
unfolding fold
fold_grown w K R [] = omega arith
fold_grown w K R (v ∷ l) =
    let a = in_grown w K R v in
    let b = fold_grown w K (split_in w K R v) l in
    omega arith

-- ---- workers that do the same

-- a worker that splits v by sides that are those of its fan
pub one_works : (w : Parting) (K : Kind) (v : ℕ) (sides : List ℕ) (L : Rooms) (W : World) (at : Counts → World) (r : Ran) → sides ≡ sides_in w K W.mesh v → Works (split_by_sides_of K v sides) L W at r
    → Works (λ (R : Run). split_by_of w K R v) L W at r
unfolding split_by_of
one_works w K v sides L W at r s F = works_as (λ R e. ap (λ (l : List ℕ). split_by_sides_of K v l R) (s ∙ ap (λ (x : World). sides_in w K x.mesh v) e)) F

-- ---- the run so far

module _ (w : Parting) (K : Kind) (L : Rooms) (marks : List ℕ) where
  -- the run in which the chosen below v are split
  abbrev pub split_to : ℕ → Run → Run
  split_to v R = fold (split_in w K) R (chosen v marks)

  pub run_none : {at : Counts → World} (k : Counts) → Within k L → Works (split_to 0) L (at k) at (Ok k)
  unfolding fold
  run_none k b = works_as (λ R e. sym (ap (fold (split_in w K) R) (chosen_none marks))) (works_stay k b)

  module _ {W : World} {at : Counts → World} {k : Counts} (v : ℕ) (F : Works (split_to v) L W at (Ok k)) where
    -- the next particle is split, if it is marked
    run_same : (R : Run) (t : Bool) → marked? marks v ≡ t → pick t (split_in w K (split_to v R) v) (split_to v R) ≡ split_to (v + 1) R
    unfolding fold
    run_same R t e =
        sym (ap (fold (split_in w K) R) (chosen_step marks v) ∙ fold_append (split_in w K) R (chosen v marks) (pick (marked? marks v) (v ∷ []) [])
        ∙ ap (λ (b : Bool). fold (split_in w K) (split_to v R) (pick b (v ∷ []) [])) e ∙ by t (split_to v R))
      where
        by : (t : Bool) (S : Run) → fold (split_in w K) S (pick t (v ∷ []) []) ≡ pick t (split_in w K S v) S
        by true S = refl
        by false S = refl

    -- one that is not marked is passed
    pub run_skip : (get_or marks v 0 ≡ 1 → ⊥) → Works (split_to (v + 1)) L W at (Ok k)
    run_skip n = works_as (λ R e. run_same R false (ne_eqb _ _ n)) F

    -- a marked one is split
    module _ (m : get_or marks v 0 ≡ 1) where
      run_more : {at' : Counts → World} {r : Ran} → Works (λ (R : Run). split_in w K R v) L (at k) at' r → Works (split_to (v + 1)) L W at' r
      run_more G = works_as (λ R e. run_same R true (eq-eqb _ _ m)) (works_then F G)

      run_stop : {at' : Counts → World} {c : Refusal} (p : ℕ) → v < p → Works (λ (R : Run). split_in w K R v) L (at k) at' (Err c) → Works (split_to p) L W at' (Err c)
      run_stop {at'} {c} p h G =
          let rest : List ℕ = sift (marked? marks) (drop (v + 1) (up_to p)) in
          works_as
          (λ R e. sym (fold_append (split_in w K) R (chosen (v + 1) marks) rest) ∙ ap (fold (split_in w K) R) (chosen_more marks (v + 1) p (omega arith)))
          (works_refused (λ (S : Run). fold (split_in w K) S rest) {at = at'} (λ R. onward_fold (split_in w K) (in_onward w K) (split_to (v + 1) R) rest) (run_more G))

      -- the same of an answer that is known
      pub run_next : {at' : Counts → World} (r : Ran) (k' : Counts) → r ≡ Ok k' → Works (λ (R : Run). split_in w K R v) L (at k) at' r → Works (split_to (v + 1)) L W at' (Ok k')
      run_next {at'} r k' e G = run_more (subst (λ (x : Ran). Works (λ (R : Run). split_in w K R v) L (at k) at' x) e G)

      pub run_end : {at' : Counts → World} (r : Ran) (c : Refusal) → r ≡ Err c → (p : ℕ) → v < p → Works (λ (R : Run). split_in w K R v) L (at k) at' r → Works (split_to p) L W at' r
      run_end {at'} r c e p h G =
          subst (λ (x : Ran). Works (split_to p) L W at' x) (sym e) (run_stop p h (subst (λ (x : Ran). Works (λ (R : Run). split_in w K R v) L (at k) at' x) e G))

  -- where none of the first p is marked nothing is done
  pub run_idle : {at : Counts → World} (k : Counts) → Within k L → (p : ℕ) → ((v : ℕ) → v < p → get_or marks v 0 ≡ 1 → ⊥) → Works (split_to p) L (at k) at (Ok k)
  run_idle {at} k b zero h = run_none {at = at} k b
  run_idle {at} k b (suc p) h =
      let e : p + 1 ≡ suc p = omega arith in
      subst (λ (m : ℕ). Works (split_to m) L (at k) at (Ok k)) e (run_skip p (run_idle {at = at} k b p (λ v l. h v (omega arith))) (h p (omega arith)))

  pub run_all : {W : World} {at : Counts → World} {r : Ran} (v p : ℕ) → v ≡ p → Works (split_to v) L W at r → Works (split_to p) L W at r
  run_all {W} {at} {r} v p e F = subst (λ (m : ℕ). Works (split_to m) L W at r) e F

  -- a run in the blocks at the start
  abbrev start : World → List Entry → Run
  start W l = record { mesh = W.mesh; log = l; needs = [] }

  started : (W : World) (l : List Entry) → W.log ≡ map words_of l → W ≡ world_of (start W l).mesh (start W l).log
  started W l e = λ i. record { mesh = W.mesh; log = e i }

  -- what its blocks are ready for
  module _ {W : World} {at : Counts → World} {k : Counts} (v : ℕ) (F : Works (split_to v) L W at (Ok k)) (l : List Entry) (words : W.log ≡ map words_of l) where
    went_to : (first_fault (as_rooms L) (split_to v (start W l)).needs ≡ 0) × Within k L × (at k ≡ world_of (split_to v (start W l)).mesh (split_to v (start W l)).log)
    unfolding first_fault
    went_to = F.went (start W l) (started W l words) refl

    pub within_at : Within k L
    within_at = went_to.1

    pub ready_at : (k₀ : Counts) (I I' : Lent) → Ready L k₀ I W.mesh → I' ≡ I → Ready L k I' (at k).mesh
    ready_at k₀ I I' Y e =
        record {
          rooms = subst (Roomed L) (sym e) Y.rooms;
          counts = within_at;
          indices =
              ap (λ (x : World). indices_fit_of x.mesh) went_to.2
              ∙ indexed_accepted (split_to v (start W l)).mesh (fold_indexed (split_in w K) (in_indexed w K) (start W l) (chosen v marks) (accepted_indexed W.mesh Y.indices));
        }

    pub grown_at : length W.mesh.particles ≤ length (at k).mesh.particles
    grown_at =
        let e : length (at k).mesh.particles ≡ length (split_to v (start W l)).mesh.particles = ap (λ (x : World). length x.mesh.particles) went_to.2 in
        let h : length W.mesh.particles ≤ length (split_to v (start W l)).mesh.particles = fold_grown w K (start W l) (chosen v marks) in
        omega arith

    abbrev pub entries_at : List Entry
    entries_at = (split_to v (start W l)).log

    pub words_at : (at k).log ≡ map words_of entries_at
    words_at = ap (λ (x : World). x.log) went_to.2
