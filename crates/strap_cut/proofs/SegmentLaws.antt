-- The cut of straps behind its crossings: the marked bend edges go, and the snapped ends are split. Assumes nothing.
use mathlib.Core.Path.{◌≡◌, refl, sym, ◌∙◌, ap, subst}
use mathlib.Core.Bool.{Bool, true, false, ◌&&◌}
use mathlib.Core.List.{List, [], ◌∷◌, map}
use Prim.Native.Nat.{ℕ, zero, suc, ◌<◌, ◌≤◌}
use native.Mathlib.Omega.{arith}
use lib.Ieee.{Float}
use lib.ListN.{length}
use Rattle.lists.specs.Lists.{stands, fold, rising, up_to}
use Rattle.lists.proofs.Sifts.{sift_stands, and_true, up_to_stands, up_to_below}
use Rattle.model.specs.Mesh.{Mesh}
use Rattle.model.specs.Valid.{indices_fit_of}
use Rattle.model.specs.Run.{Run, step_to}
use Rattle.model.specs.Calls.{first_fault}
use Rattle.model.specs.Cut.{Blade, Strapping, strapping, unbent, split_snapped_of, after_crossings}
use Rattle.model_laws.proofs.Steps.{Onward, fault_stays, onward_fold, snapped_onward}
use Rattle.model_laws.proofs.Accepted.{accepted_indexed, indexed_accepted}
use Rattle.model_laws.proofs.Inserted.{unbent_indexed}
use Rattle.mesh.specs.At.{mesh_at}
use Rattle.mesh.specs.Log.{World, words_of, log_at, world_of, world_at}
use Rattle.mesh.specs.Given.{Lent, as_rooms}
use Rattle.mesh.specs.Filled.{lent}
use Rattle.mesh.specs.declared.Counts.{Counts}
use Rattle.mesh.specs.declared.Rooms.{Rooms}
use Rattle.work.specs.Working.{Within, Roomed, Ready, Went, Works, Logged}
use Rattle.work.specs.Removal.{marked, marked_of}
use Rattle.work.specs.Ran.{Ran}
use Rattle.work.proofs.Placed.{particles_count, ends_in}
use Rattle.split.proofs.StepLaws.{world_mesh}
use Rattle.cut.specs.Running.{chosen, Chosen}
use Rattle.cut.proofs.RunLaws.{chosen_rising}
use Rattle.crossing.specs.Crossed.{ran_of, bends_of, StrapMarks}
use Rattle.crossing.specs.Unbent.{UnbentRoom, MarksOf, UnbentTold}
use Rattle.strap_cut.specs.Segments.{MarksLent, AfterTold}
use Rattle.std.specs.Prelude.{Ok, Err}
use Rattle.mesh.specs.declared.refusals.Refusal.{Refusal}
use Rattle.mesh.specs.Refused.{number_of}

-- ---- the marked places as a list

and_with : (a b : Bool) → b ≡ true → (a && b) ≡ a
and_with true b e = e
and_with false b e = refl

-- the marks are those of the list of the marked places
marks_own : (bends : List ℕ) (e : ℕ) → MarksOf (marked_of bends e) bends e
unfolding marked_of
marks_own bends e =
    record {
      told = λ j l. sym (sift_stands (marked bends) j (up_to e) ∙ and_with (marked bends j) (stands j (up_to e)) (up_to_stands e j l));
      inside = λ j h. up_to_below e j (and_true (marked bends j) (stands j (up_to e)) (sym (sift_stands (marked bends) j (up_to e)) ∙ h)).1;
    }

-- particles stay when edges go
unbent_particles : (ms : List ℕ) (R : Run) → (unbent ms R).mesh.particles ≡ R.mesh.particles
unfolding unbent step_to
unbent_particles [] R = refl
unbent_particles (i ∷ ms) R = refl

-- ---- what the blocks are ready for behind the bend edges

module _ (L : Rooms) (k : Counts) (points : List Float) (roots corners : List ℕ) (volumes : List Float) (ends : List ℕ) (lengths : List Float) (outline log : List ℕ)
    (P : Ready L k (lent points roots corners volumes ends lengths outline log) (mesh_at k points roots corners volumes ends lengths outline)) (G : Logged k.log log)
    (bends ends' : List ℕ) (lengths' : List Float) (outline' log' : List ℕ) where
  abbrev at : Counts → World
  at q = world_at q points roots corners volumes ends' lengths' outline' log'

  -- a run that the blocks hold
  abbrev held : Run
  held = record { mesh = mesh_at k points roots corners volumes ends lengths outline; log = G.entries; needs = [] }

  held_is : world_at k points roots corners volumes ends lengths outline log ≡ world_of held.mesh held.log
  unfolding world_at
  held_is = ap (λ (l : List _). record { mesh = mesh_at k points roots corners volumes ends lengths outline; log = l }) G.words

  -- what the bend edges ask
  pub unbent_room : (lb ls : ℕ) → MarksLent lb ls → UnbentRoom L k lb ends (length lengths) (length outline) (length log)
  unbent_room lb ls M =
      let R = P.rooms in
      let C = P.counts in
      record {
        counts = C;
        few_edges = R.few_edges;
        few_boundary = R.few_boundary;
        marks = omega (arith, M.bends_long, C.edges, R.few_edges);
        ends = R.ends;
        ends_in =
            let E = ends_in k points roots corners volumes ends lengths outline P.indices in
            record { first = λ j l. omega (arith, E.first j l, C.particles, R.few_particles); second = λ j l. omega (arith, E.second j l, C.particles, R.few_particles) };
        lengths = R.lengths;
        outline = R.outline;
        log = R.log;
      }

  module _ (r : Ran) (left : Counts) (U : UnbentTold L k bends ends lengths outline log ends' lengths' outline' log' r) (d : r ≡ Ok left) where
    done : UnbentTold L k bends ends lengths outline log ends' lengths' outline' log' (Ok left)
    done = subst (UnbentTold L k bends ends lengths outline log ends' lengths' outline' log') d U

    abbrev gone : Run
    gone = unbent (marked_of bends k.edges) held

    went : (first_fault (as_rooms L) gone.needs ≡ 0) × Within left L × (at left ≡ world_of gone.mesh gone.log)
    unfolding first_fault
    went = (done.works (marked_of bends k.edges) points roots corners volumes (marks_own bends k.edges)).went held held_is refl

    mesh_left : mesh_at left points roots corners volumes ends' lengths' outline' ≡ gone.mesh
    mesh_left = sym (world_mesh left points roots corners volumes ends' lengths' outline' log') ∙ ap (λ (X : World). X.mesh) went.2

    pub ready_left : (I : Lent) → I ≡ lent points roots corners volumes ends lengths outline log → Ready L left I (mesh_at left points roots corners volumes ends' lengths' outline')
    ready_left I e =
        record {
          rooms = subst (Roomed L) (sym e) P.rooms;
          counts = went.1;
          indices = ap indices_fit_of mesh_left ∙ indexed_accepted gone.mesh (unbent_indexed (marked_of bends k.edges) held (accepted_indexed held.mesh P.indices));
        }

    words_left : log_at left.log log' ≡ map words_of gone.log
    unfolding world_at
    words_left = ap (λ (X : World). X.log) went.2

    particles_left : left.particles ≡ k.particles
    particles_left =
        sym (particles_count left points roots corners volumes ends' lengths' outline') ∙ ap (λ (M : Mesh). length M.particles) mesh_left
        ∙ ap length (unbent_particles (marked_of bends k.edges) held) ∙ particles_count k points roots corners volumes ends lengths outline

    pub chosen_left : (lb ls : ℕ) → MarksLent lb ls → Chosen k.particles left log' ls
    chosen_left lb ls M =
        record {
          logged = record { entries = gone.log; words = words_left };
          inside = omega (arith, particles_left);
          long = omega (arith, M.snapped_long, P.counts.particles, P.rooms.few_particles);
        }

-- ---- the whole

-- the marks of a cut are those that the bend edges are removed by
marks_of : (S : Strapping) (bends snapped : List ℕ) (e : ℕ) → StrapMarks S bends snapped → ((j : ℕ) → stands j (bends_of S) ≡ true → j < e) → MarksOf (bends_of S) bends e
marks_of S bends snapped e M h = record { told = λ j l. M.bends_are j; inside = h }

module _ (B : Blade) (L : Rooms) (k : Counts) (points : List Float) (roots corners : List ℕ) (volumes : List Float) (ends : List ℕ) (lengths : List Float) (outline log bends snapped ends' : List ℕ) (lengths' : List Float) (outline' log' : List ℕ) where
  abbrev W : World
  W = world_at k points roots corners volumes ends lengths outline log

  -- a fault stays
  stays : (c : ℕ) (R T : Run) → Onward R T → (first_fault (as_rooms L) R.needs ≡ c) × (0 < c) → (first_fault (as_rooms L) T.needs ≡ c) × (0 < c)
  stays zero R T O q = absurd (omega (arith, q.1))
  stays (suc n) R T O q = (fault_stays (as_rooms L) R T n O q.0, q.1)

  abbrev Told : Ran → Type 0
  Told r = UnbentTold L k bends ends lengths outline log ends' lengths' outline' log' r

  refused_at : (c : Refusal) (at : Counts → World) → Told (Err c) → (S : Strapping) → W ≡ world_of (ran_of S).mesh (ran_of S).log → first_fault (as_rooms L) (ran_of S).needs ≡ 0 → StrapMarks S bends snapped
      → ((j : ℕ) → stands j (bends_of S) ≡ true → j < k.edges) → Went L (after_crossings B S) at (Err c)
  unfolding after_crossings
  refused_at c at U (strapping R ms ss) X z M h =
      let q = (U.works ms points roots corners volumes (marks_of (strapping R ms ss) bends snapped k.edges M h)).went R X z in
      stays (number_of c) (unbent ms R) (fold (split_snapped_of B) (unbent ms R) (rising (length R.mesh.particles) ss)) (onward_fold (split_snapped_of B) (snapped_onward B) (unbent ms R) (rising (length R.mesh.particles) ss)) q

  -- the bend edges lack room in the log
  pub after_refused : (r : Ran) (c : Refusal) (at : Counts → World) → Told r → r ≡ Err c → AfterTold B L k.edges W at bends snapped (Err c)
  after_refused r c at U d = record { went = refused_at c at (subst Told d U) }

  -- as many particles as the counts say
  held_particles : (R : Run) → W ≡ world_of R.mesh R.log → k.particles ≡ length R.mesh.particles
  held_particles R X =
      sym (particles_count k points roots corners volumes ends lengths outline)
      ∙ ap (λ (M : Mesh). length M.particles) (sym (world_mesh k points roots corners volumes ends lengths outline log) ∙ ap (λ (X : World). X.mesh) X)

  done_at : (left : Counts) (at : Counts → World) (r : Ran) → Told (Ok left)
      → Works (λ (R : Run). fold (split_snapped_of B) R (chosen k.particles snapped)) L (world_at left points roots corners volumes ends' lengths' outline' log') at r → k.particles ≤ length snapped
      → (S : Strapping) → W ≡ world_of (ran_of S).mesh (ran_of S).log → first_fault (as_rooms L) (ran_of S).needs ≡ 0 → StrapMarks S bends snapped
      → ((j : ℕ) → stands j (bends_of S) ≡ true → j < k.edges) → Went L (after_crossings B S) at r
  unfolding after_crossings
  done_at left at r U F long (strapping R ms ss) X z M h =
      let q = (U.works ms points roots corners volumes (marks_of (strapping R ms ss) bends snapped k.edges M h)).went R X z in
      let e : chosen k.particles snapped ≡ rising (length R.mesh.particles) ss = chosen_rising snapped ss k.particles M.snapped_are long ∙ ap (λ (p : ℕ). rising p ss) (held_particles R X) in
      subst (λ (l : List ℕ). Went L (fold (split_snapped_of B) (unbent ms R) l) at r) e (F.went (unbent ms R) q.2 q.0)

  -- the bend edges are gone, and the ends were split
  pub after_done : (r₁ : Ran) (left : Counts) (at : Counts → World) (r : Ran) → Told r₁ → r₁ ≡ Ok left
      → Works (λ (R : Run). fold (split_snapped_of B) R (chosen k.particles snapped)) L (world_at left points roots corners volumes ends' lengths' outline' log') at r → k.particles ≤ length snapped
      → AfterTold B L k.edges W at bends snapped r
  after_done r₁ left at r U d F long = record { went = done_at left at r (subst Told d U) F long }
