-- The cut of triangles over the blocks: the marked are the candidates and the pinched, and one part of the cut comes behind the other. Assumes nothing.
use mathlib.Core.Path.{◌≡◌, refl, sym, ◌∙◌, ap, subst}
use mathlib.Core.Bool.{Bool, true, false, not}
use mathlib.Core.List.{List, map}
use Prim.Native.Nat.{ℕ, ◌/◌, ◌<◌, ◌≤◌}
use native.Mathlib.Omega.{arith}
use lib.ListN.{length}
use lib.Ieee.{Float}
use Rattle.lists.specs.Lists.{pick, fold, empty, rising}
use Rattle.blade.specs.declared.Point.{Point}
use Rattle.columns.specs.Block.{cell}
use Rattle.model.specs.Mesh.{Mesh}
use Rattle.model.specs.Elements.{Triangles, Straps}
use Rattle.model.specs.Run.{Run, splits_of}
use Rattle.model.specs.Cut.{Blade, split_snapped_of, split_by_blade, split_free, pinched, split_pinched_of, candidates, cut_facets_of}
use Rattle.model_laws.proofs.Steps.{Onward, onward_stay, onward_pick, pinched_onward}
use Rattle.mesh.specs.At.{mesh_at, triangles_at}
use Rattle.mesh.specs.Log.{World, world_of, words_of, world_at}
use Rattle.mesh.specs.Given.{Lent}
use Rattle.mesh.specs.declared.Counts.{Counts}
use Rattle.mesh.specs.declared.Rooms.{Rooms}
use Rattle.mesh.specs.Widths.{point_columns}
use Rattle.work.specs.Places.{CornersIn}
use Rattle.work.specs.Working.{Within, Ready, Works, Logged}
use Rattle.work.specs.Ran.{Ran}
use Rattle.work.proofs.Placed.{particles_count, corners_in}
use Rattle.work.proofs.Runs.{works_stay, works_then, works_refused, works_known, works_as}
use Rattle.cut.specs.declared.facets.Parting.TheVariants.{Free, Blade as BladeFrom, Snapped}
use Rattle.marks.specs.declared.Rule.{Rule}
use Rattle.marks.specs.Marking.{blade_by, blade_from, candidate_ends, CandidateRoom, CandidatesMarked, NearMarked, pinched_ends, PinchedRoom, PinchedMarked}
use Rattle.cut.specs.Running.{sides_in, split_by_of, split_in, Chosen}
use Rattle.cut.proofs.RunLaws.{chosen_rising, split_to}
use Rattle.marks.proofs.MarkLaws.{places_at}
use Rattle.lists.proofs.Truths.{of_not, of_not_false}
use Rattle.std.specs.Prelude.{Ok, Err}
use Rattle.mesh.specs.declared.refusals.Refusal.{Refusal}

-- ---- the marked

corners_wide : (p q t : ℕ) (corners : List ℕ) → p ≤ q → CornersIn p t corners → CornersIn q t corners
corners_wide p q t corners h C =
    record {
      first = λ j l. let a : cell 0 (length corners / 3) corners 0 j < p = C.first j l in omega arith;
      second = λ j l. let a : cell 0 (length corners / 3) corners 1 j < p = C.second j l in omega arith;
      third = λ j l. let a : cell 0 (length corners / 3) corners 2 j < p = C.third j l in omega arith;
    }

-- a split with all sides 0, and one by the blade
free_is : (R : Run) (l : List ℕ) → fold (split_in Free Triangles) R l ≡ fold (split_free Triangles) R l
unfolding split_in split_by_of sides_in split_free
free_is R l = refl

blade_is : (rule : Rule) (b0 b1 : Point) (R : Run) (l : List ℕ) → fold (split_in (BladeFrom rule b0 b1) Triangles) R l ≡ fold (split_by_blade Triangles (blade_by rule b0 b1)) R l
unfolding split_in split_by_of sides_in split_by_blade
blade_is rule b0 b1 R l = refl

-- the split of a snapped end, of straps
snapped_is : (b0 b1 : Point) (R : Run) (l : List ℕ) → fold (split_in (Snapped b0 b1) Straps) R l ≡ fold (split_snapped_of (blade_from b0 b1)) R l
unfolding split_in sides_in split_snapped_of
snapped_is b0 b1 R l = refl

pub snapped_work : {L : Rooms} {W : World} {at : Counts → World} {r : Ran} (b0 b1 : Point) (l : List ℕ) → Works (λ (R : Run). fold (split_in (Snapped b0 b1) Straps) R l) L W at r → Works (λ (R : Run). fold (split_snapped_of (blade_from b0 b1)) R l) L W at r
snapped_work b0 b1 l F = works_as (λ R e. snapped_is b0 b1 R l) F

-- the first part of the cut
abbrev pub split_candidates : Blade → Run → Run
split_candidates B R = fold (split_by_blade Triangles B) R (candidates B R.mesh)

module _ (k : Counts) (points : List Float) (roots corners : List ℕ) (volumes : List Float) (ends : List ℕ) (lengths : List Float) (outline log : List ℕ) (L : Rooms) (I : Lent)
    (Y : Ready L k I (mesh_at k points roots corners volumes ends lengths outline)) (points_lent : I.points ≡ length points) (corners_lent : I.corners ≡ length corners) (log_lent : I.log ≡ length log) where
  abbrev world : World
  world = world_at k points roots corners volumes ends lengths outline log

  few : k.particles ≤ 1024
  few =
      let a : k.particles ≤ L.particles = Y.counts.particles in
      let b : L.particles ≤ 1024 = Y.rooms.few_particles in
      omega arith

  named : CornersIn k.particles k.triangles corners
  named = corners_in k points roots corners volumes ends lengths outline Y.indices

  corners_long : k.triangles ≤ length corners / 3
  corners_long =
      let a : k.triangles ≤ L.triangles = Y.counts.triangles in
      let b : L.triangles ≤ length corners / 3 = subst (λ (m : ℕ). L.triangles ≤ m / 3) corners_lent Y.rooms.corners in
      omega arith

  pub near_room : k.log ≤ length log / 6
  near_room =
      let a : k.log ≤ L.log = Y.counts.log in
      let b : L.log ≤ length log / 6 = subst (λ (m : ℕ). L.log ≤ m / 6) log_lent Y.rooms.log in
      omega arith

  pub candidate_room : CandidateRoom k.triangles corners (length points)
  candidate_room =
      let a : k.particles ≤ L.particles = Y.counts.particles in
      let b : L.particles ≤ length points / point_columns = subst (λ (m : ℕ). L.particles ≤ m / point_columns) points_lent Y.rooms.points in
      record { long = corners_long; corners_in = corners_wide k.particles (length points / point_columns) k.triangles corners (omega arith) named }

  pub pinched_room : (ln : ℕ) → 1024 ≤ ln → PinchedRoom k.triangles corners ln
  pinched_room ln h = let f = few in record { long = corners_long; corners_in = corners_wide k.particles ln k.triangles corners (omega arith) named }

  pub chosen_room : (lm : ℕ) → 1024 ≤ lm → Logged k.log log → Chosen k.particles k log lm
  chosen_room lm h G = let f = few in record { logged = G; inside = omega arith; long = omega arith }

  triangles_at_lem : (mesh_at k points roots corners volumes ends lengths outline).triangles ≡ triangles_at k.triangles corners volumes
  unfolding mesh_at
  triangles_at_lem = refl

  -- how many particles a run in the blocks has
  particles_of : (R : Run) → world ≡ world_of R.mesh R.log → k.particles ≡ length R.mesh.particles
  unfolding world_at
  particles_of R e = sym (particles_count k points roots corners volumes ends lengths outline) ∙ ap (λ (x : World). length x.mesh.particles) e

  pub pinched_works : (near marks : List ℕ) → 1024 ≤ length near → 1024 ≤ length marks → NearMarked k.log log near → PinchedMarked k.triangles corners near marks → {at : Counts → World} {r : Ran}
      → Works (split_to Free Triangles L marks k.particles) L world at r → Works (split_pinched_of Triangles) L world at r
  unfolding world_at mesh_at split_pinched_of pinched pinched_ends
  pinched_works near marks hn hm N P F =
      let f = few in
      works_as
      (λ R e.
      ap (fold (split_in Free Triangles) R)
      (chosen_rising marks (pinched_ends R) k.particles (P.marked R volumes (sym (ap (λ (x : World). x.mesh.triangles) e)) (corners_wide k.particles (length near) k.triangles corners (omega arith) named) (N.marked R (ap (λ (x : World). x.log) e))) (omega arith)
      ∙ ap (λ (n : ℕ). rising n (pinched_ends R)) (particles_of R e))
      ∙ free_is R (pinched Triangles R))
      F

  pub candidates_work : (rule : Rule) (b0 b1 : Point) (marks : List ℕ) → 1024 ≤ length marks → CandidatesMarked (blade_by rule b0 b1) k.triangles points corners marks → {at : Counts → World} {r : Ran}
      → Works (split_to (BladeFrom rule b0 b1) Triangles L marks k.particles) L world at r → Works (split_candidates (blade_by rule b0 b1)) L world at r
  unfolding world_at candidates candidate_ends
  candidates_work rule b0 b1 marks hm C F =
      let f = few in
      let M : Mesh = mesh_at k points roots corners volumes ends lengths outline in
      works_as
      (λ R e.
      ap (fold (split_in (BladeFrom rule b0 b1) Triangles) R)
      (chosen_rising marks (candidate_ends (blade_by rule b0 b1) M) k.particles (C.marked M k.particles volumes (places_at k points roots corners volumes ends lengths outline) named (triangles_at_lem)) (omega arith)
      ∙ ap (λ (n : ℕ). rising n (candidate_ends (blade_by rule b0 b1) M)) (particles_of R e)
      ∙ ap (λ (x : World). rising (length R.mesh.particles) (candidate_ends (blade_by rule b0 b1) x.mesh)) e)
      ∙ blade_is rule b0 b1 R (candidates (blade_by rule b0 b1) R.mesh))
      F

-- ---- one part behind the other

-- what comes behind the first part
abbrev afterwards : Run → Run
afterwards S = pick (empty (splits_of S.log)) S (split_pinched_of Triangles S)

after_onward : (S : Run) → Onward S (afterwards S)
after_onward S = onward_pick (empty (splits_of S.log)) S S (split_pinched_of Triangles S) (onward_stay S) (pinched_onward Triangles S)

-- the first part lacks room
pub facets_refused : {L : Rooms} {W : World} {at : Counts → World} (B : Blade) (r : Ran) (c : Refusal) → r ≡ Err c → Works (split_candidates B) L W at r → Works (cut_facets_of B) L W at r
unfolding cut_facets_of
facets_refused {at = at} B r c e F = works_known (Err c) r (sym e) (works_refused afterwards {at = at} (λ R. after_onward (split_candidates B R)) (works_known r (Err c) e F))

module _ {L : Rooms} {W : World} {at : Counts → World} (B : Blade) (r : Ran) (k : Counts) (known : r ≡ Ok k) (F : Works (split_candidates B) L W at r) (t : Bool) (found : (S : Run) → (at k).log ≡ map words_of S.log → t ≡ not (empty (splits_of S.log))) where
  -- nothing split
  pub facets_unsplit : Within k L → t ≡ false → Works (cut_facets_of B) L W at (Ok k)
  unfolding cut_facets_of
  facets_unsplit b e =
      works_then (works_known r (Ok k) known F)
      (works_as (λ S h. sym (ap (λ (s : Bool). pick s S (split_pinched_of Triangles S)) (of_not_false (empty (splits_of S.log)) (sym e ∙ found S (ap (λ (x : World). x.log) h))))) (works_stay {at = at} k b))

  -- the pinched are split behind it
  pub facets_split : {at' : Counts → World} {r' : Ran} → t ≡ true → Works (split_pinched_of Triangles) L (at k) at' r' → Works (cut_facets_of B) L W at' r'
  unfolding cut_facets_of
  facets_split e G =
      works_then (works_known r (Ok k) known F)
      (works_as (λ S h. sym (ap (λ (s : Bool). pick s S (split_pinched_of Triangles S)) (of_not (empty (splits_of S.log)) (sym e ∙ found S (ap (λ (x : World). x.log) h))))) G)
