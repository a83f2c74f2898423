-- The whole cut of straps: its crossings lack room, or what is left of the cut is done behind them. Assumes nothing.
use Prim.Native.Nat.{ℕ, zero, suc, ◌<◌}
use native.Mathlib.Omega.{arith}
use mathlib.Core.Path.{◌≡◌, refl, sym, ap, ◌∙◌, subst}
use mathlib.Core.List.{List, []}
use lib.ListN.{length, get_or}
use lib.Ieee.{Float}
use Rattle.lists.specs.Lists.{fold, rising}
use Rattle.blade.specs.declared.Point.{Point}
use Rattle.model.specs.Mesh.{Mesh}
use Rattle.model.specs.Run.{Run}
use Rattle.model.specs.Calls.{first_fault}
use Rattle.model.specs.Cut.{Blade, crossings, Strapping, strapping, crossed, unbent, split_snapped_of, after_crossings, cut_segments_of}
use Rattle.model_laws.proofs.Steps.{Onward, fault_stays, onward_then, onward_fold, unbent_onward, snapped_onward}
use Rattle.mesh.specs.At.{mesh_at}
use Rattle.mesh.specs.Log.{World, world_of, world_at}
use Rattle.mesh.specs.Given.{Lent, as_rooms}
use Rattle.mesh.specs.Filled.{lent}
use Rattle.mesh.specs.declared.Counts.{Counts}
use Rattle.mesh.specs.declared.Rooms.{Rooms}
use Rattle.work.specs.Working.{Within, Ready, Went, Works, Logged}
use Rattle.work.specs.Ran.{Ran}
use Rattle.work.proofs.Placed.{edges_count}
use Rattle.split.proofs.StepLaws.{world_mesh}
use Rattle.marks.specs.Marking.{blade_from}
use Rattle.crossing.specs.Crossed.{ran_of}
use Rattle.strap_cut.specs.Segments.{AfterTold, BladeCrossed}
use Rattle.strap_cut.proofs.CrossedStart.{marks_none, all_went, all_marked, all_ready, all_logged}
use Rattle.crossing.proofs.BendNumbers.{marked_there}
use Rattle.std.specs.Prelude.{Ok, Err}
use Rattle.mesh.specs.declared.refusals.Refusal.{Refusal}
use Rattle.mesh.specs.Refused.{number_of}

-- what is left of a cut only goes on
after_onward : (B : Blade) (S : Strapping) → Onward (ran_of S) (after_crossings B S)
unfolding after_crossings
after_onward B (strapping R marked snapped) = onward_then (unbent_onward marked R) (onward_fold (split_snapped_of B) (snapped_onward B) (unbent marked R) (rising (length R.mesh.particles) snapped))

after_lacks : (B : Blade) (L : Rooms) (S : Strapping) (c : ℕ) → (first_fault (as_rooms L) (ran_of S).needs ≡ c) × (0 < c) → (first_fault (as_rooms L) (after_crossings B S).needs ≡ c) × (0 < c)
after_lacks B L S zero q = absurd (omega (arith, q.1))
after_lacks B L S (suc n) q = (fault_stays (as_rooms L) (ran_of S) (after_crossings B S) n (after_onward B S) q.0, q.1)

module _ (b0 b1 : Point) (f : Float) (L : Rooms) (k : Counts) (points : List Float) (roots corners : List ℕ) (volumes : List Float) (ends : List ℕ) (lengths : List Float) (outline log : List ℕ)
    (Y : Ready L k (lent points roots corners volumes ends lengths outline log) (mesh_at k points roots corners volumes ends lengths outline)) (bends snapped : List ℕ)
    (points' : List Float) (roots' ends' : List ℕ) (lengths' : List Float) (outline' log' bends' snapped' : List ℕ) (r : Ran)
    (T : BladeCrossed b0 b1 f L k points roots ends lengths outline log bends snapped points' roots' ends' lengths' outline' log' bends' snapped' r) where
  abbrev W : World
  W = world_at k points roots corners volumes ends lengths outline log

  abbrev behind : Counts → World
  behind q = world_at q points' roots' corners volumes ends' lengths' outline' log'

  -- the strap cut of a run behind its crossings
  abbrev crossed_all : Run → Strapping
  crossed_all R = fold (crossed f) (strapping R [] []) (crossings (blade_from b0 b1) R.mesh)

  went : (R : Run) → W ≡ world_of R.mesh R.log → first_fault (as_rooms L) R.needs ≡ 0 → Went L (ran_of (crossed_all R)) behind r
  went R w z =
      all_went b0 b1 L k _ points roots corners volumes ends lengths outline log Y refl T.numbers T.ts T.many T.found R w f bends snapped points' roots' ends' lengths' outline' log' bends' snapped' r T.told z

  -- the crossings lack room
  pub segments_refused : (c : Refusal) → r ≡ Err c → Works (cut_segments_of (blade_from b0 b1) f) L W behind r
  unfolding cut_segments_of
  segments_refused c e =
      record {
        went =
            λ R w z.
            subst (Went L (after_crossings (blade_from b0 b1) (crossed_all R)) behind) (sym e)
            (after_lacks (blade_from b0 b1) L (crossed_all R) (number_of c) (subst (Went L (ran_of (crossed_all R)) behind) e (went R w z)));
      }

  module _ (q : Counts) (e : r ≡ Ok q) where
    went_done : (R : Run) → W ≡ world_of R.mesh R.log → first_fault (as_rooms L) R.needs ≡ 0
        → (first_fault (as_rooms L) (ran_of (crossed_all R)).needs ≡ 0) × Within q L × (behind q ≡ world_of (ran_of (crossed_all R)).mesh (ran_of (crossed_all R)).log)
    went_done R w z = subst (Went L (ran_of (crossed_all R)) behind) e (went R w z)

    -- the rest of the cut can be done behind them
    pub crossed_ready : Logged k.log log → (I : Lent) → I ≡ lent points roots corners volumes ends lengths outline log → Ready L q I (mesh_at q points' roots' corners volumes ends' lengths' outline')
    crossed_ready G I same =
        all_ready b0 b1 L k _ points roots corners volumes ends lengths outline log Y refl T.numbers T.ts T.many T.found f bends snapped points' roots' ends' lengths' outline' log' bends' snapped' r T.told G q e I same

    pub crossed_logged : Logged k.log log → Logged q.log log'
    crossed_logged G =
        all_logged b0 b1 L k _ points roots corners volumes ends lengths outline log Y refl T.numbers T.ts T.many T.found f bends snapped points' roots' ends' lengths' outline' log' bends' snapped' r T.told G q e

    -- as many edges as the counts say
    held_edges : (M : Mesh) → (behind q).mesh ≡ M → q.edges ≡ length M.edges
    held_edges M h =
        sym (edges_count q points' roots' corners volumes ends' lengths' outline') ∙ ap (λ (X : Mesh). length X.edges) (sym (world_mesh q points' roots' corners volumes ends' lengths' outline' log') ∙ h)

    -- and it was: nothing was marked at first, and so the marks are those of the cut
    pub segments_done : ((j : ℕ) → get_or bends j 0 ≡ 0) → ((j : ℕ) → get_or snapped j 0 ≡ 0) → (at : Counts → World) (s : Ran)
        → AfterTold (blade_from b0 b1) L q.edges (behind q) at bends' snapped' s → Works (cut_segments_of (blade_from b0 b1) f) L W at s
    unfolding cut_segments_of
    segments_done zb zs at s A =
        record {
          went =
              λ R w z.
              let D = went_done R w z in
              let M = all_marked b0 b1 L k _ points roots corners volumes ends lengths outline log Y refl T.numbers T.ts T.many T.found R w f bends snapped points' roots' ends' lengths' outline' log' bends' snapped' r T.told z
              (marks_none R bends snapped zb zs) q e in
              let many = held_edges (ran_of (crossed_all R)).mesh (ap (λ (X : World). X.mesh) D.2) in
              A.went (crossed_all R) D.2 D.0 M (λ j h. let l = marked_there f R (crossings (blade_from b0 b1) R.mesh) j h in omega arith);
        }
