-- Laws of the loop over a list of torn edges: those so far are cracked, and the blocks are ready for the next. Assumes nothing.
use Prim.Native.Nat.{ℕ, ◌+◌, ◌<◌, ◌≤◌}
use native.Mathlib.Omega.{arith}
use mathlib.Core.Path.{◌≡◌, refl, sym, ◌∙◌, subst}
use mathlib.Core.List.{List, [], ◌∷◌}
use lib.ListN.{length, get_or, take, drop}
use lib.Seq.{take_all}
use lib.Ieee.{Float}
use Rattle.lists.specs.Lists.{sift}
use Rattle.model.specs.Elements.{Kind}
use Rattle.mesh.specs.At.{mesh_at}
use Rattle.mesh.specs.Log.{World, world_at}
use Rattle.mesh.specs.Filled.{lent}
use Rattle.mesh.specs.declared.Counts.{Counts}
use Rattle.mesh.specs.declared.Rooms.{Rooms}
use Rattle.work.specs.Working.{Ready}
use Rattle.work.specs.Ran.{Ran}
use Rattle.work.proofs.Placed.{triangles_count}
use Rattle.crack.specs.Bodies.{ends_listed, CracksRoom, CracksTold}
use Rattle.crack.proofs.BodyLaws.{cracks_none, cracks_then, cracks_refused, cracks_ready, cracks_entries, cracks_words, cracks_triangles, ends_step, ends_rest}
use Rattle.std.specs.Prelude.{Ok, Err}
use Rattle.mesh.specs.declared.refusals.Refusal.{Refusal}

-- at the head of the loop: the first i numbers of the list are dealt with, and no room lacked
pub record ListedTo (K : Kind) (min : ℕ) (is : List ℕ) (e : ℕ) (from to : List ℕ) (loads : List Float) (L : Rooms) (k₀ : Counts) (points₀ : List Float) (roots₀ corners₀ : List ℕ) (volumes : List Float) (ends₀ : List ℕ) (lengths₀ : List Float) (outline₀ log₀ : List ℕ)
    (points : List Float) (roots corners ends : List ℕ) (lengths : List Float) (outline log : List ℕ) (k : Counts) (i : ℕ) : Type 0 where
  pub inside : i ≤ length is
  pub same : lent points roots corners volumes ends lengths outline log ≡ lent points₀ roots₀ corners₀ volumes ends₀ lengths₀ outline₀ log₀
  pub told : CracksTold K min k₀.triangles (ends_listed e from to (take i is)) loads L (world_at k₀ points₀ roots₀ corners₀ volumes ends₀ lengths₀ outline₀ log₀) (λ q. world_at q points roots corners volumes ends lengths outline log) (Ok k)

module _ (K : Kind) (min : ℕ) (is : List ℕ) (e : ℕ) (from to : List ℕ) (loads : List Float) (L : Rooms) (k₀ : Counts) (points₀ : List Float) (roots₀ corners₀ : List ℕ) (volumes : List Float) (ends₀ : List ℕ) (lengths₀ : List Float) (outline₀ log₀ : List ℕ)
    (Y : Ready L k₀ (lent points₀ roots₀ corners₀ volumes ends₀ lengths₀ outline₀ log₀) (mesh_at k₀ points₀ roots₀ corners₀ volumes ends₀ lengths₀ outline₀))
    (X : CracksRoom K e from to k₀ (length loads) log₀) where
  abbrev world₀ : World
  world₀ = world_at k₀ points₀ roots₀ corners₀ volumes ends₀ lengths₀ outline₀ log₀

  pub to_start : ListedTo K min is e from to loads L k₀ points₀ roots₀ corners₀ volumes ends₀ lengths₀ outline₀ log₀ points₀ roots₀ corners₀ ends₀ lengths₀ outline₀ log₀ k₀ 0
  unfolding ends_listed sift
  to_start =
      record {
        inside = omega arith;
        same = refl;
        told = cracks_none K min k₀.triangles loads L {at = λ q. world_at q points₀ roots₀ corners₀ volumes ends₀ lengths₀ outline₀ log₀} k₀ Y.counts;
      }

  module _ (points : List Float) (roots corners ends : List ℕ) (lengths : List Float) (outline log : List ℕ) (k : Counts) (i : ℕ)
      (O : ListedTo K min is e from to loads L k₀ points₀ roots₀ corners₀ volumes ends₀ lengths₀ outline₀ log₀ points roots corners ends lengths outline log k i) where
    abbrev at : Counts → World
    at q = world_at q points roots corners volumes ends lengths outline log

    -- the blocks are ready for the next
    pub to_ready : Ready L k (lent points roots corners volumes ends lengths outline log) (mesh_at k points roots corners volumes ends lengths outline)
    unfolding world_at
    to_ready = cracks_ready K min k₀.triangles (ends_listed e from to (take i is)) loads L world₀ at k O.told X.logged.entries X.logged.words k₀ _ _ Y O.same

    -- they have as many triangles as at the start
    pub to_triangles : k.triangles ≡ k₀.triangles
    unfolding world_at
    to_triangles =
        sym (triangles_count k points roots corners volumes ends lengths outline)
        ∙ cracks_triangles K min k₀.triangles (ends_listed e from to (take i is)) loads L world₀ at k O.told X.logged.entries X.logged.words
        ∙ triangles_count k₀ points₀ roots₀ corners₀ volumes ends₀ lengths₀ outline₀

    pub to_room : CracksRoom K e from to k (length loads) log
    unfolding world_at
    to_room =
        record {
          first = X.first;
          second = X.second;
          first_few = X.first_few;
          second_few = X.second_few;
          loads = record { long = λ q. let h = X.loads.long q in let t = to_triangles in omega arith };
          logged = record {
            entries = cracks_entries K min k₀.triangles (ends_listed e from to (take i is)) loads L world₀ at k O.told X.logged.entries X.logged.words;
            words = cracks_words K min k₀.triangles (ends_listed e from to (take i is)) loads L world₀ at k O.told X.logged.entries X.logged.words;
          };
        }

    -- one number more
    module _ (points' : List Float) (roots' corners' ends' : List ℕ) (lengths' : List Float) (outline' log' : List ℕ) (r : Ran)
        (G : CracksTold K min k.triangles (ends_listed e from to (get_or is i 0 ∷ [])) loads L (world_at k points roots corners volumes ends lengths outline log) (λ q. world_at q points' roots' corners' volumes ends' lengths' outline' log') r) (h : i < length is) where
      abbrev at' : Counts → World
      at' q = world_at q points' roots' corners' volumes ends' lengths' outline' log'

      more : CracksTold K min k₀.triangles (ends_listed e from to (take (i + 1) is)) loads L world₀ at' r
      more =
          subst (λ (abs : List (ℕ × ℕ)). CracksTold K min k₀.triangles abs loads L world₀ at' r) (sym (ends_step e from to is i h))
          (cracks_then K min k₀.triangles loads L (ends_listed e from to (take i is)) (ends_listed e from to (get_or is i 0 ∷ [])) O.told
          (subst (λ (t : ℕ). CracksTold K min t (ends_listed e from to (get_or is i 0 ∷ [])) loads L (at k) at' r) to_triangles G))

      pub to_step : (k' : Counts) → r ≡ Ok k' → lent points' roots' corners' volumes ends' lengths' outline' log' ≡ lent points roots corners volumes ends lengths outline log
          → ListedTo K min is e from to loads L k₀ points₀ roots₀ corners₀ volumes ends₀ lengths₀ outline₀ log₀ points' roots' corners' ends' lengths' outline' log' k' (i + 1)
      to_step k' known same =
          record {
            inside = omega arith;
            same = same ∙ O.same;
            told = subst (λ (x : Ran). CracksTold K min k₀.triangles (ends_listed e from to (take (i + 1) is)) loads L world₀ at' x) known more;
          }

      -- a room lacks
      pub to_stop : (c : Refusal) → r ≡ Err c → CracksTold K min k₀.triangles (ends_listed e from to is) loads L world₀ at' r
      to_stop c known =
          subst (λ (x : Ran). CracksTold K min k₀.triangles (ends_listed e from to is) loads L world₀ at' x) (sym known)
          (subst (λ (abs : List (ℕ × ℕ)). CracksTold K min k₀.triangles abs loads L world₀ at' (Err c)) (ends_rest e from to is (i + 1))
          (cracks_refused K min k₀.triangles loads L {at = at'} (ends_listed e from to (take (i + 1) is)) (ends_listed e from to (drop (i + 1) is))
          (subst (λ (x : Ran). CracksTold K min k₀.triangles (ends_listed e from to (take (i + 1) is)) loads L world₀ at' x) known more)))

    -- all of them
    pub to_done : length is ≤ i → CracksTold K min k₀.triangles (ends_listed e from to is) loads L world₀ (λ q. world_at q points roots corners volumes ends lengths outline log) (Ok k)
    to_done h = subst (λ (js : List ℕ). CracksTold K min k₀.triangles (ends_listed e from to js) loads L world₀ at (Ok k)) (take_all i is h) O.told
