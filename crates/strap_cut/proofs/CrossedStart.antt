-- Laws of the crossings of an input: they name its edges, nothing is marked at first, and all of them are done. Assumes nothing.
use Prim.Native.Nat.{ℕ, zero, suc, ◌-◌, ◌/◌, ◌<◌, ◌≤◌}
use native.Mathlib.Omega.{arith}
use mathlib.Core.Path.{◌≡◌, refl, sym, ap, ◌∙◌, subst}
use mathlib.Core.List.{List, []}
use lib.ListN.{length, get_or, replicate}
use lib.Ieee.{Float, nan}
use borrow.Author.Tests.{ne_eqb}
use Rattle.lists.specs.Lists.{fold, padded}
use Rattle.lists.proofs.Stores.{tab_at, tab_length}
use Rattle.blade.specs.declared.Point.{Point}
use Rattle.columns.proofs.Cells.{col_0, col_1}
use Rattle.model.specs.Mesh.{Mesh}
use Rattle.model.specs.Elements.{Straps}
use Rattle.links.specs.Linked.{PairsLinkable}
use Rattle.split.proofs.LinkLaws.{linkable_ready}
use Rattle.model.specs.Trace.{All}
use Rattle.model.specs.Run.{Run}
use Rattle.model.specs.Calls.{first_fault}
use Rattle.model.specs.Cut.{Crossing, crossings, strapping, crossed}
use Rattle.model_laws.proofs.Laws.{all_in}
use Rattle.mesh.specs.At.{mesh_at}
use Rattle.mesh.specs.Log.{World, world_of, world_at}
use Rattle.mesh.specs.Given.{Lent, as_rooms}
use Rattle.mesh.specs.declared.Counts.{Counts}
use Rattle.mesh.specs.declared.Rooms.{Rooms}
use Rattle.mesh.proofs.Lists.{edges_length}
use Rattle.work.specs.Working.{Ready, Went, Logged}
use Rattle.work.specs.Ran.{Ran}
use Rattle.work.proofs.Placed.{ends_in}
use Rattle.marks.specs.Marking.{blade_from}
use Rattle.insert.specs.Shares.{Stands}
use Rattle.crossing.specs.Bends.{EndsBelow}
use Rattle.crossing.specs.Crossings.{crossed_in, CrossingsAre}
use Rattle.crossing.specs.Crossed.{ran_of, StrapMarks, Crosses, CrossTold, CrossRoom, CrossingsIn}
use Rattle.crossing.proofs.CrossedRuns.{entries_to, words_to, ready_to}
use Rattle.model_laws.proofs.Inserted.{crossings_inside}
use Rattle.std.specs.Prelude.{Ok}

-- ---- nothing is marked

-- a table of zeros has 0 at every place, and behind it
pub zeros_there : (n j : ℕ) → get_or (replicate {A = ℕ} n 0) j 0 ≡ 0
zeros_there zero j = refl
zeros_there (suc n) zero = refl
zeros_there (suc n) (suc j) = zeros_there n j

-- and so has a table that was cleared
pub cleared_there : (n : ℕ) (l : List ℕ) → l ≡ padded n 0 [] → (j : ℕ) → get_or l j 0 ≡ 0
unfolding padded
cleared_there n l e j = ap (λ (t : List ℕ). get_or t j 0) e ∙ zeros_there (n - 0) j

-- such tables are the marks of a strap cut that begins
pub marks_none : (R : Run) (bends snapped : List ℕ) → ((j : ℕ) → get_or bends j 0 ≡ 0) → ((j : ℕ) → get_or snapped j 0 ≡ 0) → StrapMarks (strapping R [] []) bends snapped
marks_none R bends snapped zb zs =
    record {
      bends_are = λ j. ne_eqb (get_or bends j 0) 1 (λ q. let z = zb j in omega arith);
      snapped_are = record { mark = λ j l. zs j };
    }

-- ---- the table of the edges

-- the table of the edges of an input can be built
pub table_room : (L : Rooms) (k : Counts) (points : List Float) (roots ends : List ℕ) (lengths : List Float) (outline log : List ℕ) (lb ls : ℕ) → CrossRoom L k points roots ends lengths outline log lb ls
    → (lt : ℕ) → 5120 ≤ lt → PairsLinkable 4 k.edges ends lt
table_room L k points roots ends lengths outline log lb ls X lt long =
    let E = (linkable_ready Straps L k points roots X.corners X.volumes ends lengths outline log X.ready 14336 (omega arith)).edges in
    record { long = long; few = E.few; rows = E.rows; apart = E.apart }

-- ---- the crossings of a mesh name its edges

-- so do those that were found in the blocks
module _ (b0 b1 : Point) (e : ℕ) (points : List Float) (ends numbers : List ℕ) (ts : List Float) (m : ℕ) (C : CrossingsAre b0 b1 e points ends numbers ts m) where
  pub numbers_below : (M : Mesh) (n : ℕ) (roots : List ℕ) (lengths : List Float) → Stands M n e points roots ends lengths → EndsBelow n e ends → (j : ℕ) → j < m → get_or numbers j 0 < e
  numbers_below M n roots lengths S E j l =
      let row : ℕ → Crossing = λ i. record { number = get_or numbers i 0; t = get_or ts i nan } in
      let blank : Crossing = record { number = 0; t = nan } in
      let all : All (λ (c : Crossing). c.number < length M.edges) (crossed_in m numbers ts) =
      subst (All (λ (c : Crossing). c.number < length M.edges)) (sym (C.is M n roots lengths S E)) (crossings_inside (blade_from b0 b1) M) in
      let at : (get_or (crossed_in m numbers ts) j blank).number < length M.edges = all_in (λ (c : Crossing). c.number < length M.edges) (crossed_in m numbers ts) j blank (omega (arith, tab_length m row)) all in
      let is : (get_or (crossed_in m numbers ts) j blank).number ≡ get_or numbers j 0 = ap (λ (c : Crossing). c.number) (tab_at m row j blank l) in
      let many : length M.edges ≡ e = ap length S.edges_are ∙ edges_length e ends lengths in
      omega arith

-- ---- the crossings of the mesh that the blocks hold

module _ (b0 b1 : Point) (L : Rooms) (k : Counts) (I : Lent) (points : List Float) (roots corners : List ℕ) (volumes : List Float) (ends : List ℕ) (lengths : List Float) (outline log : List ℕ)
    (Y : Ready L k I (mesh_at k points roots corners volumes ends lengths outline)) (lent : I.ends ≡ length ends) (numbers : List ℕ) (ts : List Float) (m : ℕ) (C : CrossingsAre b0 b1 k.edges points ends numbers ts m) where
  ends_below : EndsBelow k.particles k.edges ends
  ends_below =
      let E = ends_in k points roots corners volumes ends lengths outline Y.indices in
      let few : k.edges ≤ L.edges = Y.counts.edges in
      let room : L.edges ≤ length ends / 4 = subst (λ (n : ℕ). L.edges ≤ n / 4) lent Y.rooms.ends in
      record {
        rows = omega arith;
        first = λ j l. subst (λ (x : ℕ). x < k.particles) (col_0 0 (length ends / 4) ends j) (E.first j l);
        second = λ j l. subst (λ (x : ℕ). x < k.particles) (col_1 0 (length ends / 4) ends j) (E.second j l);
      }

  -- they can be done in turn
  pub found_inside : Logged k.log log → k.edges ≤ length numbers → k.edges ≤ length ts → CrossingsIn m numbers (length ts) k log
  unfolding mesh_at
  found_inside G ln lt =
      let few : m ≤ k.edges = C.few in
      record {
        logged = G;
        numbers_long = omega arith;
        ts_long = omega arith;
        inside = numbers_below b0 b1 k.edges points ends numbers ts m C (mesh_at k points roots corners volumes ends lengths outline) k.particles roots lengths (record { particles_are = refl; edges_are = refl }) ends_below;
      }

  module _ (R : Run) (w : world_at k points roots corners volumes ends lengths outline log ≡ world_of R.mesh R.log) where
    -- they are those of the run
    pub found_are : crossed_in m numbers ts ≡ crossings (blade_from b0 b1) R.mesh
    unfolding world_at mesh_at
    found_are = C.is R.mesh k.particles roots lengths (record { particles_are = ap (λ (W : World). W.mesh.particles) (sym w); edges_are = ap (λ (W : World). W.mesh.edges) (sym w) }) ends_below

    -- and so all crossings of the run are done
    module _ (f : Float) (bends snapped : List ℕ) (points' : List Float) (roots' ends' : List ℕ) (lengths' : List Float) (outline' log' bends' snapped' : List ℕ) (r : Ran)
        (T : CrossTold f (crossed_in m numbers ts) L k points roots ends lengths outline log bends snapped points' roots' ends' lengths' outline' log' bends' snapped' r) (z : first_fault (as_rooms L) R.needs ≡ 0) where
      pub all_went : Went L (ran_of (fold (crossed f) (strapping R [] []) (crossings (blade_from b0 b1) R.mesh))) (λ q. world_at q points' roots' corners volumes ends' lengths' outline' log') r
      all_went =
          subst (λ (cs : List Crossing). Went L (ran_of (fold (crossed f) (strapping R [] []) cs)) (λ q. world_at q points' roots' corners volumes ends' lengths' outline' log') r) found_are
          ((T.crosses corners volumes).went (strapping R [] []) w z)

      pub all_marked : StrapMarks (strapping R [] []) bends snapped → (q : Counts) → r ≡ Ok q → StrapMarks (fold (crossed f) (strapping R [] []) (crossings (blade_from b0 b1) R.mesh)) bends' snapped'
      all_marked A q e =
          subst (λ (cs : List Crossing). StrapMarks (fold (crossed f) (strapping R [] []) cs) bends' snapped') found_are ((T.crosses corners volumes).marks (strapping R [] []) w z A q e)

  -- behind them the blocks are ready for what comes next, and their log is one
  module _ (f : Float) (bends snapped : List ℕ) (points' : List Float) (roots' ends' : List ℕ) (lengths' : List Float) (outline' log' bends' snapped' : List ℕ) (r : Ran)
      (T : CrossTold f (crossed_in m numbers ts) L k points roots ends lengths outline log bends snapped points' roots' ends' lengths' outline' log' bends' snapped' r) (G : Logged k.log log) (q : Counts) (e : r ≡ Ok q) where
    done : Crosses f (crossed_in m numbers ts) L (world_at k points roots corners volumes ends lengths outline log) (λ x. world_at x points' roots' corners volumes ends' lengths' outline' log') bends snapped bends' snapped' (Ok q)
    done =
        subst
        (λ (x : Ran).
        Crosses f (crossed_in m numbers ts) L (world_at k points roots corners volumes ends lengths outline log) (λ y. world_at y points' roots' corners volumes ends' lengths' outline' log') bends snapped bends' snapped' x)
        e (T.crosses corners volumes)

    named : All (λ (c : Crossing). c.number < length (mesh_at k points roots corners volumes ends lengths outline).edges) (crossed_in m numbers ts)
    unfolding mesh_at
    named =
        let M = mesh_at k points roots corners volumes ends lengths outline in
        subst (All (λ (c : Crossing). c.number < length M.edges)) (sym (C.is M k.particles roots lengths (record { particles_are = refl; edges_are = refl }) ends_below)) (crossings_inside (blade_from b0 b1) M)

    pub all_ready : (I' : Lent) → I' ≡ I → Ready L q I' (mesh_at q points' roots' corners volumes ends' lengths' outline')
    unfolding world_at
    all_ready I' same = ready_to f (crossed_in m numbers ts) L _ _ _ _ _ _ q done G.entries G.words k I I' Y named same

    pub all_logged : Logged q.log log'
    unfolding world_at
    all_logged = record { entries = entries_to f (crossed_in m numbers ts) L _ _ _ _ _ _ q done G.entries G.words; words = words_to f (crossed_in m numbers ts) L _ _ _ _ _ _ q done G.entries G.words }
