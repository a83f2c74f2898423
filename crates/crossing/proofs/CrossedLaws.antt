-- Laws of crossings in turn: what the blocks have room for, one crossing inserted or snapped, and all of them one after the other. Assumes nothing.
use Prim.Native.Nat.{ℕ, zero, suc, ◌+◌, ◌/◌, ◌<◌, ◌≤◌}
use native.Mathlib.Omega.{arith}
use mathlib.Core.Path.{◌≡◌, refl, sym, ap, ◌∙◌, subst}
use mathlib.Core.Bool.{Bool, true, false, ◌||◌}
use mathlib.Core.List.{List, [], ◌∷◌, ◌++◌}
use lib.ListN.{length, get_or, set, length-set}
use lib.Ieee.{Float, lt}
use Rattle.lists.specs.Lists.{pick, stands, fold}
use Rattle.lists.proofs.Sifts.{fold_append, stands_append}
use Rattle.float.specs.Numbers.{half}
use Rattle.columns.proofs.Cells.{col_0, col_1}
use Rattle.model.specs.Run.{Run}
use Rattle.model.specs.Calls.{first_fault}
use Rattle.model.specs.Cut.{Crossing, Insertion, insertion_of, insertable, near_end, bends_over, insert_step, Strapping, strapping, inserted_at, snapped_at, crossed}
use Rattle.model_laws.proofs.Steps.{run_of, fault_stays, crossings_onward}
use Rattle.model.specs.Mesh.{Edge, Mesh}
use Rattle.mesh.specs.At.{particles_at, edges_at, mesh_at}
use Rattle.mesh.specs.Workers.{edge_of, row_at}
use Rattle.columns.specs.Block.{cell}
use Rattle.links.specs.Linked.{EdgesLinked}
use Rattle.insert.specs.Tables.{StrapLinked}
use Rattle.work.proofs.Grows.{edges_get}
use Rattle.mesh.specs.Log.{World, world_of, world_at}
use Rattle.mesh.specs.Given.{as_rooms}
use Rattle.mesh.specs.declared.Counts.{Counts}
use Rattle.mesh.specs.declared.Rooms.{Rooms}
use Rattle.mesh.specs.Widths.{point_columns}
use Rattle.elements.specs.Workers.{marked}
use Rattle.work.specs.Working.{Within, Went}
use Rattle.work.specs.Ran.{Ran}
use Rattle.work.proofs.Placed.{ends_in}
use Rattle.marks.proofs.MarkLaws.{marked_one, marks_more}
use Rattle.insert.specs.Shares.{Stands}
use Rattle.insert.specs.Plans.{planned, PlanRoom, PlanIs, InsertableRoom, InsertableIs}
use Rattle.crossing.specs.Bends.{EndsBelow, BendsRoom, BendsMarked}
use Rattle.insert.specs.Steps.{StepRoom, InsertTold}
use Rattle.crossing.specs.Crossings.{CrossingsRoom}
use Rattle.crossing.specs.Crossed.{ran_of, StrapMarks, Crosses, CrossTold, CrossRoom}
use Rattle.insert.specs.declared.plan.Plan.{Plan}
use Rattle.std.specs.Prelude.{Ok, Err}
use Rattle.mesh.specs.declared.refusals.Refusal.{Refusal}
use Rattle.mesh.specs.Refused.{number_of}

-- ---- what the blocks have room for

module _ (L : Rooms) (k : Counts) (points : List Float) (roots ends : List ℕ) (lengths : List Float) (outline log : List ℕ) (lb ls : ℕ) (X : CrossRoom L k points roots ends lengths outline log lb ls) where
  below : (n : ℕ) → k.particles ≤ n → EndsBelow n k.edges ends
  below n h =
      let E = ends_in k points roots X.corners X.volumes ends lengths outline X.ready.indices in
      let few = X.ready.counts.edges in
      let room = X.ready.rooms.ends in
      record {
        rows = omega arith;
        first = λ j l. let b : get_or ends j 0 < k.particles = subst (λ (x : ℕ). x < k.particles) (col_0 0 (length ends / 4) ends j) (E.first j l) in omega arith;
        second = λ j l. let b : get_or ends (length ends / 4 + j) 0 < k.particles = subst (λ (x : ℕ). x < k.particles) (col_1 0 (length ends / 4) ends j) (E.second j l) in omega arith;
      }

  particles_few : k.particles ≤ 1024
  particles_few = let a = X.ready.counts.particles in let b = X.ready.rooms.few_particles in omega arith

  points_long : k.particles ≤ length points / point_columns
  points_long = let a = X.ready.counts.particles in let b = X.ready.rooms.points in omega arith

  -- the blade can be tried on every edge
  pub crossings_room : (ln lt : ℕ) → 2048 ≤ ln → 2048 ≤ lt → CrossingsRoom k.edges (length points) ends ln lt
  crossings_room ln lt hn ht =
      let a = X.ready.counts.edges in
      let b = X.ready.rooms.few_edges in
      record { ends_in = below (length points / point_columns) points_long; numbers_long = omega arith; ts_long = omega arith; few = omega arith }

  pub plan_room : (number : ℕ) → number < k.edges → PlanRoom number k.particles k.edges (length points) ends (length lengths)
  plan_room number h =
      let B = below k.particles (omega arith) in
      let a = X.ready.counts.edges in
      let b = X.ready.rooms.ends in
      let c = X.ready.rooms.lengths in
      record { here = h; room = record { ends = omega arith; lengths = omega arith }; points = points_long; a_in = B.first number h; b_in = B.second number h }

  module _ (plan : Plan) (a_in : plan.row.a < k.particles) (b_in : plan.row.b < k.particles) where
    pub insertable_room : InsertableRoom plan (length points)
    insertable_room = let p = points_long in record { a_in = omega arith; b_in = omega arith }

    pub bends_room : BendsRoom plan.row.a plan.row.b k.edges ends lb
    bends_room =
        let p = particles_few in
        let a = X.ready.counts.edges in
        let b = X.ready.rooms.few_edges in
        let c = X.bends_long in
        record { a_in = omega arith; b_in = omega arith; ends_in = below 1024 p; marks_long = omega arith }

    pub step_room : plan.before ≡ k.particles → plan.number < k.edges → StepRoom plan k L (length points) (length roots) (length ends) (length lengths) (length outline) (length log)
    step_room e h =
        let R = X.ready.rooms in
        record {
          before_is = e;
          here = h;
          a_in = a_in;
          b_in = b_in;
          counts = X.ready.counts;
          few_particles = R.few_particles;
          few_edges = R.few_edges;
          few_log = R.few_log;
          points = R.points;
          roots = R.roots;
          ends = R.ends;
          lengths = R.lengths;
          outline = R.outline;
          log = R.log;
        }

    pub near_few : (t : Float) (x : ℕ) → x ≡ pick (lt t half) plan.row.a plan.row.b → x < 1024
    near_few t x e =
        let p = particles_few in
        let h : pick (lt t half) plan.row.a plan.row.b < k.particles = by (lt t half) in
        omega arith
      where
        by : (t : Bool) → pick t plan.row.a plan.row.b < k.particles
        by true = a_in
        by false = b_in

    pub near_room : (t : Float) (x : ℕ) → x ≡ pick (lt t half) plan.row.a plan.row.b → x < ls
    near_room t x e = let h = near_few t x e in let s = X.snapped_long in omega arith

-- the row of a plan is that of its edge, so the table tells its ends
pub plan_linked : (f : Float) (number : ℕ) (t : Float) (n e : ℕ) (points : List Float) (ends : List ℕ) (lengths : List Float) (table : List ℕ) (plan : Plan) → number < e
    → PlanIs f number t n e points ends lengths plan → EdgesLinked e ends table → StrapLinked plan e ends table
unfolding insertion_of
plan_linked f number t n e points ends lengths table plan h P L =
    let M : Mesh = record { particles = particles_at n points []; triangles = []; edges = edges_at e ends lengths; boundary = [] } in
    let row : edge_of plan.row ≡ row_at ends lengths number = ap (λ (I : Insertion). I.edge) (P.is M [] (record { particles_are = refl; edges_are = refl })) ∙ edges_get e ends lengths number h in
    let own = P.number_is in
    record {
      linked = L;
      a_is = ap (cell 0 (length ends / 4) ends 0) own ∙ sym (ap (λ (x : Edge). x.a) row);
      b_is = ap (cell 0 (length ends / 4) ends 1) own ∙ sym (ap (λ (x : Edge). x.b) row);
    }

-- ---- one crossing

module _ (f : Float) (c : Crossing) (R : Run) (bends snapped : List ℕ) where
  inserted_is : (plan : Plan) → planned plan ≡ insertion_of f R.mesh c → true ≡ insertable f R.mesh c
      → strapping (insert_step (planned plan) R) (bends ++ bends_over R.mesh plan.row.a plan.row.b) snapped ≡ fold (crossed f) (strapping R bends snapped) (c ∷ [])
  unfolding fold crossed inserted_at
  inserted_is plan p h =
      ap (λ (J : Insertion). strapping (insert_step J R) (bends ++ bends_over R.mesh J.edge.a J.edge.b) snapped) p
      ∙ ap (λ (t : Bool). pick t (inserted_at f R bends snapped c) (snapped_at R bends snapped c)) h

  snapped_is : (plan : Plan) (x : ℕ) → planned plan ≡ insertion_of f R.mesh c → false ≡ insertable f R.mesh c → x ≡ pick (lt c.t half) plan.row.a plan.row.b
      → strapping R bends (snapped ++ (x ∷ [])) ≡ fold (crossed f) (strapping R bends snapped) (c ∷ [])
  unfolding fold crossed snapped_at near_end insertion_of
  snapped_is plan x p h e =
      ap (λ (y : ℕ). strapping R bends (snapped ++ (y ∷ []))) (e ∙ ap (λ (J : Insertion). pick (lt c.t half) J.edge.a J.edge.b) p)
      ∙ ap (λ (t : Bool). pick t (inserted_at f R bends snapped c) (snapped_at R bends snapped c)) h

module _ (f : Float) (number : ℕ) (t : Float) (L : Rooms) (k : Counts) (points : List Float) (roots ends : List ℕ) (lengths : List Float) (outline log bends snapped : List ℕ) (plan : Plan) (r : Bool)
    (P : PlanIs f number t k.particles k.edges points ends lengths plan) (T : InsertableIs f t plan points r) where
  abbrev here : Crossing
  here = record { number = number; t = t }

  -- what the blocks hold with these counts
  abbrev world : List ℕ → List Float → Counts → World
  world cs vs = λ q. world_at q points roots cs vs ends lengths outline log

  module _ (corners : List ℕ) (volumes : List Float) (R : Run) (w : world_at k points roots corners volumes ends lengths outline log ≡ world_of R.mesh R.log) where
    there : Stands R.mesh k.particles k.edges points roots ends lengths
    unfolding world_at mesh_at
    there = record { particles_are = ap (λ (W : World). W.mesh.particles) (sym w); edges_are = ap (λ (W : World). W.mesh.edges) (sym w) }

    plan_is : planned plan ≡ insertion_of f R.mesh here
    plan_is = P.is R.mesh roots there

    test_is : r ≡ insertable f R.mesh here
    test_is = T.is R.mesh number k.particles k.edges roots ends lengths there P.a_in P.b_in plan_is

  -- it is inserted
  module _ (points' : List Float) (roots' ends' : List ℕ) (lengths' : List Float) (outline' log' bends' : List ℕ) (ran : Ran) where
    abbrev at : List ℕ → List Float → Counts → World
    at cs vs = λ q. world_at q points' roots' cs vs ends' lengths' outline' log'

    pub cross_inserts : r ≡ true → BendsMarked plan.row.a plan.row.b k.edges ends bends bends'
        → InsertTold plan L k points roots ends lengths outline log points' roots' ends' lengths' outline' log' ran
        → CrossTold f (here ∷ []) L k points roots ends lengths outline log bends snapped points' roots' ends' lengths' outline' log' bends' snapped ran
    cross_inserts y B I = record { crosses = λ cs vs. record { went = went cs vs; marks = marks cs vs } }
      where
        went : (cs : List ℕ) (vs : List Float) (S : Strapping) → world cs vs k ≡ world_of (ran_of S).mesh (ran_of S).log → first_fault (as_rooms L) (ran_of S).needs ≡ 0
            → Went L (ran_of (fold (crossed f) S (here ∷ []))) (at cs vs) ran
        went cs vs (strapping R b s) w z =
            subst (λ (S : Strapping). Went L (ran_of S) (at cs vs) ran) (inserted_is f here R b s plan (plan_is cs vs R w) (sym y ∙ test_is cs vs R w)) ((I.works cs vs).went R w z)

        marks : (cs : List ℕ) (vs : List Float) (S : Strapping) → world cs vs k ≡ world_of (ran_of S).mesh (ran_of S).log → first_fault (as_rooms L) (ran_of S).needs ≡ 0 → StrapMarks S bends snapped
            → (q : Counts) → ran ≡ Ok q → StrapMarks (fold (crossed f) S (here ∷ [])) bends' snapped
        marks cs vs (strapping R b s) w z A q e =
            let over = bends_over R.mesh plan.row.a plan.row.b in
            subst (λ (S : Strapping). StrapMarks S bends' snapped) (inserted_is f here R b s plan (plan_is cs vs R w) (sym y ∙ test_is cs vs R w))
            (record {
              bends_are = λ j.
                  B.over R.mesh lengths (there cs vs R w).edges_are j ∙ ap (λ (x : Bool). x || stands j over) (A.bends_are j) ∙ sym (stands_append j b over);
              snapped_are = A.snapped_are;
            })

  -- or its near end is marked
  pub cross_snaps : r ≡ false → (x : ℕ) → x ≡ pick (lt t half) plan.row.a plan.row.b → x < length snapped → Within k L
      → CrossTold f (here ∷ []) L k points roots ends lengths outline log bends snapped points roots ends lengths outline log bends (set snapped x 1) (Ok k)
  cross_snaps y x n l b = record { crosses = λ cs vs. record { went = went cs vs; marks = marks cs vs } }
    where
      went : (cs : List ℕ) (vs : List Float) (S : Strapping) → world cs vs k ≡ world_of (ran_of S).mesh (ran_of S).log → first_fault (as_rooms L) (ran_of S).needs ≡ 0
          → Went L (ran_of (fold (crossed f) S (here ∷ []))) (world cs vs) (Ok k)
      went cs vs (strapping R bs s) w z =
          subst (λ (S : Strapping). Went L (ran_of S) (world cs vs) (Ok k)) (snapped_is f here R bs s plan x (plan_is cs vs R w) (sym y ∙ test_is cs vs R w) n) (z, b, w)

      marks : (cs : List ℕ) (vs : List Float) (S : Strapping) → world cs vs k ≡ world_of (ran_of S).mesh (ran_of S).log → first_fault (as_rooms L) (ran_of S).needs ≡ 0 → StrapMarks S bends snapped
          → (q : Counts) → ◌≡◌ {A = Ran} (Ok k) (Ok q) → StrapMarks (fold (crossed f) S (here ∷ [])) bends (set snapped x 1)
      marks cs vs (strapping R bs s) w z A q e =
          subst (λ (S : Strapping). StrapMarks S bends (set snapped x 1)) (snapped_is f here R bs s plan x (plan_is cs vs R w) (sym y ∙ test_is cs vs R w) n)
          (record { bends_are = A.bends_are; snapped_are = marks_more s (x ∷ []) snapped (set snapped x 1) (length-set snapped x 1) A.snapped_are (marked_one x snapped l) })

-- ---- one worker behind another

told? : Ran → ℕ
told? (Err c) = 0
told? (Ok k) = 1

refused_done : (c : Refusal) (k : Counts) → Err c ≡ Ok k → ⊥
unfolding told?
refused_done c k e = let z : ◌≡◌ {A = ℕ} 0 1 = ap told? e in omega arith

ran_is : (S : Strapping) → run_of S ≡ ran_of S
unfolding run_of
ran_is (strapping R bends snapped) = refl

module _ (f : Float) (L : Rooms) where
  -- no crossing
  pub crosses_none : {at : Counts → World} {bends snapped : List ℕ} (k : Counts) → Within k L → Crosses f [] L (at k) at bends snapped bends snapped (Ok k)
  unfolding fold
  crosses_none k b = record { went = λ S w z. (z, b, w); marks = λ S w z A q e. A }

  pub crosses_then : {cs ds : List Crossing} {W : World} {at at' : Counts → World} {b s b₁ s₁ b₂ s₂ : List ℕ} {k : Counts} {r : Ran} → Crosses f cs L W at b s b₁ s₁ (Ok k) → Crosses f ds L (at k) at' b₁ s₁ b₂ s₂ r
      → Crosses f (cs ++ ds) L W at' b s b₂ s₂ r
  crosses_then {cs} {ds} {at' = at'} {b₂ = b₂} {s₂ = s₂} {k} {r} F G =
      record {
        went =
            λ S w z.
            let h = F.went S w z in
            subst (λ (T : Strapping). Went L (ran_of T) at' r) (sym (fold_append (crossed f) S cs ds)) (G.went (fold (crossed f) S cs) h.2 h.0);
        marks =
            λ S w z A q e.
            let h = F.went S w z in
            subst (λ (T : Strapping). StrapMarks T b₂ s₂) (sym (fold_append (crossed f) S cs ds)) (G.marks (fold (crossed f) S cs) h.2 h.0 (F.marks S w z A k refl) q e);
      }

  -- what lacks room lacks it whatever comes behind
  pub crosses_refused : {cs : List Crossing} (ds : List Crossing) {W : World} {at : Counts → World} {b s b₁ s₁ : List ℕ} {c : Refusal} → Crosses f cs L W at b s b₁ s₁ (Err c)
      → Crosses f (cs ++ ds) L W at b s b₁ s₁ (Err c)
  crosses_refused {cs} ds {at = at} {c = c} F =
      record {
        went =
            λ S w z.
            let h = F.went S w z in
            subst (λ (T : Strapping). Went L (ran_of T) at (Err c)) (sym (fold_append (crossed f) S cs ds)) (by (number_of c) (fold (crossed f) S cs) h.0 h.1);
        marks = λ S w z A q e. absurd (refused_done c q e);
      }
    where
      by : (c : ℕ) (T : Strapping) → first_fault (as_rooms L) (ran_of T).needs ≡ c → 0 < c → (first_fault (as_rooms L) (ran_of (fold (crossed f) T ds)).needs ≡ c) × (0 < c)
      by zero T e p = absurd (omega arith)
      by (suc n) T e p =
          let d : first_fault (as_rooms L) (run_of T).needs ≡ suc n = ap (λ (R : Run). first_fault (as_rooms L) R.needs) (ran_is T) ∙ e in
          (ap (λ (R : Run). first_fault (as_rooms L) R.needs) (sym (ran_is (fold (crossed f) T ds))) ∙ fault_stays (as_rooms L) (run_of T) (run_of (fold (crossed f) T ds)) n (crossings_onward f T ds) d, p)
