-- Laws of an insertion as one step: which room lacks, and the world behind it. Assumes nothing.
use Prim.Native.Nat.{ℕ, zero, suc, ◌+◌, ◌<◌, ◌≤◌}
use native.Mathlib.Omega.{arith}
use mathlib.Core.Path.{◌≡◌, refl, sym, ap, ap₂, ◌∙◌, subst}
use mathlib.Core.Bool.{true}
use mathlib.Core.List.{List, [], ◌∷◌, ◌++◌, map, map-append}
use lib.ListN.{length, length-append, length-map}
use lib.Dec.{eqb}
use lib.Ieee.{Float, binary32, to_bits}
use borrow.Author.Tests.{ne_eqb, lt-ltb, le-ltb, leb-false, leb-true}
use Rattle.lists.specs.Lists.{pick, map_at_of, each}
use Rattle.lists.proofs.Rows.{length_map_at}
use Rattle.model.specs.Mesh.{Edge, Side, Mesh}
use Rattle.model.specs.Split.{only_at}
use Rattle.model.specs.Run.{insert, Need, Run, step_to}
use Rattle.model.specs.Run as M
use Rattle.model.specs.Calls.{too_small, first_fault}
use Rattle.model.specs.Cut.{Insertion, half_a, half_b, lightened, shortened, appended, inserted_particles, inserted_edges, inserted_sides, inserted_mesh, insert_step}
use Rattle.model_laws.proofs.Steps.{fault_front}
use Rattle.mesh.specs.At.{particles_at, triangles_at, edges_at, boundary_at, mesh_at}
use Rattle.mesh.specs.Log.{World, Words, words_of, log_at, world_of, world_at}
use Rattle.mesh.specs.Given.{as_rooms}
use Rattle.mesh.specs.declared.Counts.{Counts}
use Rattle.mesh.specs.declared.Rooms.{Rooms}
use Rattle.mesh.proofs.Lists.{particles_length, edges_length, log_length, mesh_path, world_path}
use Rattle.work.specs.Rows.{GrownTo}
use Rattle.std.specs.Prelude.{Option, None, Some}
use Rattle.work.specs.Ran.{Ran}
use Rattle.insert.specs.Plans.{planned}
use Rattle.insert.specs.Sides.{SidesInserted}
use Rattle.insert.specs.Inserts.{EdgesInserted, ParticlesInserted}
use Rattle.insert.specs.Steps.{StepRoom, InsertTold}
use Rattle.insert.specs.declared.plan.Plan.{Plan}
use Rattle.std.specs.Prelude.{Ok, Err}
use Rattle.mesh.specs.declared.refusals.Refusal.TheVariants.{Boundary, Edges, Entries, Particles}

-- ---- which room lacks

one_fault : (L : M.Rooms) (N : Need) → first_fault L (N ∷ []) ≡ too_small L N
unfolding first_fault
one_fault L N = by (too_small L N)
  where
    by : (t : ℕ) → pick (eqb t 0) 0 t ≡ t
    by zero = refl
    by (suc t) = rw (ne_eqb (suc t) 0 (λ d. omega arith))

-- one step more, behind a run that has room
pub more_fault : (L : M.Rooms) (l : List Need) (N : Need) → first_fault L l ≡ 0 → first_fault L (l ++ (N ∷ [])) ≡ too_small L N
more_fault L l N e = fault_front L l (N ∷ []) ∙ ap (λ (t : ℕ). pick (eqb t 0) (first_fault L (N ∷ [])) t) e ∙ one_fault L N

module _ (L : M.Rooms) (N : Need) where
  pub lacks_5 : L.particles < N.particles → too_small L N ≡ 5
  unfolding too_small
  lacks_5 a = rw (lt-ltb _ _ a)

  pub lacks_6 : N.particles ≤ L.particles → L.edges < N.edges → too_small L N ≡ 6
  unfolding too_small
  lacks_6 a b = rw (le-ltb _ _ a, lt-ltb _ _ b)

  pub lacks_7 : N.particles ≤ L.particles → N.edges ≤ L.edges → L.boundary < N.boundary → too_small L N ≡ 7
  unfolding too_small
  lacks_7 a b c = rw (le-ltb _ _ a, le-ltb _ _ b, lt-ltb _ _ c)

  pub lacks_8 : N.particles ≤ L.particles → N.edges ≤ L.edges → N.boundary ≤ L.boundary → L.log < N.log → too_small L N ≡ 8
  unfolding too_small
  lacks_8 a b c d = rw (le-ltb _ _ a, le-ltb _ _ b, le-ltb _ _ c, lt-ltb _ _ d)

  pub lacks_none : N.particles ≤ L.particles → N.edges ≤ L.edges → N.boundary ≤ L.boundary → N.log ≤ L.log → too_small L N ≡ 0
  unfolding too_small
  lacks_none a b c d = rw (le-ltb _ _ a, le-ltb _ _ b, le-ltb _ _ c, le-ltb _ _ d)

-- ---- what the step needs

particles_need : (I : Insertion) (X : Mesh) → length (inserted_particles I X) ≡ length X.particles + 2
unfolding inserted_particles
particles_need I X =
    let inner = map_at_of (only_at I.edge.a (lightened I.share_a (half_a I))) X.particles in
    length-append (map_at_of (only_at I.edge.b (lightened I.share_b (half_b I))) inner) _
    ∙ ap (λ (n : ℕ). n + 2) (length_map_at (only_at I.edge.b (lightened I.share_b (half_b I))) inner ∙ length_map_at (only_at I.edge.a (lightened I.share_a (half_a I))) X.particles)

pub edges_need : (I : Insertion) (es : List Edge) → length (inserted_edges I es) ≡ length es + 1
unfolding inserted_edges
edges_need I es = length-append (map_at_of _ es) _ ∙ ap (λ (n : ℕ). n + 1) (length_map_at _ es)

-- the need of the step
abbrev need_by : Insertion → Run → Need
need_by I R =
    record { particles = length (inserted_particles I R.mesh); edges = length (inserted_edges I R.mesh.edges); boundary = length (inserted_sides I R.mesh.boundary); log = length (R.log ++ (insert I.edge.a I.edge.b I.before (I.before + 1) I.t ∷ [])) }

step_fault : (L : M.Rooms) (I : Insertion) (R : Run) → first_fault L R.needs ≡ 0 → first_fault L (insert_step I R).needs ≡ too_small L (need_by I R)
unfolding insert_step step_to inserted_mesh
step_fault L I R e = more_fault L R.needs (need_by I R) e

-- ---- the lists of the run

module _ (plan : Plan) (L : Rooms) (k : Counts) (points : List Float) (roots ends : List ℕ) (lengths : List Float) (outline log : List ℕ)
    (S : StepRoom plan k L (length points) (length roots) (length ends) (length lengths) (length outline) (length log)) where
  abbrev I : Insertion
  I = planned plan

  module _ (corners : List ℕ) (volumes : List Float) (R : Run) (w : world_at k points roots corners volumes ends lengths outline log ≡ world_of R.mesh R.log) where
    particles_are : particles_at k.particles points roots ≡ R.mesh.particles
    unfolding world_at mesh_at
    particles_are = ap (λ (W : World). W.mesh.particles) w

    triangles_are : triangles_at k.triangles corners volumes ≡ R.mesh.triangles
    unfolding world_at mesh_at
    triangles_are = ap (λ (W : World). W.mesh.triangles) w

    edges_are : edges_at k.edges ends lengths ≡ R.mesh.edges
    unfolding world_at mesh_at
    edges_are = ap (λ (W : World). W.mesh.edges) w

    boundary_are : boundary_at k.boundary outline ≡ R.mesh.boundary
    unfolding world_at mesh_at
    boundary_are = ap (λ (W : World). W.mesh.boundary) w

    log_are : log_at k.log log ≡ map words_of R.log
    unfolding world_at
    log_are = ap (λ (W : World). W.log) w

    need_particles : (need_by I R).particles ≡ plan.before + 2
    need_particles = particles_need I R.mesh ∙ ap (λ (n : ℕ). n + 2) (ap length (sym particles_are) ∙ particles_length k.particles points roots ∙ sym S.before_is)

    need_edges : (need_by I R).edges ≡ k.edges + 1
    need_edges = edges_need I R.mesh.edges ∙ ap (λ (n : ℕ). n + 1) (ap length (sym edges_are) ∙ edges_length k.edges ends lengths)

    need_log : (need_by I R).log ≡ k.log + 1
    need_log = length-append R.log _ ∙ ap (λ (n : ℕ). n + 1) (sym (length-map R.log words_of) ∙ ap length (sym log_are) ∙ log_length k.log log)

    sides_are : inserted_sides I R.mesh.boundary
        ≡ map (shortened plan.row.a plan.row.b plan.before (plan.before + 1)) (boundary_at k.boundary outline) ++ each (appended plan.row.a plan.row.b plan.before (plan.before + 1)) (boundary_at k.boundary outline)
    unfolding inserted_sides
    sides_are =
        ap (λ (l : List Side). map (shortened plan.row.a plan.row.b plan.before (plan.before + 1)) l ++ each (appended plan.row.a plan.row.b plan.before (plan.before + 1)) l) (sym boundary_are)

  -- the boundary behind the insertion
  abbrev new_sides : List Side
  new_sides = map (shortened plan.row.a plan.row.b plan.before (plan.before + 1)) (boundary_at k.boundary outline) ++ each (appended plan.row.a plan.row.b plan.before (plan.before + 1)) (boundary_at k.boundary outline)

  module _ (points' : List Float) (roots' ends' : List ℕ) (lengths' : List Float) (outline' log' : List ℕ) where
    abbrev Told : Ran → Type 0
    Told r = InsertTold plan L k points roots ends lengths outline log points' roots' ends' lengths' outline' log' r

    pub told_5 : L.particles < plan.before + 2 → Told (Err Particles)
    told_5 h =
        record {
          works = λ cs vs. record {
            went = λ R w f. (step_fault (as_rooms L) I R f ∙ lacks_5 (as_rooms L) (need_by I R) (omega (arith, need_particles cs vs R w)), omega arith);
          };
        }

    module _ (a : plan.before + 2 ≤ L.particles) where
      pub told_6 : L.edges < k.edges + 1 → Told (Err Edges)
      told_6 h =
          record {
            works = λ cs vs. record {
              went = λ R w f. (step_fault (as_rooms L) I R f ∙ lacks_6 (as_rooms L) (need_by I R) (omega (arith, need_particles cs vs R w)) (omega (arith, need_edges cs vs R w)), omega arith);
            };
          }

      module _ (b : k.edges + 1 ≤ L.edges) (r : Option ℕ) (G : SidesInserted plan.row.a plan.row.b plan.before (plan.before + 1) k.boundary L.boundary outline outline' r) where
        pub told_7 : r ≡ None → Told (Err Boundary)
        told_7 e =
            record {
              works = λ cs vs. record {
                went =
                    λ R w f.
                    let low = leb-false (length new_sides) L.boundary (subst (λ (z : Option ℕ). GrownTo z L.boundary new_sides (λ m. boundary_at m outline')) e G.sides) in
                    let is = ap length (sides_are cs vs R w) in (
                      step_fault (as_rooms L) I R f
                          ∙ lacks_7 (as_rooms L) (need_by I R) (omega (arith, need_particles cs vs R w)) (omega (arith, need_edges cs vs R w)) (omega (arith, low, is)),
                      omega arith,
                    );
              };
            }

        module _ (rows : ℕ) (e : r ≡ Some rows) where
          grew : GrownTo (Some rows) L.boundary new_sides (λ m. boundary_at m outline')
          grew = subst (λ (z : Option ℕ). GrownTo z L.boundary new_sides (λ m. boundary_at m outline')) e G.sides

          pub told_8 : L.log < k.log + 1 → Told (Err Entries)
          told_8 h =
              record {
                works = λ cs vs. record {
                  went =
                      λ R w f.
                      let low = leb-true (length new_sides) L.boundary grew.0 in
                      let is = ap length (sides_are cs vs R w) in (
                        step_fault (as_rooms L) I R f
                            ∙ lacks_8 (as_rooms L) (need_by I R) (omega (arith, need_particles cs vs R w)) (omega (arith, need_edges cs vs R w)) (omega (arith, low, is)) (omega (arith, need_log cs vs R w)),
                        omega arith,
                      );
                };
              }

          pub told_done : k.log + 1 ≤ L.log → (t : ℕ) → t ≡ to_bits binary32 plan.at → ParticlesInserted plan points points' roots roots' → EdgesInserted plan k.edges ends ends' lengths lengths'
              → log_at (k.log + 1) log' ≡ log_at k.log log ++ (record { kind = 3; a = plan.row.a; b = plan.row.b; p = plan.before; q = plan.before + 1; t = t } ∷ [])
              → Told (Ok (record { particles = plan.before + 2; triangles = k.triangles; edges = k.edges + 1; boundary = rows; log = k.log + 1 }))
          unfolding world_at mesh_at insert_step step_to inserted_mesh
          told_done h t bits P E N =
              record {
                works = λ cs vs. record {
                  went =
                      λ R w f.
                      let low = leb-true (length new_sides) L.boundary grew.0 in
                      let is = ap length (sides_are cs vs R w) in
                      let many = grew.1 in
                      let tri = S.counts.triangles in (
                        step_fault (as_rooms L) I R f
                            ∙ lacks_none (as_rooms L) (need_by I R) (omega (arith, need_particles cs vs R w)) (omega (arith, need_edges cs vs R w)) (omega (arith, low, is)) (omega (arith, need_log cs vs R w)),
                        record { particles = a; triangles = tri; edges = b; boundary = omega (arith, low, many); log = h },
                        world_path
                            (mesh_path (P.particles R.mesh (sym (particles_are cs vs R w) ∙ ap (λ (n : ℕ). particles_at n points roots) (sym S.before_is))) (triangles_are cs vs R w)
                            (E.edges ∙ ap (inserted_edges I) (edges_are cs vs R w)) (grew.2 ∙ sym (sides_are cs vs R w)))
                            (N
                            ∙ ap₂ (λ (l : List Words) (z : ℕ). l ++ (record { kind = 3; a = plan.row.a; b = plan.row.b; p = plan.before; q = plan.before + 1; t = z } ∷ [])) (log_are cs vs R w) bits
                            ∙ sym (map-append words_of R.log (insert plan.row.a plan.row.b plan.before (plan.before + 1) plan.at ∷ []))),
                      );
                };
              }
