-- Laws of an insertion: its edges and its particles. Assumes nothing.
use Prim.Native.Nat.{ℕ, ◌+◌, ◌*◌, ◌/◌, ◌<◌}
use native.Mathlib.Omega.{arith}
use mathlib.Core.Path.{◌≡◌, sym, ap, ap₂, ◌∙◌}
use mathlib.Core.List.{List, [], ◌∷◌, ◌++◌, append_assoc}
use lib.ListN.{length, get_or, set}
use lib.Ieee.{Float, nan, ne}
use Rattle.lists.specs.Lists.{pick, map_at_of}
use Rattle.lists.proofs.Stores.{tab_at}
use Rattle.float.specs.Numbers.{minus, zero32, inv_of}
use Rattle.blade.specs.declared.Point.{Point}
use Rattle.blade.specs.Points.{lerp_of}
use Rattle.columns.specs.Block.{cell}
use Rattle.model.specs.Mesh.{Particle, Edge, Mesh, blank}
use Rattle.model.specs.Elements.{particle, place_of, rest_of, velocity_of}
use Rattle.model.specs.Split.{weighed, only_at}
use Rattle.model.specs.Cut.{half_a, half_b, left_over, lightened, between, half_of, inserted_particles, inserted_edges}
use Rattle.mesh.specs.At.{particle_row, particles_at, edges_at}
use Rattle.mesh.specs.Workers.{edge_of}
use Rattle.mesh.specs.declared.EdgeRow.{EdgeRow}
use Rattle.mesh.proofs.Lists.{particles_length}
use Rattle.mesh.specs.Widths.{point_columns}
use Rattle.split_plan.specs.Opened.{place_in, rest_in}
use Rattle.copies.proofs.ParticleLaws.{weighed_by, mass_read, only_same}
use Rattle.work.proofs.Grows.{edges_many}
use Rattle.insert.specs.Plans.{planned}
use Rattle.insert.specs.Inserts.{EdgeStored, EdgesRoom, EdgesInserted, velocity_in, Lightened, particle_of, BetweenIs, ParticlesRoom, ParticlesInserted}
use Rattle.insert.specs.declared.plan.Plan.{Plan}
use Rattle.insert.specs.declared.particles.ParticleRow.{ParticleRow}
use Rattle.insert.proofs.PlanLaws.{inverse_read}
use Rattle.insert.proofs.StoreLaws.{set_only}

-- ---- edges

pub edges_inserted :
    (plan : Plan) (e : ℕ) (ends ends₁ ends₂ : List ℕ) (lengths lengths₁ lengths₂ : List Float) (first second : EdgeRow) → EdgesRoom plan e (length ends) (length lengths)
    → edge_of first ≡ half_of (edge_of plan.row) plan.row.a plan.before plan.at → edge_of second ≡ half_of (edge_of plan.row) (plan.before + 1) plan.row.b (left_over (planned plan))
    → EdgeStored plan.number (edge_of first) ends ends₁ lengths lengths₁ → edges_at (e + 1) ends₂ lengths₂ ≡ edges_at e ends₁ lengths₁ ++ (edge_of second ∷ [])
    → EdgesInserted plan e ends ends₂ lengths lengths₂
unfolding inserted_edges
edges_inserted plan e ends ends₁ ends₂ lengths lengths₁ lengths₂ first second R f s S A =
    let re = R.room.ends in
    let rl = R.room.lengths in
    let E = edges_at e ends lengths in
    let here : plan.number < length E = omega (arith, R.here, edges_many e ends lengths) in
    record {
      edges =
          A
          ∙ ap₂ (λ (l : List Edge) (x : Edge). l ++ (x ∷ []))
          (S.edges e (omega arith) (omega arith) ∙ ap (set E plan.number) f ∙ set_only plan.number (half_of (edge_of plan.row) plan.row.a plan.before plan.at) E here) s;
    }

-- ---- an end is lightened

pub lighten_is : (v : ℕ) (share keeps m w : Float) (S : List Float) → v < length S / point_columns → m ≡ minus (get_or S (4 * (length S / point_columns) + v) nan) (minus share keeps)
    → w ≡ pick (ne (get_or S (5 * (length S / point_columns) + v) nan) zero32) (inv_of m) (get_or S (5 * (length S / point_columns) + v) nan)
    → Lightened v share keeps S (set (set S (4 * (length S / point_columns) + v) m) (5 * (length S / point_columns) + v) w)
unfolding lightened
lighten_is v share keeps m w S here em ew =
    record {
      particles =
          λ n roots h l.
          let q = get_or (particles_at n S roots) v blank in
          let X = get_or S (4 * (length S / point_columns) + v) nan in
          let Y = get_or S (5 * (length S / point_columns) + v) nan in
          let own : weighed m w q ≡ weighed (minus X (minus share keeps)) (pick (ne Y zero32) (inv_of (minus X (minus share keeps))) Y) q =
          ap₂ (λ (a b : Float). weighed a b q) em (ew ∙ ap (λ (z : Float). pick (ne Y zero32) (inv_of z) Y) em) in
          (weighed_by v m w S here).particles n roots l
          ∙ only_same (weighed m w) (lightened share keeps) v (particles_at n S roots) blank (omega (arith, particles_length n S roots))
          (own
          ∙ ap₂ (λ (x y : Float). weighed (minus x (minus share keeps)) (pick (ne y zero32) (inv_of (minus x (minus share keeps))) y) q) (mass_read v n S roots h) (inverse_read v n S roots h));
    }

-- ---- a new particle

module _ (M : Mesh) (k : ℕ) (points : List Float) (roots : List ℕ) (q : M.particles ≡ particles_at k points roots) (w : ℕ) (h : w < k) where
  -- particle w of the mesh is row w of the blocks
  pub row_is : particle M w ≡ particle_row (length points / point_columns) (length roots / 2) points roots w
  unfolding particles_at
  row_is = ap (λ (l : List Particle). get_or l w blank) q ∙ tab_at k (particle_row (length points / point_columns) (length roots / 2) points roots) w blank h

  pub place_is : place_in points w ≡ place_of M w
  unfolding place_of
  place_is = ap (λ (p : Particle). record { x = p.x; y = p.y }) (sym row_is)

  pub rest_is : rest_in points w ≡ rest_of M w
  unfolding rest_of
  rest_is = ap (λ (p : Particle). record { x = p.rest_x; y = p.rest_y }) (sym row_is)

  pub velocity_is : velocity_in points w ≡ velocity_of M w
  velocity_is = ap (λ (p : Particle). record { x = p.velocity_x; y = p.velocity_y }) (sym row_is)

-- the damaged flag of w, as the program reads it
pub damaged_read : (w n : ℕ) (points : List Float) (roots : List ℕ) (M : Mesh) → M.particles ≡ particles_at n points roots → w < n → get_or roots (length roots / 2 + w) 0 ≡ (particle M w).damaged
unfolding cell
damaged_read w n points roots M q h =
    let e : 1 * (length roots / 2) + w ≡ length roots / 2 + w = omega arith in
    ap (λ (j : ℕ). get_or roots j 0) (sym e) ∙ ap (λ (p : Particle). p.damaged) (sym (row_is M n points roots q w h))

pub between_is : (plan : Plan) (m : Float) (n damaged : ℕ) (points : List Float) (at rest velocity : Point) (w : Float)
    → at ≡ lerp_of (place_in points plan.row.a) (place_in points plan.row.b) plan.at → rest ≡ lerp_of (rest_in points plan.row.a) (rest_in points plan.row.b) plan.at
    → velocity ≡ lerp_of (velocity_in points plan.row.a) (velocity_in points plan.row.b) plan.at → w ≡ inv_of m
    → BetweenIs plan m n damaged points (record { at = at; rest = rest; mass = m; inverse = w; velocity = velocity; root = n; damaged = damaged })
unfolding between
between_is plan m n damaged points at rest velocity w x r s v =
    record {
      is =
          λ M k roots like q a b d.
          let X = x ∙ ap₂ (λ (f g : Point). lerp_of f g plan.at) (place_is M k points roots q plan.row.a a) (place_is M k points roots q plan.row.b b) in
          let Y = r ∙ ap₂ (λ (f g : Point). lerp_of f g plan.at) (rest_is M k points roots q plan.row.a a) (rest_is M k points roots q plan.row.b b) in
          let Z = s ∙ ap₂ (λ (f g : Point). lerp_of f g plan.at) (velocity_is M k points roots q plan.row.a a) (velocity_is M k points roots q plan.row.b b) in
          λ i. record { x = (X i).x; y = (X i).y; rest_x = (Y i).x; rest_y = (Y i).y; mass = m; inv = v i; velocity_x = (Z i).x; velocity_y = (Z i).y; root = n; damaged = d i };
    }

-- ---- all of them

pub particles_inserted :
    (plan : Plan) (P P₁ P₂ P₃ P₄ : List Float) (R R₃ R₄ : List ℕ) (p q : ParticleRow) (first second : Float) (u v : ℕ) → ParticlesRoom plan (length P) (length R)
    → first ≡ half_a (planned plan) → second ≡ half_b (planned plan) → u ≡ get_or R (length R / 2 + plan.row.a) 0 → v ≡ get_or R (length R / 2 + plan.row.b) 0
    → BetweenIs plan first plan.before u P p → BetweenIs plan second (plan.before + 1) v P q → Lightened plan.row.a plan.first first P P₁ → Lightened plan.row.b plan.second second P₁ P₂
    → length P₁ ≡ length P → particles_at (plan.before + 1) P₃ R₃ ≡ particles_at plan.before P₂ R ++ (particle_of p ∷ [])
    → particles_at (plan.before + 1 + 1) P₄ R₄ ≡ particles_at (plan.before + 1) P₃ R₃ ++ (particle_of q ∷ []) → ParticlesInserted plan P P₄ R R₄
unfolding inserted_particles
particles_inserted plan P P₁ P₂ P₃ P₄ R R₃ R₄ p q first second u v room ea eb eu ev Bp Bq La Lb long₁ A₁ A₂ =
    let n = plan.before in
    let fits = room.room.points in
    record {
      particles =
          λ M e.
          let two : n + 2 ≡ n + 1 + 1 = omega arith in
          let one_is : particle_of p ≡ between M (planned plan) (half_a (planned plan)) n (particle M plan.row.a) =
          Bp.is M n R (particle M plan.row.a) e room.a_in room.b_in (eu ∙ damaged_read plan.row.a n P R M e room.a_in)
          ∙ ap (λ (m : Float). between M (planned plan) m n (particle M plan.row.a)) ea in
          let two_is : particle_of q ≡ between M (planned plan) (half_b (planned plan)) (n + 1) (particle M plan.row.b) =
          Bq.is M n R (particle M plan.row.b) e room.a_in room.b_in (ev ∙ damaged_read plan.row.b n P R M e room.b_in)
          ∙ ap (λ (m : Float). between M (planned plan) m (n + 1) (particle M plan.row.b)) eb in
          let light : particles_at n P₂ R ≡ map_at_of (only_at plan.row.b (lightened plan.second (half_b (planned plan)))) (map_at_of (only_at plan.row.a (lightened plan.first (half_a (planned plan)))) M.particles) =
          Lb.particles n R room.b_in (rw long₁ (omega arith))
          ∙ ap₂ (λ (m : Float) (l : List Particle). map_at_of (only_at plan.row.b (lightened plan.second m)) l) eb
          (La.particles n R room.a_in (omega arith)
          ∙ ap₂ (λ (m : Float) (l : List Particle). map_at_of (only_at plan.row.a (lightened plan.first m)) l) ea (sym e)) in
          ap (λ (k : ℕ). particles_at k P₄ R₄) two ∙ A₂ ∙ ap (λ (l : List Particle). l ++ (particle_of q ∷ [])) A₁
          ∙ append_assoc (particles_at n P₂ R) (particle_of p ∷ []) (particle_of q ∷ [])
          ∙ ap₂ (λ (l t : List Particle). l ++ t) light (ap₂ (λ (x y : Particle). x ∷ y ∷ []) one_is two_is);
    }
