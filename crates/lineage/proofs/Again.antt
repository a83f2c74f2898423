-- What a call on triangles gives is accepted again: its numbers are in range, and it is no longer than the rooms. `accepted_again` says so of each call. Assumes nothing.
use mathlib.Core.Path.{◌≡◌, refl, sym, ◌∙◌, ap, subst}
use mathlib.Core.Bool.{Bool, true, false, not, ◌&&◌, cond}
use mathlib.Core.List.{List, [], ◌∷◌, ◌++◌, map}
use Prim.Native.Nat.{ℕ, suc, ◌-◌, ◌<◌, ◌≤◌}
use native.Mathlib.Omega.{arith}
use native.Mathlib.Nat.{le_trans, le_of_eq}
use native.Mathlib.Decide.{ℕ_discrete}
use borrow.Author.Tests.{leb-true, ltb-false, eq-eqb, ne_eqb}
use lib.IntN.{pos}
use lib.Dec.{T, eqb, ltb}
use lib.ListN.{length, get_or, length-map}
use lib.Ieee.{Float, binary32, fits, le, neg}
use lib.Ieee.Fits.{div-fits}
use Rattle.lists.specs.Lists.{pick, stands, all, map_at_of, each, up_to, rest}
use Rattle.lists.proofs.Sifts.{sift_length, and_true}
use Rattle.float.specs.Numbers.{zero32, one, tiny, over, abs_of, inv_of}
use Rattle.float.specs.Ranges.{finite?, number?, volume?, not_below0?}
use Rattle.float.proofs.Limits.{limit_finite}
use Rattle.model.specs.Mesh.{Particle, Triangle, Edge, Side, Mesh, changed_to, blank}
use Rattle.model.specs.Valid.{flag?, particle_ok, triangle_ok, edge_ok, numbers_fit_of, indices_fit_of}
use Rattle.model.specs.Elements.{Triangles, kind_of, elements_of, far_end_of, ends_of, fan_of}
use Rattle.model.specs.Run.{Entry, Need, Rooms, Run, start, step_to}
use Rattle.model.specs.Split.{Opening, opening_of, splits?, made, weighed, mass_of, portion, only_at, copied, group_at_of, copy_of, retargeted, moved, rewired_triangles, rewired_straps, edge_groups, other?, calm, stayed, doubled, other_edges, straddles, at_longest, settled, split_made, split_by_sides_of}
use Rattle.model.specs.Pieces.{across?, spread, body_labels, without_straddlers, straddlers_gone, remove_straddlers_of}
use Rattle.model.specs.Cut.{slack, slackened, marked_by, cut}
use Rattle.model.specs.Crack.{hurt, damaged_at, bridges, torn, crack}
use Rattle.model.specs.Calls.{blade_ok, fraction_ok, sides_ok, triangles_lent, known, blade_of, cut_refusal, too_small, first_fault, outcome, cut_call, crack_call, split_call, straddlers_call}
use Rattle.model.specs.Trace.{All, Sound}
use Rattle.model_laws.proofs.Traced.{splits_here}
use Rattle.model_laws.proofs.Steps.{fault_front}
use Rattle.model_laws.proofs.Kept.{accepted_sound, unless_done, no_refusal, cut_no_refusal, Passed}
use Rattle.model_laws.proofs.Accepted.{accepted_indexed, indexed_accepted, cut_accepted, crack_accepted, split_accepted, straddlers_accepted}
use Rattle.model_laws.proofs.Indexed.{Indexed, Ends, Sides}
use Rattle.model_laws.proofs.Rows.{Pair}
use Rattle.model_laws.proofs.Laws.{both, pick_both, all_in, all_over, all_append, all_map, all_map_at, all_each_of, all_sift, all_below, all_from, all_to, all_yes, length_map_at}
use Rattle.lineage.specs.History.{Particle32, Triangle32, Edge32, Stored, Called, cutting, cracking, splitting, removing, Moved, History, first, calling, moving, HostStores, Accepted, Again}
use Rattle.lineage.proofs.Induction.{Sided, Behind, nothing_more, tearing, Kept}
use Rattle.lineage.proofs.Grown.{Grown, Growing, growing_start, growing_kept}
use Rattle.lineage.proofs.Histories.{kind_of_lem, called_run, line_of_lem}
use Rattle.lineage.proofs.Moves.{as_many, all_column, sound_moved}
use Rattle.lineage.proofs.Sums.{inverse_finite}
use Rattle.lineage.proofs.Masses.{VolumeOk, mass_ok}

-- ---- a mesh whose numbers are in range and stored

-- a particle, a triangle, an edge whose numbers are in range, and each one that f32 holds
abbrev FineParticle : Particle → Type 0
FineParticle p = (particle_ok p ≡ true) × Particle32 p

abbrev FineTriangle : Triangle → Type 0
FineTriangle t = (triangle_ok t ≡ true) × Triangle32 t

abbrev FineEdge : Edge → Type 0
FineEdge e = (edge_ok e ≡ true) × Edge32 e

-- all of a mesh, of at most 1,024 triangles
pub record Fine (M : Mesh) : Type 0 where
  pub particles : All FineParticle M.particles
  pub triangles : All FineTriangle M.triangles
  pub edges : All FineEdge M.edges
  pub few : length M.triangles ≤ 1024

-- two facts on each element
all_both : {A : Type 0} (P Q : A → Type 0) (l : List A) → All P l → All Q l → All (λ a. P a × Q a) l
all_both P Q [] h u = tt
all_both P Q (a ∷ l) h u = ((h.0, u.0), all_both P Q l h.1 u.1)

fine_of : (M : Mesh) → numbers_fit_of M ≡ true → Stored M → length M.triangles ≤ 1024 → Fine M
unfolding numbers_fit_of
fine_of M e S few =
    let p = and_true (all particle_ok M.particles && all triangle_ok M.triangles) (all edge_ok M.edges) e in
    let q = and_true (all particle_ok M.particles) (all triangle_ok M.triangles) p.0 in
    record {
      particles = all_both (λ (x : Particle). particle_ok x ≡ true) Particle32 M.particles (all_from particle_ok (λ (x : Particle). particle_ok x ≡ true) (λ x u. u) M.particles q.0) S.particles;
      triangles = all_both (λ (x : Triangle). triangle_ok x ≡ true) Triangle32 M.triangles (all_from triangle_ok (λ (x : Triangle). triangle_ok x ≡ true) (λ x u. u) M.triangles q.1) S.triangles;
      edges = all_both (λ (x : Edge). edge_ok x ≡ true) Edge32 M.edges (all_from edge_ok (λ (x : Edge). edge_ok x ≡ true) (λ x u. u) M.edges p.1) S.edges;
      few = few;
    }

of_fine : (M : Mesh) → Fine M → (numbers_fit_of M ≡ true) × Stored M
unfolding numbers_fit_of
of_fine M F = (
  both (all particle_ok M.particles && all triangle_ok M.triangles) (all edge_ok M.edges)
      (both (all particle_ok M.particles) (all triangle_ok M.triangles) (all_to particle_ok FineParticle (λ x u. u.0) M.particles F.particles) (all_to triangle_ok FineTriangle (λ x u. u.0) M.triangles F.triangles))
      (all_to edge_ok FineEdge (λ x u. u.0) M.edges F.edges),
  record {
    particles = all_over FineParticle Particle32 (λ x u. u.1) M.particles F.particles;
    triangles = all_over FineTriangle Triangle32 (λ x u. u.1) M.triangles F.triangles;
    edges = all_over FineEdge Edge32 (λ x u. u.1) M.edges F.edges;
  },
)

-- ---- particles

-- the tests of a particle: those in front of the mass, which no operation changes, are one
pub record Tests (p : Particle) : Type 0 where
  pub places : (number? p.x && number? p.y && number? p.rest_x && number? p.rest_y) ≡ true
  pub mass : number? p.mass ≡ true
  pub inv : finite? p.inv ≡ true
  pub velocity_x : number? p.velocity_x ≡ true
  pub velocity_y : number? p.velocity_y ≡ true
  pub damaged : flag? p.damaged ≡ true

pub tests : (p : Particle) → particle_ok p ≡ true → Tests p
unfolding particle_ok
tests p e =
    let a = and_true _ (flag? p.damaged) e in
    let b = and_true _ (number? p.velocity_y) a.0 in
    let c = and_true _ (number? p.velocity_x) b.0 in
    let d = and_true _ (finite? p.inv) c.0 in
    let f = and_true _ (number? p.mass) d.0 in
    record { places = f.0; mass = f.1; inv = d.1; velocity_x = c.1; velocity_y = b.1; damaged = a.1 }

-- a particle whose mass, inverse mass and damaged flag pass is accepted with them
changed_ok : (p : Particle) (m w : Float) (d : ℕ) → particle_ok p ≡ true → number? m ≡ true → finite? w ≡ true → flag? d ≡ true → particle_ok (changed_to m w d p) ≡ true
unfolding particle_ok
changed_ok p m w d e n f g =
    let S = tests p e in
    both _ (flag? d) (both _ (number? p.velocity_y) (both _ (number? p.velocity_x) (both _ (finite? w) (both _ (number? m) S.places n) f) S.velocity_x) S.velocity_y) g

weighed_ok : (p : Particle) (m w : Float) → particle_ok p ≡ true → number? m ≡ true → finite? w ≡ true → particle_ok (weighed m w p) ≡ true
weighed_ok p m w e n f = changed_ok p m w p.damaged e n f (tests p e).damaged

hurt_ok : (p : Particle) → particle_ok p ≡ true → particle_ok (hurt p) ≡ true
hurt_ok p e = let S = tests p e in changed_ok p p.mass p.inv 1 e S.mass S.inv refl

-- the same of numbers that f32 holds
changed_32 : (p : Particle) (m w : Float) (d : ℕ) → Particle32 p → T (fits binary32 m) → T (fits binary32 w) → Particle32 (changed_to m w d p)
changed_32 p m w d h n i = record { x = h.x; y = h.y; rest_x = h.rest_x; rest_y = h.rest_y; mass = n; inv = i; velocity_x = h.velocity_x; velocity_y = h.velocity_y }

zero_32 : T (fits binary32 zero32)
unfolding fits
zero_32 = tt

inverse_fits : (x : Float) → T (fits binary32 (inv_of x))
unfolding inv_of
inverse_fits x = by (le (neg tiny) x && le x tiny)
  where
    by : (b : Bool) → T (fits binary32 (cond b zero32 (over one x)))
    by true = zero_32
    by false = div-fits binary32 one x

-- ---- edges

zero_number : number? zero32 ≡ true
unfolding number? abs_of le
zero_number = refl

-- an edge with another impulse and stress
abbrev loaded : Edge → Float → Float → Edge
loaded e i s = record { a = e.a; b = e.b; structural = e.structural; torn = e.torn; rest = e.rest; initial = e.initial; impulse = i; stress = s }

loaded_ok : (e : Edge) (i s : Float) → edge_ok e ≡ true → number? i ≡ true → number? s ≡ true → edge_ok (loaded e i s) ≡ true
unfolding edge_ok
loaded_ok e i s h n m =
    let front = flag? e.structural && flag? e.torn && number? e.rest && number? e.initial && not_below0? e.rest && not_below0? e.initial in
    let p = and_true (front && number? e.impulse) (number? e.stress) h in
    both (front && number? i) (number? s) (both front (number? i) (and_true front (number? e.impulse) p.0).0 n) m

stress_number : (e : Edge) → edge_ok e ≡ true → number? e.stress ≡ true
unfolding edge_ok
stress_number e h =
    (and_true (flag? e.structural && flag? e.torn && number? e.rest && number? e.initial && not_below0? e.rest && not_below0? e.initial && number? e.impulse) (number? e.stress) h).1

loaded_32 : (e : Edge) (i s : Float) → Edge32 e → T (fits binary32 i) → T (fits binary32 s) → Edge32 (loaded e i s)
loaded_32 e i s h n m = record { rest = h.rest; initial = h.initial; impulse = n; stress = m }

moved_ok : (v w : ℕ) (e : Edge) → FineEdge e → FineEdge (moved v w e)
unfolding edge_ok
moved_ok v w e h = (h.0, record { rest = h.1.rest; initial = h.1.initial; impulse = h.1.impulse; stress = h.1.stress })

turned_ok : (v w : ℕ) (t : Triangle) → FineTriangle t → FineTriangle (retargeted v w t)
unfolding triangle_ok
turned_ok v w t h = (h.0, record { volume = h.1.volume; stress = h.1.stress })

-- ---- one split

module _ (M : Mesh) (F : Fine M) (v : ℕ) (sides : List ℕ) (every : length sides ≡ length (fan_of Triangles M v)) (yes? : splits? (opening_of Triangles M v sides) M ≡ true) where
  O : Opening
  O = opening_of Triangles M v sides

  volumes : All VolumeOk M.triangles
  unfolding triangle_ok
  volumes = all_over FineTriangle VolumeOk (λ t u. (u.1.volume, (and_true (volume? t.volume) (number? t.stress) u.0).0)) M.triangles F.triangles

  portion_fine : (g : ℕ) → g < O.count → (p : Particle) → FineParticle p → FineParticle (portion O g p)
  unfolding portion O number?
  portion_fine g l p u =
      let m = mass_ok M F.few volumes v sides every p.mass u.1.mass (tests p u.0).mass g l in (
        weighed_ok p (mass_of O p.mass g) (inv_of (mass_of O p.mass g)) u.0 m.0 (inverse_finite (mass_of O p.mass g) m.1 (limit_finite (mass_of O p.mass g) 1 (pos 20) m.0)),
        changed_32 p (mass_of O p.mass g) (inv_of (mass_of O p.mass g)) p.damaged u.1 m.1 (inverse_fits (mass_of O p.mass g)),
      )

  two : 2 ≤ O.count
  unfolding O
  two = (splits_here (opening_of Triangles M v sides) M yes?).0

  low : O.v < length M.particles
  unfolding O
  low = (splits_here (opening_of Triangles M v sides) M yes?).1

  copied_fine : All FineParticle (copied O M.particles)
  unfolding copied up_to
  copied_fine =
      let c = two in
      all_append FineParticle (map_at_of (only_at O.v (portion O 0)) M.particles) (map (λ g. portion O (suc g) (get_or M.particles O.v blank)) (up_to (O.count - 1)))
      (all_map_at FineParticle FineParticle (only_at O.v (portion O 0)) (λ i p u. pick_both FineParticle (eqb i O.v) (portion O 0 p) p (portion_fine 0 (omega arith) p u) u) M.particles F.particles)
      (all_below FineParticle (λ g. portion O (suc g) (get_or M.particles O.v blank)) (O.count - 1) (λ k. k)
      (λ i l. portion_fine (suc i) (omega arith) (get_or M.particles O.v blank) (all_in FineParticle M.particles O.v blank low F.particles)))

  triangles_fine : All FineTriangle (rewired_triangles Triangles O M.triangles)
  unfolding rewired_triangles
  triangles_fine = all_map_at FineTriangle FineTriangle (λ i. retargeted O.v (copy_of O (group_at_of O.fan i))) (λ i t u. turned_ok O.v (copy_of O (group_at_of O.fan i)) t u) M.triangles F.triangles

  stayed_fine : (e : Edge) → FineEdge e → FineEdge (stayed Triangles M O e)
  unfolding stayed
  stayed_fine e u = pick_both FineEdge (other? Triangles O e) (moved O.v _ e) e (moved_ok O.v _ e u) u

  doubled_fine : (e : Edge) → FineEdge e → All FineEdge (doubled Triangles M O e)
  unfolding doubled
  doubled_fine e u =
      let gs = rest (edge_groups M O (far_end_of O.v e)) in
      pick_both (All FineEdge) (other? Triangles O e) (map (λ g. calm (moved O.v (copy_of O g) e)) gs) []
      (all_map (λ g. Unit {0}) FineEdge (λ g. calm (moved O.v (copy_of O g) e)) (λ g w. let m = moved_ok O.v (copy_of O g) e u in (loaded_ok (moved O.v (copy_of O g) e) zero32 e.stress m.0 zero_number (stress_number e u.0), loaded_32 (moved O.v (copy_of O g) e) zero32 e.stress m.1 zero_32 u.1.stress)) gs (all_yes (λ g. Unit {0}) (λ g. tt) gs))
      tt

  edges_fine : All FineEdge (other_edges Triangles M O (rewired_straps Triangles O M.edges))
  unfolding other_edges rewired_straps
  edges_fine =
      all_append FineEdge (map (stayed Triangles M O) M.edges) (each (doubled Triangles M O) M.edges) (all_map FineEdge FineEdge (stayed Triangles M O) stayed_fine M.edges F.edges)
      (all_each_of FineEdge FineEdge (doubled Triangles M O) doubled_fine M.edges F.edges)

  rewired_length : length (rewired_triangles Triangles O M.triangles) ≡ length M.triangles
  unfolding rewired_triangles
  rewired_length = length_map_at (λ i. retargeted O.v (copy_of O (group_at_of O.fan i))) M.triangles

  pub split_fine : Fine (settled Triangles (opening_of Triangles M v sides) (at_longest Triangles (opening_of Triangles M v sides) M))
  unfolding settled at_longest O
  split_fine =
      record {
        particles = copied_fine;
        triangles = triangles_fine;
        edges = all_sift FineEdge (λ (e : Edge). not (straddles Triangles (at_longest Triangles O M) O e)) _ edges_fine;
        few = subst (λ (n : ℕ). n ≤ 1024) (sym rewired_length) F.few;
      }

-- what is done behind a split
slack_ok : (e : Edge) → FineEdge e → FineEdge (slack e)
slack_ok e u = (loaded_ok e zero32 zero32 u.0 zero_number zero_number, loaded_32 e zero32 zero32 u.1 zero_32 zero_32)

torn_fine : (O : Opening) (xy : ℕ × ℕ) (M : Mesh) → Fine M → Fine (torn O xy M)
unfolding torn damaged_at slackened
torn_fine O xy M F =
    let other = pick (eqb O.v xy.0) xy.1 xy.0 in
    record {
      particles =
          all_map_at FineParticle FineParticle (λ i p. pick (stands i (xy.0 ∷ xy.1 ∷ made O)) (hurt p) p)
          (λ i p u. pick_both FineParticle (stands i (xy.0 ∷ xy.1 ∷ made O)) (hurt p) p (hurt_ok p u.0, changed_32 p p.mass p.inv 1 u.1 u.1.mass u.1.inv) u) M.particles F.particles;
      triangles = F.triangles;
      edges = all_map FineEdge FineEdge (λ (e : Edge). pick (bridges O other e) (slack e) e) (λ e u. pick_both FineEdge (bridges O other e) (slack e) e (slack_ok e u) u) M.edges F.edges;
      few = F.few;
    }

behind_fine : (O : Opening) (f : Mesh → Mesh) → Behind O f → (M : Mesh) → Fine M → Fine (f M)
behind_fine O f nothing_more M F = F
behind_fine O f (tearing xy) M F = torn_fine O xy M F

opening_fine : (M : Mesh) → Fine M → (O : Opening) → Sided M O → splits? O M ≡ true → Fine (settled Triangles O (at_longest Triangles O M))
opening_fine M F O D y =
    subst (λ (o : Opening). splits? o M ≡ true → Fine (settled Triangles o (at_longest Triangles o M))) (sym D.is) (split_fine M F D.v D.sides D.every) y

-- every step of a run keeps the numbers in range
pub fine_kept : Kept (λ R. Fine R.mesh)
unfolding split_made step_to marked_by remove_straddlers_of straddlers_gone without_straddlers
fine_kept =
    record {
      split = λ R F O D y more none f B. behind_fine O f B (settled Triangles O (at_longest Triangles O R.mesh)) (opening_fine R.mesh F O D y);
      marks = λ R F B. F;
      straddlers = λ R F. record { particles = F.particles; triangles = F.triangles; edges = all_sift FineEdge _ R.mesh.edges F.edges; few = F.few };
    }

-- ---- a run that is done fits the rooms

-- a mesh and a log have room
pub record Fits (L : Rooms) (M : Mesh) (l : List Entry) : Type 0 where
  pub particles : length M.particles ≤ L.particles
  pub edges : length M.edges ≤ L.edges
  pub boundary : length M.boundary ≤ L.boundary
  pub log : length l ≤ L.log

-- the last step's need covers the mesh and the log
pub record Covered (R : Run) : Type 0 where
  pub rooms : (L : Rooms) → first_fault L R.needs ≡ 0 → Fits L R.mesh R.log

second_zero : (a b : ℕ) → pick (eqb a 0) b a ≡ 0 → b ≡ 0
second_zero a b e =
    elim (ℕ_discrete a 0) [
      | yes d ↦ sym (ap (λ t. pick t b a) (eq-eqb a 0 d)) ∙ e
      | no n ↦ absurd (n (sym (ap (λ t. pick t b a) (ne_eqb a 0 n)) ∙ e))
    ]

first_zero : (a : ℕ) → pick (eqb a 0) 0 a ≡ 0 → a ≡ 0
first_zero a e =
    elim (ℕ_discrete a 0) [
      | yes d ↦ d
      | no n ↦ absurd (n (sym (ap (λ t. pick t 0 a) (ne_eqb a 0 n)) ∙ e))
    ]

small_zero : (L : Rooms) (N : Need) → too_small L N ≡ 0 → (N.particles ≤ L.particles) × (N.edges ≤ L.edges) × (N.boundary ≤ L.boundary) × (N.log ≤ L.log)
unfolding too_small
small_zero L N e =
    let u = by (ltb L.particles N.particles) (ltb L.edges N.edges) (ltb L.boundary N.boundary) (ltb L.log N.log) e in
    (ltb-false L.particles N.particles u.0, ltb-false L.edges N.edges u.1, ltb-false L.boundary N.boundary u.2, ltb-false L.log N.log u.3)
  where
    by : (a b c d : Bool) → ◌≡◌ {A = ℕ} (pick a 5 (pick b 6 (pick c 7 (pick d 8 0)))) 0 → (a ≡ false) × (b ≡ false) × (c ≡ false) × (d ≡ false)
    by true b c d e = absurd (omega arith)
    by false true c d e = absurd (omega arith)
    by false false true d e = absurd (omega arith)
    by false false false true e = absurd (omega arith)
    by false false false false e = (refl, refl, refl, refl)

one_fits : (L : Rooms) (N : Need) (M : Mesh) (l : List Entry) → length M.particles ≤ N.particles → length M.edges ≤ N.edges → length M.boundary ≤ N.boundary → length l ≤ N.log → first_fault L (N ∷ []) ≡ 0 → Fits L M l
unfolding first_fault
one_fits L N M l p e b g z =
    let u = small_zero L N (first_zero (too_small L N) z) in
    record { particles = le_trans p u.0; edges = le_trans e u.1; boundary = le_trans b u.2; log = le_trans g u.3 }

covered_step : (R : Run) (M : Mesh) (l : List Entry) (e b : ℕ) → length M.edges ≤ e → length M.boundary ≤ b → Covered (step_to R M l e b)
unfolding step_to
covered_step R M l e b u w =
    record {
      rooms = λ L z.
          let N : Need = record { particles = length M.particles; edges = e; boundary = b; log = length (R.log ++ l) } in
          let same : length M.particles ≤ length M.particles = omega arith in
          let all : length (R.log ++ l) ≤ length (R.log ++ l) = omega arith in
          one_fits L N M (R.log ++ l) same u w all (second_zero (first_fault L R.needs) (first_fault L (N ∷ [])) (sym (fault_front L R.needs (N ∷ [])) ∙ z));
    }

covered_start : (M : Mesh) → Covered (start M)
unfolding start
covered_start M =
    let p : length M.particles ≤ length M.particles = omega arith in
    let e : length M.edges ≤ length M.edges = omega arith in
    let b : length M.boundary ≤ length M.boundary = omega arith in
    let g : 0 ≤ 0 = omega arith in
    record { rooms = λ L z. one_fits L _ M [] p e b g z }

-- what is done behind a split leaves the number of edges and the boundary
behind_length : (O : Opening) (f : Mesh → Mesh) → Behind O f → (M : Mesh) → (length (f M).edges ≡ length M.edges) × (length (f M).boundary ≡ length M.boundary)
unfolding torn damaged_at slackened
behind_length O f nothing_more M = (refl, refl)
behind_length O f (tearing xy) M = (length-map M.edges _, refl)

pub covered_kept : Kept Covered
unfolding split_made marked_by remove_straddlers_of straddlers_gone without_straddlers settled
covered_kept =
    record {
      split = λ R C O D y more none f B.
          let M = at_longest Triangles O R.mesh in
          let n = behind_length O f B (settled Triangles O M) in
          let s = sift_length (λ (e : Edge). not (straddles Triangles M O e)) M.edges in
          covered_step R _ _ _ _ (le_trans (le_of_eq n.0) s) (le_of_eq n.1);
      marks = λ R C B. covered_step R R.mesh _ _ _ (omega arith) (omega arith);
      straddlers = λ R C.
          let es = elements_of Triangles R.mesh in
          let ls = body_labels es in
          covered_step R _ _ _ _ (sift_length (λ (e : Edge). not (across? Triangles es ls e)) R.mesh.edges) (sift_length (λ (s : Side). not (spread es ls s.corners)) R.mesh.boundary);
    }

-- ---- the calls

-- a call that is done has passed the checks
pub record Checked (L : Rooms) (M M' : Mesh) : Type 0 where
  pub numbers : numbers_fit_of M ≡ true
  pub before : indices_fit_of M ≡ true
  pub lent : triangles_lent L M ≡ true
  pub after : indices_fit_of M' ≡ true

passed : (L : Rooms) (M M' : Mesh) (numbers arguments : Bool) → Passed true M numbers (arguments && triangles_lent L M) → indices_fit_of M' ≡ true → Checked L M M'
passed L M M' numbers arguments P i =
    record { numbers = (and_true (numbers_fit_of M) numbers P.values).0; before = P.indices; lent = (and_true arguments (triangles_lent L M) P.given).1; after = i }

pub called_checked : (L : Rooms) (M : Mesh) {M' : Mesh} {more : List Entry} → Called L M M' more → Checked L M M'
unfolding cut_call crack_call split_call straddlers_call
called_checked L M (cutting {M'} {more} {c} n B f e) =
    passed L M M' (blade_ok B) (known n && fraction_ok f) (cut_no_refusal true M n B f L (unless_done (cut_refusal true M n B f L) (outcome L (cut (kind_of M) (blade_of n B) f (start M))) M' more c e).0).0 (cut_accepted true M n B f L M' more c e)
called_checked L M (cracking {M'} {more} {c} is min e) =
    passed L M M' true true (no_refusal true M true (triangles_lent L M) (unless_done _ (outcome L (crack (kind_of M) min is (start M))) M' more c e).0) (crack_accepted true M is min L M' more c e)
called_checked L M (splitting {M'} {more} {c} v sides e) =
    passed L M M' true (sides_ok M v sides) (no_refusal true M true (sides_ok M v sides && triangles_lent L M) (unless_done _ (outcome L (split_by_sides_of (kind_of M) v sides (start M))) M' more c e).0) (split_accepted true M v sides L M' more c e)
called_checked L M (removing {M'} {more} {c} e) =
    passed L M M' true true (no_refusal true M true (triangles_lent L M) (unless_done _ (outcome L (remove_straddlers_of (kind_of M) (start M))) M' more c e).0) (straddlers_accepted true M L M' more c e)

-- What a done call gives of a mesh of at most 1,024 triangles is accepted as input again: its numbers and indices pass, and it is no longer than the rooms, nor is its log.
pub accepted_again : (L : Rooms) (M : Mesh) {M' : Mesh} {more : List Entry} → 0 < length M.triangles → length M.triangles ≤ 1024 → Stored M → Called L M M' more → Again L M' more
unfolding start
accepted_again L M {M'} {more} some few S C =
    let k = kind_of_lem M some in
    let H = called_checked L M C in
    let F : Fine M' = called_run (λ R. Fine R.mesh) fine_kept M (fine_of M H.numbers S few) k L (λ N l. Fine N) (λ R F z. F) C in
    let fits : Fits L M' more = called_run Covered covered_kept M (covered_start M) k L (Fits L) (λ R Y z. Y.rooms L z) C in
    let G : Grown M M' = called_run (Growing M) (growing_kept M) M (growing_start M (accepted_sound M H.before)) k L (λ N l. Grown M N) (λ R G z. G.grown) C in
    let N = of_fine M' F in
    record {
      accepted = record { numbers = N.0; stored = N.1; indices = H.after };
      particles = fits.particles;
      triangles = le_trans (le_of_eq G.count) (leb-true (length M.triangles) L.triangles H.lent);
      edges = fits.edges;
      boundary = fits.boundary;
      entries = fits.log;
    }

-- ---- after any history

moved_indices : (M M' : Mesh) → Moved M M' → indices_fit_of M ≡ true → indices_fit_of M' ≡ true
moved_indices M M' W e =
    let X = accepted_indexed M e in
    let n = length M.particles in
    let same : length M.particles ≡ length M'.particles = sym (as_many (λ (p : Particle). p.root) M.particles M'.particles W.roots) in
    let Y : Indexed M' = record {
      roots = subst (λ (m : ℕ). All (λ (p : Particle). p.root < m) M'.particles) same (all_column (λ (p : Particle). p.root) (λ r. r < n) M.particles M'.particles W.roots X.roots);
      triangles = subst (λ (m : ℕ). All (Sound m) M'.triangles) same (sound_moved n M.triangles M'.triangles W.corners X.triangles);
      edges = subst (λ (m : ℕ). All (Ends m) M'.edges) same (all_column ends_of (λ (l : List ℕ). Pair n (get_or l 0 0) (get_or l 1 0)) M.edges M'.edges W.ends X.edges);
      boundary = subst (λ (m : ℕ). All (Sides m) M'.boundary) same (subst (λ (l : List Side). All (Sides n) l) (sym W.boundary) X.boundary);
    } in
    indexed_accepted M' Y

-- After any history from a mesh of at most 1,024 triangles, where the host puts in f32 numbers, the mesh is accepted.
pub accepted_always : {M₀ M : Mesh} {log : List Entry} (h : History M₀ M log) → length M₀.triangles ≤ 1024 → HostStores h → Accepted M
accepted_always (first b) few S = record { numbers = b.numbers; stored = S; indices = b.indices }
accepted_always (calling {M = M} L h C) few S =
    let I = line_of_lem h in
    let c = I.grown.count in
    let u = I.begins.some in
    (accepted_again L M (omega arith) (omega arith) (accepted_always h few S).stored C).accepted
accepted_always (moving {M = M} {M' = M'} h W) few S = record { numbers = W.numbers; stored = S.1; indices = moved_indices M M' W (accepted_always h few S.0).indices }
