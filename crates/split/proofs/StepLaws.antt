-- What a split by the groups of a fan asks of its two halves, and what they make of it. Assumes nothing.
use Prim.Native.Nat.{ℕ, ◌+◌, ◌-◌, ◌≤◌}
use native.Mathlib.Omega.{arith}
use mathlib.Core.Path.{◌≡◌, refl, sym, ◌∙◌, ap, subst}
use mathlib.Core.List.{List}
use lib.ListN.{length, get_or}
use lib.Ieee.{Float}
use Rattle.lists.proofs.Stores.{tab_length}
use Rattle.model.specs.Mesh.{Mesh}
use Rattle.model.specs.Elements.{Kind}
use Rattle.model.specs.Split.{Opening, at_longest}
use Rattle.mesh.specs.At.{mesh_at}
use Rattle.mesh.specs.Log.{World, log_at, world_at}
use Rattle.mesh.specs.Filled.{lent}
use Rattle.mesh.specs.declared.Counts.{Counts}
use Rattle.mesh.specs.declared.Rooms.{Rooms}
use Rattle.work.specs.Working.{Ready}
use Rattle.edge_drops.specs.Parted.{world_parted}
use Rattle.split.specs.Tables.{FanGrouped, opened_by, Opens, TablesFit}
use Rattle.work.specs.Places.{EndsIn}
use Rattle.split.specs.Steps.{GrowRoom, grown_counts, GrewTo, GrowthTold, SettledTo, Stepped}
use Rattle.split.specs.Growing.{StrapsNamed}
use Rattle.split.specs.Settling.{SettleAsked, SettledFor}
use Rattle.split.specs.Linking.{FanSound}
use Rattle.split.proofs.Fitted.{opens_by, tables_fit}
use Rattle.split.proofs.NamedLaws.{straps_named}
use Rattle.split.proofs.Longest.{longest_ends, longest_corners}
use Rattle.model_laws.proofs.Accepted.{accepted_indexed}
use Rattle.work.proofs.Placed.{particles_count, triangles_count, edges_count, ends_in, sides_in}
use Rattle.split.proofs.Stepping.{longest_world, stepped_lacking, stepped_settled}
use Rattle.work.specs.Ran.{Ran}
use Rattle.split.specs.Grew.{Grew}
use Rattle.std.specs.Prelude.{Ok, Err}
use Rattle.mesh.specs.declared.refusals.Refusal.{Refusal}

-- as many entries as the counts say
log_count : (k : Counts) (points : List Float) (roots corners : List ℕ) (volumes : List Float) (ends : List ℕ) (lengths : List Float) (outline log list : List ℕ)
    → length (world_parted k points roots corners volumes ends lengths outline log list).log ≡ k.log
unfolding world_parted log_at
log_count k points roots corners volumes ends lengths outline log list = tab_length k.log _

-- two halves of a world
world_of : (k q : Counts) (points points' : List Float) (roots roots' corners corners' : List ℕ) (volumes : List Float) (ends ends' : List ℕ) (lengths lengths' : List Float) (outline log : List ℕ) (A : Mesh)
    → q.log ≡ k.log → mesh_at q points' roots' corners' volumes ends' lengths' outline ≡ A
    → world_at q points' roots' corners' volumes ends' lengths' outline log ≡ record { mesh = A; log = (world_at k points roots corners volumes ends lengths outline log).log }
unfolding world_at
world_of k q points points' roots roots' corners corners' volumes ends ends' lengths lengths' outline log A l m =
    ap (λ (X : Mesh). record { mesh = X; log = log_at q.log log }) m ∙ ap (λ (j : ℕ). record { mesh = A; log = log_at j log }) l

-- the mesh of a world in blocks
pub world_mesh : (k : Counts) (points : List Float) (roots corners : List ℕ) (volumes : List Float) (ends : List ℕ) (lengths : List Float) (outline log : List ℕ)
    → (world_at k points roots corners volumes ends lengths outline log).mesh ≡ mesh_at k points roots corners volumes ends lengths outline
unfolding world_at
world_mesh k points roots corners volumes ends lengths outline log = refl

module _ (K : Kind) (L : Rooms) (k : Counts) (points : List Float) (roots corners : List ℕ) (volumes : List Float) (ends : List ℕ) (lengths : List Float) (outline log : List ℕ)
    (P : Ready L k (lent points roots corners volumes ends lengths outline log) (mesh_at k points roots corners volumes ends lengths outline))
    {v n count : ℕ} {numbers verts : List ℕ} {measures : List Float} {groups : List ℕ}
    (F : FanGrouped K (mesh_at k points roots corners volumes ends lengths outline) v n count numbers verts measures groups) where
  abbrev M : Mesh
  M = mesh_at k points roots corners volumes ends lengths outline

  abbrev O : Opening
  O = opened_by K M v n count groups

  many : length M.particles ≡ k.particles
  many = particles_count k points roots corners volumes ends lengths outline

  pub grow_room : GrowRoom L k (length points) (length roots) (length corners) (length ends) (length lengths)
  grow_room =
      let R = P.rooms in
      let C = P.counts in
      record {
        particles = C.particles;
        few_particles = R.few_particles;
        points = R.points;
        roots = R.roots;
        few_triangles = omega (arith, C.triangles, R.few_triangles);
        corners = omega (arith, C.triangles, R.corners);
        edges = C.edges;
        few_edges = R.few_edges;
        ends = R.ends;
        lengths = R.lengths;
      }

  pub tables_in : TablesFit K k.particles k.triangles k.edges v n count numbers verts measures groups
  tables_in =
      subst (λ (p : ℕ). TablesFit K p k.triangles k.edges v n count numbers verts measures groups) many
      (subst (λ (t : ℕ). TablesFit K (length M.particles) t k.edges v n count numbers verts measures groups) (triangles_count k points roots corners volumes ends lengths outline)
      (subst (λ (e : ℕ). TablesFit K (length M.particles) (length M.triangles) e v n count numbers verts measures groups) (edges_count k points roots corners volumes ends lengths outline)
      (tables_fit F P.indices)))

  pub ends_here : EndsIn k.particles k.edges ends
  ends_here = ends_in k points roots corners volumes ends lengths outline P.indices

  pub named_here : StrapsNamed K v n numbers ends
  named_here = straps_named K k points roots corners volumes ends lengths outline v n numbers verts measures F.tabled

  opens : Opens K O v k.particles n count numbers verts measures groups
  opens = subst (λ (p : ℕ). Opens K O v p n count numbers verts measures groups) many (opens_by F)

  -- what the second half asks, where the first made room
  pub settle_asked : (e extra lp lc : ℕ) (ends' : List ℕ) (ll : ℕ) → extra ≤ 1 → k.particles + count - 1 ≤ L.particles → e ≤ L.edges → lp ≡ length points → lc ≡ length corners → length ends' ≡ length ends → ll ≡ length lengths
      → EndsIn (k.particles + (count - 1)) e ends' → SettleAsked K L (grown_counts k (k.particles + count - 1) e) v k.particles n count extra numbers verts groups lp lc (length volumes) ends' ll outline (length log)
  settle_asked e extra lp lc ends' ll x p q ep ec ee el E =
      let R = P.rooms in
      let C = P.counts in
      let T = tables_in in
      record {
        room = record {
          counts = record { particles = p; triangles = C.triangles; edges = q; boundary = C.boundary; log = C.log };
          few_particles = R.few_particles;
          few_triangles = R.few_triangles;
          few_edges = R.few_edges;
          few_boundary = R.few_boundary;
          few_log = R.few_log;
          corners = omega (arith, R.corners);
          volumes = R.volumes;
          ends = omega (arith, R.ends);
          lengths = omega (arith, R.lengths);
          outline = R.outline;
          log = R.log;
        };
        copied_all = refl;
        points = omega (arith, R.points);
        here = T.here;
        two = T.two;
        ring = T.ring;
        numbers_long = T.numbers_long;
        in_triangles = T.in_triangles;
        below = T.below;
        corners_in = T.corners_in;
        ends_in =
            record {
              first = λ j l. omega (arith, E.first j l, T.two, R.few_particles);
              second = λ j l. omega (arith, E.second j l, T.two, R.few_particles);
            };
        sides = sides_in k points roots corners volumes ends lengths outline P.indices;
        one_extra = x;
      }

  -- ---- what the halves make

  module _ (points' : List Float) (roots' corners' ends' : List ℕ) (lengths' : List Float) where
    abbrev Told : Grew → Type 0
    Told g = GrowthTold K L k v n count numbers verts measures groups (λ q vol out. mesh_at q points roots corners vol ends lengths out) (λ q vol out. mesh_at q points' roots' corners' vol ends' lengths' out) g

    grew : (g : Grew) → Told g → GrewTo K O L k M (λ q. mesh_at q points' roots' corners' volumes ends' lengths' outline) g
    grew g T = T.told O volumes outline opens

    -- there was room for the particles and the edges
    pub room_made : (g : Grew) (e : ℕ) → Told g → g ≡ Ok e → (k.particles + count - 1 ≤ L.particles) × (e ≤ L.edges)
    room_made g e T' q = let T : Told (Ok e) = subst Told q T' in let G = grew (Ok e) T in (G.0, G.1)

    -- the ends of the edges at their longest are there
    pub ends_made : (g : Grew) (e : ℕ) → Told g → g ≡ Ok e → EndsIn (k.particles + (count - 1)) e ends'
    unfolding mesh_at
    ends_made g e T' q =
        let T : Told (Ok e) = subst Told q T' in
        let G = grew (Ok e) T in
        subst (λ (p : ℕ). EndsIn (p + (count - 1)) e ends') many
        (longest_ends K M v count n groups F.two F.here F.groups_long F.below (accepted_indexed M P.indices) e ends' lengths' (ap (λ (X : Mesh). X.edges) G.2))

    -- and so are the corners of the triangles of the fan
    pub corners_made : (g : Grew) (e : ℕ) → Told g → g ≡ Ok e → FanSound K n numbers corners'
    unfolding mesh_at
    corners_made g e T' q z i h =
        let T : Told (Ok e) = subst Told q T' in
        let G = grew (Ok e) T in
        longest_corners K M v count n groups F.two F.here F.groups_long F.below (accepted_indexed M P.indices) k.triangles corners' volumes (ap (λ (X : Mesh). X.triangles) G.2)
        (omega (arith, many, G.0, P.rooms.few_particles, F.two)) z (get_or numbers i 0) (tables_in.in_triangles z i h)

    pub all_lacking : (g : Grew) (c : Refusal) (extra : ℕ) → Told g → g ≡ Err c → Stepped K O L extra (world_at k points roots corners volumes ends lengths outline log) (λ q. world_at q points roots corners volumes ends lengths outline log) (Err c)
    all_lacking g c extra T' q =
        let T : Told (Err c) = subst Told q T' in
        stepped_lacking K O L extra k (world_at k points roots corners volumes ends lengths outline log) (λ q. mesh_at q points' roots' corners' volumes ends' lengths' outline) (λ q. world_at q points roots corners volumes ends lengths outline log) c
        (subst (λ (X : Mesh). GrewTo K O L k X (λ q. mesh_at q points' roots' corners' volumes ends' lengths' outline) (Err c)) (sym (world_mesh k points roots corners volumes ends lengths outline log)) (grew (Err c) T))

    pub all_settled : (g : Grew) (e extra : ℕ) (outline'' log'' list'' : List ℕ) (r : Ran) → Told g → g ≡ Ok e
        → SettledFor K L extra v k.particles n count numbers verts groups (λ s. world_at (grown_counts k (k.particles + count - 1) e) points' s corners' volumes ends' lengths' outline log)
        (λ s q. world_parted q points' s corners' volumes ends' lengths' outline'' log'' list'') r
        → Stepped K O L extra (world_at k points roots corners volumes ends lengths outline log) (λ q. world_parted q points' roots' corners' volumes ends' lengths' outline'' log'' list'') r
    all_settled g e extra outline'' log'' list'' r T' z S =
        let T : Told (Ok e) = subst Told z T' in
        let G = grew (Ok e) T in
        let q : Counts = grown_counts k (k.particles + count - 1) e in
        let W = world_at k points roots corners volumes ends lengths outline log in
        let m = world_mesh k points roots corners volumes ends lengths outline log in
        let w : world_at q points' roots' corners' volumes ends' lengths' outline log ≡ longest_world K O W
        = world_of k q points points' roots roots' corners corners' volumes ends ends' lengths lengths' outline log (at_longest K O W.mesh) refl (G.2 ∙ ap (at_longest K O) (sym m)) in
        let lp : length (at_longest K O W.mesh).particles ≤ L.particles = omega (arith, G.0, ap (λ (X : Mesh). length X.particles) (G.2 ∙ ap (at_longest K O) (sym m)), particles_count q points' roots' corners' volumes ends' lengths' outline) in
        let le : length (at_longest K O W.mesh).edges ≤ L.edges = omega (arith, G.1, ap (λ (X : Mesh). length X.edges) (G.2 ∙ ap (at_longest K O) (sym m)), edges_count q points' roots' corners' volumes ends' lengths' outline) in
        stepped_settled K O L extra W (λ j. world_parted j points' roots' corners' volumes ends' lengths' outline'' log'' list'') r lp le
        (λ j. log_count j points' roots' corners' volumes ends' lengths' outline'' log'' list'')
        (subst (λ (X : World). SettledTo K O L extra X (λ j. world_parted j points' roots' corners' volumes ends' lengths' outline'' log'' list'') r) w ((S.settling measures).told O roots' opens))
