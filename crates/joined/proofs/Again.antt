-- Blocks that a call left are accepted again: by no later call is their mesh refused with 1, 2 or 3.
use Prim.Native.Nat.{ℕ, zero, suc, ◌*◌, ◌/◌, ◌%◌, ◌<◌, ◌≤◌}
use mathlib.Core.Path.{◌≡◌, refl, sym, ap, subst}
use mathlib.Core.Bool.{Bool, true, not}
use mathlib.Core.List.{List}
use native.Mathlib.Omega.{arith}
use borrow.Author.Tests.{eq-eqb, le-leb, leb-true}
use lib.ListN.{length}
use Rattle.lists.specs.Lists.{pick, tab}
use Rattle.columns.specs.Block.{cell}
use Rattle.columns.proofs.Rows.{tab_length}
use Rattle.model.specs.Mesh.{Particle, Side, Mesh}
use Rattle.model.specs.Elements.{corners_of, ends_of}
use Rattle.model.specs.Valid.{numbers_fit_of, indices_fit_of}
use Rattle.model.specs.Calls.{refusal}
use Rattle.model.specs.Trace.{All}
use Rattle.mesh.specs.At.{particles_at, triangles_at, edges_at, boundary_at, mesh_at}
use Rattle.mesh.specs.Given.{Given, mesh_of, sizes_fit_of, lengths_fit, list_fits_of}
use Rattle.mesh.specs.declared.Counts.{Counts}
use Rattle.mesh.specs.Widths.{point_columns}
use Rattle.lineage.specs.History.{Moved, Few, Particle32, Triangle32, Edge32, Stored, Accepted, Again}
use Rattle.lineage.proofs.Moves.{as_many}
use Rattle.lineage.proofs.Histories.{line_of_lem}
use Rattle.lineage.proofs.Again.{called_checked, accepted_again, accepted_always}
use Rattle.joined.specs.Entries.{Entries, first, calling, moving, HostHolds, rows_in, Blocks, held, rooms, Answering, Held32, Packed}
use Rattle.joined.proofs.Join.{joined}
use Rattle.joined.proofs.Histories.{told, stores_told}

-- ---- what f32 columns hold

pub all_tab : {A : Type 0} (P : A → Type 0) (n : ℕ) (f : ℕ → A) → ((k : ℕ) → P (f k)) → All P (tab n f)
unfolding tab
all_tab P zero f h = tt
all_tab P (suc n) f h = (h 0, all_tab P n (λ k. f (suc k)) (λ k. h (suc k)))

-- the mesh of blocks has numbers that f32 holds
pub stored : (G : Given) → Held32 G → Stored (mesh_of G)
unfolding mesh_of mesh_at particles_at triangles_at edges_at cell
stored G h =
    record {
      particles = all_tab Particle32 _ _ (λ k. record { x = h.points _; y = h.points _; rest_x = h.points _; rest_y = h.points _; mass = h.points _; inv = h.points _; velocity_x = h.points _; velocity_y = h.points _ });
      triangles = all_tab Triangle32 _ _ (λ k. record { volume = h.volumes _; stress = h.volumes _ });
      edges = all_tab Edge32 _ _ (λ k. record { rest = h.lengths _; initial = h.lengths _; impulse = h.lengths _; stress = h.lengths _ });
    }

-- ---- refusal 1

-- a list whose blocks are as long as its rows ask, with no more rows than the limit
list_fits_lem : (limit u w n : ℕ) → n ≤ limit → u ≡ 0 → w ≡ 0 → list_fits_of limit u n w n ≡ true
unfolding list_fits_of
list_fits_lem limit u w n h a b = rw (eq-eqb u 0 a, eq-eqb w 0 b, eq-eqb n n refl, le-leb n limit h)

-- counts within the limits
pub record FewCounts (k : Counts) : Type 0 where
  pub particles : k.particles ≤ 1024
  pub triangles : k.triangles ≤ 1024
  pub edges : k.edges ≤ 2048
  pub boundary : k.boundary ≤ 2048

lengths_fit_lem : (k : Counts) → FewCounts k → lengths_fit (point_columns * k.particles) (2 * k.particles) (3 * k.triangles) (2 * k.triangles) (4 * k.edges) (4 * k.edges) (2 * k.boundary) ≡ true
unfolding lengths_fit
lengths_fit_lem k f =
    let points : point_columns * k.particles / point_columns ≡ k.particles = omega arith in
    let p2 : 2 * k.particles / 2 ≡ k.particles = omega arith in
    let t3 : 3 * k.triangles / 3 ≡ k.triangles = omega arith in
    let t2 : 2 * k.triangles / 2 ≡ k.triangles = omega arith in
    let e4 : 4 * k.edges / 4 ≡ k.edges = omega arith in
    let b2 : 2 * k.boundary / 2 ≡ k.boundary = omega arith in
    rw (
      points,
      p2,
      t3,
      t2,
      e4,
      b2,
      list_fits_lem 1024 (point_columns * k.particles % point_columns) (2 * k.particles % 2) k.particles f.particles (omega arith) (omega arith),
      list_fits_lem 1024 (3 * k.triangles % 3) (2 * k.triangles % 2) k.triangles f.triangles (omega arith) (omega arith),
      list_fits_lem 2048 (4 * k.edges % 4) (4 * k.edges % 4) k.edges f.edges (omega arith) (omega arith),
      list_fits_lem 2048 (2 * k.boundary % 2) 0 k.boundary f.boundary (omega arith) refl,
    )

pub sizes_fit_lem : (G : Given) (k : Counts) → Packed G k → FewCounts k → sizes_fit_of G ≡ true
sizes_fit_lem G k P f = rw (P.points, P.roots, P.corners, P.volumes, P.ends, P.lengths, P.outline) (lengths_fit_lem k f)

-- ---- refusals 2 and 3

-- a mesh that is accepted is refused for the arguments alone
pub by_arguments : (M : Mesh) (numbers arguments : Bool) → numbers_fit_of M ≡ true → indices_fit_of M ≡ true → refusal true M numbers arguments ≡ pick (not numbers) 2 (pick (not arguments) 4 0)
unfolding refusal
by_arguments M numbers arguments n i = rw (n, i)

-- the rows that blocks hold are as many as was told
held_counts : (k : Counts) (D : Blocks) → (length (held k D).particles ≡ k.particles) × (length (held k D).triangles ≡ k.triangles) × (length (held k D).edges ≡ k.edges) × (length (held k D).boundary ≡ k.boundary)
unfolding mesh_at particles_at triangles_at edges_at boundary_at
held_counts k D = (tab_length _ _, tab_length _ _, tab_length _ _, tab_length _ _)

-- what a call left, lent to any further call in blocks of its own length, is refused for the arguments of that call alone, or for room
pub accepted_next : (G : Given) (k : Counts) (b : Bool) (D : Blocks) → Answering G k b D → Held32 G → 0 < length (mesh_of G).triangles
    → (N : Given) → mesh_of N ≡ held k D → Packed N k → (numbers arguments : Bool) → refusal (sizes_fit_of N) (mesh_of N) numbers arguments ≡ pick (not numbers) 2 (pick (not arguments) 4 0)
accepted_next G k b D A S some N e P numbers arguments =
    let J = joined G k b D A in
    let L = rooms A.lengths in
    let few : length (mesh_of G).triangles ≤ L.triangles = leb-true _ _ (called_checked L (mesh_of G) J.called).lent in
    let R : Again L (held k D) J.more = accepted_again L (mesh_of G) some (omega arith) (stored G S) J.called in
    let c = held_counts k D in
    let f : FewCounts k = record { particles = omega (arith, R.particles, c.0); triangles = omega (arith, R.triangles, c.1); edges = omega (arith, R.edges, c.2); boundary = omega (arith, R.boundary, c.3) } in
    rw (sizes_fit_lem N k P f, e) (by_arguments (held k D) numbers arguments R.accepted.numbers R.accepted.indices)

-- ---- through a whole history

-- a call that is done gives a mesh that is accepted, and within the limits
called_few : (G : Given) (k : Counts) (b : Bool) (D : Blocks) → Answering G k b D → Stored (mesh_of G) → 0 < length (mesh_of G).triangles → Few (held k D)
called_few G k b D A S some =
    let J = joined G k b D A in
    let L = rooms A.lengths in
    let few : length (mesh_of G).triangles ≤ L.triangles = leb-true _ _ (called_checked L (mesh_of G) J.called).lent in
    let R : Again L (held k D) J.more = accepted_again L (mesh_of G) some (omega arith) S J.called in
    record { particles = omega (arith, R.particles); triangles = omega (arith, R.triangles); edges = omega (arith, R.edges); boundary = omega (arith, R.boundary) }

-- the host leaves the number of everything
moved_few : (M M' : Mesh) → Moved M M' → Few M → Few M'
moved_few M M' W F =
    record {
      particles = omega (arith, F.particles, as_many (λ (p : Particle). p.root) M.particles M'.particles W.roots);
      triangles = omega (arith, F.triangles, as_many corners_of M.triangles M'.triangles W.corners);
      edges = omega (arith, F.edges, as_many ends_of M.edges M'.edges W.ends);
      boundary = omega (arith, F.boundary, ap (λ (l : List Side). length l) W.boundary);
    }

-- a mesh within the limits stays there
pub few_throughout : {M₀ M : Mesh} {words : List ℕ} (h : Entries M₀ M words) → Few M₀ → HostHolds h → Few M
few_throughout (first b) F S = F
few_throughout (calling {M = M} {k = k} {b = b} G D h e A) F S =
    let T = told h in
    let a : Accepted M = accepted_always T.history F.triangles (stores_told h S) in
    let I = line_of_lem T.history in
    let some : 0 < length M.triangles = omega (arith, I.grown.count, I.begins.some) in
    called_few G k b D A (subst Stored (sym e) a.stored) (subst (λ (x : Mesh). 0 < length x.triangles) (sym e) some)
few_throughout (moving {M = M} {M' = M'} h W) F S = moved_few M M' W (few_throughout h F S.0)

-- After any such history from a mesh within the limits, the mesh as it is, lent in blocks of its own length, is refused for the arguments of a call alone, or for room.
pub accepted_throughout : {M₀ M : Mesh} {words : List ℕ} (h : Entries M₀ M words) → Few M₀ → HostHolds h
    → (N : Given) → mesh_of N ≡ M → Packed N (rows_in M) → (numbers arguments : Bool) → refusal (sizes_fit_of N) (mesh_of N) numbers arguments ≡ pick (not numbers) 2 (pick (not arguments) 4 0)
accepted_throughout {M = M} h F S N e P numbers arguments =
    let A : Accepted M = accepted_always (told h).history F.triangles (stores_told h S) in
    let f = few_throughout h F S in
    let z : sizes_fit_of N ≡ true = sizes_fit_lem N (rows_in M) P (record { particles = f.particles; triangles = f.triangles; edges = f.edges; boundary = f.boundary }) in
    rw (z, e) (by_arguments M numbers arguments A.numbers A.indices)
