-- How a call begins: what it has room for, and what it knows when its input is copied.
use Prim.Native.Nat.{ℕ, zero, suc, ◌/◌, ◌<◌, ◌≤◌, min, zero-le}
use native.Mathlib.Omega.{arith}
use mathlib.Core.Path.{◌≡◌, refl, sym, ◌∙◌, ap, subst}
use mathlib.Core.Bool.{Bool, true, false, not, ◌&&◌}
use mathlib.Core.List.{List, []}
use lib.Dec.{ltb}
use lib.ListN.{length}
use lib.Ieee.{Float}
use borrow.Author.Tests.{le-ltb, lt-ltb, ltb-false, leb-true, ne_eqb}
use Rattle.lists.specs.Lists.{pick}
use Rattle.lists.proofs.Sifts.{and_true}
use Rattle.lists.proofs.Stores.{tab_length}
use Rattle.model.specs.Mesh.{Mesh}
use Rattle.model.specs.Run as M
use Rattle.model.specs.Run.{start}
use Rattle.model.specs.Valid.{numbers_fit_of, indices_fit_of}
use Rattle.model.specs.Calls.{triangles_lent, refusal, too_small, first_fault}
use Rattle.mesh.specs.At.{mesh_at, triangles_at, boundary_at, triangle_row, side_row}
use Rattle.mesh.specs.Given.{Given, Lent, mesh_of, sizes, sizes_fit_of, rooms_of, as_rooms}
use Rattle.mesh.specs.Filled.{Fits, Holds, lent}
use Rattle.mesh.specs.declared.Counts.{Counts}
use Rattle.mesh.specs.declared.Rooms.{Rooms}
use Rattle.judge.proofs.Joined.{sizes_told}
use Rattle.judge.proofs.Accepted.{lent_of, SizedInput, input_fits}
use Rattle.mesh.proofs.Lists.{particles_length, edges_length}
use Rattle.work.specs.Working.{Roomed, Ready}
use Rattle.call_frame.specs.Framed.{copy_need, begun_with, RoomsLent, BeginAsked, Begun}
use Rattle.work.proofs.Runs.{pick_same}

-- ---- counts

-- the rows of each list of an input
pub mesh_particles : (G : Given) → length (mesh_of G).particles ≡ (sizes G).particles
unfolding mesh_of mesh_at
mesh_particles G = particles_length (sizes G).particles G.points G.roots

pub mesh_triangles : (G : Given) → length (mesh_of G).triangles ≡ (sizes G).triangles
unfolding mesh_of mesh_at triangles_at
mesh_triangles G = tab_length (sizes G).triangles (triangle_row (length G.corners / 3) (length G.volumes / 2) G.corners G.volumes)

pub mesh_edges : (G : Given) → length (mesh_of G).edges ≡ (sizes G).edges
unfolding mesh_of mesh_at
mesh_edges G = edges_length (sizes G).edges G.ends G.lengths

pub mesh_boundary : (G : Given) → length (mesh_of G).boundary ≡ (sizes G).boundary
unfolding mesh_of mesh_at boundary_at
mesh_boundary G = tab_length (sizes G).boundary (side_row (length G.outline / 2) G.outline)

-- ---- the room for the copy

-- the first step of a run is the copy
pub copy_first : (L : M.Rooms) (G : Given) → first_fault L (start (mesh_of G)).needs ≡ too_small L (copy_need (sizes G))
unfolding start first_fault
copy_first L G =
    pick_same (too_small L _)
    ∙ ap (too_small L) (λ i. record { particles = mesh_particles G i; edges = mesh_edges G i; boundary = mesh_boundary G i; log = 0 })

-- which room lacks, by the first test that fails
module _ (k : Counts) (R : Rooms) where
  pub particles_lack : R.particles < k.particles → 5 ≡ too_small (as_rooms R) (copy_need k)
  unfolding too_small
  particles_lack p = sym (rw (lt-ltb _ _ p) refl)

  pub edges_lack : k.particles ≤ R.particles → R.edges < k.edges → 6 ≡ too_small (as_rooms R) (copy_need k)
  unfolding too_small
  edges_lack p e = sym (rw (le-ltb _ _ p, lt-ltb _ _ e) refl)

  pub boundary_lacks : k.particles ≤ R.particles → k.edges ≤ R.edges → R.boundary < k.boundary → 7 ≡ too_small (as_rooms R) (copy_need k)
  unfolding too_small
  boundary_lacks p e b = sym (rw (le-ltb _ _ p, le-ltb _ _ e, lt-ltb _ _ b) refl)

  pub none_lacks : k.particles ≤ R.particles → k.edges ≤ R.edges → k.boundary ≤ R.boundary → 0 ≡ too_small (as_rooms R) (copy_need k)
  unfolding too_small
  none_lacks p e b = sym (rw (le-ltb _ _ p, le-ltb _ _ e, le-ltb _ _ b, le-ltb R.log 0 zero-le) refl)

-- what a copy that lacks nothing knows of its counts
pub record CopyFits (k : Counts) (R : Rooms) : Type 0 where
  pub particles : k.particles ≤ R.particles
  pub edges : k.edges ≤ R.edges
  pub boundary : k.boundary ≤ R.boundary

pick_zero : (t : Bool) (n m : ℕ) → pick t (suc n) m ≡ 0 → (t ≡ false) × (m ≡ 0)
pick_zero true n m e = absurd (omega arith)
pick_zero false n m e = (refl, e)

pub copy_fits : (k : Counts) (R : Rooms) → too_small (as_rooms R) (copy_need k) ≡ 0 → CopyFits k R
unfolding too_small
copy_fits k R z =
    let p = pick_zero (ltb R.particles k.particles) 4 _ z in
    let e = pick_zero (ltb R.edges k.edges) 5 _ p.1 in
    let b = pick_zero (ltb R.boundary k.boundary) 6 _ e.1 in
    record { particles = ltb-false _ _ p.0; edges = ltb-false _ _ e.0; boundary = ltb-false _ _ b.0 }

-- ---- the copy

-- an input that has room fits into the lent blocks
pub copy_holds : (G : Given) (R : Rooms) (I : Lent) → SizedInput G → RoomsLent R I → CopyFits (sizes G) R → (sizes G).triangles ≤ R.triangles → Holds (lent_of G) I
copy_holds G R I s l f t =
    record {
      points = omega (arith, f.particles, l.points);
      roots = omega (arith, f.particles, l.roots, s.particles);
      corners = omega (arith, t, l.corners);
      volumes = omega (arith, t, l.volumes, s.triangles);
      ends = omega (arith, f.edges, l.ends);
      lengths = omega (arith, f.edges, l.lengths, s.edges);
      outline = omega (arith, f.boundary, l.outline);
    }

-- what is asked of the copy
pub copy_asked : (code : ℕ) (G : Given) (R : Rooms) (I : Lent) (lack : ℕ) → BeginAsked code R G I → code ≡ 0 → lack ≡ too_small (as_rooms R) (copy_need (sizes G)) → lack ≡ 0
    → Fits (sizes G) (lent_of G) × Holds (lent_of G) I
copy_asked code G R I lack A z e n =
    let s : SizedInput G = sizes_told _ _ _ _ _ _ _ (A.sized z) in
    (input_fits G s, copy_holds G R I s A.rooms (copy_fits (sizes G) R (sym e ∙ n)) (A.triangles z))

-- ---- what is told

-- the refusal that is there
pub begun_refused : (code : ℕ) (R : Rooms) (N held : Mesh) → (code ≡ 0 → ⊥) → Begun code R N held code
begun_refused code R N held h = record { number = sym (rw (ne_eqb code 0 h) refl); copied = λ z. absurd (h z) }

-- the room that lacks
pub begun_lacking : (code : ℕ) (R : Rooms) (G : Given) (held : Mesh) (lack : ℕ) → code ≡ 0 → lack ≡ too_small (as_rooms R) (copy_need (sizes G)) → (lack ≡ 0 → ⊥) → Begun code R (mesh_of G) held lack
begun_lacking code R G held lack z e h =
    record { number = sym (rw z (copy_first (as_rooms R) G) ∙ sym e); copied = λ n. absurd (h n) }

-- the copy
pub begun_copied : (code : ℕ) (R : Rooms) (G : Given) (held : Mesh) (lack : ℕ) → code ≡ 0 → lack ≡ too_small (as_rooms R) (copy_need (sizes G)) → lack ≡ 0 → held ≡ mesh_of G → Begun code R (mesh_of G) held 0
begun_copied code R G held lack z e n same =
    record { number = sym (rw z (copy_first (as_rooms R) G) ∙ sym e ∙ n); copied = λ _. same }

-- ---- what is asked of a call

-- the rooms of lent blocks are within them, and within the limits
pub roomed : (R : Rooms) (L : Lent) → R ≡ rooms_of L → Roomed R L
roomed R L e = rw e (by L)
  where
    three : (n a b : ℕ) → (min n (min a b) ≤ n) × (min n (min a b) ≤ a) × (min n (min a b) ≤ b)
    three n a b = (omega arith, omega arith, omega arith)

    two : (n a : ℕ) → (min n a ≤ n) × (min n a ≤ a)
    two n a = (omega arith, omega arith)

    by : (L : Lent) → Roomed (rooms_of L) L
    by L =
        record {
          few_particles = (three 1024 _ _).0;
          few_triangles = (three 1024 _ _).0;
          few_edges = (three 2048 _ _).0;
          few_boundary = (two 2048 _).0;
          few_log = (two 4096 _).0;
          points = (three 1024 _ _).1;
          roots = (three 1024 _ _).2;
          corners = (three 1024 _ _).1;
          volumes = (three 1024 _ _).2;
          ends = (three 2048 _ _).1;
          lengths = (three 2048 _ _).2;
          outline = (two 2048 _).1;
          log = (two 4096 _).1;
        }

-- the same of the seven blocks of a mesh
pub rooms_lent : {R : Rooms} (p : List Float) (r c : List ℕ) (v : List Float) (e : List ℕ) (l : List Float) (o g : List ℕ) → Roomed R (lent p r c v e l o g) → RoomsLent R (lent p r c v e l o [])
rooms_lent p r c v e l o g A =
    record { points = A.points; roots = A.roots; corners = A.corners; volumes = A.volumes; ends = A.ends; lengths = A.lengths; outline = A.outline }

-- what a call knows that no check refused
pub record Passed (G : Given) (arguments : Bool) : Type 0 where
  pub sized : sizes_fit_of G ≡ true
  pub indices : indices_fit_of (mesh_of G) ≡ true
  pub asked : arguments ≡ true

unless_not : (t : Bool) (n m : ℕ) → pick (not t) (suc n) m ≡ 0 → (t ≡ true) × (m ≡ 0)
unless_not true n m e = (refl, e)
unless_not false n m e = absurd (omega arith)

pub passed : (G : Given) (numbers arguments : Bool) → refusal (sizes_fit_of G) (mesh_of G) numbers arguments ≡ 0 → Passed G arguments
unfolding refusal
passed G numbers arguments e =
    let s = unless_not (sizes_fit_of G) 0 _ e in
    let n = unless_not (numbers_fit_of (mesh_of G) && numbers) 1 _ s.1 in
    let i = unless_not (indices_fit_of (mesh_of G)) 2 _ n.1 in
    record { sized = s.0; indices = i.0; asked = (unless_not arguments 3 _ i.1).0 }

-- where none did, the input may be copied
pub begin_asked : (G : Given) (R : Rooms) (I : Lent) (code : ℕ) (numbers arguments : Bool) → code ≡ refusal (sizes_fit_of G) (mesh_of G) numbers arguments
    → (arguments ≡ true → triangles_lent (as_rooms R) (mesh_of G) ≡ true) → RoomsLent R I → BeginAsked code R G I
begin_asked G R I code numbers arguments e t rooms =
    record {
      sized = λ z. (passed G numbers arguments (sym e ∙ z)).sized;
      triangles = λ z. let h = leb-true (length (mesh_of G).triangles) R.triangles (t (passed G numbers arguments (sym e ∙ z)).asked) in omega (arith, h, mesh_triangles G);
      rooms = rooms;
    }

-- the same where more is asked beside
pub begin_asked_beside : (G : Given) (R : Rooms) (I : Lent) (code : ℕ) (numbers beside : Bool) → code ≡ refusal (sizes_fit_of G) (mesh_of G) numbers (beside && triangles_lent (as_rooms R) (mesh_of G)) → RoomsLent R I
    → BeginAsked code R G I
begin_asked_beside G R I code numbers beside e rooms =
    begin_asked G R I code numbers (beside && triangles_lent (as_rooms R) (mesh_of G)) e (λ q. (and_true beside (triangles_lent (as_rooms R) (mesh_of G)) q).1) rooms

-- the number that the checks gave is the refusal
pub begun_by : {code code' : ℕ} {R : Rooms} {N held : Mesh} {r : ℕ} → Begun code R N held r → code ≡ code' → Begun code' R N held r
begun_by {R = R} {N} {held} {r} B e = subst (λ (n : ℕ). Begun n R N held r) e B

-- what is told is that number
pub begun_as : {code : ℕ} {R : Rooms} {N held : Mesh} {r r' : ℕ} → Begun code R N held r → r' ≡ r → Begun code R N held r'
begun_as {code} {R} {N} {held} B e = subst (Begun code R N held) (sym e) B

-- ---- where the copy was made

-- lengths that stayed
pub roomed_still : {R : Rooms} {K L : Lent} → Roomed R L → K ≡ L → Roomed R K
roomed_still {R} A e = subst (Roomed R) (sym e) A

module _ (G : Given) (numbers arguments : Bool) {R : Rooms} {held : Mesh} {begun : ℕ} (B : Begun (refusal (sizes_fit_of G) (mesh_of G) numbers arguments) R (mesh_of G) held begun) (z : begun ≡ 0) where
  -- no check refused
  unrefused : refusal (sizes_fit_of G) (mesh_of G) numbers arguments ≡ 0
  unrefused = by (refusal (sizes_fit_of G) (mesh_of G) numbers arguments) refl
    where
      by : (n : ℕ) → refusal (sizes_fit_of G) (mesh_of G) numbers arguments ≡ n → refusal (sizes_fit_of G) (mesh_of G) numbers arguments ≡ 0
      by zero q = q
      by (suc n) q =
          absurd (omega (arith, B.number ∙ ap (λ (k : ℕ). begun_with k (as_rooms R) (mesh_of G)) q ∙ step n))
        where
          step : (n : ℕ) → begun_with (suc n) (as_rooms R) (mesh_of G) ≡ suc n
          step n = rw (ne_eqb (suc n) 0 (λ d. omega arith)) refl

  pub began_passed : Passed G arguments
  began_passed = passed G numbers arguments unrefused

  -- and no room lacked
  began_fits : CopyFits (sizes G) R
  began_fits =
      copy_fits (sizes G) R
      (sym (copy_first (as_rooms R) G) ∙ sym (ap (λ (k : ℕ). begun_with k (as_rooms R) (mesh_of G)) unrefused) ∙ sym B.number ∙ z)

  -- so a worker may begin
  pub began_ready : (K : Lent) → (arguments ≡ true → triangles_lent (as_rooms R) (mesh_of G) ≡ true) → Roomed R K → Ready R (sizes G) K held
  began_ready K t rooms =
      let h = leb-true (length (mesh_of G).triangles) R.triangles (t began_passed.asked) in
      record {
        rooms = rooms;
        counts = record { particles = began_fits.particles; triangles = omega (arith, h, mesh_triangles G); edges = began_fits.edges; boundary = began_fits.boundary; log = zero-le };
        indices = ap indices_fit_of (B.copied z) ∙ began_passed.indices;
      }
