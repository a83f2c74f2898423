-- A history of a mesh of triangles: accepted calls, one behind the other, with the host at work between them. Definitions only.
-- It says nothing of straps, nor of a host that changes the triangles, the roots or the number of anything: such a mesh starts a history of its own.
use Rattle.std.specs.Prelude.{ℕ, ◌+◌, ◌-◌, ◌*◌, ◌<◌, ◌≤◌, ◌≡◌, Bool, true, List, [], ◌++◌, map, length, T, Float}
use Rattle.std.specs.Float.{binary32}
use Rattle.std.specs.Float.Ieee.{fits}
use Rattle.lists.specs.Lists.{each, up_to, rising}
use Rattle.model.specs.Mesh.{Particle, Triangle, Edge, Mesh}
use Rattle.model.specs.Valid.{numbers_fit_of, indices_fit_of}
use Rattle.model.specs.Elements.{kind_of, particle, corners_of, ends_of}
use Rattle.model.specs.Run.{Entry, Need, Rooms, Run, start, splits_of}
use Rattle.model.specs.Split.{split_by_sides_of}
use Rattle.model.specs.Pieces.{remove_straddlers_of}
use Rattle.model.specs.Cut.{Line, Blade, cut}
use Rattle.model.specs.Crack.{crack}
use Rattle.model.specs.Calls.{sides_ok, first_fault, refused, done, cut_call, crack_call, split_call, straddlers_call}
use Rattle.model.specs.Trace.{All, Sound, traced_back, Hold}
use Rattle.model.specs.Refusals.{particle_refusal}

-- the first mesh: it has a triangle, it is accepted, and each particle is its own root
pub record Begins (M : Mesh) : Type 0 where
  pub some : 0 < length M.triangles
  pub numbers : numbers_fit_of M ≡ true
  pub indices : indices_fit_of M ≡ true
  pub roots : map (λ (p : Particle). p.root) M.particles ≡ up_to (length M.particles)

-- A call on M with the rooms L, of any arguments, is done: it gives M' and logs `more`.
pub data Called (L : Rooms) (M : Mesh) : Mesh → List Entry → Type 0 where
  cutting : {M' : Mesh} {more : List Entry} {c : Bool} (n : ℕ) (B : Line) (f : Float) → cut_call true M n B f L ≡ done M' more c → Called L M M' more
  cracking : {M' : Mesh} {more : List Entry} {c : Bool} (is : List ℕ) (min : ℕ) → crack_call true M is min L ≡ done M' more c → Called L M M' more
  splitting : {M' : Mesh} {more : List Entry} {c : Bool} (v : ℕ) (sides : List ℕ) → split_call true M v sides L ≡ done M' more c → Called L M M' more
  removing : {M' : Mesh} {more : List Entry} {c : Bool} → straddlers_call true M L ≡ done M' more c → Called L M M' more

-- The host has changed M to M': points, masses, inverse masses, rest positions, velocities, damage, volumes, stresses, lengths, impulses and torn flags have any accepted values.
-- Triangles hold the particles that they held, and so do edges and boundary entries; roots, structural flags, and the number of everything are as they were.
pub record Moved (M M' : Mesh) : Type 0 where
  pub roots : map (λ (p : Particle). p.root) M'.particles ≡ map (λ (p : Particle). p.root) M.particles
  pub corners : map corners_of M'.triangles ≡ map corners_of M.triangles
  pub ends : map ends_of M'.edges ≡ map ends_of M.edges
  pub structural : map (λ (e : Edge). e.structural) M'.edges ≡ map (λ (e : Edge). e.structural) M.edges
  pub boundary : M'.boundary ≡ M.boundary
  pub numbers : numbers_fit_of M' ≡ true

-- The mesh M₀, through a history, is now this mesh, and the logs of its calls, one behind the other, are this log.
-- A call goes on from its result if it is done, with any rooms; a refused call is no step, as it gives no mesh.
pub data History (M₀ : Mesh) : Mesh → List Entry → Type 0 where
  first : Begins M₀ → History M₀ M₀ []
  calling : {M M' : Mesh} {log more : List Entry} (L : Rooms) → History M₀ M log → Called L M M' more → History M₀ M' (log ++ more)
  moving : {M M' : Mesh} {log : List Entry} → History M₀ M log → Moved M M' → History M₀ M' log

-- the roots of a triangle's particles
abbrev pub roots_of : Mesh → Triangle → List ℕ
roots_of M t = map (λ x. (particle M x).root) (corners_of t)

-- Every triangle of M has three different particles; it stands in its old place, and traced back through the log's copies it is the triangle of M₀ that it was;
-- and the roots of its particles are the particles that it had in M₀.
pub record Lasting (M₀ M : Mesh) (log : List Entry) : Type 0 where
  pub sound : All (Sound (length M.particles)) M.triangles
  pub back : map (traced_back (splits_of log)) M.triangles ≡ map corners_of M₀.triangles
  pub roots : map (roots_of M) M.triangles ≡ map corners_of M₀.triangles

-- how many particles the triangles of M hold: each is counted once
unfoldable pub in_use : Mesh → ℕ
in_use M = length (rising (length M.particles) (each corners_of M.triangles))

-- the most particles that a history from M₀ can have: the first number, plus three per triangle, less those in use at first
unfoldable pub most_particles : Mesh → ℕ
most_particles M₀ = length M₀.particles + 3 * length M₀.triangles - in_use M₀

-- Demand 3, whole, of a mesh that a history from M₀ has come to: the triangles last; every particle past the first number belongs to one; and so there are no more than the most.
pub record Afternoon (M₀ M : Mesh) (log : List Entry) : Type 0 where
  pub lasting : Lasting M₀ M log
  pub held : (x : ℕ) → length M₀.particles ≤ x → x < length M.particles → Hold x M.triangles
  pub bounded : length M.particles ≤ most_particles M₀

-- P of the run of every call on M, a cut by any rule: whether the call is then done, or refused for any room. (A split has a side, 0 or 1, for each triangle at v: others are refused before.)
pub record EveryRun (P : Run → Type 0) (M : Mesh) : Type 0 where
  pub cuts : (B : Blade) (f : Float) → P (cut (kind_of M) B f (start M))
  pub cracks : (is : List ℕ) (min : ℕ) → P (crack (kind_of M) min is (start M))
  pub splits : (v : ℕ) (sides : List ℕ) → sides_ok M v sides ≡ true → P (split_by_sides_of (kind_of M) v sides (start M))
  pub straddlers : P (remove_straddlers_of (kind_of M) (start M))

-- a run has, and needed in any of its steps, at most n particles
pub record Within (n : ℕ) (R : Run) : Type 0 where
  pub particles : length R.mesh.particles ≤ n
  pub needs : All (λ (N : Need). N.particles ≤ n) R.needs

-- a run is not refused for the room for particles
abbrev pub Unrefused : Rooms → Run → Type 0
Unrefused L R = first_fault L R.needs ≡ particle_refusal → ⊥

-- no call on M with the rooms L is refused for the room for particles
pub record Roomy (L : Rooms) (M : Mesh) : Type 0 where
  pub runs : EveryRun (Unrefused L) M
  pub cuts : (sized : Bool) (n : ℕ) (B : Line) (f : Float) → cut_call sized M n B f L ≡ refused particle_refusal → ⊥
  pub cracks : (sized : Bool) (is : List ℕ) (min : ℕ) → crack_call sized M is min L ≡ refused particle_refusal → ⊥
  pub splits : (sized : Bool) (v : ℕ) (sides : List ℕ) → split_call sized M v sides L ≡ refused particle_refusal → ⊥
  pub straddlers : (sized : Bool) → straddlers_call sized M L ≡ refused particle_refusal → ⊥

-- every number of a particle, a triangle, an edge is one that f32 holds, as the columns of a mesh can have no other
pub record Particle32 (p : Particle) : Type 0 where
  pub x : T (fits binary32 p.x)
  pub y : T (fits binary32 p.y)
  pub rest_x : T (fits binary32 p.rest_x)
  pub rest_y : T (fits binary32 p.rest_y)
  pub mass : T (fits binary32 p.mass)
  pub inv : T (fits binary32 p.inv)
  pub velocity_x : T (fits binary32 p.velocity_x)
  pub velocity_y : T (fits binary32 p.velocity_y)

pub record Triangle32 (t : Triangle) : Type 0 where
  pub volume : T (fits binary32 t.volume)
  pub stress : T (fits binary32 t.stress)

pub record Edge32 (e : Edge) : Type 0 where
  pub rest : T (fits binary32 e.rest)
  pub initial : T (fits binary32 e.initial)
  pub impulse : T (fits binary32 e.impulse)
  pub stress : T (fits binary32 e.stress)

-- so is every number of a mesh
pub record Stored (M : Mesh) : Type 0 where
  pub particles : All Particle32 M.particles
  pub triangles : All Triangle32 M.triangles
  pub edges : All Edge32 M.edges

-- the host puts such numbers into the mesh, at first and in each move
abbrev pub HostStores : {M₀ M : Mesh} {log : List Entry} → History M₀ M log → Type 0
HostStores {M₀} (first b) = Stored M₀
HostStores (calling L h C) = HostStores h
HostStores (moving {M' = M'} h W) = HostStores h × Stored M'

-- a mesh within the limits on counts, which refusal 1 lets pass
pub record Few (M : Mesh) : Type 0 where
  pub particles : length M.particles ≤ 1024
  pub triangles : length M.triangles ≤ 1024
  pub edges : length M.edges ≤ 2048
  pub boundary : length M.boundary ≤ 2048

-- a mesh that refusals 2 and 3 let pass
pub record Accepted (M : Mesh) : Type 0 where
  pub numbers : numbers_fit_of M ≡ true
  pub stored : Stored M
  pub indices : indices_fit_of M ≡ true

-- and that is no longer than the rooms, nor is its log: as rooms are within the limits, refusal 1 lets it pass too
pub record Again (L : Rooms) (M : Mesh) (log : List Entry) : Type 0 where
  pub accepted : Accepted M
  pub particles : length M.particles ≤ L.particles
  pub triangles : length M.triangles ≤ L.triangles
  pub edges : length M.edges ≤ L.edges
  pub boundary : length M.boundary ≤ L.boundary
  pub entries : length log ≤ L.log
