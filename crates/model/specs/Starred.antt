-- The starred cases of docs/RULES.md (R15), and the two worked meshes: the strap of length 8 and the listing's. Definitions only; proofs/Starred.antt proves them.
use Rattle.std.specs.Prelude.{ℕ, Bool, true, false, List, [], ◌∷◌, ℤ, pos, negsuc, Float}
use Rattle.std.specs.Float.{fin, binary32}
use Rattle.std.specs.Float.Ieee.{of_int}
use Rattle.float.specs.Numbers.{zero32, one, half}
use Rattle.blade.specs.declared.Point.{Point}
use Rattle.blade.specs.declared.Hit.{Hit}
use Rattle.blade.specs.declared.Hit.TheVariants.{Miss, Hit as HitAt}
use Rattle.blade.specs.Points.{length_of}
use Rattle.model.specs.Mesh.{Particle, Triangle, Edge, Side, Mesh}
use Rattle.model.specs.Run.{Rooms}
use Rattle.model.specs.Cut.{Line}
use Rattle.model.specs.Calls.{Outcome, done, split_call}
use Rattle.model.specs.Reads.{Read, value, root_call, blade_call, groups_call}

-- ---- words

-- an answer of any call
pub data Answer : Type 0 where
  meshes : Outcome → Answer
  groups : Read (List ℕ × ℕ) → Answer
  flag : Read Bool → Answer
  number : Read ℕ → Answer
  float : Read Float → Answer
  hit : Read Hit → Answer

-- what a call answers, and what it is to answer
pub record Case : Type 0 where
  pub asked : Answer
  pub wanted : Answer

-- a point with whole coordinates, 1/4, and 0.1 as the compiler rounds it
abbrev pub point : ℤ → ℤ → Point
point x y = record { x = of_int binary32 x; y = of_int binary32 y }

abbrev pub quarter : Float
quarter = fin false 1 (negsuc 1)

abbrev pub tenth : Float
tenth = fin false 13421773 (negsuc 26)

-- a free particle of mass 1 that rests where it is, with its own number as root; a triangle without stress; an edge with equal rest lengths
abbrev pub free : ℕ → Point → Particle
free n p = record { x = p.x; y = p.y; rest_x = p.x; rest_y = p.y; mass = one; inv = one; velocity_x = zero32; velocity_y = zero32; root = n; damaged = 0 }

abbrev pub triangle : ℕ → ℕ → ℕ → Float → Triangle
triangle a b c v = record { corners = a ∷ b ∷ c ∷ []; volume = v; stress = zero32 }

abbrev pub edge : ℕ → ℕ → ℕ → Float → Edge
edge a b s l = record { a = a; b = b; structural = s; torn = 0; rest = l; initial = l; impulse = zero32; stress = zero32 }

-- a boundary entry
abbrev pub side : ℕ → ℕ → Side
side a b = record { corners = a ∷ b ∷ [] }

-- the limits as rooms
abbrev pub limits : Rooms
limits = record { particles = 1024; triangles = 1024; edges = 2048; boundary = 2048; log = 4096 }

-- ---- meshes

-- (0,1,2), (0,2,3), (0,4,5), where particle 0 is as given
abbrev pub fan_with : Particle → Mesh
fan_with p =
    record {
      particles =
          p ∷ free 1 (point (pos 1) (pos 0)) ∷ free 2 (point (pos 1) (pos 1)) ∷ free 3 (point (pos 0) (pos 1)) ∷ free 4 (point (negsuc 0) (pos 0))
          ∷ free 5 (point (negsuc 0) (negsuc 0))
          ∷ [];
      triangles = triangle 0 1 2 half ∷ triangle 0 2 3 half ∷ triangle 0 4 5 half ∷ [];
      edges = [];
      boundary = [];
    }

-- with particle 0 free
abbrev pub fan_mesh : Mesh
fan_mesh = fan_with (free 0 (point (pos 0) (pos 0)))

-- the same with particle 0 pinned
abbrev pub pinned_mesh : Mesh
pinned_mesh = fan_with (record { x = zero32; y = zero32; rest_x = zero32; rest_y = zero32; mass = one; inv = zero32; velocity_x = zero32; velocity_y = zero32; root = 0; damaged = 0 })

-- three straps that share the end 0
abbrev pub star_mesh : Mesh
star_mesh =
    record {
      particles = free 0 (point (pos 0) (pos 0)) ∷ free 1 (point (pos 1) (pos 0)) ∷ free 2 (point (pos 2) (pos 0)) ∷ free 3 (point (pos 0) (pos 3)) ∷ [];
      triangles = [];
      edges = edge 0 1 1 one ∷ edge 0 2 1 one ∷ edge 0 3 1 one ∷ [];
      boundary = [];
    }

-- the strap from (0,0) to (8,0), masses 1 and 1, both rest lengths 8
abbrev pub strap_mesh : Mesh
strap_mesh =
    record {
      particles = free 0 (point (pos 0) (pos 0)) ∷ free 1 (point (pos 8) (pos 0)) ∷ [];
      triangles = [];
      edges = edge 0 1 1 (of_int binary32 (pos 8)) ∷ [];
      boundary = [];
    }

-- the whole listing's mesh
abbrev pub listing_mesh : Mesh
listing_mesh =
    let eight = of_int binary32 (pos 8) in
    let diagonal = length_of (point (pos 4) (pos 4)) in
    record {
      particles = free 0 (point (pos 0) (pos 0)) ∷ free 1 (point (pos 4) (pos 0)) ∷ free 2 (point (pos 4) (pos 4)) ∷ free 3 (point (pos 0) (pos 4)) ∷ [];
      triangles = triangle 0 1 2 eight ∷ triangle 0 2 3 eight ∷ [];
      edges = edge 0 2 1 diagonal ∷ edge 1 3 0 diagonal ∷ [];
      boundary = side 0 1 ∷ side 1 2 ∷ side 2 3 ∷ side 3 0 ∷ [];
    }

-- a line by its ends
abbrev pub blade : ℤ → ℤ → ℤ → ℤ → Line
blade x0 y0 x1 y1 = record { from = point x0 y0; to = point x1 y1 }

-- ---- the starred cases

-- all twelve, in that order
abbrev pub starred : List Case
starred =
    -- sides 0,0,0 give groups 0,0,1; sides 1,0,0 give 2,0,1; strap sides 0,1,0 at a shared end give 0,1,0
    record { asked = groups (groups_call true fan_mesh 0 (0 ∷ 0 ∷ 0 ∷ [])); wanted = groups (value ((0 ∷ 0 ∷ 1 ∷ []), 2)) }
    ∷ record { asked = groups (groups_call true fan_mesh 0 (1 ∷ 0 ∷ 0 ∷ [])); wanted = groups (value ((2 ∷ 0 ∷ 1 ∷ []), 3)) }
    ∷ record { asked = groups (groups_call true star_mesh 0 (0 ∷ 1 ∷ 0 ∷ [])); wanted = groups (value ((0 ∷ 1 ∷ 0 ∷ []), 2)) }
    -- pinned v: unchanged; one element: unchanged. (proofs/Splitting.antt has both for any mesh.)
    ∷ record { asked = meshes (split_call true pinned_mesh 0 (1 ∷ 0 ∷ 0 ∷ []) limits); wanted = meshes (done pinned_mesh [] false) }
    ∷ record { asked = meshes (split_call true fan_mesh 1 (1 ∷ []) limits); wanted = meshes (done fan_mesh [] false) }
    -- blade (2,-1) to (2,1), edge (0,0) to (8,0): 0.25 at (2,0); edge (2,0) to (2,5): miss; blade (2,0) to (2,1): hit; blade (3,3) to (3,3): miss
    ∷ record { asked = hit (blade_call (blade (pos 2) (negsuc 0) (pos 2) (pos 1)) (point (pos 0) (pos 0)) (point (pos 8) (pos 0))); wanted = hit (value (HitAt quarter (point (pos 2) (pos 0)))) }
    ∷ record { asked = hit (blade_call (blade (pos 2) (negsuc 0) (pos 2) (pos 1)) (point (pos 2) (pos 0)) (point (pos 2) (pos 5))); wanted = hit (value Miss) }
    ∷ record { asked = hit (blade_call (blade (pos 2) (pos 0) (pos 2) (pos 1)) (point (pos 0) (pos 0)) (point (pos 8) (pos 0))); wanted = hit (value (HitAt quarter (point (pos 2) (pos 0)))) }
    ∷ record { asked = hit (blade_call (blade (pos 3) (pos 3) (pos 3) (pos 3)) (point (pos 0) (pos 0)) (point (pos 8) (pos 0))); wanted = hit (value Miss) }
    -- roots of 0, 4 and 0.25
    ∷ record { asked = float (root_call zero32); wanted = float (value zero32) }
    ∷ record { asked = float (root_call (of_int binary32 (pos 4))); wanted = float (value (of_int binary32 (pos 2))) }
    ∷ record { asked = float (root_call quarter); wanted = float (value half) }
    ∷ []
