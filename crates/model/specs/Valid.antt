-- Which meshes are accepted: docs/RULES.md, R2.9 and R2.10, and the refusals 2 and 3. Definitions only.
use Rattle.std.specs.Prelude.{ℕ, Bool, true, not, ◌&&◌, List, [], ◌∷◌, length, ltb, eqb}
use Rattle.lists.specs.Lists.{stands, all}
use Rattle.float.specs.Ranges.{finite?, number?, volume?, not_below0?}
use Rattle.model.specs.Mesh.{Particle, Triangle, Edge, Side, Mesh}

-- ---- 2: numbers and flags

-- a flag is 0 or 1
abbrev pub flag? : ℕ → Bool
flag? f = ltb f 2

-- magnitudes at most 1,048,576, but for the inverse mass, which is finite
unfoldable pub particle_ok : Particle → Bool
particle_ok p =
    number? p.x && number? p.y && number? p.rest_x && number? p.rest_y && number? p.mass && finite? p.inv && number? p.velocity_x
    && number? p.velocity_y && flag? p.damaged

-- a rest volume's magnitude at most 4,194,304
unfoldable pub triangle_ok : Triangle → Bool
triangle_ok t = volume? t.volume && number? t.stress

-- both rest lengths at least 0
unfoldable pub edge_ok : Edge → Bool
edge_ok e =
    flag? e.structural && flag? e.torn && number? e.rest && number? e.initial && not_below0? e.rest && not_below0? e.initial && number? e.impulse
    && number? e.stress

-- every number and flag of a mesh is in its range
unfoldable pub numbers_fit_of : Mesh → Bool
numbers_fit_of M = all particle_ok M.particles && all triangle_ok M.triangles && all edge_ok M.edges

-- ---- 3: indices and roots

-- each names one of n particles, and none is named twice
unfoldable pub named : ℕ → List ℕ → Bool
named n [] = true
named n (x ∷ l) = ltb x n && not (stands x l) && named n l

-- a root names one of n particles; a triangle names three different ones, an edge and a boundary entry two
unfoldable pub root_ok : ℕ → Particle → Bool
root_ok n p = ltb p.root n

unfoldable pub corners_ok : ℕ → Triangle → Bool
corners_ok n t = eqb (length t.corners) 3 && named n t.corners

unfoldable pub ends_ok : ℕ → Edge → Bool
ends_ok n e = named n (e.a ∷ e.b ∷ [])

unfoldable pub side_ok : ℕ → Side → Bool
side_ok n s = eqb (length s.corners) 2 && named n s.corners

-- every index and root of a mesh
unfoldable pub indices_fit_of : Mesh → Bool
indices_fit_of M =
    let n = length M.particles in
    all (root_ok n) M.particles && all (corners_ok n) M.triangles && all (ends_ok n) M.edges && all (side_ok n) M.boundary
