-- The kinds of mesh, the elements of each, their measures, and the fan of a particle. Definitions only.
use Rattle.std.specs.Prelude.{ℕ, suc, Bool, true, false, not, ◌&&◌, List, [], ◌∷◌, map, get_or, eqb, Float}
use Rattle.lists.specs.Lists.{pick, stands, any, all, sift, fold, each}
use Rattle.float.specs.Numbers.{plus, zero32, abs_of}
use Rattle.blade.specs.declared.Point.{Point}
use Rattle.fan.specs.Fan.{Fan, fan}
use Rattle.model.specs.Mesh.{Particle, Triangle, Edge, Side, Mesh, blank, blank_edge}

-- ---- reading a mesh

-- particle v, and edge number i
abbrev pub particle : Mesh → ℕ → Particle
particle M v = get_or M.particles v blank

abbrev pub edge_at : Mesh → ℕ → Edge
edge_at M i = get_or M.edges i blank_edge

-- where a particle is, where it rests, and how fast it goes
abbrev pub at : Particle → Point
at p = record { x = p.x; y = p.y }

abbrev pub rest_at : Particle → Point
rest_at p = record { x = p.rest_x; y = p.rest_y }

abbrev pub velocity_at : Particle → Point
velocity_at p = record { x = p.velocity_x; y = p.velocity_y }

-- the same of particle v
unfoldable pub place_of : Mesh → ℕ → Point
place_of M v = at (particle M v)

unfoldable pub rest_of : Mesh → ℕ → Point
rest_of M v = rest_at (particle M v)

abbrev pub velocity_of : Mesh → ℕ → Point
velocity_of M v = velocity_at (particle M v)

-- the particles that a triangle, an edge, a boundary entry names
abbrev pub corners_of : Triangle → List ℕ
corners_of t = t.corners

abbrev pub ends_of : Edge → List ℕ
ends_of e = e.a ∷ e.b ∷ []

abbrev pub side_ends : Side → List ℕ
side_ends s = s.corners

-- the end that isn't v
abbrev pub far_end_of : ℕ → Edge → ℕ
far_end_of v e = pick (eqb e.a v) e.b e.a

-- the numbers of a list besides v
unfoldable pub besides : ℕ → List ℕ → List ℕ
besides v l = sift (λ w. not (eqb w v)) l

-- numbers added in order, from 0
unfoldable pub sum : List Float → Float
sum l = fold plus zero32 l

-- ---- kinds

-- A mesh is triangles if it has any; else straps if it has a structural edge; else nothing.
pub data Kind : Type 0 where
  Triangles : Kind
  Straps : Kind
  Nothing : Kind

-- is it the kind of straps
abbrev pub straps? : Kind → Bool
straps? Triangles = false
straps? Straps = true
straps? Nothing = false

-- is the structural flag set
abbrev pub structural? : Edge → Bool
structural? e = eqb e.structural 1

-- by the triangles, and by whether some edge is structural
unfoldable pub kind_by : List Triangle → Bool → Kind
kind_by (t ∷ ts) s = Triangles
kind_by [] true = Straps
kind_by [] false = Nothing

-- the kind of a mesh
unfoldable pub kind_of : Mesh → Kind
kind_of M = kind_by M.triangles (any structural? M.edges)

-- ---- elements

-- an element: its number among the triangles or the edges, its corners, and its measure
pub record Element : Type 0 where
  pub number : ℕ
  pub corners : List ℕ
  pub measure : Float

-- a triangle's measure is its absolute rest volume, a strap's its initial rest length
abbrev pub triangle_element : ℕ → Triangle → Element
triangle_element i t = record { number = i; corners = corners_of t; measure = abs_of t.volume }

abbrev pub strap_element : ℕ → Edge → Element
strap_element i e = record { number = i; corners = ends_of e; measure = e.initial }

-- the triangles, and the structural edges, where the first of the list is number i
unfoldable pub triangles_from : ℕ → List Triangle → List Element
triangles_from i [] = []
triangles_from i (t ∷ ts) = triangle_element i t ∷ triangles_from (suc i) ts

unfoldable pub straps_from : ℕ → List Edge → List Element
straps_from i [] = []
straps_from i (e ∷ es) = pick (structural? e) (strap_element i e ∷ straps_from (suc i) es) (straps_from (suc i) es)

-- the elements of a mesh of kind k: all triangles, or all structural edges, by rising number
unfoldable pub elements_of : Kind → Mesh → List Element
elements_of Triangles M = triangles_from 0 M.triangles
elements_of Straps M = straps_from 0 M.edges
elements_of Nothing M = []

-- is an edge an element: the structural edges of straps are, and no edge of triangles is
abbrev pub element? : Kind → Edge → Bool
element? Triangles e = false
element? Straps e = structural? e
element? Nothing e = false

-- some element holds both x and y
unfoldable pub held : Kind → Mesh → ℕ → ℕ → Bool
held k M x y = any (λ (e : Element). stands x e.corners && stands y e.corners) (elements_of k M)

-- ---- measures

-- `rest_measure`: the measures of all elements, added in element order
unfoldable pub rest_measure : Mesh → Float
rest_measure M = sum (map (λ (e : Element). e.measure) (elements_of (kind_of M) M))

-- `rest_measure_of`: of the elements with all corners among these particles
unfoldable pub the_rest_measure_of : Mesh → List ℕ → Float
the_rest_measure_of M ps = sum (map (λ (e : Element). e.measure) (sift (λ (e : Element). all (λ w. stands w ps) e.corners) (elements_of (kind_of M) M)))

-- ---- fans

-- the fan of v: the elements that hold it, by rising number
unfoldable pub fan_of : Kind → Mesh → ℕ → List Element
fan_of k M v = sift (λ (e : Element). stands v e.corners) (elements_of k M)

-- how many corners an element has. (A mesh of nothing has no element.)
abbrev pub corners_per_of : Kind → ℕ
corners_per_of Triangles = 3
corners_per_of Straps = 2
corners_per_of Nothing = 2

-- `facet_others`: how many particles besides v two neighbours of one side share at least
abbrev pub facet_others_of : Kind → ℕ
facet_others_of Triangles = 1
facet_others_of Straps = 0
facet_others_of Nothing = 0

-- the fan as the grouping takes it: all corners in one list, and a side for each element
unfoldable pub grid_of : Kind → ℕ → List Element → List ℕ → Fan
grid_of k v es sides = fan (each (λ (e : Element). e.corners) es) (corners_per_of k) v (facet_others_of k) sides
