-- The split of a particle by the groups of its fan: `split_fan` and `split_vertex`, part by part in their order. Definitions only.
use Rattle.std.specs.Prelude.{ℕ, suc, ◌+◌, ◌-◌, Bool, not, ◌&&◌, ◌||◌, List, [], ◌∷◌, ◌++◌, map, length, get_or, eqb, leb, Float}
use Rattle.std.proofs.Math.Option.{Option, none, some}
use Rattle.std.specs.Float.Ieee.{neg, lt, ne}
use Rattle.lists.specs.Lists.{pick, stands, any, all, sift, find, fold, each, pairs, map_at_of, empty, head_or, rest, or_else, up_to, rising, disjoint}
use Rattle.lists.specs.Labels.{replaced}
use Rattle.float.specs.Numbers.{over, times, zero32, count32, max_of, small, largest, inv_of, share_of}
use Rattle.blade.specs.declared.Point.{Point}
use Rattle.blade.specs.Points.{minus_of, dot_of, sum_of, length_of}
use Rattle.fan.specs.Fan.{shared_others_of}
use Rattle.fan.specs.Groups.{groups_of, count_of}
use Rattle.model.specs.Mesh.{Particle, Triangle, Edge, Side, Mesh, changed_to, blank, blank_triangle}
use Rattle.model.specs.Elements.{Kind, Triangles, Straps, Nothing, Element, particle, rest_of, ends_of, side_ends, far_end_of, besides, sum, element?, held, fan_of, grid_of}
use Rattle.model.specs.Run.{Entry, split, edge, Run, step_to}

-- ---- the split to be made

-- an element of the fan with its group; and the fan's elements with their groups
pub record Part : Type 0 where
  pub number : ℕ
  pub corners : List ℕ
  pub measure : Float
  pub group : ℕ

unfoldable pub parts_of : List Element → List ℕ → List Part
parts_of [] gs = []
parts_of (e ∷ es) [] = []
parts_of (e ∷ es) (g ∷ gs) = record { number = e.number; corners = e.corners; measure = e.measure; group = g } ∷ parts_of es gs

-- a split to be made: at v, with so many particles before it, by a fan of so many groups
pub record Opening : Type 0 where
  pub v : ℕ
  pub before : ℕ
  pub fan : List Part
  pub count : ℕ

-- v's fan with a side for each element, grouped
unfoldable pub opening_of : Kind → Mesh → ℕ → List ℕ → Opening
opening_of k M v sides =
    let F = grid_of k v (fan_of k M v) sides in
    record { v = v; before = length M.particles; fan = parts_of (fan_of k M v) (groups_of F); count = count_of F }

-- v splits if it has two groups or more and its inverse mass isn't 0
unfoldable pub splits? : Opening → Mesh → Bool
splits? O M = leb 2 O.count && ne (particle M O.v).inv zero32

-- group 0 keeps v, each other group gets a copy, appended in group order: with n particles before, the copy of group g is n + g - 1
abbrev pub copy_for_of : ℕ → ℕ → ℕ → ℕ
copy_for_of v n g = pick (eqb g 0) v (n + g - 1)

abbrev pub copy_of : Opening → ℕ → ℕ
copy_of O g = copy_for_of O.v O.before g

-- the copies; and v with its copies
unfoldable pub made : Opening → List ℕ
made O = map (λ g. O.before + g) (up_to (O.count - 1))

abbrev pub copies : Opening → List ℕ
copies O = O.v ∷ made O

-- ---- 1: masses and copies

-- the weight of group g: its measures, added in element order; and the total of all weights
unfoldable pub weight_of : List Part → ℕ → Float
weight_of fan g = sum (map (λ (p : Part). p.measure) (sift (λ (p : Part). eqb p.group g) fan))

unfoldable pub total_of : Opening → Float
total_of O = sum (map (weight_of O.fan) (up_to O.count))

-- the mass is (mass times weight) divided by total; with total 0 it is divided equally
unfoldable pub mass_of : Opening → Float → ℕ → Float
mass_of O m g = pick (lt zero32 (total_of O)) (share_of m (weight_of O.fan g) (total_of O)) (over m (count32 O.count))

-- p with another mass and inverse mass
abbrev pub weighed : Float → Float → Particle → Particle
weighed m w p = changed_to m w p.damaged p

-- v as group g has it, with the same root
unfoldable pub portion : Opening → ℕ → Particle → Particle
portion O g p = let m = mass_of O p.mass g in weighed m (inv_of m) p

-- f at place i alone
abbrev pub only_at : {A : Type 0} → ℕ → (A → A) → ℕ → A → A
only_at i f k a = pick (eqb k i) (f a) a

-- v has the mass of group 0, and the copies are appended
unfoldable pub copied : Opening → List Particle → List Particle
copied O ps = map_at_of (only_at O.v (portion O 0)) ps ++ map (λ g. portion O (suc g) (get_or ps O.v blank)) (up_to (O.count - 1))

-- ---- 2: the fan's elements have their groups' copies for v

-- the group of element number i, or 0 if it is none of the fan's: then v stays v
unfoldable pub group_at_of : List Part → ℕ → ℕ
group_at_of [] i = 0
group_at_of (p ∷ ps) i = pick (eqb p.number i) p.group (group_at_of ps i)

-- a triangle, and an edge, with w for v
abbrev pub retargeted : ℕ → ℕ → Triangle → Triangle
retargeted v w t = record { corners = map (replaced v w) t.corners; volume = t.volume; stress = t.stress }

abbrev pub moved : ℕ → ℕ → Edge → Edge
moved v w e =
    record {
      a = replaced v w e.a;
      b = replaced v w e.b;
      structural = e.structural;
      torn = e.torn;
      rest = e.rest;
      initial = e.initial;
      impulse = e.impulse;
      stress = e.stress;
    }

-- triangle by triangle, where the elements are triangles
unfoldable pub rewired_triangles : Kind → Opening → List Triangle → List Triangle
rewired_triangles Triangles O ts = map_at_of (λ i. retargeted O.v (copy_of O (group_at_of O.fan i))) ts
rewired_triangles Straps O ts = ts
rewired_triangles Nothing O ts = ts

-- edge by edge, where the elements are straps
unfoldable pub rewired_straps : Kind → Opening → List Edge → List Edge
rewired_straps Triangles O es = es
rewired_straps Straps O es = map_at_of (λ i. moved O.v (copy_of O (group_at_of O.fan i))) es
rewired_straps Nothing O es = es

-- ---- 3: the other edges at v

-- the groups of the fan elements that hold x, rising
unfoldable pub ring : Opening → ℕ → List ℕ
ring O x = rising O.count (map (λ (p : Part). p.group) (sift (λ (p : Part). stands x p.corners) O.fan))

-- the best score so far, and its group: a higher score takes over, an equal one does not
pub record Best : Type 0 where
  pub score : Float
  pub group : ℕ

-- a score s of group g in turn
abbrev pub better : Best → Float → ℕ → Best
better b s g = pick (lt b.score s) (record { score = s; group = g }) b

-- how well w lies in the direction dir from v, in the rest shape: the dot product over the product of the lengths, which counts as 1e-12 at least
unfoldable pub score_of : Mesh → ℕ → Point → ℕ → Float
score_of M v dir w =
    let d = minus_of (rest_of M w) (rest_of M v) in
    over (dot_of d dir) (max_of (times (length_of d) (length_of dir)) small)

-- each corner of p besides v in turn
unfoldable pub scored : Mesh → ℕ → Point → Best → Part → Best
scored M v dir b p = fold (λ (c : Best) w. better c (score_of M v dir w) p.group) b (besides v p.corners)

-- `group_toward`: the group whose fan points best to x in the rest shape. (It is only asked for an x that no fan element holds: see proofs/Toward.antt.)
unfoldable pub toward : Mesh → Opening → ℕ → ℕ
toward M O x =
    let dir = sum_of (minus_of (rest_of M x) (rest_of M O.v) ∷ []) in
    (fold (scored M O.v dir) (record { score = neg largest; group = 0 }) O.fan).group

-- the groups that an edge from v to x goes to: those that hold x, or else the one that points to it
unfoldable pub edge_groups : Mesh → Opening → ℕ → List ℕ
edge_groups M O x = or_else (ring O x) (toward M O x ∷ [])

-- an edge at v that is no element
abbrev pub other? : Kind → Opening → Edge → Bool
other? k O e = not (element? k e) && stands O.v (ends_of e)

-- e with impulse 0
abbrev pub calm : Edge → Edge
calm e = record { a = e.a; b = e.b; structural = e.structural; torn = e.torn; rest = e.rest; initial = e.initial; impulse = zero32; stress = e.stress }

-- such an edge stays in the lowest of its groups, and gets a copy, impulse 0, per further group
unfoldable pub stayed : Kind → Mesh → Opening → Edge → Edge
stayed k M O e = pick (other? k O e) (moved O.v (copy_of O (head_or 0 (edge_groups M O (far_end_of O.v e)))) e) e

unfoldable pub doubled : Kind → Mesh → Opening → Edge → List Edge
doubled k M O e = pick (other? k O e) (map (λ g. calm (moved O.v (copy_of O g) e)) (rest (edge_groups M O (far_end_of O.v e)))) []

-- the copies of all edges stand behind them
unfoldable pub other_edges : Kind → Mesh → Opening → List Edge → List Edge
other_edges k M O es = map (stayed k M O) es ++ each (doubled k M O) es

-- ---- 4: straddlers

-- both are neighbours of v, with no common group
unfoldable pub parted : Opening → ℕ → ℕ → Bool
parted O x y = not (empty (ring O x)) && not (empty (ring O y)) && disjoint (ring O x) (ring O y)

-- an edge, never a strap element, between two neighbours of v with no common group goes, unless an element holds both
unfoldable pub straddles : Kind → Mesh → Opening → Edge → Bool
straddles k M O e = not (element? k e) && not (any (λ w. stands w (copies O)) (ends_of e)) && parted O e.a e.b && not (held k M e.a e.b)

-- ---- 5: boundary

-- a boundary entry at v follows the first fan element that holds it, or else the group that points to its other end
abbrev pub part_group : Option Part → ℕ → ℕ
part_group none g = g
part_group (some p) g = p.group

-- the group that the boundary entry s follows
unfoldable pub side_group : Mesh → Opening → Side → ℕ
side_group M O s =
    part_group (find (λ (p : Part). all (λ x. stands x p.corners) (side_ends s)) O.fan)
    (toward M O (head_or O.v (besides O.v s.corners)))

-- s with w for v
abbrev pub turned : ℕ → ℕ → Side → Side
turned v w s = record { corners = map (replaced v w) s.corners }

-- an entry at v follows its group
unfoldable pub followed : Mesh → Opening → Side → Side
followed M O s = pick (stands O.v (side_ends s)) (turned O.v (copy_of O (side_group M O s)) s) s

-- ---- 6: crack facets

-- the sides of a row of corners from y on, each with the one behind it, and the last with x
abbrev pub sides_back : ℕ → ℕ → List ℕ → List Side
sides_back x y [] = record { corners = y ∷ x ∷ [] } ∷ []
sides_back x y (z ∷ l) = record { corners = y ∷ z ∷ [] } ∷ sides_back x z l

-- all of them, round about: those of a, b, c are (a, b), (b, c), (c, a)
abbrev pub sides_round : List ℕ → List Side
sides_round [] = []
sides_round (x ∷ l) = sides_back x x l

-- the faces of a triangle
abbrev pub faces_of : Triangle → List Side
faces_of t = sides_round t.corners

-- what is found, as a list
abbrev pub one_or_none : {A : Type 0} → Option A → List A
one_or_none none = []
one_or_none (some a) = a ∷ []

-- does w lie on the facet that p and q shared, as r's group has it: r's copy of v, or a particle besides v of both
abbrev pub on_facet : Opening → Part → Part → Part → ℕ → Bool
on_facet O p q r w = eqb w (copy_of O r.group) || (not (eqb w O.v) && stands w p.corners && stands w q.corners)

-- the first face on it of r's triangle as it is now
unfoldable pub face_on : Mesh → Opening → Part → Part → Part → List Side
face_on M O p q r = one_or_none (find (λ (s : Side). all (on_facet O p q r) (side_ends s)) (faces_of (get_or M.triangles r.number blank_triangle)))

-- two triangles of the fan, of different groups, that shared exactly one particle besides v: the crack opens between them
abbrev pub opens? : ℕ → Part → Part → Bool
opens? v p q = not (eqb p.group q.group) && eqb (shared_others_of v p.corners q.corners) 1

-- the two faces that open there
unfoldable pub facets_at : Mesh → Opening → Part × Part → List Side
facets_at M O pq = pick (opens? O.v pq.0 pq.1) (face_on M O pq.0 pq.1 pq.0 ++ face_on M O pq.0 pq.1 pq.1) []

-- for triangles alone, pair by pair
unfoldable pub crack_facets : Kind → Mesh → Opening → List Side
crack_facets Triangles M O = each (facets_at M O) (pairs O.fan)
crack_facets Straps M O = []
crack_facets Nothing M O = []

-- ---- the whole

-- parts 1 to 3: the edges are at their longest
unfoldable pub at_longest : Kind → Opening → Mesh → Mesh
at_longest k O M =
    record {
      particles = copied O M.particles;
      triangles = rewired_triangles k O M.triangles;
      edges = other_edges k M O (rewired_straps k O M.edges);
      boundary = M.boundary;
    }

-- parts 4 to 6, on that mesh
unfoldable pub settled : Kind → Opening → Mesh → Mesh
settled k O M =
    record {
      particles = M.particles;
      triangles = M.triangles;
      edges = sift (λ (e : Edge). not (straddles k M O e)) M.edges;
      boundary = map (followed M O) M.boundary ++ crack_facets k M O;
    }

-- the log: each copy with its source, then the edges that went, by their ends
unfoldable pub split_entries : Opening → List Entry
split_entries O = map (λ c. split c O.v) (made O)

unfoldable pub gone_entries : (Edge → Bool) → List Edge → List Entry
gone_entries gone es = map (λ (e : Edge). edge e.a e.b) (sift gone es)

-- the split as one step (`step_to`, in Run): f is done to the mesh behind it, and `more` logged
unfoldable pub split_made : List Entry → (Mesh → Mesh) → Kind → Opening → Run → Run
split_made more f k O R =
    let M = at_longest k O R.mesh in
    let M' = settled k O M in
    step_to R (f M') (split_entries O ++ gone_entries (straddles k M O) M.edges ++ more) (length M.edges) (length M'.boundary)

-- `split_fan`: the split if v splits; else nothing changes
unfoldable pub split_step : List Entry → (Mesh → Mesh) → Kind → Opening → Run → Run
split_step more f k O R = pick (splits? O R.mesh) (split_made more f k O R) R

-- v split by sides, one for each element of its fan
unfoldable pub split_by_sides_of : Kind → ℕ → List ℕ → Run → Run
split_by_sides_of k v sides R = split_step [] (λ M. M) k (opening_of k R.mesh v sides) R
