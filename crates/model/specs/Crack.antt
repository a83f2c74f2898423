-- Cracks across torn edges: `crack_body` with no torn cells. Definitions only.
use Rattle.std.specs.Prelude.{ℕ, Bool, true, false, ◌&&◌, ◌||◌, List, [], ◌∷◌, ◌++◌, map, length, get_or, eqb, ltb, Float}
use Rattle.std.specs.Prelude.{Option as Ordered, None, Some}
use Rattle.std.specs.declared.cmp.Ordering.{Ordering}
use Rattle.std.specs.declared.cmp.Ordering.TheVariants.{Less, Equal, Greater}
use Rattle.std.proofs.Math.Option.{Option, none, some}
use Rattle.std.specs.Float.Ieee.{lt, ne}
use Rattle.lists.specs.Lists.{pick, stands, any, sift, find, fold, each, pairs, map_at_of, empty}
use Rattle.float.specs.Numbers.{over, zero32, count32, max_of}
use Rattle.float.specs.Order.{total_cmp_of}
use Rattle.blade.specs.Points.{minus_of, dot_of, sum_of}
use Rattle.model.specs.Mesh.{Particle, Triangle, Edge, Mesh, changed_to}
use Rattle.model.specs.Elements.{Kind, Triangles, Straps, Nothing, Element, particle, edge_at, rest_of, corners_of, ends_of, sum, fan_of, held}
use Rattle.model.specs.Run.{opened, Run, splits_of}
use Rattle.model.specs.Split.{Opening, opening_of, made, copies, split_step}
use Rattle.model.specs.Pieces.{opens_without_confetti_of, remove_straddlers_of}
use Rattle.model.specs.Cut.{slackened, split_pinched_of}

-- ---- loads

-- the largest of 0 and the stresses of some edges, if there is any edge
unfoldable pub largest_stress : List Edge → List Float
largest_stress [] = []
largest_stress (e ∷ es) = fold (λ s (x : Edge). max_of s x.stress) zero32 (e ∷ es) ∷ []

-- of the edges between two particles
unfoldable pub stress_between : Mesh → ℕ × ℕ → List Float
stress_between M xy = largest_stress (sift (λ (e : Edge). stands xy.0 (ends_of e) && stands xy.1 (ends_of e)) M.edges)

-- a triangle's load: the largest of its own stress and those of the edges between its corners
unfoldable pub triangle_load : Mesh → Triangle → Float
triangle_load M t = fold max_of t.stress (each (stress_between M) (pairs (corners_of t)))

-- `element_loads`: triangle loads are read once, before the first crack
unfoldable pub loads_of : Kind → Mesh → List Float
loads_of Triangles M = map (triangle_load M) M.triangles
loads_of Straps M = []
loads_of Nothing M = []

-- the load of element number i: a triangle's as it was read, a strap's its stress at each crack
abbrev pub load_at : Kind → List Float → Mesh → ℕ → Float
load_at Triangles loads M i = get_or loads i zero32
load_at Straps loads M i = (edge_at M i).stress
load_at Nothing loads M i = zero32

-- ---- `current_pair`: the particles that now stand for a torn edge

-- a particle and its copies, in order of making
unfoldable pub family : List (ℕ × ℕ) → ℕ → List ℕ
family splits a = fold (λ (f : List ℕ) (cs : ℕ × ℕ). pick (stands cs.1 f) (f ++ (cs.0 ∷ [])) f) (a ∷ []) splits

-- each of the one list with each of the other
unfoldable pub cross_pairs : List ℕ → List ℕ → List (ℕ × ℕ)
cross_pairs xs ys = each (λ x. map (λ y. (x, y)) ys) xs

-- is the edge between the two, either way round
abbrev pub joins : ℕ × ℕ → Edge → Bool
joins xy e = (eqb e.a xy.0 && eqb e.b xy.1) || (eqb e.a xy.1 && eqb e.b xy.0)

-- the first answer, or else the second
abbrev pub first_of : {A : Type 0} → Option A → Option A → Option A
first_of none b = b
first_of (some a) b = some a

-- of the pairs the first in one element, else the first joined by an edge
unfoldable pub current_of : Kind → Mesh → List (ℕ × ℕ) → Option (ℕ × ℕ)
current_of k M ps = first_of (find (λ (xy : ℕ × ℕ). held k M xy.0 xy.1) ps) (find (λ (xy : ℕ × ℕ). any (joins xy) M.edges) ps)

-- the pair for the torn edge (a, b) of the input
unfoldable pub current_pair : Kind → Run → ℕ × ℕ → Option (ℕ × ℕ)
current_pair k R ab = let s = splits_of R.log in current_of k R.mesh (cross_pairs (family s ab.0) (family s ab.1))

-- ---- `crack_across_edge`: the ways to open an edge

-- does an element lie beyond the line through v across the edge to w, in the rest shape: its corners' offsets from v, added, point along the edge
unfoldable pub beyond : Mesh → ℕ → ℕ → Element → Bool
beyond M v w e = lt zero32 (dot_of (sum_of (map (λ x. minus_of (rest_of M x) (rest_of M v)) e.corners)) (minus_of (rest_of M w) (rest_of M v)))

-- such elements have side 1
unfoldable pub far_side : Mesh → ℕ → ℕ → Element → ℕ
far_side M v w e = pick (beyond M v w e) 1 0

-- `side_load`: the mean load of the elements of side 1
unfoldable pub mean_load : Kind → List Float → Mesh → ℕ → ℕ → Float
mean_load k loads M v w =
    let far = sift (beyond M v w) (fan_of k M v) in
    over (sum (map (λ (e : Element). load_at k loads M e.number) far)) (count32 (length far))

-- a way to open: its load, and the split
pub record Way : Type 0 where
  pub load : Float
  pub opening : Opening

-- v isn't pinned, and its fan has both sides
unfoldable pub two_sided_of : Mesh → ℕ → List ℕ → Bool
two_sided_of M v sides = ne (particle M v).inv zero32 && stands 0 sides && stands 1 sides

-- the way at v, if there is one
unfoldable pub way_at : Kind → List Float → Mesh → ℕ → ℕ → List Way
way_at k loads M v w =
    let sides = map (far_side M v w) (fan_of k M v) in
    pick (two_sided_of M v sides) (record { load = mean_load k loads M v w; opening = opening_of k M v sides } ∷ []) []

-- the higher mean load first (IEEE 754 total order), then the lower number. (No load of an accepted mesh is a NaN.)
abbrev pub ahead : Ordered Ordering → Bool → Bool
ahead (Some Less) lower = false
ahead (Some Equal) lower = lower
ahead (Some Greater) lower = true
ahead None lower = lower

-- does p go before q
abbrev pub before? : Way → Way → Bool
before? p q = ahead (total_cmp_of p.load q.load) (ltb p.opening.v q.opening.v)

-- at most one way from each end, in that order
abbrev pub in_order : List Way → List Way → List Way
in_order [] qs = qs
in_order (p ∷ ps) [] = p ∷ ps
in_order (p ∷ ps) (q ∷ qs) = pick (before? q p) (q ∷ p ∷ []) (p ∷ q ∷ [])

-- a crack tries both ends
unfoldable pub ways_of : Kind → List Float → Mesh → ℕ × ℕ → List Way
ways_of k loads M xy = in_order (way_at k loads M xy.0 xy.1) (way_at k loads M xy.1 xy.0)

-- ---- one crack

-- marked damaged
abbrev pub hurt : Particle → Particle
hurt p = changed_to p.mass p.inv 1 p

-- the particles of a list, marked
unfoldable pub damaged_at : List ℕ → Mesh → Mesh
damaged_at vs M =
    record { particles = map_at_of (λ i p. pick (stands i vs) (hurt p) p) M.particles; triangles = M.triangles; edges = M.edges; boundary = M.boundary }

-- an edge from w to v or a copy of it
abbrev pub bridges : Opening → ℕ → Edge → Bool
bridges O w e = stands w (ends_of e) && any (λ x. stands x (copies O)) (ends_of e)

-- behind the split the edges from the other end to v and its copies get impulse 0 and stress 0, and both ends and the copies are damaged
unfoldable pub torn : Opening → ℕ × ℕ → Mesh → Mesh
torn O xy M =
    let other = pick (eqb O.v xy.0) xy.1 xy.0 in
    damaged_at (xy.0 ∷ xy.1 ∷ made O) (slackened (bridges O other) M)

-- the way taken, if any, is split, and the torn edge logged behind its split by its ends (a, b) in the input
unfoldable pub crack_by : Kind → Option Way → ℕ × ℕ → ℕ × ℕ → Run → Run
crack_by k none ab xy R = R
crack_by k (some w) ab xy R = split_step (opened ab.0 ab.1 ∷ []) (torn w.opening xy) k w.opening R

-- the way taken is the first that opens without confetti
unfoldable pub crack_pair : Kind → List Float → ℕ → ℕ × ℕ → Option (ℕ × ℕ) → Run → Run
crack_pair k loads min ab none R = R
crack_pair k loads min ab (some xy) R =
    crack_by k (find (λ (w : Way). opens_without_confetti_of k R.mesh min w.opening) (ways_of k loads R.mesh xy)) ab xy R

-- one torn edge of the input in turn
unfoldable pub crack_edge : Kind → List Float → ℕ → Run → ℕ × ℕ → Run
crack_edge k loads min R ab = crack_pair k loads min ab (current_pair k R ab) R

-- ---- the whole

-- the ends of the torn edges in the input; torn edge numbers past the end are skipped
unfoldable pub torn_ends : Mesh → List ℕ → List (ℕ × ℕ)
torn_ends M is = map (λ i. ((edge_at M i).a, (edge_at M i).b)) (sift (λ i. ltb i (length M.edges)) is)

-- `crack_body`: each torn edge in turn; then, if anything split, the pinched particles and the straddlers across pieces
unfoldable pub crack : Kind → ℕ → List ℕ → Run → Run
crack k min is R =
    let S = fold (crack_edge k (loads_of k R.mesh) min) R (torn_ends R.mesh is) in
    pick (empty (splits_of S.log)) S (remove_straddlers_of k (split_pinched_of k S))
