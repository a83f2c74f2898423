-- Pieces, bodies and the straddlers across them, and the reach of a group. Definitions only.
use Rattle.std.specs.Prelude.{ℕ, ◌-◌, max, Bool, false, not, ◌&&◌, List, [], ◌∷◌, map, length, get_or, eqb, leb}
use Rattle.std.proofs.Math.Option.{Option, none, some}
use Rattle.lists.specs.Lists.{pick, stands, any, all, sift, pairs, up_to, distinct}
use Rattle.lists.specs.Labels.{labelled}
use Rattle.fan.specs.Fan.{shared_others_of}
use Rattle.model.specs.Mesh.{Edge, Side, Mesh}
use Rattle.model.specs.Elements.{Kind, Triangles, Straps, Nothing, Element, kind_of, elements_of, element?, corners_per_of}
use Rattle.model.specs.Run.{Run, step_to}
use Rattle.model.specs.Split.{Part, Opening, gone_entries}

-- ---- pieces

-- the corners of the ith element of a list
abbrev pub corners_at : List Element → ℕ → List ℕ
corners_at es i = get_or (map (λ (e : Element). e.corners) es) i []

-- how many particles of a are in b too
unfoldable pub shared_of : List ℕ → List ℕ → ℕ
shared_of a b = length (sift (λ x. stands x b) a)

-- two elements of k corners belong together where they share at least k - 1 particles, all corners but one: two for triangles, one for straps
abbrev pub together : ℕ → List ℕ → List ℕ → Bool
together k a b = leb (k - 1) (shared_of a b)

-- elements that belong together lie in one piece, and so on along chains: each element's piece, named by the first element in it
unfoldable pub piece_labels : ℕ → List Element → List ℕ
piece_labels k es = labelled (λ i j. together k (corners_at es i) (corners_at es j)) (length es)

-- the count is the number of such sets
unfoldable pub piece_count : ℕ → List Element → ℕ
piece_count k es = length (distinct (piece_labels k es))

unfoldable pub pieces : Mesh → ℕ
pieces M = piece_count (corners_per_of (kind_of M)) (elements_of (kind_of M) M)

-- ---- bodies, which straddlers go by: one shared particle holds a body together

-- some particle is in both
abbrev pub touch : List ℕ → List ℕ → Bool
touch a b = any (λ x. stands x b) a

-- two elements that share a particle lie in one body, and so on along chains: each element's body, named by the first element in it
unfoldable pub body_labels : List Element → List ℕ
body_labels es = labelled (λ i j. touch (corners_at es i) (corners_at es j)) (length es)

-- how many bodies a mesh has (docs/RULES.md, R8.3)
unfoldable pub bodies : Mesh → ℕ
bodies M = length (distinct (body_labels (elements_of (kind_of M) M)))

-- ---- `remove_straddlers_across_pieces`, whose pieces are bodies

-- the body of particle w, by the elements and their labels: that of the first element that holds it, or none
unfoldable pub body_of : List Element → List ℕ → ℕ → Option ℕ
body_of [] ls w = none
body_of (e ∷ es) [] w = none
body_of (e ∷ es) (l ∷ ls) w = pick (stands w e.corners) (some l) (body_of es ls w)

-- two bodies, and not the same
abbrev pub apart : Option ℕ → Option ℕ → Bool
apart none q = false
apart (some i) none = false
apart (some i) (some j) = not (eqb i j)

-- x and y lie in different bodies
unfoldable pub spans : List Element → List ℕ → ℕ → ℕ → Bool
spans es ls x y = apart (body_of es ls x) (body_of es ls y)

-- an edge, no element, that joins two bodies
unfoldable pub across? : Kind → List Element → List ℕ → Edge → Bool
across? k es ls e = not (element? k e) && spans es ls e.a e.b

-- two of these particles lie in different bodies
abbrev pub spread : List Element → List ℕ → List ℕ → Bool
spread es ls l = any (λ (xy : ℕ × ℕ). spans es ls xy.0 xy.1) (pairs l)

-- such edges go, and boundary entries that join two bodies; what touches a particle of no element stays
unfoldable pub without_straddlers : Kind → List Element → List ℕ → Mesh → Mesh
without_straddlers k es ls M =
    record {
      particles = M.particles;
      triangles = M.triangles;
      edges = sift (λ (e : Edge). not (across? k es ls e)) M.edges;
      boundary = sift (λ (s : Side). not (spread es ls s.corners)) M.boundary;
    }

-- the removal as one step, in which the edges are logged and the boundary entries are not
unfoldable pub straddlers_gone : Kind → List Element → Run → Run
straddlers_gone k es R =
    let ls = body_labels es in
    step_to R (without_straddlers k es ls R.mesh) (gone_entries (across? k es ls) R.mesh.edges) (length R.mesh.edges) (length R.mesh.boundary)

-- a mesh of nothing stays as it is
unfoldable pub remove_straddlers_of : Kind → Run → Run
remove_straddlers_of Triangles R = straddlers_gone Triangles (elements_of Triangles R.mesh) R
remove_straddlers_of Straps R = straddlers_gone Straps (elements_of Straps R.mesh) R
remove_straddlers_of Nothing R = R

-- ---- `opens_without_confetti`

-- two elements share a facet without v: all corners but one, and none of them v
abbrev pub facet_between : Kind → ℕ → List ℕ → List ℕ → Bool
facet_between k v a b = leb (corners_per_of k - 1) (shared_others_of v a b)

-- each element of the whole body, labelled by the first that it reaches across such facets
unfoldable pub reach_labels : Kind → ℕ → List Element → List ℕ
reach_labels k v es = labelled (λ i j. facet_between k v (corners_at es i) (corners_at es j)) (length es)

-- the labels of the elements with these numbers
unfoldable pub labels_at : List ℕ → List Element → List ℕ → List ℕ
labels_at ns [] ls = []
labels_at ns (e ∷ es) [] = []
labels_at ns (e ∷ es) (l ∷ ls) = pick (stands e.number ns) (l ∷ labels_at ns es ls) (labels_at ns es ls)

-- the numbers of the fan elements of group g
unfoldable pub members_of : Opening → ℕ → List ℕ
members_of O g = map (λ (p : Part). p.number) (sift (λ (p : Part). eqb p.group g) O.fan)

-- how many elements group g reaches
unfoldable pub reach_of : List Element → List ℕ → Opening → ℕ → ℕ
reach_of es ls O g = let seeds = labels_at (members_of O g) es ls in length (sift (λ l. stands l seeds) ls)

-- the minimum piece is 3; a setting of 0 counts as 1
abbrev pub default_min_piece : ℕ
default_min_piece = 3

abbrev pub min_piece_of : ℕ → ℕ
min_piece_of n = max n 1

-- each group reaches at least the minimum piece
unfoldable pub opens_without_confetti_of : Kind → Mesh → ℕ → Opening → Bool
opens_without_confetti_of k M min O =
    let es = elements_of k M in
    let ls = reach_labels k O.v es in
    all (λ g. leb (min_piece_of min) (reach_of es ls O g)) (up_to O.count)
