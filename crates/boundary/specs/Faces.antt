-- The crack facets of a split: what the workers on them ask and give. Only contracts between workers need this file. Definitions only.
use Rattle.std.specs.Prelude.{ℕ, ◌+◌, ◌*◌, ◌/◌, ◌<◌, ◌≤◌, ◌≡◌, Bool, not, ◌&&◌, ◌||◌, List, [], ◌∷◌, map, ◌++◌, length, get_or, drop, Float, eqb, Option, None, Some}
use Rattle.model.specs.Mesh.{Side, Mesh}
use Rattle.lists.specs.Lists.{stands, all, find, each}
use Rattle.model.specs.Elements.{Triangles, side_ends}
use Rattle.model.specs.Split.{Opening, one_or_none, face_on, facets_at, crack_facets}
use Rattle.mesh.specs.At.{triangles_at, boundary_at}
use Rattle.mesh.specs.Widths.{corner_columns}
use Rattle.mesh.specs.Limits.{particle_limit}
use Rattle.split_plan.specs.Opened.{part_at, Numbered, Ringed, RingRoom}
use Rattle.work.specs.Rows.{GrownTo, Between}
use Rattle.links.specs.Linked.{SidesLinked}

-- the face that was found, as a list
abbrev pub face_is : Option (ℕ × ℕ) → List Side
face_is None = []
face_is (Some (a, b)) = record { corners = a ∷ b ∷ [] } ∷ []

-- is w the copy, or a particle besides v of both lists: `on_facet` of two parts with these corners
abbrev pub on_by : ℕ → ℕ → List ℕ → List ℕ → ℕ → Bool
on_by v copy p q w = eqb w copy || (not (eqb w v) && stands w p && stands w q)

-- the faces of the triangle (x, y, z)
abbrev pub faces_by : ℕ → ℕ → ℕ → List Side
faces_by x y z = record { corners = x ∷ y ∷ [] } ∷ record { corners = y ∷ z ∷ [] } ∷ record { corners = z ∷ x ∷ [] } ∷ []

-- the first face with both ends on the facet
unfoldable pub found_by : ℕ → ℕ → List ℕ → List ℕ → List Side → List Side
found_by v copy p q faces = one_or_none (find (λ (s : Side). all (on_by v copy p q) (side_ends s)) faces)

-- a face that was found has two different ends, among 1,024 particles
abbrev pub FaceApart : Option (ℕ × ℕ) → Type 0
FaceApart None = Unit {0}
FaceApart (Some (a, b)) = (a < particle_limit) × (b < particle_limit) × (a ≡ b → ⊥)

-- the corners x, y and z are different ones of 1,024 particles
pub record ThreeApart (x y z : ℕ) : Type 0 where
  pub x_in : x < particle_limit
  pub y_in : y < particle_limit
  pub z_in : z < particle_limit
  pub first : x ≡ y → ⊥
  pub second : y ≡ z → ⊥
  pub third : z ≡ x → ⊥

-- so are those of each triangle that the first n numbers name
abbrev pub FanApart : ℕ → List ℕ → List ℕ → Type 0
FanApart n numbers corners =
    (i : ℕ) → i < n → ThreeApart (get_or corners (get_or numbers i 0) 0) (get_or corners (length corners / corner_columns + get_or numbers i 0) 0) (get_or corners (2 * (length corners / corner_columns) + get_or numbers i 0) 0)

-- an opening of triangles in tables, and a mesh whose triangles have these corners
pub record FacetsIn (O : Opening) (M : Mesh) (t : ℕ) (volumes : List Float) (v before n count : ℕ) (numbers verts groups corners : List ℕ) : Type 0 where
  pub at : O.v ≡ v
  pub before_is : O.before ≡ before
  pub count_is : O.count ≡ count
  pub ringed : Ringed 3 O n verts groups
  pub numbered : Numbered O n numbers
  pub triangles_are : M.triangles ≡ triangles_at t corners volumes
  pub numbers_in : (i : ℕ) → i < n → get_or numbers i 0 < t

-- what the faces of a fan of n triangles ask
pub record FaceRoom (before n count : ℕ) (numbers : List ℕ) (lv lg lc : ℕ) : Type 0 where
  pub ring : RingRoom n 3 lv lg
  pub small : before + count ≤ 65536
  pub numbers_long : n ≤ length numbers
  pub numbers_in : (i : ℕ) → i < n → get_or numbers i 0 < lc / corner_columns

-- the face of part r on the facet between parts i and j
pub record FaceFound (i j r v before n count : ℕ) (numbers verts groups corners : List ℕ) (face : Option (ℕ × ℕ)) : Type 0 where
  pub is :
      (O : Opening) (M : Mesh) (t : ℕ) (volumes : List Float) → FacetsIn O M t volumes v before n count numbers verts groups corners
      → face_is face ≡ face_on M O (part_at O i) (part_at O j) (part_at O r)

-- a list of sides stands behind the m entries
pub record SidesGrown (l : List Side) (m room : ℕ) (outline outline' : List ℕ) (r : Option ℕ) : Type 0 where
  pub sides : GrownTo r room (boundary_at m outline ++ l) (λ q. boundary_at q outline')
  pub between : Between m room r

-- the facets that each opening's f gives stand behind the m entries
pub record FacetsGrown (f : Opening → Mesh → List Side) (v before n count m room : ℕ) (numbers verts groups corners outline outline' : List ℕ) (r : Option ℕ) : Type 0 where
  pub facets :
      (O : Opening) (M : Mesh) (t : ℕ) (volumes : List Float) → FacetsIn O M t volumes v before n count numbers verts groups corners
      → GrownTo r room (boundary_at m outline ++ f O M) (λ q. boundary_at q outline')
  pub between : Between m room r

-- those of parts i and j; of part i with each later one; of all
abbrev pub pair_facets : ℕ → ℕ → Opening → Mesh → List Side
pair_facets i j O M = facets_at M O (part_at O i, part_at O j)

unfoldable pub row_facets : ℕ → Opening → Mesh → List Side
row_facets i O M = each (facets_at M O) (map (λ q. (part_at O i, q)) (drop (i + 1) O.fan))

abbrev pub all_facets : Opening → Mesh → List Side
all_facets O M = crack_facets Triangles M O

-- ---- the table of the entries

-- the table is that of the first m entries, and has places for `room` of them
pub record FacetTable (m room : ℕ) (outline table : List ℕ) : Type 0 where
  pub linked : SidesLinked m outline table
  pub few : room ≤ 2048

-- where entries were appended, the table is that of all of them
abbrev pub GrownLinked : Option ℕ → List ℕ → List ℕ → Type 0
GrownLinked None outline table = Unit {0}
GrownLinked (Some m) outline table = SidesLinked m outline table
