-- Elements in tables: a number for each, k corners for each in one list, a measure for each. Only contracts between workers need this file. Definitions only.
use Rattle.std.specs.Prelude.{ℕ, ◌*◌, ◌/◌, ◌<◌, ◌≤◌, ◌≡◌, Bool, ◌&&◌, List, [], map, length, get_or, take, Float}
use Rattle.lists.specs.Lists.{stands, any, all, sift, each}
use Rattle.model.specs.Mesh.{Triangle, Edge}
use Rattle.model.specs.Elements.{Kind, Triangles, Straps, Nothing, Element, element?, structural?, kind_by, triangles_from, straps_from, sum}
use Rattle.mesh.specs.At.{triangles_at, edges_at}
use Rattle.mesh.specs.Widths.{corner_columns, end_columns, length_columns, volume_columns}
use Rattle.mesh.specs.Limits.{triangle_limit, edge_limit}
use Rattle.elements.specs.declared.Kind.{Kind as KindCase}
use Rattle.elements.specs.declared.Kind.TheVariants.{Triangles as TrianglesCase, Straps as StrapsCase, Nothing as NothingCase}

-- the kind that the program's answer names
abbrev pub kind_is : KindCase → Kind
kind_is TrianglesCase = Triangles
kind_is StrapsCase = Straps
kind_is NothingCase = Nothing

-- the elements of a kind among triangles and edges: `elements_of` reads no more of a mesh
unfoldable pub elements_in : Kind → List Triangle → List Edge → List Element
elements_in Triangles ts es = triangles_from 0 ts
elements_in Straps ts es = straps_from 0 es
elements_in Nothing ts es = []

-- the elements of a list that hold v
abbrev pub holding : ℕ → List Element → List Element
holding v es = sift (λ (e : Element). stands v e.corners) es

-- the first n * k numbers of verts are the corners of n elements, k to each
pub record Cornered (k : ℕ) (es : List Element) (n : ℕ) (verts : List ℕ) : Type 0 where
  pub count : n ≡ length es
  pub corners_are : take (n * k) verts ≡ each (λ (e : Element). e.corners) es
  pub whole : (i : ℕ) → i < length es → length (get_or (map (λ (e : Element). e.corners) es) i []) ≡ k

-- and the first n of the other tables their numbers and measures
pub record Tabled (k : ℕ) (es : List Element) (n : ℕ) (numbers verts : List ℕ) (measures : List Float) : Type 0 where
  pub cornered : Cornered k es n verts
  pub numbers_are : take n numbers ≡ map (λ (e : Element). e.number) es
  pub measures_are : take n measures ≡ map (λ (e : Element). e.measure) es

-- the kind of a mesh with t triangles, whose first e edges have these ends, whatever the other columns hold
pub record KindFound (t e : ℕ) (ends : List ℕ) (r : KindCase) : Type 0 where
  pub is : (corners : List ℕ) (volumes lengths : List Float) → kind_is r ≡ kind_by (triangles_at t corners volumes) (any structural? (edges_at e ends lengths))

-- r tells whether an edge with this flag is an element, whatever else it has
pub record ElementIs (K : Kind) (structural : ℕ) (r : Bool) : Type 0 where
  pub is : (e : Edge) → e.structural ≡ structural → r ≡ element? K e

-- what is asked of a table's room and of the blocks that it is made of
pub record TableRoom (t e lc lv le ll ln lk lm : ℕ) : Type 0 where
  pub few : (t ≤ triangle_limit) × (e ≤ edge_limit)
  pub corners : t ≤ lc / corner_columns
  pub volumes : t ≤ lv / volume_columns
  pub ends : e ≤ le / end_columns
  pub lengths : e ≤ ll / length_columns
  pub numbers : (t ≤ ln) × (e ≤ ln)
  pub verts : (t * 3 ≤ lk) × (e * 2 ≤ lk)
  pub measures : (t ≤ lm) × (e ≤ lm)

-- the rows of the elements that hold v stand in the other tables, whichever elements the tables are of
pub record FanTabled (v k n : ℕ) (numbers verts : List ℕ) (measures : List Float) (r : ℕ) (numbers' verts' : List ℕ) (measures' : List Float) : Type 0 where
  pub tabled : (es : List Element) → Tabled k es n numbers verts measures → Tabled k (holding v es) r numbers' verts' measures'

-- what is asked of the tables of n elements, k corners to each, and of the tables of a fan
pub record FanRoom (k n ln lk lm fan_ln fan_lk fan_lm : ℕ) : Type 0 where
  pub numbers : n ≤ ln
  pub verts : n * k ≤ lk
  pub measures : n ≤ lm
  pub fan_numbers : n ≤ fan_ln
  pub fan_verts : n * k ≤ fan_lk
  pub fan_measures : n ≤ fan_lm

-- the elements of a list with all corners among the listed
abbrev pub within : List ℕ → List Element → List Element
within listed es = sift (λ (e : Element). all (λ w. stands w listed) e.corners) es

-- r is the sum of the measures of the elements with all corners among the listed, whichever elements the tables are of
pub record MeasuredWithin (k n : ℕ) (verts : List ℕ) (measures : List Float) (listed : List ℕ) (r : Float) : Type 0 where
  pub is : (es : List Element) → Cornered k es n verts → take n measures ≡ map (λ (e : Element). e.measure) es
      → r ≡ sum (map (λ (e : Element). e.measure) (within listed es))

-- the tables have n elements, and their corners and the listed stand below the length of the marks
pub record MarkRoom (k n : ℕ) (verts : List ℕ) (lm : ℕ) (listed : List ℕ) (marks : ℕ) : Type 0 where
  pub verts_long : n * k ≤ length verts
  pub measures_long : n ≤ lm
  pub verts_below : (j : ℕ) → j < n * k → get_or verts j 0 < marks
  pub listed_below : (j : ℕ) → j < length listed → get_or listed j 0 < marks

-- r says whether some element holds both x and y, whichever elements the table is of
pub record HeldBoth (x y k n : ℕ) (verts : List ℕ) (r : Bool) : Type 0 where
  pub is : (es : List Element) → Cornered k es n verts → r ≡ any (λ (e : Element). stands x e.corners && stands y e.corners) es
