-- What the workers of this crate ask and give: helper records that only proofs and contracts between workers need. Definitions only.
use Rattle.std.specs.Prelude.{ℕ, ◌*◌, ◌/◌, ◌<◌, ◌≤◌, ◌≡◌, Bool, List, map, length, get_or, take, eqb, Float}
use Rattle.lists.specs.Lists.{stands, all, sift}
use Rattle.model.specs.Elements.{Element, sum}
use Rattle.elements.specs.Table.{Cornered}
use Rattle.mesh.specs.Widths.{corner_columns, end_columns, length_columns, volume_columns}

-- what the table of t triangles asks
pub record TriangleRoom (t lc lv ln lk lm : ℕ) : Type 0 where
  pub corners : t ≤ lc / corner_columns
  pub volumes : t ≤ lv / volume_columns
  pub numbers : t ≤ ln
  pub verts : t * 3 ≤ lk
  pub measures : t ≤ lm

-- what the table of the straps among e edges asks
pub record StrapRoom (e le ll ln lk lm : ℕ) : Type 0 where
  pub ends : e ≤ le / end_columns
  pub lengths : e ≤ ll / length_columns
  pub numbers : e ≤ ln
  pub verts : e * 2 ≤ lk
  pub measures : e ≤ lm

-- ---- marks

-- is w marked
abbrev pub marked : List ℕ → ℕ → Bool
marked marks w = eqb (get_or marks w 0) 1

-- exactly the listed are marked
pub record Marked (listed marks : List ℕ) : Type 0 where
  pub same : (w : ℕ) → w < length marks → marked marks w ≡ stands w listed

-- r is the sum of the measures of the elements with all corners marked
pub record MeasuredMarked (k n : ℕ) (verts : List ℕ) (measures : List Float) (marks : List ℕ) (r : Float) : Type 0 where
  pub is : (es : List Element) → Cornered k es n verts → take n measures ≡ map (λ (e : Element). e.measure) es
      → r ≡ sum (map (λ (e : Element). e.measure) (sift (λ (e : Element). all (marked marks) e.corners) es))

-- what the pass over marked elements asks
pub record PassRoom (k n : ℕ) (verts : List ℕ) (lm marks : ℕ) : Type 0 where
  pub verts_long : n * k ≤ length verts
  pub measures_long : n ≤ lm
  pub verts_below : (j : ℕ) → j < n * k → get_or verts j 0 < marks
