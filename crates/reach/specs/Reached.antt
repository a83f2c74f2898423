-- What it means that a group reaches an element: a chain of facets without v, through the whole body. Definitions only; proofs/Reached.antt proves that
-- `reach_of` counts these elements.
use Rattle.std.specs.Prelude.{ℕ, ◌-◌, ◌<◌, ◌≤◌, ◌≡◌, true, List, map, length, get_or, take}
use Rattle.lists.specs.Lists.{stands}
use Rattle.lists.specs.Chain.{Chain}
use Rattle.fan.specs.Fan.{shared_others_of, Distinct}
use Rattle.model.specs.Elements.{Kind, Element, corners_per_of}
use Rattle.model.specs.Pieces.{corners_at}
use Rattle.elements.specs.Table.{holding}

-- no element names a particle twice
pub record Plain (es : List Element) : Type 0 where
  pub distinct : (i : ℕ) → i < length es → Distinct (corners_at es i)

-- two elements of the body share a facet without v: all corners but one, and none of them v
pub record Across (K : Kind) (v : ℕ) (es : List Element) (i j : ℕ) : Type 0 where
  pub from : i < length es
  pub to : j < length es
  pub facet : corners_per_of K - 1 ≤ shared_others_of v (corners_at es i) (corners_at es j)

-- the number of the ith element of a list
abbrev pub number_at : List Element → ℕ → ℕ
number_at es i = get_or (map (λ (e : Element). e.number) es) i 0

-- a chain of such facets leads to element j from one whose number is among these
pub record Reached (K : Kind) (v : ℕ) (es : List Element) (ns : List ℕ) (j : ℕ) : Type 0 where
  pub start : ℕ
  pub within : start < length es
  pub member : stands (number_at es start) ns ≡ true
  pub chain : Chain (Across K v es) start j

-- the ith element is of the fan and of group g: it holds v, and its place in the fan is how many before it hold v
pub record InGroup (v : ℕ) (es : List Element) (groups : List ℕ) (g i : ℕ) : Type 0 where
  pub holds : stands v (corners_at es i) ≡ true
  pub group : get_or groups (length (holding v (take i es))) 0 ≡ g
