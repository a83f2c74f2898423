-- Pieces and bodies by chains: elements that share a facet, elements that share a particle, elements that stand for the classes of either, and lists of the same
-- elements. Definitions only.
use Rattle.std.specs.Prelude.{ℕ, ◌-◌, ◌<◌, ◌≤◌, ◌≡◌, Bool, true, List, length, get_or}
use Rattle.lists.specs.Lists.{stands, any}
use Rattle.lists.specs.Chain.{Chain}
use Rattle.fan.specs.Fan.{Distinct}
use Rattle.model.specs.Elements.{Element}
use Rattle.model.specs.Pieces.{corners_at}

-- Numbers below n that stand for the classes of R: no chain joins two of them, and one joins each number below n to one of them.
pub record Classes (R : ℕ → ℕ → Type 0) (n : ℕ) (reps : List ℕ) : Type 0 where
  pub within : (a : ℕ) → a < length reps → get_or reps a 0 < n
  pub apart : (a b : ℕ) → a < length reps → b < length reps → Chain R (get_or reps a 0) (get_or reps b 0) → a ≡ b
  pub every : (i : ℕ) → i < n → (a : ℕ) × ((a < length reps) × Chain R i (get_or reps a 0))

-- element number i of a list holds particle x
abbrev pub Holds : List Element → ℕ → ℕ → Type 0
Holds es i x = (i < length es) × (stands x (corners_at es i) ≡ true)

-- ---- pieces

-- two elements share a facet: k - 1 particles that differ are in both
pub record Share (k : ℕ) (es : List Element) (i j : ℕ) : Type 0 where
  pub first : i < length es
  pub second : j < length es
  pub particles : List ℕ
  pub differ : Distinct particles
  pub enough : k - 1 ≤ length particles
  pub in_first : (x : ℕ) → stands x particles ≡ true → stands x (corners_at es i) ≡ true
  pub in_second : (x : ℕ) → stands x particles ≡ true → stands x (corners_at es j) ≡ true

-- elements that stand for the pieces of a list of elements with k corners each
abbrev pub Pieces : ℕ → List Element → List ℕ → Type 0
Pieces k es reps = Classes (Share k es) (length es) reps

-- ---- bodies

-- two elements share a particle
pub record ShareOne (es : List Element) (i j : ℕ) : Type 0 where
  pub particle : ℕ
  pub in_first : Holds es i particle
  pub in_second : Holds es j particle

-- elements that stand for the bodies
abbrev pub Bodies : List Element → List ℕ → Type 0
Bodies es reps = Classes (ShareOne es) (length es) reps

-- some element holds x
unfoldable pub held_by : List Element → ℕ → Bool
held_by es x = any (λ (e : Element). stands x e.corners) es

-- some element holds both x and y
pub record Together (es : List Element) (x y : ℕ) : Type 0 where
  pub element : ℕ
  pub holds_first : Holds es element x
  pub holds_second : Holds es element y

-- ---- corners

-- two elements share a facet of which x is a corner
pub record ShareAt (k : ℕ) (es : List Element) (x i j : ℕ) : Type 0 where
  pub share : Share k es i j
  pub corner : stands x share.particles ≡ true

-- no element hangs on a corner alone: at every particle chains of facets that have it as a corner join all elements that hold it
abbrev pub NoHangingCorner : ℕ → List Element → Type 0
NoHangingCorner k es = (x i j : ℕ) → Holds es i x → Holds es j x → Chain (ShareAt k es x) i j

-- ---- order

-- the same particles, in whatever order
abbrev pub SameCorners : List ℕ → List ℕ → Type 0
SameCorners a b = (x : ℕ) → stands x a ≡ stands x b

-- each element of the one list has one in the other with the same particles
abbrev pub FoundIn : List Element → List Element → Type 0
FoundIn es fs = (i : ℕ) → i < length es → (j : ℕ) × ((j < length fs) × SameCorners (corners_at es i) (corners_at fs j))

-- each element has k corners
abbrev pub Whole : ℕ → List Element → Type 0
Whole k es = (i : ℕ) → i < length es → length (corners_at es i) ≡ k

-- the same elements: in whatever order, and each with its corners in whatever order
pub record SameElements (es fs : List Element) : Type 0 where
  pub there : FoundIn es fs
  pub back : FoundIn fs es
