-- Only proofs and the contracts between workers need this file: the facets of a table in chains, and the pairs of elements that have one in common. Definitions only.
use Rattle.std.specs.Prelude.{ℕ, suc, ◌+◌, ◌*◌, ◌/◌, ◌%◌, ◌<◌, ◌≤◌, ◌≡◌, List, eqb, ltb, length, get_or}
use Rattle.lists.specs.Lists.{pick, sift, up_to}
use Rattle.reach.specs.Walk.{Rows}
use Rattle.bodies.specs.Tables.{Tied}

-- ---- facets

-- the smaller of two numbers
unfoldable pub smaller : ℕ → ℕ → ℕ
smaller a b = pick (ltb a b) a b

-- the larger of two numbers
unfoldable pub larger : ℕ → ℕ → ℕ
larger a b = pick (ltb a b) b a

-- the corner behind place t in its triangle, and the first behind the third
unfoldable pub after : ℕ → ℕ
after t = t / 3 * 3 + (t + 1) % 3

-- The facet of place t: of a triangle its corner there and the one behind it, the lower and the higher; of a strap its corner there, as the higher beside 0.
unfoldable pub low_of : ℕ → List ℕ → ℕ → ℕ
low_of k verts t = pick (eqb k 3) (smaller (get_or verts t 0) (get_or verts (after t) 0)) 0

unfoldable pub high_of : ℕ → List ℕ → ℕ → ℕ
high_of k verts t = pick (eqb k 3) (larger (get_or verts t 0) (get_or verts (after t) 0)) (get_or verts t 0)

-- ---- chains: f has the lower of each place, g the higher

-- e is 1 more than the last place before b that is in chain h, and 0 where none is
pub record LastIn (f g : ℕ → ℕ) (h b e : ℕ) : Type 0 where
  pub below : e ≤ b
  pub has : (s : ℕ) → suc s ≡ e → 3 * f s + g s ≡ h
  pub none : (s : ℕ) → e ≤ s → s < b → 3 * f s + g s ≡ h → ⊥

-- the facets of the first t places are in chains: each place has the one before it in its chain, and the lower of its facet
pub record Filed (f g : ℕ → ℕ) (links lows : List ℕ) (t : ℕ) : Type 0 where
  pub link : (s : ℕ) → s < t → LastIn f g (3 * f s + g s) s (get_or links s 0)
  pub low : (s : ℕ) → s < t → get_or lows s 0 ≡ f s

-- and each chain has its last place
pub record Headed (f g : ℕ → ℕ) (heads : List ℕ) (t : ℕ) : Type 0 where
  pub head : (h : ℕ) → h < length heads → LastIn f g h t (get_or heads h 0)

-- what is asked where the facet of some place t, with this lower corner, is looked for in the chain that begins at e
pub record Sought (low e : ℕ) (links lows : List ℕ) : Type 0 where
  pub f : ℕ → ℕ
  pub g : ℕ → ℕ
  pub t : ℕ
  pub is_low : low ≡ f t
  pub start : LastIn f g (3 * f t + g t) t e
  pub filed : Filed f g links lows t
  pub links_long : t ≤ length links
  pub lows_long : t ≤ length lows

-- r is 1 more than the last place before t that has its facet, and 0 where none has
pub record FacetFound (f g : ℕ → ℕ) (t r : ℕ) : Type 0 where
  pub below : r ≤ t
  pub same : (s : ℕ) → suc s ≡ r → (f s ≡ f t) × (g s ≡ g t)
  pub none : (s : ℕ) → r ≤ s → s < t → f s ≡ f t → g s ≡ g t → ⊥

-- ---- pairs

-- elements a and b have one facet at two places below m, k to each element
pub record SameFacet (k : ℕ) (f g : ℕ → ℕ) (m a b : ℕ) : Type 0 where
  pub later : ℕ
  pub earlier : ℕ
  pub before : earlier < later
  pub inside : later < m
  pub low : f earlier ≡ f later
  pub high : g earlier ≡ g later
  pub first : later / k ≡ a
  pub second : earlier / k ≡ b

-- the facets of the first t places are in chains, and the elements that have one in common joined
pub record Sided (k : ℕ) (verts heads links lows : List ℕ) (t : ℕ) (parent : List ℕ) : Type 0 where
  pub headed : Headed (low_of k verts) (high_of k verts) heads t
  pub filed : Filed (low_of k verts) (high_of k verts) links lows t
  pub tied : Tied (SameFacet k (low_of k verts) (high_of k verts) t) parent

-- the places that are their own parents
unfoldable pub tops : List ℕ → List ℕ
tops p = sift (λ i. eqb (get_or p i 0) i) (up_to (length p))

-- ---- room

-- a table of n rows of k particles below 1,024, and room beside it: 4,096 chains, a link and a lower for each place, a parent for each row
pub record SideRoom (n k : ℕ) (verts : List ℕ) (heads links lows parents : ℕ) : Type 0 where
  pub rows : Rows n k (length verts)
  pub few : n * k ≤ 4096
  pub particles : (t : ℕ) → t < n * k → get_or verts t 0 < 1024
  pub heads_long : heads ≡ 4096
  pub links_long : n * k ≤ links
  pub lows_long : n * k ≤ lows
  pub parents_long : parents ≡ n

-- what is asked where the facet of place t, of row i, is put into its chain
pub record FacetStep (n k : ℕ) (verts : List ℕ) (t i low high : ℕ) : Type 0 where
  pub inside : t < n * k
  pub row : i ≡ t / k
  pub is_low : low ≡ low_of k verts t
  pub is_high : high ≡ high_of k verts t
  pub chain : 3 * low + high < 4096

-- and beside which table it is
pub record Putting (k t i low high : ℕ) (heads links lows parent : List ℕ) : Type 0 where
  pub n : ℕ
  pub verts : List ℕ
  pub room : SideRoom n k verts (length heads) (length links) (length lows) (length parent)
  pub step : FacetStep n k verts t i low high
  pub sided : Sided k verts heads links lows t parent

-- it is put there, and its element joined, whichever table it is
abbrev pub IsPut : ℕ → ℕ → ℕ → ℕ → ℕ → List ℕ → List ℕ → List ℕ → List ℕ → List ℕ → List ℕ → List ℕ → List ℕ → Type 0
IsPut k t i low high heads links lows parent heads' links' lows' parent' =
    (n : ℕ) (verts : List ℕ) → SideRoom n k verts (length heads) (length links) (length lows) (length parent) → FacetStep n k verts t i low high → Sided k verts heads links lows t parent
    → Sided k verts heads' links' lows' (t + 1) parent'
