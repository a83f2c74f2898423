-- What the walk over the edges at the corners of a fan asks and gives, where straddlers are listed: helper records that only contracts between workers need. Definitions only.
use Rattle.std.specs.Prelude.{ℕ, ◌<◌, ◌≤◌, ◌≡◌, Bool, true, false, ◌⊎◌, List, length, get_or}
use Rattle.lists.specs.LeftOut.{Rising, Listed}
use Rattle.model.specs.Elements.{Kind}
use Rattle.links.specs.Linked.{Linked}
use Rattle.straddling.specs.Tests.{StraddleRoom, NearRoom, StraddleTold}

-- edge j was looked at: it does not straddle, or it is one of the first r of the list
abbrev pub LookedAt : Kind → (v before n count t e : ℕ) (verts groups corners ends list : List ℕ) (r j : ℕ) → Type 0
LookedAt K v before n count t e verts groups corners ends list r j = StraddleTold K j v before n count t e verts groups corners ends false ⊎ Listed list r j

-- the first r of the list are edges that straddle, rising
pub record ListedYet (K : Kind) (v before n count t e : ℕ) (verts groups corners ends list : List ℕ) (r : ℕ) : Type 0 where
  pub rising : Rising list r e
  pub only : (i : ℕ) → i < r → StraddleTold K (get_or list i 0) v before n count t e verts groups corners ends true

-- what listing asks: what the test of an edge asks, and a list of r straddlers as yet
pub record ListRoom (K : Kind) (v before n count t e : ℕ) (verts groups corners ends links near list : List ℕ) (r : ℕ) : Type 0 where
  pub room : StraddleRoom K n t e (length verts) (length groups) (length corners) (length ends)
  pub by_near : NearRoom K n e verts ends near
  pub linked : Linked K t corners links
  pub long : e ≤ length list
  pub yet : ListedYet K v before n count t e verts groups corners ends list r

-- edge i was looked at if x is its first end, what was listed is listed still, and the list has q straddlers
pub record EdgeListed (K : Kind) (v before n count t e : ℕ) (verts groups corners ends : List ℕ) (x i : ℕ) (list : List ℕ) (r : ℕ) (list' : List ℕ) (q : ℕ) : Type 0 where
  pub yet : ListedYet K v before n count t e verts groups corners ends list' q
  pub here : get_or ends i 0 ≡ x → LookedAt K v before n count t e verts groups corners ends list' q i
  pub still : (j : ℕ) → Listed list r j → Listed list' q j

-- the same of each edge whose first end is x
pub record EdgesListed (K : Kind) (v before n count t e : ℕ) (verts groups corners ends : List ℕ) (x : ℕ) (list : List ℕ) (r : ℕ) (list' : List ℕ) (q : ℕ) : Type 0 where
  pub yet : ListedYet K v before n count t e verts groups corners ends list' q
  pub here : (j : ℕ) → j < e → get_or ends j 0 ≡ x → LookedAt K v before n count t e verts groups corners ends list' q j
  pub still : (j : ℕ) → Listed list r j → Listed list' q j

-- whether the edges at x were walked before: where they were, the table is as it was; else x is marked in it too, and nothing else is new
abbrev pub WalkTold : ℕ → List ℕ → List ℕ → Bool → Type 0
WalkTold x walked walked' true = (x < length walked → get_or walked x 0 ≡ 1) × (walked' ≡ walked)
WalkTold x walked walked' false = (y : ℕ) → get_or walked' y 0 ≡ 1 → (y ≡ x) ⊎ (get_or walked y 0 ≡ 1)
