-- Only proofs and the contracts between workers need this file: the corners of triangles in chains, by their names. Place q is corner q % 3 of triangle q / 3.
-- Definitions only.
use Rattle.std.specs.Prelude.{ℕ, suc, ◌*◌, ◌/◌, ◌%◌, ◌<◌, ◌≤◌, ◌≡◌, List, [], ◌∷◌, length, get_or}
use Rattle.lists.specs.Lists.{tab, sift}
use Rattle.outline.specs.Outline.{holds}
use Rattle.outline_tables.specs.Rows.{row3, Even}

-- the chain of a place: the last ten bits of its corner's name
unfoldable pub chain_at : List ℕ → List ℕ → List ℕ → ℕ → ℕ
chain_at a b c q = get_or (row3 a b c (q / 3)) (q % 3) 0 % 1024

-- how many of the first m triangles hold both x and y
unfoldable pub held_to : List ℕ → List ℕ → List ℕ → ℕ → ℕ → ℕ → ℕ
held_to a b c x y m = length (sift (holds (x ∷ y ∷ [])) (tab m (row3 a b c)))

-- e is 1 more than the last place before b that is in chain k, and 0 where none is
pub record LastBefore (chain : ℕ → ℕ) (k b e : ℕ) : Type 0 where
  pub below : e ≤ b
  pub has : (s : ℕ) → suc s ≡ e → chain s ≡ k
  pub none : (s : ℕ) → e ≤ s → s < b → chain s ≡ k → ⊥

-- the first q places are in chains: each chain has its last place, each place the one before it
pub record Chained (chain : ℕ → ℕ) (heads links : List ℕ) (q : ℕ) : Type 0 where
  pub head : (k : ℕ) → k < 1024 → LastBefore chain k q (get_or heads k 0)
  pub link : (t : ℕ) → t < q → LastBefore chain (chain t) t (get_or links t 0)

-- no chain is told to have more than q places
pub record Sized (sizes : List ℕ) (q : ℕ) : Type 0 where
  pub most : (k : ℕ) → get_or sizes k 0 ≤ q

-- what is asked where the first q places are linked: their triangles are there, and tables for 3,072 places and 1,024 chains, of which none has a place yet
pub record LinkRoom (a b c q : ℕ) (heads : List ℕ) (links : ℕ) (sizes : List ℕ) : Type 0 where
  pub even : Even a b c
  pub inside : q ≤ 3 * a
  pub few : q ≤ 3072
  pub heads_long : length heads ≡ 1024
  pub links_long : links ≡ 3072
  pub sizes_long : length sizes ≡ 1024
  pub none : (k : ℕ) → get_or heads k 0 ≡ 0
  pub empty : Sized sizes 0

-- the corners of the first m triangles are linked
pub record Linked (a b c : List ℕ) (m : ℕ) (heads links : List ℕ) : Type 0 where
  pub even : Even (length a) (length b) (length c)
  pub inside : m ≤ length a
  pub few : m ≤ 1024
  pub heads_long : length heads ≡ 1024
  pub links_long : length links ≡ 3072
  pub chained : Chained (chain_at a b c) heads links (3 * m)
