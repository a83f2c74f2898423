-- Only proofs need this file: parent tables, in which each element names one that is not above it, and what the functions of src/forest.rt promise of them.
use Rattle.std.specs.Prelude.{◌≡◌, ◌⊎◌, List, ℕ, ◌<◌, ◌≤◌, length, get_or}
use Rattle.lists.specs.Chain.{Chain}

-- b is a's parent
abbrev pub Up : List ℕ → ℕ → ℕ → Type 0
Up p a b = (a < length p) × (get_or p a 0 ≡ b)

-- each element's parent is not above it
abbrev pub Down : List ℕ → Type 0
Down p = (a : ℕ) → a < length p → get_or p a 0 ≤ a

-- q joins what p joins, and no more, and keeps p's roots
pub record Kept (p q : List ℕ) : Type 0 where
  pub long : length q ≡ length p
  pub down : Down q
  pub more : (a b : ℕ) → Up p a b → Chain (Up q) a b
  pub only : (a b : ℕ) → Up q a b → Chain (Up p) a b
  pub tops : (a : ℕ) → get_or p a 0 ≡ a → get_or q a 0 ≡ a

-- q keeps what p joins, and r is i's root in it
pub record Found (p : List ℕ) (i : ℕ) (q : List ℕ) (r : ℕ) : Type 0 where
  pub kept : Kept p q
  pub within : r < length q
  pub top : get_or q r 0 ≡ r
  pub way : Chain (Up q) i r

-- b is a's parent, or the two are i and j
abbrev pub UpOr : List ℕ → ℕ → ℕ → ℕ → ℕ → Type 0
UpOr p i j a b = Up p a b ⊎ ((a ≡ i) × (b ≡ j))

-- q joins what p joins, and i to j, and no more
pub record Joined (p : List ℕ) (i j : ℕ) (q : List ℕ) : Type 0 where
  pub long : length q ≡ length p
  pub down : Down q
  pub more : (a b : ℕ) → Up p a b → Chain (Up q) a b
  pub way : Chain (Up q) i j
  pub only : (a b : ℕ) → Up q a b → Chain (UpOr p i j) a b
