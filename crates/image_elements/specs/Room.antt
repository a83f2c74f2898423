-- The places that the tables of an image's elements have to have. Only contracts between workers need this file. Definitions only.
use Rattle.std.specs.Prelude.{ℕ, ◌+◌, ◌*◌, ◌≤◌, List}
use Rattle.image.specs.Words.{word_at_of}

-- tables of so many places have room for all the elements that the counts of an image ask for, whether they are triangles or edges
pub record ElementsRoom (s : List ℕ) (ln lk lm : ℕ) : Type 0 where
  pub numbers : (word_at_of s 1 ≤ ln) × (word_at_of s 2 ≤ ln)
  pub verts : (3 * word_at_of s 1 ≤ lk) × (2 * word_at_of s 2 ≤ lk)
  pub measures : (word_at_of s 1 ≤ lm) × (word_at_of s 2 ≤ lm)

-- n rows of w columns stand from word `at` on, and tables have room for them, k corners to each
pub record RowsRoom (k w at n bytes ln lk lm : ℕ) : Type 0 where
  pub columns : 4 * (at + w * n) ≤ bytes
  pub numbers : n ≤ ln
  pub verts : n * k ≤ lk
  pub measures : n ≤ lm
