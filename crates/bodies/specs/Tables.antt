-- Only proofs need this file: the links between the corners of a table, parent tables that join them, and marks. Definitions only.
use Rattle.std.specs.Prelude.{ℕ, ◌+◌, ◌*◌, ◌<◌, ◌≡◌, List, length, get_or}
use Rattle.lists.specs.Lists.{pick, stands}
use Rattle.lists.specs.Chain.{Chain}
use Rattle.bodies.specs.Forest.{Up, Down}

-- x is the first corner of an element and y a corner of it, which lies among the first m of the table
pub record Link (k : ℕ) (verts : List ℕ) (m x y : ℕ) : Type 0 where
  pub element : ℕ
  pub corner : ℕ
  pub narrow : corner < k
  pub before : element * k + corner < m
  pub first : get_or verts (element * k) 0 ≡ x
  pub other : get_or verts (element * k + corner) 0 ≡ y

-- a parent table joins what R joins, and no more
pub record Tied (R : ℕ → ℕ → Type 0) (p : List ℕ) : Type 0 where
  pub down : Down p
  pub sound : (a b : ℕ) → Up p a b → Chain R a b
  pub done : (a b : ℕ) → R a b → Chain (Up p) a b

-- what is asked where the corners of element i are joined, one after another
pub record CornerStep (n k i : ℕ) (verts parent : List ℕ) : Type 0 where
  pub inside : i < n
  pub tied : Tied (Link k verts (i * k)) parent

-- 1 at each number of a list, 0 at the others
pub record Marked (l marks : List ℕ) : Type 0 where
  pub mark : (x : ℕ) → x < length marks → get_or marks x 0 ≡ pick (stands x l) 1 0
