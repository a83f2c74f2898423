-- Lists of places, and what is left of another list without them. Definitions only.
use Rattle.std.specs.Prelude.{ℕ, suc, ◌<◌, ◌≡◌, List, [], ◌∷◌, ◌++◌, get_or, take, drop}

-- the first r numbers of the list rise, each above the one before it, and are below e
pub record Rising (list : List ℕ) (r e : ℕ) : Type 0 where
  pub rises : (i j : ℕ) → i < j → j < r → get_or list i 0 < get_or list j 0
  pub below : (i : ℕ) → i < r → get_or list i 0 < e

-- x is one of the first r numbers of the list
pub record Listed (list : List ℕ) (r x : ℕ) : Type 0 where
  pub place : ℕ
  pub within : place < r
  pub is : get_or list place 0 ≡ x

-- a list without its element i
unfoldable pub without : {A : Type 0} → ℕ → List A → List A
without i l = take i l ++ drop (suc i) l

-- a list without the elements at the places of a rising list: the last goes first
unfoldable pub left_out : {A : Type 0} → List ℕ → List A → List A
left_out [] l = l
left_out (i ∷ is) l = without i (left_out is l)
