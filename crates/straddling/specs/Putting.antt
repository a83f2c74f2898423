-- A number put into a rising list, unless it is there: helper records that only contracts between workers need. Definitions only.
use Rattle.std.specs.Prelude.{ℕ, ◌+◌, ◌-◌, ◌<◌, ◌≤◌, ◌≡◌, ◌⊎◌, List, length, get_or}
use Rattle.lists.specs.LeftOut.{Rising, Listed}

-- of the first r numbers of the list, those from `at` on are above i, and the one before `at` is not
pub record PlaceFor (i r : ℕ) (list : List ℕ) (at : ℕ) : Type 0 where
  pub within : at ≤ r
  pub above : (k : ℕ) → at ≤ k → k < r → i < get_or list k 0
  pub least : 0 < at → get_or list (at - 1) 0 ≤ i

-- i stands at place `at` of the list, and of its first r numbers those from there on have moved by one place
pub record InsertedAt (i at r : ℕ) (list list' : List ℕ) : Type 0 where
  pub front : (k : ℕ) → k < at → get_or list' k 0 ≡ get_or list k 0
  pub here : get_or list' at 0 ≡ i
  pub moved : (k : ℕ) → at ≤ k → k < r → get_or list' (k + 1) 0 ≡ get_or list k 0

-- what putting i into a list of r numbers asks: they rise and are below `most`, as i is, and there are as many places
pub record PutRoom (i r : ℕ) (list : List ℕ) : Type 0 where
  pub most : ℕ
  pub below : i < most
  pub long : most ≤ length list
  pub rising : Rising list r most

-- the list of q numbers is that of r numbers with i in it: it rises as that did, and nothing else is new
pub record RisingPut (i r : ℕ) (list list' : List ℕ) (q : ℕ) : Type 0 where
  pub rising : (m : ℕ) → i < m → Rising list r m → Rising list' q m
  pub here : Listed list' q i
  pub still : (x : ℕ) → Listed list r x → Listed list' q x
  pub only : (k : ℕ) → k < q → (get_or list' k 0 ≡ i) ⊎ Listed list r (get_or list' k 0)
