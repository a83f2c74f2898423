-- Only proofs need this file: labels that are spread through one table of n places, and what the private functions that spread promise each other.
-- A place of the table is untouched (it holds its own number), reached (it holds a lower number, its label), or spread (it holds its label and n).
use Rattle.std.specs.Prelude.{◌≡◌, Bool, ◌⊎◌, List, [], ◌∷◌, ℕ, ◌+◌, ◌-◌, ◌<◌, ◌≤◌, length, get_or, ltb}
use Rattle.lists.specs.Lists.{pick}
use Rattle.lists.specs.Chain.{Chain}
use Rattle.fan.specs.Fan.{Fan, Near, size, near_test}
use Rattle.fan.specs.Groups.{labels_of}

-- the label of a place that holds x
unfoldable pub label : ℕ → ℕ → ℕ
label n x = pick (ltb x n) x (x - n)

-- the label of element a
abbrev pub label_at : Fan → List ℕ → ℕ → ℕ
label_at F t a = label (size F) (get_or t a 0)

-- how many places are not yet spread
unfoldable pub waits : ℕ → ℕ → ℕ
waits n x = pick (ltb x n) 1 0

unfoldable pub waiting : ℕ → List ℕ → ℕ
waiting n [] = 0
waiting n (x ∷ t) = waits n x + waiting n t

-- a and b are neighbours, in whichever order
abbrev pub Beside : Fan → ℕ → ℕ → Type 0
Beside F a b = Near F a b ⊎ Near F b a

-- the same as a test that antt computes, for two elements that are not one
abbrev pub beside_test : Fan → ℕ → ℕ → Bool
beside_test F a b = pick (ltb a b) (near_test F a b) (near_test F b a)

-- The label i is being spread: all below i are spread; one that is not is untouched or has the label i; no label is above i or above its element;
-- a chain leads from each element to its label; and the neighbours of one that is spread have its label.
pub record Spreading (F : Fan) (i : ℕ) (t : List ℕ) : Type 0 where
  pub long : length t ≡ size F
  pub low : (a : ℕ) → a < i → size F ≤ get_or t a 0
  pub waits : (a : ℕ) → a < size F → get_or t a 0 < size F → (get_or t a 0 ≡ a) ⊎ (get_or t a 0 ≡ i)
  pub top : (a : ℕ) → a < size F → get_or t a 0 ≤ i + size F
  pub down : (a : ℕ) → a < size F → label_at F t a ≤ a
  pub chain : (a : ℕ) → a < size F → Chain (Near F) a (label_at F t a)
  pub closed : (a b : ℕ) → Beside F a b → size F ≤ get_or t a 0 → label_at F t b ≡ label_at F t a

-- all labels below i are spread: besides, one that is not spread is untouched
pub record Settled (F : Fan) (i : ℕ) (t : List ℕ) : Type 0 where
  pub spreading : Spreading F i t
  pub calm : (a : ℕ) → a < size F → get_or t a 0 < size F → get_or t a 0 ≡ a

-- what is asked where a, which has the label i, is to be spread
pub record Reached (F : Fan) (i a : ℕ) (t : List ℕ) : Type 0 where
  pub spreading : Spreading F i t
  pub within : a < size F
  pub lowest : i < size F
  pub has : get_or t a 0 ≡ i

-- what comes of it: t has become q
pub record Onward (F : Fan) (i a : ℕ) (t q : List ℕ) : Type 0 where
  pub spreading : Spreading F i q
  pub here : size F ≤ get_or q a 0
  pub kept : (b : ℕ) → size F ≤ get_or t b 0 → size F ≤ get_or q b 0
  pub fewer : waiting (size F) q < waiting (size F) t

-- on the way there: those below j have been looked at, so that a's neighbours among them have the label i
pub record Reaching (F : Fan) (i a : ℕ) (t q : List ℕ) (j : ℕ) : Type 0 where
  pub above : i < j
  pub upto : j ≤ size F
  pub reached : Reached F i a q
  pub kept : (b : ℕ) → size F ≤ get_or t b 0 → size F ≤ get_or q b 0
  pub same : waiting (size F) q ≡ waiting (size F) t
  pub done : (b : ℕ) → b < j → Beside F a b → label_at F q b ≡ i

-- the same by other ways: no label i is lost, and a's neighbours that P names have it
pub record Touching (F : Fan) (i a : ℕ) (t q : List ℕ) (P : ℕ → Type 0) : Type 0 where
  pub reached : Reached F i a q
  pub kept : (b : ℕ) → size F ≤ get_or t b 0 → size F ≤ get_or q b 0
  pub same : waiting (size F) q ≡ waiting (size F) t
  pub still : (b : ℕ) → label_at F t b ≡ i → label_at F q b ≡ i
  pub done : (b : ℕ) → P b → Beside F a b → label_at F q b ≡ i

-- r is a reached place with the label i, or the table's length where there is none
pub record Next (i : ℕ) (t : List ℕ) (r : ℕ) : Type 0 where
  pub has : r < length t → get_or t r 0 ≡ i
  pub none : length t ≤ r → (a : ℕ) → i < a → a < length t → get_or t a 0 ≡ i → ⊥

-- the label i is spread from one element after the other: a is next, and i itself was the first
pub record Going (F : Fan) (i : ℕ) (t : List ℕ) (a : ℕ) : Type 0 where
  pub spreading : Spreading F i t
  pub begun : (a ≡ i) ⊎ (size F ≤ get_or t i 0)
  pub next : Next i t a

-- each place holds its element's label and n
pub record Spread (F : Fan) (t : List ℕ) : Type 0 where
  pub long : length t ≡ size F
  pub labels : (a : ℕ) → a < size F → get_or t a 0 ≡ get_or (labels_of F) a 0 + size F
