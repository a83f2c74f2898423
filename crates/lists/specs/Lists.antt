-- Lists: the words that the other definitions are written in. Definitions only.
use Rattle.std.specs.Prelude.{ℕ, zero, suc, ◌-◌, Bool, true, false, not, ◌&&◌, ◌||◌, List, [], ◌∷◌, ◌++◌, map, length, get_or, replicate, eqb}
use Rattle.std.proofs.Math.Option.{Option, none, some}

-- the first where the test holds, else the second
abbrev pub pick : {A : Type 0} → Bool → A → A → A
pick true a b = a
pick false a b = b

-- does x stand in the list
abbrev pub stands : ℕ → List ℕ → Bool
stands x [] = false
stands x (y ∷ b) = pick (eqb y x) true (stands x b)

-- the same numbers in the same order
unfoldable pub same_row_of : List ℕ → List ℕ → Bool
same_row_of [] [] = true
same_row_of [] (y ∷ s) = false
same_row_of (x ∷ r) [] = false
same_row_of (x ∷ r) (y ∷ s) = eqb x y && same_row_of r s

-- some element passes; every element passes
unfoldable pub any : {A : Type 0} → (A → Bool) → List A → Bool
any p [] = false
any p (a ∷ l) = p a || any p l

unfoldable pub all : {A : Type 0} → (A → Bool) → List A → Bool
all p [] = true
all p (a ∷ l) = p a && all p l

-- the elements that pass, in order; and where the test may ask for the place too
unfoldable pub sift : {A : Type 0} → (A → Bool) → List A → List A
sift p [] = []
sift p (a ∷ l) = pick (p a) (a ∷ sift p l) (sift p l)

unfoldable pub sift_at : {A : Type 0} → (ℕ → A → Bool) → List A → List A
sift_at p [] = []
sift_at p (a ∷ l) = pick (p 0 a) (a ∷ sift_at (λ k. p (suc k)) l) (sift_at (λ k. p (suc k)) l)

-- the first element that passes
unfoldable pub find : {A : Type 0} → (A → Bool) → List A → Option A
find p [] = none
find p (a ∷ l) = pick (p a) (some a) (find p l)

-- from b, each element in turn
unfoldable pub fold : {A B : Type 0} → (B → A → B) → B → List A → B
fold f b [] = b
fold f b (a ∷ l) = fold f (f b a) l

-- what f makes of each element, one list behind the other
unfoldable pub each : {A B : Type 0} → (A → List B) → List A → List B
each f [] = []
each f (a ∷ l) = f a ++ each f l

-- each element with each later one
unfoldable pub pairs : {A : Type 0} → List A → List (A × A)
pairs [] = []
pairs (a ∷ l) = map (λ b. (a, b)) l ++ pairs l

-- g, at each place with its number
unfoldable pub map_at_of : {A B : Type 0} → (ℕ → A → B) → List A → List B
map_at_of g [] = []
map_at_of g (a ∷ l) = g 0 a ∷ map_at_of (λ k. g (suc k)) l

-- has the list no element
abbrev pub empty : {A : Type 0} → List A → Bool
empty [] = true
empty (a ∷ l) = false

-- the first element, or d where there is none
abbrev pub head_or : {A : Type 0} → A → List A → A
head_or d [] = d
head_or d (a ∷ l) = a

-- all but the first element
abbrev pub rest : {A : Type 0} → List A → List A
rest [] = []
rest (a ∷ l) = l

-- the first list, or the second where the first is empty
abbrev pub or_else : {A : Type 0} → List A → List A → List A
or_else [] d = d
or_else (a ∷ l) d = a ∷ l

-- f 0, f 1, .., f (n - 1)
unfoldable pub tab : {A : Type 0} → ℕ → (ℕ → A) → List A
tab zero f = []
tab (suc n) f = f 0 ∷ tab n (λ k. f (suc k))

-- 0, 1, .., n - 1
unfoldable pub up_to : ℕ → List ℕ
up_to n = tab n (λ k. k)

-- the numbers below n that stand in l: each once, rising
unfoldable pub rising : ℕ → List ℕ → List ℕ
rising n l = sift (λ k. stands k l) (up_to n)

-- l without what stood earlier in it
unfoldable pub distinct : List ℕ → List ℕ
distinct [] = []
distinct (x ∷ l) = x ∷ sift (λ y. not (eqb y x)) (distinct l)

-- no element of the one stands in the other
unfoldable pub disjoint : List ℕ → List ℕ → Bool
disjoint a b = not (any (λ x. stands x b) a)

-- l, and z in the places behind it up to n in all
unfoldable pub padded : {A : Type 0} → ℕ → A → List A → List A
padded n z l = l ++ replicate (n - length l) z

-- l without the places at which the mask is 1
unfoldable pub keep : {A : Type 0} → List ℕ → List A → List A
keep m [] = []
keep [] (a ∷ l) = a ∷ keep [] l
keep (b ∷ m) (a ∷ l) = pick (eqb b 1) (keep m l) (a ∷ keep m l)

-- how many of the first n places the mask keeps
unfoldable pub kept_of : List ℕ → ℕ → ℕ
kept_of m n = length (keep m (up_to n))

-- which of the first n places is the kth that the mask keeps
unfoldable pub nth : List ℕ → ℕ → ℕ → ℕ
nth m n k = get_or (keep m (up_to n)) k 0
