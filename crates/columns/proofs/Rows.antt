-- The laws of rows: `tab n f` is the view, and each operation on columns has one law here, which holds for any type of row and any number of columns.
-- A law takes what holds of the row at each index, and gives the equation of the two lists.
use Prim.Native.Nat.{ℕ, zero, suc, ◌+◌, ◌≤◌, ◌<◌, zero-le, suc-le-suc}
use native.Mathlib.Nat.{le_of_suc-le-suc, not-suc-le-zero}
use native.Mathlib.Numerals.{add-one}
use native.Mathlib.Omega.{arith}
use mathlib.Core.Path.{◌≡◌, refl, sym, ap, ap₂, ◌∙◌}
use mathlib.Core.Bool.{Bool, true, false, not, ◌&&◌, ◌||◌}
use mathlib.Core.List.{List, [], ◌∷◌, ◌++◌, map}
use lib.ListN.{length, get_or, take, set}
use lib.Seq.{ext_get_or, get_or-take, length-take-le}
use lib.Dec.{eqb}
use Rattle.lists.specs.Lists.{sift, any, all, up_to, tab, pick, keep, kept_of, nth, map_at_of}
use Rattle.lists.proofs.Truths.{untrue}
use Rattle.lists.proofs.Sifts.{pick_ap}

module _ {A : Type 0} where
  -- a view of n rows has n rows
  pub tab_length : (n : ℕ) (f : ℕ → A) → length (tab n f) ≡ n
  unfolding tab
  tab_length zero f = refl
  tab_length (suc n) f = ap suc (tab_length n (λ k. f (suc k)))

  -- row k of a view is what it was made of
  pub tab_at : (n : ℕ) (f : ℕ → A) (k : ℕ) (d : A) → k < n → get_or (tab n f) k d ≡ f k
  unfolding tab
  tab_at zero f k d h = absurd (not-suc-le-zero h)
  tab_at (suc n) f zero d h = refl
  tab_at (suc n) f (suc k) d h = tab_at n (λ j. f (suc j)) k d (le_of_suc-le-suc h)

  -- two views are equal where their rows are
  pub tab_ext : (n : ℕ) (f g : ℕ → A) → ((k : ℕ) → k < n → f k ≡ g k) → tab n f ≡ tab n g
  unfolding tab
  tab_ext zero f g h = refl
  tab_ext (suc n) f g h = ap₂ ◌∷◌ (h 0 (suc-le-suc zero-le)) (tab_ext n (λ k. f (suc k)) (λ k. g (suc k)) (λ k p. h (suc k) (suc-le-suc p)))

  -- a view of one row more has it last
  pub tab_suc : (n : ℕ) (f : ℕ → A) → tab (suc n) f ≡ tab n f ++ (f n ∷ [])
  unfolding tab
  tab_suc zero f = refl
  tab_suc (suc n) f = ap (λ (l : List A). f 0 ∷ l) (tab_suc n (λ k. f (suc k)))

  -- the view of a list by its own elements
  pub tab_of : (l : List A) (d : A) → tab (length l) (λ k. get_or l k d) ≡ l
  unfolding tab
  tab_of [] d = refl
  tab_of (a ∷ l) d = ap (λ (t : List A). a ∷ t) (tab_of l d)

  -- a store in the columns: row i is a now
  pub rows_store : (n : ℕ) (f f' : ℕ → A) (i : ℕ) (a : A) → ((k : ℕ) → k < n → (k ≡ i → ⊥) → f' k ≡ f k) → f' i ≡ a → tab n f' ≡ set (tab n f) i a
  unfolding tab
  rows_store zero f f' i a h e = refl
  rows_store (suc n) f f' zero a h e = ap₂ ◌∷◌ e (tab_ext n (λ k. f' (suc k)) (λ k. f (suc k)) (λ k p. h (suc k) (suc-le-suc p) (λ q. omega arith)))
  rows_store (suc n) f f' (suc i) a h e =
      ap₂ ◌∷◌ (h 0 (suc-le-suc zero-le) (λ q. omega arith))
      (rows_store n (λ k. f (suc k)) (λ k. f' (suc k)) i a (λ k p q. h (suc k) (suc-le-suc p) (λ r. q (omega arith))) e)

  -- an append to all columns: the rows are as they were, and a comes last
  pub rows_push : (n : ℕ) (f f' : ℕ → A) (a : A) → ((k : ℕ) → k < n → f' k ≡ f k) → f' n ≡ a → tab (n + 1) f' ≡ tab n f ++ (a ∷ [])
  rows_push n f f' a h e = rw (add-one, tab_suc, e) (ap (λ (l : List A). l ++ (a ∷ [])) (tab_ext n f' f h))

module _ {A B : Type 0} where
  -- a function on each row of a view
  pub map_tab : (g : A → B) (n : ℕ) (f : ℕ → A) → map g (tab n f) ≡ tab n (λ k. g (f k))
  unfolding tab
  map_tab g zero f = refl
  map_tab g (suc n) f = ap (λ (l : List B). g (f 0) ∷ l) (map_tab g n (λ k. f (suc k)))

  -- a change of each row by its number
  pub rows_map : (g : ℕ → A → B) (n : ℕ) (f : ℕ → A) → map_at_of g (tab n f) ≡ tab n (λ k. g k (f k))
  unfolding tab map_at_of
  rows_map g zero f = refl
  rows_map g (suc n) f = ap (λ (l : List B). g 0 (f 0) ∷ l) (rows_map (λ k. g (suc k)) n (λ k. f (suc k)))

  -- a mask and a function on each element can change places
  keep_map : (g : A → B) (m : List ℕ) (l : List A) → keep m (map g l) ≡ map g (keep m l)
  unfolding keep
  keep_map g m [] = refl
  keep_map g [] (a ∷ l) = ap (λ (t : List B). g a ∷ t) (keep_map g [] l)
  keep_map g (x ∷ m) (a ∷ l) = rw (keep_map g m l) (pick_ap (map g) (eqb x 1) (keep m l) (a ∷ keep m l))

  -- what a mapped list has at a place
  map_at : (g : A → B) (l : List A) (k : ℕ) (a : A) (b : B) → k < length l → get_or (map g l) k b ≡ g (get_or l k a)
  map_at g [] k a b h = absurd (not-suc-le-zero h)
  map_at g (x ∷ l) zero a b h = refl
  map_at g (x ∷ l) (suc k) a b h = map_at g l k a b (le_of_suc-le-suc h)

module _ {A : Type 0} where
  -- what is kept of a view, by the rows' numbers
  keep_tab : (m : List ℕ) (n : ℕ) (f : ℕ → A) → keep m (tab n f) ≡ tab (kept_of m n) (λ k. f (nth m n k))
  unfolding kept_of nth up_to
  keep_tab m n f =
      let kept = keep m (tab n (λ k. k)) in
      ap (keep m) (sym (map_tab f n (λ k. k))) ∙ keep_map f m (tab n (λ k. k)) ∙ ap (map f) (sym (tab_of kept 0)) ∙ map_tab f (length kept) (λ k. get_or kept k 0)

  -- a compaction of all columns by one mask
  pub rows_keep : (m : List ℕ) (n : ℕ) (f f' : ℕ → A) → ((k : ℕ) → k < kept_of m n → f' k ≡ f (nth m n k)) → tab (kept_of m n) f' ≡ keep m (tab n f)
  rows_keep m n f f' h = tab_ext (kept_of m n) f' (λ k. f (nth m n k)) h ∙ sym (keep_tab m n f)

  -- the front of a column is its view
  pub take_tab : (n : ℕ) (s : List A) (d : A) → n ≤ length s → take n s ≡ tab n (λ k. get_or s k d)
  take_tab n s d h =
      ext_get_or d (take n s) (tab n (λ k. get_or s k d)) (length-take-le n s h ∙ sym (tab_length n (λ k. get_or s k d)))
      (λ i p. let q : i < n = rw (length-take-le n s h) at p in get_or-take n s i d q ∙ sym (tab_at n (λ k. get_or s k d) i d q))

module _ {A B C : Type 0} where
  -- two changes by number, one after the other, are one
  pub map_at_map_at : (g : ℕ → B → C) (h : ℕ → A → B) (l : List A) → map_at_of g (map_at_of h l) ≡ map_at_of (λ k a. g k (h k a)) l
  unfolding map_at_of
  map_at_map_at g h [] = refl
  map_at_map_at g h (a ∷ l) = ap (λ (t : List C). g 0 (h 0 a) ∷ t) (map_at_map_at (λ k. g (suc k)) (λ k. h (suc k)) l)

module _ {A B : Type 0} where
  -- changes that agree at each place give the same list
  pub map_at_ext : (g h : ℕ → A → B) (l : List A) → ((k : ℕ) (a : A) → g k a ≡ h k a) → map_at_of g l ≡ map_at_of h l
  unfolding map_at_of
  map_at_ext g h [] e = refl
  map_at_ext g h (a ∷ l) e = ap₂ ◌∷◌ (e 0 a) (map_at_ext (λ k. g (suc k)) (λ k. h (suc k)) l (λ k. e (suc k)))

module _ {A : Type 0} where
  -- a change that changes untrue element leaves the list
  pub map_at_same : (g : ℕ → A → A) (l : List A) → ((k : ℕ) (a : A) → g k a ≡ a) → map_at_of g l ≡ l
  unfolding map_at_of
  map_at_same g [] e = refl
  map_at_same g (a ∷ l) e = ap₂ ◌∷◌ (e 0 a) (map_at_same (λ k. g (suc k)) l (λ k. e (suc k)))

-- ---- a test on every row, asked row by row

-- both of a conjunction that holds
pub both_true : (t u : Bool) → (t && u) ≡ true → (t ≡ true) × (u ≡ true)
both_true true u e = (refl, e)
both_true false u e = untrue e

-- neither of a disjunction that fails
pub either_false : (t u : Bool) → (t || u) ≡ false → (t ≡ false) × (u ≡ false)
either_false true u e = untrue (sym e)
either_false false u e = (refl, e)

-- a disjunction with true
pub or_true : (t : Bool) → (t || true) ≡ true
or_true true = refl
or_true false = refl

-- a conjunction with false
pub and_false : (t : Bool) → (t && false) ≡ false
and_false true = refl
and_false false = refl

module _ {A : Type 0} (p : A → Bool) where
  -- untrue row fails where there is none
  pub all_none : (row : ℕ → A) → all p (tab 0 row) ≡ true
  unfolding all tab
  all_none row = refl

  -- one row more that passes
  all_suc : (i : ℕ) (row : ℕ → A) → all p (tab i row) ≡ true → p (row i) ≡ true → all p (tab (suc i) row) ≡ true
  unfolding all tab
  all_suc zero row h g = rw g refl
  all_suc (suc i) row h g =
      let q = both_true (p (row 0)) (all p (tab i (λ k. row (suc k)))) h in
      rw q.0 (all_suc i (λ k. row (suc k)) q.1 g)

  -- the same, as a loop counts
  pub all_more : (i : ℕ) (row : ℕ → A) → all p (tab i row) ≡ true → p (row i) ≡ true → all p (tab (i + 1) row) ≡ true
  all_more i row h g = rw (add-one i) (all_suc i row h g)

  -- a row that fails decides
  pub all_stops : (n i : ℕ) (row : ℕ → A) → i < n → p (row i) ≡ false → all p (tab n row) ≡ false
  unfolding all tab
  all_stops zero i row h g = absurd (not-suc-le-zero h)
  all_stops (suc n) zero row h g = rw g refl
  all_stops (suc n) (suc i) row h g = rw (all_stops n i (λ k. row (suc k)) (le_of_suc-le-suc h) g) (and_false (p (row 0)))

-- at the loop's end every row has passed
pub all_end : {A : Type 0} (p : A → Bool) (n i : ℕ) (row : ℕ → A) → all p (tab i row) ≡ true → i ≤ n → n ≤ i → true ≡ all p (tab n row)
all_end p n i row h g k = let e : i ≡ n = omega arith in sym (ap (λ (j : ℕ). all p (tab j row)) (sym e) ∙ h)

-- a test of the rows that f names is a test of their numbers
all_along : {A : Type 0} (p : A → Bool) (n : ℕ) (row : ℕ → A) (f : ℕ → ℕ) → all p (tab n (λ k. row (f k))) ≡ all (λ k. p (row k)) (tab n f)
unfolding all tab
all_along p zero row f = refl
all_along p (suc n) row f = ap (λ (b : Bool). p (row (f 0)) && b) (all_along p n row (λ k. f (suc k)))

-- a test of the rows is a test of their numbers
pub all_tab : {A : Type 0} (p : A → Bool) (n : ℕ) (row : ℕ → A) → all p (tab n row) ≡ all (λ k. p (row k)) (up_to n)
unfolding up_to
all_tab p n row = all_along p n row (λ k. k)

-- ---- a test on some row, asked row by row

module _ {A : Type 0} (p : A → Bool) where
  -- untrue row passes where there is none
  pub any_none : (row : ℕ → A) → any p (tab 0 row) ≡ false
  unfolding any tab
  any_none row = refl

  -- one row more that fails
  any_suc : (i : ℕ) (row : ℕ → A) → any p (tab i row) ≡ false → p (row i) ≡ false → any p (tab (suc i) row) ≡ false
  unfolding any tab
  any_suc zero row h g = rw g refl
  any_suc (suc i) row h g =
      let q = either_false (p (row 0)) (any p (tab i (λ k. row (suc k)))) h in
      rw q.0 (any_suc i (λ k. row (suc k)) q.1 g)

  -- the same, as a loop counts
  pub any_more : (i : ℕ) (row : ℕ → A) → any p (tab i row) ≡ false → p (row i) ≡ false → any p (tab (i + 1) row) ≡ false
  any_more i row h g = rw (add-one i) (any_suc i row h g)

  -- a row that passes decides
  pub any_stops : (n i : ℕ) (row : ℕ → A) → i < n → p (row i) ≡ true → any p (tab n row) ≡ true
  unfolding any tab
  any_stops zero i row h g = absurd (not-suc-le-zero h)
  any_stops (suc n) zero row h g = rw g refl
  any_stops (suc n) (suc i) row h g = rw (any_stops n i (λ k. row (suc k)) (le_of_suc-le-suc h) g) (or_true (p (row 0)))

-- at the loop's end untrue row has passed
pub any_end : {A : Type 0} (p : A → Bool) (n i : ℕ) (row : ℕ → A) → any p (tab i row) ≡ false → i ≤ n → n ≤ i → false ≡ any p (tab n row)
any_end p n i row h g k = let e : i ≡ n = omega arith in sym (ap (λ (j : ℕ). any p (tab j row)) (sym e) ∙ h)

-- ---- a mask that marks what a test refuses

-- a choice by the opposite of a test is the choice the other way round
pick_not : {A : Type 0} (s t : Bool) (x y : A) → s ≡ not t → pick s x y ≡ pick t y x
pick_not s true x y e = rw e refl
pick_not s false x y e = rw e refl

-- what the mask leaves is what passes
pub keep_sift : {A : Type 0} (p : A → Bool) (d : A) (m : List ℕ) (l : List A) → ((k : ℕ) → k < length l → eqb (get_or m k 0) 1 ≡ not (p (get_or l k d))) → keep m l ≡ sift p l
unfolding keep sift
keep_sift p d m [] h = refl
keep_sift p d [] (a ∷ l) h = rw (keep_sift p d [] l (λ k q. h (suc k) (suc-le-suc q))) (pick_not false (p a) (sift p l) (a ∷ sift p l) (h 0 (suc-le-suc zero-le)))
keep_sift p d (b ∷ m) (a ∷ l) h = rw (keep_sift p d m l (λ k q. h (suc k) (suc-le-suc q))) (pick_not (eqb b 1) (p a) (sift p l) (a ∷ sift p l) (h 0 (suc-le-suc zero-le)))
