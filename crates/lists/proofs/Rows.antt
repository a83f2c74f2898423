-- Laws of rows: what a store, an append, a change by number and a compaction by a mask do to a table, for any type of row.
-- A law takes what holds of the row at each index, and gives the equation of the two lists. Assumes nothing.
use mathlib.Core.Path.{◌≡◌, refl, sym, ◌∙◌, ap, ap₂}
use mathlib.Core.List.{List, [], ◌∷◌, ◌++◌, map}
use Prim.Native.Nat.{ℕ, zero, suc, ◌+◌, ◌<◌, zero-le, suc-le-suc}
use native.Mathlib.Omega.{arith}
use native.Mathlib.Nat.{not-suc-le-zero, le_of_suc-le-suc}
use native.Mathlib.Numerals.{add-one}
use lib.Dec.{eqb}
use lib.ListN.{length, get_or, set}
use Rattle.lists.specs.Lists.{pick, tab, up_to, map_at_of, keep, kept_of, nth}
use Rattle.lists.proofs.Sifts.{pick_ap, tab_ext, tab_suc, tab_of, map_tab}

module _ {A : Type 0} where
  -- a store: row i is a now
  pub rows_store : (n : ℕ) (f f' : ℕ → A) (i : ℕ) (a : A) → ((k : ℕ) → k < n → (k ≡ i → ⊥) → f' k ≡ f k) → f' i ≡ a → tab n f' ≡ set (tab n f) i a
  unfolding tab
  rows_store zero f f' i a h e = refl
  rows_store (suc n) f f' zero a h e = ap₂ ◌∷◌ e (tab_ext n (λ k. f' (suc k)) (λ k. f (suc k)) (λ k p. h (suc k) (suc-le-suc p) (λ q. omega arith)))
  rows_store (suc n) f f' (suc i) a h e =
      ap₂ ◌∷◌ (h 0 (suc-le-suc zero-le) (λ q. omega arith))
      (rows_store n (λ k. f (suc k)) (λ k. f' (suc k)) i a (λ k p q. h (suc k) (suc-le-suc p) (λ r. q (omega arith))) e)

  -- an append: the rows are as they were, and a comes last
  pub rows_push : (n : ℕ) (f f' : ℕ → A) (a : A) → ((k : ℕ) → k < n → f' k ≡ f k) → f' n ≡ a → tab (n + 1) f' ≡ tab n f ++ (a ∷ [])
  rows_push n f f' a h e = rw (add-one, tab_suc, e) (ap (λ (l : List A). l ++ (a ∷ [])) (tab_ext n f' f h))

module _ {A B : Type 0} where
  -- a change of each row by its number
  pub rows_map : (g : ℕ → A → B) (n : ℕ) (f : ℕ → A) → map_at_of g (tab n f) ≡ tab n (λ k. g k (f k))
  unfolding tab map_at_of
  rows_map g zero f = refl
  rows_map g (suc n) f = ap (λ (l : List B). g 0 (f 0) ∷ l) (rows_map (λ k. g (suc k)) n (λ k. f (suc k)))

  -- changes by number: how many rows, which at a place, and changes that agree
  pub length_map_at : (g : ℕ → A → B) (l : List A) → length (map_at_of g l) ≡ length l
  unfolding map_at_of
  length_map_at g [] = refl
  length_map_at g (a ∷ l) = ap suc (length_map_at (λ k. g (suc k)) l)

  pub map_at_at : (g : ℕ → A → B) (l : List A) (k : ℕ) (a : A) (b : B) → k < length l → get_or (map_at_of g l) k b ≡ g k (get_or l k a)
  unfolding map_at_of
  map_at_at g [] k a b h = absurd (not-suc-le-zero h)
  map_at_at g (x ∷ l) zero a b h = refl
  map_at_at g (x ∷ l) (suc k) a b h = map_at_at (λ j. g (suc j)) l k a b (le_of_suc-le-suc h)

  pub map_at_ext : (g h : ℕ → A → B) (l : List A) → ((k : ℕ) (a : A) → g k a ≡ h k a) → map_at_of g l ≡ map_at_of h l
  unfolding map_at_of
  map_at_ext g h [] e = refl
  map_at_ext g h (a ∷ l) e = ap₂ ◌∷◌ (e 0 a) (map_at_ext (λ k. g (suc k)) (λ k. h (suc k)) l (λ k. e (suc k)))

  -- what a mask keeps of changed rows
  pub keep_map : (g : A → B) (m : List ℕ) (l : List A) → keep m (map g l) ≡ map g (keep m l)
  unfolding keep
  keep_map g m [] = refl
  keep_map g [] (a ∷ l) = ap (λ (t : List B). g a ∷ t) (keep_map g [] l)
  keep_map g (x ∷ m) (a ∷ l) = rw (keep_map g m l) (pick_ap (map g) (eqb x 1) (keep m l) (a ∷ keep m l))

-- two changes by number, one after the other
pub map_at_map_at : {A B C : Type 0} (g : ℕ → B → C) (h : ℕ → A → B) (l : List A) → map_at_of g (map_at_of h l) ≡ map_at_of (λ k a. g k (h k a)) l
unfolding map_at_of
map_at_map_at g h [] = refl
map_at_map_at {C = C} g h (a ∷ l) = ap (λ (t : List C). g 0 (h 0 a) ∷ t) (map_at_map_at (λ k. g (suc k)) (λ k. h (suc k)) l)

module _ {A : Type 0} where
  -- a change that changes nothing
  pub map_at_same : (g : ℕ → A → A) (l : List A) → ((k : ℕ) (a : A) → g k a ≡ a) → map_at_of g l ≡ l
  unfolding map_at_of
  map_at_same g [] e = refl
  map_at_same g (a ∷ l) e = ap₂ ◌∷◌ (e 0 a) (map_at_same (λ k. g (suc k)) l (λ k. e (suc k)))

  -- what a mask keeps of a table, by the rows' numbers
  pub keep_tab : (m : List ℕ) (n : ℕ) (f : ℕ → A) → keep m (tab n f) ≡ tab (kept_of m n) (λ k. f (nth m n k))
  unfolding kept_of nth up_to
  keep_tab m n f =
      let kept = keep m (tab n (λ k. k)) in
      ap (keep m) (sym (map_tab f n (λ k. k))) ∙ keep_map f m (tab n (λ k. k)) ∙ ap (map f) (sym (tab_of kept 0)) ∙ map_tab f (length kept) (λ k. get_or kept k 0)

  -- a compaction by a mask
  pub rows_keep : (m : List ℕ) (n : ℕ) (f f' : ℕ → A) → ((k : ℕ) → k < kept_of m n → f' k ≡ f (nth m n k)) → tab (kept_of m n) f' ≡ keep m (tab n f)
  rows_keep m n f f' h = tab_ext (kept_of m n) f' (λ k. f (nth m n k)) h ∙ sym (keep_tab m n f)

  -- one more row under a mask
  pub keep_snoc : (m : List ℕ) (l : List A) (a : A) → keep m (l ++ (a ∷ [])) ≡ keep m l ++ pick (eqb (get_or m (length l) 0) 1) [] (a ∷ [])
  unfolding keep
  keep_snoc [] [] a = refl
  keep_snoc (b ∷ m) [] a = refl
  keep_snoc [] (x ∷ l) a = ap (λ (t : List A). x ∷ t) (keep_snoc [] l a)
  keep_snoc (b ∷ m) (x ∷ l) a =
      rw (keep_snoc m l a) (pick_ap (λ (t : List A). t ++ pick (eqb (get_or m (length l) 0) 1) [] (a ∷ [])) (eqb b 1) (keep m l) (x ∷ keep m l))
