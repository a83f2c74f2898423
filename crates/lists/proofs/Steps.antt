-- Steps of loops: what one more place does to a test, a sift, a fold and the like, where a loop goes up a table, `tab (i + 1) f`,
-- and where it goes through what is left of a list, `drop i l` (at the end: `drop_of_length-le` of lib.ListN). Assumes nothing.
use mathlib.Core.Path.{◌≡◌}
use mathlib.Core.Bool.{Bool, ◌&&◌, ◌||◌}
use mathlib.Core.List.{List, [], ◌∷◌, ◌++◌, append-nil}
use Prim.Native.Nat.{ℕ, ◌+◌, ◌<◌}
use native.Mathlib.Numerals.{add-one}
use lib.ListN.{length, get_or, drop}
use lib.Seq.{drop-cons}
use Rattle.lists.specs.Lists.{pick, any, all, sift, fold, each, tab}
use Rattle.lists.proofs.Sifts.{any_append, all_append, sift_append, each_append, fold_append, tab_suc}
use Rattle.lists.proofs.Truths.{and_end, or_end}

-- one more row of a table
pub tab_step : {A : Type 0} (f : ℕ → A) (i : ℕ) → tab (i + 1) f ≡ tab i f ++ (f i ∷ [])
tab_step f i = rw (add-one i) (tab_suc i f)

module _ {A : Type 0} (p : A → Bool) where
  pub any_step : (f : ℕ → A) (i : ℕ) → any p (tab (i + 1) f) ≡ any p (tab i f) || p (f i)
  unfolding any
  any_step f i = rw (tab_step f i, any_append p (tab i f) (f i ∷ []), or_end (p (f i)))

  pub all_step : (f : ℕ → A) (i : ℕ) → all p (tab (i + 1) f) ≡ all p (tab i f) && p (f i)
  unfolding all
  all_step f i = rw (tab_step f i, all_append p (tab i f) (f i ∷ []), and_end (p (f i)))

  pub sift_step : (f : ℕ → A) (i : ℕ) → sift p (tab (i + 1) f) ≡ sift p (tab i f) ++ pick (p (f i)) (f i ∷ []) []
  unfolding sift
  sift_step f i = rw (tab_step f i, sift_append p (tab i f) (f i ∷ []))

  -- what is left of a list
  pub any_drop : (l : List A) (i : ℕ) (d : A) → i < length l → any p (drop i l) ≡ p (get_or l i d) || any p (drop (i + 1) l)
  unfolding any
  any_drop l i d h = rw (drop-cons l i d h, add-one i)

  pub all_drop : (l : List A) (i : ℕ) (d : A) → i < length l → all p (drop i l) ≡ p (get_or l i d) && all p (drop (i + 1) l)
  unfolding all
  all_drop l i d h = rw (drop-cons l i d h, add-one i)

  pub sift_drop : (l : List A) (i : ℕ) (d : A) → i < length l → sift p (drop i l) ≡ pick (p (get_or l i d)) (get_or l i d ∷ sift p (drop (i + 1) l)) (sift p (drop (i + 1) l))
  unfolding sift
  sift_drop l i d h = rw (drop-cons l i d h, add-one i)

module _ {A B : Type 0} where
  pub each_step : (g : A → List B) (f : ℕ → A) (i : ℕ) → each g (tab (i + 1) f) ≡ each g (tab i f) ++ g (f i)
  unfolding each
  each_step g f i = rw (tab_step f i, each_append g (tab i f) (f i ∷ []), append-nil (g (f i)))

  pub fold_step : (g : B → A → B) (b : B) (f : ℕ → A) (i : ℕ) → fold g b (tab (i + 1) f) ≡ g (fold g b (tab i f)) (f i)
  unfolding fold
  fold_step g b f i = rw (tab_step f i, fold_append g b (tab i f) (f i ∷ []))

  pub each_drop : (g : A → List B) (l : List A) (i : ℕ) (d : A) → i < length l → each g (drop i l) ≡ g (get_or l i d) ++ each g (drop (i + 1) l)
  unfolding each
  each_drop g l i d h = rw (drop-cons l i d h, add-one i)

  pub fold_drop : (g : B → A → B) (b : B) (l : List A) (i : ℕ) (d : A) → i < length l → fold g b (drop i l) ≡ fold g (g b (get_or l i d)) (drop (i + 1) l)
  unfolding fold
  fold_drop g b l i d h = rw (drop-cons l i d h, add-one i)
