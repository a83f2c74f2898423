-- Laws of tables: what stands at a place after a store, in a table made by a function, and in a list whose elements are changed one by one.
-- Assumes nothing.
use mathlib.Core.Path.{◌≡◌, refl, ap}
use mathlib.Core.Logic.{◌⊎◌, inl, inr}
use mathlib.Core.List.{List, [], ◌∷◌, map}
use Prim.Native.Nat.{ℕ, zero, suc, ◌<◌}
use native.Mathlib.Nat.{not-suc-le-zero, le_of_suc-le-suc}
use native.Mathlib.Decide.{ℕ_discrete}
use borrow.Author.Tests.{eq-eqb, ne_eqb}
use lib.ListN.{length, get_or, set}
use lib.Seq.{get_or-set_same, get_or-set_other}
use Rattle.lists.specs.Lists.{tab}
use Rattle.lists.specs.Labels.{replaced}

-- one store in a table: at the place, and at every other
pub stored : (l : List ℕ) (i x j : ℕ) → i < length l
    → ((j ≡ i) × (get_or (set l i x) j 0 ≡ x)) ⊎ ((j ≡ i → ⊥) × (get_or (set l i x) j 0 ≡ get_or l j 0))
stored l i x j h =
    elim (ℕ_discrete j i) [
      | yes e ↦ inl (e, rw e (get_or-set_same l i x 0 h))
      | no ne ↦ inr (ne, get_or-set_other l i j x 0 ne)
    ]

-- equal places hold the same
pub at_eq : (l : List ℕ) {a b : ℕ} → a ≡ b → get_or l a 0 ≡ get_or l b 0
at_eq l e = ap (λ (m : ℕ). get_or l m 0) e

module _ {A : Type 0} where
  -- a table that a function makes: its length, and each place
  pub tab_length : (n : ℕ) (f : ℕ → A) → length (tab n f) ≡ n
  unfolding tab
  tab_length zero f = refl
  tab_length (suc n) f = ap suc (tab_length n (λ k. f (suc k)))

  pub tab_at : (n : ℕ) (f : ℕ → A) (k : ℕ) (d : A) → k < n → get_or (tab n f) k d ≡ f k
  unfolding tab
  tab_at zero f k d h = absurd (not-suc-le-zero h)
  tab_at (suc n) f zero d h = refl
  tab_at (suc n) f (suc k) d h = tab_at n (λ j. f (suc j)) k d (le_of_suc-le-suc h)

-- each place of a list whose elements g changes
pub map_at : {A B : Type 0} (g : A → B) (l : List A) (k : ℕ) (a : A) (b : B) → k < length l → get_or (map g l) k b ≡ g (get_or l k a)
map_at g [] k a b h = absurd (not-suc-le-zero h)
map_at g (x ∷ l) zero a b h = refl
map_at g (x ∷ l) (suc k) a b h = map_at g l k a b (le_of_suc-le-suc h)

-- w for v: at v, and at any other number
pub replaced_case : (v w z : ℕ) → ((z ≡ v) × (replaced v w z ≡ w)) ⊎ ((z ≡ v → ⊥) × (replaced v w z ≡ z))
replaced_case v w z = elim (ℕ_discrete z v) [ yes e ↦ inl (e, rw (eq-eqb _ _ e)) | no n ↦ inr (n, rw (ne_eqb _ _ n)) ]
