-- Laws of `distinct`: what stands in it, and that nothing stands twice; lists without repeats. Assumes nothing.
use mathlib.Core.Path.{◌≡◌, refl, sym, ◌∙◌, ap}
use mathlib.Core.Bool.{Bool, true, false, not, ◌&&◌, false≢true}
use mathlib.Core.List.{List, [], ◌∷◌}
use Prim.Native.Nat.{ℕ, zero, suc, ◌<◌, ◌≤◌, zero-le, suc-le-suc}
use native.Mathlib.Omega.{arith}
use native.Mathlib.Nat.{not-suc-le-zero, le_of_suc-le-suc}
use native.Mathlib.Decide.{ℕ_discrete}
use borrow.Author.Tests.{eq-eqb, ne_eqb}
use lib.Dec.{eqb}
use lib.ListN.{length, get_or}
use Rattle.lists.specs.Lists.{pick, stands, sift, tab, distinct}
use Rattle.lists.proofs.Stores.{tab_length, tab_at}
use Rattle.lists.proofs.Sifts.{true_and, sift_stands, stands_get, stands_made}

-- ---- values of a table

-- each number that stands in a table is one of its values
pub stands_tab : (n : ℕ) (f : ℕ → ℕ) (x : ℕ) → stands x (tab n f) ≡ true → (k : ℕ) × ((k < n) × (f k ≡ x))
stands_tab n f x e =
    let w = stands_get x (tab n f) e in
    let l : w.0 < n = omega (arith, tab_length n f, w.1.0) in
    (w.0, (l, sym (tab_at n f w.0 0 l) ∙ w.1.1))

-- ---- what stands, and only once

-- the distinct numbers of a list are those that stand in it
pub distinct_stands : (l : List ℕ) (x : ℕ) → stands x (distinct l) ≡ stands x l
unfolding distinct
distinct_stands [] x = refl
distinct_stands (y ∷ l) x = ap (λ (b : Bool). pick (eqb y x) true b) (sift_stands (λ z. not (eqb z y)) x (distinct l)) ∙ rw (distinct_stands l x) (by (ℕ_discrete y x))
  where
    by : Dec (y ≡ x) → pick (eqb y x) true (not (eqb x y) && stands x l) ≡ pick (eqb y x) true (stands x l)
    by (yes e) = rw (eq-eqb y x e)
    by (no n) = rw (ne_eqb y x n, ne_eqb x y (λ e. n (sym e)))

-- no number stands twice
abbrev pub Once : List ℕ → Type 0
Once [] = Unit {0}
Once (x ∷ l) = (stands x l ≡ false) × Once l

sift_once : (p : ℕ → Bool) (l : List ℕ) → Once l → Once (sift p l)
unfolding sift
sift_once p [] o = tt
sift_once p (y ∷ l) o = by (p y) (sift_once p l o.1)
  where
    no_more : (b : Bool) → b && false ≡ false
    no_more true = refl
    no_more false = refl

    by : (b : Bool) → Once (sift p l) → Once (pick b (y ∷ sift p l) (sift p l))
    by true h = (sift_stands p y l ∙ rw o.0 (no_more (p y)), h)
    by false h = h

pub distinct_once : (l : List ℕ) → Once (distinct l)
unfolding distinct
distinct_once [] = tt
distinct_once (y ∷ l) = (sift_stands (λ z. not (eqb z y)) y (distinct l) ∙ rw (eq-eqb y y refl), sift_once (λ z. not (eqb z y)) (distinct l) (distinct_once l))

-- equal numbers stand at one place
pub once_same : (l : List ℕ) → Once l → (a b : ℕ) → a < length l → b < length l → get_or l a 0 ≡ get_or l b 0 → a ≡ b
once_same [] o a b la lb e = absurd (not-suc-le-zero la)
once_same (x ∷ l) o zero zero la lb e = refl
once_same (x ∷ l) o zero (suc b) la lb e = absurd (false≢true (sym o.0 ∙ stands_made x l b (le_of_suc-le-suc lb) (sym e)))
once_same (x ∷ l) o (suc a) zero la lb e = absurd (false≢true (sym o.0 ∙ stands_made x l a (le_of_suc-le-suc la) e))
once_same (x ∷ l) o (suc a) (suc b) la lb e = ap suc (once_same l o.1 a b (le_of_suc-le-suc la) (le_of_suc-le-suc lb) e)

-- ---- lists without repeats

without_none : (x : ℕ) (l : List ℕ) → stands x l ≡ false → sift (λ z. not (eqb z x)) l ≡ l
unfolding sift
without_none x [] s = refl
without_none x (y ∷ l) s = by (ℕ_discrete y x) s (without_none x l)
  where
    by : Dec (y ≡ x) → pick (eqb y x) true (stands x l) ≡ false → (stands x l ≡ false → sift (λ z. not (eqb z x)) l ≡ l)
        → pick (not (eqb y x)) (y ∷ sift (λ z. not (eqb z x)) l) (sift (λ z. not (eqb z x)) l) ≡ y ∷ l
    by (yes e) t f = absurd (false≢true (sym t ∙ ap (λ (b : Bool). pick b true (stands x l)) (eq-eqb y x e)))
    by (no n) t f = rw (ne_eqb y x n) (ap (λ (m : List ℕ). y ∷ m) (f (sym (ap (λ (b : Bool). pick b true (stands x l)) (ne_eqb y x n)) ∙ t)))

-- what stands once leaves the list one shorter
without_one : (x : ℕ) (l : List ℕ) → Once l → stands x l ≡ true → suc (length (sift (λ z. not (eqb z x)) l)) ≡ length l
unfolding sift
without_one x [] o s = absurd (false≢true s)
without_one x (y ∷ l) o s = by (ℕ_discrete y x) s (without_one x l o.1)
  where
    by : Dec (y ≡ x) → pick (eqb y x) true (stands x l) ≡ true → (stands x l ≡ true → suc (length (sift (λ z. not (eqb z x)) l)) ≡ length l)
        → suc (length (pick (not (eqb y x)) (y ∷ sift (λ z. not (eqb z x)) l) (sift (λ z. not (eqb z x)) l))) ≡ suc (length l)
    by (yes e) t f = rw (eq-eqb y x e) (ap (λ (m : List ℕ). suc (length m)) (without_none x l (ap (λ (z : ℕ). stands z l) (sym e) ∙ o.0)))
    by (no n) t f = rw (ne_eqb y x n) (ap suc (f (sym (ap (λ (b : Bool). pick b true (stands x l)) (ne_eqb y x n)) ∙ t)))

-- a list without repeats is no longer than one that holds all of it
pub once_within : (l m : List ℕ) → Once l → Once m → ((x : ℕ) → stands x l ≡ true → stands x m ≡ true) → length l ≤ length m
once_within [] m o p h = zero-le
once_within (x ∷ l) m o p h =
    let here : stands x m ≡ true = h x (rw (eq-eqb x x refl)) in
    let rest : (y : ℕ) → stands y l ≡ true → stands y (sift (λ z. not (eqb z x)) m) ≡ true = λ y t.
    let other : y ≡ x → ⊥ = λ e. false≢true (sym o.0 ∙ ap (λ (z : ℕ). stands z l) (sym e) ∙ t) in
    sift_stands (λ z. not (eqb z x)) y m ∙ true_and (ap not (ne_eqb y x other)) (h y (rw (ne_eqb x y (λ e. other (sym e))) t)) in
    let r = once_within l (sift (λ z. not (eqb z x)) m) o.1 (sift_once (λ z. not (eqb z x)) m p) rest in
    omega (arith, without_one x m p here)

-- a table of values that differ
pub tab_once : (n : ℕ) (f : ℕ → ℕ) → ((a b : ℕ) → a < n → b < n → f a ≡ f b → a ≡ b) → Once (tab n f)
unfolding tab
tab_once zero f h = tt
tab_once (suc n) f h = (by (stands (f 0) (tab n (λ k. f (suc k)))) refl, tab_once n (λ k. f (suc k)) (λ a b l m e. let q = h (suc a) (suc b) (suc-le-suc l) (suc-le-suc m) e in omega arith))
  where
    by : (b : Bool) → stands (f 0) (tab n (λ k. f (suc k))) ≡ b → b ≡ false
    by true s =
        let w = stands_tab n (λ k. f (suc k)) (f 0) s in
        let q = h (suc w.0) 0 (suc-le-suc w.1.0) (suc-le-suc zero-le) w.1.1 in
        absurd (omega arith)
    by false s = refl
