-- Laws of tests on lists and of tables made by a function: `sift`, `any`, `all`, `stands`, `each`, `fold`, `tab` and `up_to`, each over an append,
-- at an index, and over one more element. The law of `map` over an append is `map-append` of mathlib.Core.List. Assumes nothing.
use mathlib.Core.Path.{◌≡◌, refl, sym, ◌∙◌, ap, ap₂}
use mathlib.Core.Bool.{Bool, true, false, ◌&&◌, ◌||◌, false≢true, true≢false}
use mathlib.Core.List.{List, [], ◌∷◌, ◌++◌, map, append_assoc}
use Prim.Native.Nat.{ℕ, zero, suc, ◌+◌, ◌-◌, ◌<◌, ◌≤◌, zero-le, suc-le-suc}
use native.Mathlib.Omega.{arith}
use native.Mathlib.Nat.{not-suc-le-zero, le_of_suc-le-suc}
use native.Mathlib.Numerals.{add-one}
use native.Mathlib.Decide.{ℕ_discrete}
use borrow.Author.Tests.{eq-eqb, ne_eqb, eqb-true}
use lib.Dec.{eqb}
use lib.ListN.{length, get_or, take, drop, drop_of_length-le}
use lib.Seq.{drop-cons, ext_get_or, get_or-take, length-take-le}
use Rattle.lists.specs.Lists.{pick, stands, any, all, sift, fold, each, tab, up_to, rising}
use Rattle.lists.proofs.Stores.{tab_length, tab_at}

-- ---- a choice

-- what holds of both holds of the choice
pub pick_by : {A : Type 0} (P : A → Type 0) (t : Bool) {x y : A} → P x → P y → P (pick t x y)
pick_by P true a b = a
pick_by P false a b = b

-- a function goes under a choice
pub pick_ap : {A B : Type 0} (g : A → B) (t : Bool) (x y : A) → pick t (g x) (g y) ≡ g (pick t x y)
pick_ap g true x y = refl
pick_ap g false x y = refl

-- two tests, one behind the other
pub pick_true : (s t : Bool) → pick s t false ≡ true → (s ≡ true) × (t ≡ true)
pick_true true t e = (refl, e)
pick_true false t e = absurd (false≢true e)

pub and_true : (s t : Bool) → s && t ≡ true → (s ≡ true) × (t ≡ true)
and_true true t e = (refl, e)
and_true false t e = absurd (false≢true e)

pub true_and : {s t : Bool} → s ≡ true → t ≡ true → s && t ≡ true
true_and d e = rw (d, e)

pub or_false : (s t : Bool) → s || t ≡ false → (s ≡ false) × (t ≡ false)
or_false true t e = absurd (true≢false e)
or_false false t e = (refl, e)

pub or_true : (s t : Bool) → t ≡ true → s || t ≡ true
or_true true t e = refl
or_true false t e = e

and_assoc : (r s t : Bool) → (r && s) && t ≡ r && (s && t)
and_assoc true s t = refl
and_assoc false s t = refl

or_assoc : (r s t : Bool) → (r || s) || t ≡ r || (s || t)
or_assoc true s t = refl
or_assoc false s t = refl

-- ---- tests over lists

module _ {A : Type 0} (p : A → Bool) where
  -- what passes is no longer than the list, and each of it passes
  pub sift_length : (l : List A) → length (sift p l) ≤ length l
  unfolding sift
  sift_length [] = zero-le
  sift_length (a ∷ l) = let h = sift_length l in pick_by (λ (s : List A). length s ≤ suc (length l)) (p a) (suc-le-suc h) (omega arith)

  pub sift_append : (l m : List A) → sift p (l ++ m) ≡ sift p l ++ sift p m
  unfolding sift
  sift_append [] m = refl
  sift_append (a ∷ l) m = rw (sift_append l m) (pick_ap (λ (s : List A). s ++ sift p m) (p a) (a ∷ sift p l) (sift p l))

  pub all_append : (l m : List A) → all p (l ++ m) ≡ all p l && all p m
  unfolding all
  all_append [] m = refl
  all_append (a ∷ l) m = rw (all_append l m) (sym (and_assoc (p a) (all p l) (all p m)))

  pub any_append : (l m : List A) → any p (l ++ m) ≡ any p l || any p m
  unfolding any
  any_append [] m = refl
  any_append (a ∷ l) m = rw (any_append l m) (sym (or_assoc (p a) (any p l) (any p m)))

  -- every element passes: at an index, and from each index
  pub all_get : (l : List A) (k : ℕ) (d : A) → all p l ≡ true → k < length l → p (get_or l k d) ≡ true
  unfolding all
  all_get [] k d e h = absurd (not-suc-le-zero h)
  all_get (a ∷ l) zero d e h = (and_true (p a) (all p l) e).0
  all_get (a ∷ l) (suc k) d e h = all_get l k d (and_true (p a) (all p l) e).1 (le_of_suc-le-suc h)

  pub all_made : (l : List A) (d : A) → ((k : ℕ) → k < length l → p (get_or l k d) ≡ true) → all p l ≡ true
  unfolding all
  all_made [] d f = refl
  all_made (a ∷ l) d f = true_and (f 0 (suc-le-suc zero-le)) (all_made l d (λ k h. f (suc k) (suc-le-suc h)))

  -- some element passes: it has an index, and any index will do
  any_by : (l : List A) (d a : A) (t : Bool) → p a ≡ t → (any p l ≡ true → (k : ℕ) × ((k < length l) × (p (get_or l k d) ≡ true))) → t || any p l ≡ true
      → (k : ℕ) × ((k < suc (length l)) × (p (get_or (a ∷ l) k d) ≡ true))
  any_by l d a true e f h = (0, (suc-le-suc zero-le, e))
  any_by l d a false e f h = let w = f h in (suc w.0, (suc-le-suc w.1.0, w.1.1))

  pub any_get : (l : List A) (d : A) → any p l ≡ true → (k : ℕ) × ((k < length l) × (p (get_or l k d) ≡ true))
  unfolding any
  any_get [] d e = absurd (false≢true e)
  any_get (a ∷ l) d e = any_by l d a (p a) refl (any_get l d) e

  pub any_made : (l : List A) (k : ℕ) (d : A) → k < length l → p (get_or l k d) ≡ true → any p l ≡ true
  unfolding any
  any_made [] k d h e = absurd (not-suc-le-zero h)
  any_made (a ∷ l) zero d h e = rw e
  any_made (a ∷ l) (suc k) d h e = or_true (p a) (any p l) (any_made l k d (le_of_suc-le-suc h) e)

  -- no element passes
  pub any_none : (l : List A) (k : ℕ) (d : A) → any p l ≡ false → k < length l → p (get_or l k d) ≡ false
  unfolding any
  any_none [] k d e h = absurd (not-suc-le-zero h)
  any_none (a ∷ l) zero d e h = (or_false (p a) (any p l) e).0
  any_none (a ∷ l) (suc k) d e h = any_none l k d (or_false (p a) (any p l) e).1 (le_of_suc-le-suc h)

  pub none_any : (l : List A) (d : A) → ((k : ℕ) → k < length l → p (get_or l k d) ≡ false) → any p l ≡ false
  unfolding any
  none_any [] d f = refl
  none_any (a ∷ l) d f = rw (f 0 (suc-le-suc zero-le)) (none_any l d (λ k h. f (suc k) (suc-le-suc h)))

  -- a table passes exactly where each of its values does
  pub all_tab : (n : ℕ) (f : ℕ → A) → all p (tab n f) ≡ true → (k : ℕ) → k < n → p (f k) ≡ true
  unfolding all tab
  all_tab zero f e k h = absurd (not-suc-le-zero h)
  all_tab (suc n) f e zero h = (and_true (p (f 0)) (all p (tab n (λ k. f (suc k)))) e).0
  all_tab (suc n) f e (suc k) h = all_tab n (λ k. f (suc k)) (and_true (p (f 0)) (all p (tab n (λ k. f (suc k)))) e).1 k (le_of_suc-le-suc h)

  pub tab_all : (n : ℕ) (f : ℕ → A) → ((k : ℕ) → k < n → p (f k) ≡ true) → all p (tab n f) ≡ true
  unfolding all tab
  tab_all zero f g = refl
  tab_all (suc n) f g = true_and (g 0 (suc-le-suc zero-le)) (tab_all n (λ k. f (suc k)) (λ k h. g (suc k) (suc-le-suc h)))

  -- every element of what is sifted passes
  sift_by : (a : A) (l : List A) (t : Bool) → p a ≡ t → all p (sift p l) ≡ true → all p (pick t (a ∷ sift p l) (sift p l)) ≡ true
  unfolding all
  sift_by a l true e h = true_and e h
  sift_by a l false e h = h

  pub sift_all : (l : List A) → all p (sift p l) ≡ true
  unfolding sift all
  sift_all [] = refl
  sift_all (a ∷ l) = sift_by a l (p a) refl (sift_all l)

-- tests that agree on every element sift the same
pub sift_ext : {A : Type 0} (p q : A → Bool) (l : List A) → ((a : A) → p a ≡ q a) → sift p l ≡ sift q l
unfolding sift
sift_ext p q [] e = refl
sift_ext p q (a ∷ l) e = rw (e a, sift_ext p q l e)

module _ {A B : Type 0} where
  pub each_append : (f : A → List B) (l m : List A) → each f (l ++ m) ≡ each f l ++ each f m
  unfolding each
  each_append f [] m = refl
  each_append f (a ∷ l) m = rw (each_append f l m) (sym (append_assoc (f a) (each f l) (each f m)))

  pub fold_append : (f : B → A → B) (b : B) (l m : List A) → fold f b (l ++ m) ≡ fold f (fold f b l) m
  unfolding fold
  fold_append f b [] m = refl
  fold_append f b (a ∷ l) m = fold_append f (f b a) l m

-- ---- does x stand in a list

-- at its place, before it, and at the end, as a loop goes through the list
pub stands_here : (x : ℕ) (b : List ℕ) (i : ℕ) → i < length b → get_or b i 0 ≡ x → stands x (drop i b) ≡ true
stands_here x b i l e = rw (drop-cons b i 0 l, eq-eqb _ _ e)

pub stands_on : (x : ℕ) (b : List ℕ) (i : ℕ) → i < length b → (get_or b i 0 ≡ x → ⊥) → stands x (drop (i + 1) b) ≡ stands x (drop i b)
stands_on x b i l e = rw (drop-cons b i 0 l, add-one i, ne_eqb _ _ e)

pub stands_end : (x : ℕ) (b : List ℕ) (i : ℕ) → length b ≤ i → stands x (drop i b) ≡ false
stands_end x b i l = rw (drop_of_length-le b l)

pick_or : (r s t : Bool) → pick r true (s || t) ≡ pick r true s || t
pick_or true s t = refl
pick_or false s t = refl

pub stands_append : (x : ℕ) (l m : List ℕ) → stands x (l ++ m) ≡ stands x l || stands x m
stands_append x [] m = refl
stands_append x (y ∷ l) m = rw (stands_append x l m) (pick_or (eqb y x) (stands x l) (stands x m))

-- it stands where an index has it, and any index will do
stands_by : (x y : ℕ) (l : List ℕ) (t : Bool) → eqb y x ≡ t → (stands x l ≡ true → (k : ℕ) × ((k < length l) × (get_or l k 0 ≡ x))) → pick t true (stands x l) ≡ true
    → (k : ℕ) × ((k < suc (length l)) × (get_or (y ∷ l) k 0 ≡ x))
stands_by x y l true e f h = (0, (suc-le-suc zero-le, eqb-true y x e))
stands_by x y l false e f h = let w = f h in (suc w.0, (suc-le-suc w.1.0, w.1.1))

pub stands_get : (x : ℕ) (l : List ℕ) → stands x l ≡ true → (k : ℕ) × ((k < length l) × (get_or l k 0 ≡ x))
stands_get x [] e = absurd (false≢true e)
stands_get x (y ∷ l) e = stands_by x y l (eqb y x) refl (stands_get x l) e

pick_later : (t s : Bool) → s ≡ true → pick t true s ≡ true
pick_later true s e = refl
pick_later false s e = e

pub stands_made : (x : ℕ) (l : List ℕ) (k : ℕ) → k < length l → get_or l k 0 ≡ x → stands x l ≡ true
stands_made x [] k h e = absurd (not-suc-le-zero h)
stands_made x (y ∷ l) zero h e = rw (eq-eqb y x e)
stands_made x (y ∷ l) (suc k) h e = pick_later (eqb y x) (stands x l) (stands_made x l k (le_of_suc-le-suc h) e)

-- it stands nowhere
pub stands_none : (x : ℕ) (l : List ℕ) (k : ℕ) → stands x l ≡ false → k < length l → get_or l k 0 ≡ x → ⊥
stands_none x l k e h d = false≢true (sym e ∙ stands_made x l k h d)

-- what is sifted holds what passes
sift_stands_by : (p : ℕ → Bool) (x y : ℕ) (l : List ℕ) → Dec (y ≡ x) → stands x (sift p l) ≡ p x && stands x l
    → stands x (pick (p y) (y ∷ sift p l) (sift p l)) ≡ p x && pick (eqb y x) true (stands x l)
sift_stands_by p x y l (yes e) h = rw (e, eq-eqb x x refl) (here (p x) h)
  where
    here : (t : Bool) → stands x (sift p l) ≡ t && stands x l → stands x (pick t (x ∷ sift p l) (sift p l)) ≡ t && true
    here true g = rw (eq-eqb x x refl)
    here false g = g
sift_stands_by p x y l (no n) h = rw (ne_eqb y x n) (other (p y))
  where
    other : (t : Bool) → stands x (pick t (y ∷ sift p l) (sift p l)) ≡ p x && stands x l
    other true = rw (ne_eqb y x n) h
    other false = h

pub sift_stands : (p : ℕ → Bool) (x : ℕ) (l : List ℕ) → stands x (sift p l) ≡ p x && stands x l
unfolding sift
sift_stands p x [] = none (p x)
  where
    none : (t : Bool) → false ≡ t && false
    none true = refl
    none false = refl
sift_stands p x (y ∷ l) = sift_stands_by p x y l (ℕ_discrete y x) (sift_stands p x l)

-- ---- tables

module _ {A : Type 0} where
  -- two tables are equal where their values are
  pub tab_ext : (n : ℕ) (f g : ℕ → A) → ((k : ℕ) → k < n → f k ≡ g k) → tab n f ≡ tab n g
  unfolding tab
  tab_ext zero f g h = refl
  tab_ext (suc n) f g h = ap₂ ◌∷◌ (h 0 (suc-le-suc zero-le)) (tab_ext n (λ k. f (suc k)) (λ k. g (suc k)) (λ k p. h (suc k) (suc-le-suc p)))

  -- one more value, at the end
  pub tab_suc : (n : ℕ) (f : ℕ → A) → tab (suc n) f ≡ tab n f ++ (f n ∷ [])
  unfolding tab
  tab_suc zero f = refl
  tab_suc (suc n) f = ap (λ (l : List A). f 0 ∷ l) (tab_suc n (λ k. f (suc k)))

  -- a list is the table of its own elements, and its front the table of the first of them
  pub tab_of : (l : List A) (d : A) → tab (length l) (λ k. get_or l k d) ≡ l
  unfolding tab
  tab_of [] d = refl
  tab_of (a ∷ l) d = ap (λ (t : List A). a ∷ t) (tab_of l d)

  pub take_tab : (n : ℕ) (s : List A) (d : A) → n ≤ length s → take n s ≡ tab n (λ k. get_or s k d)
  take_tab n s d h =
      ext_get_or d (take n s) (tab n (λ k. get_or s k d)) (length-take-le n s h ∙ sym (tab_length n (λ k. get_or s k d)))
      (λ i p. let q : i < n = rw (length-take-le n s h) at p in get_or-take n s i d q ∙ sym (tab_at n (λ k. get_or s k d) i d q))

  -- the front of a table, and what lies behind it
  pub tab_take : (m n : ℕ) (f : ℕ → A) → m ≤ n → take m (tab n f) ≡ tab m f
  unfolding tab
  tab_take zero n f h = refl
  tab_take (suc m) zero f h = absurd (not-suc-le-zero h)
  tab_take (suc m) (suc n) f h = ap (λ (l : List A). f 0 ∷ l) (tab_take m n (λ k. f (suc k)) (le_of_suc-le-suc h))

  pub tab_drop : (m n : ℕ) (f : ℕ → A) → drop m (tab n f) ≡ tab (n - m) (λ k. f (m + k))
  unfolding tab
  tab_drop zero n f =
      let e : n - 0 ≡ n = omega arith in
      rw e (tab_ext n f (λ k. f (0 + k)) (λ k h. let q : k ≡ 0 + k = omega arith in ap f q))
  tab_drop (suc m) zero f = let e : 0 - suc m ≡ 0 = omega arith in rw e refl
  tab_drop (suc m) (suc n) f =
      let e : suc n - suc m ≡ n - m = omega arith in
      rw e (tab_drop m n (λ k. f (suc k)) ∙ tab_ext (n - m) (λ k. f (suc (m + k))) (λ k. f (suc m + k)) (λ k h. let q : suc (m + k) ≡ suc m + k = omega arith in ap f q))

-- a function of each value of a table
pub map_tab : {A B : Type 0} (g : A → B) (n : ℕ) (f : ℕ → A) → map g (tab n f) ≡ tab n (λ k. g (f k))
unfolding tab
map_tab g zero f = refl
map_tab {B = B} g (suc n) f = ap (λ (l : List B). g (f 0) ∷ l) (map_tab g n (λ k. f (suc k)))

-- 0, 1, .., n - 1: how many, which at a place, one more, and which numbers stand there
pub up_to_length : (n : ℕ) → length (up_to n) ≡ n
unfolding up_to
up_to_length n = tab_length n (λ k. k)

pub up_to_at : (n k : ℕ) → k < n → get_or (up_to n) k 0 ≡ k
unfolding up_to
up_to_at n k h = tab_at n (λ k. k) k 0 h

pub up_to_suc : (n : ℕ) → up_to (suc n) ≡ up_to n ++ (n ∷ [])
unfolding up_to
up_to_suc n = tab_suc n (λ k. k)

pub up_to_stands : (n x : ℕ) → x < n → stands x (up_to n) ≡ true
up_to_stands n x h = stands_made x (up_to n) x (omega (arith, up_to_length n)) (up_to_at n x h)

pub up_to_below : (n x : ℕ) → stands x (up_to n) ≡ true → x < n
up_to_below n x e =
    let w = stands_get x (up_to n) e in
    let l : w.0 < n = omega (arith, up_to_length n, w.1.0) in
    omega (arith, up_to_at n w.0 l, w.1.1)

-- the rising numbers of a list are those below n that stand in it
pub rising_stands : (n : ℕ) (l : List ℕ) (x : ℕ) → stands x (rising n l) ≡ stands x l && stands x (up_to n)
unfolding rising
rising_stands n l x = sift_stands (λ k. stands k l) x (up_to n)

-- ---- functions that agree everywhere

pub map_ext : {A B : Type 0} (f g : A → B) → ((a : A) → f a ≡ g a) → (l : List A) → map f l ≡ map g l
map_ext f g h [] = refl
map_ext {B = B} f g h (a ∷ l) = ap₂ {C = List B} (λ x y. x ∷ y) (h a) (map_ext f g h l)

pub each_ext : {A B : Type 0} (f g : A → List B) → ((a : A) → f a ≡ g a) → (l : List A) → each f l ≡ each g l
unfolding each
each_ext f g h [] = refl
each_ext {B = B} f g h (a ∷ l) = ap₂ {C = List B} (λ x y. x ++ y) (h a) (each_ext f g h l)
