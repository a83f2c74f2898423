-- Laws of lists that the theorems share: what holds of every element, of a sifted list, of a tabulated one; what stands in a list. Assumes nothing.
use mathlib.Core.Path.{◌≡◌, refl, sym, ◌∙◌, ap, ap₂}
use mathlib.Core.Bool.{Bool, true, false, ◌&&◌}
use mathlib.Core.Logic.{◌⊎◌, inl, inr}
use mathlib.Core.List.{List, [], ◌∷◌, ◌++◌, map, append_assoc}
use mathlib.Core.Option.{Option, none as nothing, some}
use Prim.Native.Nat.{ℕ, zero, suc, ◌<◌}
use native.Mathlib.Omega.{arith}
use native.Mathlib.Nat.{not-suc-le-zero, le_of_suc-le-suc}
use native.Mathlib.Decide.{ℕ_discrete}
use borrow.Author.Tests.{eq-eqb, ne_eqb}
use lib.Dec.{eqb}
use lib.ListN.{length, get_or, set, replicate}
use Rattle.lists.specs.Lists.{pick, stands, all, map_at_of, each, sift, sift_at, find, pairs, tab, up_to, rising, head_or, rest, or_else}
use Rattle.model.specs.Trace.{All}
use Rattle.lists.proofs.Sifts.{and_true}

-- ---- Booleans

pub false_true : ◌≡◌ {A = Bool} false true → ⊥
false_true e = let y : ◌≡◌ {A = ℕ} 0 1 = cc in omega arith

pub both : (a b : Bool) → a ≡ true → b ≡ true → (a && b) ≡ true
both true b p q = q
both false b p q = p

pub pick_both : {A : Type 0} (P : A → Type 0) (b : Bool) (x y : A) → P x → P y → P (pick b x y)
pick_both P true x y p q = p
pick_both P false x y p q = q

-- ---- every element

pub all_at : {A : Type 0} (P : A → Type 0) (l : List A) (i : ℕ) (d : A) → P d → All P l → P (get_or l i d)
all_at P [] i d p h = p
all_at P (a ∷ l) zero d p h = h.0
all_at P (a ∷ l) (suc i) d p h = all_at P l i d p h.1

pub all_set : {A : Type 0} (P : A → Type 0) (l : List A) (i : ℕ) (x : A) → P x → All P l → All P (set l i x)
all_set P [] i x p h = tt
all_set P (a ∷ l) zero x p h = (p, h.1)
all_set P (a ∷ l) (suc i) x p h = (h.0, all_set P l i x p h.1)

pub all_each : (P : ℕ → Type 0) (l : List ℕ) → ((i : ℕ) → i < length l → P (get_or l i 0)) → All P l
all_each P [] h = tt
all_each P (a ∷ l) h = (h 0 (omega arith), all_each P l (λ i u. h (suc i) (omega arith)))

pub all_replicate : {A : Type 0} (P : A → Type 0) (n : ℕ) (x : A) → P x → All P (replicate n x)
all_replicate P zero x p = tt
all_replicate P (suc n) x p = (p, all_replicate P n x p)

pub all_over : {A : Type 0} (P Q : A → Type 0) → ((a : A) → P a → Q a) → (l : List A) → All P l → All Q l
all_over P Q f [] h = tt
all_over P Q f (a ∷ l) h = (f a h.0, all_over P Q f l h.1)

pub all_append : {A : Type 0} (P : A → Type 0) (a b : List A) → All P a → All P b → All P (a ++ b)
all_append P [] b u w = w
all_append P (x ∷ a) b u w = (u.0, all_append P a b u.1 w)

pub all_map_at : {A B : Type 0} (P : A → Type 0) (Q : B → Type 0) (g : ℕ → A → B) → ((i : ℕ) (a : A) → P a → Q (g i a)) → (l : List A) → All P l → All Q (map_at_of g l)
unfolding map_at_of
all_map_at P Q g f [] h = tt
all_map_at P Q g f (a ∷ l) h = (f 0 a h.0, all_map_at P Q (λ k. g (suc k)) (λ i. f (suc i)) l h.1)

pub all_tab : {A : Type 0} (P : A → Type 0) (h : ℕ → A) (k : ℕ) (f : ℕ → ℕ) → ((i : ℕ) → P (h (f i))) → All P (map h (tab k f))
unfolding tab
all_tab P h zero f p = tt
all_tab P h (suc k) f p = (p 0, all_tab P h k (λ i. f (suc i)) (λ i. p (suc i)))

pub tab_all : {A : Type 0} (P : A → Type 0) (h : ℕ → A) (k : ℕ) (f : ℕ → ℕ) → All P (map h (tab k f)) → (i : ℕ) → i < k → P (h (f i))
unfolding tab
tab_all P h zero f u i l = absurd (not-suc-le-zero l)
tab_all P h (suc k) f u zero l = u.0
tab_all P h (suc k) f u (suc i) l = tab_all P h k (λ i. f (suc i)) u.1 i (le_of_suc-le-suc l)

pub tab_at : (P : ℕ → Type 0) (n : ℕ) (f : ℕ → ℕ) → All P (tab n f) → (i : ℕ) → i < n → P (f i)
unfolding tab
tab_at P zero f h i l = absurd (not-suc-le-zero l)
tab_at P (suc n) f h zero l = h.0
tab_at P (suc n) f h (suc i) l = tab_at P n (λ k. f (suc k)) h.1 i (le_of_suc-le-suc l)

pub all_below : {A : Type 0} (P : A → Type 0) (h : ℕ → A) (k : ℕ) (f : ℕ → ℕ) → ((i : ℕ) → i < k → P (h (f i))) → All P (map h (tab k f))
unfolding tab
all_below P h zero f p = tt
all_below P h (suc k) f p = (p 0 (omega arith), all_below P h k (λ i. f (suc i)) (λ i l. p (suc i) (omega arith)))

pub all_sifted : {A : Type 0} (P : A → Type 0) (f : A → ℕ) (Q : ℕ → Type 0) → ((a : A) → P a → Q (f a)) → (p : A → Bool) (l : List A) → All P l → All Q (map f (sift p l))
unfolding sift
all_sifted P f Q k p [] h = tt
all_sifted P f Q k p (a ∷ l) h = by (p a) (all_sifted P f Q k p l h.1)
  where
    by : (b : Bool) → All Q (map f (sift p l)) → All Q (map f (pick b (a ∷ sift p l) (sift p l)))
    by true u = (k a h.0, u)
    by false u = u

pub sifted_all : {A : Type 0} (p : A → Bool) (l : List A) → All (λ a. p a ≡ true) (sift p l)
unfolding sift
sifted_all p [] = tt
sifted_all p (a ∷ l) = by (p a) refl (sifted_all p l)
  where
    by : (b : Bool) → p a ≡ b → All (λ x. p x ≡ true) (sift p l) → All (λ x. p x ≡ true) (pick b (a ∷ sift p l) (sift p l))
    by true e h = (e, h)
    by false e h = h

pub pick_one : {A : Type 0} (P : A → Type 0) (b : Bool) (a : A) → P a → All P (pick b (a ∷ []) [])
pick_one P true a h = (h, tt)
pick_one P false a h = tt

pub all_in : {A : Type 0} (P : A → Type 0) (l : List A) (i : ℕ) (d : A) → i < length l → All P l → P (get_or l i d)
all_in P [] i d u h = absurd (let z : i < 0 = u in omega arith)
all_in P (a ∷ l) zero d u h = h.0
all_in P (a ∷ l) (suc i) d u h = all_in P l i d (omega arith) h.1

pub all_yes : {A : Type 0} (P : A → Type 0) → ((a : A) → P a) → (l : List A) → All P l
all_yes P k [] = tt
all_yes P k (a ∷ l) = (k a, all_yes P k l)

pub all_map : {A B : Type 0} (P : A → Type 0) (Q : B → Type 0) (f : A → B) → ((a : A) → P a → Q (f a)) → (l : List A) → All P l → All Q (map f l)
all_map P Q f k [] h = tt
all_map P Q f k (a ∷ l) h = (k a h.0, all_map P Q f k l h.1)

pub all_each_of : {A B : Type 0} (P : A → Type 0) (Q : B → Type 0) (f : A → List B) → ((a : A) → P a → All Q (f a)) → (l : List A) → All P l → All Q (each f l)
unfolding each
all_each_of P Q f k [] h = tt
all_each_of P Q f k (a ∷ l) h = all_append Q (f a) (each f l) (k a h.0) (all_each_of P Q f k l h.1)

pub all_sift : {A : Type 0} (P : A → Type 0) (p : A → Bool) (l : List A) → All P l → All P (sift p l)
unfolding sift
all_sift P p [] h = tt
all_sift P p (a ∷ l) h = by (p a) (all_sift P p l h.1)
  where
    by : (b : Bool) → All P (sift p l) → All P (pick b (a ∷ sift p l) (sift p l))
    by true u = (h.0, u)
    by false u = u

pub all_sift_at : {A : Type 0} (P : A → Type 0) (p : ℕ → A → Bool) (l : List A) → All P l → All P (sift_at p l)
unfolding sift_at
all_sift_at P p [] h = tt
all_sift_at P p (a ∷ l) h = pick_both (All P) (p 0 a) (a ∷ sift_at (λ k. p (suc k)) l) (sift_at (λ k. p (suc k)) l) (h.0, all_sift_at P (λ k. p (suc k)) l h.1) (all_sift_at P (λ k. p (suc k)) l h.1)

pub all_up_to : (n k : ℕ) (f : ℕ → ℕ) → ((i : ℕ) → i < k → f i < n) → All (λ g. g < n) (tab k f)
unfolding tab
all_up_to n zero f h = tt
all_up_to n (suc k) f h = (h 0 (omega arith), all_up_to n k (λ i. f (suc i)) (λ i u. h (suc i) (omega arith)))

pub all_pairs : {A : Type 0} (P : A → Type 0) (l : List A) → All P l → All (λ (pq : A × A). P pq.0 × P pq.1) (pairs l)
unfolding pairs
all_pairs P [] h = tt
all_pairs P (a ∷ l) h = all_append _ (map (λ b. (a, b)) l) (pairs l) (all_map P _ (λ b. (a, b)) (λ b u. (h.0, u)) l h.1) (all_pairs P l h.1)

pub all_rest : {A : Type 0} (P : A → Type 0) (l : List A) → All P l → All P (rest l)
all_rest P [] h = tt
all_rest P (a ∷ l) h = h.1

pub all_head : {A : Type 0} (P : A → Type 0) (d : A) (l : List A) → P d → All P l → P (head_or d l)
all_head P d [] p h = p
all_head P d (a ∷ l) p h = h.0

pub all_else : {A : Type 0} (P : A → Type 0) (l m : List A) → All P l → All P m → All P (or_else l m)
all_else P [] m h u = u
all_else P (a ∷ l) m h u = h

pub all_from : {A : Type 0} (p : A → Bool) (P : A → Type 0) → ((a : A) → p a ≡ true → P a) → (l : List A) → all p l ≡ true → All P l
unfolding all
all_from p P k [] e = tt
all_from p P k (a ∷ l) e = let d = and_true (p a) (all p l) e in (k a d.0, all_from p P k l d.1)

pub all_to : {A : Type 0} (p : A → Bool) (P : A → Type 0) → ((a : A) → P a → p a ≡ true) → (l : List A) → All P l → all p l ≡ true
unfolding all
all_to p P k [] h = refl
all_to p P k (a ∷ l) h = both (p a) (all p l) (k a h.0) (all_to p P k l h.1)

-- ---- each element with its number

pub length_map_at : {A B : Type 0} (g : ℕ → A → B) (l : List A) → length (map_at_of g l) ≡ length l
unfolding map_at_of
length_map_at g [] = refl
length_map_at g (a ∷ l) = ap suc (length_map_at (λ k. g (suc k)) l)

pub get_d_map_at : {A B : Type 0} (g : ℕ → A → B) (l : List A) (i : ℕ) (d : A) (z : B) → i < length l → get_or (map_at_of g l) i z ≡ g i (get_or l i d)
unfolding map_at_of
get_d_map_at g [] i d z l = absurd (not-suc-le-zero l)
get_d_map_at g (a ∷ l) zero d z h = refl
get_d_map_at g (a ∷ l) (suc i) d z h = get_d_map_at (λ k. g (suc k)) l i d z (le_of_suc-le-suc h)

pub map_map_at : {A B C : Type 0} (P : A → Type 0) (g : ℕ → A → B) (h : B → C) (k : A → C) → ((i : ℕ) (a : A) → P a → h (g i a) ≡ k a) → (l : List A) → All P l → map h (map_at_of g l) ≡ map k l
unfolding map_at_of
map_map_at P g h k f [] u = refl
map_map_at P g h k f (a ∷ l) u = ap₂ {C = List _} (λ x y. x ∷ y) (f 0 a u.0) (map_map_at P (λ i. g (suc i)) h k (λ i. f (suc i)) l u.1)

-- ---- one list behind the other, none left, the first found

pub each_append : {A B : Type 0} (f : A → List B) (a b : List A) → each f (a ++ b) ≡ each f a ++ each f b
unfolding each
each_append f [] b = refl
each_append f (x ∷ a) b = rw (each_append f a b, append_assoc (f x) (each f a) (each f b))

pub map_none : {A : Type 0} (f : A → ℕ) (l : List A) → map f l ≡ [] → l ≡ []
map_none f [] e = refl
map_none f (a ∷ l) e = absurd (let z : ◌≡◌ {A = ℕ} (suc (length (map f l))) 0 = ap length e in omega arith)

pub sift_none : {A : Type 0} (p : A → Bool) (l : List A) → All (λ a. p a ≡ false) l → sift p l ≡ []
unfolding sift
sift_none p [] h = refl
sift_none p (a ∷ l) h = rw h.0 (sift_none p l h.1)

pub none_sifted : {A : Type 0} (p : A → Bool) (l : List A) → sift p l ≡ [] → All (λ a. p a ≡ false) l
unfolding sift
none_sifted p [] e = tt
none_sifted p (a ∷ l) e = by (p a) refl e (none_sifted p l)
  where
    by : (b : Bool) → p a ≡ b → pick b (a ∷ sift p l) (sift p l) ≡ [] → (sift p l ≡ [] → All (λ x. p x ≡ false) l) → (p a ≡ false) × All (λ x. p x ≡ false) l
    by true q d h = absurd (let z : ◌≡◌ {A = ℕ} (suc (length (sift p l))) 0 = ap length d in omega arith)
    by false q d h = (q, h d)

-- numbers below n of which none is left are none
pub rising_none : (n : ℕ) (l : List ℕ) → All (λ g. g < n) l → rising n l ≡ [] → l ≡ []
unfolding rising up_to
rising_none n [] h e = refl
rising_none n (g ∷ l) h e =
    let q = tab_at (λ k. stands k (g ∷ l) ≡ false) n (λ k. k) (none_sifted (λ k. stands k (g ∷ l)) (tab n (λ k. k)) e) g h.0 in
    absurd (false_true (sym q ∙ rw (eq-eqb g g refl)))

pub none_rising : (n : ℕ) → rising n [] ≡ []
unfolding rising up_to tab
none_rising n = sift_none (λ k. false) (tab n (λ k. k)) (all_false n (λ k. k))
  where
    all_false : (n : ℕ) (f : ℕ → ℕ) → All (λ k. ◌≡◌ {A = Bool} false false) (tab n f)
    all_false zero f = tt
    all_false (suc n) f = (refl, all_false n (λ k. f (suc k)))

-- P of what is found, if anything is
abbrev pub Found : {A : Type 0} → (A → Type 0) → Option A → Type 0
Found P nothing = Unit {0}
Found P (some a) = P a

pub find_fits : {A : Type 0} (P : A → Type 0) (p : A → Bool) (l : List A) → All P l → Found P (find p l)
unfolding find
find_fits P p [] h = tt
find_fits P p (a ∷ l) h = one (p a) (find p l) h.0 (find_fits P p l h.1)
  where
    one : (b : Bool) (o : Option _) → P a → Found P o → Found P (pick b (some a) o)
    one true o x y = x
    one false o x y = y

pub found? : {A : Type 0} → Option A → Bool
found? nothing = false
found? (some a) = true

pub find_none : {A : Type 0} (p : A → Bool) (l : List A) → find p l ≡ nothing → All (λ a. p a ≡ false) l
unfolding find found?
find_none p [] e = tt
find_none p (a ∷ l) e = by (p a) refl e (find_none p l)
  where
    by : (b : Bool) → p a ≡ b → pick b (some a) (find p l) ≡ nothing → (find p l ≡ nothing → All (λ x. p x ≡ false) l) → (p a ≡ false) × All (λ x. p x ≡ false) l
    by true q d h = absurd (false_true (sym (ap found? d)))
    by false q d h = (q, h d)

-- ---- what stands in a list

pub stands_head : (x y : ℕ) (l : List ℕ) → y ≡ x → stands x (y ∷ l) ≡ true
stands_head x y l e = rw (eq-eqb y x e)

pub pick_true : (b c : Bool) → c ≡ true → pick b true c ≡ true
pick_true true c e = refl
pick_true false c e = e

pub stands_tail : (x y : ℕ) (l : List ℕ) → stands x l ≡ true → stands x (y ∷ l) ≡ true
stands_tail x y l e = pick_true (eqb y x) (stands x l) e

pub stands_case : (x y : ℕ) (l : List ℕ) → stands x (y ∷ l) ≡ true → (y ≡ x) ⊎ (stands x l ≡ true)
stands_case x y l e = elim (ℕ_discrete y x) [ yes d ↦ inl d | no n ↦ inr (rw (ne_eqb y x n) at e) ]

pub stands_not : (x y : ℕ) (l : List ℕ) → stands x (y ∷ l) ≡ false → (y ≡ x → ⊥) × (stands x l ≡ false)
stands_not x y l e =
    elim (ℕ_discrete y x) [
      | yes d ↦ absurd (false_true (sym e ∙ rw (eq-eqb y x d)))
      | no n ↦ (n, rw (ne_eqb y x n) at e)
    ]
