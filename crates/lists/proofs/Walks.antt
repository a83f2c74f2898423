-- Laws of lists that a walk needs: a sift of a sift, the least number that passes and those behind it, some element of a list. Assumes nothing.
use mathlib.Core.Path.{◌≡◌, refl, sym, ◌∙◌, ap, ap₂}
use mathlib.Core.Bool.{Bool, true, false, not, ◌&&◌, ◌||◌, false≢true}
use mathlib.Core.List.{List, [], ◌∷◌, ◌++◌, map}
use Prim.Native.Nat.{ℕ, zero, suc, ◌+◌, ◌-◌, ◌<◌, ◌≤◌, zero-le, suc-le-suc}
use native.Mathlib.Omega.{arith}
use borrow.Author.Tests.{eq-eqb, le-leb, lt-leb}
use lib.Dec.{eqb, leb}
use lib.ListN.{get_or, take-append-drop}
use Rattle.lists.specs.Lists.{pick, stands, any, all, sift, empty, head_or, rest, tab, up_to}
use Rattle.lists.proofs.Sifts.{and_true, sift_all, any_get, any_made, stands_get, stands_made, sift_append, tab_ext, tab_suc, tab_take, tab_drop}

-- what is not true is false
pub not_so : (b : Bool) → (b ≡ true → ⊥) → false ≡ b
not_so true h = absurd (h refl)
not_so false h = refl

module _ {A : Type 0} where
  -- a sift of a sift asks both
  sift_both : (p q : A → Bool) (a : A) (l : List A) (t : Bool) → sift p (sift q l) ≡ sift (λ b. q b && p b) l
      → sift p (pick t (a ∷ sift q l) (sift q l)) ≡ pick (t && p a) (a ∷ sift (λ b. q b && p b) l) (sift (λ b. q b && p b) l)
  unfolding sift
  sift_both p q a l true e = ap (λ (s : List A). pick (p a) (a ∷ s) s) e
  sift_both p q a l false e = e

  pub sift_sift : (p q : A → Bool) (l : List A) → sift p (sift q l) ≡ sift (λ b. q b && p b) l
  unfolding sift
  sift_sift p q [] = refl
  sift_sift p q (a ∷ l) = sift_both p q a l (q a) (sift_sift p q l)

  -- a test that all pass leaves the list
  pub sift_every : (p : A → Bool) (l : List A) → ((a : A) → p a ≡ true) → sift p l ≡ l
  unfolding sift
  sift_every p [] h = refl
  sift_every p (a ∷ l) h = ap (λ (t : Bool). pick t (a ∷ sift p l) (sift p l)) (h a) ∙ ap (λ (s : List A). a ∷ s) (sift_every p l h)

  -- a table of which nothing passes
  pub sift_none : (p : A → Bool) (n : ℕ) (f : ℕ → A) → ((k : ℕ) → k < n → p (f k) ≡ false) → sift p (tab n f) ≡ []
  unfolding sift tab
  sift_none p zero f h = refl
  sift_none p (suc n) f h =
      ap (λ (t : Bool). pick t (f 0 ∷ sift p (tab n (λ k. f (suc k)))) (sift p (tab n (λ k. f (suc k))))) (h 0 (suc-le-suc zero-le))
      ∙ sift_none p n (λ k. f (suc k)) (λ k l. h (suc k) (suc-le-suc l))

  -- tests that agree on a table sift it the same
  pub sift_same : (p q : A → Bool) (n : ℕ) (f : ℕ → A) → ((k : ℕ) → k < n → p (f k) ≡ q (f k)) → sift p (tab n f) ≡ sift q (tab n f)
  unfolding sift tab
  sift_same p q zero f h = refl
  sift_same p q (suc n) f h =
      ap₂ (λ (t : Bool) (s : List A). pick t (f 0 ∷ s) s) (h 0 (suc-le-suc zero-le)) (sift_same p q n (λ k. f (suc k)) (λ k l. h (suc k) (suc-le-suc l)))

  -- a table in two parts
  pub tab_split : (a c : ℕ) (f : ℕ → A) → a ≤ c → tab c f ≡ tab a f ++ tab (c - a) (λ k. f (a + k))
  tab_split a c f h = sym (take-append-drop a (tab c f)) ∙ ap₂ ◌++◌ (tab_take a c f h) (tab_drop a c f)

-- ---- the least number that passes

module _ (p : ℕ → Bool) (r c : ℕ) (low : (g : ℕ) → g < r → p g ≡ false) where
  -- none below c
  pub least_none : r ≡ c → head_or c (sift p (up_to c)) ≡ c
  unfolding up_to
  least_none e = ap (head_or c) (sift_none p c (λ k. k) (λ k l. low k (omega arith)))

  -- r
  pub least_some : r < c → p r ≡ true → head_or c (sift p (up_to c)) ≡ r
  unfolding up_to sift
  least_some l e =
      let front : sift p (tab r (λ k. k)) ≡ [] = sift_none p r (λ k. k) low in
      let behind = tab (c - suc r) (λ k. suc r + k) in
      let one : sift p (r ∷ []) ≡ r ∷ [] = ap (λ (t : Bool). pick t (r ∷ []) []) e in
      ap (λ (s : List ℕ). head_or c (sift p s)) (tab_split (suc r) c (λ k. k) l ∙ ap (λ (s : List ℕ). s ++ behind) (tab_suc r (λ k. k)))
      ∙ ap (head_or c) (sift_append p (tab r (λ k. k) ++ (r ∷ [])) behind)
      ∙ ap (λ (s : List ℕ). head_or c (s ++ sift p behind)) (sift_append p (tab r (λ k. k)) (r ∷ []) ∙ ap₂ ◌++◌ front one)

-- behind the first that passes: those that pass above it
behind_here : (p : ℕ → Bool) (n a r : ℕ) → a ≡ r → sift (λ g. p g && leb (r + 1) g) (tab n (λ k. suc a + k)) ≡ sift p (tab n (λ k. suc a + k))
behind_here p n a r e =
    sift_same (λ g. p g && leb (r + 1) g) p n (λ k. suc a + k)
    (λ k l. ap (λ (t : Bool). p (suc a + k) && t) (le-leb (r + 1) (suc a + k) (omega arith)) ∙ and_end (p (suc a + k)))
  where
    and_end : (s : Bool) → s && true ≡ s
    and_end true = refl
    and_end false = refl

-- one more number: it passes, or not
behind_by : (p : ℕ → Bool) (n a d r : ℕ) (t : Bool) → p a ≡ t
    → (head_or d (sift p (tab n (λ k. suc a + k))) ≡ r → sift (λ g. p g && leb (r + 1) g) (tab n (λ k. suc a + k)) ≡ rest (sift p (tab n (λ k. suc a + k))))
    → head_or d (pick t (a ∷ sift p (tab n (λ k. suc a + k))) (sift p (tab n (λ k. suc a + k)))) ≡ r
    → pick (t && leb (r + 1) a) (a ∷ sift (λ g. p g && leb (r + 1) g) (tab n (λ k. suc a + k))) (sift (λ g. p g && leb (r + 1) g) (tab n (λ k. suc a + k)))
    ≡ rest (pick t (a ∷ sift p (tab n (λ k. suc a + k))) (sift p (tab n (λ k. suc a + k))))
behind_by p n a d r true e f h =
    let T = sift (λ g. p g && leb (r + 1) g) (tab n (λ k. suc a + k)) in
    ap (λ (t : Bool). pick t (a ∷ T) T) (lt-leb (r + 1) a (omega arith)) ∙ behind_here p n a r h
behind_by p n a d r false e f h = f h

-- the numbers from a on
from_on : (n a : ℕ) → tab (suc n) (λ k. a + k) ≡ a ∷ tab n (λ k. suc a + k)
unfolding tab
from_on n a =
    let e : a + 0 ≡ a = omega arith in
    ap₂ ◌∷◌ e (tab_ext n (λ k. a + suc k) (λ k. suc a + k) (λ k l. omega arith))

-- a sift of one more
sift_cons : (p : ℕ → Bool) (a : ℕ) (l : List ℕ) → sift p (a ∷ l) ≡ pick (p a) (a ∷ sift p l) (sift p l)
unfolding sift
sift_cons p a l = refl

-- behind nothing
behind_none : (p : ℕ → Bool) (a r : ℕ) → sift (λ g. p g && leb (r + 1) g) (tab 0 (λ k. a + k)) ≡ rest (sift p (tab 0 (λ k. a + k)))
unfolding sift tab
behind_none p a r = refl

-- the same from a on
behind : (p : ℕ → Bool) (n a d r : ℕ) → head_or d (sift p (tab n (λ k. a + k))) ≡ r → sift (λ g. p g && leb (r + 1) g) (tab n (λ k. a + k)) ≡ rest (sift p (tab n (λ k. a + k)))
behind p zero a d r h = behind_none p a r
behind p (suc n) a d r h =
    let T = tab n (λ k. suc a + k) in
    let q : ℕ → Bool = λ g. p g && leb (r + 1) g in
    let s : sift p (tab (suc n) (λ k. a + k)) ≡ pick (p a) (a ∷ sift p T) (sift p T) = ap (sift p) (from_on n a) ∙ sift_cons p a T in
    ap (sift q) (from_on n a) ∙ sift_cons q a T ∙ behind_by p n a d r (p a) refl (behind p n (suc a) d r) (sym (ap (head_or d) s) ∙ h) ∙ sym (ap (rest {A = ℕ}) s)

-- behind the least number that passes stand those that pass above it
pub behind_up_to : (p : ℕ → Bool) (c d r : ℕ) → head_or d (sift p (up_to c)) ≡ r → sift (λ g. p g && leb (r + 1) g) (up_to c) ≡ rest (sift p (up_to c))
unfolding up_to
behind_up_to p c d r h =
    let e : tab c (λ k. k) ≡ tab c (λ k. 0 + k) = tab_ext c (λ k. k) (λ k. 0 + k) (λ k l. omega arith) in
    ap (sift (λ g. p g && leb (r + 1) g)) e ∙ behind p c 0 d r (sym (ap (λ (s : List ℕ). head_or d (sift p s)) e) ∙ h) ∙ sym (ap (λ (s : List ℕ). rest (sift p s)) e)

-- the first of what passes, passes
head_of : (p : ℕ → Bool) (s : List ℕ) (d r : ℕ) → all p s ≡ true → head_or d s ≡ r → (r ≡ d → ⊥) → p r ≡ true
unfolding all
head_of p [] d r a e n = absurd (n (sym e))
head_of p (x ∷ s) d r a e n = sym (ap p e) ∙ (and_true (p x) (all p s) a).0

-- the first of what is sifted passes
pub head_passes : (p : ℕ → Bool) (l : List ℕ) (d r : ℕ) → head_or d (sift p l) ≡ r → (r ≡ d → ⊥) → p r ≡ true
head_passes p l d r e n = head_of p (sift p l) d r (sift_all p l) e n

-- ---- some element

-- a list in which a number stands is not empty
pub not_empty : (g : ℕ) (l : List ℕ) → stands g l ≡ true → not (empty l) ≡ true
not_empty g [] e = absurd (false≢true e)
not_empty g (a ∷ l) e = refl

-- in a list that is not empty some number stands
pub some_stands : (l : List ℕ) → not (empty l) ≡ true → (g : ℕ) × (stands g l ≡ true)
some_stands [] e = absurd (false≢true e)
some_stands (a ∷ l) e = (a, rw (eq-eqb a a refl))

-- a number that stands in the list and passes
pub any_stands : (p : ℕ → Bool) (g : ℕ) (l : List ℕ) → stands g l ≡ true → p g ≡ true → any p l ≡ true
any_stands p g l e h = let w = stands_get g l e in any_made p l w.0 0 w.1.0 (ap p w.1.1 ∙ h)

-- where some element passes, one that stands in the list and passes
pub any_one : (p : ℕ → Bool) (l : List ℕ) → any p l ≡ true → (g : ℕ) × ((stands g l ≡ true) × (p g ≡ true))
any_one p l e = let w = any_get p l 0 e in (get_or l w.0 0, (stands_made (get_or l w.0 0) l w.0 w.1.0 refl, w.1.1))

-- does g stand among what f makes of those that pass
pick_or : (t s : Bool) → pick t true s ≡ t || s
pick_or true s = refl
pick_or false s = refl

module _ {A : Type 0} (f : A → ℕ) (h : A → Bool) (g : ℕ) where
  made_by : (a : A) (l : List A) (t : Bool) → stands g (map f (sift h l)) ≡ any (λ b. h b && eqb (f b) g) l
      → stands g (map f (pick t (a ∷ sift h l) (sift h l))) ≡ (t && eqb (f a) g) || any (λ b. h b && eqb (f b) g) l
  made_by a l true e = pick_or (eqb (f a) g) (stands g (map f (sift h l))) ∙ ap (λ (s : Bool). eqb (f a) g || s) e
  made_by a l false e = e

  pub stands_made_of : (l : List A) → stands g (map f (sift h l)) ≡ any (λ b. h b && eqb (f b) g) l
  unfolding sift any
  stands_made_of [] = refl
  stands_made_of (a ∷ l) = made_by a l (h a) (stands_made_of l)
