-- Laws of classes: the labels of a test stand for its classes, and coarser classes are no more. Assumes nothing.
use mathlib.Core.Path.{◌≡◌, refl, sym, ◌∙◌}
use mathlib.Core.Bool.{Bool, true}
use mathlib.Core.List.{List}
use Prim.Native.Nat.{ℕ, ◌<◌, ◌≤◌}
use native.Mathlib.Omega.{arith}
use native.Mathlib.Decide.{dec_lt}
use lib.ListN.{length, get_or}
use Rattle.lists.specs.Lists.{stands, tab, up_to, distinct}
use Rattle.lists.specs.Chain.{Chain}
use Rattle.lists.specs.Labels.{Joins, labelled}
use Rattle.lists.proofs.Chains.{chain_trans, chain_sym, chain_to}
use Rattle.lists.proofs.Labelled.{labelled_joined, labelled_length, labelled_down, labelled_flat}
use Rattle.lists.proofs.Stores.{at_eq, tab_length}
use Rattle.lists.proofs.Sifts.{stands_get, stands_made, up_to_stands, up_to_length}
use Rattle.piece_classes.proofs.Distinct.{stands_tab, distinct_stands, Once, distinct_once, once_same, once_within, tab_once}
use Rattle.piece_classes.specs.Classes.{Classes}

-- the distinct labels of a test stand for its classes
module _ (near : ℕ → ℕ → Bool) (n : ℕ) where
  label_of : (a : ℕ) → a < length (distinct (labelled near n))
      → (i : ℕ) × ((i < n) × (get_or (labelled near n) i 0 ≡ get_or (distinct (labelled near n)) a 0))
  label_of a l =
      let x = get_or (distinct (labelled near n)) a 0 in
      let w = stands_get x (labelled near n) (sym (distinct_stands (labelled near n) x) ∙ stands_made x (distinct (labelled near n)) a l refl) in
      (w.0, (omega (arith, labelled_length near n, w.1.0), w.1.1))

  label_below : (a : ℕ) → a < length (distinct (labelled near n)) → get_or (distinct (labelled near n)) a 0 < n
  label_below a l = let w = label_of a l in omega (arith, labelled_down near n w.0 w.1.0, w.1.0, w.1.1)

  label_own : (a : ℕ) → a < length (distinct (labelled near n)) → get_or (labelled near n) (get_or (distinct (labelled near n)) a 0) 0 ≡ get_or (distinct (labelled near n)) a 0
  label_own a l = let w = label_of a l in at_eq (labelled near n) (sym w.1.1) ∙ labelled_flat near n w.0 w.1.0 ∙ w.1.1

  pub labels_stand : Classes (Joins near n) n (distinct (labelled near n))
  labels_stand =
      let D : List ℕ = distinct (labelled near n) in
      record {
        within = label_below;
        apart = λ a b l m c.
            once_same D (distinct_once (labelled near n)) a b l m
            (sym (label_own a l) ∙ (labelled_joined near n (get_or D a 0) (get_or D b 0) (label_below a l) (label_below b m)).1 c ∙ label_own b m);
        every = λ i l.
            let x = get_or (labelled near n) i 0 in
            let w = stands_get x D (distinct_stands (labelled near n) x ∙ stands_made x (labelled near n) i (omega (arith, labelled_length near n)) refl) in (
              w.0,
              (w.1.0, (labelled_joined near n i (get_or D w.0 0) l (label_below w.0 w.1.0)).0 (sym w.1.1 ∙ sym (label_own w.0 w.1.0))),
            );
      }

-- relations whose chains are the same have the same classes
pub classes_map : {R S : ℕ → ℕ → Type 0} {n : ℕ} {reps : List ℕ} → ((i j : ℕ) → Chain R i j → Chain S i j) → ((i j : ℕ) → Chain S i j → Chain R i j)
    → Classes R n reps → Classes S n reps
classes_map to from C =
    record {
      within = C.within;
      apart = λ a b l m c. C.apart a b l m (from _ _ c);
      every = λ i l. let w = C.every i l in (w.0, (w.1.0, to _ _ w.1.1));
    }

-- ---- coarser classes are no more

-- a function of the numbers below m, and 0 above
abbrev total : {m : ℕ} → ((b : ℕ) → b < m → ℕ) → (b : ℕ) → Dec (b < m) → ℕ
total F b (yes l) = F b l
total F b (no n) = 0

total_at : {m : ℕ} (F : (b : ℕ) → b < m → ℕ) (b : ℕ) → b < m → (d : Dec (b < m)) → (l : b < m) × (total F b d ≡ F b l)
total_at F b h (yes l) = (l, refl)
total_at F b h (no n) = absurd (n h)

pub up_to_once : (n : ℕ) → Once (up_to n)
unfolding up_to
up_to_once n = tab_once n (λ k. k) (λ a b l h e. e)

-- numbers below m that go to different numbers below n are at most n
pigeons : (m n : ℕ) (F : (b : ℕ) → b < m → ℕ) → ((b : ℕ) (l : b < m) → F b l < n) → ((a b : ℕ) (l : a < m) (h : b < m) → F a l ≡ F b h → a ≡ b) → m ≤ n
pigeons m n F below apart =
    let G : ℕ → ℕ = λ b. total F b (dec_lt b m) in
    let at : (b : ℕ) → b < m → (l : b < m) × (G b ≡ F b l) = λ b h. total_at F b h (dec_lt b m) in
    let once : Once (tab m G) = tab_once m G
    (λ a b l h e. let u = at a l in let w = at b h in apart a b u.0 w.0 (sym u.1 ∙ e ∙ w.1)) in
    let held : (x : ℕ) → stands x (tab m G) ≡ true → stands x (up_to n) ≡ true = λ x t.
    let v = stands_tab m G x t in
    let w = at v.0 v.1.0 in
    up_to_stands n x (omega (arith, below v.0 w.0, w.1, v.1.1)) in
    let q = once_within (tab m G) (up_to n) once (up_to_once n) held in
    omega (arith, tab_length m G, up_to_length n)

-- Where each number of S goes to one of R, and a chain of R between two of those gives one of S, S has no more classes than R.
pub classes_fewer : {R S : ℕ → ℕ → Type 0} {n m : ℕ} {r s : List ℕ} → Classes R n r → Classes S m s → (f : (i : ℕ) → i < m → (k : ℕ) × (k < n))
    → ((i j : ℕ) (l : i < m) (h : j < m) → Chain R (f i l).0 (f j h).0 → Chain S i j) → length s ≤ length r
classes_fewer {R} {S} {n} {m} {r} {s} C D f along =
    let goes : (b : ℕ) → b < length s → (k : ℕ) × (k < n) = λ b l. f (get_or s b 0) (D.within b l) in
    let class : (b : ℕ) (l : b < length s) → (a : ℕ) × ((a < length r) × Chain R (goes b l).0 (get_or r a 0)) = λ b l. C.every (goes b l).0 (goes b l).1 in
    pigeons (length s) (length r) (λ b l. (class b l).0) (λ b l. (class b l).1.0)
    (λ a b l h e.
    D.apart a b l h
    (along (get_or s a 0) (get_or s b 0) (D.within a l) (D.within b h)
    (chain_trans (chain_to (at_eq r e) (class a l).1.1) (chain_sym (class b h).1.1))))

-- the same over one list of numbers
pub classes_coarser : {R S : ℕ → ℕ → Type 0} {n : ℕ} {r s : List ℕ} → ((i j : ℕ) → Chain R i j → Chain S i j) → Classes R n r → Classes S n s → length s ≤ length r
classes_coarser to C D = classes_fewer C D (λ i l. (i, l)) (λ i j l h c. to i j c)

-- any two choices that stand for the classes have equally many
pub classes_agree : {R : ℕ → ℕ → Type 0} {n : ℕ} {r s : List ℕ} → Classes R n r → Classes R n s → length r ≡ length s
classes_agree C D = let a = classes_coarser (λ i j c. c) C D in let b = classes_coarser (λ i j c. c) D C in omega arith
