-- Place by place: a place has a difference exactly when its readings differ, and one alone; the second sheet follows from the first and the differences; exchanging the sheets exchanges the
-- readings. Assumes nothing.
use Prim.Native.Nat.{ℕ, zero, suc, ◌+◌, ◌≤◌, ◌<◌}
use mathlib.Core.Path.{◌≡◌, refl, sym, ap, ap₂, ◌∙◌}
use mathlib.Core.Bool.{Bool, true, false}
use mathlib.Core.List.{List, [], ◌∷◌, ◌++◌, map, append-nil}
use mathlib.Core.Option.{Option, none, some}
use native.Mathlib.Omega.{arith}
use native.Mathlib.Decide.{dec_le, ℕ_discrete}
use native.Mathlib.Numerals.{add-one}
use borrow.Author.Tests.{eq-eqb, ne_eqb, eqb-true}
use lib.Dec.{eqb}
use lib.ListN.{length}
use Rattle.lists.specs.Lists.{pick, sift, each, tab, rest, same_row_of}
use Rattle.lists.proofs.Sifts.{sift_append, and_true, each_ext}
use Rattle.lists.proofs.Steps.{each_step}
use Rattle.sheet.specs.Sheet.{Sheet}
use Rattle.differences.specs.Differences.{Difference, counts, place, blades, list_of, count_differs, rows_differ, parts, differences}
use Rattle.differences.specs.Work.{read_at, same_reading_of, place_differs, same_part, of_place, of_count, of_blade, turn}
use Rattle.differences.specs.declared.Part.{Part}
use Rattle.differences.specs.declared.Part.TheVariants.{Particles, Triangles, Edges, Boundary}

-- ---- rows

pub same_row : (r : List ℕ) → same_row_of r r ≡ true
unfolding same_row_of
same_row [] = refl
same_row (x ∷ r) = rw (eq-eqb x x refl, same_row r)

pub row_same : (r s : List ℕ) → same_row_of r s ≡ true → r ≡ s
unfolding same_row_of
row_same [] [] e = refl
row_same [] (y ∷ s) e = let z : ◌≡◌ {A = ℕ} 0 1 = cc in absurd (omega arith)
row_same (x ∷ r) [] e = let z : ◌≡◌ {A = ℕ} 0 1 = cc in absurd (omega arith)
row_same (x ∷ r) (y ∷ s) e = let w = and_true (eqb x y) (same_row_of r s) e in ap₂ (λ (h : ℕ) (t : List ℕ). h ∷ t) (eqb-true x y w.0) (row_same r s w.1)

same_reading_lem : (x : Option (List ℕ)) → same_reading_of x x ≡ true
same_reading_lem none = refl
same_reading_lem (some r) = same_row r

reading_same : (x y : Option (List ℕ)) → same_reading_of x y ≡ true → x ≡ y
reading_same none none e = refl
reading_same none (some s) e = let z : ◌≡◌ {A = ℕ} 0 1 = cc in absurd (omega arith)
reading_same (some r) none e = let z : ◌≡◌ {A = ℕ} 0 1 = cc in absurd (omega arith)
reading_same (some r) (some s) e = ap some (row_same r s e)

-- ---- a list's differences, one place behind the other

pick_then : {A : Type 0} (t : Bool) (x : List A) (d : A) → pick t x (d ∷ x) ≡ pick t [] (d ∷ []) ++ x
pick_then true x d = refl
pick_then false x d = refl

pub rows_step : (p : Part) (k : ℕ) (a b : List (List ℕ)) → rows_differ p k a b ≡ place_differs p k (read_at a 0) (read_at b 0) ++ rows_differ p (suc k) (rest a) (rest b)
unfolding rows_differ place_differs
rows_step p k [] [] = refl
rows_step p k (r ∷ a) [] = refl
rows_step p k [] (s ∷ b) = refl
rows_step p k (r ∷ a) (s ∷ b) = pick_then (same_row_of r s) (rows_differ p (suc k) a b) (place p k (some r) (some s))

rest_at : (a : List (List ℕ)) (j : ℕ) → read_at (rest a) j ≡ read_at a (suc j)
rest_at [] j = refl
rest_at (r ∷ a) j = refl

pub rest_long : (n : ℕ) (a : List (List ℕ)) → length a ≤ suc n → length (rest a) ≤ n
rest_long n [] h = omega arith
rest_long n (r ∷ a) h = omega arith

-- n places from place k on
each_by : {B : Type 0} (n : ℕ) (g : ℕ → List B) (f h : ℕ → ℕ) → each g (tab n (λ j. f (h j))) ≡ each (λ j. g (f j)) (tab n h)
unfolding each tab
each_by zero g f h = refl
each_by (suc n) g f h = ap (λ x. g (f (h 0)) ++ x) (each_by n g f (λ j. h (suc j)))

none_left : (p : Part) (k : ℕ) → rows_differ p k [] [] ≡ []
unfolding rows_differ
none_left p k = refl

pub rows_each : (n : ℕ) (p : Part) (k : ℕ) (a b : List (List ℕ)) → length a ≤ n → length b ≤ n
    → rows_differ p k a b ≡ each (λ j. place_differs p (k + j) (read_at a j) (read_at b j)) (tab n (λ j. j))
unfolding each tab
rows_each zero p k [] [] h g = none_left p k
rows_each zero p k (r ∷ a) b h g = absurd (omega arith)
rows_each zero p k [] (s ∷ b) h g = absurd (omega arith)
rows_each (suc n) p k a b h g =
    let i = rows_each n p (suc k) (rest a) (rest b) (rest_long n a h) (rest_long n b g) in
    let e : k + 0 ≡ k = omega arith in
    let f = each_ext (λ j. place_differs p (suc k + j) (read_at (rest a) j) (read_at (rest b) j)) (λ j. place_differs p (k + suc j) (read_at a (suc j)) (read_at b (suc j))) (λ j. let q : suc k + j ≡ k + suc j = omega arith in rw (q, rest_at a j, rest_at b j)) (tab n (λ j. j)) in
    let s = each_by n (λ j. place_differs p (k + j) (read_at a j) (read_at b j)) suc (λ j. j) in
    rows_step p k a b ∙ (ap₂ (λ (m : ℕ) (x : List Difference). place_differs p m (read_at a 0) (read_at b 0) ++ x) (sym e) (i ∙ (f ∙ sym s)))

-- ---- which differences tell of a place

sift_pick : {A : Type 0} (f : A → Bool) (t : Bool) (d : A) → f d ≡ false → sift f (pick t [] (d ∷ [])) ≡ []
unfolding sift
sift_pick f true d e = refl
sift_pick f false d e = rw e

sift_kept : {A : Type 0} (f : A → Bool) (t : Bool) (d : A) → f d ≡ true → sift f (pick t [] (d ∷ [])) ≡ pick t [] (d ∷ [])
unfolding sift
sift_kept f true d e = refl
sift_kept f false d e = rw e

part_same : (p : Part) → same_part p p ≡ true
part_same Particles = refl
part_same Triangles = refl
part_same Edges = refl
part_same Boundary = refl

-- no place of a list passes a test
sift_rows : (f : Difference → Bool) (q : Part) → ((j : ℕ) (r s : Option (List ℕ)) → f (place q j r s) ≡ false) → (n : ℕ) (A B : ℕ → Option (List ℕ)) → sift f (each (λ j. place_differs q j (A j) (B j)) (tab n (λ j. j))) ≡ []
unfolding place_differs sift each tab
sift_rows f q h zero A B = refl
sift_rows f q h (suc n) A B =
    let g : ℕ → List Difference = λ j. place_differs q j (A j) (B j) in
    ap (λ (l : List Difference). sift f l) (rw add-one at (each_step g (λ j. j) n))
    ∙ (sift_append f (each g (tab n (λ j. j))) (g n) ∙ ap₂ (λ (x y : List Difference). x ++ y) (sift_rows f q h n A B) (sift_pick f (same_reading_of (A n) (B n)) (place q n (A n) (B n)) (h n (A n) (B n))))

-- of one list, the difference of place i, where it has been reached
module _ (p : Part) (A B : ℕ → Option (List ℕ)) (i : ℕ) where
  abbrev at_place : ℕ → List Difference
  at_place j = place_differs p j (A j) (B j)

  not_here : (n : ℕ) → (n ≡ i → ⊥) → sift (of_place p i) (at_place n) ≡ []
  unfolding place_differs
  not_here n h = sift_pick (of_place p i) (same_reading_of (A n) (B n)) (place p n (A n) (B n)) (rw (part_same p, ne_eqb n i h))

  just_here : (n : ℕ) → n ≡ i → sift (of_place p i) (at_place n) ≡ at_place n
  unfolding place_differs
  just_here n h = sift_kept (of_place p i) (same_reading_of (A n) (B n)) (place p n (A n) (B n)) (rw (part_same p, eq-eqb n i h))

  one_more : (n : ℕ) → sift (of_place p i) (each at_place (tab (suc n) (λ j. j))) ≡ sift (of_place p i) (each at_place (tab n (λ j. j))) ++ sift (of_place p i) (at_place n)
  one_more n = ap (λ (l : List Difference). sift (of_place p i) l) (rw add-one at (each_step at_place (λ j. j) n)) ∙ sift_append (of_place p i) (each at_place (tab n (λ j. j))) (at_place n)

  before_it : (n : ℕ) → n ≤ i → sift (of_place p i) (each at_place (tab n (λ j. j))) ≡ []
  unfolding each tab sift
  before_it zero h = refl
  before_it (suc n) h = one_more n ∙ ap₂ (λ (x y : List Difference). x ++ y) (before_it n (omega arith)) (not_here n (λ e. omega arith))

  once_reached : (n : ℕ) → i < n → sift (of_place p i) (each at_place (tab n (λ j. j))) ≡ at_place i
  once_reached zero h = absurd (omega arith)
  once_reached (suc n) h =
      elim (dec_le n i) [
        | yes l ↦
            let e : n ≡ i = omega arith in
            one_more n ∙ (ap₂ (λ (x y : List Difference). x ++ y) (before_it n l) (just_here n e) ∙ ap at_place e)
        | no l ↦ one_more n ∙ (ap₂ (λ (x y : List Difference). x ++ y) (once_reached n (omega arith)) (not_here n (λ e. omega arith)) ∙ append-nil (at_place i))
      ]

-- all places of a list
pub rows_all : (n : ℕ) (p : Part) (a b : List (List ℕ)) → length a ≤ n → length b ≤ n
    → rows_differ p 0 a b ≡ each (λ j. place_differs p j (read_at a j) (read_at b j)) (tab n (λ j. j))
rows_all n p a b h g =
    rows_each n p 0 a b h g ∙ each_ext (λ j. place_differs p (0 + j) (read_at a j) (read_at b j)) (λ j. place_differs p j (read_at a j) (read_at b j)) (λ j. let q : 0 + j ≡ j = omega arith in rw q) (tab n (λ j. j))

rows_other : (f : Difference → Bool) (q : Part) → ((j : ℕ) (r s : Option (List ℕ)) → f (place q j r s) ≡ false) → (a b : List (List ℕ)) → sift f (rows_differ q 0 a b) ≡ []
rows_other f q h a b =
    ap (λ (l : List Difference). sift f l) (rows_all (length a + length b) q a b (omega arith) (omega arith)) ∙ sift_rows f q h (length a + length b) (read_at a) (read_at b)

rows_place : (p : Part) (i : ℕ) (a b : List (List ℕ)) → sift (of_place p i) (rows_differ p 0 a b) ≡ place_differs p i (read_at a i) (read_at b i)
rows_place p i a b =
    let n = i + 1 + length a + length b in
    ap (λ (l : List Difference). sift (of_place p i) l) (rows_all n p a b (omega arith) (omega arith)) ∙ once_reached p (read_at a) (read_at b) i n (omega arith)

-- ---- all lists

sift_each : {A B : Type 0} (f : B → Bool) (F : A → List B) (l : List A) → sift f (each F l) ≡ each (λ a. sift f (F a)) l
unfolding each sift
sift_each f F [] = refl
sift_each f F (a ∷ l) = sift_append f (F a) (each F l) ∙ ap (λ x. sift f (F a) ++ x) (sift_each f F l)

none_of : {A : Type 0} (h : Part → List A) → ((q : Part) → h q ≡ []) → each h parts ≡ []
unfolding each
none_of h e = rw (e Particles, e Triangles, e Edges, e Boundary)

one_of : {A : Type 0} (p : Part) (h : Part → List A) → ((q : Part) → same_part p q ≡ false → h q ≡ []) → each h parts ≡ h p
unfolding each
one_of Particles h e = rw (e Triangles refl, e Edges refl, e Boundary refl) (append-nil (h Particles))
one_of Triangles h e = rw (e Particles refl, e Edges refl, e Boundary refl) (append-nil (h Triangles))
one_of Edges h e = rw (e Particles refl, e Triangles refl, e Boundary refl) (append-nil (h Edges))
one_of Boundary h e = rw (e Particles refl, e Triangles refl, e Edges refl) (append-nil (h Boundary))

blade_differs : Sheet → Sheet → List Difference
blade_differs a b = pick (same_row_of a.blade b.blade) [] (blades a.blade b.blade ∷ [])

sift_parts : (f : Difference → Bool) (a b : Sheet) → sift f (differences a b)
    ≡ each (λ q. sift f (count_differs q a b)) parts ++ each (λ q. sift f (rows_differ q 0 (list_of q a) (list_of q b))) parts ++ sift f (blade_differs a b)
unfolding differences blade_differs
sift_parts f a b =
    let F : Part → List Difference = λ q. count_differs q a b in
    let G : Part → List Difference = λ q. rows_differ q 0 (list_of q a) (list_of q b) in
    let C = pick (same_row_of a.blade b.blade) [] (blades a.blade b.blade ∷ []) in
    sift_append f (each F parts ++ each G parts) C
    ∙ ap (λ (x : List Difference). x ++ sift f C) (sift_append f (each F parts) (each G parts) ∙ ap₂ (λ (x y : List Difference). x ++ y) (sift_each f F parts) (sift_each f G parts))

-- a place has a difference exactly when its readings differ, with both, and one alone
pub every_place : (p : Part) (k : ℕ) (a b : Sheet) → sift (of_place p k) (differences a b) ≡ place_differs p k (read_at (list_of p a) k) (read_at (list_of p b) k)
unfolding count_differs blade_differs
every_place p k a b =
    let f = of_place p k in
    let F : Part → List Difference = λ q. sift f (count_differs q a b) in
    let G : Part → List Difference = λ q. sift f (rows_differ q 0 (list_of q a) (list_of q b)) in
    let c : each F parts ≡ [] = none_of F (λ q. sift_pick f (eqb (length (list_of q a)) (length (list_of q b))) (counts q (length (list_of q a)) (length (list_of q b))) refl) in
    let r : each G parts ≡ place_differs p k (read_at (list_of p a) k) (read_at (list_of p b) k) = one_of p G (λ q e. rows_other f q (λ j x y. rw e) (list_of q a) (list_of q b)) ∙ rows_place p k (list_of p a) (list_of p b) in
    let d : sift f (blade_differs a b) ≡ [] = sift_pick f (same_row_of a.blade b.blade) (blades a.blade b.blade) refl in
    sift_parts f a b ∙ (rw (c, r, d) (append-nil (place_differs p k (read_at (list_of p a) k) (read_at (list_of p b) k))))

-- so has a count
pub every_count : (p : Part) (a b : Sheet) → sift (of_count p) (differences a b) ≡ count_differs p a b
unfolding count_differs blade_differs
every_count p a b =
    let f = of_count p in
    let F : Part → List Difference = λ q. sift f (count_differs q a b) in
    let G : Part → List Difference = λ q. sift f (rows_differ q 0 (list_of q a) (list_of q b)) in
    let m = length (list_of p a) in
    let n = length (list_of p b) in
    let c : each F parts ≡ pick (eqb m n) [] (counts p m n ∷ []) = one_of p F (λ q e. sift_pick f (eqb (length (list_of q a)) (length (list_of q b))) (counts q (length (list_of q a)) (length (list_of q b))) e) ∙ sift_kept f (eqb m n) (counts p m n) (part_same p) in
    let r : each G parts ≡ [] = none_of G (λ q. rows_other f q (λ j x y. refl) (list_of q a) (list_of q b)) in
    let d : sift f (blade_differs a b) ≡ [] = sift_pick f (same_row_of a.blade b.blade) (blades a.blade b.blade) refl in
    sift_parts f a b ∙ (rw (c, r, d) (append-nil (pick (eqb m n) [] (counts p m n ∷ []) ++ []) ∙ append-nil (pick (eqb m n) [] (counts p m n ∷ []))))

-- and the blade
pub every_blade : (a b : Sheet) → sift of_blade (differences a b) ≡ pick (same_row_of a.blade b.blade) [] (blades a.blade b.blade ∷ [])
unfolding count_differs blade_differs
every_blade a b =
    let F : Part → List Difference = λ q. sift of_blade (count_differs q a b) in
    let G : Part → List Difference = λ q. sift of_blade (rows_differ q 0 (list_of q a) (list_of q b)) in
    let c : each F parts ≡ [] = none_of F (λ q. sift_pick of_blade (eqb (length (list_of q a)) (length (list_of q b))) (counts q (length (list_of q a)) (length (list_of q b))) refl) in
    let r : each G parts ≡ [] = none_of G (λ q. rows_other of_blade q (λ j x y. refl) (list_of q a) (list_of q b)) in
    let d : sift of_blade (blade_differs a b) ≡ blade_differs a b = sift_kept of_blade (same_row_of a.blade b.blade) (blades a.blade b.blade) refl in
    sift_parts of_blade a b ∙ (rw (c, r, d))

-- ---- the second sheet follows from the first and the differences

nothing_one : {A : Type 0} (d : A) → ([] ≡ d ∷ []) → ⊥
nothing_one d e = let z : ◌≡◌ {A = ℕ} 0 1 = cc in omega arith

place_told : (p : Part) (k : ℕ) (x y z : Option (List ℕ)) → place_differs p k x y ≡ place_differs p k x z → y ≡ z
unfolding place_differs
place_told p k x y z e = by (same_reading_of x y) (same_reading_of x z) refl refl e
  where
    by : (t u : Bool) → same_reading_of x y ≡ t → same_reading_of x z ≡ u → pick t [] (place p k x y ∷ []) ≡ pick u [] (place p k x z ∷ []) → y ≡ z
    by true true f g h = sym (reading_same x y f) ∙ reading_same x z g
    by true false f g h = absurd (nothing_one (place p k x z) h)
    by false true f g h = absurd (nothing_one (place p k x y) (sym h))
    by false false f g h = cc

blade_told : (x y z : List ℕ) → pick (same_row_of x y) [] (blades x y ∷ []) ≡ pick (same_row_of x z) [] (blades x z ∷ []) → y ≡ z
blade_told x y z e = by (same_row_of x y) (same_row_of x z) refl refl e
  where
    by : (t u : Bool) → same_row_of x y ≡ t → same_row_of x z ≡ u → pick t [] (blades x y ∷ []) ≡ pick u [] (blades x z ∷ []) → y ≡ z
    by true true f g h = sym (row_same x y f) ∙ row_same x z g
    by true false f g h = absurd (nothing_one (blades x z) h)
    by false true f g h = absurd (nothing_one (blades x y) (sym h))
    by false false f g h = cc

rows_read : (a b : List (List ℕ)) → ((k : ℕ) → read_at a k ≡ read_at b k) → a ≡ b
rows_read [] [] e = refl
rows_read [] (s ∷ b) e = let h = e 0 in let z : ◌≡◌ {A = ℕ} 0 1 = cc in absurd (omega arith)
rows_read (r ∷ a) [] e = let h = e 0 in let z : ◌≡◌ {A = ℕ} 0 1 = cc in absurd (omega arith)
rows_read (r ∷ a) (s ∷ b) e = let h : some r ≡ some s = e 0 in let q : r ≡ s = cc in ap₂ (λ (x : List ℕ) (l : List (List ℕ)). x ∷ l) q (rows_read a b (λ k. e (suc k)))

pub told_all : (a b c : Sheet) → differences a b ≡ differences a c → b ≡ c
told_all a b c e =
    let w : (p : Part) → list_of p b ≡ list_of p c = λ p. rows_read (list_of p b) (list_of p c)
    (λ k. place_told p k (read_at (list_of p a) k) (read_at (list_of p b) k) (read_at (list_of p c) k) (sym (every_place p k a b) ∙ (ap (λ (l : List Difference). sift (of_place p k) l) e ∙ every_place p k a c))) in
    let d : b.blade ≡ c.blade = blade_told a.blade b.blade c.blade (sym (every_blade a b) ∙ (ap (λ (l : List Difference). sift of_blade l) e ∙ every_blade a c)) in
    λ i. record { particles = w Particles i; triangles = w Triangles i; edges = w Edges i; boundary = w Boundary i; blade = d i }

-- ---- nothing differs

rows_none : (p : Part) (k : ℕ) (a : List (List ℕ)) → rows_differ p k a a ≡ []
unfolding rows_differ
rows_none p k [] = refl
rows_none p k (r ∷ a) = rw (same_row r, rows_none p (suc k) a)

pub same_none : (a : Sheet) → differences a a ≡ []
unfolding differences count_differs
same_none a =
    let F : Part → List Difference = λ q. count_differs q a a in
    let G : Part → List Difference = λ q. rows_differ q 0 (list_of q a) (list_of q a) in
    let c : each F parts ≡ [] = none_of F (λ q. rw (eq-eqb (length (list_of q a)) (length (list_of q a)) refl)) in
    let r : each G parts ≡ [] = none_of G (λ q. rows_none q 0 (list_of q a)) in
    rw (c, r, same_row a.blade)

pub none_same : (a b : Sheet) → differences a b ≡ [] → a ≡ b
none_same a b e = sym (told_all a b a (e ∙ sym (same_none a)))

-- ---- the sheets exchanged

eqb_turned : (m n : ℕ) → eqb m n ≡ eqb n m
eqb_turned m n = elim (ℕ_discrete m n) [ yes e ↦ eq-eqb m n e ∙ sym (eq-eqb n m (sym e)) | no h ↦ ne_eqb m n h ∙ sym (ne_eqb n m (λ e. h (sym e))) ]

row_turned : (r s : List ℕ) → same_row_of r s ≡ same_row_of s r
unfolding same_row_of
row_turned [] [] = refl
row_turned [] (y ∷ s) = refl
row_turned (x ∷ r) [] = refl
row_turned (x ∷ r) (y ∷ s) = rw (eqb_turned x y, row_turned r s)

map_pick : {A B : Type 0} (g : A → B) (t : Bool) (x y : List A) → map g (pick t x y) ≡ pick t (map g x) (map g y)
map_pick g true x y = refl
map_pick g false x y = refl

map_append : {A B : Type 0} (g : A → B) (x y : List A) → map g (x ++ y) ≡ map g x ++ map g y
map_append g [] y = refl
map_append g (a ∷ x) y = ap (λ l. g a ∷ l) (map_append g x y)

map_each : {A B C : Type 0} (g : B → C) (F : A → List B) (l : List A) → map g (each F l) ≡ each (λ a. map g (F a)) l
unfolding each
map_each g F [] = refl
map_each g F (a ∷ l) = map_append g (F a) (each F l) ∙ ap (λ x. map g (F a) ++ x) (map_each g F l)

rows_turned : (p : Part) (k : ℕ) (a b : List (List ℕ)) → rows_differ p k b a ≡ map turn (rows_differ p k a b)
unfolding rows_differ
rows_turned p k [] [] = refl
rows_turned p k (r ∷ a) [] = ap (λ l. place p k none (some r) ∷ l) (rows_turned p (suc k) a [])
rows_turned p k [] (s ∷ b) = ap (λ l. place p k (some s) none ∷ l) (rows_turned p (suc k) [] b)
rows_turned p k (r ∷ a) (s ∷ b) =
    rw (row_turned s r, rows_turned p (suc k) a b) (sym (map_pick turn (same_row_of r s) (rows_differ p (suc k) a b) (place p k (some r) (some s) ∷ rows_differ p (suc k) a b)))

count_turned : (p : Part) (a b : Sheet) → count_differs p b a ≡ map turn (count_differs p a b)
unfolding count_differs
count_turned p a b =
    let m = length (list_of p a) in
    let n = length (list_of p b) in
    rw (eqb_turned n m) (sym (map_pick turn (eqb m n) [] (counts p m n ∷ [])))

blade_turned : (a b : Sheet) → blade_differs b a ≡ map turn (blade_differs a b)
unfolding blade_differs
blade_turned a b = rw (row_turned b.blade a.blade) (sym (map_pick turn (same_row_of a.blade b.blade) [] (blades a.blade b.blade ∷ [])))

pub turned : (a b : Sheet) → differences b a ≡ map turn (differences a b)
unfolding differences blade_differs
turned a b =
    let F : Part → List Difference = λ q. count_differs q a b in
    let G : Part → List Difference = λ q. rows_differ q 0 (list_of q a) (list_of q b) in
    let C = blade_differs a b in
    let c : each (λ q. count_differs q b a) parts ≡ map turn (each F parts) = each_ext (λ q. count_differs q b a) (λ q. map turn (F q)) (λ q. count_turned q a b) parts ∙ sym (map_each turn F parts) in
    let r : each (λ q. rows_differ q 0 (list_of q b) (list_of q a)) parts ≡ map turn (each G parts) = each_ext (λ q. rows_differ q 0 (list_of q b) (list_of q a)) (λ q. map turn (G q)) (λ q. rows_turned q 0 (list_of q a) (list_of q b)) parts ∙ sym (map_each turn G parts) in
    let d : blade_differs b a ≡ map turn C = blade_turned a b in
    ap₂ (λ (x y : List Difference). x ++ y) (ap₂ (λ (x y : List Difference). x ++ y) c r ∙ sym (map_append turn (each F parts) (each G parts))) d ∙ sym (map_append turn (each F parts ++ each G parts) C)
