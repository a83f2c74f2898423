-- Sums of measures: of all elements, and of those whose corners are listed, by marks. Assumes nothing.
use mathlib.Core.Path.{◌≡◌, refl, sym, ◌∙◌, ap, ap₂}
use mathlib.Core.Bool.{Bool, true, false, ◌&&◌, ◌||◌}
use mathlib.Core.List.{List, [], ◌∷◌, ◌++◌, map, map-append, append-nil}
use Prim.Native.Nat.{ℕ, suc, ◌+◌, ◌*◌, ◌-◌, ◌<◌, ◌≤◌, zero-le, suc-le-suc}
use native.Mathlib.Numerals.{add-one}
use native.Mathlib.Omega.{arith}
use native.Mathlib.Decide.{ℕ_discrete}
use borrow.Author.Tests.{eq-eqb, ne_eqb}
use lib.Dec.{eqb}
use lib.ListN.{length, get_or, take, drop, set, length-set, length-take, length-replicate, get_or-replicate, drop_of_length-le}
use lib.Seq.{take-suc, take_all, drop-cons, get_or-take, get_or-drop, get_or-set_same, get_or-set_other}
use lib.Ieee.{Float, nan}
use Rattle.lists.specs.Lists.{pick, stands, all, sift, fold, padded}
use Rattle.lists.proofs.Sifts.{fold_append, stands_append, or_true}
use Rattle.float.specs.Numbers.{plus, zero32}
use Rattle.columns.proofs.Cells.{next_col, col_fits}
use Rattle.model.specs.Mesh.{Mesh}
use Rattle.model.specs.Elements.{Element, sum, kind_of, elements_of, rest_measure, the_rest_measure_of}
use Rattle.elements.specs.Table.{Cornered, Tabled, MeasuredWithin}
use Rattle.elements.specs.Workers.{marked, Marked, MeasuredMarked}
use Rattle.elements.proofs.Tables.{no_element, row_is, part_is}
use Rattle.elements.proofs.Fans.{sift_more, row_at}
use Rattle.lists.proofs.Truths.{or_end}

-- ---- sums

-- one number more, and none
pub sum_push : (l : List Float) (x : Float) → sum (l ++ (x ∷ [])) ≡ plus (sum l) x
unfolding sum fold
sum_push l x = fold_append plus zero32 l (x ∷ [])

pub sum_none : sum [] ≡ zero32
unfolding sum fold
sum_none = refl

-- the sum of one number more
pub sum_front : (M : List Float) (i : ℕ) → i < length M → sum (take (i + 1) M) ≡ plus (sum (take i M)) (get_or M i nan)
sum_front M i h = rw (add-one i, take-suc M i nan h) (sum_push (take i M) (get_or M i nan))

-- the sum over the tables of all elements of a mesh is its rest measure
pub rest_measure_lem : (M : Mesh) (k n : ℕ) (N K : List ℕ) (L : List Float) → Tabled k (elements_of (kind_of M) M) n N K L → sum (take n L) ≡ rest_measure M
unfolding rest_measure
rest_measure_lem M k n N K L T = ap sum T.measures_are

-- and of those with all corners listed, the rest measure of the listed
pub rest_measure_of_lem : (M : Mesh) (k n : ℕ) (N K : List ℕ) (L : List Float) (listed : List ℕ) (r : Float)
    → Tabled k (elements_of (kind_of M) M) n N K L → MeasuredWithin k n K L listed r → r ≡ the_rest_measure_of M listed
unfolding the_rest_measure_of
rest_measure_of_lem M k n N K L listed r T W = W.is (elements_of (kind_of M) M) T.cornered T.measures_are

-- ---- tests that agree where they are asked

module _ {A : Type 0} (p q : A → Bool) where
  -- so do `all` and `sift`
  pub all_agree : (l : List A) (d : A) → ((i : ℕ) → i < length l → p (get_or l i d) ≡ q (get_or l i d)) → all p l ≡ all q l
  unfolding all
  all_agree [] d h = refl
  all_agree (a ∷ l) d h = ap₂ ◌&&◌ (h 0 (suc-le-suc zero-le)) (all_agree l d (λ i g. h (suc i) (suc-le-suc g)))

  pub sift_agree : (l : List A) (d : A) → ((i : ℕ) → i < length l → p (get_or l i d) ≡ q (get_or l i d)) → sift p l ≡ sift q l
  unfolding sift
  sift_agree [] d h = refl
  sift_agree (a ∷ l) d h = rw (h 0 (suc-le-suc zero-le), sift_agree l d (λ i g. h (suc i) (suc-le-suc g)))

-- a loop that stops at the first that fails
module _ (p : ℕ → Bool) (l : List ℕ) (i : ℕ) where
  pub all_on : i < length l → p (get_or l i 0) ≡ true → all p (drop (i + 1) l) ≡ all p (drop i l)
  unfolding all
  all_on h e = rw (drop-cons l i 0 h, add-one i, e)

  pub all_stop : i < length l → p (get_or l i 0) ≡ false → all p (drop i l) ≡ false
  unfolding all
  all_stop h e = rw (drop-cons l i 0 h, e)

  pub all_end : length l ≤ i → all p (drop i l) ≡ true
  unfolding all
  all_end h = rw (drop_of_length-le l h)

-- ---- marks

-- at the head of the loop: the first i of the listed are marked
pub record Marking (listed : List ℕ) (i : ℕ) (m₀ m : List ℕ) : Type 0 where
  pub long : length m ≡ length m₀
  pub same : (w : ℕ) → w < length m → marked m w ≡ stands w (take i listed)

-- before the first turn nothing is marked
pub cleared_long : (n : ℕ) (m : List ℕ) → m ≡ padded n 0 [] → length m ≡ n
unfolding padded
cleared_long n m e = let l : length m ≡ n - 0 = ap length e ∙ length-replicate (n - 0) 0 in omega arith

pub marking_start : (listed : List ℕ) (n : ℕ) (m : List ℕ) → m ≡ padded n 0 [] → Marking listed 0 m m
unfolding padded
marking_start listed n m e =
    record {
      long = refl;
      same = λ w h.
          let l : w < n - 0 = omega (arith, cleared_long n m e) in
          let z : get_or m w 0 ≡ 0 = ap (λ (t : List ℕ). get_or t w 0) e ∙ get_or-replicate (n - 0) w 0 0 l in
          ne_eqb (get_or m w 0) 1 (λ q. omega arith);
    }

-- a turn marks one more
pub marking_more : (listed : List ℕ) (i : ℕ) (m₀ m : List ℕ) → Marking listed i m₀ m → i < length listed → get_or listed i 0 < length m → Marking listed (i + 1) m₀ (set m (get_or listed i 0) 1)
marking_more listed i m₀ m F h g =
    record {
      long = length-set m (get_or listed i 0) 1 ∙ F.long;
      same = λ w l.
          let k : w < length m = omega (arith, length-set m (get_or listed i 0) 1) in
          let grown : stands w (take (i + 1) listed) ≡ stands w (take i listed) || stands w (get_or listed i 0 ∷ []) = rw (add-one i, take-suc listed i 0 h) (stands_append w (take i listed) (get_or listed i 0 ∷ [])) in
          elim (ℕ_discrete w (get_or listed i 0)) [
            | yes e ↦
                eq-eqb (get_or (set m (get_or listed i 0) 1) w 0) 1 (ap (λ (x : ℕ). get_or (set m (get_or listed i 0) 1) x 0) e ∙ get_or-set_same m (get_or listed i 0) 1 0 g) ∙ sym (grown ∙ or_true (stands w (take i listed)) (stands w (get_or listed i 0 ∷ [])) (rw (eq-eqb (get_or listed i 0) w (sym e))))
            | no ne ↦
                ap (λ (x : ℕ). eqb x 1) (get_or-set_other m (get_or listed i 0) w 1 0 ne) ∙ F.same w k
                ∙ sym (grown ∙ rw (ne_eqb (get_or listed i 0) w (λ q. ne (sym q))) (or_end (stands w (take i listed))))
          ];
    }

-- after the last turn
pub marking_done : (listed : List ℕ) (i : ℕ) (m₀ m : List ℕ) → Marking listed i m₀ m → length listed ≤ i → Marked listed m
marking_done listed i m₀ m F h = record { same = λ w l. F.same w l ∙ ap (stands w) (take_all i listed h) }

-- ---- the pass over the elements

-- what of a row stands below the length of the marks
pub row_below : (k n : ℕ) (verts : List ℕ) (len i a : ℕ) → ((j : ℕ) → j < n * k → get_or verts j 0 < len) → i < n → a ≡ i * k
    → (j : ℕ) → j < length (take (a + k - a) (drop a verts)) → get_or (take (a + k - a) (drop a verts)) j 0 < len
row_below k n verts len i a f h e j g =
    let l : j < k = omega (arith, length-take (a + k - a) (drop a verts)) in
    rw (get_or-take (a + k - a) (drop a verts) j 0 (omega arith), get_or-drop a verts j 0) (f (a + j) (omega (arith, col_fits i n k h)))

-- at the head of the loop: i elements were passed, from a on in the corners, and s is the sum of those that passed
pub record Passing (k n : ℕ) (verts : List ℕ) (measures : List Float) (marks : List ℕ) (i a : ℕ) (s : Float) : Type 0 where
  pub is : (es : List Element) → Cornered k es n verts → take n measures ≡ map (λ (e : Element). e.measure) es
      → s ≡ sum (map (λ (e : Element). e.measure) (sift (λ (e : Element). all (marked marks) e.corners) (take i es)))
  pub from : a ≡ i * k
  pub inside : i ≤ n

-- before the first turn
pub passing_start : (k n : ℕ) (verts : List ℕ) (measures : List Float) (marks : List ℕ) (s : Float) → s ≡ zero32 → Passing k n verts measures marks 0 0 s
unfolding sift
passing_start k n verts measures marks s z = record { is = λ es C m. z ∙ sym sum_none; from = omega arith; inside = omega arith }

module _ (k n : ℕ) (verts : List ℕ) (measures : List Float) (marks : List ℕ) (i a : ℕ) (s : Float) (F : Passing k n verts measures marks i a s) where
  -- after the last turn
  pub passing_done : n ≤ i → MeasuredMarked k n verts measures marks s
  passing_done h =
      record {
        is = λ es C m.
            let c : n ≡ length es = C.count in
            let b : i ≤ n = F.inside in
            let e : take i es ≡ es = take_all i es (omega arith) in
            rw e at (F.is es C m);
      }

  module _ (h : i < n) where
    -- the row that is read lies in the corners
    pub passing_reads : n * k ≤ length verts → a + k ≤ length verts
    passing_reads room = let f : a ≡ i * k = F.from in omega (arith, col_fits i n k h)

    -- where the next row begins
    from_next : a + k ≡ (i + 1) * k
    from_next = let f : a ≡ i * k = F.from in omega (arith, next_col i k)

    -- the next element passes as its row does
    passed : (t : Bool) → all (marked marks) (take (a + k - a) (drop a verts)) ≡ t → (es : List Element) → Cornered k es n verts
        → sift (λ (e : Element). all (marked marks) e.corners) (take (i + 1) es) ≡ sift (λ (e : Element). all (marked marks) e.corners) (take i es) ++ pick t (get_or es i no_element ∷ []) []
    passed t q es C =
        sift_more (λ (e : Element). all (marked marks) e.corners) es i no_element (let c : n ≡ length es = C.count in omega arith)
        ∙ ap (λ (b : Bool). sift (λ (e : Element). all (marked marks) e.corners) (take i es) ++ pick b (get_or es i no_element ∷ []) []) (ap (all (marked marks)) (sym (row_at k es n verts i a C h F.from)) ∙ q)

    -- a turn at an element that has a corner without a mark
    pub passing_skip : all (marked marks) (take (a + k - a) (drop a verts)) ≡ false → Passing k n verts measures marks (i + 1) (a + k) s
    passing_skip q = record { is = λ es C m. rw (passed false q es C, append-nil) (F.is es C m); from = from_next; inside = omega arith }

    -- a turn at one that has none
    pub passing_take : all (marked marks) (take (a + k - a) (drop a verts)) ≡ true → Passing k n verts measures marks (i + 1) (a + k) (plus s (get_or measures i nan))
    passing_take q =
        record {
          is = λ es C m.
              let l : List Element = sift (λ (e : Element). all (marked marks) e.corners) (take i es) in
              let x : Element = get_or es i no_element in
              ap₂ plus (F.is es C m) (part_is (λ (e : Element). e.measure) nan es n measures i m C.count h)
              ∙ sym (ap (λ (t : List Element). sum (map (λ (e : Element). e.measure) t)) (passed true q es C) ∙ ap sum (map-append (λ (e : Element). e.measure) l (x ∷ [])) ∙ sum_push (map (λ (e : Element). e.measure) l) x.measure);
          from = from_next;
          inside = omega arith;
        }

-- with the listed marked, the marks are asked as the list would be
pub measured_within : (k n : ℕ) (verts : List ℕ) (measures : List Float) (listed marks : List ℕ) (r : Float) → n * k ≤ length verts
    → ((j : ℕ) → j < n * k → get_or verts j 0 < length marks) → Marked listed marks → MeasuredMarked k n verts measures marks r → MeasuredWithin k n verts measures listed r
measured_within k n verts measures listed marks r room below m W =
    record {
      is = λ es C e.
          W.is es C e
          ∙ ap (λ (t : List Element). sum (map (λ (x : Element). x.measure) t))
          (sift_agree (λ (x : Element). all (marked marks) x.corners) (λ (x : Element). all (λ w. stands w listed) x.corners) es no_element
          (λ i h.
          let l : i < n = omega (arith, C.count) in
          let row : take k (drop (i * k) verts) ≡ (get_or es i no_element).corners = row_is k es n verts i C l in
          rw (← row)
          (all_agree (marked marks) (λ w. stands w listed) (take k (drop (i * k) verts)) 0
          (λ j g.
          let u : j < k = omega (arith, length-take k (drop (i * k) verts)) in
          m.same _ (rw (get_or-take k (drop (i * k) verts) j 0 u, get_or-drop (i * k) verts j 0) (below (i * k + j) (omega (arith, col_fits i n k l))))))));
    }
