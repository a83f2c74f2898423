-- Laws of marks: one more mark, the candidates of a cut, the ends of the splits of a log, and the pinched. Assumes nothing.
use mathlib.Core.Path.{◌≡◌, refl, sym, ◌∙◌, ap, ap₂, subst}
use mathlib.Core.Bool.{Bool, true, false, not, ◌&&◌, ◌||◌, true≢false}
use mathlib.Core.Logic.{⊎_elim}
use mathlib.Core.List.{List, [], ◌∷◌, ◌++◌, map}
use Prim.Native.Nat.{ℕ, zero, suc, ◌+◌, ◌*◌, ◌-◌, ◌/◌, ◌<◌, ◌≤◌, zero-le, suc-le-suc}
use native.Mathlib.Omega.{arith}
use borrow.Author.Tests.{eq-eqb, ne_eqb}
use lib.Dec.{eqb}
use lib.ListN.{length, get_or, set, length-replicate, get_or-replicate}
use lib.Ieee.{Float, lt}
use Rattle.float.specs.Numbers.{times, zero32}
use Rattle.float.proofs.Picks.{yes, or_yes_1}
use Rattle.lists.specs.Lists.{pick, stands, any, each, pairs, tab, empty, padded}
use Rattle.lists.proofs.Stores.{stored, tab_length, tab_at}
use Rattle.lists.proofs.Sifts.{stands_append, any_made}
use Rattle.lists.proofs.Steps.{any_step, each_step}
use Rattle.blade.specs.declared.Point.{Point}
use Rattle.blade.specs.declared.Hit.{Hit}
use Rattle.blade.specs.declared.Hit.TheVariants.{Miss}
use Rattle.blade.specs.Blade.{offset_of, blade_hit_of}
use Rattle.columns.specs.Block.{cell}
use Rattle.columns.proofs.Cells.{col_0, col_1}
use Rattle.model.specs.Mesh.{Particle, Triangle, Mesh, blank}
use Rattle.model.specs.Elements.{Triangles, Element, place_of, corners_of, triangles_from, elements_of}
use Rattle.model.specs.Run.{Entry, split, edge, insert, opened, met, Run, split_of, splits_of}
use Rattle.model.specs.Cut.{Blade, hit_by, hit?, meets, if_met, split_ends, near_corners}
use Rattle.mesh.specs.At.{particles_at, triangles_at, mesh_at}
use Rattle.mesh.specs.declared.Counts.{Counts}
use Rattle.mesh.specs.Log.{words_of, entry_row, log_at}
use Rattle.mesh.specs.Widths.{point_columns}
use Rattle.work.specs.Places.{CornersIn}
use Rattle.split_plan.specs.Opened.{place_in}
use Rattle.marks.specs.declared.Rule.{Rule}
use Rattle.marks.specs.declared.Rule.TheVariants.{Rounded}
use Rattle.marks.specs.Marking.{Marks, MarkedBy, alike_by, BesideTold, blade_by, PlacesIn, met_in, met_of, candidate_ends, CandidatesMarked, split_words, ends_in_of, NearMarked, SplitFound, marked?, near_row, pinched_ends, PinchedMarked}
use Rattle.lists.proofs.Truths.{or_end, mark_or}

-- ---- one more mark

or_yes : (s : Bool) → s || true ≡ true
or_yes true = refl
or_yes false = refl

-- nothing is marked
pub marked_none : (m : List ℕ) → MarkedBy [] m m
marked_none m = record { mark = λ k h. refl }

-- a store marks its place
pub marked_one : (w : ℕ) (m : List ℕ) → w < length m → MarkedBy (w ∷ []) m (set m w 1)
marked_one w m h =
    record {
      mark = λ k l.
          ⊎_elim
          (λ e. e.1 ∙ ap (λ (t : Bool). pick (pick t true false) 1 (get_or m k 0)) (sym (eq-eqb w k (sym e.0))))
          (λ e. e.1 ∙ ap (λ (t : Bool). pick (pick t true false) 1 (get_or m k 0)) (sym (ne_eqb w k (λ q. e.0 (sym q)))))
          (stored m w 1 k h);
    }

-- a number without a place marks none
pub marked_out : (w : ℕ) (m : List ℕ) → length m ≤ w → MarkedBy (w ∷ []) m m
marked_out w m n = record { mark = λ k l. ap (λ (t : Bool). pick (pick t true false) 1 (get_or m k 0)) (sym (ne_eqb w k (λ q. omega arith))) }

-- one list behind the other
pub marked_then : (a b m m' m'' : List ℕ) → length m' ≡ length m → MarkedBy a m m' → MarkedBy b m' m'' → MarkedBy (a ++ b) m m''
marked_then a b m m' m'' e A B =
    record {
      mark = λ k h.
          B.mark k (subst (λ (n : ℕ). k < n) (sym e) h) ∙ ap (pick (stands k b) 1) (A.mark k h)
          ∙ mark_or (stands k a) (stands k b) (get_or m k 0) ∙ ap (λ (s : Bool). pick s 1 (get_or m k 0)) (sym (stands_append k a b));
    }

-- three, one behind the other
pub marked_three : (a b c m m₁ m₂ m₃ : List ℕ) → length m₁ ≡ length m → length m₂ ≡ length m₁ → length m₃ ≡ length m₂ → MarkedBy a m m₁ → MarkedBy b m₁ m₂ → MarkedBy c m₂ m₃ → MarkedBy (a ++ (b ++ (c ++ []))) m m₃
marked_three a b c m m₁ m₂ m₃ e₁ e₂ e₃ A B C =
    marked_then a (b ++ (c ++ [])) m m₁ m₃ e₁ A (marked_then b (c ++ []) m₁ m₂ m₃ e₂ B (marked_then c [] m₂ m₃ m₃ e₃ C (marked_none m₃)))

-- after the marks are cleared none is marked
pub marks_cleared : (n : ℕ) (m : List ℕ) → m ≡ padded n 0 [] → Marks [] m
unfolding padded
marks_cleared n m e =
    record {
      mark = λ k h.
          let l : length m ≡ n - 0 = ap length e ∙ length-replicate (n - 0) 0 in
          ap (λ (t : List ℕ). get_or t k 0) e ∙ get_or-replicate (n - 0) k 0 0 (omega arith);
    }

pub cleared_length : (n : ℕ) (m : List ℕ) → m ≡ padded n 0 [] → length m ≡ n
unfolding padded
cleared_length n m e = let l : length m ≡ n - 0 = ap length e ∙ length-replicate (n - 0) 0 in omega arith

-- and more of them
pub marks_more : (a b m m' : List ℕ) → length m' ≡ length m → Marks a m → MarkedBy b m m' → Marks (a ++ b) m'
marks_more a b m m' e A B =
    record {
      mark = λ k h.
          let l : k < length m = omega arith in
          B.mark k l ∙ ap (pick (stands k b) 1) (A.mark k l)
          ∙ mark_or (stands k a) (stands k b) 0 ∙ ap (λ (s : Bool). pick s 1 0) (sym (stands_append k a b));
    }

-- row by row
module _ {A : Type 0} (f : A → List ℕ) (row : ℕ → A) where
  pub rows_none : (n : ℕ) (m : List ℕ) → m ≡ padded n 0 [] → Marks (each f (tab 0 row)) m
  unfolding each tab
  rows_none n m e = marks_cleared n m e

  pub rows_more : (i : ℕ) (m m' : List ℕ) → length m' ≡ length m → Marks (each f (tab i row)) m → MarkedBy (f (row i)) m m' → Marks (each f (tab (i + 1) row)) m'
  rows_more i m m' e A B = subst (λ (l : List ℕ). Marks l m') (sym (each_step f row i)) (marks_more (each f (tab i row)) (f (row i)) m m' e A B)

-- two tables of rows that make the same
pub each_tab : {A C D : Type 0} (f : A → List D) (g : C → List D) (n : ℕ) (r : ℕ → A) (s : ℕ → C) → ((k : ℕ) → k < n → f (r k) ≡ g (s k)) → each f (tab n r) ≡ each g (tab n s)
unfolding each tab
each_tab f g zero r s h = refl
each_tab f g (suc n) r s h = ap₂ {C = List _} ◌++◌ (h 0 (suc-le-suc zero-le)) (each_tab f g n (λ k. r (suc k)) (λ k. s (suc k)) (λ k l. h (suc k) (suc-le-suc l)))

-- ---- triangles

-- the corners of triangle i, as a program reads them
abbrev pub corners_at : List ℕ → ℕ → List ℕ
corners_at corners i = get_or corners i 0 ∷ get_or corners (length corners / 3 + i) 0 ∷ get_or corners (2 * (length corners / 3) + i) 0 ∷ []

-- a triangle's corners are its element's
triangles_each : {D : Type 0} (g : List ℕ → List D) (i : ℕ) (ts : List Triangle) → each (λ (e : Element). g e.corners) (triangles_from i ts) ≡ each (λ (t : Triangle). g (corners_of t)) ts
unfolding each triangles_from
triangles_each g i [] = refl
triangles_each {D} g i (t ∷ ts) = ap (λ (l : List D). g (corners_of t) ++ l) (triangles_each g (suc i) ts)

-- each corner that is read lies below p
pub record RowBelow (p : ℕ) (corners : List ℕ) (i : ℕ) : Type 0 where
  pub first : get_or corners i 0 < p
  pub second : get_or corners (length corners / 3 + i) 0 < p
  pub third : get_or corners (2 * (length corners / 3) + i) 0 < p

pub row_below : (p t : ℕ) (corners : List ℕ) (i : ℕ) → CornersIn p t corners → i < t → RowBelow p corners i
unfolding cell
row_below p t corners i C h =
    record {
      first = subst (λ (w : ℕ). w < p) (col_0 0 (length corners / 3) corners i) (C.first i h);
      second = subst (λ (w : ℕ). w < p) (col_1 0 (length corners / 3) corners i) (C.second i h);
      third = C.third i h;
    }

-- the rows that are read are the mesh's triangles
pub rows_are : {D : Type 0} (f g : List ℕ → List D) (M : Mesh) (t : ℕ) (corners : List ℕ) (volumes : List Float) → M.triangles ≡ triangles_at t corners volumes → ((i : ℕ) → i < t → f (corners_at corners i) ≡ g (corners_at corners i))
    → each f (tab t (corners_at corners)) ≡ each (λ (e : Element). g e.corners) (elements_of Triangles M)
unfolding elements_of triangles_at cell
rows_are f g M t corners volumes e h =
    each_tab f (λ (x : Triangle). g (corners_of x)) t (corners_at corners) _
    (λ i l. h i l ∙ ap g (λ j. sym (col_0 0 (length corners / 3) corners i) j ∷ sym (col_1 0 (length corners / 3) corners i) j ∷ get_or corners (2 * (length corners / 3) + i) 0 ∷ []))
    ∙ ap (each (λ (x : Triangle). g (corners_of x))) (sym e)
    ∙ sym (triangles_each g 0 M.triangles)

-- ---- candidates

-- the places of a mesh in blocks
pub places_at : (k : Counts) (points : List Float) (roots corners : List ℕ) (volumes : List Float) (ends : List ℕ) (lengths : List Float) (outline : List ℕ)
    → PlacesIn (mesh_at k points roots corners volumes ends lengths outline) k.particles points
unfolding place_of mesh_at particles_at
places_at k points roots corners volumes ends lengths outline w h = ap (λ (p : Particle). record { x = p.x; y = p.y }) (tab_at k.particles _ w blank h)

module _ (B : Blade) (points : List Float) where
  -- a miss, and a hit
  pub pair_miss : (x y : ℕ) (p q : Point) (h : Hit) (m : List ℕ) → p ≡ place_in points x → q ≡ place_in points y → h ≡ hit_by B.rule B.line.from B.line.to p q → hit? h ≡ false → MarkedBy (met_in B points (x, y)) m m
  unfolding met_in
  pair_miss x y p q h m ep eq e t =
      let f : hit? (hit_by B.rule B.line.from B.line.to (place_in points x) (place_in points y)) ≡ false = ap₂ (λ (a b : Point). hit? (hit_by B.rule B.line.from B.line.to a b)) (sym ep) (sym eq) ∙ ap hit? (sym e) ∙ t in
      subst (λ (s : Bool). MarkedBy (pick s (x ∷ y ∷ []) []) m m) (sym f) (marked_none m)

  pub pair_hit : (x y : ℕ) (p q : Point) (h : Hit) (m m' m'' : List ℕ) → p ≡ place_in points x → q ≡ place_in points y → h ≡ hit_by B.rule B.line.from B.line.to p q → hit? h ≡ true
      → length m' ≡ length m → MarkedBy (x ∷ []) m m' → MarkedBy (y ∷ []) m' m'' → MarkedBy (met_in B points (x, y)) m m''
  unfolding met_in
  pair_hit x y p q h m m' m'' ep eq e t l X Y =
      let f : hit? (hit_by B.rule B.line.from B.line.to (place_in points x) (place_in points y)) ≡ true = ap₂ (λ (a b : Point). hit? (hit_by B.rule B.line.from B.line.to a b)) (sym ep) (sym eq) ∙ ap hit? (sym e) ∙ t in
      subst (λ (s : Bool). MarkedBy (pick s (x ∷ y ∷ []) []) m m'') (sym f) (marked_then (x ∷ []) (y ∷ []) m m' m'' l X Y)

  -- the three sides of a triangle
  pub sides_met : (x y z : ℕ) (m m₁ m₂ m₃ : List ℕ) → length m₁ ≡ length m → length m₂ ≡ length m₁ → length m₃ ≡ length m₂
      → MarkedBy (met_in B points (x, y)) m m₁ → MarkedBy (met_in B points (x, z)) m₁ m₂ → MarkedBy (met_in B points (y, z)) m₂ m₃ → MarkedBy (met_of B points (x ∷ y ∷ z ∷ [])) m m₃
  unfolding met_of each pairs
  sides_met x y z m m₁ m₂ m₃ e₁ e₂ e₃ A C D = marked_three (met_in B points (x, y)) (met_in B points (x, z)) (met_in B points (y, z)) m m₁ m₂ m₃ e₁ e₂ e₃ A C D

  module _ (M : Mesh) (p : ℕ) (at : PlacesIn M p points) where
    met_pair : (x y : ℕ) → x < p → y < p → met_in B points (x, y) ≡ if_met B M (x, y)
    unfolding met_in meets
    met_pair x y hx hy = ap₂ (λ (a b : Point). pick (hit? (hit_by B.rule B.line.from B.line.to a b)) (x ∷ y ∷ []) []) (sym (at x hx)) (sym (at y hy))

    met_row : (x y z : ℕ) → x < p → y < p → z < p → met_of B points (x ∷ y ∷ z ∷ []) ≡ each (if_met B M) (pairs (x ∷ y ∷ z ∷ []))
    unfolding met_of each pairs
    met_row x y z hx hy hz = λ i. met_pair x y hx hy i ++ (met_pair x z hx hz i ++ (met_pair y z hy hz i ++ []))

    met_all : (t : ℕ) (corners : List ℕ) (volumes : List Float) → CornersIn p t corners → M.triangles ≡ triangles_at t corners volumes → each (met_of B points) (tab t (corners_at corners)) ≡ candidate_ends B M
    unfolding candidate_ends
    met_all t corners volumes C e =
        rows_are (met_of B points) (λ (l : List ℕ). each (if_met B M) (pairs l)) M t corners volumes e
        (λ i h. let b = row_below p t corners i C h in met_row _ _ _ b.first b.second b.third)

  -- after the last triangle
  pub candidates_done : (t i : ℕ) (corners m : List ℕ) → i ≡ t → Marks (each (met_of B points) (tab i (corners_at corners))) m → CandidatesMarked B t points corners m
  candidates_done t i corners m q A =
      record {
        marked = λ M p volumes at C e.
            subst (λ (l : List ℕ). Marks l m) (ap (λ (n : ℕ). each (met_of B points) (tab n (corners_at corners))) q ∙ met_all M p at t corners volumes C e) A;
      }

-- ---- the log

-- the copies and sources of a log, by its words
words_ends : (l : List Entry) → each ends_in_of (map words_of l) ≡ each (λ (cs : ℕ × ℕ). cs.0 ∷ cs.1 ∷ []) (each split_of l)
unfolding each ends_in_of
words_ends [] = refl
words_ends (split c v ∷ l) = ap (λ (t : List ℕ). c ∷ v ∷ t) (words_ends l)
words_ends (edge a b ∷ l) = words_ends l
words_ends (insert a b p q t ∷ l) = words_ends l
words_ends (opened a b ∷ l) = words_ends l
words_ends (met a b p t ∷ l) = words_ends l

-- does it have a split
words_split : (l : List Entry) → any split_words (map words_of l) ≡ not (empty (each split_of l))
unfolding any each
words_split [] = refl
words_split (split c v ∷ l) = refl
words_split (edge a b ∷ l) = words_split l
words_split (insert a b p q t ∷ l) = words_split l
words_split (opened a b ∷ l) = words_split l
words_split (met a b p t ∷ l) = words_split l

pub near_done : (l i : ℕ) (log near : List ℕ) → i ≡ l → Marks (each ends_in_of (tab i (entry_row log))) near → NearMarked l log near
unfolding log_at split_ends splits_of
near_done l i log near q A =
    record {
      marked = λ R e.
          subst (λ (t : List ℕ). Marks t near) (ap (λ (n : ℕ). each ends_in_of (tab n (entry_row log))) q ∙ ap (each ends_in_of) e ∙ words_ends R.log) A;
    }

pub split_found : (l i : ℕ) (log : List ℕ) (r : Bool) → i ≡ l → any split_words (tab i (entry_row log)) ≡ r → SplitFound l log r
unfolding log_at splits_of
split_found l i log r q A = record { is = λ R e. sym A ∙ ap (λ (n : ℕ). any split_words (tab n (entry_row log))) q ∙ ap (any split_words) e ∙ words_split R.log }

-- an entry that tells of a split marks its ends, and another none
pub entry_split : (log : List ℕ) (i : ℕ) (m m' m'' : List ℕ) → get_or log (6 * i) 0 ≡ 1 → length m' ≡ length m → MarkedBy (get_or log (6 * i + 1) 0 ∷ []) m m' → MarkedBy (get_or log (6 * i + 2) 0 ∷ []) m' m''
    → MarkedBy (ends_in_of (entry_row log i)) m m''
unfolding ends_in_of
entry_split log i m m' m'' e l A B =
    subst (λ (s : Bool). MarkedBy (pick s (get_or log (6 * i + 1) 0 ∷ get_or log (6 * i + 2) 0 ∷ []) []) m m'') (sym (eq-eqb _ _ e)) (marked_then (get_or log (6 * i + 1) 0 ∷ []) (get_or log (6 * i + 2) 0 ∷ []) m m' m'' l A B)

pub entry_other : (log : List ℕ) (i : ℕ) (m : List ℕ) → (get_or log (6 * i) 0 ≡ 1 → ⊥) → MarkedBy (ends_in_of (entry_row log i)) m m
unfolding ends_in_of
entry_other log i m e = subst (λ (s : Bool). MarkedBy (pick s (get_or log (6 * i + 1) 0 ∷ get_or log (6 * i + 2) 0 ∷ []) []) m m) (sym (ne_eqb _ _ e)) (marked_none m)

-- no entry so far tells of a split; the next does not; or it does
pub split_none : (log : List ℕ) → any split_words (tab 0 (entry_row log)) ≡ false
unfolding any tab
split_none log = refl

pub split_on : (log : List ℕ) (i : ℕ) → (get_or log (6 * i) 0 ≡ 1 → ⊥) → any split_words (tab i (entry_row log)) ≡ false → any split_words (tab (i + 1) (entry_row log)) ≡ false
split_on log i n e = any_step split_words (entry_row log) i ∙ ap₂ ◌||◌ e (ne_eqb _ _ n)

pub split_here : (log : List ℕ) (l i : ℕ) → i < l → get_or log (6 * i) 0 ≡ 1 → SplitFound l log true
split_here log l i h e =
    split_found l l log true refl
    (any_made split_words (tab l (entry_row log)) i (entry_row log 0) (subst (λ (n : ℕ). i < n) (sym (tab_length l (entry_row log))) h)
    (ap split_words (tab_at l (entry_row log) i (entry_row log 0) h) ∙ eq-eqb _ _ e))

-- ---- pinched

-- a mark tells whether a number stands
pub mark_tells : (s : Bool) (x : ℕ) → x ≡ pick s 1 0 → eqb x 1 ≡ s
mark_tells true x e = eq-eqb x 1 e
mark_tells false x e = ne_eqb x 1 (λ q. omega arith)

near_yes : (near : List ℕ) (R : Run) → Marks (split_ends R) near → (w : ℕ) → w < length near → marked? near w ≡ stands w (split_ends R)
near_yes near R N w h = mark_tells (stands w (split_ends R)) (get_or near w 0) (N.mark w h)

near_row_lem : (near : List ℕ) (R : Run) → Marks (split_ends R) near → (x y z : ℕ) → x < length near → y < length near → z < length near
    → near_row near (x ∷ y ∷ z ∷ []) ≡ pick (any (λ w. stands w (split_ends R)) (x ∷ y ∷ z ∷ [])) (x ∷ y ∷ z ∷ []) []
unfolding near_row any
near_row_lem near R N x y z hx hy hz =
    λ i. pick (near_yes near R N x hx i || (near_yes near R N y hy i || (near_yes near R N z hz i || false))) (x ∷ y ∷ z ∷ []) []

pub pinched_done : (t i : ℕ) (corners near m : List ℕ) → i ≡ t → Marks (each (near_row near) (tab i (corners_at corners))) m → PinchedMarked t corners near m
unfolding pinched_ends near_corners
pinched_done t i corners near m q A =
    record {
      marked = λ R volumes e C N.
          subst (λ (l : List ℕ). Marks l m)
          (ap (λ (n : ℕ). each (near_row near) (tab n (corners_at corners))) q
          ∙ rows_are (near_row near) (λ (l : List ℕ). pick (any (λ w. stands w (split_ends R)) l) l []) R.mesh t corners volumes e
          (λ j h. let b = row_below (length near) t corners j C h in near_row_lem near R N _ _ _ b.first b.second b.third))
          A;
    }

-- is one of three near: the first, the second, or the third
module _ (near : List ℕ) (x y z : ℕ) where
  pub near_first : get_or near x 0 ≡ 1 → true ≡ any (marked? near) (x ∷ y ∷ z ∷ [])
  unfolding any
  near_first e = sym (ap (λ (s : Bool). s || (marked? near y || (marked? near z || false))) (eq-eqb _ _ e))

  pub near_second : get_or near y 0 ≡ 1 → true ≡ any (marked? near) (x ∷ y ∷ z ∷ [])
  unfolding any
  near_second e = sym (ap (λ (s : Bool). marked? near x || (s || (marked? near z || false))) (eq-eqb _ _ e) ∙ or_yes (marked? near x))

  pub near_third : (get_or near x 0 ≡ 1 → ⊥) → (get_or near y 0 ≡ 1 → ⊥) → marked? near z ≡ any (marked? near) (x ∷ y ∷ z ∷ [])
  unfolding any
  near_third n₁ n₂ = sym (or_end (marked? near z)) ∙ sym (ap₂ (λ (s t : Bool). s || (t || (marked? near z || false))) (ne_eqb _ _ n₁) (ne_eqb _ _ n₂))

  -- then all three are marked, else none
  pub three_near : (m m₁ m₂ m₃ : List ℕ) → any (marked? near) (x ∷ y ∷ z ∷ []) ≡ true → length m₁ ≡ length m → length m₂ ≡ length m₁ → length m₃ ≡ length m₂
      → MarkedBy (x ∷ []) m m₁ → MarkedBy (y ∷ []) m₁ m₂ → MarkedBy (z ∷ []) m₂ m₃ → MarkedBy (near_row near (x ∷ y ∷ z ∷ [])) m m₃
  unfolding near_row
  three_near m m₁ m₂ m₃ e e₁ e₂ e₃ A C D =
      subst (λ (s : Bool). MarkedBy (pick s (x ∷ y ∷ z ∷ []) []) m m₃) (sym e) (marked_three (x ∷ []) (y ∷ []) (z ∷ []) m m₁ m₂ m₃ e₁ e₂ e₃ A C D)

  pub three_far : (m : List ℕ) → any (marked? near) (x ∷ y ∷ z ∷ []) ≡ false → MarkedBy (near_row near (x ∷ y ∷ z ∷ [])) m m
  unfolding near_row
  three_far m e = subst (λ (s : Bool). MarkedBy (pick s (x ∷ y ∷ z ∷ []) []) m m) (sym e) (marked_none m)

-- ---- three particles on one side of the blade

-- where the offsets of two points have a product above 0, the rounded test misses
side_missed : (b0 b1 p q : Point) → lt zero32 (times (offset_of b0 b1 p) (offset_of b0 b1 q)) ≡ true → blade_hit_of b0 b1 p q ≡ Miss
unfolding blade_hit_of
side_missed b0 b1 p q h = sym (yes _ _ _ (or_yes_1 _ h))

alike_all : (x y z : Bool) → (x && y && z) ≡ true → (x ≡ true) × (y ≡ true) × (z ≡ true)
alike_all true true true e = (refl, refl, refl)
alike_all true true false e = absurd (true≢false (sym e))
alike_all true false z e = absurd (true≢false (sym e))
alike_all false y z e = absurd (true≢false (sym e))

alike_offsets : (x y z : Float) → alike_by x y z ≡ true → (lt zero32 (times x y) ≡ true) × (lt zero32 (times x z) ≡ true) × (lt zero32 (times y z) ≡ true)
alike_offsets x y z e = alike_all (lt zero32 (times x y)) (lt zero32 (times x z)) (lt zero32 (times y z)) e

-- by the rounded rule, and where nothing is told
pub beside_rounded : (r : Rule) (b0 b1 : Point) (points : List Float) (x y z : ℕ) (p q s : Point) (dx dy dz : Float) (b : Bool) → r ≡ Rounded → p ≡ place_in points x → q ≡ place_in points y → s ≡ place_in points z
    → dx ≡ offset_of b0 b1 p → dy ≡ offset_of b0 b1 q → dz ≡ offset_of b0 b1 s → b ≡ alike_by dx dy dz → BesideTold (blade_by r b0 b1) points x y z b
beside_rounded r b0 b1 points x y z p q s dx dy dz b er ep eq es ex ey ez eb =
    let fx = ex ∙ ap (offset_of b0 b1) ep in
    let fy = ey ∙ ap (offset_of b0 b1) eq in
    let fz = ez ∙ ap (offset_of b0 b1) es in
    let told : BesideTold (blade_by Rounded b0 b1) points x y z (alike_by (offset_of b0 b1 (place_in points x)) (offset_of b0 b1 (place_in points y)) (offset_of b0 b1 (place_in points z))) =
    record {
      first = λ e. side_missed b0 b1 _ _ (alike_offsets (offset_of b0 b1 (place_in points x)) (offset_of b0 b1 (place_in points y)) (offset_of b0 b1 (place_in points z)) e).0;
      second = λ e. side_missed b0 b1 _ _ (alike_offsets (offset_of b0 b1 (place_in points x)) (offset_of b0 b1 (place_in points y)) (offset_of b0 b1 (place_in points z)) e).1;
      third = λ e. side_missed b0 b1 _ _ (alike_offsets (offset_of b0 b1 (place_in points x)) (offset_of b0 b1 (place_in points y)) (offset_of b0 b1 (place_in points z)) e).2;
    } in
    subst (λ (c : Bool). BesideTold (blade_by r b0 b1) points x y z c) (sym (eb ∙ (λ i. alike_by (fx i) (fy i) (fz i))))
    (subst (λ (k : Rule). BesideTold (blade_by k b0 b1) points x y z (alike_by (offset_of b0 b1 (place_in points x)) (offset_of b0 b1 (place_in points y)) (offset_of b0 b1 (place_in points z)))) (sym er) told)

pub beside_untold : (B : Blade) (points : List Float) (x y z : ℕ) → BesideTold B points x y z false
beside_untold B points x y z = record { first = λ e. absurd (true≢false (sym e)); second = λ e. absurd (true≢false (sym e)); third = λ e. absurd (true≢false (sym e)) }

-- a triangle that the blade passes by marks nothing
pub beside_unmarked : (B : Blade) (points : List Float) (x y z : ℕ) (b : Bool) (m : List ℕ) → BesideTold B points x y z b → b ≡ true → MarkedBy (met_of B points (x ∷ y ∷ z ∷ [])) m m
beside_unmarked B points x y z b m T e =
    sides_met B points x y z m m m m refl refl refl
    (pair_miss B points x y _ _ _ m refl refl refl (ap hit? (T.first e)))
    (pair_miss B points x z _ _ _ m refl refl refl (ap hit? (T.second e)))
    (pair_miss B points y z _ _ _ m refl refl refl (ap hit? (T.third e)))
