-- Laws of loads: the edges between two corners as a loop goes through them, and the loads of all triangles. Assumes nothing.
use Prim.Native.Nat.{ℕ, ◌+◌, ◌*◌, ◌-◌, ◌/◌, ◌<◌, ◌≤◌}
use native.Mathlib.Omega.{arith}
use mathlib.Core.Path.{◌≡◌, refl, sym, ◌∙◌, ap, ap₂, subst}
use mathlib.Core.Bool.{Bool, true, false, not, ◌&&◌}
use mathlib.Core.List.{List, [], ◌∷◌, ◌++◌, map, append-nil, map-append}
use lib.ListN.{length, get_or, take, set, length-set}
use lib.Ieee.{Float, nan}
use lib.Dec.{eqb}
use borrow.Author.Tests.{eq-eqb, ne_eqb}
use Rattle.lists.specs.Lists.{pick, stands, sift, fold, each, pairs, tab, empty}
use Rattle.lists.proofs.Sifts.{fold_append}
use Rattle.lists.proofs.Steps.{sift_step, tab_step}
use Rattle.float.specs.Numbers.{zero32, max_of}
use Rattle.columns.specs.Block.{cell}
use Rattle.columns.proofs.Cells.{col_0, col_1}
use Rattle.columns.proofs.Sweep.{front_grows}
use Rattle.model.specs.Mesh.{Triangle, Edge, Mesh}
use Rattle.model.specs.Trace.{Sound}
use Rattle.model_laws.proofs.Rows.{Three, three_from}
use Rattle.model.specs.Elements.{ends_of}
use Rattle.model.specs.Crack.{largest_stress, stress_between, triangle_load, loads_of}
use Rattle.mesh.specs.At.{triangle_row, edge_row, triangles_at, edges_at}
use Rattle.tear.specs.Loads.{end_sum, FirstFrom, Apart, PairLoad, TriangleLoad, LoadsRead}
use Rattle.tear.proofs.LinkLaws.{other_sum, sift_run}

-- ---- the edges between two particles

-- does an edge join x and y
abbrev pub between : ℕ → ℕ → Edge → Bool
between x y e = stands x (ends_of e) && stands y (ends_of e)

-- the larger of a stress so far and an edge's
abbrev pub stressed : Float → Edge → Float
stressed s e = max_of s e.stress

-- row k of the edges
abbrev pub edge_in : List ℕ → List Float → ℕ → Edge
edge_in ends lengths k = edge_row (length ends / 4) (length lengths / 4) ends lengths k

-- at the head of the loop: i edges were passed; the largest stress of those between x and y, and whether there was one
pub record Finding (x y e : ℕ) (ends : List ℕ) (lengths : List Float) (most : Float) (found : Bool) (i : ℕ) : Type 0 where
  pub inside : i ≤ e
  pub most_is : most ≡ fold stressed zero32 (sift (between x y) (tab i (edge_in ends lengths)))
  pub found_is : found ≡ not (empty (sift (between x y) (tab i (edge_in ends lengths))))

-- before the first turn
pub finding_start : (x y e : ℕ) (ends : List ℕ) (lengths : List Float) → Finding x y e ends lengths zero32 false 0
unfolding tab sift fold
finding_start x y e ends lengths = record { inside = omega arith; most_is = refl; found_is = refl }

-- the ends and the stress as the program reads them
ends_read : (x y i : ℕ) (ends : List ℕ) (lengths : List Float) (t : Bool) → t ≡ stands x (get_or ends i 0 ∷ get_or ends (length ends / 4 + i) 0 ∷ []) && stands y (get_or ends i 0 ∷ get_or ends (length ends / 4 + i) 0 ∷ [])
    → between x y (edge_in ends lengths i) ≡ t
ends_read x y i ends lengths t q =
    ap₂ (λ (a b : ℕ). stands x (a ∷ b ∷ []) && stands y (a ∷ b ∷ [])) (col_0 0 (length ends / 4) ends i) (col_1 0 (length ends / 4) ends i) ∙ sym q

stress_read : (i : ℕ) (lengths : List Float) → get_or lengths (3 * (length lengths / 4) + i) nan ≡ cell nan (length lengths / 4) lengths 3 i
unfolding cell
stress_read i lengths = refl

not_empty_behind : {A : Type 0} (l : List A) (a : A) → not (empty (l ++ (a ∷ []))) ≡ true
not_empty_behind [] a = refl
not_empty_behind (b ∷ l) a = refl

module _ (x y e : ℕ) (ends : List ℕ) (lengths : List Float) (most : Float) (found : Bool) (i : ℕ) (F : Finding x y e ends lengths most found i) (h : i < e) where
  -- what is sifted after one edge more
  sifted : (t : Bool) → between x y (edge_in ends lengths i) ≡ t
      → sift (between x y) (tab (i + 1) (edge_in ends lengths)) ≡ sift (between x y) (tab i (edge_in ends lengths)) ++ pick t (edge_in ends lengths i ∷ []) []
  sifted t q = sift_step (between x y) (edge_in ends lengths) i ∙ ap (λ (s : Bool). sift (between x y) (tab i (edge_in ends lengths)) ++ pick s (edge_in ends lengths i ∷ []) []) q

  -- a turn at an edge between them
  pub finding_in : (t : Bool) → t ≡ stands x (get_or ends i 0 ∷ get_or ends (length ends / 4 + i) 0 ∷ []) && stands y (get_or ends i 0 ∷ get_or ends (length ends / 4 + i) 0 ∷ []) → t ≡ true
      → (r m : Float) (f : Bool) → r ≡ max_of most (get_or lengths (3 * (length lengths / 4) + i) nan) → m ≡ r → f ≡ true → Finding x y e ends lengths m f (i + 1)
  unfolding fold
  finding_in t q y' r m f er em ef =
      let l = sift (between x y) (tab i (edge_in ends lengths)) in
      let s = sifted true (ends_read x y i ends lengths t q ∙ y') in
      record {
        inside = omega arith;
        most_is = em ∙ er ∙ ap₂ max_of F.most_is (stress_read i lengths) ∙ sym (fold_append stressed zero32 l (edge_in ends lengths i ∷ [])) ∙ ap (fold stressed zero32) (sym s);
        found_is = ef ∙ sym (ap (λ (k : List Edge). not (empty k)) s ∙ not_empty_behind l (edge_in ends lengths i));
      }

  -- a turn at another edge
  pub finding_out : (t : Bool) → t ≡ stands x (get_or ends i 0 ∷ get_or ends (length ends / 4 + i) 0 ∷ []) && stands y (get_or ends i 0 ∷ get_or ends (length ends / 4 + i) 0 ∷ []) → t ≡ false
      → (m : Float) (f : Bool) → m ≡ most → f ≡ found → Finding x y e ends lengths m f (i + 1)
  finding_out t q n m f em ef =
      let s = sifted false (ends_read x y i ends lengths t q ∙ n) ∙ append-nil (sift (between x y) (tab i (edge_in ends lengths))) in
      record {
        inside = omega arith;
        most_is = em ∙ F.most_is ∙ ap (fold stressed zero32) (sym s);
        found_is = ef ∙ F.found_is ∙ ap (λ (k : List Edge). not (empty k)) (sym s);
      }

-- edges up to the first of the sum x + y are not between x and y
finding_past : (x y e : ℕ) (ends : List ℕ) (lengths : List Float) (most : Float) (found : Bool) (i k : ℕ) → (x ≡ y → ⊥) → Finding x y e ends lengths most found i
    → FirstFrom i (x + y) e ends k → Finding x y e ends lengths most found k
finding_past x y e ends lengths most found i k differ F K =
    let q : i + (k - i) ≡ k = omega (arith, K.from) in
    let run = sift_run (between x y) (edge_in ends lengths) i (k - i) (λ j a b.
    ends_read x y j ends lengths false (sym (other_sum x y (get_or ends j 0) (get_or ends (length ends / 4 + j) 0) differ (K.none j a (omega arith))))) in
    let s : sift (between x y) (tab k (edge_in ends lengths)) ≡ sift (between x y) (tab i (edge_in ends lengths)) = ap (λ (n : ℕ). sift (between x y) (tab n (edge_in ends lengths))) (sym q) ∙ run in
    record {
      inside = K.inside;
      most_is = F.most_is ∙ ap (fold stressed zero32) (sym s);
      found_is = F.found_is ∙ ap (λ (l : List Edge). not (empty l)) (sym s);
    }

-- at the head of the loop over the edges of one sum
pub record Walking (x y e : ℕ) (ends : List ℕ) (lengths : List Float) (most : Float) (found : Bool) (i : ℕ) : Type 0 where
  pub finding : Finding x y e ends lengths most found i
  pub sums : i < e → end_sum ends i ≡ x + y

-- from what was found among the first i edges to the next edge of the sum
pub walking_on : (x y e : ℕ) (ends : List ℕ) (lengths : List Float) (most : Float) (found : Bool) (i s k : ℕ) → (x ≡ y → ⊥) → Finding x y e ends lengths most found i
    → s ≡ x + y → FirstFrom i s e ends k → Walking x y e ends lengths most found k
walking_on x y e ends lengths most found i s k differ F q K =
    let P = subst (λ (n : ℕ). FirstFrom i n e ends k) q K in record { finding = finding_past x y e ends lengths most found i k differ F P; sums = P.sums }

-- the largest stress of some edges, folded onto a load
onto_some : (load : Float) (l : List Edge) → not (empty l) ≡ true → max_of load (fold stressed zero32 l) ≡ fold max_of load (largest_stress l)
unfolding largest_stress fold
onto_some load [] q = absurd_bool q
  where
    absurd_bool : ◌≡◌ {A = Bool} false true → max_of load zero32 ≡ load
    absurd_bool q = let z : ◌≡◌ {A = ℕ} 0 1 = cc in absurd (omega arith)
onto_some load (e ∷ l) q = refl

onto_none : (load : Float) (l : List Edge) → not (empty l) ≡ false → load ≡ fold max_of load (largest_stress l)
unfolding largest_stress fold
onto_none load [] q = refl
onto_none load (e ∷ l) q = let z : ◌≡◌ {A = ℕ} 0 1 = cc in absurd (omega arith)

module _ (load : Float) (x y e : ℕ) (ends : List ℕ) (lengths : List Float) (most : Float) (found : Bool) (i : ℕ) (F : Finding x y e ends lengths most found i) (h : e ≤ i) where
  -- the edges of the mesh that were sifted
  all_sifted : (M : Mesh) → M.edges ≡ edges_at e ends lengths → sift (between x y) (tab i (edge_in ends lengths)) ≡ sift (between x y) M.edges
  unfolding edges_at
  all_sifted M q =
      let n : i ≡ e = omega (arith, F.inside) in
      ap (λ (k : ℕ). sift (between x y) (tab k (edge_in ends lengths))) n ∙ ap (sift (between x y)) (sym q)

  -- after the last turn
  pub finding_some : found ≡ true → (r : Float) → r ≡ max_of load most → PairLoad load x y e ends lengths r
  unfolding stress_between
  finding_some f r q =
      record {
        is = λ M s.
            q ∙ ap (max_of load) F.most_is ∙ onto_some load (sift (between x y) (tab i (edge_in ends lengths))) (sym F.found_is ∙ f)
            ∙ ap (λ (l : List Edge). fold max_of load (largest_stress l)) (all_sifted M s);
      }

  pub finding_none : found ≡ false → PairLoad load x y e ends lengths load
  unfolding stress_between
  finding_none f =
      record {
        is = λ M s.
            onto_none load (sift (between x y) (tab i (edge_in ends lengths))) (sym F.found_is ∙ f) ∙ ap (λ (l : List Edge). fold max_of load (largest_stress l)) (all_sifted M s);
      }

-- ---- a triangle, and all triangles

-- the corners and the stress as the program reads them
pub corner_two : (corners : List ℕ) (i : ℕ) → get_or corners (2 * (length corners / 3) + i) 0 ≡ cell 0 (length corners / 3) corners 2 i
unfolding cell
corner_two corners i = refl

-- two corners of a triangle are apart
module _ (corners : List ℕ) (volumes : List Float) (i : ℕ) (S : Sound 1024 (triangle_row (length corners / 3) (length volumes / 2) corners volumes i)) where
  three : Three 1024 (cell 0 (length corners / 3) corners 0 i) (cell 0 (length corners / 3) corners 1 i) (cell 0 (length corners / 3) corners 2 i)
  three = three_from 1024 _ _ _ S.apart

  apart_by : {a b x y : ℕ} → a ≡ x → b ≡ y → a < 1024 → b < 1024 → (a ≡ b → ⊥) → Apart x y
  apart_by p q h k n = record { first = omega arith; second = omega arith; differ = λ e. n (p ∙ e ∙ sym q) }

  pub apart_ab : Apart (get_or corners i 0) (get_or corners (length corners / 3 + i) 0)
  apart_ab = apart_by (col_0 0 (length corners / 3) corners i) (col_1 0 (length corners / 3) corners i) three.a three.b three.ab

  pub apart_ac : Apart (get_or corners i 0) (get_or corners (2 * (length corners / 3) + i) 0)
  apart_ac = apart_by (col_0 0 (length corners / 3) corners i) (sym (corner_two corners i)) three.a three.c (λ e. three.ca (sym e))

  pub apart_bc : Apart (get_or corners (length corners / 3 + i) 0) (get_or corners (2 * (length corners / 3) + i) 0)
  apart_bc = apart_by (col_1 0 (length corners / 3) corners i) (sym (corner_two corners i)) three.b three.c three.bc

-- three lists, one behind the other
fold_three : (b : Float) (l m n : List Float) → fold max_of (fold max_of (fold max_of b l) m) n ≡ fold max_of b (l ++ (m ++ (n ++ [])))
fold_three b l m n =
    sym
    (fold_append max_of b l (m ++ (n ++ [])) ∙ fold_append max_of (fold max_of b l) m (n ++ []) ∙ ap (fold max_of (fold max_of (fold max_of b l) m)) (append-nil n))

-- three pairs of corners, one behind the other
load_three : (M : Mesh) (a b c : ℕ) (v : Float) (own stress : Float) (x y z : ℕ) (first second r : Float) → own ≡ stress → x ≡ a → y ≡ b → z ≡ c
    → first ≡ fold max_of own (stress_between M (x, y)) → second ≡ fold max_of first (stress_between M (x, z)) → r ≡ fold max_of second (stress_between M (y, z))
    → r ≡ triangle_load M (record { corners = a ∷ b ∷ c ∷ []; volume = v; stress = stress })
unfolding triangle_load each pairs
load_three M a b c v own stress x y z first second r eo ex ey ez p q s =
    let chain : r ≡ fold max_of (fold max_of (fold max_of stress (stress_between M (a, b))) (stress_between M (a, c))) (stress_between M (b, c)) = cc in
    chain ∙ fold_three stress (stress_between M (a, b)) (stress_between M (a, c)) (stress_between M (b, c))

pub triangle_loaded : (i e : ℕ) (corners : List ℕ) (volumes : List Float) (ends : List ℕ) (lengths : List Float) (first second r : Float)
    → PairLoad (get_or volumes (length volumes / 2 + i) nan) (get_or corners i 0) (get_or corners (length corners / 3 + i) 0) e ends lengths first
    → PairLoad first (get_or corners i 0) (get_or corners (2 * (length corners / 3) + i) 0) e ends lengths second
    → PairLoad second (get_or corners (length corners / 3 + i) 0) (get_or corners (2 * (length corners / 3) + i) 0) e ends lengths r
    → TriangleLoad i e corners volumes ends lengths r
triangle_loaded i e corners volumes ends lengths first second r P Q S =
    let C = length corners / 3 in
    record {
      is = λ M q.
          load_three M (cell 0 C corners 0 i) (cell 0 C corners 1 i) (cell 0 C corners 2 i) (cell nan (length volumes / 2) volumes 0 i) (get_or volumes (length volumes / 2 + i) nan) (cell nan (length volumes / 2) volumes 1 i) (get_or corners i 0) (get_or corners (C + i) 0) (get_or corners (2 * C + i) 0) first second r
          (sym (col_1 nan (length volumes / 2) volumes i)) (sym (col_0 0 C corners i)) (sym (col_1 0 C corners i)) (corner_two corners i) (P.is M q) (Q.is M q) (S.is M q);
    }

-- at the head of the loop: the loads of i triangles are read
pub record Reading (t e : ℕ) (corners : List ℕ) (volumes : List Float) (ends : List ℕ) (lengths loads₀ loads : List Float) (i : ℕ) : Type 0 where
  pub inside : i ≤ t
  pub long : length loads ≡ length loads₀
  pub are : (M : Mesh) → M.edges ≡ edges_at e ends lengths → take i loads ≡ map (triangle_load M) (triangles_at i corners volumes)

pub reading_start : (t e : ℕ) (corners : List ℕ) (volumes : List Float) (ends : List ℕ) (lengths loads : List Float) → Reading t e corners volumes ends lengths loads loads 0
unfolding triangles_at tab
reading_start t e corners volumes ends lengths loads = record { inside = omega arith; long = refl; are = λ M q. refl }

module _ (t e : ℕ) (corners : List ℕ) (volumes : List Float) (ends : List ℕ) (lengths loads₀ loads : List Float) (i : ℕ) (R : Reading t e corners volumes ends lengths loads₀ loads i) where
  -- a turn reads one load more
  pub reading_more : i < t → t ≤ length loads₀ → (r : Float) → TriangleLoad i e corners volumes ends lengths r → Reading t e corners volumes ends lengths loads₀ (set loads i r) (i + 1)
  unfolding triangles_at
  reading_more h room r T =
      let row = triangle_row (length corners / 3) (length volumes / 2) corners volumes in
      record {
        inside = omega arith;
        long = length-set loads i r ∙ R.long;
        are = λ M q.
            front_grows loads (map (triangle_load M) (tab i row)) i r (R.are M q) (omega (arith, R.long))
            ∙ ap (λ (x : Float). map (triangle_load M) (tab i row) ++ (x ∷ [])) (T.is M q)
            ∙ sym (map-append (triangle_load M) (tab i row) (row i ∷ []))
            ∙ ap (map (triangle_load M)) (sym (tab_step row i));
      }

  -- after the last turn
  pub reading_done : t ≤ i → LoadsRead t e corners volumes ends lengths loads
  unfolding loads_of
  reading_done h =
      let n : t ≡ i = omega (arith, R.inside) in
      record {
        are = λ M p q.
            ap (λ (k : ℕ). take k loads) n ∙ R.are M q ∙ ap (λ (k : ℕ). map (triangle_load M) (triangles_at k corners volumes)) (sym n) ∙ ap (map (triangle_load M)) (sym p);
      }

-- ---- two ends

one_end : (t : Bool) → t ≡ pick t true false
one_end true = refl
one_end false = refl

pub end_first : (x a b : ℕ) → a ≡ x → true ≡ stands x (a ∷ b ∷ [])
end_first x a b e = rw (eq-eqb a x e)

pub end_second : (x a b : ℕ) → (a ≡ x → ⊥) → eqb b x ≡ stands x (a ∷ b ∷ [])
end_second x a b n = rw (ne_eqb a x n) (one_end (eqb b x))
