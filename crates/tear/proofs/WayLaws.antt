-- Laws of ways: offsets added, the sides of the rows of a table, mean loads. Assumes nothing.
use Prim.Native.Nat.{ℕ, zero, suc, ◌+◌, ◌*◌, ◌-◌, ◌/◌, ◌<◌, ◌≤◌, zero-le, suc-le-suc}
use native.Mathlib.Nat.{le_of_suc-le-suc, not-suc-le-zero}
use native.Mathlib.Omega.{arith}
use native.Mathlib.Decide.{ℕ_discrete}
use mathlib.Core.Path.{◌≡◌, refl, sym, ◌∙◌, ap, ap₂}
use mathlib.Core.Logic.{⊎_elim}
use mathlib.Core.Bool.{Bool, true, false, ◌&&◌}
use mathlib.Core.List.{List, [], ◌∷◌, ◌++◌, map, append-nil, map-append}
use lib.ListN.{length, get_or, take, drop, set, length-set, drop_of_length-le, length-append}
use lib.Seq.{get_or-take, get_or-drop, take_all}
use lib.Ieee.{Float, nan, lt, ne}
use Rattle.lists.specs.Lists.{pick, stands, sift, fold, tab}
use Rattle.lists.proofs.Stores.{stored, tab_at}
use Rattle.lists.proofs.Steps.{fold_drop}
use Rattle.lists.proofs.Sifts.{take_tab, tab_ext, map_tab, tab_of}
use Rattle.std.specs.Prelude.{Option}
use Rattle.std.specs.declared.cmp.Ordering.{Ordering}
use Rattle.float.specs.Order.{total_cmp_of}
use Rattle.float.specs.Numbers.{plus, over, zero32, count32}
use Rattle.blade.specs.declared.Point.{Point}
use Rattle.blade.specs.Points.{origin, plus_of, minus_of, dot_of, sum_of}
use Rattle.columns.specs.Block.{cell}
use Rattle.columns.proofs.Cells.{next_col, col_fits}
use Rattle.model.specs.Mesh.{Mesh, Edge, blank_edge}
use Rattle.model.specs.Elements.{Kind, Triangles, Straps, Nothing, Element, rest_of, sum}
use Rattle.model.specs.Crack.{load_at, beyond, far_side, ahead}
use Rattle.mesh.specs.At.{edge_row, edges_at}
use Rattle.mesh.specs.Widths.{point_columns}
use Rattle.elements.specs.Table.{Cornered}
use Rattle.elements.proofs.Tables.{no_element, row_is, part_is}
use Rattle.elements.proofs.Fans.{sift_more}
use Rattle.elements.proofs.Measures.{sum_push, sum_none}
use Rattle.split_plan.specs.Opened.{rest_in, RestsIn, CornersBelow}
use Rattle.tear.specs.Ways.{offsets_by, side_by, FarSides, LoadIs, MeanIn, MeanTold, mean_of, two_by}
use Rattle.split_plan.proofs.Rings.{row_of}

-- ---- offsets added

-- a corner's offset added
abbrev pub adding : Point → List Float → Point → ℕ → Point
adding home points s x = plus_of s (minus_of (rest_in points x) home)

fold_map : (f : ℕ → Point) (b : Point) (l : List ℕ) → fold plus_of b (map f l) ≡ fold (λ (s : Point) x. plus_of s (f x)) b l
unfolding fold
fold_map f b [] = refl
fold_map f b (x ∷ l) = fold_map f (plus_of b (f x)) l

-- at the head of the loop: the rest of the row leads to the same sum
pub record Adding (home : Point) (row : List ℕ) (points : List Float) (s : Point) (i : ℕ) : Type 0 where
  pub inside : i ≤ length row
  pub rest : fold (adding home points) s (drop i row) ≡ offsets_by home row points

module _ (home : Point) (row : List ℕ) (points : List Float) where
  pub adding_start : Adding home row points origin 0
  unfolding offsets_by sum_of
  adding_start = record { inside = omega arith; rest = sym (fold_map (λ x. minus_of (rest_in points x) home) origin row) }

  module _ (s : Point) (i : ℕ) (A : Adding home row points s i) where
    pub adding_more : i < length row → (q d t : Point) → q ≡ rest_in points (get_or row i 0) → d ≡ minus_of q home → t ≡ plus_of s d → Adding home row points t (i + 1)
    adding_more h q d t eq ed et =
        let e : t ≡ adding home points s (get_or row i 0) = et ∙ ap (plus_of s) (ed ∙ ap (λ (z : Point). minus_of z home) eq) in
        record {
          inside = omega arith;
          rest = ap (λ (z : Point). fold (adding home points) z (drop (i + 1) row)) e ∙ sym (fold_drop (adding home points) s row i 0 h) ∙ A.rest;
        }

    pub adding_done : length row ≤ i → s ≡ offsets_by home row points
    unfolding fold
    adding_done h = sym (ap (fold (adding home points) s) (drop_of_length-le row h)) ∙ A.rest

-- ---- one side

pub side_far : (home dir s : Point) (row : List ℕ) (points : List Float) (d : Float) → s ≡ offsets_by home row points → d ≡ dot_of s dir → lt zero32 d ≡ true → 1 ≡ side_by home dir row points
unfolding side_by
side_far home dir s row points d es ed t =
    ap (λ (b : Bool). pick b 1 0) (sym t ∙ ap (lt zero32) (ed ∙ ap (λ (z : Point). dot_of z dir) es))

pub side_near : (home dir s : Point) (row : List ℕ) (points : List Float) (d : Float) → s ≡ offsets_by home row points → d ≡ dot_of s dir → lt zero32 d ≡ false → 0 ≡ side_by home dir row points
unfolding side_by
side_near home dir s row points d es ed t =
    ap (λ (b : Bool). pick b 1 0) (sym t ∙ ap (lt zero32) (ed ∙ ap (λ (z : Point). dot_of z dir) es))

pick_two : (b : Bool) → pick b 1 0 < 2
pick_two true = omega arith
pick_two false = omega arith

side_two : (home dir : Point) (row : List ℕ) (points : List Float) → side_by home dir row points < 2
unfolding side_by
side_two home dir row points = pick_two (lt zero32 (dot_of (offsets_by home row points) dir))

-- ---- the sides of a table

-- maps that agree on a list
map_agree : {B : Type 0} (f g : ℕ → B) (l : List ℕ) → ((j : ℕ) → j < length l → f (get_or l j 0) ≡ g (get_or l j 0)) → map f l ≡ map g l
map_agree f g [] h = refl
map_agree f g (x ∷ l) h = ap₂ ◌∷◌ (h 0 (suc-le-suc zero-le)) (map_agree f g l (λ j p. h (suc j) (suc-le-suc p)))

-- a row's side is its element's, in a mesh that rests in the block
side_is : (M : Mesh) (p : ℕ) (points : List Float) → RestsIn M p points → (v w : ℕ) → v < p → w < p → (e : Element) → ((j : ℕ) → j < length e.corners → get_or e.corners j 0 < p)
    → side_by (rest_in points v) (minus_of (rest_in points w) (rest_in points v)) e.corners points ≡ far_side M v w e
unfolding side_by offsets_by far_side beyond
side_is M p points r v w lv lw e below =
    let same : map (λ x. minus_of (rest_in points x) (rest_in points v)) e.corners ≡ map (λ x. minus_of (rest_of M x) (rest_of M v)) e.corners
    = map_agree (λ x. minus_of (rest_in points x) (rest_in points v)) (λ x. minus_of (rest_of M x) (rest_of M v)) e.corners (λ j h. ap₂ minus_of (sym (r _ (below j h))) (sym (r v lv))) in
    ap₂ (λ (l : List Point) (d : Point). pick (lt zero32 (dot_of (sum_of l) d)) 1 0) same (ap₂ minus_of (sym (r w lw)) (sym (r v lv)))

-- the corners of a row are among those of the table
pub row_under : (p n k : ℕ) (verts : List ℕ) → CornersBelow p n k verts → (i m a : ℕ) → i < n → a ≡ i * k → m ≡ k → (j : ℕ) → j < length (take m (drop a verts)) → get_or (take m (drop a verts)) j 0 < p
row_under p n k verts C i m a h ea em j l =
    let t : length (take m (drop a verts)) ≤ m = length_take_under m (drop a verts) in
    let lj : j < m = omega arith in
    let at : get_or (take m (drop a verts)) j 0 ≡ get_or verts (a + j) 0 = get_or-take m (drop a verts) j 0 lj ∙ get_or-drop a verts j 0 in
    let f : i * k + k ≤ n * k = col_fits i n k h in
    let b : get_or verts (a + j) 0 < p = C (a + j) (omega arith) in
    omega arith
  where
    length_take_under : (m : ℕ) (l : List ℕ) → length (take m l) ≤ m
    length_take_under zero l = zero-le
    length_take_under (suc m) [] = zero-le
    length_take_under (suc m) (x ∷ l) = suc-le-suc (length_take_under m l)

pub record Siding (home dir : Point) (n k : ℕ) (verts : List ℕ) (points : List Float) (ls : ℕ) (sides : List ℕ) (i a : ℕ) : Type 0 where
  pub inside : i ≤ n
  pub from : a ≡ i * k
  pub long : length sides ≡ ls
  pub are : (j : ℕ) → j < i → get_or sides j 0 ≡ side_by home dir (row_of k verts j) points

module _ (home dir : Point) (n k : ℕ) (verts : List ℕ) (points : List Float) where
  pub siding_start : (sides : List ℕ) → Siding home dir n k verts points (length sides) sides 0 0
  siding_start sides = record { inside = omega arith; from = omega arith; long = refl; are = λ j h. absurd (not-suc-le-zero h) }

  module _ (ls : ℕ) (sides : List ℕ) (i a : ℕ) (S : Siding home dir n k verts points ls sides i a) where
    -- a turn stores the side of one row more
    pub siding_more : i < n → n ≤ ls → (r : ℕ) → r ≡ side_by home dir (take (a + k - a) (drop a verts)) points → Siding home dir n k verts points ls (set sides i r) (i + 1) (a + k)
    siding_more h room r q =
        let f : a ≡ i * k = S.from in
        let long = S.long in
        let m : a + k - a ≡ k = omega arith in
        let new : r ≡ side_by home dir (row_of k verts i) points = q ∙ ap₂ (λ (x y : ℕ). side_by home dir (take x (drop y verts)) points) m f in
        record {
          inside = omega arith;
          from = omega (arith, next_col i k);
          long = length-set sides i r ∙ long;
          are = λ j l.
              ⊎_elim
              (λ y. y.1 ∙ new ∙ ap (λ (x : ℕ). side_by home dir (row_of k verts x) points) (sym y.0))
              (λ y. y.1 ∙ S.are j (let ne = y.0 in below j i l ne))
              (stored sides i r j (omega arith));
        }
      where
        below : (j i : ℕ) → j < i + 1 → (j ≡ i → ⊥) → j < i
        below j i l ne = by (ℕ_discrete j i)
          where
            by : Dec (j ≡ i) → j < i
            by (yes e) = absurd (ne e)
            by (no e) = omega arith

-- the row that is read lies in the table
pub row_reads : (n k a i lk : ℕ) → a ≡ i * k → i < n → n * k ≤ lk → a + k ≤ lk
row_reads n k a i lk e h l = let f : i * k + k ≤ n * k = col_fits i n k h in omega arith

-- after the last turn
pub siding_done : (v w n k : ℕ) (verts : List ℕ) (points : List Float) (home dir q : Point) (ls : ℕ) (sides : List ℕ) (i a : ℕ) → Siding home dir n k verts points ls sides i a → n ≤ i → n ≤ ls
    → home ≡ rest_in points v → q ≡ rest_in points w → dir ≡ minus_of q home → FarSides v w n k verts points sides
siding_done v w n k verts points home dir q ls sides i a S h room eh eq ed =
    let e : i ≡ n = omega (arith, S.inside) in
    let here : (j : ℕ) → j < n → get_or sides j 0 ≡ side_by home dir (row_of k verts j) points = λ j l. S.are j (omega arith) in
    record {
      are = λ M es p C r lv lw below. all_are M es p C r lv lw below here;
      two = λ j l. let b = side_two home dir (row_of k verts j) points in let s = here j l in omega arith;
    }
  where
    all_are : (M : Mesh) (es : List Element) (p : ℕ) → Cornered k es n verts → RestsIn M p points → v < p → w < p → CornersBelow p n k verts
        → ((j : ℕ) → j < n → get_or sides j 0 ≡ side_by home dir (row_of k verts j) points) → take n sides ≡ map (far_side M v w) es
    all_are M es p C r lv lw below here =
        let c : n ≡ length es = C.count in
        let long = S.long in
        let one : (j : ℕ) → j < n → get_or sides j 0 ≡ far_side M v w (get_or es j no_element) =
        λ j l.
        let row : row_of k verts j ≡ (get_or es j no_element).corners = row_is k es n verts j C l in
        here j l
        ∙ ap₂ (λ (x y : Point). side_by x y (row_of k verts j) points) eh (ed ∙ ap₂ minus_of eq eh)
        ∙ ap (λ (x : List ℕ). side_by (rest_in points v) (minus_of (rest_in points w) (rest_in points v)) x points) row
        ∙ side_is M p points r v w lv lw (get_or es j no_element) (rw row at (row_under p n k verts below j k (j * k) l refl refl)) in
        take_tab n sides 0 (omega arith) ∙ tab_ext n _ _ one ∙ sym (map_tab (far_side M v w) n (λ j. get_or es j no_element))
        ∙ ap (λ (m : ℕ). map (far_side M v w) (tab m (λ j. get_or es j no_element))) c
        ∙ ap (map (far_side M v w)) (tab_of es no_element)

-- ---- loads

-- what stands within a list does not depend on what is read past its end
default_free : (l : List Float) (i : ℕ) (d f : Float) → i < length l → get_or l i d ≡ get_or l i f
default_free [] i d f h = absurd (not-suc-le-zero h)
default_free (a ∷ l) zero d f h = refl
default_free (a ∷ l) (suc i) d f h = default_free l i d f (le_of_suc-le-suc h)

module _ (K : Kind) (i : ℕ) (loads lengths : List Float) where
  pub load_triangle : K ≡ Triangles → i < length loads → LoadIs K i loads lengths (get_or loads i nan)
  load_triangle q h =
      record {
        is = λ ls M t e ends L N.
            default_free loads i nan zero32 h ∙ sym (get_or-take t loads i zero32 (N.triangle q)) ∙ ap (λ (l : List Float). get_or l i zero32) (L.loads_are q)
            ∙ ap (λ (k : Kind). load_at k ls M i) (sym q);
      }

  pub load_strap : K ≡ Straps → LoadIs K i loads lengths (get_or lengths (3 * (length lengths / 4) + i) nan)
  unfolding edges_at cell
  load_strap q =
      record {
        is = λ ls M t e ends L N.
            ap (λ (x : Edge). x.stress)
            (sym (tab_at e (edge_row (length ends / 4) (length lengths / 4) ends lengths) i blank_edge (N.strap q)) ∙ ap (λ (l : List Edge). get_or l i blank_edge) (sym L.edges_are))
            ∙ ap (λ (k : Kind). load_at k ls M i) (sym q);
      }

  pub load_nothing : K ≡ Nothing → LoadIs K i loads lengths zero32
  load_nothing q = record { is = λ ls M t e ends L N. ap (λ (k : Kind). load_at k ls M i) (sym q) }

-- ---- mean loads

-- the load of an element
abbrev loaded : Kind → List Float → Mesh → Element → Float
loaded K ls M x = load_at K ls M x.number

-- at the head of the loop: the loads of the first i elements that are of side 1, added, and how many they are
pub record Weighing (K : Kind) (n : ℕ) (numbers sides : List ℕ) (loads lengths : List Float) (s : Float) (far i : ℕ) : Type 0 where
  pub inside : i ≤ n
  pub few : far ≤ i
  pub is :
      (ls : List Float) (M : Mesh) (t e : ℕ) (ends : List ℕ) (v w : ℕ) (es : List Element) → MeanIn K ls M t e ends v w es n numbers sides loads lengths
      → (s ≡ sum (map (loaded K ls M) (sift (beyond M v w) (take i es)))) × (far ≡ length (sift (beyond M v w) (take i es)))

module _ (K : Kind) (n : ℕ) (numbers sides : List ℕ) (loads lengths : List Float) where
  pub weighing_start : Weighing K n numbers sides loads lengths zero32 0 0
  unfolding sift
  weighing_start = record { inside = omega arith; few = omega arith; is = λ ls M t e ends v w es I. (sym sum_none, refl) }

  module _ (s : Float) (far i : ℕ) (W : Weighing K n numbers sides loads lengths s far i) where
    -- is element i beyond the line
    far_is : (M : Mesh) (v w : ℕ) (es : List Element) → i < n → n ≡ length es → take n sides ≡ map (far_side M v w) es → get_or sides i 0 ≡ pick (beyond M v w (get_or es i no_element)) 1 0
    unfolding far_side
    far_is M v w es h c e = part_is (far_side M v w) 0 es n sides i e c h

    pick_one : (b : Bool) (x : ℕ) → x ≡ pick b 1 0 → x ≡ 1 → b ≡ true
    pick_one true x e q = refl
    pick_one false x e q = absurd (omega arith)

    pick_none : (b : Bool) (x : ℕ) → x ≡ pick b 1 0 → (x ≡ 1 → ⊥) → b ≡ false
    pick_none true x e q = absurd (q e)
    pick_none false x e q = refl

    -- a turn at an element of side 1
    pub weighing_in : i < n → get_or sides i 0 ≡ 1 → (r x : Float) (y : ℕ) → LoadIs K (get_or numbers i 0) loads lengths r → x ≡ plus s r → y ≡ far + 1 → Weighing K n numbers sides loads lengths x y (i + 1)
    weighing_in h one r x y L ex ey =
        let few = W.few in
        record {
          inside = omega arith;
          few = omega arith;
          is = λ ls M t e ends v w es I.
              let b = pick_one (beyond M v w (get_or es i no_element)) (get_or sides i 0) (far_is M v w es h I.count I.sides_are) one in
              let l = sift (beyond M v w) (take i es) in
              let c : n ≡ length es = I.count in
              let g : sift (beyond M v w) (take (i + 1) es) ≡ l ++ (get_or es i no_element ∷ [])
              = sift_more (beyond M v w) es i no_element (omega arith) ∙ ap (λ (z : Bool). l ++ pick z (get_or es i no_element ∷ []) []) b in
              let old = W.is ls M t e ends v w es I in
              let load : r ≡ loaded K ls M (get_or es i no_element)
              = L.is ls M t e ends I.loads_in (I.numbers_in i h) ∙ ap (load_at K ls M) (part_is (λ (z : Element). z.number) 0 es n numbers i I.numbers_are c h) in (
                ex ∙ ap₂ plus old.0 load ∙ sym (sum_push (map (loaded K ls M) l) (loaded K ls M (get_or es i no_element)))
                    ∙ ap sum (sym (map-append (loaded K ls M) l (get_or es i no_element ∷ [])))
                    ∙ ap (λ (z : List Element). sum (map (loaded K ls M) z)) (sym g),
                ey ∙ ap (λ (z : ℕ). z + 1) old.1 ∙ sym (ap length g ∙ length-append l (get_or es i no_element ∷ [])),
              );
        }

    -- a turn at another
    pub weighing_out : i < n → (get_or sides i 0 ≡ 1 → ⊥) → (x : Float) (y : ℕ) → x ≡ s → y ≡ far → Weighing K n numbers sides loads lengths x y (i + 1)
    weighing_out h none x y ex ey =
        let few = W.few in
        record {
          inside = omega arith;
          few = omega arith;
          is = λ ls M t e ends v w es I.
              let b = pick_none (beyond M v w (get_or es i no_element)) (get_or sides i 0) (far_is M v w es h I.count I.sides_are) none in
              let l = sift (beyond M v w) (take i es) in
              let c : n ≡ length es = I.count in
              let g : sift (beyond M v w) (take (i + 1) es) ≡ l
              = sift_more (beyond M v w) es i no_element (omega arith) ∙ ap (λ (z : Bool). l ++ pick z (get_or es i no_element ∷ []) []) b ∙ append-nil l in
              let old = W.is ls M t e ends v w es I in
              (ex ∙ old.0 ∙ ap (λ (z : List Element). sum (map (loaded K ls M) z)) (sym g), ey ∙ old.1 ∙ ap length (sym g));
        }

    -- after the last turn
    pub weighing_done : n ≤ i → MeanTold K n numbers sides loads lengths (over s (count32 far))
    unfolding mean_of
    weighing_done h =
        record {
          is = λ ls M t e ends v w es I.
              let inside = W.inside in
              let c : n ≡ length es = I.count in
              let all : take i es ≡ es = take_all i es (omega arith) in
              let old = W.is ls M t e ends v w es I in
              ap₂ (λ (x : Float) (y : ℕ). over x (count32 y)) old.0 old.1
              ∙ ap (λ (z : List Element). over (sum (map (loaded K ls M) (sift (beyond M v w) z))) (count32 (length (sift (beyond M v w) z)))) all;
        }

-- ---- both sides, and which goes first

pub two_both : (v : ℕ) (sides : List ℕ) (points : List Float) (r : Bool) → ne (get_or points (5 * (length points / point_columns) + v) nan) zero32 ≡ true → r ≡ stands 0 sides && stands 1 sides → r ≡ two_by v sides points
unfolding two_by cell
two_both v sides points r e q = q ∙ ap (λ (b : Bool). b && (stands 0 sides && stands 1 sides)) (sym e)

pub two_pinned : (v : ℕ) (sides : List ℕ) (points : List Float) → ne (get_or points (5 * (length points / point_columns) + v) nan) zero32 ≡ false → false ≡ two_by v sides points
unfolding two_by cell
two_pinned v sides points e = ap (λ (b : Bool). b && (stands 0 sides && stands 1 sides)) (sym e)

pub first_told : (o k : Option Ordering) (b r : Bool) (p q : Float) → o ≡ total_cmp_of p q → o ≡ k → r ≡ ahead k b → r ≡ ahead (total_cmp_of p q) b
first_told o k b r p q e s t = t ∙ ap (λ (z : Option Ordering). ahead z b) (sym s ∙ e)
