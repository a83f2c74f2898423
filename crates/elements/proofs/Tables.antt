-- Elements in tables: what a row more does, and where the rows stand. Assumes nothing.
use mathlib.Core.Path.{◌≡◌, refl, sym, ◌∙◌, ap}
use mathlib.Core.List.{List, [], ◌∷◌, ◌++◌, map, map-append, append-nil}
use Prim.Native.Nat.{ℕ, zero, suc, ◌+◌, ◌*◌, ◌<◌, ◌≤◌, zero-le, suc-le-suc}
use native.Mathlib.Nat.{not-suc-le-zero, le_of_suc-le-suc, suc-mul}
use native.Mathlib.Omega.{arith}
use lib.ListN.{length, get_or, take, drop, set, length-append}
use lib.Seq.{take_at, drop-append-add, take-take, get_or-take}
use lib.Ieee.{Float, nan}
use Rattle.lists.specs.Lists.{each}
use Rattle.lists.proofs.Stores.{map_at}
use Rattle.lists.proofs.Sifts.{each_append}
use Rattle.columns.proofs.Cells.{next_col, col_fits}
use Rattle.columns.proofs.Sweep.{front_grows}
use Rattle.model.specs.Elements.{Element}
use Rattle.elements.specs.Table.{Cornered, Tabled}

-- each element of a list has k corners
abbrev pub Whole : ℕ → List Element → Type 0
Whole k es = (i : ℕ) → i < length es → length (get_or (map (λ (e : Element). e.corners) es) i []) ≡ k

-- what stands past the end of a list of elements
abbrev pub no_element : Element
no_element = record { number = 0; corners = []; measure = nan }

-- ---- rows in a list

-- a part within the front of a list is that part of the list
pub part_of_front : {A : Type 0} (m k n : ℕ) (l : List A) → m + k ≤ n → take k (drop m (take n l)) ≡ take k (drop m l)
part_of_front zero k n l h = take-take k n l (omega arith)
part_of_front (suc m) k zero l h = absurd (omega arith)
part_of_front (suc m) k (suc n) [] h = refl
part_of_front (suc m) k (suc n) (a ∷ l) h = part_of_front m k n l (omega arith)

-- row i of the corners, k to each, has the corners of element i
pub row_of_each : (k : ℕ) (es : List Element) (i : ℕ) → Whole k es → i < length es
    → take k (drop (i * k) (each (λ (e : Element). e.corners) es)) ≡ (get_or es i no_element).corners
unfolding each
row_of_each k [] i w h = absurd (not-suc-le-zero h)
row_of_each k (x ∷ es) zero w h =
    let z : 0 * k ≡ 0 = omega arith in
    rw z (take_at x.corners (each (λ (e : Element). e.corners) es) k (w 0 h))
row_of_each k (x ∷ es) (suc i) w h =
    let l : length x.corners ≡ k = w 0 (suc-le-suc zero-le) in
    let e : suc i * k ≡ length x.corners + i * k = let s : suc i * k ≡ i * k + k = suc-mul i k in omega arith in
    rw (e, drop-append-add) (row_of_each k es i (λ j g. w (suc j) (suc-le-suc g)) (le_of_suc-le-suc h))

-- the same of a table
pub row_is : (k : ℕ) (es : List Element) (n : ℕ) (verts : List ℕ) (i : ℕ) → Cornered k es n verts → i < n → take k (drop (i * k) verts) ≡ (get_or es i no_element).corners
row_is k es n verts i C h =
    sym (part_of_front (i * k) k (n * k) verts (col_fits i n k h)) ∙ ap (λ (l : List ℕ). take k (drop (i * k) l)) C.corners_are
    ∙ row_of_each k es i C.whole (omega (arith, C.count))

-- what stands at place i of a table of one part of the elements
pub part_is : {B : Type 0} (f : Element → B) (d : B) (es : List Element) (n : ℕ) (l : List B) (i : ℕ) → take n l ≡ map f es → n ≡ length es → i < n
    → get_or l i d ≡ f (get_or es i no_element)
part_is {B} f d es n l i e c h = sym (get_or-take n l i d h) ∙ ap (λ (t : List B). get_or t i d) e ∙ map_at f es i no_element d (omega arith)

-- ---- one more element

-- it has k corners as well
pub whole_push : (k : ℕ) (es : List Element) (e : Element) → Whole k es → length e.corners ≡ k → Whole k (es ++ (e ∷ []))
whole_push k [] e w l zero h = l
whole_push k [] e w l (suc i) h = absurd (not-suc-le-zero (le_of_suc-le-suc h))
whole_push k (x ∷ es) e w l zero h = w 0 (suc-le-suc zero-le)
whole_push k (x ∷ es) e w l (suc i) h = whole_push k es e (λ j g. w (suc j) (suc-le-suc g)) l i (le_of_suc-le-suc h)

-- a table of nothing
pub tabled_none : (k : ℕ) (N K : List ℕ) (M : List Float) → Tabled k [] 0 N K M
unfolding each
tabled_none k N K M =
    let z : 0 * k ≡ 0 = omega arith in
    record {
      cornered = record { count = refl; corners_are = rw z refl; whole = λ i h. absurd (not-suc-le-zero h) };
      numbers_are = refl;
      measures_are = refl;
    }

module _ (k : ℕ) (es : List Element) (n : ℕ) (N K W : List ℕ) (M : List Float) (e : Element) where
  -- its corners stand behind the others, its number and its measure are stored
  pub tabled_push : Tabled k es n N K M → length e.corners ≡ k → n < length N → n < length M → take (n * k + k) W ≡ take (n * k) K ++ e.corners
      → Tabled k (es ++ (e ∷ [])) (n + 1) (set N n e.number) W (set M n e.measure)
  unfolding each
  tabled_push T l hn hm c =
      record {
        cornered = record {
          count = omega (arith, T.cornered.count, length-append es (e ∷ []));
          corners_are =
              rw (next_col n k, c, T.cornered.corners_are)
              (sym (each_append (λ (x : Element). x.corners) es (e ∷ []) ∙ ap (λ (t : List ℕ). each (λ (x : Element). x.corners) es ++ t) (append-nil e.corners)));
          whole = whole_push k es e T.cornered.whole l;
        };
        numbers_are = front_grows N (map (λ (x : Element). x.number) es) n e.number T.numbers_are hn ∙ sym (map-append (λ (x : Element). x.number) es (e ∷ []));
        measures_are = front_grows M (map (λ (x : Element). x.measure) es) n e.measure T.measures_are hm ∙ sym (map-append (λ (x : Element). x.measure) es (e ∷ []));
      }
