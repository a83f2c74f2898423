-- Laws of the sides of a fan by the blade: the middle of a row, the kept side, and a side for each row. Assumes nothing.
use mathlib.Core.Path.{◌≡◌, refl, sym, ◌∙◌, ap, ap₂, subst}
use mathlib.Core.Bool.{Bool, true, false, false≢true, beq}
use mathlib.Core.Logic.{◌⊎◌, inl, inr, ⊎_elim}
use mathlib.Core.List.{List, [], ◌∷◌, ◌++◌, map}
use Prim.Native.Nat.{ℕ, zero, suc, ◌+◌, ◌*◌, ◌/◌, ◌<◌, ◌≤◌, zero-le, suc-le-suc}
use native.Mathlib.Omega.{arith}
use lib.ListN.{length, get_or, take, drop, set, length-drop}
use lib.Seq.{length-take-le, get_or-take}
use lib.Ieee.{Float, lt, ne}
use Rattle.lists.specs.Lists.{pick, tab, head_or}
use Rattle.lists.proofs.Stores.{tab_at}
use Rattle.lists.proofs.Sifts.{tab_ext, tab_of, map_tab}
use Rattle.lists.proofs.Steps.{tab_step}
use Rattle.float.specs.Numbers.{zero32}
use Rattle.blade.specs.declared.Point.{Point}
use Rattle.blade.specs.Points.{centroid_of}
use Rattle.columns.proofs.Cells.{col_fits}
use Rattle.columns.proofs.Sweep.{front_grows}
use Rattle.model.specs.Mesh.{Mesh}
use Rattle.model.specs.Elements.{Kind, Triangles, Straps, Nothing, Element, corners_per_of, place_of, fan_of}
use Rattle.model.specs.Cut.{Blade, offset, left_of, kept_side, blade_sides}
use Rattle.elements.specs.Table.{Cornered}
use Rattle.elements.proofs.Tables.{no_element, row_is}
use Rattle.split_plan.specs.Opened.{place_in, CornersBelow}
use Rattle.split_plan.proofs.Towards.{row_below}
use Rattle.marks.specs.Marking.{PlacesIn, blade_by, blade_from}
use Rattle.marks.specs.declared.Rule.{Rule}
use Rattle.marks.specs.declared.Rule.TheVariants.{Rounded, Signs}
use Rattle.marks.specs.Sided.{RowIn, left_in, row_of, lefts_in, kept_in, side_by, SidesBy}
use Rattle.mesh.specs.Widths.{point_columns}

-- ---- one row

row_three : (row : List ℕ) → length row ≡ 3 → row ≡ get_or row 0 0 ∷ get_or row 1 0 ∷ get_or row 2 0 ∷ []
row_three [] e = absurd (omega arith)
row_three (x ∷ []) e = absurd (omega arith)
row_three (x ∷ y ∷ []) e = absurd (omega arith)
row_three (x ∷ y ∷ z ∷ []) e = refl
row_three (x ∷ y ∷ z ∷ w ∷ l) e = absurd (omega arith)

row_two : (row : List ℕ) → length row ≡ 2 → row ≡ get_or row 0 0 ∷ get_or row 1 0 ∷ []
row_two [] e = absurd (omega arith)
row_two (x ∷ []) e = absurd (omega arith)
row_two (x ∷ y ∷ []) e = refl
row_two (x ∷ y ∷ z ∷ l) e = absurd (omega arith)

-- two corners at least
pub row_long : (row : List ℕ) (lp : ℕ) → RowIn row lp → 2 ≤ length row
row_long row lp R = ⊎_elim (λ e. omega arith) (λ e. omega arith) R.size

-- not three is two
pub row_else : (row : List ℕ) (lp : ℕ) → RowIn row lp → (length row ≡ 3 → ⊥) → length row ≡ 2
row_else row lp R n = ⊎_elim (λ e. absurd (n e)) (λ e. e) R.size

module _ (B : Blade) (points : List Float) (row : List ℕ) where
  pub left_three : (x y z g : Point) (o : Float) → length row ≡ 3 → x ≡ place_in points (get_or row 0 0) → y ≡ place_in points (get_or row 1 0) → z ≡ place_in points (get_or row 2 0)
      → g ≡ centroid_of (x ∷ y ∷ z ∷ []) → o ≡ offset B g → lt zero32 o ≡ left_in B points row
  unfolding left_in
  left_three x y z g o l ex ey ez eg eo =
      let c : (x ∷ y ∷ z ∷ []) ≡ map (place_in points) row = (λ i. ex i ∷ ey i ∷ ez i ∷ []) ∙ ap (map (place_in points)) (sym (row_three row l)) in
      ap (lt zero32) (eo ∙ ap (offset B) (eg ∙ ap centroid_of c))

  pub left_two : (x y g : Point) (o : Float) → length row ≡ 2 → x ≡ place_in points (get_or row 0 0) → y ≡ place_in points (get_or row 1 0)
      → g ≡ centroid_of (x ∷ y ∷ []) → o ≡ offset B g → lt zero32 o ≡ left_in B points row
  unfolding left_in
  left_two x y g o l ex ey eg eo =
      let c : (x ∷ y ∷ []) ≡ map (place_in points) row = (λ i. ex i ∷ ey i ∷ []) ∙ ap (map (place_in points)) (sym (row_two row l)) in
      ap (lt zero32) (eo ∙ ap (offset B) (eg ∙ ap centroid_of c))

-- ---- rows of a table

-- an element has three corners or two
pub per_size : (K : Kind) (k : ℕ) → k ≡ corners_per_of K → (k ≡ 3) ⊎ (k ≡ 2)
per_size Triangles k e = inl e
per_size Straps k e = inr e
per_size Nothing k e = inr e

module _ (k n : ℕ) (verts : List ℕ) (lp : ℕ) (size : (k ≡ 3) ⊎ (k ≡ 2)) (long : n * k ≤ length verts) (below : CornersBelow (lp / point_columns) n k verts) where
  -- row i, from `at` on, lies in the block of points
  pub row_in : (i at m : ℕ) → i < n → at ≡ i * k → m ≡ k → RowIn (take m (drop at verts)) lp
  row_in i at m h e q =
      let f : i * k + k ≤ n * k = col_fits i n k h in
      let l : length (take m (drop at verts)) ≡ k = length-take-le m (drop at verts) (omega (arith, length-drop at verts)) ∙ q in
      record {
        size = ⊎_elim (λ s. inl (l ∙ s)) (λ s. inr (l ∙ s)) size;
        corners_in = subst (λ (a : ℕ). (j : ℕ) → j < length (take m (drop a verts)) → get_or (take m (drop a verts)) j 0 < lp / point_columns) (sym e) (row_below verts below i m h q);
      }

-- ---- the kept side

module _ (B : Blade) (points : List Float) (v k n : ℕ) (verts : List ℕ) (q : Point) (own : Float) (q_is : q ≡ place_in points v) (own_is : own ≡ offset B q) where
  own_at : own ≡ offset B (place_in points v)
  own_at = own_is ∙ ap (offset B) q_is

  pub kept_own : ne own zero32 ≡ true → lt zero32 own ≡ kept_in B points v k n verts
  unfolding kept_in
  kept_own t =
      sym (ap (λ (o : Float). pick (ne o zero32) (lt zero32 o) (head_or false (lefts_in B points k n verts))) (sym own_at)
      ∙ ap (λ (s : Bool). pick s (lt zero32 own) (head_or false (lefts_in B points k n verts))) t)

  kept_else : ne own zero32 ≡ false → head_or false (lefts_in B points k n verts) ≡ kept_in B points v k n verts
  unfolding kept_in
  kept_else t =
      sym (ap (λ (o : Float). pick (ne o zero32) (lt zero32 o) (head_or false (lefts_in B points k n verts))) (sym own_at)
      ∙ ap (λ (s : Bool). pick s (lt zero32 own) (head_or false (lefts_in B points k n verts))) t)

  pub kept_none : ne own zero32 ≡ false → n ≡ 0 → false ≡ kept_in B points v k n verts
  unfolding lefts_in tab
  kept_none t z = sym (ap (λ (m : ℕ). head_or false (lefts_in B points k m verts)) z) ∙ kept_else t

  pub kept_first : ne own zero32 ≡ false → (n ≡ 0 → ⊥) → (m : ℕ) → m ≡ k → (r : Bool) → r ≡ left_in B points (take m verts) → r ≡ kept_in B points v k n verts
  unfolding lefts_in tab
  kept_first t z m e r f = f ∙ head n z ∙ kept_else t
    where
      head : (i : ℕ) → (i ≡ 0 → ⊥) → left_in B points (take m verts) ≡ head_or false (lefts_in B points k i verts)
      head zero g = absurd (g refl)
      head (suc i) g = let s : 0 ≡ 0 * k = omega arith in ap₂ (λ (a b : ℕ). left_in B points (take a (drop b verts))) e s

-- ---- a side for each row

-- the side of row i
abbrev pub side_at : Blade → List Float → ℕ → List ℕ → Bool → ℕ → ℕ
side_at B points k verts kept i = side_by kept (left_in B points (row_of k verts i))

pub sides_none : (f : ℕ → ℕ) (sides : List ℕ) → take 0 sides ≡ tab 0 f
unfolding tab
sides_none f sides = refl

pub sides_more : (B : Blade) (points : List Float) (k : ℕ) (verts : List ℕ) (kept : Bool) (sides : List ℕ) (i at m : ℕ) (left : Bool) (s : ℕ)
    → take i sides ≡ tab i (side_at B points k verts kept) → i < length sides → at ≡ i * k → m ≡ k → left ≡ left_in B points (take m (drop at verts)) → s ≡ side_by kept left
    → take (i + 1) (set sides i s) ≡ tab (i + 1) (side_at B points k verts kept)
sides_more B points k verts kept sides i at m left s e h a q l t =
    front_grows sides (tab i (side_at B points k verts kept)) i s e h
    ∙ ap (λ (x : ℕ). tab i (side_at B points k verts kept) ++ (x ∷ [])) (t ∙ ap (side_by kept) (l ∙ ap₂ (λ (x y : ℕ). left_in B points (take x (drop y verts))) q a))
    ∙ sym (tab_step (side_at B points k verts kept) i)

-- ---- as the definitions have it

map_agree : {A : Type 0} (f g : ℕ → A) (l : List ℕ) → ((j : ℕ) → j < length l → f (get_or l j 0) ≡ g (get_or l j 0)) → map f l ≡ map g l
map_agree f g [] h = refl
map_agree f g (a ∷ l) h = ap₂ ◌∷◌ (h 0 (suc-le-suc zero-le)) (map_agree f g l (λ j p. h (suc j) (suc-le-suc p)))

module _ (B : Blade) (points : List Float) (M : Mesh) (p k n : ℕ) (verts : List ℕ) (es : List Element) (C : Cornered k es n verts) (at : PlacesIn M p points) (below : CornersBelow p n k verts) where
  left_row : (i : ℕ) → i < n → left_of B M (get_or es i no_element) ≡ left_in B points (row_of k verts i)
  unfolding left_of left_in
  left_row i h =
      ap (λ (l : List ℕ). lt zero32 (offset B (centroid_of (map (place_of M) l)))) (sym (row_is k es n verts i C h))
      ∙ ap (λ (l : List Point). lt zero32 (offset B (centroid_of l))) (map_agree (place_of M) (place_in points) (row_of k verts i) (λ j g. at (get_or (row_of k verts i) j 0) (row_below verts below i k h refl j g)))

  lefts_are : map (left_of B M) es ≡ lefts_in B points k n verts
  unfolding lefts_in
  lefts_are =
      ap (map (left_of B M)) (sym (tab_of es no_element)) ∙ map_tab (left_of B M) (length es) (λ i. get_or es i no_element)
      ∙ ap (λ (m : ℕ). tab m (λ i. left_of B M (get_or es i no_element))) (sym C.count)
      ∙ tab_ext n _ _ left_row

  kept_is : (v : ℕ) → v < p → kept_side B M v (map (left_of B M) es) ≡ kept_in B points v k n verts
  unfolding kept_side kept_in
  kept_is v h = ap₂ (λ (q : Point) (l : List Bool). pick (ne (offset B q) zero32) (lt zero32 (offset B q)) (head_or false l)) (at v h) lefts_are

  sides_are : (v : ℕ) (kept : Bool) (sides : List ℕ) → v < p → kept ≡ kept_in B points v k n verts → take n sides ≡ tab n (side_at B points k verts kept)
      → take n sides ≡ map (λ r. pick (beq r (kept_side B M v (map (left_of B M) es))) 0 1) (map (left_of B M) es)
  unfolding lefts_in
  sides_are v kept sides h e t =
      t ∙ sym (map_tab (side_by kept) n (λ i. left_in B points (row_of k verts i)))
      ∙ ap₂ (λ (s : Bool) (l : List Bool). map (side_by s) l) (e ∙ sym (kept_is v h)) (sym lefts_are)

side_two : (b : Bool) → pick b 0 1 < 2
side_two true = omega arith
side_two false = omega arith

pub sides_done : (K : Kind) (b0 b1 : Point) (points : List Float) (v k n i : ℕ) (verts : List ℕ) (kept : Bool) (sides : List ℕ) → k ≡ corners_per_of K → i ≡ n → n ≤ length sides
    → kept ≡ kept_in (blade_from b0 b1) points v k n verts → take i sides ≡ tab i (side_at (blade_from b0 b1) points k verts kept) → SidesBy K (blade_from b0 b1) v n verts points sides
unfolding blade_sides
sides_done K b0 b1 points v k n i verts kept sides ek ei long e t =
    let B = blade_from b0 b1 in
    let t' : take n sides ≡ tab n (side_at B points k verts kept) = subst (λ (m : ℕ). take m sides ≡ tab m (side_at B points k verts kept)) ei t in
    record {
      are = λ M p C at h below.
          sides_are B points M p k n verts (fan_of K M v) (subst (λ (m : ℕ). Cornered m (fan_of K M v) n verts) (sym ek) C) at (subst (λ (m : ℕ). CornersBelow p n m verts) (sym ek) below) v kept sides h e t';
      two = λ j h.
          subst (λ (x : ℕ). x < 2)
          (sym (sym (get_or-take n sides j 0 h) ∙ ap (λ (l : List ℕ). get_or l j 0) t' ∙ tab_at n (side_at B points k verts kept) j 0 h))
          (side_two (beq (left_in B points (row_of k verts j)) kept));
    }

-- not a triangle
abbrev pub other? : Kind → Bool
other? Triangles = false
other? Straps = true
other? Nothing = true

-- signs decide for triangles alone: others have the sides of the rounded blade, which looks at the line only
other_sides : (K : Kind) (b0 b1 : Point) (M : Mesh) (v : ℕ) → other? K ≡ true → blade_sides K (blade_from b0 b1) M v ≡ blade_sides K (blade_by Signs b0 b1) M v
unfolding blade_sides left_of kept_side
other_sides Triangles b0 b1 M v o = absurd (false≢true o)
other_sides Straps b0 b1 M v o = refl
other_sides Nothing b0 b1 M v o = refl

-- the sides by the rule that the blade has
module _ (K : Kind) (r : Rule) (b0 b1 : Point) (v n : ℕ) (verts : List ℕ) (points : List Float) (sides : List ℕ) where
  by_rule : (q : Rule) → r ≡ q → SidesBy K (blade_by q b0 b1) v n verts points sides → SidesBy K (blade_by r b0 b1) v n verts points sides
  by_rule q e S = subst (λ (x : Rule). SidesBy K (blade_by x b0 b1) v n verts points sides) (sym e) S

  pub by_rounded : r ≡ Rounded → SidesBy K (blade_from b0 b1) v n verts points sides → SidesBy K (blade_by r b0 b1) v n verts points sides
  by_rounded e S = by_rule Rounded e S

  pub by_signs : r ≡ Signs → K ≡ Triangles → SidesBy Triangles (blade_by Signs b0 b1) v n verts points sides → SidesBy K (blade_by r b0 b1) v n verts points sides
  by_signs e k S = by_rule Signs e (subst (λ (x : Kind). SidesBy x (blade_by Signs b0 b1) v n verts points sides) (sym k) S)

  pub by_others : r ≡ Signs → other? K ≡ true → SidesBy K (blade_from b0 b1) v n verts points sides → SidesBy K (blade_by r b0 b1) v n verts points sides
  by_others e o S = by_rule Signs e (record { are = λ M p C at h below. S.are M p C at h below ∙ other_sides K b0 b1 M v o; two = S.two })

-- row i, from `at` on, lies in the table
pub row_fits : (k per n lv i at : ℕ) → k ≡ per → n * per ≤ lv → i < n → at ≡ i * k → at + k ≤ lv
row_fits k per n lv i at e long h a =
    let l : n * k ≤ lv = subst (λ (m : ℕ). n * m ≤ lv) (sym e) long in
    omega (arith, col_fits i n k h)

-- the corners lie below p, whichever name their number has
pub below_at : (p n k per : ℕ) (verts : List ℕ) → k ≡ per → CornersBelow p n per verts → CornersBelow p n k verts
below_at p n k per verts e below = subst (λ (m : ℕ). CornersBelow p n m verts) (sym e) below

pub long_at : (n k per lv : ℕ) → k ≡ per → n * per ≤ lv → n * k ≤ lv
long_at n k per lv e long = subst (λ (m : ℕ). n * m ≤ lv) (sym e) long
