-- Laws of the sides of a fan by signs: the sign of a row, the kept side, and a side for each row. Assumes nothing.
use mathlib.Core.Path.{◌≡◌, refl, sym, ◌∙◌, ap, ap₂, subst}
use mathlib.Core.Bool.{Bool, true, false, false≢true}
use mathlib.Core.List.{List, [], ◌∷◌, ◌++◌, map}
use Prim.Native.Nat.{ℕ, zero, suc, ◌+◌, ◌*◌, ◌/◌, ◌<◌, ◌≤◌, zero-le, suc-le-suc}
use native.Mathlib.Omega.{arith}
use native.Mathlib.Nat.{not-suc-le-zero, le_of_suc-le-suc}
use native.Mathlib.Decide.{ℕ_discrete}
use lib.ListN.{length, get_or, take, drop, set, length-drop}
use lib.Seq.{length-take-le, get_or-take}
use lib.Ieee.{Float}
use Rattle.lists.specs.Lists.{pick, tab}
use Rattle.lists.proofs.Stores.{tab_at, map_at}
use Rattle.lists.proofs.Sifts.{tab_ext, tab_of, map_tab}
use Rattle.lists.proofs.Steps.{tab_step}
use Rattle.blade.specs.declared.Point.{Point}
use Rattle.exact.specs.declared.Sign.{Sign}
use Rattle.exact.specs.declared.Sign.TheVariants.{Left, On, Right}
use Rattle.exact.specs.Exact.{kept_by_of, opposite}
use Rattle.exact.specs.Signs.{sign_in, sign_of_sum_of}
use Rattle.columns.proofs.Sweep.{front_grows}
use Rattle.model.specs.Mesh.{Mesh}
use Rattle.model.specs.Elements.{Triangles, Element, place_of, fan_of}
use Rattle.model.specs.Cut.{Blade, offset, rounded_sign, rounded_middle, sides_of_signs, blade_sides}
use Rattle.elements.specs.Table.{Cornered}
use Rattle.elements.proofs.Tables.{no_element, row_is}
use Rattle.split_plan.specs.Opened.{place_in, CornersBelow}
use Rattle.split_plan.proofs.Towards.{row_below}
use Rattle.mesh.specs.Widths.{point_columns}
use Rattle.marks.specs.Marking.{PlacesIn, blade_by}
use Rattle.marks.specs.declared.Rule.TheVariants.{Signs}
use Rattle.marks.specs.Sided.{row_of, SidesBy}
use Rattle.marks.specs.Signed.{TriangleIn, on?, sign_at, signs_in, kept_sign_in, side_of_sign_of}

-- ---- one row

-- the offsets of a row's corners, as a program reads them, give its sign
pub sign_row : (B : Blade) (points : List Float) (row : List ℕ) (p q r : Point) (x y z : Float) (s : Sign)
    → p ≡ place_in points (get_or row 0 0) → q ≡ place_in points (get_or row 1 0) → r ≡ place_in points (get_or row 2 0)
    → x ≡ offset B p → y ≡ offset B q → z ≡ offset B r → s ≡ sign_of_sum_of x y z → s ≡ sign_at B points row
unfolding sign_at
sign_row B points row p q r x y z s ep eq er ex ey ez es =
    es ∙ (λ i. sign_of_sum_of (ex i) (ey i) (ez i)) ∙ (λ i. sign_of_sum_of (offset B (ep i)) (offset B (eq i)) (offset B (er i)))

-- row i, from `at` on, has three corners in the block of points
pub triangle_in : (n : ℕ) (verts : List ℕ) (lp : ℕ) → n * 3 ≤ length verts → CornersBelow (lp / point_columns) n 3 verts → (i at m : ℕ) → i < n → at ≡ i * 3 → m ≡ 3
    → TriangleIn (take m (drop at verts)) lp
triangle_in n verts lp long below i at m h e q =
    let l : length (take m (drop at verts)) ≡ 3 = length-take-le m (drop at verts) (omega (arith, length-drop at verts)) ∙ q in
    record {
      size = l;
      corners_in = λ j g.
          subst (λ (a : ℕ). (k : ℕ) → k < length (take m (drop a verts)) → get_or (take m (drop a verts)) k 0 < lp / point_columns) (sym e) (row_below verts below i m h q) j (omega arith);
    }

-- ---- the kept side

-- on the line is On
pub on_is : (s : Sign) → on? s ≡ true → s ≡ On
on_is Left e = absurd (false≢true e)
on_is On e = refl
on_is Right e = absurd (false≢true e)

-- what is off the line is kept
kept_off : (s : Sign) (ms : List Sign) → on? s ≡ false → kept_by_of s ms ≡ s
unfolding kept_by_of
kept_off s [] e = refl
kept_off Left (m ∷ ms) e = refl
kept_off On (m ∷ ms) e = absurd (false≢true (sym e))
kept_off Right (m ∷ ms) e = refl

-- the first off the line sets the kept side; if none is off it, that is on the line
kept_at : (n i : ℕ) (f : ℕ → Sign) → i < n → ((j : ℕ) → j < i → f j ≡ On) → on? (f i) ≡ false → kept_by_of On (tab n f) ≡ f i
unfolding kept_by_of tab
kept_at zero i f h on off = absurd (not-suc-le-zero h)
kept_at (suc n) zero f h on off = kept_off (f 0) (tab n (λ k. f (suc k))) off
kept_at (suc n) (suc i) f h on off =
    ap (λ (s : Sign). kept_by_of s (tab n (λ k. f (suc k)))) (on 0 (suc-le-suc zero-le))
    ∙ kept_at n i (λ k. f (suc k)) (le_of_suc-le-suc h) (λ j l. on (suc j) (suc-le-suc l)) off

kept_all : (n : ℕ) (f : ℕ → Sign) → ((j : ℕ) → j < n → f j ≡ On) → kept_by_of On (tab n f) ≡ On
unfolding kept_by_of tab
kept_all zero f on = refl
kept_all (suc n) f on =
    ap (λ (s : Sign). kept_by_of s (tab n (λ k. f (suc k)))) (on 0 (suc-le-suc zero-le))
    ∙ kept_all n (λ k. f (suc k)) (λ j l. on (suc j) (suc-le-suc l))

-- the rows before i are on the line
abbrev pub AllOn : Blade → List Float → List ℕ → ℕ → Type 0
AllOn B points verts i = (j : ℕ) → j < i → sign_at B points (row_of 3 verts j) ≡ On

pub on_none : (B : Blade) (points : List Float) (verts : List ℕ) → AllOn B points verts 0
on_none B points verts j h = absurd (not-suc-le-zero h)

-- the sign of row i, as a program reads it
sign_here : (B : Blade) (points : List Float) (verts : List ℕ) (i at m : ℕ) (s : Sign) → at ≡ i * 3 → m ≡ 3 → s ≡ sign_at B points (take m (drop at verts)) → s ≡ sign_at B points (row_of 3 verts i)
sign_here B points verts i at m s a q e = e ∙ ap₂ (λ (x y : ℕ). sign_at B points (take x (drop y verts))) q a

pub on_more : (B : Blade) (points : List Float) (verts : List ℕ) (i at m : ℕ) (s : Sign) → AllOn B points verts i → at ≡ i * 3 → m ≡ 3 → s ≡ sign_at B points (take m (drop at verts)) → on? s ≡ true
    → AllOn B points verts (i + 1)
on_more B points verts i at m s all a q e t j h =
    elim (ℕ_discrete j i) [
      | yes g ↦ ap (λ (k : ℕ). sign_at B points (row_of 3 verts k)) g ∙ sym (sign_here B points verts i at m s a q e) ∙ on_is s t
      | no g ↦ all j (omega arith)
    ]

module _ (B : Blade) (points : List Float) (v n : ℕ) (verts : List ℕ) (q : Point) (o : Float) (own : Sign) (q_is : q ≡ place_in points v) (o_is : o ≡ offset B q) (own_is : own ≡ sign_in o) where
  own_at : own ≡ sign_in (offset B (place_in points v))
  own_at = own_is ∙ ap sign_in (o_is ∙ ap (offset B) q_is)

  -- v's own, off the line
  pub sign_own : on? own ≡ false → own ≡ kept_sign_in B points v n verts
  unfolding kept_sign_in
  sign_own t = sym (kept_off own (signs_in B points n verts) t) ∙ ap (λ (s : Sign). kept_by_of s (signs_in B points n verts)) own_at

  sign_else : on? own ≡ true → kept_by_of On (signs_in B points n verts) ≡ kept_sign_in B points v n verts
  unfolding kept_sign_in
  sign_else t = ap (λ (s : Sign). kept_by_of s (signs_in B points n verts)) (sym (on_is own t) ∙ own_at)

  -- that of the first row off the line
  pub sign_first : on? own ≡ true → (i at m : ℕ) (s : Sign) → i < n → AllOn B points verts i → at ≡ i * 3 → m ≡ 3 → s ≡ sign_at B points (take m (drop at verts)) → on? s ≡ false
      → s ≡ kept_sign_in B points v n verts
  unfolding signs_in
  sign_first t i at m s h all a w e off =
      let here : s ≡ sign_at B points (row_of 3 verts i) = sign_here B points verts i at m s a w e in
      here ∙ sym (kept_at n i (λ j. sign_at B points (row_of 3 verts j)) h all (ap on? (sym here) ∙ off)) ∙ sign_else t

  -- none is off it
  pub sign_none : on? own ≡ true → (i : ℕ) → i ≡ n → AllOn B points verts i → On ≡ kept_sign_in B points v n verts
  unfolding signs_in
  sign_none t i e all = sym (kept_all n (λ j. sign_at B points (row_of 3 verts j)) (subst (AllOn B points verts) e all)) ∙ sign_else t

-- ---- a side for each row

-- the side of row i
abbrev pub sign_side_at : Blade → List Float → List ℕ → Sign → ℕ → ℕ
sign_side_at B points verts kept i = side_of_sign_of kept (sign_at B points (row_of 3 verts i))

pub signs_more : (B : Blade) (points : List Float) (verts : List ℕ) (kept : Sign) (sides : List ℕ) (i at m : ℕ) (s : Sign) (x : ℕ)
    → take i sides ≡ tab i (sign_side_at B points verts kept) → i < length sides → at ≡ i * 3 → m ≡ 3 → s ≡ sign_at B points (take m (drop at verts)) → x ≡ side_of_sign_of kept s
    → take (i + 1) (set sides i x) ≡ tab (i + 1) (sign_side_at B points verts kept)
signs_more B points verts kept sides i at m s x e h a q l t =
    front_grows sides (tab i (sign_side_at B points verts kept)) i x e h
    ∙ ap (λ (y : ℕ). tab i (sign_side_at B points verts kept) ++ (y ∷ [])) (t ∙ ap (side_of_sign_of kept) (sign_here B points verts i at m s a q l))
    ∙ sym (tab_step (sign_side_at B points verts kept) i)

-- ---- as the definitions have it

module _ (B : Blade) (points : List Float) (M : Mesh) (p n : ℕ) (verts : List ℕ) (es : List Element) (C : Cornered 3 es n verts) (at : PlacesIn M p points) (below : CornersBelow p n 3 verts) where
  -- a row has three corners
  row_three : (i : ℕ) → i < n → length (row_of 3 verts i) ≡ 3
  row_three i h =
      let l : i < length es = omega (arith, C.count) in
      ap length (row_is 3 es n verts i C h ∙ sym (map_at (λ (e : Element). e.corners) es i no_element [] l)) ∙ C.whole i l

  middle_row : (i : ℕ) → i < n → rounded_middle B M (get_or es i no_element) ≡ sign_at B points (row_of 3 verts i)
  unfolding sign_at
  middle_row i h =
      let place : (j : ℕ) → j < 3 → place_of M (get_or (row_of 3 verts i) j 0) ≡ place_in points (get_or (row_of 3 verts i) j 0)
      = λ j g. at (get_or (row_of 3 verts i) j 0) (row_below verts below i 3 h refl j (omega (arith, row_three i h))) in
      let x = place 0 (omega arith) in
      let y = place 1 (omega arith) in
      let z = place 2 (omega arith) in
      ap (λ (l : List ℕ). sign_of_sum_of (offset B (place_of M (get_or l 0 0))) (offset B (place_of M (get_or l 1 0))) (offset B (place_of M (get_or l 2 0)))) (sym (row_is 3 es n verts i C h))
      ∙ (λ k. sign_of_sum_of (offset B (x k)) (offset B (y k)) (offset B (z k)))

  middles_are : map (rounded_middle B M) es ≡ signs_in B points n verts
  unfolding signs_in
  middles_are =
      ap (map (rounded_middle B M)) (sym (tab_of es no_element)) ∙ map_tab (rounded_middle B M) (length es) (λ i. get_or es i no_element)
      ∙ ap (λ (m : ℕ). tab m (λ i. rounded_middle B M (get_or es i no_element))) (sym C.count)
      ∙ tab_ext n _ _ middle_row

  kept_is : (v : ℕ) → v < p → kept_by_of (rounded_sign B M v) (map (rounded_middle B M) es) ≡ kept_sign_in B points v n verts
  unfolding kept_sign_in
  kept_is v h = ap₂ (λ (q : Point) (l : List Sign). kept_by_of (sign_in (offset B q)) l) (at v h) middles_are

  signs_are : (v : ℕ) (kept : Sign) (sides : List ℕ) → v < p → kept ≡ kept_sign_in B points v n verts → take n sides ≡ tab n (sign_side_at B points verts kept)
      → take n sides ≡ sides_of_signs (rounded_sign B M v) (map (rounded_middle B M) es)
  unfolding signs_in
  signs_are v kept sides h e t =
      t ∙ sym (map_tab (side_of_sign_of kept) n (λ i. sign_at B points (row_of 3 verts i)))
      ∙ ap₂ (λ (s : Sign) (l : List Sign). map (side_of_sign_of s) l) (e ∙ sym (kept_is v h)) (sym middles_are)

side_two : (b : Bool) → pick b 1 0 < 2
side_two true = omega arith
side_two false = omega arith

pub signs_done : (b0 b1 : Point) (points : List Float) (v n i : ℕ) (verts : List ℕ) (kept : Sign) (sides : List ℕ) → i ≡ n → n ≤ length sides
    → kept ≡ kept_sign_in (blade_by Signs b0 b1) points v n verts → take i sides ≡ tab i (sign_side_at (blade_by Signs b0 b1) points verts kept)
    → SidesBy Triangles (blade_by Signs b0 b1) v n verts points sides
unfolding blade_sides
signs_done b0 b1 points v n i verts kept sides ei long e t =
    let B = blade_by Signs b0 b1 in
    let t' : take n sides ≡ tab n (sign_side_at B points verts kept) = subst (λ (m : ℕ). take m sides ≡ tab m (sign_side_at B points verts kept)) ei t in
    record {
      are = λ M p C at h below. signs_are B points M p n verts (fan_of Triangles M v) C at below v kept sides h e t';
      two = λ j h.
          subst (λ (x : ℕ). x < 2)
          (sym (sym (get_or-take n sides j 0 h) ∙ ap (λ (l : List ℕ). get_or l j 0) t' ∙ tab_at n (sign_side_at B points verts kept) j 0 h))
          (side_two (opposite kept (sign_at B points (row_of 3 verts j))));
    }
