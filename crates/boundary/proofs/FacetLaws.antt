-- Laws of crack facets: a particle on a facet, the first face, an entry of the outline more, the face of a part, pairs in turn, and the table of the entries. Assumes nothing.
use mathlib.Core.Path.{◌≡◌, refl, sym, ◌∙◌, ap, ap₂, subst}
use mathlib.Core.Logic.{inr}
use mathlib.Core.Bool.{Bool, true, false, not, ◌&&◌}
use mathlib.Core.List.{List, [], ◌∷◌, ◌++◌, map, append-nil, append_assoc}
use Prim.Native.Nat.{ℕ, zero, suc, ◌+◌, ◌*◌, ◌/◌, ◌-◌, ◌<◌, ◌≤◌, zero-le}
use native.Mathlib.Omega.{arith}
use native.Mathlib.Numerals.{add-one}
use borrow.Author.Tests.{eq-eqb, ne_eqb, lt-leb, leb-false}
use lib.Dec.{eqb, leb}
use lib.ListN.{length, get_or, set, take, drop, length-set, length-append, drop_of_length-le, get_or-append}
use lib.Seq.{drop-cons, get_or_at}
use lib.Ieee.{Float}
use Rattle.lists.specs.Lists.{pick, stands, all, find, each, pairs, tab}
use Rattle.lists.proofs.Stores.{tab_length, tab_at}
use Rattle.lists.proofs.Sifts.{each_append}
use Rattle.lists.proofs.Rows.{rows_push}
use Rattle.columns.specs.Block.{cell}
use Rattle.columns.proofs.Cells.{store_same, store_row, store_col, col_0, col_1}
use Rattle.fan.specs.Fan.{shared_others_of}
use Rattle.model.specs.Mesh.{Triangle, Side, Mesh, blank_triangle}
use Rattle.model.specs.Split.{Part, Opening, copy_for_of, faces_of, face_on, opens?, facets_at, crack_facets}
use Rattle.mesh.specs.At.{triangle_row, triangles_at, side_row, boundary_at}
use Rattle.split_plan.specs.Opened.{blank_part, part_at}
use Rattle.work.specs.Rows.{GrownTo, Between, SideRoom}
use Rattle.split_plan.specs.Answers.{CopyIs}
use Rattle.boundary.specs.Faces.{face_is, on_by, faces_by, found_by, FacetsIn, FaceFound, SidesGrown, FacetsGrown, pair_facets, row_facets, all_facets, FacetTable, GrownLinked}
use Rattle.links.specs.Links.{LinksOf}
use Rattle.links.specs.Linked.{SidesLinked}
use Rattle.link_changes.specs.Changes.{AppendRoom}
use Rattle.link_changes.proofs.Edged.{pairs_append_room, pairs_appended}
use Rattle.std.specs.Prelude.{Option, None, Some}
use Rattle.work.proofs.Grows.{grown_all}
use Rattle.lists.proofs.Truths.{and_end}

-- ---- on a facet

module _ (v copy : ℕ) (p q : List ℕ) (w : ℕ) where
  pub on_copy : w ≡ copy → true ≡ on_by v copy p q w
  on_copy e = rw (eq-eqb w copy e)

  pub on_home : (w ≡ copy → ⊥) → w ≡ v → false ≡ on_by v copy p q w
  on_home n e = rw (ne_eqb w copy n, eq-eqb w v e)

  pub on_first : (w ≡ copy → ⊥) → (w ≡ v → ⊥) → (r : Bool) → r ≡ stands w p → r ≡ false → false ≡ on_by v copy p q w
  on_first n m r e d = let h : stands w p ≡ false = sym e ∙ d in rw (ne_eqb w copy n, ne_eqb w v m, h)

  pub on_second : (w ≡ copy → ⊥) → (w ≡ v → ⊥) → (r s : Bool) → r ≡ stands w p → r ≡ true → s ≡ stands w q → s ≡ on_by v copy p q w
  on_second n m r s e d g = let h : stands w p ≡ true = sym e ∙ d in rw (ne_eqb w copy n, ne_eqb w v m, h) g

module _ (f : ℕ → Bool) (x y : ℕ) where
  pub side_both : (r s : Bool) → r ≡ f x → r ≡ true → s ≡ f y → s ≡ all f (x ∷ y ∷ [])
  unfolding all
  side_both r s e d g = let h : f x ≡ true = sym e ∙ d in rw h (g ∙ sym (and_end (f y)))

  pub side_not : (r : Bool) → r ≡ f x → r ≡ false → false ≡ all f (x ∷ y ∷ [])
  unfolding all
  side_not r e d = let h : f x ≡ false = sym e ∙ d in rw h

-- the first face with both ends on the facet
module _ (v copy : ℕ) (p q : List ℕ) (x y z : ℕ) (r : Bool) (R : r ≡ all (on_by v copy p q) (x ∷ y ∷ [])) where
  pub face_first : r ≡ true → face_is (Some (x, y)) ≡ found_by v copy p q (faces_by x y z)
  unfolding found_by find
  face_first d = let h : all (on_by v copy p q) (x ∷ y ∷ []) ≡ true = sym R ∙ d in rw h

  module _ (d : r ≡ false) (s : Bool) (S : s ≡ all (on_by v copy p q) (y ∷ z ∷ [])) where
    pub face_second : s ≡ true → face_is (Some (y, z)) ≡ found_by v copy p q (faces_by x y z)
    unfolding found_by find
    face_second e =
        let h : all (on_by v copy p q) (x ∷ y ∷ []) ≡ false = sym R ∙ d in
        let g : all (on_by v copy p q) (y ∷ z ∷ []) ≡ true = sym S ∙ e in
        rw (h, g)

    module _ (e : s ≡ false) (t : Bool) (T : t ≡ all (on_by v copy p q) (z ∷ x ∷ [])) where
      pub face_third : t ≡ true → face_is (Some (z, x)) ≡ found_by v copy p q (faces_by x y z)
      unfolding found_by find
      face_third b =
          let h : all (on_by v copy p q) (x ∷ y ∷ []) ≡ false = sym R ∙ d in
          let g : all (on_by v copy p q) (y ∷ z ∷ []) ≡ false = sym S ∙ e in
          let f : all (on_by v copy p q) (z ∷ x ∷ []) ≡ true = sym T ∙ b in
          rw (h, g, f)

      pub face_none : t ≡ false → face_is None ≡ found_by v copy p q (faces_by x y z)
      unfolding found_by find
      face_none b =
          let h : all (on_by v copy p q) (x ∷ y ∷ []) ≡ false = sym R ∙ d in
          let g : all (on_by v copy p q) (y ∷ z ∷ []) ≡ false = sym S ∙ e in
          let f : all (on_by v copy p q) (z ∷ x ∷ []) ≡ false = sym T ∙ b in
          rw (h, g, f)

-- ---- the outline

pub sides_many : (m : ℕ) (s : List ℕ) → length (boundary_at m s) ≡ m
unfolding boundary_at
sides_many m s = tab_length m (side_row (length s / 2) s)

-- two stores put an entry behind m
module _ (m a b : ℕ) (s : List ℕ) (h : m + 1 ≤ length s / 2) where
  s₁ : List ℕ
  s₁ = set s (0 * (length s / 2) + m) a

  s₂ : List ℕ
  unfolding s₁
  s₂ = set s₁ (1 * (length s / 2) + m) b

  long : length s₂ ≡ length s
  unfolding s₁ s₂
  long = simp length-set

  old : (c j : ℕ) → j < m → cell 0 (length s / 2) s₂ c j ≡ cell 0 (length s / 2) s c j
  unfolding s₁ s₂
  old c j l =
      store_row 0 (length s / 2) s₁ 1 m b c j (omega arith) (omega arith) (λ q. omega arith) ∙ store_row 0 (length s / 2) s 0 m a c j (omega arith) (omega arith) (λ q. omega arith)

  at_0 : cell 0 (length s / 2) s₂ 0 m ≡ a
  unfolding s₁ s₂
  at_0 = store_col 0 (length s / 2) s₁ 1 m b 0 m (omega arith) (omega arith) (λ q. omega arith) ∙ store_same 0 (length s / 2) s 0 m a (omega arith)

  at_1 : cell 0 (length s / 2) s₂ 1 m ≡ b
  unfolding s₁ s₂
  at_1 = store_same 0 (length s / 2) s₁ 1 m b (simp length-set (omega arith))

  pushed_cols : boundary_at (m + 1) s₂ ≡ boundary_at m s ++ (record { corners = a ∷ b ∷ [] } ∷ [])
  unfolding boundary_at
  pushed_cols =
      ap (λ (z : ℕ). tab (m + 1) (side_row (z / 2) s₂)) long
      ∙ rows_push m (side_row (length s / 2) s) (side_row (length s / 2) s₂) (record { corners = a ∷ b ∷ [] }) (λ j l i. record { corners = old 0 j l i ∷ old 1 j l i ∷ [] }) (λ i. record { corners = at_0 i ∷ at_1 i ∷ [] })

  pub side_pushed : boundary_at (m + 1) (set (set s m a) (length s / 2 + m) b) ≡ boundary_at m s ++ (record { corners = a ∷ b ∷ [] } ∷ [])
  unfolding s₁ s₂
  side_pushed =
      let e₀ : 0 * (length s / 2) + m ≡ m = omega arith in
      let e₁ : 1 * (length s / 2) + m ≡ length s / 2 + m = omega arith in
      subst (λ (j : ℕ). boundary_at (m + 1) (set (set s m a) j b) ≡ boundary_at m s ++ (record { corners = a ∷ b ∷ [] } ∷ [])) e₁
      (subst (λ (j : ℕ). boundary_at (m + 1) (set (set s j a) (1 * (length s / 2) + m) b) ≡ boundary_at m s ++ (record { corners = a ∷ b ∷ [] } ∷ [])) e₀ pushed_cols)

module _ (face : Option (ℕ × ℕ)) (m room : ℕ) (s : List ℕ) (few : m ≤ room) where
  pub append_none : face ≡ None → SidesGrown (face_is face) m room s s (Some m)
  append_none e =
      record {
        sides = grown_all m room _ (λ q. boundary_at q s) (sides_many m s) few (sym (append-nil (boundary_at m s)) ∙ ap (λ (f : Option (ℕ × ℕ)). boundary_at m s ++ face_is f) (sym e));
        between = (omega arith, few);
      }

  module _ (a b : ℕ) (e : face ≡ Some (a, b)) where
    pub append_lacks : m ≡ room → SidesGrown (face_is face) m room s s None
    append_lacks q =
        record {
          sides =
              lt-leb _ room
              (subst (λ (f : Option (ℕ × ℕ)). room < length (boundary_at m s ++ face_is f)) (sym e) (rw length-append (omega (arith, sides_many m s))));
          between = zero-le;
        }

    pub append_one : (m ≡ room → ⊥) → room ≤ length s / 2 → SidesGrown (face_is face) m room s (set (set s m a) (length s / 2 + m) b) (Some (m + 1))
    append_one n h =
        record {
          sides =
              grown_all (m + 1) room _ (λ q. boundary_at q (set (set s m a) (length s / 2 + m) b)) (sides_many (m + 1) _) (omega arith)
              (side_pushed m a b s (omega arith) ∙ ap (λ (f : Option (ℕ × ℕ)). boundary_at m s ++ face_is f) (sym e));
          between = (omega arith, omega arith);
        }

-- ---- the face of a part

-- the corners of row i
abbrev row3 : List ℕ → ℕ → List ℕ
row3 verts i = take 3 (drop (i * 3) verts)

-- the row that a program lends
lent : (verts : List ℕ) (i : ℕ) → take (i * 3 + 3 - i * 3) (drop (i * 3) verts) ≡ row3 verts i
lent verts i = let e : i * 3 + 3 - i * 3 ≡ 3 = omega arith in ap (λ (z : ℕ). take z (drop (i * 3) verts)) e

module _ (v before n count : ℕ) (numbers verts groups corners : List ℕ) where
  faces_are : (O : Opening) (M : Mesh) (t : ℕ) (volumes : List Float) → FacetsIn O M t volumes v before n count numbers verts groups corners → (r : ℕ) → r < n
      → faces_by (get_or corners (get_or numbers r 0) 0) (get_or corners (length corners / 3 + get_or numbers r 0) 0) (get_or corners (2 * (length corners / 3) + get_or numbers r 0) 0)
      ≡ faces_of (get_or M.triangles (part_at O r).number blank_triangle)
  unfolding cell triangles_at
  faces_are O M t volumes F r l =
      let C = length corners / 3 in
      let k = get_or numbers r 0 in
      ap₂ (λ (x y : ℕ). faces_by x y (get_or corners (2 * C + k) 0)) (sym (col_0 0 C corners k)) (sym (col_1 0 C corners k))
      ∙ ap faces_of
      (sym
      (ap₂ (λ (ts : List Triangle) (j : ℕ). get_or ts j blank_triangle) F.triangles_are (F.numbered.number_is r l)
      ∙ tab_at t (triangle_row C (length volumes / 2) corners volumes) k blank_triangle (F.numbers_in r l)))

  pub face_found : (i j r copy : ℕ) (face : Option (ℕ × ℕ)) → i < n → j < n → r < n → CopyIs v before count (get_or groups r 0) copy
      → face_is face
      ≡ found_by v copy (take (i * 3 + 3 - i * 3) (drop (i * 3) verts)) (take (j * 3 + 3 - j * 3) (drop (j * 3) verts))
      (faces_by (get_or corners (get_or numbers r 0) 0) (get_or corners (length corners / 3 + get_or numbers r 0) 0) (get_or corners (2 * (length corners / 3) + get_or numbers r 0) 0))
      → FaceFound i j r v before n count numbers verts groups corners face
  unfolding face_on found_by
  face_found i j r copy face li lj lr C e =
      record {
        is =
            λ O M t volumes F.
            let R = F.ringed in
            let low : get_or groups r 0 < count = omega (arith, R.below r lr, F.count_is) in
            let copy_is : copy ≡ copy_for_of O.v O.before (part_at O r).group =
            C.is (inr low) ∙ ap₂ (λ (u b : ℕ). copy_for_of u b (get_or groups r 0)) (sym F.at) (sym F.before_is) ∙ ap (λ (g : ℕ). copy_for_of O.v O.before g) (sym (R.group_is r lr)) in
            e
            ∙ ap₂ (λ (u w : ℕ). found_by u w (take (i * 3 + 3 - i * 3) (drop (i * 3) verts)) (take (j * 3 + 3 - j * 3) (drop (j * 3) verts)) (faces_by (get_or corners (get_or numbers r 0) 0) (get_or corners (length corners / 3 + get_or numbers r 0) 0) (get_or corners (2 * (length corners / 3) + get_or numbers r 0) 0))) (sym F.at) copy_is
            ∙ ap₂ (λ (p q : List ℕ). found_by O.v (copy_for_of O.v O.before (part_at O r).group) p q (faces_by (get_or corners (get_or numbers r 0) 0) (get_or corners (length corners / 3 + get_or numbers r 0) 0) (get_or corners (2 * (length corners / 3) + get_or numbers r 0) 0))) (lent verts i ∙ sym (R.corners_are i li)) (lent verts j ∙ sym (R.corners_are j lj))
            ∙ ap (λ (l : List Side). found_by O.v (copy_for_of O.v O.before (part_at O r).group) (part_at O i).corners (part_at O j).corners l) (faces_are O M t volumes F r lr);
      }

-- ---- entries in turn

-- a list that is too long already
lacks_more : {A : Type 0} (room : ℕ) (now piece left : List A) → leb (length (now ++ piece)) room ≡ false → leb (length (now ++ (piece ++ left))) room ≡ false
lacks_more room now piece left h =
    let low = leb-false _ room h in
    lt-leb _ room (omega (arith, low, length-append now piece, length-append now (piece ++ left), length-append piece left))

module _ (v before n count room : ℕ) (numbers verts groups corners : List ℕ) where
  -- rows entries are there, and `left` is still to come of the total behind the m entries
  pub record Facing (total left : Opening → Mesh → List Side) (m : ℕ) (s₀ s : List ℕ) (rows : ℕ) : Type 0 where
    pub coming : (O : Opening) (M : Mesh) (t : ℕ) (volumes : List Float) → FacetsIn O M t volumes v before n count numbers verts groups corners → boundary_at rows s ++ left O M ≡ boundary_at m s₀ ++ total O M
    pub least : m ≤ rows
    pub most : rows ≤ room
    pub long : length s ≡ length s₀

  pub facing_start : (total left : Opening → Mesh → List Side) (m : ℕ) (s : List ℕ) → m ≤ room
      → ((O : Opening) (M : Mesh) (t : ℕ) (volumes : List Float) → FacetsIn O M t volumes v before n count numbers verts groups corners → left O M ≡ total O M) → Facing total left m s s m
  facing_start total left m s h e =
      record { coming = λ O M t B F. ap (λ (l : List Side). boundary_at m s ++ l) (e O M t B F); least = omega arith; most = h; long = refl }

  module _ (total left : Opening → Mesh → List Side) (m : ℕ) (s₀ s : List ℕ) (rows : ℕ) (P : Facing total left m s₀ s rows) where
    pub facing_done : ((O : Opening) (M : Mesh) (t : ℕ) (volumes : List Float) → FacetsIn O M t volumes v before n count numbers verts groups corners → left O M ≡ [])
        → FacetsGrown total v before n count m room numbers verts groups corners s₀ s (Some rows)
    facing_done e =
        record {
          facets =
              λ O M t B F.
              grown_all rows room _ (λ q. boundary_at q s) (sides_many rows s) P.most
              (sym (append-nil (boundary_at rows s)) ∙ ap (λ (l : List Side). boundary_at rows s ++ l) (sym (e O M t B F)) ∙ P.coming O M t B F);
          between = (P.least, P.most);
        }

    module _ (piece after : Opening → Mesh → List Side) (cut : (O : Opening) (M : Mesh) (t : ℕ) (volumes : List Float) → FacetsIn O M t volumes v before n count numbers verts groups corners → left O M ≡ piece O M ++ after O M)
        (s' : List ℕ) (g : Option ℕ) (G : FacetsGrown piece v before n count rows room numbers verts groups corners s s' g) where
      opened : (O : Opening) (M : Mesh) (t : ℕ) (volumes : List Float) → FacetsIn O M t volumes v before n count numbers verts groups corners
          → boundary_at rows s ++ (piece O M ++ after O M) ≡ boundary_at m s₀ ++ total O M
      opened O M t B F = ap (λ (l : List Side). boundary_at rows s ++ l) (sym (cut O M t B F)) ∙ P.coming O M t B F

      pub facing_lacks : g ≡ None → FacetsGrown total v before n count m room numbers verts groups corners s₀ s' None
      facing_lacks q =
          record {
            facets =
                λ O M t B F.
                subst (λ (l : List Side). leb (length l) room ≡ false) (opened O M t B F)
                (lacks_more room (boundary_at rows s) (piece O M) (after O M)
                (subst (λ (z : Option ℕ). GrownTo z room (boundary_at rows s ++ piece O M) (λ j. boundary_at j s')) q (G.facets O M t B F)));
            between = zero-le;
          }

      pub facing_step : (rows' : ℕ) → g ≡ Some rows' → length s' ≡ length s → Facing total after m s₀ s' rows'
      facing_step rows' q l =
          let b = subst (Between rows room) q G.between in
          record {
            coming =
                λ O M t B F.
                ap (λ (z : List Side). z ++ after O M) (subst (λ (z : Option ℕ). GrownTo z room (boundary_at rows s ++ piece O M) (λ j. boundary_at j s')) q (G.facets O M t B F)).2
                ∙ append_assoc (boundary_at rows s) (piece O M) (after O M) ∙ opened O M t B F;
            least = omega (arith, P.least, b.0);
            most = b.1;
            long = l ∙ P.long;
          }

-- part i with the parts from j on, and the pairs of the parts from i on
abbrev pub row_left : ℕ → ℕ → Opening → Mesh → List Side
row_left i j O M = each (facets_at M O) (map (λ q. (part_at O i, q)) (drop j O.fan))

abbrev pub all_left : ℕ → Opening → Mesh → List Side
all_left i O M = each (facets_at M O) (pairs (drop i O.fan))

pub row_all : (i : ℕ) (O : Opening) (M : Mesh) → row_left i (i + 1) O M ≡ row_facets i O M
unfolding row_facets
row_all i O M = refl

pub row_cut : (i j n : ℕ) (O : Opening) (M : Mesh) → length O.fan ≡ n → j < n → row_left i j O M ≡ pair_facets i j O M ++ row_left i (j + 1) O M
unfolding each
row_cut i j n O M e l =
    ap (λ (s : List Part). each (facets_at M O) (map (λ q. (part_at O i, q)) s)) (drop-cons O.fan j blank_part (omega arith) ∙ ap (λ (z : ℕ). part_at O j ∷ drop z O.fan) (sym (add-one j)))

pub row_end : (i j n : ℕ) (O : Opening) (M : Mesh) → length O.fan ≡ n → n ≤ j → row_left i j O M ≡ []
unfolding each
row_end i j n O M e l = let g : length O.fan ≤ j = omega arith in ap (λ (s : List Part). each (facets_at M O) (map (λ q. (part_at O i, q)) s)) (drop_of_length-le O.fan g)

pub all_start : (O : Opening) (M : Mesh) → all_left 0 O M ≡ all_facets O M
unfolding crack_facets
all_start O M = refl

pub all_cut : (i n : ℕ) (O : Opening) (M : Mesh) → length O.fan ≡ n → i < n → all_left i O M ≡ row_facets i O M ++ all_left (i + 1) O M
unfolding pairs row_facets
all_cut i n O M e l =
    ap (λ (s : List Part). each (facets_at M O) (pairs s)) (drop-cons O.fan i blank_part (omega arith) ∙ ap (λ (z : ℕ). part_at O i ∷ drop z O.fan) (sym (add-one i)))
    ∙ each_append (facets_at M O) (map (λ q. (part_at O i, q)) (drop (i + 1) O.fan)) (pairs (drop (i + 1) O.fan))

pub all_end : (i n : ℕ) (O : Opening) (M : Mesh) → length O.fan ≡ n → n ≤ i → all_left i O M ≡ []
unfolding each pairs
all_end i n O M e l = let g : length O.fan ≤ i = omega arith in ap (λ (s : List Part). each (facets_at M O) (pairs s)) (drop_of_length-le O.fan g)

-- ---- one pair

module _ (v before n count m room : ℕ) (numbers verts groups corners : List ℕ) (i j : ℕ) (li : i < n) (lj : j < n) where
  opens_is : (O : Opening) (M : Mesh) (t : ℕ) (volumes : List Float) → FacetsIn O M t volumes v before n count numbers verts groups corners
      → opens? O.v (part_at O i) (part_at O j)
      ≡ not (eqb (get_or groups i 0) (get_or groups j 0)) && eqb (shared_others_of v (take (i * 3 + 3 - i * 3) (drop (i * 3) verts)) (take (j * 3 + 3 - j * 3) (drop (j * 3) verts))) 1
  opens_is O M t volumes F =
      let R = F.ringed in
      ap₂ (λ (g h : ℕ). not (eqb g h) && eqb (shared_others_of O.v (part_at O i).corners (part_at O j).corners) 1) (R.group_is i li) (R.group_is j lj)
      ∙ ap (λ (u : ℕ). not (eqb (get_or groups i 0) (get_or groups j 0)) && eqb (shared_others_of u (part_at O i).corners (part_at O j).corners) 1) F.at
      ∙ ap₂ (λ (p q : List ℕ). not (eqb (get_or groups i 0) (get_or groups j 0)) && eqb (shared_others_of v p q) 1) (R.corners_are i li ∙ sym (lent verts i)) (R.corners_are j lj ∙ sym (lent verts j))

  -- no crack opens
  shut : (s : List ℕ) → m ≤ room → ((O : Opening) (M : Mesh) (t : ℕ) (volumes : List Float) → FacetsIn O M t volumes v before n count numbers verts groups corners → opens? O.v (part_at O i) (part_at O j) ≡ false)
      → FacetsGrown (pair_facets i j) v before n count m room numbers verts groups corners s s (Some m)
  unfolding facets_at
  shut s few h =
      record {
        facets =
            λ O M t B F.
            grown_all m room _ (λ q. boundary_at q s) (sides_many m s) few
            (sym (append-nil (boundary_at m s))
            ∙ ap (λ (z : Bool). boundary_at m s ++ pick z (face_on M O (part_at O i) (part_at O j) (part_at O i) ++ face_on M O (part_at O i) (part_at O j) (part_at O j)) []) (sym (h O M t B F)));
        between = (omega arith, few);
      }

  pub pair_same : (s : List ℕ) → m ≤ room → get_or groups i 0 ≡ get_or groups j 0 → FacetsGrown (pair_facets i j) v before n count m room numbers verts groups corners s s (Some m)
  pair_same s few e = shut s few (λ O M t B F. opens_is O M t B F ∙ rw (eq-eqb (get_or groups i 0) (get_or groups j 0) e))

  pub pair_far : (s : List ℕ) → m ≤ room → (get_or groups i 0 ≡ get_or groups j 0 → ⊥) → (k : ℕ)
      → k ≡ shared_others_of v (take (i * 3 + 3 - i * 3) (drop (i * 3) verts)) (take (j * 3 + 3 - j * 3) (drop (j * 3) verts)) → (k ≡ 1 → ⊥)
      → FacetsGrown (pair_facets i j) v before n count m room numbers verts groups corners s s (Some m)
  pair_far s few d k e h =
      shut s few
      (λ O M t B F. opens_is O M t B F ∙ ap (λ (z : ℕ). not (eqb (get_or groups i 0) (get_or groups j 0)) && eqb z 1) (sym e) ∙ rw (ne_eqb (get_or groups i 0) (get_or groups j 0) d, ne_eqb k 1 h))

  module _ (d : get_or groups i 0 ≡ get_or groups j 0 → ⊥) (k : ℕ) (e : k ≡ shared_others_of v (take (i * 3 + 3 - i * 3) (drop (i * 3) verts)) (take (j * 3 + 3 - j * 3) (drop (j * 3) verts))) (h : k ≡ 1) (f₁ f₂ : Option (ℕ × ℕ))
      (F₁ : FaceFound i j i v before n count numbers verts groups corners f₁) (F₂ : FaceFound i j j v before n count numbers verts groups corners f₂) (s s₁ : List ℕ) (g₁ : Option ℕ) (G₁ : SidesGrown (face_is f₁) m room s s₁ g₁) (few : m ≤ room) where
    -- the two faces
    two : (O : Opening) (M : Mesh) (t : ℕ) (volumes : List Float) → FacetsIn O M t volumes v before n count numbers verts groups corners → face_is f₁ ++ face_is f₂ ≡ pair_facets i j O M
    unfolding facets_at
    two O M t B F =
        let gapes : opens? O.v (part_at O i) (part_at O j) ≡ true =
        opens_is O M t B F ∙ ap (λ (z : ℕ). not (eqb (get_or groups i 0) (get_or groups j 0)) && eqb z 1) (sym e ∙ h) ∙ rw (ne_eqb (get_or groups i 0) (get_or groups j 0) d, eq-eqb 1 1 refl) in
        ap₂ (λ (a b : List Side). a ++ b) (F₁.is O M t B F) (F₂.is O M t B F)
        ∙ ap (λ (z : Bool). pick z (face_on M O (part_at O i) (part_at O j) (part_at O i) ++ face_on M O (part_at O i) (part_at O j) (part_at O j)) []) (sym gapes)

    start : Facing v before n count room numbers verts groups corners (pair_facets i j) (λ O M. face_is f₁ ++ face_is f₂) m s s m
    start = facing_start v before n count room numbers verts groups corners (pair_facets i j) (λ O M. face_is f₁ ++ face_is f₂) m s few two

    made : {l : List Side} {m' : ℕ} {a b : List ℕ} {g : Option ℕ} → SidesGrown l m' room a b g → FacetsGrown (λ O M. l) v before n count m' room numbers verts groups corners a b g
    made S = record { facets = λ O M t B F. S.sides; between = S.between }

    pub pair_lacks : g₁ ≡ None → FacetsGrown (pair_facets i j) v before n count m room numbers verts groups corners s s₁ None
    pair_lacks q = facing_lacks v before n count room numbers verts groups corners (pair_facets i j) (λ O M. face_is f₁ ++ face_is f₂) m s s m start (λ O M. face_is f₁) (λ O M. face_is f₂) (λ O M t B F. refl) s₁ g₁ (made G₁) q

    pub pair_open : (rows : ℕ) → g₁ ≡ Some rows → length s₁ ≡ length s → (s₂ : List ℕ) (g₂ : Option ℕ) → SidesGrown (face_is f₂) rows room s₁ s₂ g₂
        → FacetsGrown (pair_facets i j) v before n count m room numbers verts groups corners s s₂ g₂
    pair_open rows q l s₂ g₂ G₂ = last g₂ G₂ refl
      where
        next : Facing v before n count room numbers verts groups corners (pair_facets i j) (λ O M. face_is f₂) m s s₁ rows
        next = facing_step v before n count room numbers verts groups corners (pair_facets i j) (λ O M. face_is f₁ ++ face_is f₂) m s s m start (λ O M. face_is f₁) (λ O M. face_is f₂) (λ O M t B F. refl) s₁ g₁ (made G₁) rows q l

        last : (g : Option ℕ) → SidesGrown (face_is f₂) rows room s₁ s₂ g → g ≡ g₂ → FacetsGrown (pair_facets i j) v before n count m room numbers verts groups corners s s₂ g
        last None S z =
            facing_lacks v before n count room numbers verts groups corners (pair_facets i j) (λ O M. face_is f₂) m s s₁ rows next (λ O M. face_is f₂) (λ O M. []) (λ O M t B F. sym (append-nil (face_is f₂))) s₂ None (made S) refl
        last (Some r) S z =
            record {
              facets =
                  λ O M t B F.
                  grown_all r room _ (λ c. boundary_at c s₂) (sides_many r s₂) S.between.1 (S.sides.2 ∙ next.coming O M t B F);
              between = (omega (arith, next.least, S.between.0), S.between.1);
            }

-- ---- the table of the entries

-- the table of entries that grew
pub linked_rows : {r : Option ℕ} {m : ℕ} {s table : List ℕ} → r ≡ Some m → GrownLinked r s table → SidesLinked m s table
linked_rows {r} {m} {s} {table} q L = subst (λ (z : Option ℕ). GrownLinked z s table) q L

-- an entry more
module _ {m room : ℕ} {s table : List ℕ} (T : FacetTable m room s table) (R : SideRoom m room (length s)) (ne : m ≡ room → ⊥) (a b : ℕ) (A : (a < 1024) × (b < 1024) × (a ≡ b → ⊥)) where
  abbrev s'' : List ℕ
  s'' = set (set s m a) (length s / 2 + m) b

  fits : m + 1 ≤ length s / 2
  fits = omega (arith, R.rows, R.columns, ne)

  many : length s'' ≡ length s
  many = simp length-set

  -- its cells, and those before it
  pushed : boundary_at (m + 1) s'' ≡ boundary_at m s ++ (record { corners = a ∷ b ∷ [] } ∷ [])
  pushed = side_pushed m a b s fits

  row_new : side_row (length s'' / 2) s'' m ≡ record { corners = a ∷ b ∷ [] }
  unfolding boundary_at
  row_new =
      sym (tab_at (m + 1) (side_row (length s'' / 2) s'') m (record { corners = 0 ∷ 0 ∷ [] }) (omega arith)) ∙ ap (λ (l : List Side). get_or l m (record { corners = 0 ∷ 0 ∷ [] })) pushed
      ∙ get_or_at (boundary_at m s) (record { corners = a ∷ b ∷ [] }) [] (record { corners = 0 ∷ 0 ∷ [] }) m (sides_many m s)

  row_old : (j : ℕ) → j < m → side_row (length s'' / 2) s'' j ≡ side_row (length s / 2) s j
  unfolding boundary_at
  row_old j h =
      let l : j < length (boundary_at m s) = omega (arith, sides_many m s) in
      sym (tab_at (m + 1) (side_row (length s'' / 2) s'') j (record { corners = 0 ∷ 0 ∷ [] }) (omega arith)) ∙ ap (λ (l : List Side). get_or l j (record { corners = 0 ∷ 0 ∷ [] })) pushed
      ∙ get_or-append (boundary_at m s) (record { corners = a ∷ b ∷ [] } ∷ []) (record { corners = 0 ∷ 0 ∷ [] }) j l
      ∙ tab_at m (side_row (length s / 2) s) j (record { corners = 0 ∷ 0 ∷ [] }) h

  same : (c j : ℕ) → c < 2 → j < m → cell 0 (length s / 2) s c j ≡ cell 0 (length s'' / 2) s'' c j
  same zero j x h = sym (ap (λ (r : Side). get_or r.corners 0 0) (row_old j h))
  same (suc zero) j x h = sym (ap (λ (r : Side). get_or r.corners 1 0) (row_old j h))
  same (suc (suc c)) j x h = absurd (omega arith)

  few : m + 1 ≤ 2048
  few = omega (arith, T.few, R.rows, ne)

  rows : m + 1 ≤ length s'' / 2
  rows = omega (arith, many, fits)

  first : cell 0 (length s'' / 2) s'' 0 m < 1024
  first = subst (λ (z : ℕ). z < 1024) (sym (ap (λ (r : Side). get_or r.corners 0 0) row_new)) A.0

  second : cell 0 (length s'' / 2) s'' 1 m < 1024
  second = subst (λ (z : ℕ). z < 1024) (sym (ap (λ (r : Side). get_or r.corners 1 0) row_new)) A.1

  differ : cell 0 (length s'' / 2) s'' 0 m ≡ cell 0 (length s'' / 2) s'' 1 m → ⊥
  differ e = A.2 (sym (ap (λ (r : Side). get_or r.corners 0 0) row_new) ∙ e ∙ ap (λ (r : Side). get_or r.corners 1 0) row_new)

  -- it can be put into the table, by the columns as they were
  pub face_room : AppendRoom 1024 2 2048 (length s / 2) m s'' table
  face_room = subst (λ (l : ℕ). AppendRoom 1024 2 2048 (l / 2) m s'' table) many (pairs_append_room (omega arith) T.linked s'' same few rows first second differ)

  -- and then the table has it
  pub face_linked : {table' : List ℕ} → length table' ≡ length table → LinksOf 1024 2 2048 (m + 1) (cell 0 (length s / 2) s'') table' → SidesLinked (m + 1) s'' table'
  face_linked {table'} long L =
      pairs_appended (omega arith) T.linked s'' same few rows first second differ long
      (subst (λ (l : ℕ). LinksOf 1024 2 2048 (m + 1) (cell 0 (l / 2) s'') table') (sym many) L)
