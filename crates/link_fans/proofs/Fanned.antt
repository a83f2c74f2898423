-- The cells that hold v are the fan of the model; and the fan in tables, by walking: a turn at a cell that holds v, and what the tables hold in the end. Assumes nothing.
use Prim.Native.Nat.{ℕ, zero, suc, min, ◌+◌, ◌*◌, ◌/◌, ◌≤◌, ◌<◌, zero-le, ◌-◌}
use native.Mathlib.Numerals.{add-one}
use native.Mathlib.Omega.{arith}
use mathlib.Core.Path.{◌≡◌, refl, sym, ap, ◌∙◌, subst}
use mathlib.Core.Bool.{Bool, true, false, ◌&&◌}
use mathlib.Core.List.{List, [], ◌∷◌, ◌++◌, map, append-nil}
use lib.Dec.{eqb}
use lib.ListN.{length, get_or, set, take, length-set, length-append}
use lib.Ieee.{Float, nan}
use borrow.Author.Tests.{eq-eqb, ne_eqb}
use Rattle.lists.specs.Lists.{pick, stands, sift, each, tab, up_to}
use Rattle.lists.proofs.Stores.{tab_length}
use Rattle.lists.proofs.Sifts.{sift_append, up_to_suc, tab_suc, each_append}
use Rattle.columns.proofs.Cells.{col_fits}
use Rattle.float.specs.Numbers.{abs_of}
use Rattle.columns.specs.Block.{cell}
use Rattle.model.specs.Mesh.{Edge, Mesh}
use Rattle.model.specs.Elements.{Element, Triangles, structural?, strap_element, triangles_from, straps_from, elements_of, fan_of}
use Rattle.mesh.specs.At.{edge_row, triangles_at, edges_at}
use Rattle.elements.specs.Table.{holding}
use Rattle.elements.proofs.Tables.{tabled_none, tabled_push}
use Rattle.elements.proofs.Filling.{front_two, front_three, triangle_at, triangles_more, strap_at, straps_push, strap_read}
use Rattle.links.specs.Links.{holds, first_of, next_of, cells_of}
use Rattle.links.specs.Rooms.{LinkRoom, LinkRead}
use Rattle.link_fans.specs.Fans.{FanPut}
use Rattle.links.proofs.Walked.{Passing, still_left, passing_start, passing_within, passing_holds, passing_room, passing_more, passing_less, passing_done}

map_append : {A B : Type 0} (f : A → B) (l m : List A) → map f (l ++ m) ≡ map f l ++ map f m
map_append f [] m = refl
map_append f (a ∷ l) m = ap (λ (r : List _). f a ∷ r) (map_append f l m)

-- ---- the cells that hold v, as elements

module _ (C : List ℕ) (W : List Float) (v : ℕ) where
  -- a triangle holds v by its columns or as the program reads it
  held_read : (i : ℕ) → holds 3 (cell 0 (length C / 3) C) v i ≡ stands v (triangle_at C W i).corners
  unfolding holds tab cell
  held_read i =
      let a : 0 * (length C / 3) + i ≡ i = omega arith in
      let b : 1 * (length C / 3) + i ≡ length C / 3 + i = omega arith in
      rw (a, b)

  one : (s : Bool) (x : ℕ) → map (triangle_at C W) (pick s (x ∷ []) []) ≡ pick s (triangle_at C W x ∷ []) []
  one true x = refl
  one false x = refl

  -- they are the fan
  pub fan_elements : (t : ℕ) → map (triangle_at C W) (cells_of 3 t (cell 0 (length C / 3) C) v) ≡ holding v (triangles_from 0 (triangles_at t C W))
  unfolding cells_of sift up_to tab triangles_from triangles_at
  fan_elements zero = refl
  fan_elements (suc t) =
      ap (λ (l : List ℕ). map (triangle_at C W) (sift p l)) (up_to_suc t)
      ∙ ap (map (triangle_at C W)) (sift_append p (up_to t) (t ∷ []))
      ∙ map_append (triangle_at C W) (sift p (up_to t)) (pick (p t) (t ∷ []) [])
      ∙ ap (λ (l : List Element). l ++ map (triangle_at C W) (pick (p t) (t ∷ []) [])) (fan_elements t)
      ∙ ap (λ (l : List Element). holding v (triangles_from 0 (triangles_at t C W)) ++ l) (one (p t) t ∙ ap (λ (s : Bool). pick s (triangle_at C W t ∷ []) []) (held_read t))
      ∙ sym (sift_append (λ (e : Element). stands v e.corners) (triangles_from 0 (triangles_at t C W)) (triangle_at C W t ∷ []))
      ∙ ap (holding v) (sym (triangles_more C W t) ∙ ap (λ (m : ℕ). triangles_from 0 (triangles_at m C W)) (add-one t))
    where
      p : ℕ → Bool
      p = holds 3 (cell 0 (length C / 3) C) v

-- and their numbers are the cells
pub fan_numbers : (M : Mesh) (t : ℕ) (C : List ℕ) (W : List Float) (v : ℕ) → M.triangles ≡ triangles_at t C W → map (λ (e : Element). e.number) (fan_of Triangles M v) ≡ cells_of 3 t (cell 0 (length C / 3) C) v
unfolding fan_of elements_of
fan_numbers M t C W v e = rw e (ap (map (λ (e : Element). e.number)) (sym (fan_elements C W v t)) ∙ numbers (cells_of 3 t (cell 0 (length C / 3) C) v))
  where
    numbers : (l : List ℕ) → map (λ (e : Element). e.number) (map (triangle_at C W) l) ≡ l
    numbers [] = refl
    numbers (x ∷ l) = ap (λ (m : List ℕ). x ∷ m) (numbers l)

-- ---- the straps among them

-- an element of a list is held where it is one and holds v
holding_more : (v : ℕ) (es : List Element) (e : Element) (s : Bool) → holding v (es ++ pick s (e ∷ []) []) ≡ holding v es ++ pick (s && stands v e.corners) (e ∷ []) []
unfolding sift
holding_more v es e true = sift_append (λ (x : Element). stands v x.corners) es (e ∷ [])
holding_more v es e false = sift_append (λ (x : Element). stands v x.corners) es []

-- the element of edge i of a block, where it is structural
abbrev pub straps_of : List ℕ → List Float → ℕ → List Element
straps_of E L i = pick (eqb (get_or E (2 * (length E / 4) + i) 0) 1) (strap_at E L i ∷ []) []

module _ (E : List ℕ) (L : List Float) (v : ℕ) where
  -- one edge more
  straps_held : (i : ℕ)
      → holding v (straps_from 0 (edges_at (i + 1) E L))
      ≡ holding v (straps_from 0 (edges_at i E L)) ++ pick (eqb (get_or E (2 * (length E / 4) + i) 0) 1 && stands v (strap_at E L i).corners) (strap_at E L i ∷ []) []
  unfolding edges_at cell
  straps_held i =
      let row : ℕ → Edge = edge_row (length E / 4) (length L / 4) E L in
      let e : 0 + length (tab i row) ≡ i = omega (arith, tab_length i row) in
      ap (λ (j : ℕ). holding v (straps_from 0 (tab j row))) (add-one i) ∙ ap (λ (l : List Edge). holding v (straps_from 0 l)) (tab_suc i row)
      ∙ ap (holding v) (straps_push 0 (tab i row) (row i)) ∙ ap (λ (j : ℕ). holding v (straps_from 0 (tab i row) ++ pick (structural? (row i)) (strap_element j (row i) ∷ []) [])) e
      ∙ ap (λ (x : Element). holding v (straps_from 0 (tab i row) ++ pick (structural? (row i)) (x ∷ []) [])) (strap_read E L i)
      ∙ holding_more v (straps_from 0 (tab i row)) (strap_at E L i) (structural? (row i))

  -- an edge holds v by its columns or as the program reads it
  ends_read : (i : ℕ) → holds 2 (cell 0 (length E / 4) E) v i ≡ stands v (strap_at E L i).corners
  unfolding holds tab cell
  ends_read i =
      let a : 0 * (length E / 4) + i ≡ i = omega arith in
      let b : 1 * (length E / 4) + i ≡ length E / 4 + i = omega arith in
      rw (a, b)

  both : (h s : Bool) (i : ℕ) (x : Element) → pick s (x ∷ []) [] ≡ straps_of E L i → each (straps_of E L) (pick h (i ∷ []) []) ≡ pick (s && h) (x ∷ []) []
  unfolding each
  both true true i x q = ap (λ (l : List Element). l ++ []) (sym q)
  both true false i x q = ap (λ (l : List Element). l ++ []) (sym q)
  both false true i x q = refl
  both false false i x q = refl

  -- the straps among the cells are the fan
  pub strap_elements : (e : ℕ) → each (straps_of E L) (cells_of 2 e (cell 0 (length E / 4) E) v) ≡ holding v (straps_from 0 (edges_at e E L))
  unfolding cells_of sift up_to tab straps_from edges_at each
  strap_elements zero = refl
  strap_elements (suc e) =
      ap (λ (l : List ℕ). each (straps_of E L) (sift p l)) (up_to_suc e)
      ∙ ap (each (straps_of E L)) (sift_append p (up_to e) (e ∷ []))
      ∙ each_append (straps_of E L) (sift p (up_to e)) (pick (p e) (e ∷ []) [])
      ∙ ap (λ (l : List Element). l ++ each (straps_of E L) (pick (p e) (e ∷ []) [])) (strap_elements e)
      ∙ ap (λ (l : List Element). holding v (straps_from 0 (edges_at e E L)) ++ l)
      (both (p e) (eqb (get_or E (2 * (length E / 4) + e) 0) 1) e (strap_at E L e) refl
      ∙ ap (λ (s : Bool). pick (eqb (get_or E (2 * (length E / 4) + e) 0) 1 && s) (strap_at E L e ∷ []) []) (ends_read e))
      ∙ sym (straps_held e) ∙ ap (λ (m : ℕ). holding v (straps_from 0 (edges_at m E L))) (add-one e)
    where
      p : ℕ → Bool
      p = holds 2 (cell 0 (length E / 4) E) v

-- ---- a row more of the tables of a fan

-- r rows, and no more, have room in tables of so many places, k corners to a row
pub record RowsIn (k ln lk lm r : ℕ) : Type 0 where
  pub numbers : r ≤ ln
  pub verts : r * k ≤ lk
  pub measures : r ≤ lm
  pub most : (q : ℕ) → q ≤ ln → q * k ≤ lk → q ≤ lm → q ≤ r

-- as many as the smallest of them
pub rows_three : (ln lk lm r s : ℕ) → s ≡ min ln lm → r ≡ min s (lk / 3) → RowsIn 3 ln lk lm r
rows_three ln lk lm r s e f = record { numbers = omega arith; verts = omega arith; measures = omega arith; most = λ q a b c. omega arith }

pub rows_two : (ln lk lm r s : ℕ) → s ≡ min ln lm → r ≡ min s (lk / 2) → RowsIn 2 ln lk lm r
rows_two ln lk lm r s e f = record { numbers = omega arith; verts = omega arith; measures = omega arith; most = λ q a b c. omega arith }

-- nothing was found yet
pub put_none : (k : ℕ) (N K : List ℕ) (M : List Float) → FanPut k [] 0 N K M
put_none k N K M = record { count = refl; tabled = λ a b c. tabled_none k N K M }

module _ (k : ℕ) (es : List Element) (r : ℕ) (N K : List ℕ) (M : List Float) (e : Element) (P : FanPut k es r N K M) (rows : ℕ) (R : RowsIn k (length N) (length K) (length M) rows) where
  more_count : r + 1 ≡ length (es ++ (e ∷ []))
  more_count = omega (arith, P.count, length-append es (e ∷ []))

  -- it has room
  pub put_more : (K' : List ℕ) → r < rows → length e.corners ≡ k → take (r * k + k) K' ≡ take (r * k) K ++ e.corners
      → FanPut k (es ++ (e ∷ [])) (r + 1) (set N r e.number) K' (set M r e.measure)
  put_more K' h l c =
      let a = R.numbers in
      let b = R.measures in
      let d = R.verts in
      let f = col_fits r rows k h in
      record {
        count = more_count;
        tabled = λ x y z. tabled_push k es r N K K' M e (P.tabled (omega arith) (omega arith) (omega arith)) l (omega arith) (omega arith) c;
      }

  -- the tables have no such row
  pub put_full : rows ≤ r → FanPut k (es ++ (e ∷ [])) (r + 1) N K M
  put_full h = record { count = more_count; tabled = λ x y z. absurd (omega (arith, R.most (r + 1) x y z)) }

-- ---- the loop

-- at its head: the elements of the cells passed, of which each has one or none, have rows as far as the tables go; these keep their lengths
pub record Fanning (k n : ℕ) (corner : ℕ → ℕ → ℕ) (v : ℕ) (row : ℕ → List Element) (r at : ℕ) (N₀ K₀ : List ℕ) (M₀ : List Float) (N K : List ℕ) (M : List Float) : Type 0 where
  pub got : List ℕ
  pub passing : Passing k n corner v got at
  pub put : FanPut k (each row got) r N K M
  pub below : r ≤ length got
  pub numbers_long : length N ≡ length N₀
  pub verts_long : length K ≡ length K₀
  pub measures_long : length M ≡ length M₀

module _ (k n : ℕ) (corner : ℕ → ℕ → ℕ) (v : ℕ) (row : ℕ → List Element) where
  pub fanning_start : (N K : List ℕ) (M : List Float) (at : ℕ) → at ≡ first_of k n corner v → Fanning k n corner v row 0 at N K M N K M
  unfolding each
  fanning_start N K M at e =
      record { got = []; passing = passing_start k n corner v at e; put = put_none k N K M; below = zero-le; numbers_long = refl; verts_long = refl; measures_long = refl }

  module _ (r at : ℕ) (N₀ K₀ : List ℕ) (M₀ : List Float) (N K : List ℕ) (M : List Float) (F : Fanning k n corner v row r at N₀ K₀ M₀ N K M) where
    -- the elements are those of the cells that hold v
    pub fanning_done : at ≡ 0 → FanPut k (each row (cells_of k n corner v)) r N K M
    fanning_done z = subst (λ (l : List ℕ). FanPut k (each row l) r N K M) (passing_done k n corner v F.got at F.passing z) F.put

    module _ (some : 0 < at) where
      pub fanning_within : at - 1 < n
      fanning_within = passing_within k n corner v F.got at F.passing some

      pub fanning_few : r < n
      fanning_few = omega (arith, F.below, passing_room k n corner v F.got at F.passing some)

      -- what reading the link asks
      pub fanning_link : (P R S : ℕ) (C : List ℕ) (lt : ℕ) → corner ≡ cell 0 S C → LinkRoom P k R S n (length C) lt → LinkRead P k R S v (at - 1) C lt
      fanning_link P R S C lt q room =
          record {
            row = record {
              here = omega (arith, fanning_within, room.rows);
              columns = room.columns;
              holding = subst (λ (f : ℕ → ℕ → ℕ). holds k f v (at - 1) ≡ true) q (passing_holds k n corner v F.got at F.passing some);
            };
            linked = omega (arith, fanning_within, room.cells);
            table = room.table;
          }

      module _ (next : ℕ) (e : next ≡ next_of k n corner v (at - 1)) where
        pub fanning_less : still_left n next < still_left n at
        fanning_less = passing_less k n corner v F.got at F.passing some next e

        one_more : each row (F.got ++ ((at - 1) ∷ [])) ≡ each row F.got ++ row (at - 1)
        unfolding each
        one_more = each_append row F.got ((at - 1) ∷ []) ∙ ap (λ (l : List Element). each row F.got ++ l) (append-nil (row (at - 1)))

        onward : (r' : ℕ) (N' K' : List ℕ) (M' : List Float) → FanPut k (each row F.got ++ row (at - 1)) r' N' K' M' → r' ≤ r + 1 → length N' ≡ length N → length K' ≡ length K → length M' ≡ length M
            → Fanning k n corner v row r' next N₀ K₀ M₀ N' K' M'
        onward r' N' K' M' P h a b c =
            record {
              got = F.got ++ ((at - 1) ∷ []);
              passing = passing_more k n corner v F.got at F.passing some next e;
              put = subst (λ (l : List Element). FanPut k l r' N' K' M') (sym one_more) P;
              below = omega (arith, F.below, length-append F.got ((at - 1) ∷ []));
              numbers_long = a ∙ F.numbers_long;
              verts_long = b ∙ F.verts_long;
              measures_long = c ∙ F.measures_long;
            }

        -- the cell has no element
        pub fanning_skip : row (at - 1) ≡ [] → Fanning k n corner v row r next N₀ K₀ M₀ N K M
        fanning_skip z =
            onward r N K M (subst (λ (l : List Element). FanPut k l r N K M) (sym (ap (λ (l : List Element). each row F.got ++ l) z ∙ append-nil (each row F.got))) F.put) (omega arith) refl refl refl

        module _ (x : Element) (z : row (at - 1) ≡ x ∷ []) (rows : ℕ) (R : RowsIn k (length N₀) (length K₀) (length M₀) rows) where
          here_rows : RowsIn k (length N) (length K) (length M) rows
          here_rows =
              let a = F.numbers_long in
              let b = F.verts_long in
              let c = F.measures_long in
              record { numbers = omega (arith, R.numbers); verts = omega (arith, R.verts); measures = omega (arith, R.measures); most = λ q d f g. R.most q (omega arith) (omega arith) (omega arith) }

          with_one : {r' : ℕ} {N' K' : List ℕ} {M' : List Float} → FanPut k (each row F.got ++ (x ∷ [])) r' N' K' M' → FanPut k (each row F.got ++ row (at - 1)) r' N' K' M'
          with_one {r'} {N'} {K'} {M'} P = subst (λ (l : List Element). FanPut k (each row F.got ++ l) r' N' K' M') (sym z) P

          -- it has one, and a row for it
          pub fanning_more : (K' : List ℕ) → r < rows → length x.corners ≡ k → length K' ≡ length K → take (r * k + k) K' ≡ take (r * k) K ++ x.corners
              → Fanning k n corner v row (r + 1) next N₀ K₀ M₀ (set N r x.number) K' (set M r x.measure)
          fanning_more K' h l long c =
              onward (r + 1) (set N r x.number) K' (set M r x.measure) (with_one (put_more k (each row F.got) r N K M x F.put rows here_rows K' h l c)) (omega arith)
              (length-set N r x.number) long (length-set M r x.measure)

          -- or none
          pub fanning_full : rows ≤ r → Fanning k n corner v row (r + 1) next N₀ K₀ M₀ N K M
          fanning_full h = onward (r + 1) N K M (with_one (put_full k (each row F.got) r N K M x F.put rows here_rows h)) (omega arith) refl refl refl

-- ---- the triangles

-- the element of triangle i
abbrev pub triangles_of : List ℕ → List Float → ℕ → List Element
triangles_of C W i = triangle_at C W i ∷ []

pub triangle_elements : (C : List ℕ) (W : List Float) (v t : ℕ) → each (triangles_of C W) (cells_of 3 t (cell 0 (length C / 3) C) v) ≡ holding v (triangles_from 0 (triangles_at t C W))
unfolding each
triangle_elements C W v t = singles (cells_of 3 t (cell 0 (length C / 3) C) v) ∙ fan_elements C W v t
  where
    singles : (l : List ℕ) → each (triangles_of C W) l ≡ map (triangle_at C W) l
    singles [] = refl
    singles (i ∷ l) = ap (λ (m : List Element). triangle_at C W i ∷ m) (singles l)

module _ (v t : ℕ) (C : List ℕ) (W : List Float) (r at : ℕ) (N₀ K₀ : List ℕ) (M₀ : List Float) (N K : List ℕ) (M : List Float)
    (F : Fanning 3 t (cell 0 (length C / 3) C) v (triangles_of C W) r at N₀ K₀ M₀ N K M) (some : 0 < at) (rows : ℕ) (R : RowsIn 3 (length N₀) (length K₀) (length M₀) rows)
    (next : ℕ) (e : next ≡ next_of 3 t (cell 0 (length C / 3) C) v (at - 1)) where
  -- a triangle with a row, and one without
  pub triangle_put : (y : Float) → y ≡ abs_of (get_or W (at - 1) nan) → r < rows
      → Fanning 3 t (cell 0 (length C / 3) C) v (triangles_of C W) (r + 1) next N₀ K₀ M₀ (set N r (at - 1))
      (set (set (set K (3 * r) (get_or C (at - 1) 0)) (3 * r + 1) (get_or C (length C / 3 + (at - 1)) 0)) (3 * r + 2) (get_or C (2 * (length C / 3) + (at - 1)) 0)) (set M r y)
  triangle_put y f h =
      let m : r * 3 ≡ 3 * r = omega arith in
      rw f
      (fanning_more 3 t (cell 0 (length C / 3) C) v (triangles_of C W) r at N₀ K₀ M₀ N K M F some next e (triangle_at C W (at - 1)) refl rows R _ h refl (simp length-set)
      (rw m (front_three K (3 * r) (get_or C (at - 1) 0) (get_or C (length C / 3 + (at - 1)) 0) (get_or C (2 * (length C / 3) + (at - 1)) 0) (omega (arith, R.verts, F.verts_long)))))

  pub triangle_full : rows ≤ r → Fanning 3 t (cell 0 (length C / 3) C) v (triangles_of C W) (r + 1) next N₀ K₀ M₀ N K M
  triangle_full h = fanning_full 3 t (cell 0 (length C / 3) C) v (triangles_of C W) r at N₀ K₀ M₀ N K M F some next e (triangle_at C W (at - 1)) refl rows R h

-- in the end they are the fan
pub triangles_put : (v t : ℕ) (C : List ℕ) (W : List Float) (r at : ℕ) (N₀ K₀ : List ℕ) (M₀ : List Float) (N K : List ℕ) (M : List Float)
    → Fanning 3 t (cell 0 (length C / 3) C) v (triangles_of C W) r at N₀ K₀ M₀ N K M → at ≡ 0 → FanPut 3 (holding v (triangles_from 0 (triangles_at t C W))) r N K M
triangles_put v t C W r at N₀ K₀ M₀ N K M F z =
    subst (λ (l : List Element). FanPut 3 l r N K M) (triangle_elements C W v t) (fanning_done 3 t (cell 0 (length C / 3) C) v (triangles_of C W) r at N₀ K₀ M₀ N K M F z)

-- ---- the straps

module _ (v n : ℕ) (E : List ℕ) (L : List Float) (r at : ℕ) (N₀ K₀ : List ℕ) (M₀ : List Float) (N K : List ℕ) (M : List Float)
    (F : Fanning 2 n (cell 0 (length E / 4) E) v (straps_of E L) r at N₀ K₀ M₀ N K M) where
  -- in the end they are the fan
  pub straps_put : at ≡ 0 → FanPut 2 (holding v (straps_from 0 (edges_at n E L))) r N K M
  straps_put z =
      subst (λ (l : List Element). FanPut 2 l r N K M) (strap_elements E L v n) (fanning_done 2 n (cell 0 (length E / 4) E) v (straps_of E L) r at N₀ K₀ M₀ N K M F z)

  module _ (some : 0 < at) (next : ℕ) (e : next ≡ next_of 2 n (cell 0 (length E / 4) E) v (at - 1)) where
    -- an edge that is no strap
    pub strap_skip : (get_or E (2 * (length E / 4) + (at - 1)) 0 ≡ 1 → ⊥) → Fanning 2 n (cell 0 (length E / 4) E) v (straps_of E L) r next N₀ K₀ M₀ N K M
    strap_skip h =
        fanning_skip 2 n (cell 0 (length E / 4) E) v (straps_of E L) r at N₀ K₀ M₀ N K M F some next e
        (ap (λ (s : Bool). pick s (strap_at E L (at - 1) ∷ []) []) (ne_eqb (get_or E (2 * (length E / 4) + (at - 1)) 0) 1 h))

    module _ (h : get_or E (2 * (length E / 4) + (at - 1)) 0 ≡ 1) (rows : ℕ) (R : RowsIn 2 (length N₀) (length K₀) (length M₀) rows) where
      is_one : straps_of E L (at - 1) ≡ strap_at E L (at - 1) ∷ []
      is_one = ap (λ (s : Bool). pick s (strap_at E L (at - 1) ∷ []) []) (eq-eqb (get_or E (2 * (length E / 4) + (at - 1)) 0) 1 h)

      -- a strap with a row, and one without
      pub strap_put : r < rows
          → Fanning 2 n (cell 0 (length E / 4) E) v (straps_of E L) (r + 1) next N₀ K₀ M₀ (set N r (at - 1))
          (set (set K (2 * r) (get_or E (at - 1) 0)) (2 * r + 1) (get_or E (length E / 4 + (at - 1)) 0)) (set M r (get_or L (length L / 4 + (at - 1)) nan))
      strap_put l =
          let m : r * 2 ≡ 2 * r = omega arith in
          fanning_more 2 n (cell 0 (length E / 4) E) v (straps_of E L) r at N₀ K₀ M₀ N K M F some next e (strap_at E L (at - 1)) is_one rows R _ l refl (simp length-set)
          (rw m (front_two K (2 * r) (get_or E (at - 1) 0) (get_or E (length E / 4 + (at - 1)) 0) (omega (arith, R.verts, F.verts_long))))

      pub strap_full : rows ≤ r → Fanning 2 n (cell 0 (length E / 4) E) v (straps_of E L) (r + 1) next N₀ K₀ M₀ N K M
      strap_full l = fanning_full 2 n (cell 0 (length E / 4) E) v (straps_of E L) r at N₀ K₀ M₀ N K M F some next e (strap_at E L (at - 1)) is_one rows R l
