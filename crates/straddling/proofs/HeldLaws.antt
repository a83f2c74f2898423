-- Laws of two particles that an element holds: one row of the columns, and the rows as the model's elements. Assumes nothing.
use Rattle.lists.proofs.Truths.{not_true}
use mathlib.Core.Path.{◌≡◌, refl, sym, ◌∙◌, ap}
use mathlib.Core.Bool.{Bool, true, false, ◌&&◌, ◌||◌}
use mathlib.Core.Logic.{◌⊎◌, inl, inr, ⊎_elim}
use mathlib.Core.List.{List, [], ◌∷◌}
use Prim.Native.Nat.{ℕ, zero, suc, ◌+◌, ◌*◌, ◌/◌, ◌<◌, ◌≤◌, zero-le, ◌-◌}
use native.Mathlib.Omega.{arith}
use native.Mathlib.Decide.{ℕ_discrete, dec_lt}
use borrow.Author.Tests.{eq-eqb, ne_eqb}
use lib.ListN.{length, get_or}
use lib.Dec.{eqb}
use Rattle.lists.specs.Lists.{pick, stands, any, tab, up_to}
use Rattle.lists.proofs.Sifts.{none_any, up_to_length, up_to_at}
use Rattle.columns.specs.Block.{cell, row_at}
use Rattle.columns.proofs.Rows.{any_stops, and_false}
use Rattle.elements.proofs.Held.{holds_both, both_true, both_false}
use Rattle.model.specs.Mesh.{Triangle, Edge}
use Rattle.model.specs.Elements.{Kind, Triangles, Straps, Nothing, Element, corners_of, ends_of, structural?, strap_element, triangles_from, straps_from, elements_of, held}
use Rattle.mesh.specs.At.{triangles_at, edges_at, triangle_row, edge_row}
use Rattle.links.specs.Links.{lowest, holds, first_of, next_of}
use Rattle.links.specs.Rooms.{LinkRead}
use Rattle.links.specs.Linked.{EdgesLinked}
use Rattle.links.proofs.Lowest.{low_most}
use Rattle.links.proofs.Walked.{NextIs, next_is, still_left, further_on}
use Rattle.straddling.specs.Tests.{both_in, triangle_holds, strap_holds_of, WalkRoom, EdgeWalkRoom, HeldRoom, HeldTold}

-- ---- one row

-- the flag of edge i, as the program reads it
flag_read : (E : List ℕ) (i : ℕ) → cell 0 (length E / 4) E 2 i ≡ get_or E (2 * (length E / 4) + i) 0
unfolding cell
flag_read E i = refl

-- triangle i, as the table of links reads it
abbrev corner_in : List ℕ → ℕ → ℕ → ℕ
corner_in C = cell 0 (length C / 3) C

-- one test behind the other
module _ (x y : ℕ) (C : List ℕ) (i : ℕ) where
  triangle_both : triangle_holds x y C i ≡ holds 3 (corner_in C) x i && holds 3 (corner_in C) y i
  unfolding holds tab
  triangle_both = refl

  -- where x stands, the test of y tells
  pub triangle_rest : holds 3 (corner_in C) x i ≡ true → (r : Bool) → r ≡ stands y (row_at 3 (length C / 3) C i) → triangle_holds x y C i ≡ r
  unfolding holds tab
  triangle_rest p r q = sym (both_true p q)

  -- it holds both only if it holds x
  pub triangle_only : holds 3 (corner_in C) x i ≡ false → triangle_holds x y C i ≡ false
  triangle_only p = triangle_both ∙ sym (both_false (holds 3 (corner_in C) y i) p)

-- edge i, as the table of the edges reads it
abbrev end_in : List ℕ → ℕ → ℕ → ℕ
end_in E = cell 0 (length E / 4) E

-- edge i, one test behind the other
module _ (x y : ℕ) (E : List ℕ) (i : ℕ) where
  pub strap_loose : (get_or E (2 * (length E / 4) + i) 0 ≡ 1 → ⊥) → false ≡ strap_holds_of x y E i
  strap_loose n = both_false (both_in x y (cell 0 (length E / 4) E 0 i ∷ cell 0 (length E / 4) E 1 i ∷ [])) (ne_eqb (cell 0 (length E / 4) E 2 i) 1 (λ q. n (sym (flag_read E i) ∙ q)))

  module _ (e : get_or E (2 * (length E / 4) + i) 0 ≡ 1) (s : Bool) (p : s ≡ stands x (row_at 2 (length E / 4) E i)) where
    strap_told : (t : Bool) → t ≡ both_in x y (row_at 2 (length E / 4) E i) → t ≡ strap_holds_of x y E i
    strap_told t q = both_true (eq-eqb (cell 0 (length E / 4) E 2 i) 1 (flag_read E i ∙ e)) q

    pub strap_both : s ≡ true → (t : Bool) → t ≡ stands y (row_at 2 (length E / 4) E i) → t ≡ strap_holds_of x y E i
    strap_both q t r = strap_told t (both_true (sym p ∙ q) r)

    pub strap_not : s ≡ false → false ≡ strap_holds_of x y E i
    strap_not q = strap_told false (both_false (stands y (row_at 2 (length E / 4) E i)) (sym p ∙ q))

  -- it holds both only if it holds x
  pub strap_only : holds 2 (end_in E) x i ≡ false → strap_holds_of x y E i ≡ false
  unfolding holds tab
  strap_only p =
      ap (λ (b : Bool). eqb (end_in E 2 i) 1 && b) (sym (both_false (stands y (end_in E 0 i ∷ end_in E 1 i ∷ [])) p)) ∙ and_false (eqb (end_in E 2 i) 1)

-- ---- the cells that hold x, link by link

-- one that passes
passed_here : (p : ℕ → Bool) (n i : ℕ) → i < n → p i ≡ true → true ≡ any p (up_to n)
unfolding up_to
passed_here p n i h g = sym (any_stops p n i (λ k. k) h g)

-- at the head of the loop: no cell below `left` passes, and the next that holds x is the lowest from there on
pub record Seeking (k n : ℕ) (corner : ℕ → ℕ → ℕ) (x : ℕ) (p : ℕ → Bool) (at : ℕ) : Type 0 where
  pub left : ℕ
  pub below : left ≤ n
  pub next : at ≡ lowest (holds k corner x) left (n - left)
  pub none : (j : ℕ) → j < left → p j ≡ false

module _ (k n : ℕ) (corner : ℕ → ℕ → ℕ) (x : ℕ) (p : ℕ → Bool) where
  pub seeking_start : (at : ℕ) → at ≡ first_of k n corner x → Seeking k n corner x p at
  unfolding first_of
  seeking_start at e =
      let z : n - 0 ≡ n = omega arith in
      record { left = 0; below = zero-le; next = rw z e; none = λ j h. absurd (omega arith) }

  module _ (at : ℕ) (G : Seeking k n corner x p at) where
    module _ (some : 0 < at) where
      abbrev here : NextIs (holds k corner x) G.left (n - G.left) (at - 1)
      here = next_is (holds k corner x) G.left (n - G.left) (at - 1) (sym G.next ∙ omega arith)

      pub seeking_within : at - 1 < n
      seeking_within = omega (arith, here.within, G.below)

      pub seeking_holds : holds k corner x (at - 1) ≡ true
      seeking_holds = here.passes

      -- it passes
      pub seeking_found : p (at - 1) ≡ true → true ≡ any p (up_to n)
      seeking_found q = passed_here p n (at - 1) seeking_within q

      -- the next is further on
      pub seeking_less : (next : ℕ) → next ≡ next_of k n corner x (at - 1) → still_left n next < still_left n at
      unfolding next_of
      seeking_less next e = further_on (holds k corner x) n at some seeking_within next e

    -- a cell that does not hold x does not pass
    module _ (only : (j : ℕ) → holds k corner x j ≡ false → p j ≡ false) where
      -- one between that holds x would be the next
      past : (j : ℕ) → G.left ≤ j → j < n → (at ≡ 0) ⊎ (suc j < at) → p j ≡ false
      past j a b d =
          only j
          (not_true _
          (λ e.
          let m = low_most (holds k corner x) G.left (n - G.left) j a (omega arith) e in
          ⊎_elim (λ z. omega (arith, m.0, G.next)) (λ z. omega (arith, m.1, G.next)) d))

      -- none is left
      pub seeking_done : at ≡ 0 → false ≡ any p (up_to n)
      seeking_done z =
          sym
          (none_any p (up_to n) 0
          (λ j h.
          let b : j < n = omega (arith, up_to_length n) in
          ap p (up_to_at n j b) ∙ elim (dec_lt j G.left) [ yes l ↦ G.none j l | no l ↦ past j (omega arith) b (inl z) ]))

      -- or the next is asked
      pub seeking_more : 0 < at → (next : ℕ) → next ≡ next_of k n corner x (at - 1) → p (at - 1) ≡ false → Seeking k n corner x p next
      unfolding next_of
      seeking_more some next e q =
          record {
            left = suc (at - 1);
            below = seeking_within some;
            next = e;
            none =
                λ j h.
                elim (ℕ_discrete j (at - 1)) [
                  | yes s ↦ ap p s ∙ q
                  | no s ↦ elim (dec_lt j G.left) [ yes l ↦ G.none j l | no l ↦ past j (omega arith) (omega (arith, seeking_within some)) (inr (omega arith)) ]
                ];
          }

-- what the walks ask, where the elements are triangles, and of the edges
module _ {K : Kind} {x t e : ℕ} {C E links table : List ℕ} (R : HeldRoom K x t e C E links table) where
  pub walk_room : K ≡ Triangles → WalkRoom x t C links
  walk_room q = record { here = R.here; few = R.few; rows = R.rows; long = R.linked.long q; linked = R.linked.are q }

  pub edge_walk_room : EdgeWalkRoom x e E table
  edge_walk_room = record { here = R.here; linked = R.edges }

-- the link of a triangle, or of an edge, that holds x
pub triangle_link : {x t : ℕ} {C links : List ℕ} → WalkRoom x t C links → (i : ℕ) → i < t → holds 3 (corner_in C) x i ≡ true → LinkRead 1024 3 1024 (length C / 3) x i C (length links)
triangle_link W i h q =
    record { row = record { here = omega (arith, W.rows); columns = omega arith; holding = q }; linked = omega (arith, W.few); table = W.long }

pub edge_link : {x e : ℕ} {E table : List ℕ} → EdgesLinked e E table → (i : ℕ) → i < e → holds 2 (end_in E) x i ≡ true → LinkRead 1024 2 2048 (length E / 4) x i E (length table)
edge_link L i h q =
    record { row = record { here = omega (arith, L.rows); columns = omega arith; holding = q }; linked = omega (arith, L.few); table = L.long }

any_along : {A : Type 0} (p : A → Bool) (n : ℕ) (row : ℕ → A) (f : ℕ → ℕ) → any (λ k. p (row k)) (tab n f) ≡ any p (tab n (λ k. row (f k)))
unfolding any tab
any_along p zero row f = refl
any_along p (suc n) row f = ap (λ (b : Bool). p (row (f 0)) || b) (any_along p n row (λ k. f (suc k)))

-- a test of the numbers is a test of the rows
any_rows : {A : Type 0} (p : A → Bool) (n : ℕ) (row : ℕ → A) → any (λ k. p (row k)) (up_to n) ≡ any p (tab n row)
unfolding up_to
any_rows p n row = any_along p n row (λ k. k)

-- ---- the model's elements

module _ (x y : ℕ) where
  triangles_hold : (i : ℕ) (ts : List Triangle) → any (λ (t : Triangle). both_in x y (corners_of t)) ts ≡ any (holds_both x y) (triangles_from i ts)
  unfolding any triangles_from
  triangles_hold i [] = refl
  triangles_hold i (t ∷ ts) = ap (λ (b : Bool). both_in x y (corners_of t) || b) (triangles_hold (suc i) ts)

  strap_more : (s : Bool) (i : ℕ) (e : Edge) (r : Bool) (l : List Element) → r ≡ any (holds_both x y) l → (s && both_in x y (ends_of e)) || r ≡ any (holds_both x y) (pick s (strap_element i e ∷ l) l)
  unfolding any
  strap_more true i e r l q = ap (λ (b : Bool). both_in x y (ends_of e) || b) q
  strap_more false i e r l q = q

  straps_hold : (i : ℕ) (es : List Edge) → any (λ (e : Edge). structural? e && both_in x y (ends_of e)) es ≡ any (holds_both x y) (straps_from i es)
  unfolding any straps_from
  straps_hold i [] = refl
  straps_hold i (e ∷ es) = strap_more (structural? e) i e (any (λ (e : Edge). structural? e && both_in x y (ends_of e)) es) (straps_from (suc i) es) (straps_hold (suc i) es)

  module _ (t e : ℕ) (C E : List ℕ) where
    -- the triangles of the block are those of the mesh
    pub held_triangles : (r : Bool) → r ≡ any (triangle_holds x y C) (up_to t) → HeldTold Triangles x y t e C E r
    unfolding held elements_of triangles_at
    held_triangles r q =
        record {
          is =
              λ M W L p s.
              q ∙ any_rows (λ (a : Triangle). both_in x y (corners_of a)) t (triangle_row (length C / 3) (length W / 2) C W)
              ∙ ap (any (λ (a : Triangle). both_in x y (corners_of a))) (sym p) ∙ triangles_hold 0 M.triangles;
        }

    -- the structural edges
    pub held_straps : (r : Bool) → r ≡ any (strap_holds_of x y E) (up_to e) → HeldTold Straps x y t e C E r
    unfolding held elements_of edges_at
    held_straps r q =
        record {
          is =
              λ M W L p s.
              q ∙ any_rows (λ (a : Edge). structural? a && both_in x y (ends_of a)) e (edge_row (length E / 4) (length L / 4) E L)
              ∙ ap (any (λ (a : Edge). structural? a && both_in x y (ends_of a))) (sym s) ∙ straps_hold 0 M.edges;
        }

    -- nothing has no element
    pub held_nothing : HeldTold Nothing x y t e C E false
    unfolding held elements_of any
    held_nothing = record { is = λ M W L p s. refl }
