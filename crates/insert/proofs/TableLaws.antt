-- Laws of the table of the edges at an insertion: the second end of the strap is moved, and the new edge is appended. Assumes nothing.
use Prim.Native.Nat.{ℕ, zero, suc, ◌+◌, ◌/◌, ◌<◌, ◌≤◌}
use native.Mathlib.Omega.{arith}
use native.Mathlib.Decide.{ℕ_discrete}
use mathlib.Core.Path.{◌≡◌, refl, sym, ap, ◌∙◌, subst}
use mathlib.Core.List.{List, [], ◌∷◌, ◌++◌}
use lib.ListN.{length, get_or, set, get_or-append}
use lib.Seq.{get_or-set_same, get_or-set_other, get_or_at}
use lib.Ieee.{Float}
use Rattle.columns.specs.Block.{cell}
use Rattle.model.specs.Mesh.{Edge, blank_edge}
use Rattle.model.specs.Cut.{half_of}
use Rattle.mesh.specs.At.{edges_at}
use Rattle.mesh.specs.Workers.{edge_of, row_at}
use Rattle.mesh.specs.declared.EdgeRow.{EdgeRow}
use Rattle.work.proofs.Grows.{edges_get, edges_many}
use Rattle.links.specs.Links.{LinksOf}
use Rattle.links.specs.Linked.{EdgesLinked}
use Rattle.link_changes.specs.Changes.{corner_moved, MoveRoom, AppendRoom}
use Rattle.link_changes.proofs.Chained.{moved_here, moved_row, moved_column}
use Rattle.link_changes.proofs.Edged.{pairs_move_room, pairs_moved, pairs_append_room, pairs_appended}
use Rattle.insert.specs.Inserts.{EdgeStored, EdgesRoom}
use Rattle.insert.specs.Tables.{StrapLinked, NewEnds}
use Rattle.insert.specs.declared.plan.Plan.{Plan}

-- an end of an edge, by its column
abbrev end_by : ℕ → Edge → ℕ
end_by zero x = x.a
end_by (suc c) x = x.b

-- it is a cell of the block
end_cell : (ends : List ℕ) (lengths : List Float) (c j : ℕ) → c < 2 → cell 0 (length ends / 4) ends c j ≡ end_by c (row_at ends lengths j)
end_cell ends lengths zero j h = refl
end_cell ends lengths (suc zero) j h = refl
end_cell ends lengths (suc (suc c)) j h = absurd (omega arith)

module _ (plan : Plan) (e : ℕ) (ends table : List ℕ) (lengths : List Float) (R : EdgesRoom plan e (length ends) (length lengths)) (T : StrapLinked plan e ends table) (N : NewEnds plan e) where
  abbrev i : ℕ
  i = plan.number

  abbrev p : ℕ
  p = plan.before

  abbrev f : ℕ → ℕ → ℕ
  f = cell 0 (length ends / 4) ends

  head : p < 1024
  head = omega (arith, N.heads)

  -- the new particle is no end of the strap
  fresh : (d : ℕ) → d < 2 → f d i ≡ p → ⊥
  fresh zero h q = let a = N.a_in in let s = T.a_is in omega arith
  fresh (suc zero) h q = let b = N.b_in in let s = T.b_is in omega arith
  fresh (suc (suc d)) h q = omega arith

  pub strap_move_room : MoveRoom plan.number 1 plan.before 1024 2 2048 (length ends / 4) e ends table
  strap_move_room = pairs_move_room {w = 4} (omega arith) T.linked R.here (omega arith) head fresh

  module _ (ends₁ ends₂ table₁ : List ℕ) (lengths₁ lengths₂ : List Float) (first second : EdgeRow) (u v : Float)
      (M : LinksOf 1024 2 2048 e (corner_moved plan.number 1 plan.before (cell 0 (length ends / 4) ends)) table₁) (lt₁ : length table₁ ≡ length table)
      (is₁ : edge_of first ≡ half_of (edge_of plan.row) plan.row.a plan.before u) (S : EdgeStored plan.number (edge_of first) ends ends₁ lengths lengths₁) (le₁ : length ends₁ ≡ length ends)
      (is₂ : edge_of second ≡ half_of (edge_of plan.row) (plan.before + 1) plan.row.b v) (A : edges_at (e + 1) ends₂ lengths₂ ≡ edges_at e ends₁ lengths₁ ++ (edge_of second ∷ []))
      (le₂ : length ends₂ ≡ length ends) where
    -- the rows behind the store
    stored : edges_at e ends₁ lengths₁ ≡ set (edges_at e ends lengths) i (edge_of first)
    stored = let a = R.room.ends in let b = R.room.lengths in S.edges e (omega arith) (omega arith)

    row_other : (j : ℕ) → j < e → (j ≡ i → ⊥) → row_at ends₁ lengths₁ j ≡ row_at ends lengths j
    row_other j h n =
        sym (edges_get e ends₁ lengths₁ j h) ∙ ap (λ (l : List Edge). get_or l j blank_edge) stored ∙ get_or-set_other (edges_at e ends lengths) i j (edge_of first) blank_edge n ∙ edges_get e ends lengths j h

    row_own : row_at ends₁ lengths₁ i ≡ edge_of first
    row_own =
        sym (edges_get e ends₁ lengths₁ i R.here) ∙ ap (λ (l : List Edge). get_or l i blank_edge) stored
        ∙ get_or-set_same (edges_at e ends lengths) i (edge_of first) blank_edge (omega (arith, R.here, edges_many e ends lengths))

    cells₁ : (d j : ℕ) → d < 2 → j < e → Dec (j ≡ i) → corner_moved i 1 p f d j ≡ cell 0 (length ends₁ / 4) ends₁ d j
    unfolding half_of
    cells₁ d j h l (no n) = sym (moved_row 1024 2 2048 i 1 p f d j n) ∙ end_cell ends lengths d j h ∙ ap (end_by d) (sym (row_other j l n)) ∙ sym (end_cell ends₁ lengths₁ d j h)
    cells₁ zero j h l (yes q) =
        rw q
        (sym (moved_column 1024 2 2048 i 1 p f 0 (λ z. omega arith)) ∙ T.a_is ∙ ap (λ (x : Edge). x.a) (sym (row_own ∙ is₁)))
    cells₁ (suc zero) j h l (yes q) = rw q (moved_here 1024 2 2048 i 1 p f ∙ ap (λ (x : Edge). x.b) (sym (row_own ∙ is₁)))
    cells₁ (suc (suc d)) j h l (yes q) = absurd (omega arith)

    -- the table of the edges with the first half
    linked₁ : EdgesLinked e ends₁ table₁
    linked₁ = pairs_moved {w = 4} (omega arith) T.linked R.here (omega arith) head fresh le₁ lt₁ (λ d j x y. cells₁ d j x y (ℕ_discrete j i)) M

    -- the rows behind the new one
    row_kept : (j : ℕ) → j < e → row_at ends₂ lengths₂ j ≡ row_at ends₁ lengths₁ j
    row_kept j h =
        sym (edges_get (e + 1) ends₂ lengths₂ j (omega arith)) ∙ ap (λ (l : List Edge). get_or l j blank_edge) A
        ∙ get_or-append (edges_at e ends₁ lengths₁) (edge_of second ∷ []) blank_edge j (omega (arith, edges_many e ends₁ lengths₁)) ∙ edges_get e ends₁ lengths₁ j h

    row_new : row_at ends₂ lengths₂ e ≡ edge_of second
    row_new =
        sym (edges_get (e + 1) ends₂ lengths₂ e (omega arith)) ∙ ap (λ (l : List Edge). get_or l e blank_edge) A
        ∙ get_or_at (edges_at e ends₁ lengths₁) (edge_of second) [] blank_edge e (edges_many e ends₁ lengths₁)

    cells₂ : (c j : ℕ) → c < 2 → j < e → cell 0 (length ends₁ / 4) ends₁ c j ≡ cell 0 (length ends₂ / 4) ends₂ c j
    cells₂ c j h l = end_cell ends₁ lengths₁ c j h ∙ ap (end_by c) (sym (row_kept j l)) ∙ sym (end_cell ends₂ lengths₂ c j h)

    new_a : cell 0 (length ends₂ / 4) ends₂ 0 e ≡ p + 1
    unfolding half_of
    new_a = ap (λ (x : Edge). x.a) (row_new ∙ is₂)

    new_b : cell 0 (length ends₂ / 4) ends₂ 1 e ≡ plan.row.b
    unfolding half_of
    new_b = ap (λ (x : Edge). x.b) (row_new ∙ is₂)

    rows₂ : e + 1 ≤ length ends₂ / 4
    rows₂ = subst (λ (l : ℕ). e + 1 ≤ l / 4) (sym le₂) R.room.ends

    first_in : cell 0 (length ends₂ / 4) ends₂ 0 e < 1024
    first_in = omega (arith, new_a, N.heads)

    second_in : cell 0 (length ends₂ / 4) ends₂ 1 e < 1024
    second_in = omega (arith, new_b, N.heads, N.b_in)

    differ : cell 0 (length ends₂ / 4) ends₂ 0 e ≡ cell 0 (length ends₂ / 4) ends₂ 1 e → ⊥
    differ q = omega (arith, new_a, new_b, N.b_in)

    pub strap_append_room : AppendRoom 1024 2 2048 (length ends / 4) e ends₂ table₁
    strap_append_room =
        subst (λ (l : ℕ). AppendRoom 1024 2 2048 (l / 4) e ends₂ table₁) le₂ (pairs_append_room {w = 4} (omega arith) linked₁ ends₂ cells₂ N.few rows₂ first_in second_in differ)

    pub strap_linked : {table₂ : List ℕ} → length table₂ ≡ length table₁ → LinksOf 1024 2 2048 (e + 1) (cell 0 (length ends / 4) ends₂) table₂ → EdgesLinked (e + 1) ends₂ table₂
    strap_linked {table₂} lt₂ L =
        pairs_appended {w = 4} (omega arith) linked₁ ends₂ cells₂ N.few rows₂ first_in second_in differ lt₂
        (subst (λ (l : ℕ). LinksOf 1024 2 2048 (e + 1) (cell 0 (l / 4) ends₂) table₂) (sym le₂) L)
