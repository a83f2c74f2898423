-- Laws of a walk along the edges at a particle, by their table. What is said of the first edges and stays true at an edge without the particle is known at each edge that the walk comes to, and of all edges in the end. Assumes nothing.
use Prim.Native.Nat.{ℕ, zero, suc, ◌+◌, ◌/◌, ◌-◌, ◌≤◌, ◌<◌, zero-le}
use native.Mathlib.Omega.{arith}
use mathlib.Core.Path.{◌≡◌, sym, ap₂, subst, ◌∙◌}
use mathlib.Core.Bool.{Bool, true, false}
use mathlib.Core.List.{List, [], ◌∷◌}
use lib.ListN.{length, get_or}
use Rattle.lists.specs.Lists.{stands, tab}
use Rattle.lists.proofs.Truths.{not_true}
use Rattle.columns.specs.Block.{cell}
use Rattle.columns.proofs.Cells.{col_0, col_1}
use Rattle.links.specs.Links.{lowest, holds, first_of, next_of}
use Rattle.links.specs.Rooms.{LinkRead, FirstIs, NextIs}
use Rattle.links.specs.Linked.{EdgesLinked}
use Rattle.links.proofs.Parts.{two_columns}
use Rattle.links.proofs.Lowest.{low_most}
use Rattle.links.proofs.Walked.{still_left, next_is, further_on}

-- does edge i have an end at v
abbrev pub at_edge : List ℕ → ℕ → ℕ → Bool
at_edge ends v i = holds 2 (cell 0 (length ends / 4) ends) v i

-- as the program reads its ends
pub at_edge_read : (ends : List ℕ) (v i : ℕ) → at_edge ends v i ≡ stands v (get_or ends i 0 ∷ get_or ends (length ends / 4 + i) 0 ∷ [])
unfolding holds tab
at_edge_read ends v i = ap₂ (λ (a b : ℕ). stands v (a ∷ b ∷ [])) (col_0 0 (length ends / 4) ends i) (col_1 0 (length ends / 4) ends i)

-- at the head of the loop: S is known of the first `left` edges, and `at` is the next that holds v
pub record Walk (e : ℕ) (ends : List ℕ) (v : ℕ) (S : ℕ → Type 0) (at : ℕ) : Type 0 where
  pub left : ℕ
  pub below : left ≤ e
  pub next : at ≡ lowest (at_edge ends v) left (e - left)
  pub so_far : S left

-- S is carried over edges that do not hold v
carried : (e : ℕ) (ends : List ℕ) (v : ℕ) (S : ℕ → Type 0) → ((j : ℕ) → j < e → at_edge ends v j ≡ false → S j → S (suc j)) → (d a : ℕ) → a + d ≤ e
    → ((j : ℕ) → a ≤ j → j < a + d → at_edge ends v j ≡ false) → S a → S (a + d)
carried e ends v S skip zero a h none s = let q : a ≡ a + 0 = omega arith in subst S q s
carried e ends v S skip (suc d) a h none s =
    let q : suc a + d ≡ a + suc d = omega arith in
    subst S q (carried e ends v S skip d (suc a) (omega arith) (λ j x y. none j (omega arith) (omega arith)) (skip a (omega arith) (none a (omega arith) (omega arith)) s))

module _ {e : ℕ} {ends table : List ℕ} (L : EdgesLinked e ends table) {v : ℕ} where
  -- the head of a particle is in the table
  pub walk_head : v < 1024 → v < length table
  walk_head h = omega (arith, L.long)

  pub walk_start : {S : ℕ → Type 0} {at : ℕ} → FirstIs v table at → v < 1024 → S 0 → Walk e ends v S at
  unfolding first_of
  walk_start F h s =
      let z : e - 0 ≡ e = omega arith in
      record { left = 0; below = zero-le; next = rw z (F.is _ _ _ _ _ L.are h); so_far = s }

  module _ {S : ℕ → Type 0} {at : ℕ} (W : Walk e ends v S at) where
    -- nothing is left
    pub walk_done : ((j : ℕ) → j < e → at_edge ends v j ≡ false → S j → S (suc j)) → at ≡ 0 → S e
    walk_done skip z =
        let b = W.below in
        let all : W.left + (e - W.left) ≡ e = omega arith in
        subst S all
        (carried e ends v S skip (e - W.left) W.left (omega arith)
        (λ j x y. not_true (at_edge ends v j) (λ t. let m = low_most (at_edge ends v) W.left (e - W.left) j x y t in let n = W.next in omega (arith, m.0))) W.so_far)

    module _ (some : 0 < at) where
      found : lowest (at_edge ends v) W.left (e - W.left) ≡ suc (at - 1)
      found = sym W.next ∙ omega arith

      -- it is one of the edges, and holds v
      pub walk_within : at - 1 < e
      walk_within = let n = next_is (at_edge ends v) W.left (e - W.left) (at - 1) found in omega (arith, n.within, W.below)

      pub walk_holds : at_edge ends v (at - 1) ≡ true
      walk_holds = (next_is (at_edge ends v) W.left (e - W.left) (at - 1) found).passes

      -- its row is in the block
      pub walk_row : at - 1 < length ends / 4
      walk_row = omega (arith, walk_within, L.rows)

      -- what reading its link asks
      pub walk_link : LinkRead 1024 2 2048 (length ends / 4) v (at - 1) ends (length table)
      walk_link =
          record {
            row = record { here = walk_row; columns = two_columns {w = 4} ends (omega arith); holding = walk_holds };
            linked = omega (arith, walk_within, L.few);
            table = L.long;
          }

      -- what is known there
      pub walk_here : ((j : ℕ) → j < e → at_edge ends v j ≡ false → S j → S (suc j)) → S (at - 1)
      walk_here skip =
          let n = next_is (at_edge ends v) W.left (e - W.left) (at - 1) found in
          let a = n.after in
          let w = walk_within in
          let to : W.left + (at - 1 - W.left) ≡ at - 1 = omega arith in
          subst S to
          (carried e ends v S skip (at - 1 - W.left) W.left (omega arith)
          (λ j x y. not_true (at_edge ends v j) (λ t. let m = low_most (at_edge ends v) W.left (e - W.left) j x (omega arith) t in let q = found in omega (arith, m.1))) W.so_far)

      module _ {next : ℕ} (N : NextIs 1024 2 2048 v (at - 1) (cell 0 (length ends / 4) ends) table next) where
        -- one step
        pub walk_more : {T : ℕ → Type 0} → T (suc (at - 1)) → Walk e ends v T next
        unfolding next_of
        walk_more t = record { left = suc (at - 1); below = walk_within; next = N.is _ L.are; so_far = t }

        -- and it is further on
        pub walk_less : still_left e next < still_left e at
        unfolding next_of
        walk_less = further_on (at_edge ends v) e at some walk_within next (N.is _ L.are)
