-- Laws of slack edges over the blocks: the stores that take impulse and stress from one edge, and from the first ones in turn. Assumes nothing.
use mathlib.Core.Path.{◌≡◌, refl, sym, ◌∙◌, ap, subst}
use mathlib.Core.Bool.{Bool, true, false, ◌||◌}
use mathlib.Core.List.{List}
use Prim.Native.Nat.{ℕ, ◌+◌, ◌*◌, ◌/◌, ◌<◌, ◌≤◌}
use native.Mathlib.Omega.{arith}
use native.Mathlib.Decide.{ℕ_discrete}
use borrow.Author.Tests.{le-leb, lt-leb}
use lib.Dec.{leb}
use lib.ListN.{length, get_or, set, length-set}
use lib.Ieee.{Float, nan}
use Rattle.lists.specs.Lists.{pick, tab}
use Rattle.lists.proofs.Sifts.{tab_ext, map_tab}
use Rattle.float.specs.Numbers.{zero32}
use Rattle.columns.specs.Block.{cell}
use Rattle.columns.proofs.Cells.{store_same, store_row, store_col, col_0, col_1}
use Rattle.model.specs.Cut.{slack}
use Rattle.mesh.specs.At.{edges_at}
use Rattle.slack.specs.Slack.{beyond, slack_beyond, edge_in, SlackAt, SlackFrom}

-- ---- a test on two particles

pub first_beyond : (from x y : ℕ) → from ≤ x → true ≡ (leb from x || leb from y)
first_beyond from x y h = sym (ap (λ (s : Bool). s || leb from y) (le-leb from x h))

pub second_beyond : (from x y : ℕ) → x < from → leb from y ≡ (leb from x || leb from y)
second_beyond from x y h = sym (ap (λ (s : Bool). s || leb from y) (lt-leb from x h))

-- ---- one edge

module _ (from j : ℕ) (ends : List ℕ) (lengths : List Float) (here : j < length lengths / 4) (t : Bool) (told : t ≡ (leb from (get_or ends j 0) || leb from (get_or ends (length ends / 4 + j) 0))) where
  abbrev R : ℕ
  R = length lengths / 4

  ends_told : beyond from (edge_in ends (length lengths) lengths j) ≡ t
  unfolding beyond
  ends_told = (λ i. leb from (col_0 0 (length ends / 4) ends j i) || leb from (col_1 0 (length ends / 4) ends j i)) ∙ sym told

  -- the edge is none of those
  pub slack_not : t ≡ false → SlackAt from j ends lengths lengths
  unfolding slack_beyond
  slack_not e =
      record {
        here = sym (ap (λ (s : Bool). pick s (slack (edge_in ends (length lengths) lengths j)) (edge_in ends (length lengths) lengths j)) (ends_told ∙ e));
        others = λ k h n. refl;
      }

  once : List Float
  once = set lengths (2 * R + j) zero32

  twice : List Float
  unfolding once
  twice = set once (3 * R + j) zero32

  twice_other : (c k : ℕ) → k < R → (k ≡ j → ⊥) → cell nan R twice c k ≡ cell nan R lengths c k
  unfolding once twice
  twice_other c k h n = store_row nan R once 3 j zero32 c k h here n ∙ store_row nan R lengths 2 j zero32 c k h here n

  twice_col : (c : ℕ) → c < 2 → cell nan R twice c j ≡ cell nan R lengths c j
  unfolding once twice
  twice_col c h = store_col nan R once 3 j zero32 c j here here (λ q. omega arith) ∙ store_col nan R lengths 2 j zero32 c j here here (λ q. omega arith)

  twice_2 : cell nan R twice 2 j ≡ zero32
  unfolding once twice
  twice_2 = store_col nan R once 3 j zero32 2 j here here (λ q. omega arith) ∙ store_same nan R lengths 2 j zero32 (omega arith)

  twice_3 : cell nan R twice 3 j ≡ zero32
  unfolding once twice
  twice_3 = store_same nan R once 3 j zero32 (let e : length (set lengths (2 * R + j) zero32) ≡ length lengths = length-set lengths (2 * R + j) zero32 in omega arith)

  -- two stores make it slack
  pub slack_put : t ≡ true → SlackAt from j ends lengths (set (set lengths (2 * R + j) zero32) (3 * R + j) zero32)
  unfolding slack_beyond once twice
  slack_put e =
      let at0 = twice_col 0 (omega arith) in
      let at1 = twice_col 1 (omega arith) in
      let at2 = twice_2 in
      let at3 = twice_3 in
      let E = edge_in ends (length lengths) lengths j in
      record {
        here =
            (λ i. record { a = E.a; b = E.b; structural = E.structural; torn = E.torn; rest = at0 i; initial = at1 i; impulse = at2 i; stress = at3 i })
            ∙ sym (ap (λ (s : Bool). pick s (slack E) E) (ends_told ∙ e));
        others = λ k h n i.
            let F = edge_in ends (length lengths) lengths k in
            record {
              a = F.a;
              b = F.b;
              structural = F.structural;
              torn = F.torn;
              rest = twice_other 0 k h n i;
              initial = twice_other 1 k h n i;
              impulse = twice_other 2 k h n i;
              stress = twice_other 3 k h n i;
            };
      }

-- ---- the first ones

-- the first i edges are seen to
pub record Slackening (from i : ℕ) (ends : List ℕ) (lengths lengths' : List Float) : Type 0 where
  pub long : length lengths' ≡ length lengths
  pub done : (k : ℕ) → k < i → k < length lengths / 4 → edge_in ends (length lengths) lengths' k ≡ slack_beyond from (edge_in ends (length lengths) lengths k)
  pub left : (k : ℕ) → i ≤ k → k < length lengths / 4 → edge_in ends (length lengths) lengths' k ≡ edge_in ends (length lengths) lengths k

pub slack_none : (from : ℕ) (ends : List ℕ) (lengths : List Float) → Slackening from 0 ends lengths lengths
slack_none from ends lengths = record { long = refl; done = λ k h l. absurd (omega arith); left = λ k h l. refl }

pub slack_more : (from i : ℕ) (ends : List ℕ) (l₀ l l' : List Float) → i < length l₀ / 4 → length l' ≡ length l → Slackening from i ends l₀ l → SlackAt from i ends l l' → Slackening from (i + 1) ends l₀ l'
slack_more from i ends l₀ l l' h e A S =
    record {
      long = e ∙ A.long;
      done = λ k b c.
          elim (ℕ_discrete k i) [
            | yes q ↦ subst (λ (m : ℕ). edge_in ends (length l₀) l' m ≡ slack_beyond from (edge_in ends (length l₀) l₀ m)) (sym q) (here₀ ∙ ap (slack_beyond from) (A.left i (omega arith) h))
            | no n ↦ others₀ k c n ∙ A.done k (omega (arith, n)) c
          ];
      left = λ k b c. others₀ k c (λ q. omega arith) ∙ A.left k (omega arith) c;
    }
  where
    -- the same by the length at the start
    here₀ : edge_in ends (length l₀) l' i ≡ slack_beyond from (edge_in ends (length l₀) l i)
    here₀ = subst (λ (m : ℕ). edge_in ends m l' i ≡ slack_beyond from (edge_in ends m l i)) A.long S.here

    others₀ : (k : ℕ) → k < length l₀ / 4 → (k ≡ i → ⊥) → edge_in ends (length l₀) l' k ≡ edge_in ends (length l₀) l k
    others₀ = subst (λ (m : ℕ). (k : ℕ) → k < m / 4 → (k ≡ i → ⊥) → edge_in ends m l' k ≡ edge_in ends m l k) A.long S.others

pub slack_done : (from e i : ℕ) (ends : List ℕ) (l₀ l : List Float) → i ≡ e → e ≤ length l₀ / 4 → Slackening from i ends l₀ l → SlackFrom from e ends l₀ l
unfolding edges_at
slack_done from e i ends l₀ l q h A =
    record {
      edges = ap (λ (m : ℕ). tab e (edge_in ends m l)) A.long
          ∙ tab_ext e (edge_in ends (length l₀) l) (λ k. slack_beyond from (edge_in ends (length l₀) l₀ k)) (λ k b. A.done k (omega arith) (omega arith))
          ∙ sym (map_tab (slack_beyond from) e (edge_in ends (length l₀) l₀));
    }
