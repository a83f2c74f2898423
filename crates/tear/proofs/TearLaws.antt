-- Laws of tears: bridges made slack row by row, and particles marked as damaged one by one. Assumes nothing.
use Prim.Native.Nat.{ℕ, ◌+◌, ◌*◌, ◌-◌, ◌/◌, ◌<◌, ◌≤◌}
use native.Mathlib.Nat.{not-suc-le-zero}
use native.Mathlib.Numerals.{add-one}
use native.Mathlib.Omega.{arith}
use native.Mathlib.Decide.{ℕ_discrete}
use mathlib.Core.Path.{◌≡◌, refl, sym, ◌∙◌, ap, ap₂, subst}
use mathlib.Core.Bool.{Bool, true, false, ◌&&◌, ◌||◌}
use mathlib.Core.List.{List, [], ◌∷◌, ◌++◌, map, map-append}
use lib.ListN.{length, get_or, set, length-set}
use lib.Ieee.{Float, nan}
use lib.Dec.{eqb}
use borrow.Author.Tests.{eq-eqb, ne_eqb}
use Rattle.lists.specs.Lists.{pick, stands, any, map_at_of, tab, up_to}
use Rattle.lists.proofs.Sifts.{stands_append, tab_ext, map_tab, up_to_suc}
use Rattle.lists.proofs.Rows.{rows_map}
use Rattle.float.specs.Numbers.{zero32}
use Rattle.columns.specs.Block.{cell}
use Rattle.columns.proofs.Cells.{store_same, store_row, store_col, col_0, col_1}
use Rattle.model.specs.Mesh.{Particle, Edge, changed_to}
use Rattle.model.specs.Cut.{slack}
use Rattle.model.specs.Crack.{hurt}
use Rattle.mesh.specs.At.{edge_row, edges_at, particle_by, particle_row, particles_at}
use Rattle.mesh.specs.Widths.{point_columns}
use Rattle.straddling.specs.Tests.{copies_by}
use Rattle.tear.specs.Tears.{bridges_by, slack_by, Slackened, made_by, Damaged}
use Rattle.lists.proofs.Truths.{mark_or}

-- ---- bridges

or_none : (s : Bool) → s ≡ s || false
or_none true = refl
or_none false = refl

module _ (v before count other a b : ℕ) where
  pub bridge_first : (r s : Bool) → r ≡ stands other (a ∷ b ∷ []) → r ≡ true → s ≡ stands a (copies_by v before count) → s ≡ true → true ≡ bridges_by v before count other a b
  unfolding bridges_by any
  bridge_first r s q t p u = ap₂ (λ (x y : Bool). x && (y || (stands b (copies_by v before count) || false))) (sym t ∙ q) (sym u ∙ p)

  pub bridge_second : (r s w : Bool) → r ≡ stands other (a ∷ b ∷ []) → r ≡ true → s ≡ stands a (copies_by v before count) → s ≡ false → w ≡ stands b (copies_by v before count)
      → w ≡ bridges_by v before count other a b
  unfolding bridges_by any
  bridge_second r s w q t p u e =
      or_none w ∙ ap (λ (z : Bool). z || false) e ∙ ap₂ (λ (x y : Bool). x && (y || (stands b (copies_by v before count) || false))) (sym t ∙ q) (sym u ∙ p)

  pub bridge_none : (r : Bool) → r ≡ stands other (a ∷ b ∷ []) → r ≡ false → false ≡ bridges_by v before count other a b
  unfolding bridges_by
  bridge_none r q t = ap (λ (x : Bool). x && any (λ z. stands z (copies_by v before count)) (a ∷ b ∷ [])) (sym t ∙ q)

-- row k of the edges, where columns of lengths have L places
abbrev row_in : ℕ → List ℕ → List Float → ℕ → Edge
row_in L ends lengths k = edge_row (length ends / 4) L ends lengths k

-- at the head of the loop: the bridges among the first i edges are slack, and the other rows are as they were
pub record Slackening (v before count other e : ℕ) (ends : List ℕ) (lengths₀ lengths : List Float) (i : ℕ) : Type 0 where
  pub inside : i ≤ e
  pub long : length lengths ≡ length lengths₀
  pub done : (k : ℕ) → k < i → row_in (length lengths₀ / 4) ends lengths k ≡ slack_by v before count other (row_in (length lengths₀ / 4) ends lengths₀ k)
  pub rest : (k : ℕ) → k < length lengths₀ / 4 → i ≤ k → row_in (length lengths₀ / 4) ends lengths k ≡ row_in (length lengths₀ / 4) ends lengths₀ k

-- two stores in row i
module _ (ends : List ℕ) (L : ℕ) (S : List Float) (i : ℕ) (here : i < L) (fits : 4 * L ≤ length S) where
  abbrev S₁ : List Float
  S₁ = set S (2 * L + i) zero32

  abbrev S₂ : List Float
  S₂ = set S₁ (3 * L + i) zero32

  other_row : (c k : ℕ) → k < L → (k ≡ i → ⊥) → cell nan L S₂ c k ≡ cell nan L S c k
  other_row c k h ne = store_row nan L S₁ 3 i zero32 c k h here ne ∙ store_row nan L S 2 i zero32 c k h here ne

  other_col : (c : ℕ) → c < 2 → cell nan L S₂ c i ≡ cell nan L S c i
  other_col c h = store_col nan L S₁ 3 i zero32 c i here here (λ q. omega arith) ∙ store_col nan L S 2 i zero32 c i here here (λ q. omega arith)

  slack_row : row_in L ends S₂ i ≡ slack (row_in L ends S i)
  slack_row =
      λ j.
      record {
        a = cell 0 (length ends / 4) ends 0 i;
        b = cell 0 (length ends / 4) ends 1 i;
        structural = cell 0 (length ends / 4) ends 2 i;
        torn = cell 0 (length ends / 4) ends 3 i;
        rest = other_col 0 (omega arith) j;
        initial = other_col 1 (omega arith) j;
        impulse = (store_col nan L S₁ 3 i zero32 2 i here here (λ e. omega arith) ∙ store_same nan L S 2 i zero32 (omega arith)) j;
        stress = store_same nan L S₁ 3 i zero32 (simp length-set (omega arith)) j;
      }

  same_row : (k : ℕ) → k < L → (k ≡ i → ⊥) → row_in L ends S₂ k ≡ row_in L ends S k
  same_row k h ne =
      λ j.
      record {
        a = cell 0 (length ends / 4) ends 0 k;
        b = cell 0 (length ends / 4) ends 1 k;
        structural = cell 0 (length ends / 4) ends 2 k;
        torn = cell 0 (length ends / 4) ends 3 k;
        rest = other_row 0 k h ne j;
        initial = other_row 1 k h ne j;
        impulse = other_row 2 k h ne j;
        stress = other_row 3 k h ne j;
      }

module _ (v before count other e : ℕ) (ends : List ℕ) (lengths₀ : List Float) where
  pub slackening_start : Slackening v before count other e ends lengths₀ lengths₀ 0
  slackening_start = record { inside = omega arith; long = refl; done = λ k h. absurd (not-suc-le-zero h); rest = λ k h l. refl }

  -- the ends as the program reads them
  ends_read : (i : ℕ) (t b : Bool) → t ≡ bridges_by v before count other (get_or ends i 0) (get_or ends (length ends / 4 + i) 0) → t ≡ b
      → bridges_by v before count other (cell 0 (length ends / 4) ends 0 i) (cell 0 (length ends / 4) ends 1 i) ≡ b
  ends_read i t b q p = ap₂ (bridges_by v before count other) (col_0 0 (length ends / 4) ends i) (col_1 0 (length ends / 4) ends i) ∙ sym q ∙ p

  module _ (lengths : List Float) (i : ℕ) (I : Slackening v before count other e ends lengths₀ lengths i) (h : i < e) (room : e ≤ length lengths₀ / 4) where
    pub slackening_in : (t : Bool) → t ≡ bridges_by v before count other (get_or ends i 0) (get_or ends (length ends / 4 + i) 0) → t ≡ true → (s : List Float)
        → s ≡ set (set lengths (2 * (length lengths₀ / 4) + i) zero32) (3 * (length lengths₀ / 4) + i) zero32 → Slackening v before count other e ends lengths₀ s (i + 1)
    slackening_in t q y s es =
        let L = length lengths₀ / 4 in
        let long : length lengths ≡ length lengths₀ = I.long in
        let S = set (set lengths (2 * L + i) zero32) (3 * L + i) zero32 in
        let here : i < L = omega arith in
        let fits : 4 * L ≤ length lengths = omega arith in
        let long' : length S ≡ length lengths₀ = simp length-set I.long in
        record {
          inside = omega arith;
          long = ap length es ∙ long';
          done = λ k l. ap (λ (z : List Float). row_in L ends z k) es ∙ by k l here fits (ℕ_discrete k i);
          rest = λ k l g. ap (λ (z : List Float). row_in L ends z k) es ∙ same_row ends L lengths i here fits k l (λ w. omega arith) ∙ I.rest k l (omega arith);
        }
      where
        by : (k : ℕ) → k < i + 1 → i < length lengths₀ / 4 → 4 * (length lengths₀ / 4) ≤ length lengths → Dec (k ≡ i)
            → row_in (length lengths₀ / 4) ends (set (set lengths (2 * (length lengths₀ / 4) + i) zero32) (3 * (length lengths₀ / 4) + i) zero32) k
            ≡ slack_by v before count other (row_in (length lengths₀ / 4) ends lengths₀ k)
        by k l here fits (yes w) =
            let L = length lengths₀ / 4 in
            ap (λ (z : ℕ). row_in L ends (set (set lengths (2 * L + i) zero32) (3 * L + i) zero32) z) w ∙ slack_row ends L lengths i here fits ∙ ap slack (I.rest i here (omega arith))
            ∙ sym (ap (λ (b : Bool). pick b (slack (row_in L ends lengths₀ i)) (row_in L ends lengths₀ i)) (ends_read i t true q y))
            ∙ ap (λ (z : ℕ). slack_by v before count other (row_in L ends lengths₀ z)) (sym w)
        by k l here fits (no w) = same_row ends (length lengths₀ / 4) lengths i here fits k (omega arith) w ∙ I.done k (omega arith)

    pub slackening_out : (t : Bool) → t ≡ bridges_by v before count other (get_or ends i 0) (get_or ends (length ends / 4 + i) 0) → t ≡ false → (s : List Float) → s ≡ lengths
        → Slackening v before count other e ends lengths₀ s (i + 1)
    slackening_out t q y s es =
        let L = length lengths₀ / 4 in
        record {
          inside = omega arith;
          long = ap length es ∙ I.long;
          done = λ k l. ap (λ (z : List Float). row_in L ends z k) es ∙ by k l (ℕ_discrete k i);
          rest = λ k l g. ap (λ (z : List Float). row_in L ends z k) es ∙ I.rest k l (omega arith);
        }
      where
        by : (k : ℕ) → k < i + 1 → Dec (k ≡ i) → row_in (length lengths₀ / 4) ends lengths k ≡ slack_by v before count other (row_in (length lengths₀ / 4) ends lengths₀ k)
        by k l (yes w) =
            let L = length lengths₀ / 4 in
            I.rest k (omega arith) (omega arith)
            ∙ ap (λ (z : ℕ). row_in L ends lengths₀ z) w
            ∙ sym (ap (λ (b : Bool). pick b (slack (row_in L ends lengths₀ i)) (row_in L ends lengths₀ i)) (ends_read i t false q y))
            ∙ ap (λ (z : ℕ). slack_by v before count other (row_in L ends lengths₀ z)) (sym w)
        by k l (no w) = I.done k (omega arith)

  pub slackening_done : (lengths : List Float) (i : ℕ) → Slackening v before count other e ends lengths₀ lengths i → e ≤ i → Slackened v before count other e ends lengths₀ lengths
  unfolding edges_at
  slackening_done lengths i I h =
      let inside = I.inside in
      record {
        edges =
            ap (λ (m : ℕ). tab e (row_in (m / 4) ends lengths)) I.long ∙ tab_ext e _ _ (λ k l. I.done k (omega arith))
            ∙ sym (map_tab (slack_by v before count other) e (row_in (length lengths₀ / 4) ends lengths₀));
      }

-- ---- damage

-- the particles of a list are damaged, and nothing else changed, in columns of R places
pub record Hurt (R : ℕ) (l roots₀ roots : List ℕ) : Type 0 where
  pub long : length roots ≡ length roots₀
  pub root_is : (k : ℕ) → k < R → cell 0 R roots 0 k ≡ cell 0 R roots₀ 0 k
  pub damaged_is : (k : ℕ) → k < R → cell 0 R roots 1 k ≡ pick (stands k l) 1 (cell 0 R roots₀ 1 k)

pub hurt_none : (R : ℕ) (roots : List ℕ) → Hurt R [] roots roots
hurt_none R roots = record { long = refl; root_is = λ k h. refl; damaged_is = λ k h. refl }

one_stands : (k w : ℕ) → eqb w k ≡ stands k (w ∷ [])
one_stands k w = by (eqb w k)
  where
    by : (t : Bool) → t ≡ pick t true false
    by true = refl
    by false = refl

pick_or : (s t : Bool) (x : ℕ) → t ≡ true → 1 ≡ pick (s || t) 1 x
pick_or true t x e = refl
pick_or false t x e = ap (λ (b : Bool). pick b 1 x) (sym e)

pick_stay : (s t : Bool) (x : ℕ) → t ≡ false → pick s 1 x ≡ pick (s || t) 1 x
pick_stay true t x e = refl
pick_stay false t x e = ap (λ (b : Bool). pick b 1 x) (sym e)

-- one more
pub hurt_more : (R : ℕ) (l roots₀ roots : List ℕ) (w : ℕ) → Hurt R l roots₀ roots → w < R → 2 * R ≤ length roots₀ → Hurt R (l ++ (w ∷ [])) roots₀ (set roots (R + w) 1)
hurt_more R l roots₀ roots w H here fits =
    let long : length roots ≡ length roots₀ = H.long in
    let at : R + w ≡ 1 * R + w = omega arith in
    record {
      long = length-set roots (R + w) 1 ∙ long;
      root_is = λ k h. ap (λ (m : ℕ). cell 0 R (set roots m 1) 0 k) at ∙ store_col 0 R roots 1 w 1 0 k h here (λ q. omega arith) ∙ H.root_is k h;
      damaged_is = λ k h. ap (λ (m : ℕ). cell 0 R (set roots m 1) 1 k) at ∙ by k h (omega arith) (ℕ_discrete w k);
    }
  where
    by : (k : ℕ) → k < R → 1 * R + w < length roots → Dec (w ≡ k) → cell 0 R (set roots (1 * R + w) 1) 1 k ≡ pick (stands k (l ++ (w ∷ []))) 1 (cell 0 R roots₀ 1 k)
    by k h fit (yes e) =
        ap (λ (m : ℕ). cell 0 R (set roots (1 * R + w) 1) 1 m) (sym e) ∙ store_same 0 R roots 1 w 1 fit
        ∙ pick_or (stands k l) (stands k (w ∷ [])) (cell 0 R roots₀ 1 k) (sym (one_stands k w) ∙ eq-eqb w k e)
        ∙ ap (λ (b : Bool). pick b 1 (cell 0 R roots₀ 1 k)) (sym (stands_append k l (w ∷ [])))
    by k h fit (no ne) =
        store_row 0 R roots 1 w 1 1 k h here (λ q. ne (sym q)) ∙ H.damaged_is k h
        ∙ pick_stay (stands k l) (stands k (w ∷ [])) (cell 0 R roots₀ 1 k) (sym (one_stands k w) ∙ ne_eqb w k ne)
        ∙ ap (λ (b : Bool). pick b 1 (cell 0 R roots₀ 1 k)) (sym (stands_append k l (w ∷ [])))

hurt_then : (R : ℕ) (l m roots₀ roots₁ roots : List ℕ) → Hurt R l roots₀ roots₁ → Hurt R m roots₁ roots → Hurt R (l ++ m) roots₀ roots
hurt_then R l m roots₀ roots₁ roots H I =
    record {
      long = I.long ∙ H.long;
      root_is = λ k h. I.root_is k h ∙ H.root_is k h;
      damaged_is = λ k h.
          I.damaged_is k h ∙ ap (λ (x : ℕ). pick (stands k m) 1 x) (H.damaged_is k h) ∙ mark_or (stands k l) (stands k m) (cell 0 R roots₀ 1 k)
          ∙ ap (λ (b : Bool). pick b 1 (cell 0 R roots₀ 1 k)) (sym (stands_append k l m));
    }

-- at the head of the loop: g copies are damaged
pub record Hurting (before count : ℕ) (R : ℕ) (roots₁ roots : List ℕ) (g : ℕ) : Type 0 where
  pub inside : g ≤ count - 1
  pub hurts : Hurt R (map (λ g. before + g) (up_to g)) roots₁ roots

pub hurting_start : (before count R : ℕ) (roots : List ℕ) → Hurting before count R roots roots 0
unfolding up_to tab
hurting_start before count R roots = record { inside = omega arith; hurts = hurt_none R roots }

pub hurting_more : (before count R : ℕ) (roots₁ roots : List ℕ) (g : ℕ) → Hurting before count R roots₁ roots g → g < count - 1 → before + count - 1 ≤ R → 2 * R ≤ length roots₁
    → Hurting before count R roots₁ (set roots (R + (before + g)) 1) (g + 1)
hurting_more before count R roots₁ roots g I h room fits =
    let e : map (λ g. before + g) (up_to g) ++ ((before + g) ∷ []) ≡ map (λ g. before + g) (up_to (g + 1))
    = sym (ap (map (λ g. before + g)) (ap up_to (add-one g) ∙ up_to_suc g) ∙ map-append (λ g. before + g) (up_to g) (g ∷ [])) in
    record {
      inside = omega arith;
      hurts =
          subst (λ (l : List ℕ). Hurt R l roots₁ (set roots (R + (before + g)) 1)) e
          (hurt_more R (map (λ g. before + g) (up_to g)) roots₁ roots (before + g) I.hurts (omega arith) fits);
    }

module _ (x y before count R : ℕ) (roots₀ : List ℕ) where
  -- both ends
  both_hurt : x < R → y < R → 2 * R ≤ length roots₀ → Hurt R (x ∷ y ∷ []) roots₀ (set (set roots₀ (R + x) 1) (R + y) 1)
  both_hurt hx hy fits = hurt_more R (x ∷ []) roots₀ (set roots₀ (R + x) 1) y (hurt_more R [] roots₀ roots₀ x (hurt_none R roots₀) hx fits) hy fits

  pub hurting_done : (roots : List ℕ) (g : ℕ) → R ≡ length roots₀ / 2 → x < R → y < R → Hurting before count R (set (set roots₀ (R + x) 1) (R + y) 1) roots g → count - 1 ≤ g
      → Damaged x y before count roots₀ roots
  unfolding particles_at
  hurting_done roots g e_r hx hy I h =
      let n : g ≡ count - 1 = omega (arith, I.inside) in
      let fits : 2 * R ≤ length roots₀ = omega arith in
      let H : Hurt R (x ∷ y ∷ made_by before count) roots₀ roots
      = hurt_then R (x ∷ y ∷ []) (made_by before count) roots₀ (set (set roots₀ (R + x) 1) (R + y) 1) roots (both_hurt hx hy fits)
      (subst (λ (k : ℕ). Hurt R (map (λ g. before + g) (up_to k)) (set (set roots₀ (R + x) 1) (R + y) 1) roots) n I.hurts) in
      record {
        particles = λ n points l.
            let long : length roots / 2 ≡ R = ap (λ (m : ℕ). m / 2) H.long ∙ sym e_r in
            ap (λ (m : ℕ). tab n (particle_row (length points / point_columns) m points roots)) long
            ∙ tab_ext n _ _ (λ k lk. one H points k (omega arith))
            ∙ sym (rows_map (λ i p. pick (stands i (x ∷ y ∷ made_by before count)) (hurt p) p) n (particle_row (length points / point_columns) R points roots₀))
            ∙ ap (λ (m : ℕ). map_at_of (λ i p. pick (stands i (x ∷ y ∷ made_by before count)) (hurt p) p) (tab n (particle_row (length points / point_columns) m points roots₀))) e_r;
      }
    where
      by : (t : Bool) (p : Particle) → changed_to p.mass p.inv (pick t 1 p.damaged) p ≡ pick t (hurt p) p
      by true p = refl
      by false p = refl

      one : Hurt R (x ∷ y ∷ made_by before count) roots₀ roots → (points : List Float) (k : ℕ) → k < R
          → particle_row (length points / point_columns) R points roots k ≡ pick (stands k (x ∷ y ∷ made_by before count)) (hurt (particle_row (length points / point_columns) R points roots₀ k)) (particle_row (length points / point_columns) R points roots₀ k)
      one H points k h =
          ap₂ (λ (a b : ℕ). particle_by (λ c. cell nan (length points / point_columns) points c k) a b) (H.root_is k h) (H.damaged_is k h)
          ∙ by (stands k (x ∷ y ∷ made_by before count)) (particle_row (length points / point_columns) R points roots₀ k)

-- what the program asks of the two stores
pub two_set : (roots : List ℕ) (i j : ℕ) → length (set (set roots i 1) j 1) ≡ length roots
two_set roots i j = length-set (set roots i 1) j 1 ∙ length-set roots i 1
