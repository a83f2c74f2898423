-- A loop that compacts rows in place by a mask, from one marked row to the next, over any type of row: what holds at its head, and that a turn keeps it.
use Prim.Native.Nat.{ℕ, zero, suc, ◌+◌, ◌-◌, ◌≤◌, ◌<◌, zero-le}
use native.Mathlib.Nat.{add-zero}
use native.Mathlib.Numerals.{add-one}
use native.Mathlib.Omega.{arith}
use native.Mathlib.Decide.{ℕ_discrete}
use mathlib.Core.Path.{◌≡◌, refl, sym, ap, ap₂, ◌∙◌}
use mathlib.Core.List.{List, [], ◌∷◌, ◌++◌, append-nil, append_assoc}
use lib.ListN.{length, get_or}
use lib.Dec.{eqb}
use borrow.Author.Tests.{eq-eqb, ne_eqb}
use Rattle.lists.specs.Lists.{tab, pick, keep, kept_of, nth}
use Rattle.lists.proofs.Rows.{keep_snoc, keep_tab}
use Rattle.lists.proofs.Walks.{tab_split}
use Rattle.columns.specs.View.{NextMarked}
use Rattle.columns.proofs.Rows.{tab_length, tab_at, tab_ext, tab_suc}

-- ---- the search for a marked row

-- at the head of the loop: no place before i is marked
pub record Passing (m : List ℕ) (from n i : ℕ) : Type 0 where
  pub above : from ≤ i
  pub below : i ≤ n
  pub none : (k : ℕ) → from ≤ k → k < i → get_or m k 0 ≡ 1 → ⊥

module _ (m : List ℕ) (from n : ℕ) where
  -- before the first turn no place was seen
  pub pass_start : from ≤ n → Passing m from n from
  pass_start h = record { above = omega arith; below = h; none = λ k a b. absurd (omega arith) }

  module _ (i : ℕ) (v : Passing m from n i) where
    -- a turn passes a place that is not marked
    pub pass_more : i < n → (get_or m i 0 ≡ 1 → ⊥) → Passing m from n (i + 1)
    pass_more h t = record { above = omega (arith, v.above); below = omega arith; none = λ k a b. by k a b (ℕ_discrete k i) }
      where
        by : (k : ℕ) → from ≤ k → k < i + 1 → Dec (k ≡ i) → get_or m k 0 ≡ 1 → ⊥
        by k a b (yes e) = rw e t
        by k a b (no e) = v.none k a (omega (arith, e))

    -- a marked place is the first
    pub pass_stop : i < n → get_or m i 0 ≡ 1 → NextMarked m from n i
    pass_stop h t = record { above = v.above; below = v.below; none = v.none; stop = λ _. t }

    -- after the last turn there is none
    pub pass_end : n ≤ i → NextMarked m from n n
    pass_end h =
        record {
          above = omega (arith, v.above, v.below);
          below = omega arith;
          none = λ k a b. v.none k a (omega arith);
          stop = λ s. absurd (omega arith);
        }

-- ---- what a mask leaves of rows, as they grow

module _ {A : Type 0} where
  -- the rows grow by one
  keep_grows : (m : List ℕ) (r : ℕ) (f : ℕ → A) → keep m (tab (suc r) f) ≡ keep m (tab r f) ++ pick (eqb (get_or m r 0) 1) [] (f r ∷ [])
  keep_grows m r f =
      ap (keep m) (tab_suc r f) ∙ keep_snoc m (tab r f) (f r) ∙ ap (λ (k : ℕ). keep m (tab r f) ++ pick (eqb (get_or m k 0) 1) [] (f r ∷ [])) (tab_length r f)

  -- by a marked row: what is left stays as it is
  keep_marked : (m : List ℕ) (r : ℕ) (f : ℕ → A) → get_or m r 0 ≡ 1 → keep m (tab (r + 1) f) ≡ keep m (tab r f)
  keep_marked m r f t = rw (add-one r) (keep_grows m r f ∙ rw (eq-eqb _ _ t) (append-nil (keep m (tab r f))))

  -- by no row
  no_row : (g : ℕ → A) (l : List A) → l ≡ l ++ tab 0 g
  unfolding tab
  no_row g l = sym (append-nil l)

  -- by a run of rows that are not marked: they are left too
  keep_run : (m : List ℕ) (a j : ℕ) (f : ℕ → A) → ((k : ℕ) → a ≤ k → k < a + j → get_or m k 0 ≡ 1 → ⊥) → keep m (tab (a + j) f) ≡ keep m (tab a f) ++ tab j (λ k. f (a + k))
  keep_run m a zero f h = rw (add-zero a) (no_row (λ k. f (a + k)) (keep m (tab a f)))
  keep_run m a (suc j) f h =
      let e : a + suc j ≡ suc (a + j) = omega arith in
      let t : get_or m (a + j) 0 ≡ 1 → ⊥ = h (a + j) (omega arith) (omega arith) in
      rw e
      (keep_grows m (a + j) f ∙ ap (λ b. keep m (tab (a + j) f) ++ pick b [] (f (a + j) ∷ [])) (ne_eqb _ _ t)
      ∙ ap (λ (l : List A). l ++ (f (a + j) ∷ [])) (keep_run m a j f (λ k p q. h k p (omega arith)))
      ∙ append_assoc (keep m (tab a f)) (tab j (λ k. f (a + k))) (f (a + j) ∷ [])
      ∙ ap (λ (l : List A). keep m (tab a f) ++ l) (sym (tab_suc j (λ k. f (a + k)))))

  -- and before any marked row all are left
  keep_first : (m : List ℕ) (r : ℕ) (f : ℕ → A) → ((k : ℕ) → k < r → get_or m k 0 ≡ 1 → ⊥) → keep m (tab r f) ≡ tab r f
  unfolding keep tab
  keep_first m r f h =
      let e : 0 + r ≡ r = omega arith in
      ap (λ (k : ℕ). keep m (tab k f)) (sym e) ∙ keep_run m 0 r f (λ k _ q. h k (omega arith)) ∙ tab_ext r _ _ (λ k _. let z : 0 + k ≡ k = omega arith in ap f z)

-- ---- the loop

-- the len rows from `from` on stand at `to`, and the other rows below n are as they were
pub record RowsMoved {A : Type 0} (n to from len : ℕ) (f f' : ℕ → A) : Type 0 where
  pub moved : (k : ℕ) → k < len → f' (to + k) ≡ f (from + k)
  pub other : (k : ℕ) → k < n → (to ≤ k → k < to + len → ⊥) → f' k ≡ f k

-- at the head of the loop: r rows are done, and the w that the mask leaves of them stand at the front; the next is marked
pub record Compacting {A : Type 0} (m : List ℕ) (n : ℕ) (f₀ f : ℕ → A) (w r : ℕ) : Type 0 where
  pub front : tab w f ≡ keep m (tab r f₀)
  pub rest : (k : ℕ) → r ≤ k → k < n → f k ≡ f₀ k
  pub within : w ≤ r
  pub below : r ≤ n
  pub stop : r < n → get_or m r 0 ≡ 1

module _ {A : Type 0} (m : List ℕ) (n : ℕ) where
  -- what stands before the first marked row is there already
  pub compact_start : (f : ℕ → A) (r : ℕ) → NextMarked m 0 n r → Compacting m n f f r r
  compact_start f r v =
      record {
        front = sym (keep_first m r f (λ k h. v.none k zero-le h));
        rest = λ k _ _. refl;
        within = omega arith;
        below = v.below;
        stop = v.stop;
      }

  -- a turn leaves out the marked row, and moves the rows up to the next
  pub compact_more : (f₀ f f' : ℕ → A) (w r b : ℕ) → Compacting m n f₀ f w r → r < n → NextMarked m (r + 1) n b → RowsMoved n w (r + 1) (b - (r + 1)) f f'
      → Compacting m n f₀ f' (w + (b - (r + 1))) b
  compact_more f₀ f f' w r b v h x y =
      let j = b - (r + 1) in
      let on : r + 1 ≤ b = x.above in
      let all : b ≤ n = x.below in
      let few : w ≤ r = v.within in
      let ahead : r + 1 + j ≡ b = omega arith in
      let as_many : w + j - w ≡ j = omega arith in
      let before : tab w f' ≡ keep m (tab (r + 1) f₀) = tab_ext w f' f (λ k p. y.other k (omega arith) (λ q. absurd (omega arith))) ∙ v.front ∙ sym (keep_marked m r f₀ (v.stop h)) in
      let run : tab j (λ k. f' (w + k)) ≡ tab j (λ k. f₀ (r + 1 + k)) = tab_ext j _ _ (λ k p. y.moved k p ∙ v.rest (r + 1 + k) (omega arith) (omega arith)) in
      record {
        front =
            tab_split w (w + j) f' (omega arith) ∙ ap₂ (λ (a c : List A). a ++ c) before (ap (λ (k : ℕ). tab k (λ i. f' (w + i))) as_many ∙ run)
            ∙ sym (keep_run m (r + 1) j f₀ (λ k p q. x.none k p (omega arith)))
            ∙ ap (λ (k : ℕ). keep m (tab k f₀)) ahead;
        rest = λ k p q. y.other k q (λ _ z. omega arith) ∙ v.rest k (omega arith) q;
        within = omega arith;
        below = all;
        stop = x.stop;
      }

  -- after the last turn all n rows are done
  pub compact_done : (f₀ f : ℕ → A) (w r : ℕ) → Compacting m n f₀ f w r → n ≤ r → (w ≡ kept_of m n) × (tab w f ≡ keep m (tab n f₀))
  compact_done f₀ f w r v h =
      let e : r ≡ n = omega (arith, v.below) in
      let front : tab w f ≡ keep m (tab n f₀) = v.front ∙ ap (λ (k : ℕ). keep m (tab k f₀)) e in
      (sym (tab_length w f) ∙ ap length (front ∙ keep_tab m n f₀) ∙ tab_length (kept_of m n) (λ k. f₀ (nth m n k)), front)

  -- so each row that is left stands at its place
  pub compact_row : (f₀ f : ℕ → A) (w r : ℕ) → Compacting m n f₀ f w r → n ≤ r → (d : A) (k : ℕ) → k < kept_of m n → f k ≡ f₀ (nth m n k)
  compact_row f₀ f w r v h d k p =
      let q = compact_done f₀ f w r v h in
      sym (tab_at w f k d (omega (arith, q.0))) ∙ ap (λ (l : List A). get_or l k d) (q.1 ∙ keep_tab m n f₀) ∙ tab_at (kept_of m n) (λ j. f₀ (nth m n j)) k d p
