-- `labelled` gives the labels of a test: for each place the lowest that a chain of pairs that the test joins leads to. Labels are the only ones,
-- equal exactly where a chain joins, not above their place, and their own labels. Assumes nothing.
use mathlib.Core.Path.{◌≡◌, refl, sym, ◌∙◌, ap, subst}
use mathlib.Core.Bool.{Bool, true, false}
use mathlib.Core.Logic.{◌⊎◌, inl, inr, ⊎_elim}
use mathlib.Core.List.{List}
use Prim.Native.Nat.{ℕ, zero, suc, ◌+◌, ◌-◌, ◌<◌, ◌≤◌, min, max}
use native.Mathlib.Omega.{arith}
use native.Mathlib.Decide.{ℕ_discrete, dec_le}
use lib.ListN.{length, get_or, length-map}
use lib.Seq.{ext_get_or}
use Rattle.lists.specs.Lists.{pick, up_to}
use Rattle.lists.specs.Chain.{Chain, stay, ahead, back}
use Rattle.lists.specs.Labels.{Lowest, Joins, replaced, merged, join_pair, join_row, join_rows, labelled}
use Rattle.lists.proofs.Chains.{chain_trans, chain_sym, chain_map, chain_keeps, chain_to, chain_within}
use Rattle.lists.proofs.Stores.{at_eq, tab_length, tab_at, map_at, replaced_case}

-- ---- what labels are, for any relation

module _ {R : ℕ → ℕ → Type 0} {n : ℕ} {p : List ℕ} (T : Lowest R n p) where
  -- a label is not above its place
  pub lowest_down : (i : ℕ) → i < n → get_or p i 0 ≤ i
  lowest_down i l = T.least i i l l stay

  -- places that a chain joins have one label, and the other way round
  pub lowest_same : (i j : ℕ) → i < n → j < n → Chain R i j → get_or p i 0 ≡ get_or p j 0
  lowest_same i j l m c =
      let di : get_or p i 0 ≤ i = lowest_down i l in
      let dj : get_or p j 0 ≤ j = lowest_down j m in
      let a : get_or p i 0 ≤ get_or p j 0 = T.least i (get_or p j 0) l (omega arith) (chain_trans c (T.chain j m)) in
      let b : get_or p j 0 ≤ get_or p i 0 = T.least j (get_or p i 0) m (omega arith) (chain_trans (chain_sym c) (T.chain i l)) in
      omega arith

  pub lowest_chain : (i j : ℕ) → i < n → j < n → get_or p i 0 ≡ get_or p j 0 → Chain R i j
  lowest_chain i j l m e = chain_trans (chain_to e (T.chain i l)) (chain_sym (T.chain j m))

  -- a label is its own label
  pub lowest_flat : (i : ℕ) → i < n → get_or p (get_or p i 0) 0 ≡ get_or p i 0
  lowest_flat i l = sym (lowest_same i (get_or p i 0) l (let d = lowest_down i l in omega arith) (T.chain i l))

-- the labels of a relation are the only ones
pub lowest_unique : {R : ℕ → ℕ → Type 0} {n : ℕ} (p q : List ℕ) → Lowest R n p → Lowest R n q → p ≡ q
lowest_unique {R} {n} p q T S =
    ext_get_or 0 p q (T.every ∙ sym S.every)
    (λ i h.
    let l : i < n = omega (arith, T.every) in
    let a = lowest_down T i l in
    let b = lowest_down S i l in
    let c = T.least i (get_or q i 0) l (omega arith) (S.chain i l) in
    let d = S.least i (get_or p i 0) l (omega arith) (T.chain i l) in
    omega arith)

-- relations whose chains are the same have the same labels
pub lowest_map : {R S : ℕ → ℕ → Type 0} {n : ℕ} {p : List ℕ} → ((i j : ℕ) → Chain R i j → Chain S i j) → ((i j : ℕ) → Chain S i j → Chain R i j) → Lowest R n p → Lowest S n p
lowest_map to from T = record { every = T.every; chain = λ i l. to _ _ (T.chain i l); least = λ i j l m c. T.least i j l m (from i j c) }

-- ---- labels under way

-- each place has the number of one that a chain joins to it, not above its own
pub record Labels (R : ℕ → ℕ → Type 0) (n : ℕ) (p : List ℕ) : Type 0 where
  pub long : length p ≡ n
  pub down : (a : ℕ) → a < n → get_or p a 0 ≤ a
  pub chain : (a : ℕ) → a < n → Chain R a (get_or p a 0)

-- q has labels, and keeps what p has equal
pub record Keeps (R : ℕ → ℕ → Type 0) (n : ℕ) (p q : List ℕ) : Type 0 where
  pub labels : Labels R n q
  pub same : (a b : ℕ) → a < n → b < n → get_or p a 0 ≡ get_or p b 0 → get_or q a 0 ≡ get_or q b 0

module _ {R : ℕ → ℕ → Type 0} {n : ℕ} {p : List ℕ} (i j : ℕ) (li : i < n) (lj : j < n) (L : Labels R n p) (near : R i j) where
  at_merged : (a : ℕ) → a < n → get_or (merged (get_or p i 0) (get_or p j 0) p) a 0 ≡ replaced (max (get_or p i 0) (get_or p j 0)) (min (get_or p i 0) (get_or p j 0)) (get_or p a 0)
  unfolding merged
  at_merged a l = map_at _ p a 0 0 (omega (arith, L.long))

  across : Chain R (get_or p i 0) (get_or p j 0)
  across = chain_trans (chain_sym (L.chain i li)) (ahead near (L.chain j lj))

  -- from the higher label to the lower
  down_across : Chain R (max (get_or p i 0) (get_or p j 0)) (min (get_or p i 0) (get_or p j 0))
  down_across =
      elim (dec_le (get_or p i 0) (get_or p j 0)) [
        | yes h ↦
            let e : max (get_or p i 0) (get_or p j 0) ≡ get_or p j 0 = omega arith in
            let f : min (get_or p i 0) (get_or p j 0) ≡ get_or p i 0 = omega arith in
            rw (e, f) (chain_sym across)
        | no h ↦
            let e : max (get_or p i 0) (get_or p j 0) ≡ get_or p i 0 = omega arith in
            let f : min (get_or p i 0) (get_or p j 0) ≡ get_or p j 0 = omega arith in
            rw (e, f) across
      ]

  merged_case : (z : ℕ)
      → ((z ≡ max (get_or p i 0) (get_or p j 0)) × (replaced (max (get_or p i 0) (get_or p j 0)) (min (get_or p i 0) (get_or p j 0)) z ≡ min (get_or p i 0) (get_or p j 0)))
      ⊎ ((z ≡ max (get_or p i 0) (get_or p j 0) → ⊥) × (replaced (max (get_or p i 0) (get_or p j 0)) (min (get_or p i 0) (get_or p j 0)) z ≡ z))
  merged_case = replaced_case (max (get_or p i 0) (get_or p j 0)) (min (get_or p i 0) (get_or p j 0))

  merged_labels : Labels R n (merged (get_or p i 0) (get_or p j 0) p)
  unfolding merged
  merged_labels =
      record {
        long = length-map p _ ∙ L.long;
        down = λ a l. ⊎_elim (λ c. omega (arith, at_merged a l, L.down a l)) (λ c. omega (arith, at_merged a l, L.down a l)) (merged_case (get_or p a 0));
        chain = λ a l.
            ⊎_elim (λ c. chain_to (sym (at_merged a l ∙ c.1)) (chain_trans (chain_to c.0 (L.chain a l)) down_across))
            (λ c. chain_to (sym (at_merged a l ∙ c.1)) (L.chain a l))
            (merged_case (get_or p a 0));
      }

  merged_keeps : Keeps R n p (merged (get_or p i 0) (get_or p j 0) p)
  merged_keeps =
      record {
        labels = merged_labels;
        same = λ a b l m e. at_merged a l ∙ ap (replaced (max (get_or p i 0) (get_or p j 0)) (min (get_or p i 0) (get_or p j 0))) e ∙ sym (at_merged b m);
      }

  lower : (z : ℕ) → (z ≡ get_or p i 0) ⊎ (z ≡ get_or p j 0) → replaced (max (get_or p i 0) (get_or p j 0)) (min (get_or p i 0) (get_or p j 0)) z ≡ min (get_or p i 0) (get_or p j 0)
  lower z d =
      ⊎_elim (λ c. c.1) (λ c. c.1 ∙ ⊎_elim (λ e. let n = c.0 in omega arith) (λ e. let n = c.0 in omega arith) d) (merged_case z)

  merged_even : get_or (merged (get_or p i 0) (get_or p j 0) p) i 0 ≡ get_or (merged (get_or p i 0) (get_or p j 0) p) j 0
  merged_even = at_merged i li ∙ lower _ (inl refl) ∙ sym (at_merged j lj ∙ lower _ (inr refl))

keeps_refl : {R : ℕ → ℕ → Type 0} {n : ℕ} {p : List ℕ} → Labels R n p → Keeps R n p p
keeps_refl L = record { labels = L; same = λ a b l m e. e }

keeps_trans : {R : ℕ → ℕ → Type 0} {n : ℕ} {p q r : List ℕ} → Keeps R n p q → Keeps R n q r → Keeps R n p r
keeps_trans K M = record { labels = M.labels; same = λ a b l m e. M.same a b l m (K.same a b l m e) }

-- ---- the loops of `labelled`, for one test

module _ (near : ℕ → ℕ → Bool) (n : ℕ) where
  not_joined : (i j : ℕ) → near i j ≡ false → Joins near n i j → ⊥
  not_joined i j e k = let y = k.joined in let z : ◌≡◌ {A = ℕ} 0 1 = cc in omega arith

  pair_by : (p : List ℕ) (i j : ℕ) → i < j → j < n → Labels (Joins near n) n p → (b : Bool) → near i j ≡ b
      → Keeps (Joins near n) n p (pick b (merged (get_or p i 0) (get_or p j 0) p) p)
      × (Joins near n i j → get_or (pick b (merged (get_or p i 0) (get_or p j 0) p) p) i 0 ≡ get_or (pick b (merged (get_or p i 0) (get_or p j 0) p) p) j 0)
  pair_by p i j o w L true e =
      let k : Joins near n i j = record { order = o; within = w; joined = e } in
      (merged_keeps i j (omega arith) w L k, λ _. merged_even i j (omega arith) w L k)
  pair_by p i j o w L false e = (keeps_refl L, λ k. absurd (not_joined i j e k))

  pair_kept : (p : List ℕ) (i j : ℕ) → i < j → j < n → Labels (Joins near n) n p
      → Keeps (Joins near n) n p (join_pair near i j p) × (Joins near n i j → get_or (join_pair near i j p) i 0 ≡ get_or (join_pair near i j p) j 0)
  unfolding join_pair
  pair_kept p i j o w L = pair_by p i j o w L (near i j) refl

  row_kept : (i m j : ℕ) (p : List ℕ) → i < j → j + m ≤ n → Labels (Joins near n) n p
      → Keeps (Joins near n) n p (join_row near i m j p)
      × ((b : ℕ) → j ≤ b → b < j + m → Joins near n i b → get_or (join_row near i m j p) i 0 ≡ get_or (join_row near i m j p) b 0)
  unfolding join_row
  row_kept i zero j p o w L = (keeps_refl L, λ b l h k. absurd (omega arith))
  row_kept i (suc m) j p o w L =
      let P = pair_kept p i j o (omega arith) L in
      let S = row_kept i m (suc j) (join_pair near i j p) (omega arith) (omega arith) P.0.labels in (
        keeps_trans P.0 S.0,
        λ b l h k.
            elim (ℕ_discrete b j) [
              | yes e ↦ S.0.same i b (omega arith) (let u = k.within in u) (P.1 (subst (λ (c : ℕ). Joins near n i c) e k) ∙ at_eq (join_pair near i j p) (sym e))
              | no ne ↦ S.1 b (omega arith) (omega arith) k
            ],
      )

  rows_kept : (m i : ℕ) (p : List ℕ) → i + m ≡ n → Labels (Joins near n) n p
      → Keeps (Joins near n) n p (join_rows near n m i p)
      × ((a b : ℕ) → i ≤ a → Joins near n a b → get_or (join_rows near n m i p) a 0 ≡ get_or (join_rows near n m i p) b 0)
  unfolding join_rows
  rows_kept zero i p e L = (keeps_refl L, λ a b l k. absurd (let u = k.within in let o = k.order in omega arith))
  rows_kept (suc m) i p e L =
      let P = row_kept i (n - suc i) (suc i) p (omega arith) (omega arith) L in
      let S = rows_kept m (suc i) (join_row near i (n - suc i) (suc i) p) (omega arith) P.0.labels in (
        keeps_trans P.0 S.0,
        λ a b l k.
            let u = k.within in
            let o = k.order in
            elim (ℕ_discrete a i) [
              | yes d ↦ S.0.same a b (omega arith) u (at_eq (join_row near i (n - suc i) (suc i) p) d ∙ P.1 b (omega arith) (omega arith) (subst (λ (c : ℕ). Joins near n c b) d k))
              | no ne ↦ S.1 a b (omega arith) k
            ],
      )

  labels_start : Labels (Joins near n) n (up_to n)
  unfolding up_to
  labels_start =
      record {
        long = tab_length n (λ k. k);
        down = λ a l. omega (arith, tab_at n (λ k. k) a 0 l);
        chain = λ a l. chain_to (sym (tab_at n (λ k. k) a 0 l)) stay;
      }

  -- ---- what `labelled` gives

  pub labelled_lowest : Lowest (Joins near n) n (labelled near n)
  unfolding labelled
  labelled_lowest =
      let S = rows_kept n 0 (up_to n) (omega arith) labels_start in
      record {
        every = S.0.labels.long;
        chain = S.0.labels.chain;
        least = λ i j l m c.
            let e : get_or (labelled near n) i 0 ≡ get_or (labelled near n) j 0 = chain_keeps (λ a. get_or (labelled near n) a 0) (λ a b k. S.1 a b (omega arith) k) c in
            omega (arith, e, S.0.labels.down j m);
      }

  -- equal labels exactly where a chain joins
  pub labelled_joined : (i j : ℕ) → i < n → j < n
      → (get_or (labelled near n) i 0 ≡ get_or (labelled near n) j 0 → Chain (Joins near n) i j)
      × (Chain (Joins near n) i j → get_or (labelled near n) i 0 ≡ get_or (labelled near n) j 0)
  labelled_joined i j l m = (lowest_chain labelled_lowest i j l m, lowest_same labelled_lowest i j l m)

  pub labelled_length : length (labelled near n) ≡ n
  labelled_length = labelled_lowest.every

  -- a label is not above its place, and is its own label
  pub labelled_down : (i : ℕ) → i < n → get_or (labelled near n) i 0 ≤ i
  labelled_down = lowest_down labelled_lowest

  pub labelled_flat : (i : ℕ) → i < n → get_or (labelled near n) (get_or (labelled near n) i 0) 0 ≡ get_or (labelled near n) i 0
  labelled_flat = lowest_flat labelled_lowest

  -- any labels of the test are these
  pub labelled_only : (p : List ℕ) → Lowest (Joins near n) n p → p ≡ labelled near n
  labelled_only p T = lowest_unique p (labelled near n) T labelled_lowest

  -- two places that the test joins in whichever order are joined, where it says the same of both orders
  pub joins_either : (i j : ℕ) → i < n → j < n → near i j ≡ near j i → near i j ≡ true → Chain (Joins near n) i j
  joins_either i j l m e t =
      elim (ℕ_discrete i j) [
        | yes q ↦ chain_to q stay
        | no ne ↦
            elim (dec_le i j) [
              | yes o ↦ let k : Joins near n i j = record { order = omega arith; within = m; joined = t } in ahead k stay
              | no nl ↦ let k : Joins near n j i = record { order = omega arith; within = l; joined = sym e ∙ t } in back k stay
            ]
      ]

-- tests that agree on pairs below n, the earlier first, have the same labels
pub labelled_ext : (near far : ℕ → ℕ → Bool) (n : ℕ) → ((i j : ℕ) → i < j → j < n → near i j ≡ far i j) → labelled near n ≡ labelled far n
labelled_ext near far n e =
    labelled_only far n (labelled near n)
    (lowest_map
    (λ i j. chain_map (λ a b k. ahead (record { order = k.order; within = k.within; joined = sym (e a b k.order k.within) ∙ k.joined }) stay))
    (λ i j. chain_map (λ a b k. ahead (record { order = k.order; within = k.within; joined = e a b k.order k.within ∙ k.joined }) stay))
    (labelled_lowest near n))

-- a chain of pairs below n that starts below n ends there
pub joins_below : {near : ℕ → ℕ → Bool} {n i j : ℕ} → i < n → Chain (Joins near n) i j → j < n
joins_below {near} {n} l c = chain_within (λ m. m < n) (λ a b k. (let o = k.order in let w = k.within in omega arith, k.within)) l c
