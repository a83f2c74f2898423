-- Laws of labels that are spread one at a time through one table.
-- Assumes nothing.
use mathlib.Core.Path.{◌≡◌, refl, sym, ◌∙◌, ap, subst}
use mathlib.Core.Logic.{◌⊎◌, inl, inr, ⊎_elim}
use mathlib.Core.List.{List, [], ◌∷◌}
use Prim.Native.Nat.{ℕ, zero, suc, ◌+◌, ◌-◌, ◌<◌, ◌≤◌}
use native.Mathlib.Omega.{arith}
use native.Mathlib.Nat.{not-suc-le-zero, le_of_suc-le-suc}
use native.Mathlib.Decide.{ℕ_discrete, dec_lt}
use borrow.Author.Tests.{lt-ltb, le-ltb}
use lib.ListN.{length, get_or, set, length-set}
use Rattle.lists.specs.Chain.{Chain, stay, ahead, back}
use Rattle.lists.proofs.Chains.{chain_trans, chain_sym, chain_keeps, chain_to}
use Rattle.lists.proofs.Stores.{stored, at_eq}
use Rattle.fan.specs.Fan.{Fan, Near, size}
use Rattle.fan.specs.Grouping.{Firsts}
use Rattle.fan.specs.Groups.{labels_of}
use Rattle.fan_reach.specs.Spread.{label, label_at, waits, waiting, Beside, Spreading, Settled, Reached, Reaching, Onward, Next, Going, Spread}
use Rattle.fan.proofs.Grouped.{labels_first}

-- ---- labels

label_low : (n x : ℕ) → x < n → label n x ≡ x
unfolding label
label_low n x l = rw (lt-ltb x n l)

label_high : (n x : ℕ) → n ≤ x → label n x ≡ x - n
unfolding label
label_high n x l = rw (le-ltb x n l)

-- ---- places that wait

waits_low : (n x : ℕ) → x < n → waits n x ≡ 1
unfolding waits
waits_low n x l = rw (lt-ltb x n l)

waits_high : (n x : ℕ) → n ≤ x → waits n x ≡ 0
unfolding waits
waits_high n x l = rw (le-ltb x n l)

waiting_set : (n : ℕ) (t : List ℕ) (i x : ℕ) → i < length t → waiting n (set t i x) + waits n (get_or t i 0) ≡ waiting n t + waits n x
unfolding waiting
waiting_set n [] i x l = absurd (not-suc-le-zero l)
waiting_set n (y ∷ t) zero x l = omega arith
waiting_set n (y ∷ t) (suc i) x l = let h = waiting_set n t i x (le_of_suc-le-suc l) in omega arith

-- ---- neighbours

pub beside_turn : {F : Fan} {a b : ℕ} → Beside F a b → Beside F b a
beside_turn w = ⊎_elim (λ n. inr n) (λ n. inl n) w

beside_chain : {F : Fan} {a b : ℕ} → Beside F a b → Chain (Near F) a b
beside_chain w = ⊎_elim (λ n. ahead n stay) (λ n. back n stay) w

beside_within : {F : Fan} {a b : ℕ} → Beside F a b → (a < size F) × (b < size F)
beside_within w =
    ⊎_elim
    (λ n. let o = n.order in let m = n.within in (omega arith, omega arith))
    (λ n. let o = n.order in let m = n.within in (omega arith, omega arith))
    w

-- two that are no neighbours, the earlier first, are none in the other order
pub missed : {F : Fan} {a b : ℕ} → a < b → (Near F a b → ⊥) → Beside F a b → ⊥
missed l no_near w = ⊎_elim no_near (λ n. let o = n.order in omega arith) w

-- ---- one label

module _ {F : Fan} {i : ℕ} {t : List ℕ} (S : Spreading F i t) where
  -- an element that holds a low number has it for a label
  label_of : (a x : ℕ) → get_or t a 0 ≡ x → x < size F → label_at F t a ≡ x
  label_of a x e l = ap (label (size F)) e ∙ label_low (size F) x l

  -- an untouched j, a neighbour of a, is reached
  module _ (a j : ℕ) (la : a < size F) (own : get_or t a 0 ≡ i) (ij : i < j) (lj : j < size F) (free : get_or t j 0 ≡ j) (w : Beside F a j) where
    within : j < length t
    within = omega (arith, S.long)

    -- the label of j is now i, and every other's is what it was
    reached_label : (b : ℕ) → ((b ≡ j) × ((get_or (set t j i) b 0 ≡ i) × (label_at F (set t j i) b ≡ i)))
        ⊎ ((b ≡ j → ⊥) × ((get_or (set t j i) b 0 ≡ get_or t b 0) × (label_at F (set t j i) b ≡ label_at F t b)))
    reached_label b =
        ⊎_elim
        (λ y. inl (y.0, (y.1, ap (label (size F)) y.1 ∙ label_low (size F) i (omega arith))))
        (λ y. inr (y.0, (y.1, ap (label (size F)) y.1)))
        (stored t j i b within)

    -- a spread element has no label above i, so it is no neighbour of j
    apart : (b : ℕ) → Beside F b j → size F ≤ get_or t b 0 → ⊥
    apart b v m =
        let lb = beside_within v in
        let e = S.closed b j v m in
        let h = label_high (size F) (get_or t b 0) m in
        let u = S.top b lb.0 in
        let x = label_of j j free lj in
        omega arith

    pub reach : Spreading F i (set t j i)
    reach =
        record {
          long = length-set t j i ∙ S.long;
          low = λ b l. ⊎_elim (λ y. omega arith) (λ y. let m = S.low b l in let e = y.1.0 in omega arith) (reached_label b);
          waits = λ b l m.
              ⊎_elim
              (λ y. inr y.1.0)
              (λ y.
              let e = y.1.0 in
              ⊎_elim (λ u. inl (e ∙ u)) (λ u. inr (e ∙ u)) (S.waits b l (omega arith)))
              (reached_label b);
          top = λ b l. ⊎_elim (λ y. let e = y.1.0 in omega arith) (λ y. let e = y.1.0 in let m = S.top b l in omega arith) (reached_label b);
          down = λ b l. ⊎_elim (λ y. let e = y.1.1 in let d = y.0 in omega arith) (λ y. let e = y.1.1 in let m = S.down b l in omega arith) (reached_label b);
          chain = λ b l.
              ⊎_elim
              (λ y.
              chain_to (sym y.1.1)
              (chain_trans (chain_sym (chain_to (sym y.0) (beside_chain w))) (chain_to (label_of a i own (omega arith)) (S.chain a la))))
              (λ y. chain_to (sym y.1.1) (S.chain b l))
              (reached_label b);
          closed = λ b c v m.
              ⊎_elim
              (λ y. absurd (let e = y.1.0 in omega arith))
              (λ y.
              let e = y.1.0 in
              let m' : size F ≤ get_or t b 0 = omega arith in
              ⊎_elim
              (λ z. absurd (apart b (⊎_elim (λ n. inl (rw z.0 at n)) (λ n. inr (rw z.0 at n)) v) m'))
              (λ z. z.1.1 ∙ S.closed b c v m' ∙ sym y.1.1)
              (reached_label c))
              (reached_label b);
        }

    -- the number of those that wait stays, and so does what holds of a
    pub reach_waiting : waiting (size F) (set t j i) ≡ waiting (size F) t
    reach_waiting =
        let h = waiting_set (size F) t j i within in
        let x = waits_low (size F) (get_or t j 0) (omega arith) in
        let y = waits_low (size F) i (omega arith) in
        omega arith

    pub reach_own : get_or (set t j i) a 0 ≡ i
    reach_own = ⊎_elim (λ y. y.1) (λ y. y.1 ∙ own) (stored t j i a within)

    pub reach_kept : (b : ℕ) → size F ≤ get_or t b 0 → size F ≤ get_or (set t j i) b 0
    reach_kept b m =
        ⊎_elim (λ y. absurd (let e = at_eq t y.0 in omega arith)) (λ y. let e = y.1 in omega arith) (stored t j i b within)

    -- j has the label, and none that had it lost it
    pub reach_here : label_at F (set t j i) j ≡ i
    reach_here = ⊎_elim (λ y. y.1.1) (λ y. absurd (y.0 refl)) (reached_label j)

    pub reach_still : (b : ℕ) → label_at F t b ≡ i → label_at F (set t j i) b ≡ i
    reach_still b e = ⊎_elim (λ y. y.1.1) (λ y. y.1.1 ∙ e) (reached_label b)

    -- with j, one more neighbour of a has its label
    pub reach_done : ((b : ℕ) → b < j → Beside F a b → label_at F t b ≡ i) → (b : ℕ) → b < j + 1 → Beside F a b → label_at F (set t j i) b ≡ i
    reach_done D b l v = ⊎_elim (λ y. y.1.1) (λ y. y.1.1 ∙ D b (let n = y.0 in omega arith) v) (reached_label b)

  -- one that was touched before has a's label, if it is a neighbour
  pub touched_label : (a b : ℕ) → get_or t a 0 ≡ i → i < size F → (get_or t b 0 ≡ b → ⊥) → Beside F a b → label_at F t b ≡ i
  touched_label a b own li ne v =
      elim (dec_lt (get_or t b 0) (size F)) [
        | yes m ↦ ⊎_elim (λ u. absurd (ne u)) (λ u. label_of b i u li) (S.waits b (beside_within v).1 m)
        | no m ↦ sym (S.closed b a (beside_turn v) (omega arith)) ∙ label_of a i own li
      ]

  pub pass_done : (a j : ℕ) → get_or t a 0 ≡ i → i < size F → (get_or t j 0 ≡ j → ⊥) → ((b : ℕ) → b < j → Beside F a b → label_at F t b ≡ i)
      → (b : ℕ) → b < j + 1 → Beside F a b → label_at F t b ≡ i
  pass_done a j own li ne D b l v =
      elim (ℕ_discrete b j) [
        | yes e ↦ touched_label a b own li (λ u. ne (sym (at_eq t e) ∙ u ∙ e)) v
        | no n ↦ D b (omega arith) v
      ]

  -- one that is no neighbour is no news
  pub miss_done : (a j : ℕ) → (Beside F a j → ⊥) → ((b : ℕ) → b < j → Beside F a b → label_at F t b ≡ i)
      → (b : ℕ) → b < j + 1 → Beside F a b → label_at F t b ≡ i
  miss_done a j no_beside D b l v =
      elim (ℕ_discrete b j) [
        | yes e ↦ absurd (no_beside (⊎_elim (λ n. inl (rw e at n)) (λ n. inr (rw e at n)) v))
        | no n ↦ D b (omega arith) v
      ]

  -- the neighbours of a that are not above i have its label
  pub low_done : (a : ℕ) → get_or t a 0 ≡ i → i < size F → (b : ℕ) → b < i + 1 → Beside F a b → label_at F t b ≡ i
  low_done a own li b l v =
      elim (dec_lt (get_or t b 0) (size F)) [
        | yes m ↦
            elim (ℕ_discrete b i) [
              | yes e ↦ ⊎_elim (λ u. label_of b i (u ∙ e) li) (λ u. label_of b i u li) (S.waits b (beside_within v).1 m)
              | no n ↦ absurd (let h = S.low b (omega arith) in omega arith)
            ]
        | no m ↦ sym (S.closed b a (beside_turn v) (omega arith)) ∙ label_of a i own li
      ]

  -- a, whose neighbours all have its label, is marked
  module _ (a : ℕ) (la : a < size F) (li : i < size F) (own : get_or t a 0 ≡ i) (D : (b : ℕ) → b < size F → Beside F a b → label_at F t b ≡ i) where
    in_table : a < length t
    in_table = omega (arith, S.long)

    -- no label changes
    marked_label : (b : ℕ) → label_at F (set t a (i + size F)) b ≡ label_at F t b
    marked_label b =
        ⊎_elim
        (λ y.
        let h = ap (label (size F)) y.1 in
        let x = label_high (size F) (i + size F) (omega arith) in
        let z = label_of b i (at_eq t y.0 ∙ own) li in
        omega arith)
        (λ y. ap (label (size F)) y.1)
        (stored t a (i + size F) b in_table)

    pub mark : Spreading F i (set t a (i + size F))
    mark =
        record {
          long = length-set t a (i + size F) ∙ S.long;
          low = λ b l. ⊎_elim (λ y. let e = y.1 in omega arith) (λ y. let e = y.1 in let m = S.low b l in omega arith) (stored t a (i + size F) b in_table);
          waits = λ b l m.
              ⊎_elim
              (λ y. absurd (let e = y.1 in omega arith))
              (λ y. let e = y.1 in ⊎_elim (λ u. inl (e ∙ u)) (λ u. inr (e ∙ u)) (S.waits b l (omega arith)))
              (stored t a (i + size F) b in_table);
          top = λ b l. ⊎_elim (λ y. let e = y.1 in omega arith) (λ y. let e = y.1 in let m = S.top b l in omega arith) (stored t a (i + size F) b in_table);
          down = λ b l. let e = marked_label b in let m = S.down b l in omega arith;
          chain = λ b l. chain_to (sym (marked_label b)) (S.chain b l);
          closed = λ b c v m.
              marked_label c
              ∙ ⊎_elim
              (λ y. D c (beside_within v).1 (⊎_elim (λ n. inl (rw y.0 at n)) (λ n. inr (rw y.0 at n)) v) ∙ sym (label_of b i (at_eq t y.0 ∙ own) li))
              (λ y. S.closed b c v (let e = y.1 in omega arith))
              (stored t a (i + size F) b in_table)
              ∙ sym (marked_label b);
        }

    pub mark_here : size F ≤ get_or (set t a (i + size F)) a 0
    mark_here = ⊎_elim (λ y. let e = y.1 in omega arith) (λ y. absurd (y.0 refl)) (stored t a (i + size F) a in_table)

    pub mark_kept : (b : ℕ) → size F ≤ get_or t b 0 → size F ≤ get_or (set t a (i + size F)) b 0
    mark_kept b m = ⊎_elim (λ y. let e = y.1 in omega arith) (λ y. let e = y.1 in omega arith) (stored t a (i + size F) b in_table)

    pub mark_waiting : waiting (size F) (set t a (i + size F)) < waiting (size F) t
    mark_waiting =
        let h = waiting_set (size F) t a (i + size F) in_table in
        let x = waits_low (size F) (get_or t a 0) (omega arith) in
        let y = waits_high (size F) (i + size F) (omega arith) in
        omega arith

-- ---- from one element

pub reaching_none : {F : Fan} {i a : ℕ} {t : List ℕ} → Reached F i a t → Reaching F i a t t (i + 1)
reaching_none {F} {i} {a} {t} R =
    record {
      above = omega arith;
      upto = let l = R.lowest in omega arith;
      reached = R;
      kept = λ b m. m;
      same = refl;
      done = low_done R.spreading a R.has R.lowest;
    }

module _ {F : Fan} {i a : ℕ} {t q : List ℕ} {j : ℕ} (R : Reaching F i a t q j) (l : j < size F) where
  -- j is not untouched, or no neighbour
  pub reaching_pass : (get_or q j 0 ≡ j → ⊥) → Reaching F i a t q (j + 1)
  reaching_pass ne =
      record {
        above = let m = R.above in omega arith;
        upto = omega arith;
        reached = R.reached;
        kept = R.kept;
        same = R.same;
        done = pass_done R.reached.spreading a j R.reached.has R.reached.lowest ne R.done;
      }

  pub reaching_miss : (Beside F a j → ⊥) → Reaching F i a t q (j + 1)
  reaching_miss ne =
      record {
        above = let m = R.above in omega arith;
        upto = omega arith;
        reached = R.reached;
        kept = R.kept;
        same = R.same;
        done = miss_done R.reached.spreading a j ne R.done;
      }

  -- j is an untouched neighbour
  pub reaching_reach : get_or q j 0 ≡ j → Beside F a j → Reaching F i a t (set q j i) (j + 1)
  reaching_reach free w =
      let S = R.reached.spreading in
      let la = R.reached.within in
      let own = R.reached.has in
      let ij = R.above in
      record {
        above = omega arith;
        upto = omega arith;
        reached = record { spreading = reach S a j la own ij l free w; within = la; lowest = R.reached.lowest; has = reach_own S a j la own ij l free w };
        kept = λ b m. reach_kept S a j la own ij l free w b (R.kept b m);
        same = reach_waiting S a j la own ij l free w ∙ R.same;
        done = reach_done S a j la own ij l free w R.done;
      }

-- a itself is not above i, and is passed
pub reached_above : {F : Fan} {i a : ℕ} {t : List ℕ} → Reached F i a t → i ≤ a
reached_above {F} {i} {a} {t} R =
    let e = label_of R.spreading a i R.has R.lowest in
    let d = R.spreading.down a R.within in
    omega arith

pub reaching_self : {F : Fan} {i a : ℕ} {t q : List ℕ} {j : ℕ} → Reaching F i a t q j → a ≤ j → j ≤ a + 1 → Reaching F i a t q (a + 1)
reaching_self {F} {i} {a} {t} {q} {j} R le ge =
    elim (ℕ_discrete j a) [
      | yes e ↦
          let S : Reaching F i a t q a = subst (λ (m : ℕ). Reaching F i a t q m) e R in
          reaching_pass S R.reached.within (λ d. let h = R.reached.has in let m = R.above in omega arith)
      | no n ↦ let e : j ≡ a + 1 = omega arith in subst (λ (m : ℕ). Reaching F i a t q m) e R
    ]

-- the way may be gone in two parts
pub reaching_own : {F : Fan} {i a : ℕ} {t q : List ℕ} {j : ℕ} → Reaching F i a t q j → Reaching F i a q q j
reaching_own R = record { above = R.above; upto = R.upto; reached = R.reached; kept = λ b m. m; same = refl; done = R.done }

pub reaching_then : {F : Fan} {i a : ℕ} {t q r : List ℕ} {j m : ℕ} → Reaching F i a t q j → Reaching F i a q r m → Reaching F i a t r m
reaching_then R S =
    record { above = S.above; upto = S.upto; reached = S.reached; kept = λ b m. S.kept b (R.kept b m); same = S.same ∙ R.same; done = S.done }

pub reaching_at : {F : Fan} {i a j : ℕ} {t q r : List ℕ} → r ≡ q → Reaching F i a t q j → Reaching F i a t r j
reaching_at {F} {i} {a} {j} {t} {q} {r} e R = rw e R

-- all have been looked at: a is marked
pub reaching_all : {F : Fan} {i a : ℕ} {t q : List ℕ} → Reaching F i a t q (size F) → Onward F i a t (set q a (i + size F))
reaching_all {F} {i} {a} {t} {q} R =
    let S = R.reached.spreading in
    let la = R.reached.within in
    let li = R.reached.lowest in
    let own = R.reached.has in
    record {
      spreading = mark S a la li own R.done;
      here = mark_here S a la li own R.done;
      kept = λ b m. mark_kept S a la li own R.done b (R.kept b m);
      fewer = let h = mark_waiting S a la li own R.done in let e = R.same in omega arith;
    }

-- ---- all labels

-- at first each element is untouched
pub settled_none : (F : Fan) (t : List ℕ) → length t ≡ size F → ((a : ℕ) → a < length t → get_or t a 0 ≡ a) → Settled F 0 t
settled_none F t len own =
    let at : (a : ℕ) → a < size F → get_or t a 0 ≡ a = λ a l. own a (omega arith) in
    let lab : (a : ℕ) → a < size F → label_at F t a ≡ a = λ a l. ap (label (size F)) (at a l) ∙ label_low (size F) a l in
    record {
      spreading = record {
        long = len;
        low = λ a l. absurd (not-suc-le-zero l);
        waits = λ a l m. inl (at a l);
        top = λ a l. let e = at a l in omega arith;
        down = λ a l. let e = lab a l in omega arith;
        chain = λ a l. chain_to (sym (lab a l)) stay;
        closed = λ a b v m. absurd (let w = beside_within v in let e = at a w.0 in omega (arith, w.0));
      };
      calm = λ a l m. at a l;
    }

-- the next label, where i is spread and none has the label i and waits
pub settled_next : {F : Fan} {i : ℕ} {t : List ℕ} → Spreading F i t → i < size F → size F ≤ get_or t i 0
    → ((a : ℕ) → a < size F → get_or t a 0 < size F → get_or t a 0 ≡ a) → Settled F (i + 1) t
settled_next {F} {i} {t} S li here calm =
    record {
      spreading = record {
        long = S.long;
        low = λ a l. elim (ℕ_discrete a i) [ yes e ↦ let x = at_eq t e in omega arith | no n ↦ S.low a (omega arith) ];
        waits = λ a l m. inl (calm a l m);
        top = λ a l. let m = S.top a l in omega arith;
        down = S.down;
        chain = S.chain;
        closed = S.closed;
      };
      calm = calm;
    }

-- one that is not untouched is spread
pub settled_skip : {F : Fan} {i : ℕ} {t : List ℕ} → Settled F i t → i < size F → (get_or t i 0 ≡ i → ⊥) → Settled F (i + 1) t
settled_skip {F} {i} {t} S li ne =
    settled_next S.spreading li
    (elim (dec_lt (get_or t i 0) (size F)) [ yes m ↦ absurd (ne (S.calm i li m)) | no m ↦ omega arith ])
    S.calm

-- where no reached one is left
pub settled_end : {F : Fan} {i : ℕ} {t : List ℕ} → Spreading F i t → i < size F → size F ≤ get_or t i 0
    → ((a : ℕ) → i < a → a < length t → get_or t a 0 ≡ i → ⊥) → Settled F (i + 1) t
settled_end {F} {i} {t} S li here none =
    settled_next S li here
    (λ a l m.
    ⊎_elim (λ u. u)
    (λ u.
    elim (ℕ_discrete a i) [
      | yes e ↦ u ∙ sym e
      | no n ↦
          elim (dec_lt a i) [
            | yes k ↦ absurd (let h = S.low a k in omega arith)
            | no k ↦ absurd (none a (omega arith) (omega (arith, S.long)) u)
          ]
    ])
    (S.waits a l m))

-- ---- from one element after the other

pub going_none : {F : Fan} {i : ℕ} {t : List ℕ} → Settled F i t → i < size F → get_or t i 0 ≡ i → Going F i t i
going_none {F} {i} {t} S li own =
    record {
      spreading = S.spreading;
      begun = inl refl;
      next = record { has = λ l. own; none = λ l. absurd (let e = S.spreading.long in omega arith) };
    }

module _ {F : Fan} {i : ℕ} {t : List ℕ} {a : ℕ} (G : Going F i t a) (li : i < size F) where
  pub going_reached : a < size F → Reached F i a t
  going_reached l = record { spreading = G.spreading; within = l; lowest = li; has = G.next.has (let e = G.spreading.long in omega arith) }

  pub going_on : {q : List ℕ} {r : ℕ} → Onward F i a t q → Next i q r → Going F i q r
  going_on {q} O N =
      record {
        spreading = O.spreading;
        begun = inr (⊎_elim (λ e. let h = O.here in let x = at_eq q e in omega arith) (λ m. O.kept i m) G.begun);
        next = N;
      }

  pub going_all : size F ≤ a → Settled F (i + 1) t
  going_all m =
      settled_end G.spreading li
      (⊎_elim (λ e. absurd (omega arith)) (λ h. h) G.begun)
      (G.next.none (let e = G.spreading.long in omega arith))

-- in the end each place holds the first element of its element's group, and n
pub spread_all : {F : Fan} {t : List ℕ} → Settled F (size F) t → Spread F t
spread_all {F} {t} S =
    let G : Spreading F (size F) t = S.spreading in
    let T : Firsts F (labels_of F) = labels_first F in
    record {
      long = G.long;
      labels = λ a l.
          let x : ℕ = get_or (labels_of F) a 0 in
          let ax = T.least a a l l stay in
          let lx : x < size F = omega arith in
          let h : label_at F t a ≡ get_or t a 0 - size F = label_high (size F) (get_or t a 0) (G.low a l) in
          let d = G.down a l in
          let up : x ≤ label_at F t a = T.least a (label_at F t a) l (omega arith) (G.chain a l) in
          let same : label_at F t a ≡ label_at F t x =
          chain_keeps (λ m. label_at F t m) (λ b c near. sym (G.closed b c (inl near) (G.low b (let o = near.order in let w = near.within in omega arith)))) (T.chain a l) in
          let dx = G.down x lx in
          let k = G.low a l in
          omega arith;
    }

pub settled_at : {F : Fan} {i : ℕ} {t q : List ℕ} → q ≡ t → Settled F i t → Settled F i q
settled_at {F} {i} {t} {q} e S = rw e S
