-- Laws of linked corners: how chains grow place by place, and that a walk along one counts the triangles that hold a side. Assumes nothing.
use Prim.Native.Nat.{ℕ, zero, suc, ◌+◌, ◌*◌, ◌/◌, ◌%◌, ◌-◌, ◌<◌, ◌≤◌, min}
use native.Mathlib.Omega.{arith}
use native.Mathlib.Nat.{not-suc-le-zero}
use native.Mathlib.Decide.{ℕ_discrete, dec_lt}
use borrow.Author.Tests.{lt-ltb, ltb-true, eq-eqb, ne_eqb}
use mathlib.Core.Path.{◌≡◌, refl, sym, ap, ap₂, subst, ◌∙◌}
use mathlib.Core.Bool.{Bool, true, false, ◌&&◌}
use mathlib.Core.Logic.{⊎_elim}
use mathlib.Core.List.{List, [], ◌∷◌}
use lib.Dec.{eqb, ltb}
use lib.ListN.{length, get_or, set, replicate, length-replicate}
use Rattle.lists.specs.Lists.{pick, stands, sift, tab}
use Rattle.lists.proofs.Stores.{stored}
use Rattle.lists.proofs.Sifts.{pick_true, stands_get, sift_ext}
use Rattle.outline.specs.Outline.{holds, single}
use Rattle.outline_tables.specs.Rows.{row3, rows3, Even}
use Rattle.outline_tables.specs.Links.{chain_at, held_to, LastBefore, Chained, Sized, LinkRoom, Linked}
use Rattle.outline.proofs.Pairs.{and_turned}
use Rattle.outline_tables.proofs.Adding.{count_more, count_same}
use Rattle.lists.proofs.Truths.{not_true}

-- ---- chains

-- before the first place no chain has one
pub chained_none : (chain : ℕ → ℕ) (heads links : List ℕ) → ((k : ℕ) → get_or heads k 0 ≡ 0) → Chained chain heads links 0
chained_none chain heads links z =
    record {
      head = λ k l. let e = z k in record { below = omega arith; has = λ s h. absurd (omega arith); none = λ s h g w. absurd (not-suc-le-zero g) };
      link = λ t l. absurd (not-suc-le-zero l);
    }

-- one place more: it is linked, and is the last of its chain
module _ (chain : ℕ → ℕ) (heads links : List ℕ) (q k : ℕ) (at : chain q ≡ k) (C : Chained chain heads links q) (l : q < length links) (h : k < length heads) (m : k < 1024) where
  links_more : (t : ℕ) → t < q + 1 → LastBefore chain (chain t) t (get_or (set links q (get_or heads k 0)) t 0)
  links_more t o =
      ⊎_elim
      (λ y. subst (λ (e : ℕ). LastBefore chain (chain t) t e) (sym y.1) (subst (λ (s : ℕ). LastBefore chain (chain s) s (get_or heads k 0)) (sym y.0) (subst (λ (j : ℕ). LastBefore chain j q (get_or heads k 0)) (sym at) (C.head k m))))
      (λ y. let d = y.0 in let p : t < q = omega arith in subst (λ (e : ℕ). LastBefore chain (chain t) t e) (sym y.1) (C.link t p))
      (stored links q (get_or heads k 0) t l)

  heads_more : (j : ℕ) → j < 1024 → LastBefore chain j (q + 1) (get_or (set heads k (q + 1)) j 0)
  heads_more j o =
      ⊎_elim
      (λ y.
      let e = y.1 in
      let d = y.0 in
      record {
        below = omega arith;
        has = λ s w. let r : s ≡ q = omega arith in ap chain r ∙ at ∙ sym d;
        none = λ s w r v. omega arith;
      })
      (λ y.
      let e = y.1 in
      let d = y.0 in
      let P = C.head j o in
      record {
        below = let b = P.below in omega arith;
        has = λ s w. P.has s (w ∙ e);
        none = λ s w r v.
            elim (ℕ_discrete s q) [
              | yes i ↦ d (sym v ∙ ap chain i ∙ at)
              | no ni ↦ P.none s (omega arith) (omega arith) v
            ];
      })
      (stored heads k (q + 1) j h)

  pub chained_more : Chained chain (set heads k (q + 1)) (set links q (get_or heads k 0)) (q + 1)
  chained_more = record { head = heads_more; link = links_more }

-- one place more in its chain's size
pub sized_more : (sizes : List ℕ) (q k : ℕ) → k < length sizes → Sized sizes q → Sized (set sizes k (get_or sizes k 0 + 1)) (q + 1)
sized_more sizes q k l S =
    record {
      most = λ j.
          ⊎_elim
          (λ y. omega (arith, y.1, S.most k))
          (λ y. omega (arith, y.1, S.most j))
          (stored sizes k (get_or sizes k 0 + 1) j l);
    }

-- ---- new tables, before and after the corners of m triangles are linked

abbrev none : ℕ → List ℕ
none n = replicate n 0

pub none_long : (n : ℕ) → length (none n) ≡ n
none_long n = length-replicate {A = ℕ} n 0

zeros : (n k : ℕ) → get_or (none n) k 0 ≡ 0
zeros zero k = refl
zeros (suc n) zero = refl
zeros (suc n) (suc k) = zeros n k

pub new_room : (a b c m : ℕ) → Even a b c → m ≤ a → m ≤ 1024 → LinkRoom a b c (3 * m) (none 1024) (length (none 3072)) (none 1024)
new_room a b c m E i f =
    record {
      even = E;
      inside = omega arith;
      few = omega arith;
      heads_long = none_long 1024;
      links_long = none_long 3072;
      sizes_long = none_long 1024;
      none = zeros 1024;
      empty = record { most = λ k. let e = zeros 1024 k in omega arith };
    }

pub new_linked : (a b c : List ℕ) (m : ℕ) (h l : List ℕ) → Even (length a) (length b) (length c) → m ≤ length a → m ≤ 1024
    → length h ≡ length (none 1024) → length l ≡ length (none 3072) → Chained (chain_at a b c) h l (3 * m) → Linked a b c m h l
new_linked a b c m h l E i f u v C =
    record {
      even = E;
      inside = i;
      few = f;
      heads_long = u ∙ none_long 1024;
      links_long = v ∙ none_long 3072;
      chained = C;
    }

-- ---- places

-- the chain of a place, by its corner
module _ (a b c : List ℕ) (q : ℕ) where
  pub chain_first : q % 3 ≡ 0 → get_or a (q / 3) 0 % 1024 ≡ chain_at a b c q
  unfolding chain_at
  chain_first e = rw e

  pub chain_second : q % 3 ≡ 1 → get_or b (q / 3) 0 % 1024 ≡ chain_at a b c q
  unfolding chain_at
  chain_second e = rw e

  pub chain_third : q % 3 ≡ 2 → get_or c (q / 3) 0 % 1024 ≡ chain_at a b c q
  unfolding chain_at
  chain_third e = rw e

  pub chain_below : chain_at a b c q < 1024
  unfolding chain_at
  chain_below = omega arith

-- the three corners of a triangle are its places
module _ (a b c : List ℕ) (i : ℕ) where
  place : (r d e : ℕ) → d ≡ i → e ≡ r → get_or (row3 a b c d) e 0 % 1024 ≡ get_or (row3 a b c i) r 0 % 1024
  place r d e f g = ap₂ (λ (u v : ℕ). get_or (row3 a b c u) v 0 % 1024) f g

  place_at : (r : ℕ) → r < 3 → chain_at a b c (3 * i + r) ≡ get_or (row3 a b c i) r 0 % 1024
  unfolding chain_at
  place_at r l = place r ((3 * i + r) / 3) ((3 * i + r) % 3) (omega arith) (omega arith)

-- ---- the triangles that hold a side

module _ (p : List ℕ → Bool) (f : ℕ → List ℕ) where
  -- those from j on that do not pass add nothing
  none_between : (j t : ℕ) → j ≤ t → ((k : ℕ) → j ≤ k → k < t → p (f k) ≡ false) → length (sift p (tab t f)) ≡ length (sift p (tab j f))
  none_between j zero l h = let z : j ≡ 0 = omega arith in ap (λ (m : ℕ). length (sift p (tab m f))) (sym z)
  none_between j (suc t) l h =
      elim (ℕ_discrete j (suc t)) [
        | yes e ↦ ap (λ (m : ℕ). length (sift p (tab m f))) (sym e)
        | no ne ↦
            let u : j ≤ t = omega arith in
            let r = none_between j t u (λ k g o. h k g (omega arith)) in
            let s = count_same p f t (length (sift p (tab t f))) refl (h t u (omega arith)) in
            let w : t + 1 ≡ suc t = omega arith in
            sym (s ∙ ap (λ (m : ℕ). length (sift p (tab m f))) w) ∙ r
      ]

-- the ends of a side either way round
pub held_turned : (a b c : List ℕ) (x y m : ℕ) → held_to a b c y x m ≡ held_to a b c x y m
unfolding held_to
held_turned a b c x y m = ap length (sift_ext (holds (y ∷ x ∷ [])) (holds (x ∷ y ∷ [])) (tab m (row3 a b c)) (λ t. and_turned (stands y t) (stands x t)))

module _ (a b c : List ℕ) (x y : ℕ) where
  -- a triangle with no place in the chain of x does not hold the side
  apart : (i : ℕ) → ((q : ℕ) → 3 * i ≤ q → q < 3 * i + 3 → chain_at a b c q ≡ x % 1024 → ⊥) → holds (x ∷ y ∷ []) (row3 a b c i) ≡ false
  apart i h =
      ap (λ (s : Bool). s && stands y (row3 a b c i))
      (not_true (stands x (row3 a b c i))
      (λ e.
      let w = stands_get x (row3 a b c i) e in
      h (3 * i + w.0) (omega arith) (omega (arith, w.1.0)) (place_at a b c i w.0 w.1.0 ∙ ap (λ (n : ℕ). n % 1024) w.1.1)))

  -- A walk down the chain of x has counted n triangles from t on; e is 1 more than the next place, or 0.
  pub record Walk (m n t e : ℕ) : Type 0 where
    pub inside : t ≤ m
    pub near : e ≤ 3 * t + 3
    pub below : e ≤ 3 * m
    pub has : (s : ℕ) → suc s ≡ e → chain_at a b c s ≡ x % 1024
    pub none : (q : ℕ) → e ≤ q → q < 3 * t → chain_at a b c q ≡ x % 1024 → ⊥
    pub count : n + held_to a b c x y t ≡ held_to a b c x y m

  -- it begins at the chain's last place
  pub walk_start : (m e : ℕ) → LastBefore (chain_at a b c) (x % 1024) (3 * m) e → Walk m 0 m e
  walk_start m e L = record { inside = omega arith; near = omega (arith, L.below); below = L.below; has = L.has; none = L.none; count = omega arith }

  -- triangles between the next place and t do not hold the side
  skipped : (m n t e j : ℕ) → Walk m n t e → e ≤ 3 * j → j ≤ t → held_to a b c x y t ≡ held_to a b c x y j
  unfolding held_to
  skipped m n t e j W h l =
      none_between (holds (x ∷ y ∷ [])) (row3 a b c) j t l (λ k g o. apart k (λ q u v. W.none q (omega arith) (omega arith)))

  -- a step: the triangle of the next place is looked at
  module _ (m n t e f : ℕ) (W : Walk m n t e) (some : 0 < e) (L : LastBefore (chain_at a b c) (chain_at a b c (e - 1)) (e - 1) f) where
    here : chain_at a b c (e - 1) ≡ x % 1024
    here = W.has (e - 1) (omega arith)

    -- what holds of the place after it, whatever was counted
    walk_on : (k : ℕ) → k + held_to a b c x y ((e - 1) / 3) ≡ held_to a b c x y m → Walk m k ((e - 1) / 3) f
    walk_on k d =
        record {
          inside = omega (arith, W.below);
          near = omega (arith, L.below);
          below = omega (arith, L.below, W.below);
          has = λ s h. L.has s h ∙ here;
          none = λ q h g w. L.none q h (omega arith) (w ∙ sym here);
          count = d;
        }

    -- it is before t and holds the side, or does not
    walk_more : (e - 1) / 3 < t → holds (x ∷ y ∷ []) (row3 a b c ((e - 1) / 3)) ≡ true → Walk m (n + 1) ((e - 1) / 3) f
    unfolding held_to
    walk_more l h =
        let j = (e - 1) / 3 in
        let s = skipped m n t e (j + 1) W (omega arith) (omega arith) in
        let o = count_more (holds (x ∷ y ∷ [])) (row3 a b c) j (held_to a b c x y j) refl h in
        let d = W.count in
        walk_on (n + 1) (omega arith)

    walk_less : (e - 1) / 3 < t → holds (x ∷ y ∷ []) (row3 a b c ((e - 1) / 3)) ≡ false → Walk m n ((e - 1) / 3) f
    unfolding held_to
    walk_less l h =
        let j = (e - 1) / 3 in
        let s = skipped m n t e (j + 1) W (omega arith) (omega arith) in
        let o = count_same (holds (x ∷ y ∷ [])) (row3 a b c) j (held_to a b c x y j) refl h in
        let d = W.count in
        walk_on n (omega arith)

    -- it is t itself, which has another place in the chain
    walk_again : t ≤ (e - 1) / 3 → Walk m n ((e - 1) / 3) f
    walk_again l =
        let r : t ≡ (e - 1) / 3 = omega (arith, W.near) in
        walk_on n (subst (λ (j : ℕ). n + held_to a b c x y j ≡ held_to a b c x y m) r W.count)

    -- each of these, as `holds_before` tells it
    pub walk_hit : pick (ltb ((e - 1) / 3) t) (holds (x ∷ y ∷ []) (row3 a b c ((e - 1) / 3))) false ≡ true → Walk m (n + 1) ((e - 1) / 3) f
    walk_hit h = let w = pick_true (ltb ((e - 1) / 3) t) (holds (x ∷ y ∷ []) (row3 a b c ((e - 1) / 3))) h in walk_more (ltb-true ((e - 1) / 3) t w.0) w.1

    pub walk_pass : pick (ltb ((e - 1) / 3) t) (holds (x ∷ y ∷ []) (row3 a b c ((e - 1) / 3))) false ≡ false → Walk m n ((e - 1) / 3) f
    walk_pass h =
        elim (dec_lt ((e - 1) / 3) t) [
          | yes l ↦ walk_less l (rw (lt-ltb ((e - 1) / 3) t l) at h)
          | no g ↦ walk_again (omega arith)
        ]

  -- at the chain's end all are counted
  pub walk_end : (m n t : ℕ) → Walk m n t 0 → n ≡ held_to a b c x y m
  unfolding held_to sift tab
  walk_end m n t W =
      let s = skipped m n t 0 0 W (omega arith) (omega arith) in
      let d = W.count in
      omega arith

-- ---- the other triangles, one by one; numbers are told up to 2

one_or_not : (n h : ℕ) → min 2 n ≡ min 2 h → eqb n 1 ≡ eqb h 1
one_or_not n h e =
    elim (ℕ_discrete n 1) [
      | yes i ↦ eq-eqb n 1 i ∙ sym (eq-eqb h 1 (omega arith))
      | no i ↦ ne_eqb n 1 i ∙ sym (ne_eqb h 1 (λ j. i (omega arith)))
    ]

module _ (a b c : List ℕ) (x y n i : ℕ) (told : min 2 n ≡ min 2 (held_to a b c x y i)) where
  -- one more triangle that holds the side, and one that does not
  pub told_more : holds (x ∷ y ∷ []) (row3 a b c i) ≡ true → min 2 (n + 1) ≡ min 2 (held_to a b c x y (i + 1))
  unfolding held_to
  told_more h = let o = count_more (holds (x ∷ y ∷ [])) (row3 a b c) i (held_to a b c x y i) refl h in omega arith

  pub told_same : holds (x ∷ y ∷ []) (row3 a b c i) ≡ false → min 2 n ≡ min 2 (held_to a b c x y (i + 1))
  unfolding held_to
  told_same h = let o = count_same (holds (x ∷ y ∷ [])) (row3 a b c) i (held_to a b c x y i) refl h in omega arith

  -- all are counted
  pub told_end : i ≡ length a → eqb n 1 ≡ single (rows3 a b c) (x ∷ y ∷ [])
  unfolding held_to single rows3
  told_end e = one_or_not n (held_to a b c x y i) told ∙ ap (λ (m : ℕ). eqb (held_to a b c x y m) 1) e
