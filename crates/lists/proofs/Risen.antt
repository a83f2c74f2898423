-- Laws of rising lists: how far they reach, which one a test makes, and what a list is without the places of one. Assumes nothing.
use mathlib.Core.Path.{◌≡◌, refl, sym, ◌∙◌, ap}
use mathlib.Core.Bool.{Bool, true, false, not}
use mathlib.Core.List.{List, [], ◌∷◌, ◌++◌, map, append-nil}
use Prim.Native.Nat.{ℕ, zero, suc, ◌+◌, ◌-◌, ◌<◌, ◌≤◌}
use native.Mathlib.Omega.{arith}
use native.Mathlib.Decide.{ℕ_discrete, dec_lt}
use lib.ListN.{length, get_or, take}
use Rattle.lists.specs.Lists.{pick, sift, tab, up_to}
use Rattle.lists.specs.LeftOut.{Rising, Listed, without, left_out}
use Rattle.lists.proofs.Sifts.{pick_ap, sift_append, take_tab, tab_suc, up_to_suc, map_tab}
use Rattle.lists.proofs.Truths.{untrue}

-- ---- how far a rising list reaches

-- the numbers from place i on have places of their own below e
pub rising_room : {list : List ℕ} {r e : ℕ} → Rising list r e → (i : ℕ) → i < r → get_or list i 0 + (r - i) ≤ e
rising_room {list} {r} {e} R i h = on (r - i - 1) i h (omega arith)
  where
    on : (k i : ℕ) → i < r → r ≡ i + 1 + k → get_or list i 0 + (r - i) ≤ e
    on zero i h q = omega (arith, R.below i h)
    on (suc k) i h q = omega (arith, on k (i + 1) (omega arith) (omega arith), R.rises i (i + 1) (omega arith) (omega arith))

pub rising_few : {list : List ℕ} {r e : ℕ} → Rising list r e → r ≤ e
rising_few {list} {r} {e} R =
    elim (dec_lt 0 r) [
      | yes h ↦ omega (arith, rising_room R 0 h)
      | no h ↦ omega (arith, h)
    ]

-- ---- the rising list of the numbers that pass

-- one number more of a list
pub take_more : {A : Type 0} (r : ℕ) (l : List A) (d : A) → r < length l → take (suc r) l ≡ take r l ++ (get_or l r d ∷ [])
take_more {A} r l d h =
    take_tab (suc r) l d h ∙ tab_suc r (λ k. get_or l k d) ∙ ap (λ (t : List A). t ++ (get_or l r d ∷ [])) (sym (take_tab r l d (omega arith)))

-- the first r of the list are exactly the numbers below e that pass, rising
record Exactly (p : ℕ → Bool) (list : List ℕ) (e r : ℕ) : Type 0 where
  rising : Rising list r e
  only : (i : ℕ) → i < r → p (get_or list i 0) ≡ true
  each : (x : ℕ) → x < e → p x ≡ true → Listed list r x

module _ (p : ℕ → Bool) (list : List ℕ) (e r : ℕ) (G : Exactly p list (suc e) r) where
  -- the last of them is e, where e passes
  module _ (h : p e ≡ true) where
    found : Listed list r e
    found = G.each e (omega arith) h

    last_place : found.place ≡ r - 1
    last_place =
        elim (dec_lt found.place (r - 1)) [
          | yes b ↦ absurd (omega (arith, found.is, G.rising.rises found.place (r - 1) b (omega arith), G.rising.below (r - 1) (omega arith)))
          | no b ↦ omega (arith, b, found.within)
        ]

    last_is : get_or list (r - 1) 0 ≡ e
    last_is = ap (λ (z : ℕ). get_or list z 0) (sym last_place) ∙ found.is

    not_last : (x : ℕ) → x < e → Listed list r x → Listed list (r - 1) x
    not_last x l v =
        record {
          place = v.place;
          within =
              elim (ℕ_discrete v.place (r - 1)) [
                | yes q ↦ absurd (let z : e ≡ x = sym last_is ∙ ap (λ (z : ℕ). get_or list z 0) (sym q) ∙ v.is in omega arith)
                | no q ↦ omega (arith, q, v.within)
              ];
          is = v.is;
        }

    -- and the others are before it
    before_last : Exactly p list e (r - 1)
    before_last =
        record {
          rising =
              record {
                rises = λ i j l m. G.rising.rises i j l (omega arith);
                below = λ i l. omega (arith, last_is, G.rising.rises i (r - 1) l (omega (arith, found.within)));
              };
          only = λ i l. G.only i (omega arith);
          each = λ x l q. not_last x l (G.each x (omega arith) q);
        }

  -- e does not pass
  none_last : p e ≡ false → Exactly p list e r
  none_last h =
      record {
        rising =
            record {
              rises = G.rising.rises;
              below =
                  λ i l.
                  elim (ℕ_discrete (get_or list i 0) e) [
                    | yes q ↦ untrue (sym h ∙ ap p (sym q) ∙ G.only i l)
                    | no q ↦ omega (arith, q, G.rising.below i l)
                  ];
            };
        only = G.only;
        each = λ x l q. G.each x (omega arith) q;
      }

exactly_sift : (p : ℕ → Bool) (list : List ℕ) (e r : ℕ) → r ≤ length list → Exactly p list e r → take r list ≡ sift p (up_to e)
unfolding sift up_to tab
exactly_sift p list zero r long G = ap (λ (z : ℕ). take z list) (let z : r ≡ 0 = omega (arith, rising_few G.rising) in z)
exactly_sift p list (suc e) r long G =
    by (p e) refl (exactly_sift p list e) ∙ sym (ap (sift p) (up_to_suc e) ∙ sift_append p (up_to e) (e ∷ []))
  where
    by : (t : Bool) → p e ≡ t → ((q : ℕ) → q ≤ length list → Exactly p list e q → take q list ≡ sift p (up_to e)) → take r list ≡ sift p (up_to e) ++ pick (p e) (e ∷ []) []
    by true h ih =
        let some : r ≡ suc (r - 1) = omega (arith, (found p list e r G h).within) in
        ap (λ (z : ℕ). take z list) some ∙ take_more (r - 1) list 0 (omega (arith, some))
        ∙ ap (λ (t : List ℕ). t ++ (get_or list (r - 1) 0 ∷ [])) (ih (r - 1) (omega arith) (before_last p list e r G h))
        ∙ ap (λ (z : ℕ). sift p (up_to e) ++ (z ∷ [])) (last_is p list e r G h) ∙ ap (λ (t : Bool). sift p (up_to e) ++ pick t (e ∷ []) []) (sym h)
    by false h ih =
        ih r long (none_last p list e r G h) ∙ sym (append-nil (sift p (up_to e))) ∙ ap (λ (t : Bool). sift p (up_to e) ++ pick t (e ∷ []) []) (sym h)

-- a rising list of exactly the numbers below e that pass is their sift
pub rising_sift : (p : ℕ → Bool) (list : List ℕ) (e r : ℕ) → r ≤ length list → Rising list r e → ((i : ℕ) → i < r → p (get_or list i 0) ≡ true)
    → ((x : ℕ) → x < e → p x ≡ true → Listed list r x) → take r list ≡ sift p (up_to e)
rising_sift p list e r long R o a = exactly_sift p list e r long (record { rising = R; only = o; each = a })

-- ---- left out

-- the last place of the list goes first
pub left_out_last : {A : Type 0} (is : List ℕ) (i : ℕ) (l : List A) → left_out (is ++ (i ∷ [])) l ≡ left_out is (without i l)
unfolding left_out
left_out_last [] i l = refl
left_out_last (j ∷ is) i l = ap (without j) (left_out_last is i l)

-- places behind the first element
left_out_behind : {A : Type 0} (is : List ℕ) (a : A) (l : List A) → left_out (map (λ k. suc k) is) (a ∷ l) ≡ a ∷ left_out is l
unfolding left_out without
left_out_behind [] a l = refl
left_out_behind (i ∷ is) a l = ap (without (suc i)) (left_out_behind is a l)

-- a sift of what f makes
pub sift_map : {A B : Type 0} (p : B → Bool) (f : A → B) (l : List A) → sift p (map f l) ≡ map f (sift (λ a. p (f a)) l)
unfolding sift
sift_map p f [] = refl
sift_map {A} p f (a ∷ l) = rw (sift_map p f l) (pick_ap (map f) (p (f a)) (a ∷ sift (λ a. p (f a)) l) (sift (λ a. p (f a)) l))

-- a list without the places of the elements that pass
pub left_out_sift : {A : Type 0} (p : A → Bool) (l : List A) (d : A) → left_out (sift (λ i. p (get_or l i d)) (up_to (length l))) l ≡ sift (λ a. not (p a)) l
unfolding left_out without sift up_to tab
left_out_sift p [] d = refl
left_out_sift {A} p (a ∷ l) d = by (p a) (left (left_out_sift p l d))
  where
    -- the places behind the first that pass
    behind : List ℕ
    behind = sift (λ i. p (get_or (a ∷ l) i d)) (tab (length l) (λ k. suc k))

    left : left_out (sift (λ i. p (get_or l i d)) (up_to (length l))) l ≡ sift (λ a. not (p a)) l → left_out behind (a ∷ l) ≡ a ∷ sift (λ a. not (p a)) l
    left ih =
        ap (λ (is : List ℕ). left_out (sift (λ i. p (get_or (a ∷ l) i d)) is) (a ∷ l)) (sym (map_tab (λ k. suc k) (length l) (λ k. k)))
        ∙ ap (λ (is : List ℕ). left_out is (a ∷ l)) (sift_map (λ i. p (get_or (a ∷ l) i d)) (λ k. suc k) (up_to (length l)))
        ∙ left_out_behind (sift (λ i. p (get_or l i d)) (up_to (length l))) a l ∙ ap (λ (t : List A). a ∷ t) ih

    by : (t : Bool) → left_out behind (a ∷ l) ≡ a ∷ sift (λ a. not (p a)) l → left_out (pick t (0 ∷ behind) behind) (a ∷ l) ≡ pick (not t) (a ∷ sift (λ a. not (p a)) l) (sift (λ a. not (p a)) l)
    by true q = ap (without 0) q
    by false q = q
