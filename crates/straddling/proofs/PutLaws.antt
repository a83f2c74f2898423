-- Laws of a number that is put into a rising list: its place is sought, room is made, and the list rises still. Assumes nothing.
use mathlib.Core.Path.{◌≡◌, refl, sym, ◌∙◌, ap}
use mathlib.Core.Logic.{◌⊎◌, inl, inr, ⊎_elim}
use mathlib.Core.List.{List}
use Prim.Native.Nat.{ℕ, ◌+◌, ◌-◌, ◌<◌, ◌≤◌}
use native.Mathlib.Omega.{arith}
use native.Mathlib.Decide.{ℕ_discrete, dec_lt}
use lib.ListN.{length, get_or, set, length-set}
use lib.Seq.{get_or-set_same, get_or-set_other}
use Rattle.lists.specs.LeftOut.{Rising, Listed}
use Rattle.lists.proofs.Risen.{rising_room, rising_few}
use Rattle.straddling.specs.Putting.{PlaceFor, InsertedAt, PutRoom, RisingPut}

-- ---- the place

-- one place more whose number is above i
pub above_more : (i r : ℕ) (list : List ℕ) (at : ℕ) → 0 < at → ((k : ℕ) → at ≤ k → k < r → i < get_or list k 0) → i < get_or list (at - 1) 0 → (k : ℕ) → at - 1 ≤ k → k < r → i < get_or list k 0
above_more i r list at some h n k a b = by (ℕ_discrete k (at - 1))
  where
    by : Dec (k ≡ at - 1) → i < get_or list k 0
    by (yes q) = omega (arith, n, ap (λ (z : ℕ). get_or list z 0) q)
    by (no q) = h k (omega (arith, q)) b

-- ---- room for one more

-- at the head of the loop: the numbers from q on have moved, and those before it are as they were
pub record Moving (at r : ℕ) (list₀ list : List ℕ) (q : ℕ) : Type 0 where
  pub least : at ≤ q
  pub most : q ≤ r
  pub same : (k : ℕ) → k ≤ q → get_or list k 0 ≡ get_or list₀ k 0
  pub moved : (k : ℕ) → q ≤ k → k < r → get_or list (k + 1) 0 ≡ get_or list₀ k 0
  pub long : length list ≡ length list₀

module _ (at r : ℕ) (list₀ : List ℕ) where
  pub moving_start : at ≤ r → Moving at r list₀ list₀ r
  moving_start h = record { least = h; most = omega arith; same = λ k l. refl; moved = λ k a b. absurd (omega arith); long = refl }

  module _ (list : List ℕ) (q : ℕ) (G : Moving at r list₀ list q) (room : r < length list₀) where
    pub moving_more : at < q → Moving at r list₀ (set list q (get_or list (q - 1) 0)) (q - 1)
    moving_more h =
        let x = get_or list (q - 1) 0 in
        record {
          least = omega arith;
          most = omega (arith, G.most);
          same = λ k l. get_or-set_other list q k x 0 (λ z. omega arith) ∙ G.same k (omega arith);
          moved =
              λ k a b.
              elim (ℕ_discrete k (q - 1)) [
                | yes z ↦
                    let e : k + 1 ≡ q = omega arith in
                    ap (λ (w : ℕ). get_or (set list q x) w 0) e ∙ get_or-set_same list q x 0 (omega (arith, G.most, G.long)) ∙ G.same (q - 1) (omega arith)
                    ∙ ap (λ (w : ℕ). get_or list₀ w 0) (sym z)
                | no z ↦ get_or-set_other list q (k + 1) x 0 (λ e. omega (arith, z)) ∙ G.moved k (omega (arith, z)) b
              ];
          long = length-set list q x ∙ G.long;
        }

    -- and i goes where room is
    pub moving_done : (i : ℕ) → q ≤ at → InsertedAt i at r list₀ (set list at i)
    moving_done i h =
        record {
          front = λ k l. get_or-set_other list at k i 0 (λ z. omega arith) ∙ G.same k (omega (arith, G.least));
          here = get_or-set_same list at i 0 (omega (arith, G.least, G.most, G.long));
          moved = λ k a b. get_or-set_other list at (k + 1) i 0 (λ z. omega arith) ∙ G.moved k (omega (arith, G.least)) b;
        }

-- ---- the list with the number in it

module _ (i r : ℕ) (list : List ℕ) (at : ℕ) (P : PlaceFor i r list at) where
  -- it is there
  pub put_there : 0 < at → get_or list (at - 1) 0 ≡ i → RisingPut i r list list r
  put_there h q =
      record {
        rising = λ m l R. R;
        here = record { place = at - 1; within = omega (arith, P.within); is = q };
        still = λ x w. w;
        only = λ k l. inr (record { place = k; within = l; is = refl });
      }

  module _ (new : 0 < at → get_or list (at - 1) 0 ≡ i → ⊥) where
    -- the numbers before the place are below i
    under : (m : ℕ) → Rising list r m → (k : ℕ) → k < at → get_or list k 0 < i
    under m R k l = by (ℕ_discrete k (at - 1)) (ℕ_discrete (get_or list (at - 1) 0) i)
      where
        by : Dec (k ≡ at - 1) → Dec (get_or list (at - 1) 0 ≡ i) → get_or list k 0 < i
        by s (yes q) = absurd (new (omega arith) q)
        by (yes z) (no q) = omega (arith, q, P.least (omega arith), ap (λ (w : ℕ). get_or list w 0) z)
        by (no z) (no q) = omega (arith, q, P.least (omega arith), R.rises k (at - 1) (omega (arith, z)) (omega (arith, P.within)))

    -- there is room for it
    pub put_room : PutRoom i r list → r < length list
    put_room R = by (dec_lt at r)
      where
        front : at ≤ i
        front =
            rising_few {list = list}
            (record {
              rises = λ j k l h. R.rising.rises j k l (omega (arith, P.within));
              below = under R.most R.rising;
            })

        by : Dec (at < r) → r < length list
        by (yes h) = omega (arith, front, P.above at (omega arith) h, rising_room R.rising at h, R.long)
        by (no h) = omega (arith, h, front, P.within, R.below, R.long)

    module _ (list' : List ℕ) (I : InsertedAt i at r list list') where
      -- what stands at a place
      pub record Old (k j : ℕ) : Type 0 where
        pub old : j < r
        pub is : get_or list' k 0 ≡ get_or list j 0
        pub side : ((k < at) × (j ≡ k)) ⊎ ((at < k) × (j ≡ k - 1))

      stands_at : (k : ℕ) → k < r + 1 → ((k ≡ at) × (get_or list' k 0 ≡ i)) ⊎ ((j : ℕ) × Old k j)
      stands_at k l = by (dec_lt k at) (dec_lt at k)
        where
          by : Dec (k < at) → Dec (at < k) → ((k ≡ at) × (get_or list' k 0 ≡ i)) ⊎ ((j : ℕ) × Old k j)
          by (yes h) s = inr (k, record { old = omega (arith, P.within); is = I.front k h; side = inl (h, refl) })
          by (no g) (yes h) =
              let z : k ≡ k - 1 + 1 = omega arith in
              inr (k - 1, record { old = omega arith; is = ap (λ (w : ℕ). get_or list' w 0) z ∙ I.moved (k - 1) (omega arith) (omega arith); side = inr (h, refl) })
          by (no g) (no h) = let z : k ≡ at = omega (arith, g, h) in inl (z, ap (λ (w : ℕ). get_or list' w 0) z ∙ I.here)

      module _ (m : ℕ) (R : Rising list r m) where
        rises_in : (a b : ℕ) → a < b → b < r + 1 → get_or list' a 0 < get_or list' b 0
        rises_in a b h l =
            ⊎_elim
            (λ x. ⊎_elim (λ y. absurd (omega (arith, x.0, y.0)))
            (λ y. ⊎_elim (λ s. absurd (omega (arith, x.0, s.0))) (λ s. omega (arith, x.1, y.1.is, P.above y.0 (omega (arith, s.0, s.1)) y.1.old)) y.1.side)
            (stands_at b l))
            (λ x. ⊎_elim
            (λ y. ⊎_elim (λ s. omega (arith, y.1, x.1.is, under m R x.0 (omega (arith, s.0, s.1)))) (λ s. absurd (omega (arith, y.0, s.0))) x.1.side)
            (λ y.
            let c : x.0 < y.0 =
            ⊎_elim (λ s. ⊎_elim (λ u. omega (arith, s.1, u.1)) (λ u. omega (arith, s.0, s.1, u.0, u.1)) y.1.side)
            (λ s. ⊎_elim (λ u. absurd (omega (arith, s.0, u.0))) (λ u. omega (arith, s.0, s.1, u.1)) y.1.side) x.1.side in
            omega (arith, x.1.is, y.1.is, R.rises x.0 y.0 c y.1.old))
            (stands_at b l))
            (stands_at a (omega arith))

        below_in : i < m → (k : ℕ) → k < r + 1 → get_or list' k 0 < m
        below_in h k l = ⊎_elim (λ x. omega (arith, x.1)) (λ x. omega (arith, x.1.is, R.below x.0 x.1.old)) (stands_at k l)

      -- what was listed is listed still
      still_in : (x : ℕ) → Listed list r x → Listed list' (r + 1) x
      still_in x w =
          elim (dec_lt w.place at) [
            | yes h ↦ record { place = w.place; within = omega (arith, w.within); is = I.front w.place h ∙ w.is }
            | no h ↦ record { place = w.place + 1; within = omega (arith, w.within); is = I.moved w.place (omega (arith, h)) w.within ∙ w.is }
          ]

      pub put_new : RisingPut i r list list' (r + 1)
      put_new =
          record {
            rising = λ m h R. record { rises = rises_in m R; below = below_in m R h };
            here = record { place = at; within = omega (arith, P.within); is = I.here };
            still = still_in;
            only = λ k l. ⊎_elim (λ x. inl x.1) (λ x. inr (record { place = x.0; within = x.1.old; is = sym x.1.is })) (stands_at k l);
          }
