-- Where no corner need be shared, the elements of a side are one group. Assumes nothing.
use mathlib.Core.Path.{◌≡◌, refl, sym, ◌∙◌, ap}
use mathlib.Core.Bool.{Bool, true, false}
use mathlib.Core.Logic.{◌⊎◌, inl, inr, ⊎_elim}
use mathlib.Core.List.{List}
use Prim.Native.Nat.{ℕ, ◌*◌, ◌<◌, ◌≤◌}
use native.Mathlib.Omega.{arith}
use native.Mathlib.Decide.{ℕ_discrete, dec_lt}
use lib.ListN.{get_or}
use Rattle.lists.specs.Lists.{pick, stands}
use Rattle.lists.specs.Chain.{Chain, stay, ahead, back}
use Rattle.lists.proofs.Chains.{chain_keeps, chain_to}
use Rattle.lists.proofs.Sifts.{stands_get, stands_none}
use Rattle.fan.specs.Fan.{Fan, Near, size, side}
use Rattle.fan.specs.Grouping.{Grouping}
use Rattle.fan.specs.Calls.{Counted}
use Rattle.fan_groups.specs.Sides.{groups_on_of, Sided}
use Rattle.fan.proofs.Grouped.{grouped_only}

-- a side has one group where an element lies on it, and else none
pub groups_on_lem : (s : ℕ) (sides : List ℕ) → ((stands s sides ≡ true) × (groups_on_of s sides ≡ 1)) ⊎ ((stands s sides ≡ false) × (groups_on_of s sides ≡ 0))
unfolding groups_on_of
groups_on_lem s sides = by (stands s sides) refl
  where
    by : (b : Bool) → stands s sides ≡ b → ((b ≡ true) × (◌≡◌ {A = ℕ} (pick b 1 0) 1)) ⊎ ((b ≡ false) × (◌≡◌ {A = ℕ} (pick b 1 0) 0))
    by true e = inl (refl, refl)
    by false e = inr (refl, refl)

pub groups_on_low : (s : ℕ) (sides : List ℕ) → groups_on_of s sides ≤ 1
groups_on_low s sides = ⊎_elim (λ y. let e = y.1 in omega arith) (λ y. let e = y.1 in omega arith) (groups_on_lem s sides)

module _ (F : Fan) (zero_needed : F.needed ≡ 0) (two : (a : ℕ) → a < size F → side F a < 2) where
  -- the elements of a side are joined
  side_near : (a b : ℕ) → a < b → b < size F → side F a ≡ side F b → Near F a b
  side_near a b o w e = record { order = o; within = w; alike = e; shared = omega arith }

  side_chain : (a b : ℕ) → a < size F → b < size F → side F a ≡ side F b → Chain (Near F) a b
  side_chain a b la lb e =
      elim (ℕ_discrete a b) [
        | yes q ↦ chain_to q stay
        | no n ↦ elim (dec_lt a b) [ yes o ↦ ahead (side_near a b o lb e) stay | no m ↦ back (side_near b a (omega arith) la (sym e)) stay ]
      ]

  chain_side : (a b : ℕ) → Chain (Near F) a b → side F a ≡ side F b
  chain_side a b c = chain_keeps (side F) (λ i j N. N.alike) c

  -- a side on which an element lies has one group
  side_one : (s a : ℕ) → a < size F → side F a ≡ s → groups_on_of s F.sides ≡ 1
  side_one s a l e = ⊎_elim (λ y. y.1) (λ y. absurd (stands_none s F.sides a y.0 l e)) (groups_on_lem s F.sides)

  -- and one that has a group has an element
  one_side : (s : ℕ) → 1 ≤ groups_on_of s F.sides → (a : ℕ) × ((a < size F) × (side F a ≡ s))
  one_side s l = ⊎_elim (λ y. stands_get s F.sides y.0) (λ y. absurd (let e = y.1 in omega arith)) (groups_on_lem s F.sides)

  module _ {gs : List ℕ} {n : ℕ} (S : Sided F.sides gs n) where
    -- the number of an element: that of its side where side 0 has a group, and 0 where it has none
    number : (a : ℕ) → a < size F
        → ((side F a ≡ 0) × (groups_on_of 0 F.sides ≡ 1) × (get_or gs a 0 ≡ 0))
        ⊎ ((side F a ≡ 1) × (groups_on_of 1 F.sides ≡ 1) × (get_or gs a 0 ≡ groups_on_of 0 F.sides))
    number a l =
        let t = two a l in
        let e = S.each a l in
        elim (ℕ_discrete (side F a) 0) [
          | yes z ↦ let f = ap (λ (s : ℕ). s * groups_on_of 0 F.sides) z in inl (z, side_one 0 a l z, omega arith)
          | no nz ↦
              let o : side F a ≡ 1 = omega arith in
              let f = ap (λ (s : ℕ). s * groups_on_of 0 F.sides) o in
              inr (o, side_one 1 a l o, omega arith)
        ]

    pub sided_grouping : Grouping F gs n
    sided_grouping =
        record {
          every = S.long;
          joined = λ a b la lb e.
              side_chain a b la lb
              (⊎_elim
              (λ x. ⊎_elim (λ y. x.0 ∙ sym y.0) (λ y. absurd (let p = x.1 in let q = x.2 in let r = y.2 in omega arith)) (number b lb))
              (λ x. ⊎_elim (λ y. absurd (let p = y.1 in let q = y.2 in let r = x.2 in omega arith)) (λ y. x.0 ∙ sym y.0) (number b lb))
              (number a la));
          chained = λ a b la lb c.
              S.each a la ∙ ap (λ (s : ℕ). s * groups_on_of 0 F.sides) (chain_side a b c) ∙ sym (S.each b lb);
          first = λ a g la l.
              ⊎_elim
              (λ x. absurd (let e = x.2 in omega arith))
              (λ x.
              let e = x.2 in
              let w = one_side 0 (omega arith) in
              let f = x.0 in
              let z = w.1.1 in
              (w.0, ((w.1.0, inl (omega arith)), ⊎_elim (λ y. let p = y.2 in let q = y.1 in omega (arith, zero_first g a la l)) (λ y. absurd (let p = y.0 in omega arith)) (number w.0 w.1.0))))
              (number a la);
          below = λ a la. ⊎_elim (λ x. let e = x.2 in let p = x.1 in let c = S.count in omega arith) (λ x. let e = x.2 in let p = x.1 in let c = S.count in omega arith) (number a la);
          used = λ g l.
              elim (dec_lt g (groups_on_of 0 F.sides)) [
                | yes o ↦
                    let w = one_side 0 (omega arith) in
                    (w.0, (w.1.0, ⊎_elim (λ x. let p = x.1 in let q = x.2 in omega arith) (λ x. absurd (let p = x.0 in let z = w.1.1 in omega arith)) (number w.0 w.1.0)))
                | no o ↦
                    let c = S.count in
                    let w = one_side 1 (omega arith) in
                    (w.0, (w.1.0, ⊎_elim (λ x. absurd (let p = x.0 in let z = w.1.1 in omega arith)) (λ x. let p = x.1 in let q = x.2 in omega arith) (number w.0 w.1.0)))
              ];
        }
      where
        -- a number below another is 0
        zero_first : (g a : ℕ) → a < size F → g < get_or gs a 0 → g ≡ 0
        zero_first g a la l =
            ⊎_elim (λ x. absurd (let e = x.2 in omega arith)) (λ x. let e = x.2 in ⊎_elim (λ y. let q = y.1 in omega arith) (λ y. let q = y.1 in omega arith) (groups_on_lem 0 F.sides)) (number a la)

    -- what groups_of gives
    pub sided_counted : Counted F gs n
    sided_counted =
        let only = grouped_only F gs n two sided_grouping in
        record { grouping = sided_grouping; groups_are = only.0; count_is = only.1 }
