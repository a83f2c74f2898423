-- Laws of weights: the weight of a group and the total of all, as loops over the tables add them. Assumes nothing.
use mathlib.Core.Path.{◌≡◌, refl, sym, ◌∙◌, ap, ap₂, subst}
use mathlib.Core.Bool.{Bool, true, false}
use mathlib.Core.List.{List, [], ◌∷◌, map}
use Prim.Native.Nat.{ℕ, ◌+◌, ◌<◌}
use borrow.Author.Tests.{eq-eqb, ne_eqb}
use lib.Dec.{eqb}
use lib.ListN.{length, get_or}
use lib.Ieee.{Float, nan}
use Rattle.lists.specs.Lists.{pick, sift, fold, tab, up_to}
use Rattle.lists.proofs.Sifts.{tab_of, map_tab}
use Rattle.lists.proofs.Steps.{fold_step}
use Rattle.float.specs.Numbers.{plus, zero32}
use Rattle.model.specs.Elements.{sum}
use Rattle.model.specs.Split.{Part, Opening, weight_of, total_of, mass_of}
use Rattle.split_plan.specs.Opened.{part_at, blank_part, Ringed, Weighted, mass_by}
use Rattle.split_plan.specs.Answers.{Grouped}

-- the fan is the table of its parts
pub fan_tab : (O : Opening) (n : ℕ) → length O.fan ≡ n → O.fan ≡ tab n (part_at O)
fan_tab O n e = sym (subst (λ (m : ℕ). tab m (part_at O) ≡ O.fan) e (tab_of O.fan blank_part))

-- tables of corners and groups are tables of groups
pub ringed_grouped : {k n : ℕ} {verts groups : List ℕ} (O : Opening) → Ringed k O n verts groups → Grouped O n groups
ringed_grouped O R = record { size = R.size; group_is = R.group_is }

-- a sum of those that pass, as one fold
module _ {A : Type 0} (q : A → Bool) (m : A → Float) where
  -- an element that passes adds its measure
  abbrev add_if : Float → A → Float
  add_if w a = pick (q a) (plus w (m a)) w

  sum_by : (a : A) (l : List A) (b : Float) (t : Bool) → ((c : Float) → fold plus c (map m (sift q l)) ≡ fold add_if c l)
      → fold plus b (map m (pick t (a ∷ sift q l) (sift q l))) ≡ fold add_if (pick t (plus b (m a)) b) l
  unfolding fold
  sum_by a l b true h = h (plus b (m a))
  sum_by a l b false h = h b

  sum_sift : (l : List A) (b : Float) → fold plus b (map m (sift q l)) ≡ fold add_if b l
  unfolding fold sift
  sum_sift [] b = refl
  sum_sift (a ∷ l) b = sum_by a l b (q a) (sum_sift l)

-- a part adds its measure to the weight of its group
abbrev pub added : ℕ → Float → Part → Float
added g w p = pick (eqb p.group g) (plus w p.measure) w

-- the weight of group g in the first i parts
abbrev pub weight_to : Opening → ℕ → ℕ → Float
weight_to O g i = fold (added g) zero32 (tab i (part_at O))

-- no part weighs nothing
pub weight_none : (O : Opening) (g : ℕ) → zero32 ≡ weight_to O g 0
unfolding fold tab
weight_none O g = refl

module _ (O : Opening) {n : ℕ} {groups : List ℕ} {measures : List Float} (G : Grouped O n groups) (W : Weighted O n measures) (g : ℕ) where
  -- a part of group g, and another
  pub weight_in : (i : ℕ) → i < n → (w : Float) → w ≡ weight_to O g i → get_or groups i 0 ≡ g → plus w (get_or measures i nan) ≡ weight_to O g (i + 1)
  weight_in i l w e q =
      sym
      (fold_step (added g) zero32 (part_at O) i
      ∙ ap (λ (t : Bool). pick t (plus (weight_to O g i) (part_at O i).measure) (weight_to O g i)) (eq-eqb (part_at O i).group g (G.group_is i l ∙ q))
      ∙ ap₂ plus (sym e) (W.measure_is i l))

  -- a part of another group
  pub weight_out : (i : ℕ) → i < n → (w : Float) → w ≡ weight_to O g i → (get_or groups i 0 ≡ g → ⊥) → w ≡ weight_to O g (i + 1)
  weight_out i l w e q =
      e
      ∙ sym
      (fold_step (added g) zero32 (part_at O) i
      ∙ ap (λ (t : Bool). pick t (plus (weight_to O g i) (part_at O i).measure) (weight_to O g i)) (ne_eqb (part_at O i).group g (λ d. q (sym (G.group_is i l) ∙ d))))

  -- all parts
  pub weight_all : weight_to O g n ≡ weight_of O.fan g
  unfolding weight_of sum
  weight_all =
      ap (fold (added g) zero32) (sym (fan_tab O n G.size))
      ∙ sym (sum_sift (λ (p : Part). eqb p.group g) (λ (p : Part). p.measure) O.fan zero32)

-- ---- all weights

-- the total of the first c weights
abbrev pub total_to : (ℕ → Float) → ℕ → Float
total_to f c = fold plus zero32 (tab c f)

-- no weights
pub total_none : (f : ℕ → Float) → zero32 ≡ total_to f 0
unfolding fold tab
total_none f = refl

-- one more weight in the total
pub total_more : (f : ℕ → Float) (c : ℕ) (t w : Float) → t ≡ total_to f c → w ≡ f c → plus t w ≡ total_to f (c + 1)
total_more f c t w e d = ap₂ plus e d ∙ sym (fold_step plus zero32 f c)

-- the total of all weights
pub total_all : (O : Opening) (c : ℕ) → O.count ≡ c → total_to (weight_of O.fan) c ≡ total_of O
unfolding total_of sum up_to
total_all O c e = ap (fold plus zero32) (sym (map_tab (weight_of O.fan) c (λ k. k)) ∙ ap (λ (m : ℕ). map (weight_of O.fan) (up_to m)) (sym e))

-- the mass of a group, by its weight and the total
pub mass_by_lem : (O : Opening) (m : Float) (g : ℕ) → mass_of O m g ≡ mass_by m (weight_of O.fan g) (total_of O) O.count
unfolding mass_of mass_by
mass_by_lem O m g = refl
