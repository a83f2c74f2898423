-- A grouping is the only one, and so is its count. Assumes nothing.
use mathlib.Core.Path.{◌≡◌, sym, ◌∙◌}
use mathlib.Core.Logic.{⊎_elim}
use mathlib.Core.List.{List}
use Prim.Native.Nat.{ℕ, zero, suc, ◌<◌}
use native.Mathlib.Omega.{arith}
use native.Mathlib.Nat.{not-suc-le-zero}
use lib.ListN.{get_or}
use lib.Seq.{ext_get_or}
use Rattle.lists.specs.Chain.{Chain}
use Rattle.fan.specs.Fan.{Fan, Near, size, side}
use Rattle.fan.specs.Grouping.{Before, Grouping}

one_not_below : (F : Fan) (g h : List ℕ) (m n : ℕ) → Grouping F g m → Grouping F h n → (i : ℕ) → i < size F
    → ((j : ℕ) → Before F.sides j i → get_or g j 0 ≡ get_or h j 0) → get_or g i 0 < get_or h i 0 → ⊥
one_not_below F g h m n G H i l before less =
    let w = H.first i (get_or g i 0) l less in
    let j : ℕ = w.0 in
    let lj : j < size F = w.1.0.0 in
    let same : get_or g j 0 ≡ get_or h j 0 = before j w.1.0 in
    let c : Chain (Near F) i j = G.joined i j l lj (sym w.1.1 ∙ sym same) in
    let e : get_or h i 0 ≡ get_or h j 0 = H.chained i j l lj c in
    let e2 : get_or h j 0 ≡ get_or g i 0 = w.1.1 in
    omega arith

-- two groupings agree at an element where they agree at all before it
agree_here : (F : Fan) (g h : List ℕ) (m n : ℕ) → Grouping F g m → Grouping F h n → (i : ℕ) → i < size F
    → ((j : ℕ) → Before F.sides j i → get_or g j 0 ≡ get_or h j 0) → get_or g i 0 ≡ get_or h i 0
agree_here F g h m n G H i l before =
    let a : get_or g i 0 < get_or h i 0 → ⊥ = one_not_below F g h m n G H i l before in
    let b : get_or h i 0 < get_or g i 0 → ⊥ = one_not_below F h g n m H G i l (λ j w. sym (before j w)) in
    omega (arith, a, b)

-- within one side: by index, from what holds of the lower sides
agree_side : (F : Fan) (g h : List ℕ) (m n : ℕ) → Grouping F g m → Grouping F h n → (s : ℕ)
    → ((j : ℕ) → j < size F → side F j < s → get_or g j 0 ≡ get_or h j 0)
    → (t i : ℕ) → i < t → i < size F → side F i < suc s → get_or g i 0 ≡ get_or h i 0
agree_side F g h m n G H s low zero i lt l b = absurd (not-suc-le-zero lt)
agree_side F g h m n G H s low (suc t) i lt l b =
    agree_here F g h m n G H i l
    (λ j w. ⊎_elim (λ d. low j w.0 (omega arith)) (λ d. agree_side F g h m n G H s low t j (omega arith) w.0 (omega arith)) w.1)

agree_below : (F : Fan) (g h : List ℕ) (m n : ℕ) → Grouping F g m → Grouping F h n
    → (s i : ℕ) → i < size F → side F i < s → get_or g i 0 ≡ get_or h i 0
agree_below F g h m n G H zero i l b = absurd (not-suc-le-zero b)
agree_below F g h m n G H (suc s) i l b = agree_side F g h m n G H s (agree_below F g h m n G H s) (suc i) i (omega arith) l b

pub groups_unique : (F : Fan) (g h : List ℕ) (m n : ℕ) → Grouping F g m → Grouping F h n → g ≡ h
groups_unique F g h m n G H =
    ext_get_or 0 g h (G.every ∙ sym H.every)
    (λ i l. agree_below F g h m n G H (suc (side F i)) i (omega (arith, G.every)) (omega arith))

count_not_below : (F : Fan) (g : List ℕ) (m n : ℕ) → Grouping F g m → Grouping F g n → m < n → ⊥
count_not_below F g m n G H less = let w = H.used m less in omega (arith, G.below w.0 w.1.0, w.1.1)

pub count_unique : (F : Fan) (g h : List ℕ) (m n : ℕ) → Grouping F g m → Grouping F h n → m ≡ n
count_unique F g h m n G H =
    let H' : Grouping F g n = rw (groups_unique F g h m n G H) H in
    let a : m < n → ⊥ = count_not_below F g m n G H' in
    let b : n < m → ⊥ = count_not_below F g n m H' G in
    omega (arith, a, b)
