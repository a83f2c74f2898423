-- `crosses` says that the hit point is on the blade, ends included: `crosses_meant`. Assumes nothing.
use Rattle.std.proofs.Common.{◌≡◌, ℕ, zero, suc, ◌+◌, ◌*◌, ◌<◌, ◌≤◌, Bool, true, false, not, ◌&&◌, ◌||◌, ltb, leb, ◌⊎◌, List, [], ◌∷◌, ℤ, pos, negsuc, ◌+ℤ◌, ◌-ℤ◌, ◌*ℤ◌, neg_ℤ, nat_abs, sym, refl, ap, ◌∙◌, ap₂, inl, inr, true≢false, zero-lt-suc, mul_comm, zero-mul, arith, ltb-true, le-ltb, lt-ltb, le-leb}
use native.Mathlib.Decide.{dec_lt}
use borrow.Author.Tests.{lt-leb}
use lib.IntN.{zero-*ℤ}
use lib.Signed.{lt_z, le_z}
use Rattle.lists.specs.Lists.{pick}
use Rattle.blade.specs.declared.Point.{Point}
use Rattle.blade.specs.Whole.{side_of}
use Rattle.exact.specs.Exact.{whole_of, side_by, across, differ, crosses}
use Rattle.exact.specs.Meant.{along_of, within, on_blade}
use Rattle.exact.proofs.Compare.{less_scaled}
use Rattle.exact.proofs.Order.{left_neg, right_neg, less_above, less_below}
use Rattle.exact.proofs.Ring.{mul_neg}
use Rattle.exact.proofs.Swapped.{and_either}
use Rattle.exact.proofs.Solve.{Expr, var, plus, times, minus, less, solved}
use Rattle.lists.proofs.Truths.{and_end}

-- ---- two identities

-- an offset and a place along the blade, written out
abbrev pub side : Expr → Expr → Expr → Expr → Expr → Expr → Expr
side x0 y0 x1 y1 x y = less (times (less x1 x0) (less y y0)) (times (less y1 y0) (less x x0))

abbrev along : Expr → Expr → Expr → Expr → Expr → Expr → Expr
along x0 y0 x1 y1 x y = plus (times (less x1 x0) (less x x0)) (times (less y1 y0) (less y y0))

module _ (x0 y0 x1 y1 px py qx qy : ℤ) where
  abbrev all : List ℤ
  all = x0 ∷ y0 ∷ x1 ∷ y1 ∷ px ∷ py ∷ qx ∷ qy ∷ []

  -- p and q are as far apart across the blade's line as the blade's ends are across theirs
  pub apart : side_of x0 y0 x1 y1 px py -ℤ side_of x0 y0 x1 y1 qx qy ≡ side_of px py qx qy x1 y1 -ℤ side_of px py qx qy x0 y0
  apart =
      let a = var 0 in let b = var 1 in let c = var 2 in let d = var 3 in let e = var 4 in let f = var 5 in let g = var 6 in let h = var 7 in
      solved all (less (side a b c d e f) (side a b c d g h)) (less (side e f g h c d) (side e f g h a b)) refl

  -- the hit point's place along the blade, times dp - dq, is the blade's length squared times the offset of the blade's start from the edge's line, turned round
  placed : side_of x0 y0 x1 y1 px py *ℤ ((x1 -ℤ x0) *ℤ (qx -ℤ x0) +ℤ (y1 -ℤ y0) *ℤ (qy -ℤ y0)) -ℤ side_of x0 y0 x1 y1 qx qy *ℤ ((x1 -ℤ x0) *ℤ (px -ℤ x0) +ℤ (y1 -ℤ y0) *ℤ (py -ℤ y0))
      ≡ neg_ℤ (((x1 -ℤ x0) *ℤ (x1 -ℤ x0) +ℤ (y1 -ℤ y0) *ℤ (y1 -ℤ y0)) *ℤ side_of px py qx qy x0 y0)
  placed =
      let a = var 0 in let b = var 1 in let c = var 2 in let d = var 3 in let e = var 4 in let f = var 5 in let g = var 6 in let h = var 7 in
      solved all (less (times (side a b c d e f) (along a b c d g h)) (times (side a b c d g h) (along a b c d e f))) (minus (times (along a b c d c d) (side e f g h a b))) refl

-- d times the one end's offset and the other's: the two that `within` compares
ends : (d e0 e1 : ℤ) → d *ℤ (e1 -ℤ e0) -ℤ neg_ℤ (d *ℤ e0) ≡ d *ℤ e1
ends d e0 e1 = solved (d ∷ e0 ∷ e1 ∷ []) (less (times (var 0) (less (var 2) (var 1))) (minus (times (var 0) (var 1)))) (times (var 0) (var 2)) refl

-- ---- signs

not_less : (a b : ℕ) → leb a b ≡ not (ltb b a)
not_less a b = elim (dec_lt b a) [
  | yes l ↦ lt-leb a b l ∙ sym (ap not (lt-ltb b a l))
  | no l ↦
      let g : a ≤ b = omega arith in
      le-leb a b g ∙ sym (ap not (le-ltb b a g))
]

at_most : (a b : ℤ) → le_z a b ≡ not (lt_z b a)
at_most (pos a) (pos b) = not_less a b
at_most (pos a) (negsuc b) = refl
at_most (negsuc a) (pos b) = refl
at_most (negsuc a) (negsuc b) = not_less b a

-- a number above 0 leaves a product's sign to the other
scaled_above : (k : ℕ) (e : ℤ) → lt_z (pos 0) (pos (suc k) *ℤ e) ≡ lt_z (pos 0) e
scaled_above k (pos b) =
    ap₂ {C = Bool} (λ m n. ltb m n) (sym (zero-mul (suc k))) (mul_comm (suc k) b) ∙ less_scaled 0 b (suc k) (zero-lt-suc k)
scaled_above k (negsuc b) = left_neg (pos (suc k * suc b)) ∙ le-ltb (suc k * suc b) 0 (omega arith)

scaled_below : (k : ℕ) (e : ℤ) → lt_z (pos (suc k) *ℤ e) (pos 0) ≡ lt_z e (pos 0)
scaled_below k e = sym (left_neg (pos (suc k) *ℤ e)) ∙ ap (lt_z (pos 0)) (sym (mul_neg (pos (suc k)) e)) ∙ scaled_above k (neg_ℤ e) ∙ left_neg e

-- ---- the two ends, one below the other

lower : (a b : ℤ) → lt_z a b ≡ true → (lt_z (pos 0) a && lt_z (pos 0) b) ≡ lt_z (pos 0) a
lower (pos a) (pos b) h =
    let l : a < b = ltb-true a b h in
    ap (λ (t : Bool). ltb 0 a && t) (lt-ltb 0 b (omega arith)) ∙ and_end (ltb 0 a)
lower (pos a) (negsuc b) h = absurd (true≢false (sym h))
lower (negsuc a) b h = refl

upper : (a b : ℤ) → lt_z a b ≡ true → (lt_z a (pos 0) && lt_z b (pos 0)) ≡ lt_z b (pos 0)
upper (pos a) (pos b) h = ap (λ (t : Bool). t && ltb b 0) (le-ltb a 0 (omega arith)) ∙ sym (le-ltb b 0 (omega arith))
upper (pos a) (negsuc b) h = absurd (true≢false (sym h))
upper (negsuc a) b h = refl

pub across_up : (a b : ℤ) → lt_z a b ≡ true → across a b ≡ (not (lt_z (pos 0) a) && not (lt_z b (pos 0)))
across_up a b h = rw (lower a b h, upper a b h)

pub across_down : (a b : ℤ) → lt_z b a ≡ true → across a b ≡ (not (lt_z a (pos 0)) && not (lt_z (pos 0) b))
across_down a b h =
    rw (and_either (lt_z (pos 0) a) (lt_z (pos 0) b), and_either (lt_z a (pos 0)) (lt_z b (pos 0)), lower b a h, upper b a h) (and_either (not (lt_z (pos 0) b)) (not (lt_z a (pos 0))))

-- ---- within

module _ (k : ℕ) (e0 e1 : ℤ) where
  abbrev D : ℤ
  D = pos (suc k)

  abbrev N : ℤ
  N = neg_ℤ (D *ℤ e0)

  abbrev E : ℤ
  E = e1 -ℤ e0

  -- the four comparisons
  start_up : le_z (pos 0) N ≡ not (lt_z (pos 0) e0)
  start_up = at_most (pos 0) N ∙ ap not (right_neg (D *ℤ e0) ∙ scaled_above k e0)

  end_up : le_z N (D *ℤ E) ≡ not (lt_z e1 (pos 0))
  end_up = at_most N (D *ℤ E) ∙ ap not (less_below (D *ℤ E) N ∙ ap (λ (z : ℤ). lt_z z (pos 0)) (ends D e0 e1) ∙ scaled_below k e1)

  start_down : le_z N (pos 0) ≡ not (lt_z e0 (pos 0))
  start_down = at_most N (pos 0) ∙ ap not (left_neg (D *ℤ e0) ∙ scaled_below k e0)

  end_down : le_z (D *ℤ E) N ≡ not (lt_z (pos 0) e1)
  end_down = at_most (D *ℤ E) N ∙ ap not (less_above N (D *ℤ E) ∙ ap (lt_z (pos 0)) (ends D e0 e1) ∙ scaled_above k e1)

  up_is : lt_z e0 e1 ≡ true → within D N E ≡ across e0 e1
  unfolding within
  up_is h =
      ap (λ (t : Bool). pick t (le_z (pos 0) N && le_z N (D *ℤ E)) (le_z N (pos 0) && le_z (D *ℤ E) N)) (sym (less_above e0 e1) ∙ h)
      ∙ ap₂ {C = Bool} (λ s t. s && t) start_up end_up
      ∙ sym (across_up e0 e1 h)

  down_is : lt_z e1 e0 ≡ true → lt_z e0 e1 ≡ false → within D N E ≡ across e0 e1
  unfolding within
  down_is h n =
      ap (λ (t : Bool). pick t (le_z (pos 0) N && le_z N (D *ℤ E)) (le_z N (pos 0) && le_z (D *ℤ E) N)) (sym (less_above e0 e1) ∙ n)
      ∙ ap₂ {C = Bool} (λ s t. s && t) start_down end_down
      ∙ sym (across_down e0 e1 h)

  within_is : differ e1 e0 ≡ true → within D N E ≡ across e0 e1
  within_is h = by (lt_z e0 e1) (lt_z e1 e0) refl refl h
    where
      by : (s t : Bool) → lt_z e0 e1 ≡ s → lt_z e1 e0 ≡ t → (t || s) ≡ true → within D N E ≡ across e0 e1
      by true t u d g = up_is u
      by false true u d g = down_is d u
      by false false u d g = absurd (true≢false (sym g))

-- ---- the blade is no point

square : (a : ℤ) → a *ℤ a ≡ pos (nat_abs a * nat_abs a)
square (pos n) = refl
square (negsuc n) = refl

none : (n : ℕ) → n * n ≡ 0 → n ≡ 0
none zero h = refl
none (suc n) h = omega arith

no_size : (a : ℤ) → nat_abs a ≡ 0 → a ≡ pos 0
no_size (pos n) h = ap pos h
no_size (negsuc n) h = absurd (let z : ⊥ = omega arith in z)

-- a sum of two squares is above 0, or both are 0
squares : (a b : ℤ) → ((a ≡ pos 0) × (b ≡ pos 0)) ⊎ ((k : ℕ) × (a *ℤ a +ℤ b *ℤ b ≡ pos (suc k)))
squares a b = by (nat_abs a * nat_abs a + nat_abs b * nat_abs b) refl
  where
    by : (s : ℕ) → nat_abs a * nat_abs a + nat_abs b * nat_abs b ≡ s → ((a ≡ pos 0) × (b ≡ pos 0)) ⊎ ((k : ℕ) × (a *ℤ a +ℤ b *ℤ b ≡ pos (suc k)))
    by zero e = inl (no_size a (none (nat_abs a) (omega arith)), no_size b (none (nat_abs b) (omega arith)))
    by (suc k) e = inr (k, ap₂ {C = ℤ} (λ x y. x +ℤ y) (square a) (square b) ∙ ap pos e)

-- from a blade of no length nothing has an offset
flat : (a b u w : ℤ) → a ≡ pos 0 → b ≡ pos 0 → a *ℤ u -ℤ b *ℤ w ≡ pos 0
flat a b u w h k = ap₂ {C = ℤ} (λ x y. x *ℤ u -ℤ y *ℤ w) h k ∙ ap₂ {C = ℤ} (λ x y. x -ℤ y) (zero-*ℤ u) (zero-*ℤ w)

-- ---- the hit point is on the blade where the blade's ends lie on or across the edge's line

-- equal differences
pub differ_by : (a b c d : ℤ) → a -ℤ b ≡ c -ℤ d → differ a b ≡ differ c d
differ_by a b c d e =
    ap₂ {C = Bool} (λ s t. s || t) (less_below a b ∙ ap (λ (z : ℤ). lt_z z (pos 0)) e ∙ sym (less_below c d)) (less_above b a ∙ ap (lt_z (pos 0)) e ∙ sym (less_above d c))

on_blade_lem : (x0 y0 x1 y1 px py qx qy : ℤ) → differ (side_of x0 y0 x1 y1 px py) (side_of x0 y0 x1 y1 qx qy) ≡ true
    → within ((x1 -ℤ x0) *ℤ (x1 -ℤ x0) +ℤ (y1 -ℤ y0) *ℤ (y1 -ℤ y0))
    (side_of x0 y0 x1 y1 px py *ℤ ((x1 -ℤ x0) *ℤ (qx -ℤ x0) +ℤ (y1 -ℤ y0) *ℤ (qy -ℤ y0)) -ℤ side_of x0 y0 x1 y1 qx qy *ℤ ((x1 -ℤ x0) *ℤ (px -ℤ x0) +ℤ (y1 -ℤ y0) *ℤ (py -ℤ y0)))
    (side_of x0 y0 x1 y1 px py -ℤ side_of x0 y0 x1 y1 qx qy)
    ≡ across (side_of px py qx qy x0 y0) (side_of px py qx qy x1 y1)
on_blade_lem x0 y0 x1 y1 px py qx qy h =
    let dx = x1 -ℤ x0 in
    let dy = y1 -ℤ y0 in
    let dp = side_of x0 y0 x1 y1 px py in
    let dq = side_of x0 y0 x1 y1 qx qy in
    let e0 = side_of px py qx qy x0 y0 in
    let e1 = side_of px py qx qy x1 y1 in
    let e = apart x0 y0 x1 y1 px py qx qy in
    let f = placed x0 y0 x1 y1 px py qx qy in
    elim (squares dx dy) [
      | inl z ↦ absurd (true≢false (sym h ∙ ap₂ {C = Bool} differ (flat dx dy (py -ℤ y0) (px -ℤ x0) z.0 z.1) (flat dx dy (qy -ℤ y0) (qx -ℤ x0) z.0 z.1)))
      | inr z ↦
          ap (λ (n : ℤ). within (dx *ℤ dx +ℤ dy *ℤ dy) n (dp -ℤ dq)) f
          ∙ ap (λ (m : ℤ). within (dx *ℤ dx +ℤ dy *ℤ dy) (neg_ℤ ((dx *ℤ dx +ℤ dy *ℤ dy) *ℤ e0)) m) e
          ∙ ap (λ (d : ℤ). within d (neg_ℤ (d *ℤ e0)) (e1 -ℤ e0)) z.1
          ∙ within_is z.0 e0 e1 (sym (differ_by dp dq e1 e0 e) ∙ h)
    ]

same_last : (a b s t : Bool) → (b ≡ true → t ≡ s) → (a && b && s) ≡ (a && b && t)
same_last true true s t h = sym (h refl)
same_last true false s t h = refl
same_last false b s t h = refl

-- p and q lie on or across the blade's line, not equally far from it, and the exact hit point lies on the blade, ends included
pub crosses_meant : (b0 b1 p q : Point) → crosses b0 b1 p q ≡ (across (side_by b0 b1 p) (side_by b0 b1 q) && differ (side_by b0 b1 p) (side_by b0 b1 q) && on_blade b0 b1 p q)
unfolding crosses on_blade side_by along_of
crosses_meant b0 b1 p q =
    same_last (across (side_by b0 b1 p) (side_by b0 b1 q)) (differ (side_by b0 b1 p) (side_by b0 b1 q)) (across (side_by p q b0) (side_by p q b1)) (on_blade b0 b1 p q)
    (on_blade_lem (whole_of b0.x) (whole_of b0.y) (whole_of b1.x) (whole_of b1.y) (whole_of p.x) (whole_of p.y) (whole_of q.x) (whole_of q.y))
