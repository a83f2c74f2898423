-- Laws of whole numbers: a product goes over a sum, and the side of a line turned round. Assumes nothing.
use Rattle.std.proofs.Common.{◌≡◌, zero, ℤ, pos, ◌+ℤ◌, ◌-ℤ◌, ◌*ℤ◌, neg_ℤ, sym, ap, ◌∙◌, subst}
use lib.IntN.{suc_ℤ, pred_ℤ, ℤ_ind, +ℤ_one, -ℤ_one, +ℤ_assoc, +ℤ_comm, +ℤ_idl, +ℤ_idr, +ℤ_invr, +ℤ_invl, neg_ℤ-+ℤ, neg_ℤ-neg_ℤ, zero-*ℤ, suc_ℤ-*ℤ, pred_ℤ-*ℤ, *ℤ_comm}
use Rattle.blade.specs.Whole.{side_of}
use Rattle.blade.proofs.Sides.{neg_mul}

-- ---- sums

-- the middle two change places
pub interchange : (a b c d : ℤ) → (a +ℤ b) +ℤ (c +ℤ d) ≡ (a +ℤ c) +ℤ (b +ℤ d)
interchange a b c d =
    +ℤ_assoc a b (c +ℤ d)
    ∙ ap (λ (z : ℤ). a +ℤ z) (sym (+ℤ_assoc b c d) ∙ ap (λ (z : ℤ). z +ℤ d) (+ℤ_comm b c) ∙ +ℤ_assoc c b d)
    ∙ sym (+ℤ_assoc a c (b +ℤ d))

-- a - b turned round
pub neg_sub : (a b : ℤ) → neg_ℤ (a -ℤ b) ≡ b -ℤ a
neg_sub a b = neg_ℤ-+ℤ a (neg_ℤ b) ∙ ap (λ (z : ℤ). neg_ℤ a +ℤ z) (neg_ℤ-neg_ℤ b) ∙ +ℤ_comm (neg_ℤ a) b

-- (a - c) - (b - c) is a - b
pub sub_sub : (a b c : ℤ) → (a -ℤ c) -ℤ (b -ℤ c) ≡ a -ℤ b
sub_sub a b c =
    ap (λ (z : ℤ). (a -ℤ c) +ℤ z) (neg_sub b c ∙ +ℤ_comm c (neg_ℤ b))
    ∙ interchange a (neg_ℤ c) (neg_ℤ b) c
    ∙ ap (λ (z : ℤ). (a -ℤ b) +ℤ z) (+ℤ_invl c)
    ∙ +ℤ_idr (a -ℤ b)

-- ---- products

module _ (k m : ℤ) where
  abbrev Over : ℤ → Type 0
  Over a = a *ℤ (k +ℤ m) ≡ a *ℤ k +ℤ a *ℤ m

  over_suc : (a : ℤ) → Over a → Over (suc_ℤ a)
  over_suc a h =
      suc_ℤ-*ℤ a (k +ℤ m) ∙ ap (λ (z : ℤ). z +ℤ (k +ℤ m)) h ∙ interchange (a *ℤ k) (a *ℤ m) k m
      ∙ ap (λ (z : ℤ). z +ℤ (a *ℤ m +ℤ m)) (sym (suc_ℤ-*ℤ a k))
      ∙ ap (λ (z : ℤ). suc_ℤ a *ℤ k +ℤ z) (sym (suc_ℤ-*ℤ a m))

  over_pred : (a : ℤ) → Over a → Over (pred_ℤ a)
  over_pred a h =
      pred_ℤ-*ℤ a (k +ℤ m) ∙ ap (λ (z : ℤ). z +ℤ neg_ℤ (k +ℤ m)) h ∙ ap (λ (z : ℤ). (a *ℤ k +ℤ a *ℤ m) +ℤ z) (neg_ℤ-+ℤ k m)
      ∙ interchange (a *ℤ k) (a *ℤ m) (neg_ℤ k) (neg_ℤ m)
      ∙ ap (λ (z : ℤ). z +ℤ (a *ℤ m -ℤ m)) (sym (pred_ℤ-*ℤ a k))
      ∙ ap (λ (z : ℤ). pred_ℤ a *ℤ k +ℤ z) (sym (pred_ℤ-*ℤ a m))

  -- a (k + m) is a k + a m
  pub mul_add : (a : ℤ) → a *ℤ (k +ℤ m) ≡ a *ℤ k +ℤ a *ℤ m
  mul_add a =
      ℤ_ind Over
      (zero-*ℤ (k +ℤ m) ∙ sym (ap (λ (z : ℤ). z +ℤ pos zero *ℤ m) (zero-*ℤ k) ∙ +ℤ_idl (pos zero *ℤ m) ∙ zero-*ℤ m))
      (λ n h. subst Over (sym (+ℤ_one (pos n))) (over_suc (pos n) h))
      (λ n h. subst Over (sym (-ℤ_one (neg_ℤ (pos n)))) (over_pred (neg_ℤ (pos n)) h)) a

pub mul_neg : (a b : ℤ) → a *ℤ neg_ℤ b ≡ neg_ℤ (a *ℤ b)
mul_neg a b = *ℤ_comm a (neg_ℤ b) ∙ neg_mul b a ∙ ap neg_ℤ (*ℤ_comm b a)

pub mul_sub : (a k m : ℤ) → a *ℤ (k -ℤ m) ≡ a *ℤ k -ℤ a *ℤ m
mul_sub a k m = mul_add k (neg_ℤ m) a ∙ ap (λ (z : ℤ). a *ℤ k +ℤ z) (mul_neg a m)

-- ---- the side of a line turned round

-- the two products of a line turned round
turned_by : (a b u w : ℤ) → neg_ℤ a *ℤ (w -ℤ b) -ℤ neg_ℤ b *ℤ (u -ℤ a) ≡ neg_ℤ (a *ℤ w -ℤ b *ℤ u)
turned_by a b u w =
    let l : neg_ℤ a *ℤ (w -ℤ b) ≡ neg_ℤ (a *ℤ w) +ℤ a *ℤ b
    = neg_mul a (w -ℤ b) ∙ ap neg_ℤ (mul_sub a w b) ∙ neg_ℤ-+ℤ (a *ℤ w) (neg_ℤ (a *ℤ b)) ∙ ap (λ (z : ℤ). neg_ℤ (a *ℤ w) +ℤ z) (neg_ℤ-neg_ℤ (a *ℤ b)) in
    let r : neg_ℤ (neg_ℤ b *ℤ (u -ℤ a)) ≡ b *ℤ u +ℤ neg_ℤ (a *ℤ b)
    = ap neg_ℤ (neg_mul b (u -ℤ a)) ∙ neg_ℤ-neg_ℤ (b *ℤ (u -ℤ a)) ∙ mul_sub b u a ∙ ap (λ (z : ℤ). b *ℤ u +ℤ neg_ℤ z) (*ℤ_comm b a) in
    ap (λ (z : ℤ). z +ℤ neg_ℤ (neg_ℤ b *ℤ (u -ℤ a))) l
    ∙ ap (λ (z : ℤ). (neg_ℤ (a *ℤ w) +ℤ a *ℤ b) +ℤ z) r
    ∙ interchange (neg_ℤ (a *ℤ w)) (a *ℤ b) (b *ℤ u) (neg_ℤ (a *ℤ b))
    ∙ ap (λ (z : ℤ). (neg_ℤ (a *ℤ w) +ℤ b *ℤ u) +ℤ z) (+ℤ_invr (a *ℤ b))
    ∙ +ℤ_idr (neg_ℤ (a *ℤ w) +ℤ b *ℤ u)
    ∙ sym (neg_ℤ-+ℤ (a *ℤ w) (neg_ℤ (b *ℤ u)) ∙ ap (λ (z : ℤ). neg_ℤ (a *ℤ w) +ℤ z) (neg_ℤ-neg_ℤ (b *ℤ u)))

-- the line drawn the other way has the other sides
pub side_swapped : (x0 y0 x1 y1 x y : ℤ) → side_of x1 y1 x0 y0 x y ≡ neg_ℤ (side_of x0 y0 x1 y1 x y)
side_swapped x0 y0 x1 y1 x y =
    ap (λ (z : ℤ). z *ℤ (y -ℤ y1) -ℤ (y0 -ℤ y1) *ℤ (x -ℤ x1)) (sym (neg_sub x1 x0))
    ∙ ap (λ (z : ℤ). neg_ℤ (x1 -ℤ x0) *ℤ z -ℤ (y0 -ℤ y1) *ℤ (x -ℤ x1)) (sym (sub_sub y y1 y0))
    ∙ ap (λ (z : ℤ). neg_ℤ (x1 -ℤ x0) *ℤ ((y -ℤ y0) -ℤ (y1 -ℤ y0)) -ℤ z *ℤ (x -ℤ x1)) (sym (neg_sub y1 y0))
    ∙ ap (λ (z : ℤ). neg_ℤ (x1 -ℤ x0) *ℤ ((y -ℤ y0) -ℤ (y1 -ℤ y0)) -ℤ neg_ℤ (y1 -ℤ y0) *ℤ z) (sym (sub_sub x x1 x0))
    ∙ turned_by (x1 -ℤ x0) (y1 -ℤ y0) (x -ℤ x0) (y -ℤ y0)
