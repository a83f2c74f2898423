-- The order of whole numbers: it turns round with the signs, and is the sign of a difference. Assumes nothing.
use Rattle.std.proofs.Common.{◌≡◌, ℕ, zero, suc, ◌+◌, ◌-◌, ◌≤◌, Bool, cond, ltb, ℤ, pos, negsuc, ◌-ℤ◌, neg_ℤ, sym, refl, ap, ◌∙◌, arith, le-ltb, lt-ltb}
use native.Mathlib.Decide.{dec_lt}
use lib.IntN.{sub_ℕ}
use lib.Signed.{lt_z}
use Rattle.exact.proofs.Ring.{neg_sub}

-- one more on either side
pub one_more : (a b : ℕ) → ltb (suc a) (suc b) ≡ ltb a b
one_more a b = elim (dec_lt a b) [ yes l ↦ lt-ltb (suc a) (suc b) (omega arith) ∙ sym (lt-ltb a b l) | no l ↦ le-ltb (suc a) (suc b) (omega arith) ∙ sym (le-ltb a b (omega arith)) ]

-- the order turns round with the signs
pub less_neg : (a b : ℤ) → lt_z (neg_ℤ a) (neg_ℤ b) ≡ lt_z b a
less_neg (pos zero) (pos zero) = refl
less_neg (pos zero) (pos (suc b)) = sym (le-ltb (suc b) 0 (omega arith))
less_neg (pos zero) (negsuc b) = lt-ltb 0 (suc b) (omega arith)
less_neg (pos (suc a)) (pos zero) = sym (lt-ltb 0 (suc a) (omega arith))
less_neg (pos (suc a)) (pos (suc b)) = sym (one_more b a)
less_neg (pos (suc a)) (negsuc b) = refl
less_neg (negsuc a) (pos zero) = le-ltb (suc a) 0 (omega arith)
less_neg (negsuc a) (pos (suc b)) = refl
less_neg (negsuc a) (negsuc b) = one_more a b

pub left_neg : (a : ℤ) → lt_z (pos 0) (neg_ℤ a) ≡ lt_z a (pos 0)
left_neg a = less_neg (pos 0) a

pub right_neg : (a : ℤ) → lt_z (neg_ℤ a) (pos 0) ≡ lt_z (pos 0) a
right_neg a = less_neg a (pos 0)

-- ---- the sign of a difference

above_sub : (m n : ℕ) → lt_z (pos 0) (sub_ℕ m n) ≡ ltb n m
above_sub m n = elim (dec_lt m n) [
  | yes l ↦
      let g : m ≤ n = omega arith in
      ap (λ (t : Bool). lt_z (pos 0) (cond t (negsuc (n - suc m)) (pos (m - n)))) (lt-ltb m n l) ∙ sym (le-ltb n m g)
  | no l ↦ ap (λ (t : Bool). lt_z (pos 0) (cond t (negsuc (n - suc m)) (pos (m - n)))) (le-ltb m n (omega arith)) ∙ rest
]
  where
    rest : ltb 0 (m - n) ≡ ltb n m
    rest = elim (dec_lt n m) [ yes g ↦ lt-ltb 0 (m - n) (omega arith) ∙ sym (lt-ltb n m g) | no g ↦ le-ltb 0 (m - n) (omega arith) ∙ sym (le-ltb n m (omega arith)) ]

-- a is below b exactly if b - a is above 0
pub less_above : (a b : ℤ) → lt_z a b ≡ lt_z (pos 0) (b -ℤ a)
less_above (pos zero) (pos b) =
    let e : b ≡ b + 0 = omega arith in
    ap (λ (n : ℕ). ltb 0 n) e
less_above (pos (suc a)) (pos b) = sym (above_sub b (suc a))
less_above (pos zero) (negsuc b) = sym (above_sub 0 (suc b) ∙ le-ltb (suc b) 0 (omega arith))
less_above (pos (suc a)) (negsuc b) = refl
less_above (negsuc a) (pos b) = sym (lt-ltb 0 (b + suc a) (omega arith))
less_above (negsuc a) (negsuc b) = sym (above_sub (suc a) (suc b) ∙ one_more b a)

-- and exactly if a - b is below 0
pub less_below : (a b : ℤ) → lt_z a b ≡ lt_z (a -ℤ b) (pos 0)
less_below a b = less_above a b ∙ sym (right_neg (b -ℤ a)) ∙ ap (λ (z : ℤ). lt_z z (pos 0)) (neg_sub b a)
