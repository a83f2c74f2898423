-- A blade drawn the other way has the same crossings and the other sides. Assumes nothing.
use Rattle.std.proofs.Common.{◌≡◌, Bool, true, false, not, ◌&&◌, ◌||◌, ltb, List, [], ◌∷◌, map, ℤ, pos, negsuc, ◌+ℤ◌, neg_ℤ, sym, refl, ap, ◌∙◌, ap₂, true≢false, arith, le-ltb}
use lib.IntN.{neg_ℤ-+ℤ}
use lib.Signed.{lt_z}
use Rattle.lists.specs.Lists.{pick, fold}
use Rattle.blade.specs.declared.Point.{Point}
use Rattle.exact.specs.declared.Sign.{Sign}
use Rattle.exact.specs.declared.Sign.TheVariants.{Left, On, Right}
use Rattle.exact.specs.Exact.{whole_of, side_by, across, differ, crosses, sign_of, total, kept_by_of, opposite}
use Rattle.exact.proofs.Ring.{side_swapped}
use Rattle.exact.proofs.Order.{less_neg, left_neg, right_neg}

-- ---- tests

pub and_either : (a b : Bool) → a && b ≡ b && a
and_either true true = refl
and_either true false = refl
and_either false true = refl
and_either false false = refl

or_either : (a b : Bool) → a || b ≡ b || a
or_either true true = refl
or_either true false = refl
or_either false true = refl
or_either false false = refl

pub across_neg : (a b : ℤ) → across (neg_ℤ a) (neg_ℤ b) ≡ across a b
across_neg a b = rw (left_neg a, left_neg b, right_neg a, right_neg b) (and_either (not (lt_z a (pos 0) && lt_z b (pos 0))) (not (lt_z (pos 0) a && lt_z (pos 0) b)))

pub across_either : (a b : ℤ) → across a b ≡ across b a
across_either a b = rw (and_either (lt_z (pos 0) a) (lt_z (pos 0) b), and_either (lt_z a (pos 0)) (lt_z b (pos 0)))

differ_neg : (a b : ℤ) → differ (neg_ℤ a) (neg_ℤ b) ≡ differ a b
differ_neg a b = rw (less_neg a b, less_neg b a) (or_either (lt_z b a) (lt_z a b))

-- ---- one crossing

-- the offset from the line drawn the other way
pub side_other : (a b p : Point) → side_by b a p ≡ neg_ℤ (side_by a b p)
unfolding side_by
side_other a b p = side_swapped (whole_of a.x) (whole_of a.y) (whole_of b.x) (whole_of b.y) (whole_of p.x) (whole_of p.y)

pub crosses_same : (b0 b1 p q : Point) → crosses b1 b0 p q ≡ crosses b0 b1 p q
unfolding crosses
crosses_same b0 b1 p q =
    rw (side_other b0 b1 p, side_other b0 b1 q, across_neg (side_by b0 b1 p) (side_by b0 b1 q), differ_neg (side_by b0 b1 p) (side_by b0 b1 q), across_either (side_by p q b1) (side_by p q b0))

-- ---- sides

-- the other side
abbrev pub flip : Sign → Sign
flip Left = Right
flip On = On
flip Right = Left

pub sign_neg : (d : ℤ) → sign_of (neg_ℤ d) ≡ flip (sign_of d)
unfolding sign_of
sign_neg d = rw (left_neg d, right_neg d) (by (lt_z (pos 0) d) (lt_z d (pos 0)) (not_both d))
  where
    none : (a : Bool) → (a && false) ≡ false
    none true = refl
    none false = refl

    by : (a b : Bool) → (a && b) ≡ false → pick b Left (pick a Right On) ≡ flip (pick a Left (pick b Right On))
    by true true h = absurd (true≢false h)
    by true false h = refl
    by false true h = refl
    by false false h = refl

    not_both : (d : ℤ) → (lt_z (pos 0) d && lt_z d (pos 0)) ≡ false
    not_both (pos n) = ap (λ (t : Bool). ltb 0 n && t) (le-ltb n 0 (omega arith)) ∙ none (ltb 0 n)
    not_both (negsuc n) = refl

-- the sum of the other offsets
pub total_other : {A : Type 0} (f g : A → ℤ) → ((a : A) → f a ≡ neg_ℤ (g a)) → (l : List A) → total (map f l) ≡ neg_ℤ (total (map g l))
unfolding total
total_other f g h [] = refl
total_other f g h (a ∷ l) = ap₂ {C = ℤ} (λ x y. x +ℤ y) (h a) (total_other f g h l) ∙ sym (neg_ℤ-+ℤ (g a) (total (map g l)))

-- so a point, and the middle of several, is on the other side
pub sign_other : (a b p : Point) → sign_of (side_by b a p) ≡ flip (sign_of (side_by a b p))
sign_other a b p = ap sign_of (side_other a b p) ∙ sign_neg (side_by a b p)

pub sum_other : {A : Type 0} (f g : A → ℤ) → ((a : A) → f a ≡ neg_ℤ (g a)) → (l : List A) → sign_of (total (map f l)) ≡ flip (sign_of (total (map g l)))
sum_other f g h l = ap sign_of (total_other f g h l) ∙ sign_neg (total (map g l))

-- the kept side is the other one too, and what lies opposite to it is the same
pub kept_flipped : (own : Sign) (ms : List Sign) → kept_by_of (flip own) (map flip ms) ≡ flip (kept_by_of own ms)
unfolding kept_by_of
kept_flipped own [] = refl
kept_flipped Left (m ∷ ms) = refl
kept_flipped On (m ∷ ms) = kept_flipped m ms
kept_flipped Right (m ∷ ms) = refl

-- what lies on the line is passed over, also where it comes first
pub kept_past : (ms : List Sign) → kept_by_of On (On ∷ ms) ≡ kept_by_of On ms
unfolding kept_by_of
kept_past ms = refl

pub opposite_flipped : (a b : Sign) → opposite (flip a) (flip b) ≡ opposite a b
opposite_flipped Left Left = refl
opposite_flipped Left On = refl
opposite_flipped Left Right = refl
opposite_flipped On b = refl
opposite_flipped Right Left = refl
opposite_flipped Right On = refl
opposite_flipped Right Right = refl

pub opposed_flipped : {A : Type 0} (g : Bool → A) (k : Sign) (ms : List Sign) → map (λ m. g (opposite (flip k) m)) (map flip ms) ≡ map (λ m. g (opposite k m)) ms
opposed_flipped g k [] = refl
opposed_flipped {A} g k (m ∷ ms) = ap₂ {C = List A} (λ x y. x ∷ y) (ap g (opposite_flipped k m)) (opposed_flipped g k ms)

-- ---- functions that agree everywhere

pub fold_ext : {A B : Type 0} (f g : B → A → B) → ((b : B) (a : A) → f b a ≡ g b a) → (b : B) (l : List A) → fold f b l ≡ fold g b l
unfolding fold
fold_ext f g h b [] = refl
fold_ext {A} {B} f g h b (a ∷ l) = ap (λ (c : B). fold f c l) (h b a) ∙ fold_ext f g h (g b a) l
