-- `crosses` says that the edge and the blade have a point in common, ends included, where the edge's ends are not equally far from the blade's line: `crosses_shared`, `shared_crosses`. Assumes nothing.
use Rattle.std.proofs.Common.{◌≡◌, ℕ, zero, suc, ◌+◌, ◌*◌, ◌<◌, Bool, true, false, not, ◌&&◌, ◌||◌, ltb, List, [], ◌∷◌, ℤ, pos, negsuc, ◌+ℤ◌, ◌-ℤ◌, ◌*ℤ◌, neg_ℤ, nat_abs, sym, refl, ap, ◌∙◌, subst, ap₂, true≢false, arith, ltb-true, le-ltb, lt-ltb}
use lib.IntN.{+ℤ_comm, neg_ℤ-+ℤ, neg_ℤ-neg_ℤ}
use lib.Signed.{lt_z}
use Rattle.blade.specs.declared.Point.{Point}
use Rattle.blade.specs.Whole.{side_of}
use Rattle.exact.specs.Exact.{whole_of, side_by, across, differ, crosses}
use Rattle.exact.specs.Meant.{Shared}
use Rattle.float.proofs.Picks.{and_yes}
use Rattle.exact.proofs.Ring.{neg_sub}
use Rattle.exact.proofs.Order.{less_above, less_below}
use Rattle.exact.proofs.Swapped.{across_neg, across_either}
use Rattle.exact.proofs.Solve.{var, plus, times, minus, less, solved, vanishes}
use Rattle.exact.proofs.Meant.{side, apart, across_up}
use Rattle.lists.proofs.Sifts.{and_true}

-- ---- a common point makes each pair lie on or across the other's line

module _ (x0 y0 x1 y1 px py qx qy i j k l : ℤ) where
  abbrev all : List ℤ
  all = x0 ∷ y0 ∷ x1 ∷ y1 ∷ px ∷ py ∷ qx ∷ qy ∷ i ∷ j ∷ k ∷ l ∷ []

  -- the weighted offsets, by the weighted coordinates
  gathered : i *ℤ side_of x0 y0 x1 y1 px py +ℤ j *ℤ side_of x0 y0 x1 y1 qx qy
      ≡ (x1 -ℤ x0) *ℤ ((i *ℤ py +ℤ j *ℤ qy) -ℤ (i +ℤ j) *ℤ y0) -ℤ (y1 -ℤ y0) *ℤ ((i *ℤ px +ℤ j *ℤ qx) -ℤ (i +ℤ j) *ℤ x0)
  gathered =
      let a = var 0 in let b = var 1 in let c = var 2 in let d = var 3 in let e = var 4 in let f = var 5 in let g = var 6 in let h = var 7 in let m = var 8 in let n = var 9 in
      solved all (plus (times m (side a b c d e f)) (times n (side a b c d g h)))
      (less (times (less c a) (less (plus (times m f) (times n h)) (times (plus m n) b))) (times (less d b) (less (plus (times m e) (times n g)) (times (plus m n) a)))) refl

  -- a point of the line has no offset
  on_line : (x1 -ℤ x0) *ℤ ((k *ℤ y0 +ℤ l *ℤ y1) -ℤ (k +ℤ l) *ℤ y0) -ℤ (y1 -ℤ y0) *ℤ ((k *ℤ x0 +ℤ l *ℤ x1) -ℤ (k +ℤ l) *ℤ x0) ≡ pos 0
  on_line =
      let a = var 0 in let b = var 1 in let c = var 2 in let d = var 3 in let m = var 10 in let n = var 11 in
      vanishes all (less (times (less c a) (less (plus (times m b) (times n d)) (times (plus m n) b))) (times (less d b) (less (plus (times m a) (times n c)) (times (plus m n) a)))) refl

  weighed : i +ℤ j ≡ k +ℤ l → i *ℤ px +ℤ j *ℤ qx ≡ k *ℤ x0 +ℤ l *ℤ x1 → i *ℤ py +ℤ j *ℤ qy ≡ k *ℤ y0 +ℤ l *ℤ y1
      → i *ℤ side_of x0 y0 x1 y1 px py +ℤ j *ℤ side_of x0 y0 x1 y1 qx qy ≡ pos 0
  weighed s u v =
      gathered
      ∙ ap (λ (z : ℤ). (x1 -ℤ x0) *ℤ ((i *ℤ py +ℤ j *ℤ qy) -ℤ z *ℤ y0) -ℤ (y1 -ℤ y0) *ℤ ((i *ℤ px +ℤ j *ℤ qx) -ℤ z *ℤ x0)) s
      ∙ ap (λ (z : ℤ). (x1 -ℤ x0) *ℤ ((i *ℤ py +ℤ j *ℤ qy) -ℤ (k +ℤ l) *ℤ y0) -ℤ (y1 -ℤ y0) *ℤ (z -ℤ (k +ℤ l) *ℤ x0)) u
      ∙ ap (λ (z : ℤ). (x1 -ℤ x0) *ℤ (z -ℤ (k +ℤ l) *ℤ y0) -ℤ (y1 -ℤ y0) *ℤ ((k *ℤ x0 +ℤ l *ℤ x1) -ℤ (k +ℤ l) *ℤ x0)) v
      ∙ on_line

with_false : (a : Bool) → (a && false) ≡ false
with_false true = refl
with_false false = refl

-- one of two numbers that is not above 0, and one that is not below 0
unlike_signs : (a b : ℤ) → (lt_z (pos 0) a && lt_z (pos 0) b) ≡ false → (lt_z a (pos 0) && lt_z b (pos 0)) ≡ false → across a b ≡ true
unlike_signs a b h k = and_yes (ap not h) (ap not k)

both_above : (i j a b : ℕ) → 0 < i + j → i * suc a + j * suc b ≡ 0 → ⊥
both_above i j a b h e = omega arith

-- what weighs 0 together is not both above 0
not_above : (i j a b : ℕ) → 0 < i + j → i * a + j * b ≡ 0 → across (pos a) (pos b) ≡ true
not_above i j zero b h e = unlike_signs (pos 0) (pos b) refl refl
not_above i j (suc a) zero h e = unlike_signs (pos (suc a)) (pos 0) (with_false (ltb 0 (suc a))) (with_false (ltb (suc a) 0))
not_above i j (suc a) (suc b) h e = absurd (both_above i j a b h e)

-- nor both below
balanced : (i j : ℕ) (a b : ℤ) → 0 < i + j → pos i *ℤ a +ℤ pos j *ℤ b ≡ pos 0 → across a b ≡ true
balanced i j (pos a) (pos b) h e = not_above i j a b h (ap nat_abs e)
balanced i j (pos a) (negsuc b) h e = unlike_signs (pos a) (negsuc b) (with_false (ltb 0 a)) (ap (λ (t : Bool). t && true) (le-ltb a 0 (omega arith)))
balanced i j (negsuc a) (pos b) h e = unlike_signs (negsuc a) (pos b) refl (le-ltb b 0 (omega arith))
balanced i j (negsuc a) (negsuc b) h e =
    across_neg (pos (suc a)) (pos (suc b))
    ∙ not_above i j (suc a) (suc b) h
    (ap nat_abs
    (ap₂ {C = ℤ} (λ x y. x +ℤ y) (sym (neg_ℤ-neg_ℤ (pos (i * suc a)))) (sym (neg_ℤ-neg_ℤ (pos (j * suc b)))) ∙ sym (neg_ℤ-+ℤ (pos i *ℤ negsuc a) (pos j *ℤ negsuc b)) ∙ ap neg_ℤ e))

pub shared_crosses : (b0 b1 p q : Point) → differ (side_by b0 b1 p) (side_by b0 b1 q) ≡ true → Shared b0 b1 p q → crosses b0 b1 p q ≡ true
unfolding crosses side_by
shared_crosses b0 b1 p q h s =
    let i = pos s.i in let j = pos s.j in let k = pos s.k in let l = pos s.l in
    let x0 = whole_of b0.x in let y0 = whole_of b0.y in let x1 = whole_of b1.x in let y1 = whole_of b1.y in
    let px = whole_of p.x in let py = whole_of p.y in let qx = whole_of q.x in let qy = whole_of q.y in
    let e : i +ℤ j ≡ k +ℤ l = ap pos s.alike in
    let some : 0 < s.k + s.l = subst (λ (n : ℕ). 0 < n) s.alike s.some in
    let edge = balanced s.i s.j (side_of x0 y0 x1 y1 px py) (side_of x0 y0 x1 y1 qx qy) s.some (weighed x0 y0 x1 y1 px py qx qy i j k l e s.x_same s.y_same) in
    let blade = balanced s.k s.l (side_of px py qx qy x0 y0) (side_of px py qx qy x1 y1) some (weighed px py qx qy x0 y0 x1 y1 k l i j (sym e) (sym s.x_same) (sym s.y_same)) in
    and_yes (and_yes edge h) blade

-- ---- a crossing gives a common point

-- the offsets are the weights: (- dq) p + dp q is e1 b0 + (- e0) b1, in either coordinate
module _ (x0 y0 x1 y1 px py qx qy : ℤ) where
  abbrev eight : List ℤ
  eight = x0 ∷ y0 ∷ x1 ∷ y1 ∷ px ∷ py ∷ qx ∷ qy ∷ []

  abbrev dp : ℤ
  dp = side_of x0 y0 x1 y1 px py

  abbrev dq : ℤ
  dq = side_of x0 y0 x1 y1 qx qy

  abbrev e0 : ℤ
  e0 = side_of px py qx qy x0 y0

  abbrev e1 : ℤ
  e1 = side_of px py qx qy x1 y1

  x_up : neg_ℤ dq *ℤ px +ℤ dp *ℤ qx ≡ e1 *ℤ x0 +ℤ neg_ℤ e0 *ℤ x1
  x_up =
      let a = var 0 in let b = var 1 in let c = var 2 in let d = var 3 in let e = var 4 in let f = var 5 in let g = var 6 in let h = var 7 in
      solved eight (plus (times (minus (side a b c d g h)) e) (times (side a b c d e f) g)) (plus (times (side e f g h c d) a) (times (minus (side e f g h a b)) c)) refl

  y_up : neg_ℤ dq *ℤ py +ℤ dp *ℤ qy ≡ e1 *ℤ y0 +ℤ neg_ℤ e0 *ℤ y1
  y_up =
      let a = var 0 in let b = var 1 in let c = var 2 in let d = var 3 in let e = var 4 in let f = var 5 in let g = var 6 in let h = var 7 in
      solved eight (plus (times (minus (side a b c d g h)) f) (times (side a b c d e f) h)) (plus (times (side e f g h c d) b) (times (minus (side e f g h a b)) d)) refl

  x_down : dq *ℤ px +ℤ neg_ℤ dp *ℤ qx ≡ neg_ℤ e1 *ℤ x0 +ℤ e0 *ℤ x1
  x_down =
      let a = var 0 in let b = var 1 in let c = var 2 in let d = var 3 in let e = var 4 in let f = var 5 in let g = var 6 in let h = var 7 in
      solved eight (plus (times (side a b c d g h) e) (times (minus (side a b c d e f)) g)) (plus (times (minus (side e f g h c d)) a) (times (side e f g h a b) c)) refl

  y_down : dq *ℤ py +ℤ neg_ℤ dp *ℤ qy ≡ neg_ℤ e1 *ℤ y0 +ℤ e0 *ℤ y1
  y_down =
      let a = var 0 in let b = var 1 in let c = var 2 in let d = var 3 in let e = var 4 in let f = var 5 in let g = var 6 in let h = var 7 in
      solved eight (plus (times (side a b c d g h) f) (times (minus (side a b c d e f)) h)) (plus (times (minus (side e f g h c d)) b) (times (side e f g h a b) d)) refl

-- the size of a number that is not below 0, or not above
size_up : (a : ℤ) → not (lt_z a (pos 0)) ≡ true → pos (nat_abs a) ≡ a
size_up (pos n) h = refl
size_up (negsuc n) h = absurd (true≢false (sym h))

size_down : (a : ℤ) → not (lt_z (pos 0) a) ≡ true → pos (nat_abs a) ≡ neg_ℤ a
size_down (pos zero) h = refl
size_down (pos (suc n)) h = absurd (true≢false (sym h ∙ ap not (lt-ltb 0 (suc n) (omega arith))))
size_down (negsuc n) h = refl

-- a number below another, on or across 0: the lower is not above 0, the upper not below
apart_up : (a b : ℤ) → lt_z a b ≡ true → across a b ≡ true → (pos (nat_abs a) ≡ neg_ℤ a) × (pos (nat_abs b) ≡ b)
apart_up a b h k =
    let t = and_true (not (lt_z (pos 0) a)) (not (lt_z b (pos 0))) (sym (across_up a b h) ∙ k) in
    (size_down a t.0, size_up b t.1)

-- and their sizes are not both 0
not_none : (a b : ℤ) → lt_z a b ≡ true → 0 < nat_abs a + nat_abs b
not_none (pos a) (pos b) h =
    let l : a < b = ltb-true a b h in
    omega arith
not_none (pos a) (negsuc b) h = omega arith
not_none (negsuc a) b h = omega arith

module _ (x0 y0 x1 y1 px py qx qy : ℤ) where
  abbrev m : ℤ
  m = dp x0 y0 x1 y1 px py qx qy

  abbrev n : ℤ
  n = dq x0 y0 x1 y1 px py qx qy

  abbrev f : ℤ
  f = e0 x0 y0 x1 y1 px py qx qy

  abbrev g : ℤ
  g = e1 x0 y0 x1 y1 px py qx qy

  -- the sizes of the four offsets weigh a common point
  abbrev Common : Type 0
  Common =
      (0 < nat_abs n + nat_abs m) ×
      (nat_abs n + nat_abs m ≡ nat_abs g + nat_abs f) ×
      (pos (nat_abs n) *ℤ px +ℤ pos (nat_abs m) *ℤ qx ≡ pos (nat_abs g) *ℤ x0 +ℤ pos (nat_abs f) *ℤ x1) ×
      (pos (nat_abs n) *ℤ py +ℤ pos (nat_abs m) *ℤ qy ≡ pos (nat_abs g) *ℤ y0 +ℤ pos (nat_abs f) *ℤ y1)

  common_up : lt_z n m ≡ true → across m n ≡ true → across f g ≡ true → Common
  common_up h k l =
      let e = apart x0 y0 x1 y1 px py qx qy in
      let up : lt_z f g ≡ true = less_above f g ∙ ap (lt_z (pos 0)) (sym e) ∙ sym (less_above n m) ∙ h in
      let a = apart_up n m h (across_either n m ∙ k) in
      let b = apart_up f g up l in (
        not_none n m h,
        ap nat_abs (ap₂ {C = ℤ} (λ x y. x +ℤ y) a.0 a.1 ∙ +ℤ_comm (neg_ℤ n) m ∙ e ∙ sym (ap₂ {C = ℤ} (λ x y. x +ℤ y) b.1 b.0)),
        ap₂ {C = ℤ} (λ x y. x *ℤ px +ℤ y *ℤ qx) a.0 a.1 ∙ x_up x0 y0 x1 y1 px py qx qy ∙ sym (ap₂ {C = ℤ} (λ x y. x *ℤ x0 +ℤ y *ℤ x1) b.1 b.0),
        ap₂ {C = ℤ} (λ x y. x *ℤ py +ℤ y *ℤ qy) a.0 a.1 ∙ y_up x0 y0 x1 y1 px py qx qy ∙ sym (ap₂ {C = ℤ} (λ x y. x *ℤ y0 +ℤ y *ℤ y1) b.1 b.0),
      )

  common_down : lt_z m n ≡ true → across m n ≡ true → across f g ≡ true → Common
  common_down h k l =
      let e = apart x0 y0 x1 y1 px py qx qy in
      let down : lt_z g f ≡ true = less_below g f ∙ ap (λ (z : ℤ). lt_z z (pos 0)) (sym e) ∙ sym (less_below m n) ∙ h in
      let a = apart_up m n h k in
      let b = apart_up g f down (across_either g f ∙ l) in
      let some : 0 < nat_abs m + nat_abs n = not_none m n h in (
        omega arith,
        ap nat_abs (ap₂ {C = ℤ} (λ x y. x +ℤ y) a.1 a.0 ∙ sym (neg_sub m n) ∙ ap neg_ℤ e ∙ neg_sub g f ∙ +ℤ_comm f (neg_ℤ g) ∙ sym (ap₂ {C = ℤ} (λ x y. x +ℤ y) b.0 b.1)),
        ap₂ {C = ℤ} (λ x y. x *ℤ px +ℤ y *ℤ qx) a.1 a.0 ∙ x_down x0 y0 x1 y1 px py qx qy ∙ sym (ap₂ {C = ℤ} (λ x y. x *ℤ x0 +ℤ y *ℤ x1) b.0 b.1),
        ap₂ {C = ℤ} (λ x y. x *ℤ py +ℤ y *ℤ qy) a.1 a.0 ∙ y_down x0 y0 x1 y1 px py qx qy ∙ sym (ap₂ {C = ℤ} (λ x y. x *ℤ y0 +ℤ y *ℤ y1) b.0 b.1),
      )

  common : differ m n ≡ true → across m n ≡ true → across f g ≡ true → Common
  common h k l = by (lt_z m n) refl h
    where
      by : (t : Bool) → lt_z m n ≡ t → (t || lt_z n m) ≡ true → Common
      by true e d = common_down e k l
      by false e d = common_up d k l

pub crosses_shared : (b0 b1 p q : Point) → crosses b0 b1 p q ≡ true → (differ (side_by b0 b1 p) (side_by b0 b1 q) ≡ true) × Shared b0 b1 p q
unfolding crosses side_by
crosses_shared b0 b1 p q h =
    let t = and_true (across (side_by b0 b1 p) (side_by b0 b1 q) && differ (side_by b0 b1 p) (side_by b0 b1 q)) (across (side_by p q b0) (side_by p q b1)) h in
    let u = and_true (across (side_by b0 b1 p) (side_by b0 b1 q)) (differ (side_by b0 b1 p) (side_by b0 b1 q)) t.0 in
    let w = common (whole_of b0.x) (whole_of b0.y) (whole_of b1.x) (whole_of b1.y) (whole_of p.x) (whole_of p.y) (whole_of q.x) (whole_of q.y) u.1 u.0 t.1 in
    (u.1, record { i = nat_abs (side_by b0 b1 q); j = nat_abs (side_by b0 b1 p); k = nat_abs (side_by p q b1); l = nat_abs (side_by p q b0); some = w.0; alike = w.1; x_same = w.2; y_same = w.3 })
