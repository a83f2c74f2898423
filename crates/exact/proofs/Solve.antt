-- Sums and products of whole numbers that are equal by the laws of a ring, found by computing: each is multiplied out, and its terms cancel. Assumes nothing.
use Rattle.std.proofs.Common.{◌≡◌, ℕ, zero, suc, Bool, true, false, cond, not, ◌&&◌, eqb, leb, List, [], ◌∷◌, ℤ, pos, ◌+ℤ◌, ◌-ℤ◌, ◌*ℤ◌, neg_ℤ, sym, refl, ap, ◌∙◌, subst, ap₂, true≢false, eqb-true}
use mathlib.Core.Bool.{beq}
use lib.IntN.{suc_ℤ, pred_ℤ, ℤ_ind, +ℤ_one, -ℤ_one, +ℤ_assoc, +ℤ_comm, +ℤ_idl, +ℤ_idr, +ℤ_invr, +ℤ_invl, neg_ℤ-+ℤ, neg_ℤ-neg_ℤ, zero-*ℤ, suc_ℤ-*ℤ, pred_ℤ-*ℤ, *ℤ_comm, -ℤ-+ℤ_cancel}
use Rattle.blade.proofs.Sides.{neg_mul}
use Rattle.exact.proofs.Ring.{mul_add, mul_neg}
use Rattle.lists.proofs.Sifts.{and_true}

-- ---- products

pub add_mul : (k m a : ℤ) → (k +ℤ m) *ℤ a ≡ k *ℤ a +ℤ m *ℤ a
add_mul k m a = *ℤ_comm (k +ℤ m) a ∙ mul_add k m a ∙ ap₂ {C = ℤ} (λ x y. x +ℤ y) (*ℤ_comm a k) (*ℤ_comm a m)

module _ (b c : ℤ) where
  abbrev Assoc : ℤ → Type 0
  Assoc a = (a *ℤ b) *ℤ c ≡ a *ℤ (b *ℤ c)

  assoc_suc : (a : ℤ) → Assoc a → Assoc (suc_ℤ a)
  assoc_suc a h = ap (λ (z : ℤ). z *ℤ c) (suc_ℤ-*ℤ a b) ∙ add_mul (a *ℤ b) b c ∙ ap (λ (z : ℤ). z +ℤ b *ℤ c) h ∙ sym (suc_ℤ-*ℤ a (b *ℤ c))

  assoc_pred : (a : ℤ) → Assoc a → Assoc (pred_ℤ a)
  assoc_pred a h =
      ap (λ (z : ℤ). z *ℤ c) (pred_ℤ-*ℤ a b) ∙ add_mul (a *ℤ b) (neg_ℤ b) c ∙ ap₂ {C = ℤ} (λ x y. x +ℤ y) h (neg_mul b c) ∙ sym (pred_ℤ-*ℤ a (b *ℤ c))

  pub mul_assoc : (a : ℤ) → (a *ℤ b) *ℤ c ≡ a *ℤ (b *ℤ c)
  mul_assoc a =
      ℤ_ind Assoc
      (ap (λ (z : ℤ). z *ℤ c) (zero-*ℤ b) ∙ zero-*ℤ c ∙ sym (zero-*ℤ (b *ℤ c)))
      (λ n h. subst Assoc (sym (+ℤ_one (pos n))) (assoc_suc (pos n) h))
      (λ n h. subst Assoc (sym (-ℤ_one (neg_ℤ (pos n)))) (assoc_pred (neg_ℤ (pos n)) h)) a

mul_swap : (a b c : ℤ) → a *ℤ (b *ℤ c) ≡ b *ℤ (a *ℤ c)
mul_swap a b c = sym (mul_assoc b c a) ∙ ap (λ (z : ℤ). z *ℤ c) (*ℤ_comm a b) ∙ mul_assoc a c b

one_mul : (a : ℤ) → pos 1 *ℤ a ≡ a
one_mul a = suc_ℤ-*ℤ (pos 0) a ∙ ap (λ (z : ℤ). z +ℤ a) (zero-*ℤ a) ∙ +ℤ_idl a

add_swap : (a b c : ℤ) → a +ℤ (b +ℤ c) ≡ b +ℤ (a +ℤ c)
add_swap a b c = sym (+ℤ_assoc a b c) ∙ ap (λ (z : ℤ). z +ℤ c) (+ℤ_comm a b) ∙ +ℤ_assoc b a c

-- ---- what is written, and what it is multiplied out

-- a number by its place in a list, a sum, a product, a negative
pub data Expr : Type 0 where
  var : ℕ → Expr
  plus : Expr → Expr → Expr
  times : Expr → Expr → Expr
  minus : Expr → Expr

-- a difference
abbrev pub less : Expr → Expr → Expr
less a b = plus a (minus b)

abbrev pub at : List ℤ → ℕ → ℤ
at [] i = pos 0
at (z ∷ l) zero = z
at (z ∷ l) (suc i) = at l i

-- a product of numbers in the order of their places; a term below 0 where the sign is true; a sum of terms
abbrev Mono : Type 0
Mono = List ℕ

abbrev Term : Type 0
Term = Bool × Mono

abbrev Poly : Type 0
Poly = List Term

abbrev into : ℕ → Mono → Mono
into i [] = i ∷ []
into i (j ∷ m) = cond (leb i j) (i ∷ j ∷ m) (j ∷ into i m)

abbrev both : Mono → Mono → Mono
both [] n = n
both (i ∷ m) n = into i (both m n)

abbrev same : Mono → Mono → Bool
same [] [] = true
same [] (j ∷ n) = false
same (i ∷ m) [] = false
same (i ∷ m) (j ∷ n) = eqb i j && same m n

abbrev cancels : Term → Term → Bool
cancels t u = not (beq t.0 u.0) && same t.1 u.1

-- a term put to a sum: it takes one that it cancels away
abbrev put : Term → Poly → Poly
put t [] = t ∷ []
put t (u ∷ l) = cond (cancels t u) l (u ∷ put t l)

abbrev join : Poly → Poly → Poly
join [] k = k
join (t ∷ l) k = put t (join l k)

abbrev turn : Poly → Poly
turn [] = []
turn (t ∷ l) = (not t.0, t.1) ∷ turn l

abbrev term : Term → Term → Term
term t u = (not (beq t.0 u.0), both t.1 u.1)

abbrev scale : Term → Poly → Poly
scale t [] = []
scale t (u ∷ l) = put (term t u) (scale t l)

abbrev mult : Poly → Poly → Poly
mult [] k = []
mult (t ∷ l) k = join (scale t k) (mult l k)

abbrev pub out : Expr → Poly
out (var i) = (false, i ∷ []) ∷ []
out (plus a b) = join (out a) (out b)
out (times a b) = mult (out a) (out b)
out (minus a) = turn (out a)

-- ---- what each is worth

module _ (z : List ℤ) where
  abbrev pub worth : Expr → ℤ
  worth (var i) = at z i
  worth (plus a b) = worth a +ℤ worth b
  worth (times a b) = worth a *ℤ worth b
  worth (minus a) = neg_ℤ (worth a)

  abbrev mono : Mono → ℤ
  mono [] = pos 1
  mono (i ∷ m) = at z i *ℤ mono m

  abbrev signed : Bool → ℤ → ℤ
  signed true a = neg_ℤ a
  signed false a = a

  abbrev of_term : Term → ℤ
  of_term t = signed t.0 (mono t.1)

  abbrev poly : Poly → ℤ
  poly [] = pos 0
  poly (t ∷ l) = of_term t +ℤ poly l

  -- ---- each step keeps it

  into_is : (i : ℕ) (m : Mono) → mono (into i m) ≡ at z i *ℤ mono m
  into_is i [] = refl
  into_is i (j ∷ m) = by (leb i j) (into_is i m)
    where
      by : (t : Bool) → mono (into i m) ≡ at z i *ℤ mono m → mono (cond t (i ∷ j ∷ m) (j ∷ into i m)) ≡ at z i *ℤ (at z j *ℤ mono m)
      by true h = refl
      by false h = ap (λ (a : ℤ). at z j *ℤ a) h ∙ mul_swap (at z j) (at z i) (mono m)

  both_is : (m n : Mono) → mono (both m n) ≡ mono m *ℤ mono n
  both_is [] n = sym (one_mul (mono n))
  both_is (i ∷ m) n = into_is i (both m n) ∙ ap (λ (a : ℤ). at z i *ℤ a) (both_is m n) ∙ sym (mul_assoc (mono m) (mono n) (at z i))

  same_is : (m n : Mono) → same m n ≡ true → mono m ≡ mono n
  same_is [] [] h = refl
  same_is [] (j ∷ n) h = absurd (true≢false (sym h))
  same_is (i ∷ m) [] h = absurd (true≢false (sym h))
  same_is (i ∷ m) (j ∷ n) h =
      let k = and_true (eqb i j) (same m n) h in
      ap₂ {C = ℤ} (λ a b. a *ℤ b) (ap (at z) (eqb-true i j k.0)) (same_is m n k.1)

  gone : (s t : Bool) (a b : ℤ) → not (beq s t) ≡ true → a ≡ b → signed s a +ℤ signed t b ≡ pos 0
  gone true true a b h e = absurd (true≢false (sym h))
  gone true false a b h e = ap (λ (c : ℤ). neg_ℤ a +ℤ c) (sym e) ∙ +ℤ_invl a
  gone false true a b h e = ap (λ (c : ℤ). a +ℤ neg_ℤ c) (sym e) ∙ +ℤ_invr a
  gone false false a b h e = absurd (true≢false (sym h))

  put_is : (t : Term) (l : Poly) → poly (put t l) ≡ of_term t +ℤ poly l
  put_is t [] = refl
  put_is t (u ∷ l) = by (cancels t u) refl (put_is t l)
    where
      by : (x : Bool) → cancels t u ≡ x → poly (put t l) ≡ of_term t +ℤ poly l → poly (cond x l (u ∷ put t l)) ≡ of_term t +ℤ (of_term u +ℤ poly l)
      by true e h =
          let k = and_true (not (beq t.0 u.0)) (same t.1 u.1) e in
          sym (sym (+ℤ_assoc (of_term t) (of_term u) (poly l)) ∙ ap (λ (a : ℤ). a +ℤ poly l) (gone t.0 u.0 (mono t.1) (mono u.1) k.0 (same_is t.1 u.1 k.1)) ∙ +ℤ_idl (poly l))
      by false e h = ap (λ (a : ℤ). of_term u +ℤ a) h ∙ add_swap (of_term u) (of_term t) (poly l)

  join_is : (l k : Poly) → poly (join l k) ≡ poly l +ℤ poly k
  join_is [] k = sym (+ℤ_idl (poly k))
  join_is (t ∷ l) k = put_is t (join l k) ∙ ap (λ (a : ℤ). of_term t +ℤ a) (join_is l k) ∙ sym (+ℤ_assoc (of_term t) (poly l) (poly k))

  turned : (s : Bool) (a : ℤ) → signed (not s) a ≡ neg_ℤ (signed s a)
  turned true a = sym (neg_ℤ-neg_ℤ a)
  turned false a = refl

  turn_is : (l : Poly) → poly (turn l) ≡ neg_ℤ (poly l)
  turn_is [] = refl
  turn_is (t ∷ l) = ap₂ {C = ℤ} (λ a b. a +ℤ b) (turned t.0 (mono t.1)) (turn_is l) ∙ sym (neg_ℤ-+ℤ (of_term t) (poly l))

  signs : (s t : Bool) (a b : ℤ) → signed (not (beq s t)) (a *ℤ b) ≡ signed s a *ℤ signed t b
  signs true true a b = sym (neg_mul a (neg_ℤ b) ∙ ap neg_ℤ (mul_neg a b) ∙ neg_ℤ-neg_ℤ (a *ℤ b))
  signs true false a b = sym (neg_mul a b)
  signs false true a b = sym (mul_neg a b)
  signs false false a b = refl

  term_is : (t u : Term) → of_term (term t u) ≡ of_term t *ℤ of_term u
  term_is t u = ap (signed (not (beq t.0 u.0))) (both_is t.1 u.1) ∙ signs t.0 u.0 (mono t.1) (mono u.1)

  scale_is : (t : Term) (l : Poly) → poly (scale t l) ≡ of_term t *ℤ poly l
  scale_is t [] = sym (*ℤ_comm (of_term t) (pos 0) ∙ zero-*ℤ (of_term t))
  scale_is t (u ∷ l) = put_is (term t u) (scale t l) ∙ ap₂ {C = ℤ} (λ a b. a +ℤ b) (term_is t u) (scale_is t l) ∙ sym (mul_add (of_term u) (poly l) (of_term t))

  mult_is : (l k : Poly) → poly (mult l k) ≡ poly l *ℤ poly k
  mult_is [] k = sym (zero-*ℤ (poly k))
  mult_is (t ∷ l) k = join_is (scale t k) (mult l k) ∙ ap₂ {C = ℤ} (λ a b. a +ℤ b) (scale_is t k) (mult_is l k) ∙ sym (add_mul (of_term t) (poly l) (poly k))

  out_is : (e : Expr) → poly (out e) ≡ worth e
  out_is (var i) = +ℤ_idr (at z i *ℤ pos 1) ∙ *ℤ_comm (at z i) (pos 1) ∙ one_mul (at z i)
  out_is (plus a b) = join_is (out a) (out b) ∙ ap₂ {C = ℤ} (λ x y. x +ℤ y) (out_is a) (out_is b)
  out_is (times a b) = mult_is (out a) (out b) ∙ ap₂ {C = ℤ} (λ x y. x *ℤ y) (out_is a) (out_is b)
  out_is (minus a) = turn_is (out a) ∙ ap neg_ℤ (out_is a)

  -- what leaves no term is 0
  pub vanishes : (a : Expr) → out a ≡ [] → worth a ≡ pos 0
  vanishes a h = sym (out_is a) ∙ ap poly h

  -- two that differ by nothing are equal
  pub solved : (a b : Expr) → out (less a b) ≡ [] → worth a ≡ worth b
  solved a b h =
      let e : worth a -ℤ worth b ≡ pos 0 = vanishes (less a b) h in
      sym (-ℤ-+ℤ_cancel (worth a) (worth b)) ∙ ap (λ (x : ℤ). x +ℤ worth b) e ∙ +ℤ_idl (worth b)
