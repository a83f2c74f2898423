-- Words that tell of indices: which of them are below 2 ^ 63, and that the word of all bits of two is where both are.
use Rattle.std.proofs.Common.{◌≡◌, ℕ, ◌+◌, ◌%◌, ◌<◌, ◌≤◌, Bool, true, false, not, ◌&&◌, eqb, ltb, [], ◌∷◌, sym, refl, ap, ◌∙◌, arith, ltb-true, le-ltb, lt-ltb, eq-eqb, ne_eqb}
use native.Mathlib.Decide.{dec_le, ℕ_discrete}
use lib.Bits.{bit_or, bit_xor, xor_lt, xor_self, xor_add_and, and_le_l, and_le_r}
use Rattle.columns.proofs.Rows.{and_false}
use Rattle.model.specs.Valid.{named}
use Rattle.judge.specs.Told.{fine}
use Rattle.judge.proofs.Wide.{or_below}
use Rattle.judge.proofs.Joined.{two_named, three_named}

-- the word of all bits of two
pub or_fine : (a b : ℕ) → fine (bit_or a b) ≡ (fine a && fine b)
unfolding fine
or_fine a b = or_below 63 a b

-- an index, and its sum with the room
pub index_fine : (n room a w : ℕ) → n + room ≡ 9223372036854775808 → w ≡ (a + room) % 18446744073709551616 → fine (bit_or a w) ≡ ltb a n
unfolding fine
index_fine n room a w h e = or_fine a w ∙ by (dec_le 9223372036854775808 a) (dec_le n a)
  where
    by : Dec (9223372036854775808 ≤ a) → Dec (n ≤ a) → (fine a && fine w) ≡ ltb a n
    by (yes p) q = rw (le-ltb a 9223372036854775808 p, le-ltb a n (omega (arith, p, h))) refl
    by (no p) (yes q) = rw (le-ltb a n q, le-ltb w 9223372036854775808 (omega (arith, p, q, h, e)), and_false (ltb a 9223372036854775808)) refl
    by (no p) (no q) = rw (lt-ltb a 9223372036854775808 (omega (arith, p)), lt-ltb a n (omega (arith, q)), lt-ltb w 9223372036854775808 (omega (arith, p, q, h, e))) refl

-- the bits in which two words differ: none where they are equal, and as many as the words have at most
apart : (a b : ℕ) → (b ≡ a → ⊥) → 1 ≤ bit_xor a b
apart a b ne = by (dec_le 1 (bit_xor a b))
  where
    by : Dec (1 ≤ bit_xor a b) → 1 ≤ bit_xor a b
    by (yes p) = p
    by (no p) = absurd (ne (omega (arith, p, xor_add_and a b, and_le_l a b, and_le_r a b)))

-- 1 less than those bits
pub differ_fine : (a b w : ℕ) → w ≡ (bit_xor a b + 18446744073709551615) % 18446744073709551616 → a < 9223372036854775808 → b < 9223372036854775808 → fine w ≡ not (eqb b a)
unfolding fine
differ_fine a b w e p q = elim (ℕ_discrete b a) [
  | yes s ↦ rw (eq-eqb b a s) (le-ltb w 9223372036854775808 (let z : bit_xor a b ≡ 0 = ap (λ (k : ℕ). bit_xor a k) s ∙ xor_self a in omega (arith, z, e)))
  | no s ↦ rw (ne_eqb b a s) (lt-ltb w 9223372036854775808 (omega (arith, e, apart a b s, xor_lt 63 a b p q)))
]

-- what follows where a is below n: the sum of b with the room, and 1 less than the bits in which a and b differ
pub other_fine :
    (n room a b v w : ℕ) → n + room ≡ 9223372036854775808 → b < 18446744073709551616 → v ≡ (b + room) % 18446744073709551616
    → w ≡ (bit_xor a b + 18446744073709551615) % 18446744073709551616 → a < n → fine (bit_or v w) ≡ (ltb b n && not (eqb b a))
unfolding fine
other_fine n room a b v w h g e f p = or_fine v w ∙ by (dec_le n b) (dec_le (9223372036854775808 + n) b)
  where
    by : Dec (n ≤ b) → Dec (9223372036854775808 + n ≤ b) → (fine v && fine w) ≡ (ltb b n && not (eqb b a))
    by (yes q) (yes r) =
        let x : bit_xor a b < 18446744073709551616 = xor_lt 64 a b (omega (arith, h, p)) g in
        rw (le-ltb b n q, le-ltb w 9223372036854775808 (omega (arith, f, x, h, p, r, xor_add_and a b, and_le_l a b)), and_false (fine v)) refl
    by (yes q) (no r) = rw (le-ltb b n q, le-ltb v 9223372036854775808 (omega (arith, e, h, q, r))) refl
    by (no q) r =
        rw (lt-ltb b n (omega (arith, q)), lt-ltb v 9223372036854775808 (omega (arith, e, h, q))) (differ_fine a b w f (omega (arith, h, p)) (omega (arith, h, q)))

-- an index, and another one
two_joined : (p q e s : Bool) → (p ≡ true → s ≡ (q && not e)) → (p && s) ≡ ((p && not e) && q)
two_joined true q e s h = h refl ∙ turned q e
  where
    turned : (q e : Bool) → (q && not e) ≡ (not e && q)
    turned true true = refl
    turned true false = refl
    turned false true = refl
    turned false false = refl
two_joined false q e s h = refl

-- two different ones of n particles
pub two_fine :
    (n a b v w : ℕ) → fine v ≡ ltb a n → (a < n → fine w ≡ (ltb b n && not (eqb b a))) → fine (bit_or v w) ≡ named n (a ∷ b ∷ [])
two_fine n a b v w e f =
    or_fine v w ∙ ap (λ (t : Bool). t && fine w) e ∙ two_joined (ltb a n) (ltb b n) (eqb b a) (fine w) (λ t. f (ltb-true a n t)) ∙ two_named n a b

-- three indices: two, a third that is not the first, nor the second
three_joined :
    (p q r e f g m s t : Bool) → m ≡ ((p && not e) && q) → (p ≡ true → s ≡ (r && not f)) → (q ≡ true → r ≡ true → t ≡ not g)
    → ((m && s) && t) ≡ (((p && not e) && not f) && ((q && not g) && r))
three_joined false q r e f g m s t h i j = rw h refl
three_joined true false r e f g m s t h i j = rw (h, and_false (not e), and_false (not e && not f)) refl
three_joined true true false e f g m s t h i j =
    let x : s ≡ false = i refl in rw (h, x, and_false (not g), and_false (not e && not f), and_false (not e && true)) refl
three_joined true true true e f g m s t h i j = rw (h, i refl, j refl refl) (same e f g)
  where
    same : (e f g : Bool) → (((not e && true) && not f) && not g) ≡ ((not e && not f) && (not g && true))
    same true f g = refl
    same false true g = refl
    same false false true = refl
    same false false false = refl

-- three different ones of n particles
pub three_fine :
    (n a b c u v w : ℕ) → n ≤ 9223372036854775808 → fine u ≡ named n (a ∷ b ∷ []) → (a < n → fine v ≡ (ltb c n && not (eqb c a)))
    → (b < 9223372036854775808 → c < 9223372036854775808 → fine w ≡ not (eqb c b)) → fine (bit_or (bit_or u v) w) ≡ named n (a ∷ b ∷ c ∷ [])
three_fine n a b c u v w h e f g =
    or_fine (bit_or u v) w ∙ ap (λ (t : Bool). t && fine w) (or_fine u v)
    ∙ three_joined (ltb a n) (ltb b n) (ltb c n) (eqb b a) (eqb c a) (eqb c b) (fine u) (fine v) (fine w) (e ∙ sym (two_named n a b)) (λ t. f (ltb-true a n t))
    (λ s t. g (let x = ltb-true b n s in omega (arith, x, h)) (let x = ltb-true c n t in omega (arith, x, h)))
    ∙ ap (λ (t : Bool). ((ltb a n && not (eqb b a)) && not (eqb c a)) && t) (two_named n b c) ∙ three_named n a b c
