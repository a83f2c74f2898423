-- Laws of bits and of the numbers that they stand for.
use Prim.Native.Nat.{ℕ, zero, suc, ◌+◌, ◌-◌, ◌*◌, ◌/◌, ◌%◌, ◌^◌, ◌<◌, ◌≤◌}
use mathlib.Core.Path.{◌≡◌, refl, ap, sym, ◌∙◌}
use mathlib.Core.List.{List, [], ◌∷◌, ◌++◌, append_assoc}
use mathlib.Core.Logic.{◌⊎◌, inl, inr, ⊎_elim}
use native.Mathlib.Omega.{arith}
use native.Mathlib.Nat.{mul-le-mul_right, add-mul, one-mul, div-add-mod', pow-suc, mul_assoc, mod-lt, zero-add, zero-div, add_comm, mod-eq_of_lt}
use native.Mathlib.Numerals.{add-one, one-add}
use lib.ListN.{length, take, drop, get_or, set, replicate, length-append, length-drop, get_or-append}
use lib.Seq.{take-suc, take-append-le, drop-append-le, get_or-append-add, get_or-drop, set_at, set-append_left, sets}
use lib.Pow.{pow_pos, shr-shr, mod-pow-add, field, high, low, mod-mod-pow}
use lib.Arith.{digits_lt}
use Rattle.bits.specs.Bits.{bits, bits_of, num, field_at}

pub below? : (i k : ℕ) → (i < k) ⊎ (k ≤ i)
below? i zero = inr (omega arith)
below? zero (suc k) = inl (omega arith)
below? (suc i) (suc k) = ⊎_elim (λ h. inl (omega arith)) (λ h. inr (omega arith)) (below? i k)

pub length_bits : (w n : ℕ) → length (bits w n) ≡ w
unfolding bits
length_bits zero n = refl
length_bits (suc w) n = ap suc (length_bits w n)

pub length_bits_of : (bs : List ℕ) → length (bits_of bs) ≡ 8 * length bs
unfolding bits_of
length_bits_of [] = refl
length_bits_of (b ∷ bs) = omega (arith, length-append (bits 8 b) (bits_of bs), length_bits 8 b, length_bits_of bs)

-- no bytes have no bits
pub bits_none : bits_of [] ≡ []
unfolding bits_of
bits_none = refl

-- the bits of bytes behind others
pub bits_join : (a b : List ℕ) → bits_of (a ++ b) ≡ bits_of a ++ bits_of b
unfolding bits_of
bits_join [] b = refl
bits_join (x ∷ a) b = ap (λ (l : List ℕ). bits 8 x ++ l) (bits_join a b) ∙ sym (append_assoc (bits 8 x) (bits_of a) (bits_of b))

-- a field of the first bits
pub field_front : (A B : List ℕ) (at w : ℕ) → at + w ≤ length A → field_at (A ++ B) at w ≡ field_at A at w
field_front A B at w h = ap (λ (l : List ℕ). num (take w l)) (drop-append-le at A B (omega arith)) ∙ ap num (take-append-le w (drop at A) B (omega (arith, length-drop at A)))

-- the bits of 0
pub bits_zero : (n : ℕ) → bits n 0 ≡ replicate n 0
unfolding bits
bits_zero zero = refl
bits_zero (suc n) = rw (zero-div, bits_zero n)

-- the bits of j + k places: the upper j, and the lower k
pub bits_split : (j k n : ℕ) → bits (j + k) n ≡ bits j (n / 2 ^ k) ++ bits k n
unfolding bits
bits_split zero k n = rw zero-add
bits_split (suc j) k n =
    let e : suc j + k ≡ suc (j + k) = omega arith in
    let d : n / 2 ^ (j + k) ≡ n / 2 ^ k / 2 ^ j = ap (λ (m : ℕ). n / 2 ^ m) (add_comm j k) ∙ sym (shr-shr n k j) in
    rw (e, bits_split j k n, d)

-- only the low bits count
pub bits_mod : (k j n : ℕ) → bits k (n % 2 ^ (j + k)) ≡ bits k n
unfolding bits
bits_mod zero j n = refl
bits_mod (suc k) j n =
    let e : j + suc k ≡ j + 1 + k = omega arith in
    let f : n % 2 ^ (j + 1 + k) / 2 ^ k % 2 ≡ n / 2 ^ k % 2 = rw (field n (j + 1) k) (mod-mod-pow (n / 2 ^ k) j 1) in
    rw (e, f, bits_mod k (j + 1) n)

pub get_d_bits : (w n i : ℕ) → i < w → get_or (bits w n) i 0 ≡ n / 2 ^ (w - suc i) % 2
unfolding bits
get_d_bits zero n i h = elim h [ ]
get_d_bits (suc w) n zero h = let e : suc w - suc zero ≡ w = omega arith in rw e
get_d_bits (suc w) n (suc i) h = let e : suc w - suc (suc i) ≡ w - suc i = omega arith in rw e (get_d_bits w n i (omega arith))

-- the bit at place i of bytes
pub get_d_bits_of : (bs : List ℕ) (i : ℕ) → i < 8 * length bs → get_or (bits_of bs) i 0 ≡ get_or bs (i / 8) 0 / 2 ^ (7 - i % 8) % 2
unfolding bits_of
get_d_bits_of [] i h = omega arith
get_d_bits_of (b ∷ bs) i h =
    ⊎_elim
    (λ (l : i < 8).
    let q : i / 8 ≡ zero = omega arith in
    let r : i % 8 ≡ i = omega arith in
    let k : 8 - suc i ≡ 7 - i = omega arith in
    rw (q, r) (get_or-append (bits 8 b) (bits_of bs) 0 i (omega (arith, length_bits 8 b)) ∙ (get_d_bits 8 b i l ∙ ap (λ (m : ℕ). b / 2 ^ m % 2) k)))
    (λ (g : 8 ≤ i).
    let q : i / 8 ≡ suc ((i - 8) / 8) = omega arith in
    let r : i % 8 ≡ (i - 8) % 8 = omega arith in
    let s : i ≡ length (bits 8 b) + (i - 8) = omega (arith, length_bits 8 b) in
    rw (q, r) (ap (λ (m : ℕ). get_or (bits 8 b ++ bits_of bs) m 0) s ∙ (get_or-append-add (bits 8 b) (bits_of bs) (i - 8) 0 ∙ get_d_bits_of bs (i - 8) (omega arith))))
    (below? i 8)

pub num_snoc : (l : List ℕ) (b : ℕ) → num (l ++ (b ∷ [])) ≡ num l * 2 + b
unfolding num
num_snoc [] b = omega arith
num_snoc (x ∷ l) b =
    let e : length (l ++ (b ∷ [])) ≡ suc (length l) = omega (arith, length-append l (b ∷ [])) in
    let p : x * 2 ^ suc (length l) ≡ x * 2 ^ length l * 2 = rw pow-suc (sym (mul_assoc x (2 ^ length l) 2)) in
    rw (e, p, num_snoc l b) (omega arith)

-- a field of one bit more
pub field_more : (l : List ℕ) (at k : ℕ) → at + k < length l → field_at l at (k + 1) ≡ field_at l at k * 2 + get_or l (at + k) 0
field_more l at k h =
    let h' : k < length (drop at l) = omega (arith, length-drop at l) in
    rw (add-one, take-suc (drop at l) k 0, get_or-drop at l k 0) (num_snoc (take k (drop at l)) (get_or l (at + k) 0))

pub num_bits : (w n : ℕ) → num (bits w n) ≡ n % 2 ^ w
unfolding num bits
num_bits zero n = omega arith
num_bits (suc w) n = rw (length_bits w n, num_bits w n) (sym (rw one-add at (mod-pow-add n 1 w)))

pub num_lt : (l : List ℕ) → ((i : ℕ) → get_or l i 0 < 2) → num l < 2 ^ length l
unfolding num
num_lt [] h = omega arith
num_lt (x ∷ l) h = let d : x * 2 ^ length l + num l < 2 * 2 ^ length l = digits_lt (h 0) (num_lt l (λ i. h (suc i))) in omega (arith, d, pow-suc 2 (length l))

pub bits_num : (l : List ℕ) → ((i : ℕ) → get_or l i 0 < 2) → bits (length l) (num l) ≡ l
unfolding num bits
bits_num [] h = refl
bits_num (x ∷ l) h =
    let b = num_lt l (λ i. h (suc i)) in
    let hx : x < 2 = h 0 in
    let e : (x * 2 ^ length l + num l) / 2 ^ length l % 2 ≡ x = rw (high x (length l) b) (mod-eq_of_lt hx) in
    let t : bits (length l) (x * 2 ^ length l + num l) ≡ l =
    sym (rw zero-add at (bits_mod (length l) 0 (x * 2 ^ length l + num l))) ∙ rw (low x (length l) b) (bits_num l (λ i. h (suc i))) in
    rw (e, t)

pub bits_put : (i k o b : ℕ) → b < 2 → bits (i + suc k) ((o / 2 ^ k / 2 * 2 + b) * 2 ^ k + o % 2 ^ k) ≡ set (bits (i + suc k) o) i b
unfolding bits
bits_put i k o b h =
    let hi = o / 2 ^ k / 2 in
    let n = (hi * 2 + b) * 2 ^ k + o % 2 ^ k in
    let lo : o % 2 ^ k < 2 ^ k = mod-lt o (pow_pos k) in
    let up : n / 2 ^ k ≡ hi * 2 + b = high (hi * 2 + b) k lo in
    let q : n / 2 ^ suc k ≡ hi = rw add-one at (sym (shr-shr n k 1)) ∙ rw up (omega arith) in
    let q' : o / 2 ^ suc k ≡ hi = rw add-one at (sym (shr-shr o k 1)) in
    let b' : n / 2 ^ k % 2 ≡ b = rw up (omega arith) in
    let t : bits k n ≡ bits k o = sym (rw zero-add at (bits_mod k 0 n)) ∙ (ap (bits k) (low (hi * 2 + b) k lo) ∙ rw zero-add at (bits_mod k 0 o)) in
    let l : bits (i + suc k) n ≡ bits i hi ++ (b ∷ bits k o) = bits_split i (suc k) n ∙ rw (q, b', t) in
    let r : bits (i + suc k) o ≡ bits i hi ++ (o / 2 ^ k % 2 ∷ bits k o) = bits_split i (suc k) o ∙ rw q' in
    l ∙ sym (rw r (set_at (bits i hi) (o / 2 ^ k % 2) (bits k o) b i (length_bits i hi)))

pub set_append_add : (xs ys : List ℕ) (n a : ℕ) → set (xs ++ ys) (length xs + n) a ≡ xs ++ set ys n a
set_append_add [] ys n a = rw zero-add
set_append_add (x ∷ xs) ys n a = let e : suc (length xs) + n ≡ suc (length xs + n) = omega arith in rw e (ap (λ (l : List ℕ). x ∷ l) (set_append_add xs ys n a))

-- one bit set in the byte at q
pub bits_of_set : (bs : List ℕ) (q i n b : ℕ) → q < length bs → i < 8 → bits 8 n ≡ set (bits 8 (get_or bs q 0)) i b → bits_of (set bs q n) ≡ set (bits_of bs) (8 * q + i) b
unfolding bits_of
bits_of_set [] q i n b h hi e = absurd (omega arith)
bits_of_set (c ∷ bs) zero i n b h hi e = let z : 8 * zero + i ≡ i = omega arith in rw (z, e) (sym (set-append_left (bits 8 c) (bits_of bs) i b (omega (arith, length_bits 8 c))))
bits_of_set (c ∷ bs) (suc q) i n b h hi e =
    let z : 8 * suc q + i ≡ length (bits 8 c) + (8 * q + i) = omega (arith, length_bits 8 c) in
    rw (z, set_append_add (bits 8 c) (bits_of bs) (8 * q + i) b) (ap (λ (l : List ℕ). bits 8 c ++ l) (bits_of_set bs q i n b (omega arith) hi e))

-- what a byte with one bit set is at most
pub put_small : (o p b : ℕ) → b < 2 → (o / p / 2 * 2 + b) * p + o % p ≤ o + p
put_small o p b h =
    let m : (o / p / 2 * 2 + b) * p ≤ (o / p + 1) * p = mul-le-mul_right p (omega arith) in
    omega (arith, m, add-mul (o / p) 1 p, one-mul p, div-add-mod' o p)

-- one store more after a run of stores
pub sets_snoc : (l : List ℕ) (i : ℕ) (vs : List ℕ) (a : ℕ) → sets l i (vs ++ (a ∷ [])) ≡ set (sets l i vs) (i + length vs) a
sets_snoc l i [] a = let e : i + zero ≡ i = omega arith in rw e
sets_snoc l i (v ∷ vs) a = let e : i + suc (length vs) ≡ suc i + length vs = omega arith in rw e (sets_snoc (set l i v) (suc i) vs a)

-- one run of stores after another
pub sets_sets : (l : List ℕ) (i : ℕ) (vs ws : List ℕ) → sets (sets l i vs) (i + length vs) ws ≡ sets l i (vs ++ ws)
sets_sets l i [] ws = let e : i + zero ≡ i = omega arith in rw e
sets_sets l i (v ∷ vs) ws = let e : i + suc (length vs) ≡ suc i + length vs = omega arith in rw e (sets_sets (set l i v) (suc i) vs ws)

-- the bits of a field as far as the first k, and one more
pub take_bits : (w v k : ℕ) → k < w → take (k + 1) (bits w v) ≡ take k (bits w v) ++ (v / 2 ^ (w - (k + 1)) % 2 ∷ [])
take_bits w v k h =
    let h' : k < length (bits w v) = omega (arith, length_bits w v) in
    rw (add-one, take-suc (bits w v) k 0, get_d_bits w v k)
