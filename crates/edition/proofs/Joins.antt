-- Bytes behind others change no field of the first, and so neither the edition nor the counts that a sheet begins with. Assumes nothing.
use Prim.Native.Nat.{ℕ, ◌≤◌}
use native.Mathlib.Omega.{arith}
use mathlib.Core.Path.{◌≡◌, refl, sym, ap, ◌∙◌}
use mathlib.Core.Bool.{Bool, true, false}
use mathlib.Core.List.{List, ◌++◌, append_assoc}
use lib.Dec.{eqb}
use lib.ListN.{length, take, drop, replicate, length-append, length-drop, length-replicate}
use lib.Seq.{take-append-le, drop-append-le, length-take-le}
use Rattle.lists.specs.Lists.{pick}
use Rattle.bits.specs.Bits.{bits_of}
use Rattle.bits.proofs.Laws.{length_bits_of, bits_join, field_front}
use Rattle.sheet.specs.Sheet.{counts_at}
use Rattle.edition.specs.Edition.{second, as_first_of, bits_in_of}

-- the counts of the first bits
counts_front : (A B : List ℕ) → 46 ≤ length A → counts_at (A ++ B) ≡ counts_at A
counts_front A B h =
    let p = field_front A B 0 11 (omega arith) in
    let t = field_front A B 11 11 (omega arith) in
    let e = field_front A B 22 12 (omega arith) in
    let o = field_front A B 34 12 (omega arith) in
    λ i. record { particles = p i; triangles = t i; edges = e i; boundary = o i }

-- as the first edition has them
second_front : (A B : List ℕ) → 11 ≤ length A → second (A ++ B) ≡ second A
second_front A B h = ap (λ (n : ℕ). eqb n 2047) (field_front A B 0 11 h)

first_front : (A B : List ℕ) → 45 ≤ length A → as_first_of (A ++ B) ≡ as_first_of A ++ B
unfolding as_first_of
first_front A B h =
    let X = drop 11 A in
    let z = replicate {A = ℕ} 12 0 in
    let t : take 34 (drop 11 (A ++ B)) ≡ take 34 X = ap (take 34) (drop-append-le 11 A B (omega arith)) ∙ take-append-le 34 X B (omega (arith, length-drop 11 A)) in
    let d : drop 45 (A ++ B) ≡ drop 45 A ++ B = drop-append-le 45 A B h in
    (λ i. t i ++ (z ++ d i)) ∙ ap (λ (l : List ℕ). take 34 X ++ l) (sym (append_assoc z (drop 45 A) B)) ∙ sym (append_assoc (take 34 X) (z ++ drop 45 A) B)

in_front : (A B : List ℕ) → 45 ≤ length A → bits_in_of (A ++ B) ≡ bits_in_of A ++ B
unfolding bits_in_of
in_front A B h = ap (λ (t : Bool). pick t (as_first_of (A ++ B)) (A ++ B)) (second_front A B (omega arith)) ∙ by (second A)
  where
    by : (t : Bool) → pick t (as_first_of (A ++ B)) (A ++ B) ≡ pick t (as_first_of A) A ++ B
    by true = first_front A B h
    by false = refl

first_long : (A : List ℕ) → 45 ≤ length A → 46 ≤ length (as_first_of A)
unfolding as_first_of
first_long A h =
    let a = take 34 (drop 11 A) in
    let z = replicate {A = ℕ} 12 0 in
    let l : length a ≡ 34 = length-take-le 34 (drop 11 A) (omega (arith, length-drop 11 A)) in
    omega (arith, length-append a (z ++ drop 45 A), length-append z (drop 45 A), length-replicate {A = ℕ} 12 0)

in_long : (A : List ℕ) → 46 ≤ length A → 46 ≤ length (bits_in_of A)
unfolding bits_in_of
in_long A h = by (second A)
  where
    by : (t : Bool) → 46 ≤ length (pick t (as_first_of A) A)
    by true = first_long A (omega arith)
    by false = h

-- the counts of the first six bytes
pub counts_join : (a b : List ℕ) → 6 ≤ length a → counts_at (bits_in_of (bits_of (a ++ b))) ≡ counts_at (bits_in_of (bits_of a))
counts_join a b h =
    let n = length_bits_of a in
    ap (λ (l : List ℕ). counts_at (bits_in_of l)) (bits_join a b)
    ∙ (ap counts_at (in_front (bits_of a) (bits_of b) (omega arith)) ∙ counts_front (bits_in_of (bits_of a)) (bits_of b) (in_long (bits_of a) (omega arith)))

-- and their edition
pub edition_join : (a b : List ℕ) → 6 ≤ length a → second (bits_of (a ++ b)) ≡ second (bits_of a)
edition_join a b h = let n = length_bits_of a in ap second (bits_join a b) ∙ second_front (bits_of a) (bits_of b) (omega arith)
