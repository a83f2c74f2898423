-- How long numbers and lines are: a number of 64 bits has at most 20 digits, and a line its word, at most 21 bytes a number, and its end. Assumes nothing.
use Prim.Native.Nat.{ℕ, zero, suc, ◌+◌, ◌*◌, ◌/◌, ◌%◌, ◌≤◌, ◌<◌}
use native.Mathlib.Omega.{arith}
use native.Mathlib.Nat.{suc-mul}
use native.Mathlib.Decide.{dec_le}
use mathlib.Core.Path.{◌≡◌, refl, ap}
use mathlib.Core.List.{List, [], ◌∷◌, ◌++◌}
use lib.ListN.{length, length-append}
use Rattle.lists.specs.Lists.{each}
use Rattle.model.specs.Trace.{All}
use Rattle.listing.specs.Listing.{digit, decimal, spaced, line, refused_word, refused_bytes}
use Rattle.listing.proofs.Decimal.{decimal_small, decimal_more}

-- ---- numbers

-- ten times itself, k times more
tens : ℕ → ℕ
tens zero = 10
tens (suc k) = 10 * tens k

decimal_long : (k n : ℕ) → n < tens k → length (decimal n) ≤ suc k
unfolding tens
decimal_long zero n h = omega (arith, ap length (decimal_small n h))
decimal_long (suc k) n h =
    elim (dec_le 10 n) [
      | yes l ↦ omega (arith, ap length (decimal_more n l), length-append (decimal (n / 10)) (digit (n % 10) ∷ []), decimal_long k (n / 10) (omega arith))
      | no l ↦ omega (arith, ap length (decimal_small n (omega arith)))
    ]

pub four_digits : (n : ℕ) → n < 10000 → length (decimal n) ≤ 4
unfolding tens
four_digits n h = let e : tens 3 ≡ 10000 = refl in decimal_long 3 n (omega arith)

-- numbers of 64 bits
abbrev pub Wide : ℕ → Type 0
Wide n = n < 18446744073709551616

-- have at most 20 digits
wide_long : (n : ℕ) → Wide n → length (decimal n) ≤ 20
unfolding tens
wide_long n h = let e : tens 19 ≡ 100000000000000000000 = refl in decimal_long 19 n (omega arith)

-- ---- lines

-- texts of at most m bytes each
pub each_long : {A : Type 0} (P : A → Type 0) (f : A → List ℕ) (m : ℕ) → ((a : A) → P a → length (f a) ≤ m) → (l : List A) → All P l → length (each f l) ≤ length l * m
unfolding each
each_long P f m few [] h = omega arith
each_long P f m few (a ∷ l) h = omega (arith, length-append (f a) (each f l), suc-mul (length l) m, few a h.0, each_long P f m few l h.1)

-- a line has its word, at most 21 bytes a number, and its end
pub line_long : (word numbers : List ℕ) → All Wide numbers → length (line word numbers) ≤ length word + length numbers * 21 + 1
unfolding line
line_long word numbers h =
    let e = each_long Wide spaced 21 (λ n w. omega (arith, wide_long n w)) numbers h in
    omega (arith, length-append (word ++ each spaced numbers) (10 ∷ []), length-append word (each spaced numbers))

-- the line of a refusal
pub refused_few : (n : ℕ) → Wide n → length (refused_bytes n) ≤ 65536
unfolding refused_bytes
refused_few n h = let e = line_long refused_word (n ∷ []) (h, tt) in omega arith
