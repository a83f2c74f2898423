-- Laws of words in two's complement. Assumes nothing.
use Prim.Native.Nat.{ℕ, suc, ◌-◌, ◌*◌, ◌/◌, ◌<◌, ◌≤◌}
use mathlib.Core.Path.{◌≡◌, sym, subst}
use mathlib.Core.Logic.{⊎_elim}
use Rattle.bits.proofs.Laws.{below?}
use native.Mathlib.Omega.{arith}
use native.Mathlib.Nat.{sub-zero}
use borrow.Author.Tests.{lt-ltb, le-ltb}
use borrow.Author.Rules.{sfits_of}
use lib.IntN.{ℤ, pos, negsuc, ◌-ℤ◌}
use mir.Syntax.{w64}
use mir.Val.{to_z, of_z, SFits}
use mir.ValLaws.{to_z_pos, to_z-of_z}
use Rattle.sheet_c.specs.Fields.{signed_of}

pub signed_low : (n : ℕ) → n < 2147483648 → signed_of n ≡ pos n
unfolding signed_of
signed_low n h = let e : n / 2147483648 * 4294967296 ≡ 0 = omega arith in rw (e, le-ltb n 0 (omega arith), sub-zero)

pub signed_high : (n : ℕ) → 2147483648 ≤ n → n < 4294967296 → signed_of n ≡ negsuc (4294967295 - n)
unfolding signed_of
signed_high n g h =
    let e : n / 2147483648 * 4294967296 ≡ 4294967296 = omega arith in
    let k : 4294967296 - suc n ≡ 4294967295 - n = omega arith in
    rw (e, lt-ltb n 4294967296 h, k)

pub less_word : (n : ℕ) → n < 4294967296 → to_z w64 n -ℤ pos 4294967296 ≡ negsuc (4294967295 - n)
less_word n h =
    let k : 4294967296 - suc n ≡ 4294967295 - n = omega arith in
    rw (to_z_pos w64 n (omega arith), lt-ltb n 4294967296 h, k)

pub less_fits : (n : ℕ) → n < 4294967296 → SFits w64 (to_z w64 n -ℤ pos 4294967296)
less_fits n h = subst (λ (z : ℤ). SFits w64 z) (sym (less_word n h)) (sfits_of {w = w64} {z = negsuc (4294967295 - n)} (omega arith))

-- a word's whole number fits 64 bits, so it is stored as it is
signed_fits : (n : ℕ) → n < 4294967296 → SFits w64 (signed_of n)
signed_fits n h =
    ⊎_elim
    (λ (g : n < 2147483648). subst (λ (z : ℤ). SFits w64 z) (sym (signed_low n g)) (sfits_of {w = w64} {z = pos n} (omega arith)))
    (λ (g : 2147483648 ≤ n). subst (λ (z : ℤ). SFits w64 z) (sym (signed_high n g h)) (sfits_of {w = w64} {z = negsuc (4294967295 - n)} (omega arith)))
    (below? n 2147483648)

pub stored_same : (z : ℤ) (n : ℕ) → z ≡ signed_of n → n < 4294967296 → to_z w64 (of_z w64 z) ≡ z
stored_same z n e h = to_z-of_z w64 z (subst (λ (y : ℤ). SFits w64 y) (sym e) (signed_fits n h))
