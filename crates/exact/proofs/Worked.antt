-- Which floats are whole numbers, and a blade crossed at its very end: computed. Assumes nothing.
use Rattle.std.proofs.Common.{◌≡◌, true, false, pos, negsuc, refl}
use lib.Ieee.{nan, inf, fin, binary32, add, sub, mul, div, neg, lt, le, eq, of_int, of_bits, to_signed}
use Rattle.float.specs.Numbers.{abs_of, half}
use Rattle.blade.specs.declared.Hit.TheVariants.{Miss}
use Rattle.blade.specs.Blade.{blade_hit_of}
use Rattle.blade.specs.Cases.{at}
use Rattle.exact.specs.Exact.{whole_of, whole?, side_by, crosses}
use Rattle.exact.specs.Signs.{crosses_by_signs}

-- 1,024, - 1,024, minus zero and plus zero
pub whole_ones : (whole? (of_int binary32 (pos 1024)) ≡ true) × (whole? (of_int binary32 (negsuc 1023)) ≡ true) × (whole? (fin true 0 (pos 0)) ≡ true) × (whole? (fin false 0 (pos 0)) ≡ true)
unfolding whole? whole_of abs_of le eq of_int to_signed
whole_ones = (refl, refl, refl, refl)

-- 1,025, - 1,025, one half, the f32 next to 1,024, a NaN and an infinity are not
pub others : (whole? (of_int binary32 (pos 1025)) ≡ false) × (whole? (of_int binary32 (negsuc 1024)) ≡ false) × (whole? half ≡ false) × (whole? (of_bits binary32 0x447f_ffff) ≡ false) × (whole? nan ≡ false) × (whole? (inf true) ≡ false)
unfolding whole? whole_of abs_of le eq of_int of_bits to_signed
others = (refl, refl, refl, refl, refl, refl)

-- the edge meets the blade at its very end, and nowhere else
pub end_crossed : crosses (at (pos 0) (negsuc 0)) (at (negsuc 1) (pos 5)) (at (pos 0) (pos 6)) (at (pos 0) (negsuc 6)) ≡ true
unfolding whole_of side_by crosses of_int to_signed
end_crossed = refl

-- edition 1, which rounds the hit point, misses it
pub end_rounded : blade_hit_of (at (pos 0) (negsuc 0)) (at (negsuc 1) (pos 5)) (at (pos 0) (pos 6)) (at (pos 0) (negsuc 6)) ≡ Miss
unfolding blade_hit_of of_int neg add sub mul div lt le eq
end_rounded = refl

-- as the program finds it
pub end_by_signs : crosses_by_signs (at (pos 0) (negsuc 0)) (at (negsuc 1) (pos 5)) (at (pos 0) (pos 6)) (at (pos 0) (negsuc 6)) ≡ true
unfolding crosses_by_signs add sub mul neg lt of_int
end_by_signs = refl

-- a blade that starts one step beside that end does not reach the edge
pub end_missed : crosses (at (negsuc 0) (negsuc 0)) (at (negsuc 1) (pos 5)) (at (pos 0) (pos 6)) (at (pos 0) (negsuc 6)) ≡ false
unfolding whole_of side_by crosses of_int to_signed
end_missed = refl

-- an edge on the blade's own line does not cross it
pub along_missed : crosses (at (pos 0) (pos 0)) (at (pos 4) (pos 4)) (at (pos 1) (pos 1)) (at (pos 2) (pos 2)) ≡ false
unfolding whole_of side_by crosses of_int to_signed
along_missed = refl
