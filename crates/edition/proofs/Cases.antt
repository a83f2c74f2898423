-- The worked sheet is not replaced; in the second edition it has 283 bits, which are 36 bytes with 5 spare ones.
use Prim.Native.Nat.{ℕ, ◌*◌, ◌-◌}
use mathlib.Core.List.{List, [], ◌∷◌}
use mathlib.Core.Path.{◌≡◌, refl}
use mathlib.Core.Bool.{true, false}
use lib.ListN.{length}
use Rattle.lists.specs.Lists.{any, all, sift, each}
use Rattle.bits.specs.Bits.{bits, bits_of, num}
use Rattle.bits.specs.Rows.{total, unpack, pack, read_rows, write_rows}
use Rattle.outline.specs.Outline.{single, outline_of, outline_of_triangles, within, same_sides_of, settled}
use Rattle.sheet.specs.Sheet.{sheet_with, all_ok, row_ok, pair_ok_of, above, most}
use Rattle.edition.specs.Edition.{as_first_of, bits_in_of, sheet2_bits, outline_in, replaced_in, typed_of, sheet_of, bytes_in, end_in, typed_with, typed_seen, seen_in, seen_of, whole_with}
use Rattle.sheet.specs.declared.Counts.{Counts}
use Rattle.sheet.proofs.Cases.{worked, worked_counts}

pub worked_kept : (sheet_of (bits_of worked)).replaced ≡ false
unfolding worked sheet_of replaced_in typed_of bits_in_of sheet_with bits_of bits num read_rows unpack total same_sides_of within any all outline_of outline_of_triangles single sift each
worked_kept = refl

abbrev bare : Counts
bare = record { particles = 4; triangles = 2; edges = 2; boundary = 0 }

pub worked_bits : length (sheet2_bits (sheet_with worked_counts (bits_of worked))) ≡ 283
unfolding worked worked_counts sheet2_bits sheet_with bits_of bits num read_rows unpack total pack write_rows
worked_bits = refl

pub worked_bytes : bytes_in true bare ≡ 36
worked_bytes = refl

pub worked_spare : 8 * bytes_in true bare - end_in true bare ≡ 5
worked_spare = refl

-- ---- answers, computed

-- its bytes in the second edition
unfoldable pub worked2 : List ℕ
worked2 = 255 ∷ 224 ∷ 16 ∷ 1 ∷ 0 ∷ 16 ∷ 0 ∷ 0 ∷ 0 ∷ 8 ∷ 0 ∷ 0 ∷ 16 ∷ 2 ∷ 0 ∷ 0 ∷ 4 ∷ 0 ∷ 0 ∷ 8 ∷ 4 ∷ 0 ∷ 0 ∷ 64 ∷ 24 ∷ 0 ∷ 1 ∷ 64 ∷ 16 ∷ 13 ∷ 255 ∷ 255 ∷ 248 ∷ 5 ∷ 0 ∷ 160 ∷ []

pub worked2_length : length worked2 ≡ 36
unfolding worked2
worked2_length = refl

-- both are whole, with four boundary entries, and not replaced
pub worked_seen : seen_of most worked ≡ whole_with worked_counts false
unfolding worked worked_counts seen_in typed_seen typed_with sheet_of replaced_in outline_in typed_of bits_in_of sheet_with bits_of bits num read_rows unpack total same_sides_of within any all outline_of outline_of_triangles single sift each settled all_ok row_ok pair_ok_of above
worked_seen = refl

pub worked2_seen : seen_of most worked2 ≡ whole_with worked_counts false
unfolding worked2 worked_counts seen_in typed_seen typed_with sheet_of replaced_in outline_in typed_of bits_in_of as_first_of sheet_with bits_of bits num read_rows unpack total outline_of outline_of_triangles single sift each all_ok row_ok pair_ok_of above
worked2_seen = refl

-- and are read as the same sheet
pub worked2_read : (sheet_of (bits_of worked2)).sheet ≡ (sheet_of (bits_of worked)).sheet
unfolding worked worked2 sheet_of outline_in typed_of bits_in_of as_first_of sheet_with bits_of bits num read_rows unpack total same_sides_of within any all outline_of outline_of_triangles single sift each settled
worked2_read = refl

-- the worked sheet typed without (3, 0): replaced by the own four
unfoldable pub short : List ℕ
short = 0 ∷ 128 ∷ 8 ∷ 0 ∷ 128 ∷ 12 ∷ 0 ∷ 0 ∷ 0 ∷ 4 ∷ 0 ∷ 0 ∷ 8 ∷ 1 ∷ 0 ∷ 0 ∷ 2 ∷ 0 ∷ 0 ∷ 4 ∷ 2 ∷ 0 ∷ 0 ∷ 32 ∷ 12 ∷ 0 ∷ 0 ∷ 160 ∷ 8 ∷ 6 ∷ 0 ∷ 0 ∷ 16 ∷ 4 ∷ 2 ∷ 0 ∷ 128 ∷ 63 ∷ 255 ∷ 255 ∷ 192 ∷ 40 ∷ 5 ∷ []

pub short_seen : seen_of most short ≡ whole_with worked_counts true
unfolding short worked_counts seen_in typed_seen typed_with sheet_of replaced_in outline_in typed_of bits_in_of sheet_with bits_of bits num read_rows unpack total same_sides_of within any all outline_of outline_of_triangles single sift each settled all_ok row_ok pair_ok_of above
short_seen = refl
