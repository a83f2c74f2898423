-- The worked sheet against itself in either edition, and against one that differs in four places, from the bytes to the bytes; and which refusal comes first. Computed.
use Prim.Native.Nat.{ℕ}
use mathlib.Core.Path.{◌≡◌, refl}
use mathlib.Core.List.{List, [], ◌∷◌}
use Rattle.lists.specs.Lists.{any, all, sift, each, same_row_of}
use Rattle.bits.specs.Bits.{bits, bits_of, num}
use Rattle.bits.specs.Rows.{total, unpack, read_rows}
use Rattle.outline.specs.Outline.{single, outline_of, outline_of_triangles, within, same_sides_of, settled}
use Rattle.sheet.specs.Sheet.{sheet_with, all_ok, row_ok, pair_ok_of, above, coord}
use Rattle.sheet.proofs.Cases.{worked}
use Rattle.edition.specs.Edition.{as_first_of, bits_in_of, outline_in, replaced_in, typed_of, sheet_of, typed_with, typed_seen, seen_in}
use Rattle.edition.proofs.Cases.{worked2}
use Rattle.listing.specs.Listing.{decimal_by, decimal, line, refused_bytes}
use Rattle.differences.specs.Differences.{count_differs, rows_differ, differences, line_of, difference_text}
use Rattle.differing.specs.Differed.{differed_seen, differed}

-- the worked sheet with particle 1 at (5,0) and pinned, a third edge (0,3), structural, and a blade that ends at (5,6), in the second edition
unfoldable pub other : List ℕ
other = 255 ∷ 224 ∷ 16 ∷ 1 ∷ 0 ∷ 24 ∷ 0 ∷ 0 ∷ 0 ∷ 10 ∷ 0 ∷ 32 ∷ 16 ∷ 2 ∷ 0 ∷ 0 ∷ 4 ∷ 0 ∷ 0 ∷ 8 ∷ 4 ∷ 0 ∷ 0 ∷ 64 ∷ 24 ∷ 0 ∷ 1 ∷ 64 ∷ 16 ∷ 12 ∷ 0 ∷ 0 ∷ 127 ∷ 255 ∷ 255 ∷ 192 ∷ 40 ∷ 6 ∷ []

-- `0`
pub worked_same : differed worked worked2 ≡ 48 ∷ 10 ∷ []
unfolding worked worked2 differed_seen seen_in typed_seen typed_with sheet_of replaced_in outline_in typed_of bits_in_of as_first_of sheet_with bits_of bits num read_rows unpack total same_sides_of within any all outline_of outline_of_triangles single sift each settled all_ok row_ok pair_ok_of above differences count_differs rows_differ same_row_of line_of difference_text decimal_by decimal coord
worked_same = refl

-- `count edges 2 / 3`, `particle 1 4 0 0 / 5 0 1`, `edge 2 - / 0 3 1`, `blade -1 -1 5 5 / -1 -1 5 6`, `4`
pub worked_other : differed worked other
    ≡ 99 ∷ 111 ∷ 117 ∷ 110 ∷ 116 ∷ 32 ∷ 101 ∷ 100 ∷ 103 ∷ 101 ∷ 115 ∷ 32 ∷ 50 ∷ 32 ∷ 47 ∷ 32 ∷ 51 ∷ 10
    ∷ 112 ∷ 97 ∷ 114 ∷ 116 ∷ 105 ∷ 99 ∷ 108 ∷ 101 ∷ 32 ∷ 49 ∷ 32 ∷ 52 ∷ 32 ∷ 48 ∷ 32 ∷ 48 ∷ 32 ∷ 47 ∷ 32 ∷ 53 ∷ 32 ∷ 48 ∷ 32 ∷ 49 ∷ 10
    ∷ 101 ∷ 100 ∷ 103 ∷ 101 ∷ 32 ∷ 50 ∷ 32 ∷ 45 ∷ 32 ∷ 47 ∷ 32 ∷ 48 ∷ 32 ∷ 51 ∷ 32 ∷ 49 ∷ 10
    ∷ 98 ∷ 108 ∷ 97 ∷ 100 ∷ 101 ∷ 32 ∷ 45 ∷ 49 ∷ 32 ∷ 45 ∷ 49 ∷ 32 ∷ 53 ∷ 32 ∷ 53 ∷ 32 ∷ 47 ∷ 32 ∷ 45 ∷ 49 ∷ 32 ∷ 45 ∷ 49 ∷ 32 ∷ 53 ∷ 32 ∷ 54 ∷ 10
    ∷ 52 ∷ 10 ∷ []
unfolding worked other differed_seen seen_in typed_seen typed_with sheet_of replaced_in outline_in typed_of bits_in_of as_first_of sheet_with bits_of bits num read_rows unpack total same_sides_of within any all outline_of outline_of_triangles single sift each settled all_ok row_ok pair_ok_of above differences count_differs rows_differ same_row_of line_of difference_text decimal_by decimal coord
worked_other = refl

-- the first six bytes of a sheet of 129 particles
abbrev many : List ℕ
many = 16 ∷ 32 ∷ 0 ∷ 0 ∷ 0 ∷ 0 ∷ []

-- a file without bytes and then such a sheet: `refused 9`; the other way round: `refused 1`
pub empty_first : differed [] many ≡ 114 ∷ 101 ∷ 102 ∷ 117 ∷ 115 ∷ 101 ∷ 100 ∷ 32 ∷ 57 ∷ 10 ∷ []
unfolding differed_seen seen_in typed_seen typed_with bits_in_of bits_of bits num above refused_bytes line each decimal_by decimal
empty_first = refl

pub many_first : differed many [] ≡ 114 ∷ 101 ∷ 102 ∷ 117 ∷ 115 ∷ 101 ∷ 100 ∷ 32 ∷ 49 ∷ 10 ∷ []
unfolding differed_seen seen_in typed_seen typed_with bits_in_of bits_of bits num above refused_bytes line each decimal_by decimal
many_first = refl
