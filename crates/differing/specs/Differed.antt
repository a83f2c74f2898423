-- The program `sheetdiff` (docs/RULES.md, R23) as a function of two lists of bytes. Definitions only.
use Rattle.std.specs.Prelude.{ℕ, List, Result, Ok, Err}
use Rattle.bits.specs.Bits.{bits_of}
use Rattle.sheet.specs.Sheet.{Sheet, limits}
use Rattle.edition.specs.Edition.{sheet_of, seen_of}
use Rattle.mesh.specs.declared.refusals.Refusal.{Refusal}
use Rattle.mesh.specs.Refused.{number_of}
use Rattle.edition.specs.declared.Seen.{Seen}
use Rattle.listing.specs.Listing.{refused_bytes}
use Rattle.differences.specs.Differences.{differences, difference_text}

-- the sheet that bytes of either edition are read as
abbrev pub read_sheet : List ℕ → Sheet
read_sheet s = (sheet_of (bits_of s)).sheet

-- what is printed once both were looked at: the refusal of the first; else that of the second; else the differences
unfoldable pub differed_seen : Result Seen Refusal → Result Seen Refusal → List ℕ → List ℕ → List ℕ
differed_seen (Err e) v a b = refused_bytes (number_of e)
differed_seen (Ok c) (Err e) a b = refused_bytes (number_of e)
differed_seen (Ok c) (Ok d) a b = difference_text (differences (read_sheet a) (read_sheet b))

-- the bytes that the program prints for the bytes of two files
abbrev pub differed : List ℕ → List ℕ → List ℕ
differed a b = differed_seen (seen_of limits a) (seen_of limits b) a b
