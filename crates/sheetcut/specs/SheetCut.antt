-- The program `cutlist` (docs/RULES.md, R14) as a function of bytes: the cut of a sheet, and what is printed of it. Definitions only.
use Rattle.std.specs.Prelude.{ℕ, true, List, get_or, Float, Result, Ok, Err}
use Rattle.std.specs.Float.{binary32}
use Rattle.std.specs.Float.Ieee.{of_bits}
use Rattle.float.specs.Numbers.{zero32}
use Rattle.model.specs.Run.{Rooms}
use Rattle.model.specs.Cut.{Line}
use Rattle.model.specs.Calls.{Outcome, refused, cut_call}
use Rattle.bits.specs.Bits.{bits_of}
use Rattle.sheet.specs.Sheet.{Sheet, limits}
use Rattle.sheet.specs.Read.{mesh_of_sheet, blade_of_sheet}
use Rattle.edition.specs.Edition.{sheet_of, seen_of}
use Rattle.mesh.specs.declared.refusals.Refusal.{Refusal}
use Rattle.mesh.specs.Refused.{number_of}
use Rattle.edition.specs.declared.Seen.{Seen}
use Rattle.listing.specs.Listing.{printed}

-- twice the particle, edge and boundary places of `limits` are lent, as many triangle places, and 640 log entries: those of a cut, and a mark for each pair of a triangle's corners
abbrev pub rooms : Rooms
rooms = record { particles = 256; triangles = 128; edges = 512; boundary = 512; log = 640 }

-- the insertion fraction 0.1: the f32 with the bits 0x3dcccccd
unfoldable pub fraction : Float
fraction = of_bits binary32 1036831949

-- the blade of four numbers x0, y0, x1, y1
abbrev pub blade_of : List Float → Line
blade_of l = record { from = record { x = get_or l 0 zero32; y = get_or l 1 zero32 }; to = record { x = get_or l 2 zero32; y = get_or l 3 zero32 } }

-- the cut of a sheet: its mesh, its blade, the fraction and the rooms
unfoldable pub cut_of : Sheet → Outcome
cut_of s = cut_call true (mesh_of_sheet s) 1 (blade_of (blade_of_sheet s)) fraction rooms

-- what a look at bytes comes to: the refusal of the sheet, or the cut of it as it is read, with the outline that it has then
unfoldable pub cut_seen : Result Seen Refusal → List ℕ → Outcome
cut_seen (Err e) s = refused (number_of e)
cut_seen (Ok k) s = cut_of (sheet_of (bits_of s)).sheet

-- the cut of the sheet of either edition that bytes are
abbrev pub sheet_cut : List ℕ → Outcome
sheet_cut s = cut_seen (seen_of limits s) s

-- the bytes that the program prints for the bytes that it reads: those of the cut, with the line `outline replaced` where the sheet's typed outline was
abbrev pub listed : List ℕ → List ℕ
listed s = printed (sheet_of (bits_of s)).replaced (sheet_cut s)
