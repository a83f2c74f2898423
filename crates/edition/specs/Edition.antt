-- L13: the second edition of a sheet, which has no boundary entries, and what a sheet of either edition is read as. Definitions only.
use Rattle.std.specs.Prelude.{ℕ, ◌+◌, ◌-◌, ◌*◌, ◌/◌, Bool, true, false, not, cond, ◌||◌, List, [], ◌∷◌, ◌++◌, length, take, drop, replicate, eqb, ltb, Result, Ok, Err}
use Rattle.lists.specs.Lists.{pick}
use Rattle.bits.specs.Bits.{bits_of, field_at}
use Rattle.bits.specs.Rows.{pack, write_rows}
use Rattle.outline.specs.Outline.{outline_of, same_sides_of, settled}
use Rattle.sheet.specs.Sheet.{Sheet, counts_at, sheet_with, particle_w, triangle_w, edge_w, blade_w, end_of, too_many_of, above, names_ok}
use Rattle.sheet.specs.declared.Counts.{Counts}
use Rattle.edition.specs.declared.Seen.{Seen}
use Rattle.mesh.specs.declared.refusals.Refusal.{Refusal}
use Rattle.mesh.specs.declared.refusals.Refusal.TheVariants.{Size, Name, Sheet as NoSheet}

-- the widths of a second-edition header: eleven ones; particles, triangles, edges
abbrev pub header2_w : List ℕ
header2_w = 11 ∷ 11 ∷ 11 ∷ 12 ∷ []

-- are bits of the second edition: are the first eleven ones
abbrev pub second : List ℕ → Bool
second l = eqb (field_at l 0 11) 2047

-- the bits of a second-edition sheet as the first has them: without the ones, and with a boundary count of 0
unfoldable pub as_first_of : List ℕ → List ℕ
as_first_of l = take 34 (drop 11 l) ++ (replicate 12 0 ++ drop 45 l)

-- a sheet of either edition as the first has it
unfoldable pub bits_in_of : List ℕ → List ℕ
bits_in_of l = pick (second l) (as_first_of l) l

-- a sheet's bits in the second edition, without the spare ones
unfoldable pub sheet2_bits : Sheet → List ℕ
sheet2_bits s =
    pack header2_w (2047 ∷ length s.particles ∷ length s.triangles ∷ length s.edges ∷ []) ++ write_rows particle_w s.particles
    ++ write_rows triangle_w s.triangles ++ write_rows edge_w s.edges ++ pack blade_w s.blade

-- a sheet with another boundary
abbrev pub bounded : List (List ℕ) → Sheet → Sheet
bounded b s = record { particles = s.particles; triangles = s.triangles; edges = s.edges; boundary = b; blade = s.blade }

-- the outline that a sheet's triangles and edges have
abbrev pub own_of : Sheet → List (List ℕ)
own_of s = outline_of s.triangles s.edges

-- the outline that it is read with: its own in the second edition, the settled one in the first
unfoldable pub outline_in : Bool → Sheet → List (List ℕ)
outline_in true s = own_of s
outline_in false s = settled s.boundary (own_of s)

-- was a typed outline replaced
unfoldable pub replaced_in : Bool → Sheet → Bool
replaced_in true s = false
replaced_in false s = not (same_sides_of s.boundary (own_of s))

-- a sheet as it is read, and whether its typed outline was replaced
pub record SheetRead : Type 0 where
  pub sheet : Sheet
  pub replaced : Bool

-- the sheet that bits hold, as it is typed, and as it is read
unfoldable pub typed_of : List ℕ → Sheet
typed_of l = sheet_with (counts_at (bits_in_of l)) (bits_in_of l)

unfoldable pub sheet_of : List ℕ → SheetRead
sheet_of l = record { sheet = bounded (outline_in (second l) (typed_of l)) (typed_of l); replaced = replaced_in (second l) (typed_of l) }

-- where a sheet of either edition ends, and how many bytes it has
abbrev pub end_in : Bool → Counts → ℕ
end_in t c = pick t (end_of c - 1) (end_of c)

abbrev pub bytes_in : Bool → Counts → ℕ
bytes_in t c = (end_in t c + 7) / 8

-- more entries than a mesh or the caller takes
abbrev pub overlong : Counts → ℕ → Bool
overlong limits n = ltb 2048 n || ltb limits.boundary n

-- the number that the spare bits of a sheet of either edition stand for
abbrev pub spare_in : Counts → List ℕ → ℕ
spare_in c s = field_at (bits_of s) (end_in (second (bits_of s)) c) (8 * bytes_in (second (bits_of s)) c - end_in (second (bits_of s)) c)

-- the answer to a whole sheet
abbrev pub whole_with : Counts → Bool → Result Seen Refusal
whole_with c replaced = Ok (record { counts = c; replaced = replaced })

-- what the bytes of a sheet of either edition with typed counts c are answered before its outline is looked at: counts 1; length and spare bits 9; names 3
unfoldable pub typed_with : Counts → Counts → List ℕ → Result Counts Refusal
typed_with limits c s =
    cond (too_many_of c || above limits c) (Err Size)
    (cond (eqb (length s) (bytes_in (second (bits_of s)) c))
    (cond (eqb (spare_in c s) 0) (cond (names_ok (sheet_with c (bits_in_of (bits_of s)))) (Ok c) (Err Name)) (Err NoSheet))
    (Err NoSheet))

-- the same from the start: a short header 9
unfoldable pub typed_seen : Counts → List ℕ → Result Counts Refusal
typed_seen limits s = cond (ltb (length s) 6) (Err NoSheet) (typed_with limits (counts_at (bits_in_of (bits_of s))) s)

-- what is answered then: 1 for an outline that is too long; else the counts, with the outline's for the boundary's, and whether it was replaced
unfoldable pub seen_in : Counts → List ℕ → Result Counts Refusal → Result Seen Refusal
seen_in limits s (Err n) = Err n
seen_in limits s (Ok c) =
    cond (overlong limits (length (sheet_of (bits_of s)).sheet.boundary)) (Err Size)
    (whole_with (record { particles = c.particles; triangles = c.triangles; edges = c.edges; boundary = length (sheet_of (bits_of s)).sheet.boundary }) (sheet_of (bits_of s)).replaced)

-- what the bytes of a sheet of either edition are answered, where the caller's limits hold besides those of every mesh
abbrev pub seen_of : Counts → List ℕ → Result Seen Refusal
seen_of limits s = seen_in limits s (typed_seen limits s)
