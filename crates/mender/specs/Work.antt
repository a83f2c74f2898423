-- What the workers ask and promise. Only the contracts between workers need this file. Definitions only.
use Rattle.std.specs.Prelude.{ℕ, zero, suc, ◌+◌, ◌*◌, ◌^◌, ◌≤◌, ◌<◌, ◌≡◌, Bool, true, false, List, [], ◌∷◌, length, drop, replicate, eqb, Result, Ok, Err}
use Rattle.std.proofs.lemmas.List.Edits.{sets}
use Rattle.lists.specs.Lists.{pick}
use Rattle.bits.specs.Bits.{bits_of, field_at}
use Rattle.bits.specs.Rows.{unpack, pack, read_rows, write_rows}
use Rattle.sheet.specs.Sheet.{counts_at, counts_of, header_w, header_of}
use Rattle.sheet.specs.declared.Counts.{Counts}
use Rattle.edition.specs.Edition.{second, bits_in_of, bytes_in, header2_w, typed_of}
use Rattle.mesh.specs.declared.refusals.Refusal.{Refusal}
use Rattle.mending.specs.Sheets.{mended_sheet, mend_of, refused}
use Rattle.mending.specs.Work.{row_code, kept_by_of, zeros_of, codes_of, boundary_from, Mendable}

-- ---- which bytes are mended, and the fates of their rows

-- those of n rows of names from bit `at` on, each `step` bits after the one before
unfoldable pub codes_at : Bool → ℕ → List ℕ → ℕ → ℕ → ℕ → List ℕ
codes_at three p l at step zero = []
codes_at three p l at step (suc n) = row_code three p (field_at l at 10) (field_at l (at + 10) 10) (field_at l (at + 20) 10) ∷ codes_at three p l (at + step) step n

-- they are mended, or why they are refused
pub record Judged (s : List ℕ) (r : Result (Unit {0}) Refusal) : Type 0 where
  pub yes : (u : Unit {0}) → r ≡ Ok u → Mendable s
  pub no : (e : Refusal) → r ≡ Err e → mend_of s ≡ refused e

-- n rows of `step` bits from bit `at` lie inside the bytes, with a blade behind them
pub record MarkIn (s : List ℕ) (at step n : ℕ) : Type 0 where
  pub room : at + 44 + n * step ≤ 8 * length s
  pub small : at + 44 + n * step < 2 ^ 32

-- columns for the fates of the three lists of a sheet
pub record LentMarks (s : List ℕ) (t e b : ℕ) : Type 0 where
  pub held : Mendable s
  pub triangles : t ≡ (counts_at (bits_in_of (bits_of s))).triangles
  pub edges : e ≡ (counts_at (bits_in_of (bits_of s))).edges
  pub boundary : b ≡ (counts_at (bits_in_of (bits_of s))).boundary

-- they hold the fates
pub record Marked (s t e b : List ℕ) : Type 0 where
  pub triangles : t ≡ codes_of (length (typed_of (bits_of s)).particles) 3 (typed_of (bits_of s)).triangles
  pub edges : e ≡ codes_of (length (typed_of (bits_of s)).particles) 2 (typed_of (bits_of s)).edges
  pub boundary : b ≡ boundary_from (length (typed_of (bits_of s)).particles) [] (typed_of (bits_of s)).boundary

-- ---- kept rows written

-- how far a row that has this number moves what is written
unfoldable pub step_of : ℕ → ℕ → ℕ
step_of code w = pick (eqb code 0) w 0

-- the row at bit `at` lies inside the bytes, and has room at bit `to` of others where it is kept
pub record OneIn (s : List ℕ) (at w0 w1 w2 code : ℕ) (out : List ℕ) (to : ℕ) : Type 0 where
  pub room : at + (w0 + w1 + w2) ≤ 8 * length s
  pub small : at + (w0 + w1 + w2) < 2 ^ 32
  pub narrow0 : w0 ≤ 12
  pub narrow1 : w1 ≤ 12
  pub narrow2 : w2 ≤ 12
  pub lent : to + step_of code (w0 + w1 + w2) ≤ 8 * length out
  pub short : to + step_of code (w0 + w1 + w2) < 2 ^ 32

-- it stands there where it is kept, and what is written next stands behind it
pub record OneKept (s : List ℕ) (at w0 w1 w2 code : ℕ) (out : List ℕ) (to : ℕ) (out' : List ℕ) (r : ℕ) : Type 0 where
  pub bits : bits_of out' ≡ sets (bits_of out) to (pick (eqb code 0) (pack (w0 ∷ w1 ∷ w2 ∷ []) (unpack (w0 ∷ w1 ∷ w2 ∷ []) (drop at (bits_of s)))) [])
  pub next : r ≡ to + step_of code (w0 + w1 + w2)

-- the same of a row for each number of a column
pub record KeptIn (s : List ℕ) (at w0 w1 w2 : ℕ) (mask out : List ℕ) (to : ℕ) : Type 0 where
  pub room : at + length mask * (w0 + w1 + w2) ≤ 8 * length s
  pub small : at + length mask * (w0 + w1 + w2) < 2 ^ 32
  pub narrow0 : w0 ≤ 12
  pub narrow1 : w1 ≤ 12
  pub narrow2 : w2 ≤ 12
  pub lent : to + zeros_of mask * (w0 + w1 + w2) ≤ 8 * length out
  pub short : to + zeros_of mask * (w0 + w1 + w2) < 2 ^ 32

pub record Kept (s : List ℕ) (at w0 w1 w2 : ℕ) (mask out : List ℕ) (to : ℕ) (out' : List ℕ) (r : ℕ) : Type 0 where
  pub bits : bits_of out' ≡ sets (bits_of out) to (write_rows (w0 ∷ w1 ∷ w2 ∷ []) (kept_by_of mask (read_rows (w0 ∷ w1 ∷ w2 ∷ []) (length mask) (drop at (bits_of s)))))
  pub next : r ≡ to + zeros_of mask * (w0 + w1 + w2)

-- a header in an edition
unfoldable pub header_as : Bool → Counts → List ℕ
header_as true c = pack header2_w (2047 ∷ c.particles ∷ c.triangles ∷ c.edges ∷ [])
header_as false c = pack header_w (header_of c)

-- marked lists, and bytes that are 0 and have room for the mended sheet
pub record PutIn (s t e b out : List ℕ) : Type 0 where
  pub held : Mendable s
  pub marked : Marked s t e b
  pub room : bytes_in (second (bits_of s)) (counts_of (mended_sheet (typed_of (bits_of s)))) ≤ length out
  pub zeros : bits_of out ≡ replicate (8 * length out) 0

-- marked lists, and bytes that are 0
pub record MendIn (s t e b out : List ℕ) : Type 0 where
  pub held : Mendable s
  pub marked : Marked s t e b
  pub zeros : bits_of out ≡ replicate (8 * length out) 0
