-- What the writer of a sheet's bits asks. Only the contract between workers needs this file. Definitions only.
use Rattle.std.specs.Prelude.{ℕ, ◌+◌, ◌*◌, ◌≤◌, ◌≡◌, List, length, replicate}
use Rattle.bits.specs.Bits.{bits_of}
use Rattle.sheet.specs.Sheet.{Columns, counts_in, end_of}
use Rattle.sheet.specs.Work.{Small, Even}

-- columns whose sheet fits into bytes that are 0, in the second edition
pub record Put2 (k : Columns) (s : List ℕ) : Type 0 where
  pub even : Even k
  pub counts : Small (counts_in k)
  pub room : end_of (counts_in k) ≤ 8 * length s + 1
  pub zeros : bits_of s ≡ replicate (8 * length s) 0
