-- What the program prints, and the sheet that it writes (docs/RULES.md, R22). Definitions only.
use Rattle.std.specs.Prelude.{◌≡◌, Bool, true, false, List, ℕ, take}
use Rattle.bits.specs.Bits.{bits_of}
use Rattle.mesh.specs.Refused.{number_of}
use Rattle.listing.specs.Listing.{refused_bytes}
use Rattle.mending.specs.Sheets.{Mending, mended, refused, mend_of}
use Rattle.mender.specs.Answers.{bytes_of}
use Rattle.mend.specs.declared.Ends.{Ends}

-- what is printed: a line for each drop, or the one line `refused N`
unfoldable pub printed : Mending → List ℕ
printed (mended m t) = t
printed (refused e) = refused_bytes (number_of e)

-- is there a sheet to write
unfoldable pub is_mended : Mending → Bool
is_mended (mended m t) = true
is_mended (refused n) = false

-- the front of the lent bytes: the mended sheet, none on a refusal, and what is printed
pub record Printed (s out said : List ℕ) (r : Ends) : Type 0 where
  pub whole : r.whole ≡ is_mended (mend_of s)
  pub sheet : bits_of (take r.sheet out) ≡ bits_of (bytes_of (mend_of s))
  pub text : take r.text said ≡ printed (mend_of s)
