-- What is answered to the bytes of a sheet of either edition: was its typed outline replaced, its blade, and the image of its mesh as it is read. Definitions only.
use Rattle.std.specs.Prelude.{ℕ, List, ◌∷◌, ◌++◌, Result, Ok, Err}
use Rattle.lists.specs.Lists.{pick}
use Rattle.model.specs.Reads.{Read, refused, value}
use Rattle.bits.specs.Bits.{bits_of}
use Rattle.sheet.specs.Sheet.{most}
use Rattle.sheet.specs.Read.{mesh_of_sheet, blade_of_sheet}
use Rattle.edition.specs.Edition.{SheetRead, sheet_of, seen_of}
use Rattle.mesh.specs.declared.refusals.Refusal.{Refusal}
use Rattle.mesh.specs.Refused.{number_of}
use Rattle.edition.specs.declared.Seen.{Seen}
use Rattle.image.specs.Words.{bits_in_of}
use Rattle.image.specs.Image.{image_words_of}

-- the words of a sheet as it is read: 1 if its outline was replaced, else 0; the four numbers of the blade; then the image of the mesh
unfoldable pub sheet_words : SheetRead → List ℕ
sheet_words R = (pick R.replaced 1 0 ∷ bits_in_of (blade_of_sheet R.sheet)) ++ image_words_of (mesh_of_sheet R.sheet)

-- what a look at bytes comes to
abbrev pub sheet_told : Result Seen Refusal → List ℕ → Read (List ℕ)
sheet_told (Err e) s = refused (number_of e)
sheet_told (Ok k) s = value (sheet_words (sheet_of (bits_of s)))

-- the sheet that bytes are, within the limits of a mesh
unfoldable pub sheet_reply : List ℕ → Read (List ℕ)
sheet_reply s = sheet_told (seen_of most s) s
