-- What is printed for two files: `0` exactly when both are whole and mean the same; a refusal of the first before one of the second. Assumes nothing.
use Prim.Native.Nat.{ℕ}
use mathlib.Core.Path.{◌≡◌, sym, ◌∙◌}
use mathlib.Core.Bool.{Bool}
use mathlib.Core.List.{List, [], ◌∷◌}
use Rattle.sheet.specs.Sheet.{limits}
use Rattle.sheet.specs.Read.{mesh_of_sheet, blade_of_sheet}
use Rattle.sheet.specs.declared.Counts.{Counts}
use Rattle.edition.specs.Edition.{seen_of, whole_with}
use Rattle.std.specs.Prelude.{Err}
use Rattle.mesh.specs.declared.refusals.Refusal.{Refusal}
use Rattle.mesh.specs.Refused.{number_of}
use Rattle.listing.specs.Listing.{refused_bytes}
use Rattle.differences.specs.Differences.{differences, difference_text}
use Rattle.differing.specs.Differed.{read_sheet, differed_seen, differed}
use Rattle.differences.proofs.Meanings.{zero_printed}
use Rattle.differing.proofs.Fitting.{read_fits}

-- the three cases
pub differed_first : (a b : List ℕ) (n : Refusal) → seen_of limits a ≡ Err n → differed a b ≡ refused_bytes (number_of n)
unfolding differed_seen
differed_first a b n e = rw e

pub differed_second : (a b : List ℕ) (c : Counts) (f : Bool) (n : Refusal) → seen_of limits a ≡ whole_with c f → seen_of limits b ≡ Err n → differed a b ≡ refused_bytes (number_of n)
unfolding differed_seen
differed_second a b c f n e h = rw (e, h)

pub differed_both : (a b : List ℕ) (c d : Counts) (f g : Bool) → seen_of limits a ≡ whole_with c f → seen_of limits b ≡ whole_with d g → differed a b ≡ difference_text (differences (read_sheet a) (read_sheet b))
unfolding differed_seen
differed_both a b c d f g e h = rw (e, h)

-- of two whole sheets `0` is printed exactly when their meshes and their blades are equal
module _ (a b : List ℕ) (c d : Counts) (f g : Bool) (e : seen_of limits a ≡ whole_with c f) (h : seen_of limits b ≡ whole_with d g) where
  pub zero_means : differed a b ≡ 48 ∷ 10 ∷ [] → (mesh_of_sheet (read_sheet a) ≡ mesh_of_sheet (read_sheet b)) × (blade_of_sheet (read_sheet a) ≡ blade_of_sheet (read_sheet b))
  zero_means w = (zero_printed (read_sheet a) (read_sheet b) (read_fits limits a c f e) (read_fits limits b d g h)).0 (sym (differed_both a b c d f g e h) ∙ w)

  pub means_zero : (mesh_of_sheet (read_sheet a) ≡ mesh_of_sheet (read_sheet b)) × (blade_of_sheet (read_sheet a) ≡ blade_of_sheet (read_sheet b)) → differed a b ≡ 48 ∷ 10 ∷ []
  means_zero w = differed_both a b c d f g e h ∙ (zero_printed (read_sheet a) (read_sheet b) (read_fits limits a c f e) (read_fits limits b d g h)).1 w
