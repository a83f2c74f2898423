-- The cut of a sheet that was read to the fronts of blocks. Assumes nothing.
use Prim.Native.Nat.{ℕ}
use mathlib.Core.Path.{◌≡◌, sym, ap, ◌∙◌}
use mathlib.Core.List.{List, [], ◌∷◌}
use lib.Ieee.{Float, nan}
use lib.ListN.{get_or}
use Rattle.model.specs.Cut.{Line}
use Rattle.model.specs.Calls.{cut_call}
use Rattle.mesh.specs.Given.{mesh_of, sizes_fit_of}
use Rattle.bits.specs.Bits.{bits_of}
use Rattle.sheet.specs.declared.Counts.{Counts}
use Rattle.edition.specs.Edition.{sheet_of}
use Rattle.sheetcut.specs.SheetCut.{rooms, fraction, blade_of, cut_of}
use Rattle.sheet_fronts.specs.Fronts.{fronts, FrontsRead}
use Rattle.sheet_fronts.proofs.Reading.{blade_four}

-- four numbers of a list, by their places
four_at : (b : List Float) (x y z w : Float) → b ≡ x ∷ y ∷ z ∷ w ∷ [] → ◌≡◌ {A = Line} (record { from = record { x = get_or b 0 nan; y = get_or b 1 nan }; to = record { x = get_or b 2 nan; y = get_or b 3 nan } }) (blade_of (x ∷ y ∷ z ∷ w ∷ []))
four_at b x y z w e = ap (λ (l : List Float). record { from = record { x = get_or l 0 nan; y = get_or l 1 nan }; to = record { x = get_or l 2 nan; y = get_or l 3 nan } }) e

-- the cut of fronts that were read is the sheet's
pub fronts_cut :
    (s : List ℕ) (c : Counts) (P : List Float) (R C : List ℕ) (U : List Float) (E : List ℕ) (N : List Float) (O : List ℕ) (b : List Float) → FrontsRead s c P R C U E N O b
    → cut_call (sizes_fit_of (fronts c P R C U E N O)) (mesh_of (fronts c P R C U E N O)) 1 (record { from = record { x = get_or b 0 nan; y = get_or b 1 nan }; to = record { x = get_or b 2 nan; y = get_or b 3 nan } }) fraction rooms
    ≡ cut_of (sheet_of (bits_of s)).sheet
unfolding cut_of
fronts_cut s c P R C U E N O b D =
    let e = four_at b _ _ _ _ (D.blade ∙ sym (blade_four (bits_of s))) ∙ ap blade_of (blade_four (bits_of s)) in
    λ i. cut_call (D.sized i) (D.mesh i) 1 (e i) fraction rooms
