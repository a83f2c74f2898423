-- `readings::reading::count_pieces` meets its contract: the corners, and their pieces. Assumes nothing.
use native.Mathlib.Omega.{arith}
use mathlib.Core.Path.{sym}
use lib.ListN.{length-replicate}
use lib.Seq.{length-take-le}
use Prim.Native.Nat.{ℕ}
use Rattle.mesh_tables.proofs.Cornering.{blank, sides_lent, number_found}
use Rattle.readings.proofs.reading.count_pieces.Goals as goal

pub slice_bounds-count_sides-end-5 : goal.slice_bounds-count_sides-end-5
slice_bounds-count_sides-end-5 c = sym (length-take-le _ _ c.corners_of-s.ensures.corners.few)

pub count_sides-requires : goal.count_sides-requires
count_sides-requires c =
    let T = c.corners_of-s.ensures in
    let h = length-replicate {A = ℕ} 4096 0 in
    sides_lent T h (λ k. blank 4096 k) (omega (arith, T.narrow)) (omega (arith, T.narrow)) (length-take-le _ _ T.corners.few)

pub returns : goal.returns
returns c = number_found c.requires c.corners_of-s.ensures c.count_sides.ensures
