-- `reading_c::tabled::pieces_by` meets its contract: the table, and the pieces of its corners. Assumes nothing.
use native.Mathlib.Omega.{arith}
use Prim.Native.Nat.{ℕ}
use mathlib.Core.Path.{sym}
use lib.ListN.{length-replicate}
use lib.Seq.{length-take-le}
use Rattle.mesh_tables.proofs.Cornering.{blank, sides_lent, number_found}
use Rattle.reading_c.proofs.Tabling.{accepted_image, numbers_few, only_corners}
use Rattle.reading_c.proofs.tabled.pieces_by.Goals as goal

-- `reading_c::tabled::pieces_by` meets its contract: the table, and the pieces of its corners. Assumes nothing.
pub image_table-s-requires : goal.image_table-s-requires
image_table-s-requires c = let P = c.requires.0 in (c.requires.0.faultless.sized, c.requires.0.faultless.indices, c.requires.0.room)

pub slice_bounds-count_sides-end-2 : goal.slice_bounds-count_sides-end-2
slice_bounds-count_sides-end-2 c = numbers_few c.image_table-s.ensures

pub slice_bounds-count_sides-end-3 : goal.slice_bounds-count_sides-end-3
slice_bounds-count_sides-end-3 c = sym (length-take-le _ _ (numbers_few c.image_table-s.ensures))

pub count_sides-requires : goal.count_sides-requires
count_sides-requires c = let T = c.image_table-s in
    let P = c.requires in
    let h = length-replicate {A = ℕ} 4096 0 in
    sides_lent (only_corners T.ensures) h (λ k. blank 4096 k) (omega (arith, T.ensures.corners.room, T.auto.verts, P.1)) (omega (arith, T.ensures.corners.room, T.auto.verts, P.2)) (length-take-le _ _ (numbers_few T.ensures))

pub returns : goal.returns
returns c = number_found (accepted_image c.requires.0.faultless) (only_corners c.image_table-s.ensures) c.count_sides.ensures
