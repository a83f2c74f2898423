-- `answer_listing::count_pieces` meets its contract: the table of the elements, and its pieces. Assumes nothing.
use native.Mathlib.Omega.{arith}
use borrow.Author.Rules.{rules}
use mathlib.Core.Path.{sym}
use Prim.Native.Nat.{ℕ}
use lib.ListN.{length-replicate}
use lib.Seq.{length-take-le}
use Rattle.mesh_tables.proofs.Cornering.{blank}
use Rattle.answer_listing.proofs.Counting.{short_told, lent_told, pieces_told}
use Rattle.answer_listing.proofs.count_pieces.Goals as goal

pub slice_bounds-parent-end : goal.slice_bounds-parent-end
slice_bounds-parent-end c = short_told c.args.k _ _ _ _ c.requires c.kind_of-kind.result _ _ _ _ _ c.element_table-n.ensures c.corners_per-per.ensures

pub slice_bounds-count_sides-end-5 : goal.slice_bounds-count_sides-end-5
slice_bounds-count_sides-end-5 c = sym (length-take-le _ _ (short_told c.args.k _ _ _ _ c.requires c.kind_of-kind.result _ _ _ _ _ c.element_table-n.ensures c.corners_per-per.ensures))

pub count_sides-requires : goal.count_sides-requires
count_sides-requires c =
    let T = c.element_table-n in
    let h = length-replicate {A = ℕ} 4096 0 in
    lent_told c.args.k _ _ _ _ c.requires c.kind_of-kind.result _ _ _ _ _ c.element_table-n.ensures c.corners_per-per.ensures (omega (arith, T.auto.verts)) h (λ i. blank 4096 i) (omega arith) (omega arith) (length-take-le _ _ (short_told c.args.k _ _ _ _ c.requires c.kind_of-kind.result _ _ _ _ _ c.element_table-n.ensures c.corners_per-per.ensures))

pub returns : goal.returns
returns c =
    pieces_told c.args.k _ _ _ _ c.requires _ _ _ _ _ _ c.element_table-n.ensures c.corners_per-per.ensures _ c.kind_of-kind.ensures c.count_sides.ensures
