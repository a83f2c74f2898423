-- `split_plan::place` meets its contract. The two cells are read. Assumes nothing.
use Prim.Native.Nat.{◌/◌}
use lib.ListN.{length}
use lib.Ieee.{nan}
use mathlib.Core.Path.{sym}
use Rattle.columns.proofs.Cells.{col_0, col_1}
use Rattle.mesh.specs.Widths.{point_columns}
use Rattle.split_plan.proofs.place.Goals as goal

pub returns : goal.returns
returns c =
    let P = c.args.points.now in let w = c.args.w in
    λ i. record { x = sym (col_0 nan (length P / point_columns) P w) i; y = sym (col_1 nan (length P / point_columns) P w) i }
