-- `sheet_rows::put_side` meets its contract. Assumes nothing.
use Prim.Native.Nat.{◌/◌}
use lib.ListN.{length}
use lib.ListN.{length-set}
use native.Mathlib.Omega.{arith}
use Rattle.outline_tables.proofs.Adding.{first_place, second_place}
use Rattle.sheet_rows.proofs.RowPuts.{put_cols, side_pushed}
use borrow.Author.Rules.{rules}
use Rattle.sheet_rows.proofs.put_side.Goals as goal

pub bounds-outline-o : goal.bounds-outline-o
bounds-outline-o c = simp length-set (omega arith)

pub returns : goal.returns
unfolding put_cols
returns c = let a = c.args in let R = length a.outline.now / 2 in simp (first_place R a.n, second_place R a.n) at (side_pushed a.n a.a a.b a.outline.now c.requires)
