use native.Mathlib.Omega.{arith}
use lib.ListN.{length-set}
use Rattle.insert.proofs.SideLaws.{grew_none, grew_one}
use borrow.Author.Rules.{rules}
use Rattle.insert.proofs.sides.grow_entry.Goals as goal

-- src/sides.rt:26:9
pub returns-then-m-room : goal.returns-then-m-room
returns-then-m-room c = grew_none _ _ _ _ _ _ c.if-m-room.true

-- src/sides.rt:30:5
pub bounds-outline-m : goal.bounds-outline-m
bounds-outline-m c = simp length-set (omega (arith, c.requires.0.rows, c.requires.0.columns, c.if-m-room.false))

-- src/sides.rt:31:5
pub bounds-outline-o-2 : goal.bounds-outline-o-2
bounds-outline-o-2 c = simp length-set (omega (arith, c.requires.0.rows, c.requires.0.columns, c.if-m-room.false))

-- src/sides.rt:13:1
pub returns : goal.returns
returns c = grew_one _ _ _ _ _ _ c.requires.1 (omega (arith, c.requires.0.rows, c.requires.0.columns, c.if-m-room.false)) _ (omega (arith, c.requires.0.rows, c.if-m-room.false))
