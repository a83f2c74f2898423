-- `mesh_tables::fans::put_two` meets its contract: two stores, or no room. Assumes nothing.
use native.Mathlib.Omega.{arith}
use lib.ListN.{length-set}
use Rattle.mesh_tables.proofs.FanLaws.{two_put, no_room}
use borrow.Author.Rules.{rules}
use Rattle.mesh_tables.proofs.fans.put_two.Goals as goal

pub bounds-verts-o-then-r-verts : goal.bounds-verts-o-then-r-verts
bounds-verts-o-then-r-verts c = simp length-set (omega arith)

pub returns-then-r-verts : goal.returns-then-r-verts
returns-then-r-verts c = two_put _ _ _ _ c.if-r-verts.true

pub returns-else-r-verts : goal.returns-else-r-verts
returns-else-r-verts c = no_room 2 _ _ _ (let h = c.if-r-verts.false in omega arith)
