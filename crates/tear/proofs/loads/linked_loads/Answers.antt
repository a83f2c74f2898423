-- `tear::loads::linked_loads` meets its contract: the loop over the triangles is `Reading` of proofs/LoadLaws.antt. Assumes nothing.
use Prim.Native.Nat.{◌-◌}
use native.Mathlib.Omega.{arith}
use Rattle.tear.proofs.LoadLaws.{Reading, reading_start, reading_more, reading_done}
use borrow.Author.Rules.{rules}
use Rattle.tear.proofs.loads.linked_loads.Goals as goal

pub loop-i-init : goal.loop-i-init
loop-i-init c = reading_start _ _ _ _ _ _ _

pub triangle_load-requires : goal.triangle_load-requires
triangle_load-requires c = let P = c.requires in let h = c.loop-i-test.true in (
  record { corners = omega (arith, P.0.corners); volumes = omega (arith, P.0.volumes); edges = P.0.edges },
  P.2,
  P.3.corners_in _ h,
)

pub loop-i-preserved : goal.loop-i-preserved
loop-i-preserved c = reading_more _ _ _ _ _ _ _ _ _ c.loop-i.invariant c.loop-i-test.true c.requires.1 _ c.triangle_load.ensures

pub shape_of-loads : goal.shape_of-loads
shape_of-loads c = c.loop-i.invariant.long

pub returns : goal.returns
returns c = reading_done _ _ _ _ _ _ _ _ _ c.loop-i.invariant (search rules)
