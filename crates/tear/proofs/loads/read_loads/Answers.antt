-- `tear::loads::read_loads` meets its contract: all edges are linked, and then the loads are read. Assumes nothing.
use native.Mathlib.Omega.{arith}
use Rattle.tear.proofs.loads.read_loads.Goals as goal

-- `tear::loads::read_loads` meets its contract: all edges are linked, and then the loads are read. Assumes nothing.
pub link_sums-requires : goal.link_sums-requires
link_sums-requires c = c.requires.3

pub linked_loads-requires : goal.linked_loads-requires
linked_loads-requires c = let P = c.requires in let K = c.link_sums.auto in (
  P.0,
  P.1,
  record { heads_long = omega (arith, P.3.long, K.heads); nexts_long = omega (arith, P.3.nexts, K.nexts); linked = c.link_sums.ensures },
  P.2,
)

pub shape_of-heads : goal.shape_of-heads
shape_of-heads c = c.link_sums.auto.heads

pub shape_of-nexts : goal.shape_of-nexts
shape_of-nexts c = c.link_sums.auto.nexts

pub shape_of-loads : goal.shape_of-loads
shape_of-loads c = c.linked_loads.auto.loads

pub returns : goal.returns
returns c = c.linked_loads.ensures
