-- `differing::whole::blade_bit` meets its contract: behind all lists. Assumes nothing.
use Rattle.edition.proofs.Meshes.{blade_at}
use Rattle.edition.proofs.Starts.{start_most}
use Rattle.bits.specs.Bits.{bits_of}
use native.Mathlib.Omega.{arith}
use Rattle.differing.proofs.whole.blade_bit.Goals as goal

-- `differing::whole::blade_bit` meets its contract: behind all lists. Assumes nothing.
pub counts_in-c-requires : goal.counts_in-c-requires
counts_in-c-requires c = c.requires

pub start_bit-at-requires : goal.start_bit-at-requires
start_bit-at-requires c = c.requires

pub overflow_mul-result : goal.overflow_mul-result
overflow_mul-result c = let k = c.counts_in-c.ensures.small in omega (arith, c.counts_in-c.ensures.small.particles, c.counts_in-c.ensures.small.triangles, c.counts_in-c.ensures.small.edges, c.counts_in-c.ensures.small.boundary, start_most (bits_of c.args.s.now), c.start_bit-at.ensures)

pub overflow_add-result : goal.overflow_add-result
overflow_add-result c = let k = c.counts_in-c.ensures.small in omega (arith, c.counts_in-c.ensures.small.particles, c.counts_in-c.ensures.small.triangles, c.counts_in-c.ensures.small.edges, c.counts_in-c.ensures.small.boundary, start_most (bits_of c.args.s.now), c.start_bit-at.ensures)

pub overflow_mul-result-2 : goal.overflow_mul-result-2
overflow_mul-result-2 c = let k = c.counts_in-c.ensures.small in omega (arith, c.counts_in-c.ensures.small.particles, c.counts_in-c.ensures.small.triangles, c.counts_in-c.ensures.small.edges, c.counts_in-c.ensures.small.boundary, start_most (bits_of c.args.s.now), c.start_bit-at.ensures)

pub overflow_add-result-2 : goal.overflow_add-result-2
overflow_add-result-2 c = let k = c.counts_in-c.ensures.small in omega (arith, c.counts_in-c.ensures.small.particles, c.counts_in-c.ensures.small.triangles, c.counts_in-c.ensures.small.edges, c.counts_in-c.ensures.small.boundary, start_most (bits_of c.args.s.now), c.start_bit-at.ensures)

pub overflow_mul-result-3 : goal.overflow_mul-result-3
overflow_mul-result-3 c = let k = c.counts_in-c.ensures.small in omega (arith, c.counts_in-c.ensures.small.particles, c.counts_in-c.ensures.small.triangles, c.counts_in-c.ensures.small.edges, c.counts_in-c.ensures.small.boundary, start_most (bits_of c.args.s.now), c.start_bit-at.ensures)

pub overflow_add-result-3 : goal.overflow_add-result-3
overflow_add-result-3 c = let k = c.counts_in-c.ensures.small in omega (arith, c.counts_in-c.ensures.small.particles, c.counts_in-c.ensures.small.triangles, c.counts_in-c.ensures.small.edges, c.counts_in-c.ensures.small.boundary, start_most (bits_of c.args.s.now), c.start_bit-at.ensures)

pub overflow_mul-result-4 : goal.overflow_mul-result-4
overflow_mul-result-4 c = let k = c.counts_in-c.ensures.small in omega (arith, c.counts_in-c.ensures.small.particles, c.counts_in-c.ensures.small.triangles, c.counts_in-c.ensures.small.edges, c.counts_in-c.ensures.small.boundary, start_most (bits_of c.args.s.now), c.start_bit-at.ensures)

pub overflow_add-result-4 : goal.overflow_add-result-4
overflow_add-result-4 c = let k = c.counts_in-c.ensures.small in omega (arith, c.counts_in-c.ensures.small.particles, c.counts_in-c.ensures.small.triangles, c.counts_in-c.ensures.small.edges, c.counts_in-c.ensures.small.boundary, start_most (bits_of c.args.s.now), c.start_bit-at.ensures)

pub returns : goal.returns
returns c = blade_at (bits_of c.args.s.now) c.counts_in-c.result c.start_bit-at.result c.counts_in-c.ensures c.start_bit-at.ensures
