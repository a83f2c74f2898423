-- `mender::fates::mark_all` meets its contract. Assumes nothing.
use Rattle.mender.proofs.Whole.{sizes, marked}
use Rattle.mending.proofs.Bytes.{held_six}
use Rattle.sheet.specs.declared.Counts.{Counts}
use native.Mathlib.Omega.{arith}
use mathlib.Core.Path.{refl, ap}
use Rattle.mender.proofs.fates.mark_all.Goals as goal

-- `mender::fates::mark_all` meets its contract. Assumes nothing.
pub counts_in-counts-requires : goal.counts_in-counts-requires
counts_in-counts-requires c = held_six c.args.s.now c.requires.held

pub start_bit-requires : goal.start_bit-requires
start_bit-requires c = held_six c.args.s.now c.requires.held

pub overflow_add-at_t : goal.overflow_add-at_t
overflow_add-at_t c = let z = sizes c.args.s.now c.counts_in-counts.result c.start_bit.result c.requires.held c.counts_in-counts.ensures.is c.start_bit.ensures in omega (arith, z.particles, z.triangles, z.edges, z.boundary, z.early)

pub overflow_add-at_e : goal.overflow_add-at_e
overflow_add-at_e c = let z = sizes c.args.s.now c.counts_in-counts.result c.start_bit.result c.requires.held c.counts_in-counts.ensures.is c.start_bit.ensures in omega (arith, z.particles, z.triangles, z.edges, z.boundary, z.early)

pub overflow_add-at_b : goal.overflow_add-at_b
overflow_add-at_b c = let z = sizes c.args.s.now c.counts_in-counts.result c.start_bit.result c.requires.held c.counts_in-counts.ensures.is c.start_bit.ensures in omega (arith, z.particles, z.triangles, z.edges, z.boundary, z.early)

pub mark_list-requires : goal.mark_list-requires
mark_list-requires c = let z = sizes c.args.s.now c.counts_in-counts.result c.start_bit.result c.requires.held c.counts_in-counts.ensures.is c.start_bit.ensures in let i = ap (λ (x : Counts). x.triangles) c.counts_in-counts.ensures.is in record { room = omega (arith, z.reach, i, c.requires.triangles); small = omega (arith, z.particles, z.triangles, z.edges, z.boundary, z.early, i, c.requires.triangles) }

pub mark_list-requires-2 : goal.mark_list-requires-2
mark_list-requires-2 c = let z = sizes c.args.s.now c.counts_in-counts.result c.start_bit.result c.requires.held c.counts_in-counts.ensures.is c.start_bit.ensures in let i = ap (λ (x : Counts). x.edges) c.counts_in-counts.ensures.is in record { room = omega (arith, z.reach, i, c.requires.edges); small = omega (arith, z.particles, z.triangles, z.edges, z.boundary, z.early, i, c.requires.edges) }

pub mark_boundary-requires : goal.mark_boundary-requires
mark_boundary-requires c = let z = sizes c.args.s.now c.counts_in-counts.result c.start_bit.result c.requires.held c.counts_in-counts.ensures.is c.start_bit.ensures in let i = ap (λ (x : Counts). x.boundary) c.counts_in-counts.ensures.is in (record { room = omega (arith, z.reach, i, c.requires.boundary); small = omega (arith, z.particles, z.triangles, z.edges, z.boundary, z.early, i, c.requires.boundary) }, omega (arith, z.boundary, i, c.requires.boundary), omega (arith, z.boundary, i, c.requires.boundary))

pub returns : goal.returns
returns c = let a = c.args in let p = c.requires in marked a.s.now p.held c.counts_in-counts.result c.start_bit.result _ _ _ _ _ _ _ _ _ c.counts_in-counts.ensures.is c.start_bit.ensures p.triangles p.edges p.boundary refl refl refl c.mark_list.ensures c.mark_list-2.ensures c.mark_boundary.ensures
