-- `mender::write::put_sheet` meets its contract. Assumes nothing.
use Rattle.mender.proofs.Joined.{sheet_put}
use Rattle.bits.proofs.RowLaws.{take_zeros}
use Rattle.mender.proofs.Whole.{sizes, plan, room_out, kept_in, kept_counts, zeros_taken}
use Rattle.mending.proofs.Bytes.{held_six}
use lib.Seq.{length-take-le}
use lib.ListN.{length}
use native.Mathlib.Omega.{arith}
use mathlib.Core.Path.{refl, sym, ◌∙◌}
use Rattle.mender.proofs.write.put_sheet.Goals as goal

-- `mender::write::put_sheet` meets its contract. Assumes nothing.
pub counts_in-c-requires : goal.counts_in-c-requires
counts_in-c-requires c = held_six c.args.s.now c.requires.held

pub start_bit-start-requires : goal.start_bit-start-requires
start_bit-start-requires c = held_six c.args.s.now c.requires.held

pub overflow_add-at_t : goal.overflow_add-at_t
overflow_add-at_t c = let z = sizes c.args.s.now c.counts_in-c.result c.start_bit-start.result c.requires.held c.counts_in-c.ensures.is c.start_bit-start.ensures in omega (arith, z.particles, z.triangles, z.edges, z.boundary, z.early)

pub overflow_add-at_e : goal.overflow_add-at_e
overflow_add-at_e c = let z = sizes c.args.s.now c.counts_in-c.result c.start_bit-start.result c.requires.held c.counts_in-c.ensures.is c.start_bit-start.ensures in omega (arith, z.particles, z.triangles, z.edges, z.boundary, z.early)

pub overflow_add-at_b : goal.overflow_add-at_b
overflow_add-at_b c = let z = sizes c.args.s.now c.counts_in-c.result c.start_bit-start.result c.requires.held c.counts_in-c.ensures.is c.start_bit-start.ensures in omega (arith, z.particles, z.triangles, z.edges, z.boundary, z.early)

pub overflow_add-at_d : goal.overflow_add-at_d
overflow_add-at_d c = let z = sizes c.args.s.now c.counts_in-c.result c.start_bit-start.result c.requires.held c.counts_in-c.ensures.is c.start_bit-start.ensures in omega (arith, z.particles, z.triangles, z.edges, z.boundary, z.early)

pub is_second-requires : goal.is_second-requires
is_second-requires c = held_six c.args.s.now c.requires.held

pub put_header-requires : goal.put_header-requires
put_header-requires c = let r = room_out c.args.s.now c.args.triangles.now c.args.edges.now c.args.boundary.now c.requires.held c.requires.marked (length c.args.out.now) c.start_bit-start.result c.start_bit-start.ensures c.requires.room in omega (arith, r.1)

pub slice_bounds-none-end : goal.slice_bounds-none-end
slice_bounds-none-end c = let z = sizes c.args.s.now c.counts_in-c.result c.start_bit-start.result c.requires.held c.counts_in-c.ensures.is c.start_bit-start.ensures in omega (arith, z.particles)

pub slice_bounds-put_kept-end : goal.slice_bounds-put_kept-end
slice_bounds-put_kept-end c = let z = sizes c.args.s.now c.counts_in-c.result c.start_bit-start.result c.requires.held c.counts_in-c.ensures.is c.start_bit-start.ensures in sym (length-take-le _ _ (omega (arith, z.particles)))

pub put_kept-to_t-requires : goal.put_kept-to_t-requires
put_kept-to_t-requires c = let q = plan c.args.s.now c.args.triangles.now c.args.edges.now c.args.boundary.now c.requires.held c.requires.marked c.counts_in-c.result c.start_bit-start.result (length c.args.out.now) c.counts_in-c.ensures.is c.start_bit-start.ensures c.requires.room in let z = q.size in let zp = zeros_taken c.counts_in-c.result.particles 1024 (omega (arith, z.particles)) in kept_in c.args.s.now _ _ _ 11 11 1 _ c.counts_in-c.result.particles c.counts_in-c.result.particles 23 (length-take-le _ _ (omega (arith, z.particles))) zp refl (omega (arith, z.reach)) (omega (arith, z.particles, z.triangles, z.edges, z.boundary, z.early, q.few_t, q.few_e, q.few_b)) (omega (arith, q.out, c.put_header.auto.out)) (omega (arith, z.particles, z.triangles, z.edges, z.boundary, z.early, q.few_t, q.few_e, q.few_b)) (omega arith, omega arith, omega arith)

pub put_kept-to_e-requires : goal.put_kept-to_e-requires
put_kept-to_e-requires c = let q = plan c.args.s.now c.args.triangles.now c.args.edges.now c.args.boundary.now c.requires.held c.requires.marked c.counts_in-c.result c.start_bit-start.result (length c.args.out.now) c.counts_in-c.ensures.is c.start_bit-start.ensures c.requires.room in let z = q.size in let zp = zeros_taken c.counts_in-c.result.particles 1024 (omega (arith, z.particles)) in let n1 = c.put_kept-to_t.ensures.next in kept_in c.args.s.now _ _ _ 10 10 10 _ c.counts_in-c.result.triangles _ 30 q.long_t q.zeros_t refl (omega (arith, z.reach)) (omega (arith, z.particles, z.triangles, z.edges, z.boundary, z.early, q.few_t, q.few_e, q.few_b)) (omega (arith, q.out, n1, zp, c.put_kept-to_t.auto.out, c.put_header.auto.out)) (omega (arith, n1, zp, z.particles, z.triangles, z.edges, z.boundary, z.early, q.few_t, q.few_e, q.few_b)) (omega arith, omega arith, omega arith)

pub put_kept-to_b-requires : goal.put_kept-to_b-requires
put_kept-to_b-requires c = let q = plan c.args.s.now c.args.triangles.now c.args.edges.now c.args.boundary.now c.requires.held c.requires.marked c.counts_in-c.result c.start_bit-start.result (length c.args.out.now) c.counts_in-c.ensures.is c.start_bit-start.ensures c.requires.room in let z = q.size in let zp = zeros_taken c.counts_in-c.result.particles 1024 (omega (arith, z.particles)) in let n1 = c.put_kept-to_t.ensures.next in let n2 = c.put_kept-to_e.ensures.next in let zt = q.zeros_t in kept_in c.args.s.now _ _ _ 10 10 1 _ c.counts_in-c.result.edges _ 21 q.long_e q.zeros_e refl (omega (arith, z.reach)) (omega (arith, z.particles, z.triangles, z.edges, z.boundary, z.early, q.few_t, q.few_e, q.few_b)) (omega (arith, q.out, n1, n2, zp, zt, c.put_kept-to_e.auto.out, c.put_kept-to_t.auto.out, c.put_header.auto.out)) (omega (arith, n1, n2, zp, zt, z.particles, z.triangles, z.edges, z.boundary, z.early, q.few_t, q.few_e, q.few_b)) (omega arith, omega arith, omega arith)

pub put_kept-to_d-requires : goal.put_kept-to_d-requires
put_kept-to_d-requires c = let q = plan c.args.s.now c.args.triangles.now c.args.edges.now c.args.boundary.now c.requires.held c.requires.marked c.counts_in-c.result c.start_bit-start.result (length c.args.out.now) c.counts_in-c.ensures.is c.start_bit-start.ensures c.requires.room in let z = q.size in let zp = zeros_taken c.counts_in-c.result.particles 1024 (omega (arith, z.particles)) in let n1 = c.put_kept-to_t.ensures.next in let n2 = c.put_kept-to_e.ensures.next in let n3 = c.put_kept-to_b.ensures.next in let zt = q.zeros_t in let ze = q.zeros_e in kept_in c.args.s.now _ _ _ 10 10 0 _ c.counts_in-c.result.boundary _ 20 q.long_b q.zeros_b refl (omega (arith, z.reach)) (omega (arith, z.particles, z.triangles, z.edges, z.boundary, z.early, q.few_t, q.few_e, q.few_b)) (omega (arith, q.out, n1, n2, n3, zp, zt, ze, c.put_kept-to_b.auto.out, c.put_kept-to_e.auto.out, c.put_kept-to_t.auto.out, c.put_header.auto.out)) (omega (arith, n1, n2, n3, zp, zt, ze, z.particles, z.triangles, z.edges, z.boundary, z.early, q.few_t, q.few_e, q.few_b)) (omega arith, omega arith, omega arith)

pub put_blade-requires : goal.put_blade-requires
put_blade-requires c = let q = plan c.args.s.now c.args.triangles.now c.args.edges.now c.args.boundary.now c.requires.held c.requires.marked c.counts_in-c.result c.start_bit-start.result (length c.args.out.now) c.counts_in-c.ensures.is c.start_bit-start.ensures c.requires.room in let z = q.size in let zp = zeros_taken c.counts_in-c.result.particles 1024 (omega (arith, z.particles)) in let n1 = c.put_kept-to_t.ensures.next in let n2 = c.put_kept-to_e.ensures.next in let n3 = c.put_kept-to_b.ensures.next in let n4 = c.put_kept-to_d.ensures.next in let zt = q.zeros_t in let ze = q.zeros_e in let zb = q.zeros_b in (record { room = omega (arith, z.reach); small = omega (arith, z.particles, z.triangles, z.edges, z.boundary, z.early, q.few_t, q.few_e, q.few_b); narrow = omega arith; narrow2 = omega arith }, record { room = omega (arith, q.out, n1, n2, n3, n4, zp, zt, ze, zb, c.put_kept-to_d.auto.out, c.put_kept-to_b.auto.out, c.put_kept-to_e.auto.out, c.put_kept-to_t.auto.out, c.put_header.auto.out); small = omega (arith, n1, n2, n3, n4, zp, zt, ze, zb, z.particles, z.triangles, z.edges, z.boundary, z.early, q.few_t, q.few_e, q.few_b); narrow = omega arith; narrow2 = omega arith })

pub shape_of-out : goal.shape_of-out
shape_of-out c = c.put_blade.auto.out ∙ c.put_kept-to_d.auto.out ∙ c.put_kept-to_b.auto.out ∙ c.put_kept-to_e.auto.out ∙ c.put_kept-to_t.auto.out ∙ c.put_header.auto.out

pub returns : goal.returns
returns c = let z = sizes c.args.s.now c.counts_in-c.result c.start_bit-start.result c.requires.held c.counts_in-c.ensures.is c.start_bit-start.ensures in let i = c.counts_in-c.ensures.is in sheet_put c.args.s.now c.args.triangles.now c.args.edges.now c.args.boundary.now c.requires.held c.requires.marked c.args.out.now _ _ _ _ _ _ _ c.counts_in-c.result _ _ c.start_bit-start.result _ _ _ _ _ _ _ _ i (kept_counts c.args.s.now c.args.triangles.now c.args.edges.now c.args.boundary.now c.requires.held c.requires.marked c.counts_in-c.result _ _ _ i c.staying.ensures c.staying-2.ensures c.staying-3.ensures) c.is_second.ensures c.start_bit-start.ensures (take_zeros c.counts_in-c.result.particles 1024 (omega (arith, z.particles))) refl refl refl refl c.put_header.ensures c.put_kept-to_t.ensures c.put_kept-to_e.ensures c.put_kept-to_b.ensures c.put_kept-to_d.ensures c.put_blade.ensures c.requires.zeros c.requires.room
