-- `sheet_writing::refusal` meets its contract. What the first edition refuses with bytes enough comes first, then the outline, then the bytes. Assumes nothing.
use Rattle.mesh.proofs.Refused.{refusal_handed, refused_some}
use mathlib.Core.Path.{sym, ap, ◌∙◌}
use mathlib.Core.Bool.{true, false}
use mathlib.Core.List.{List}
use Prim.Native.Nat.{ℕ}
use native.Mathlib.Omega.{arith}
use lib.Dec.{ltb}
use lib.ListN.{length}
use borrow.Author.Tests.{le-leb, lt-leb}
use Rattle.sheet.specs.Sheet.{counts_in}
use Rattle.sheet.proofs.PutLaws.{good}
use Rattle.sheet_fields.proofs.WholeLaws.{fields_long}
use Rattle.edition.specs.Edition.{bytes_in}
use Rattle.sheet_writing.specs.Writing.{Handed, columns_from}
use Rattle.sheet_writing.proofs.Putting.{own_columns, refused_early, refused_long, late}
use Rattle.sheet_writing.proofs.refusal.Goals as goal

pub returns-in_err-refusal : goal.returns-in_err-refusal
returns-in_err-refusal c =
    let a = c.args in
    let h : Handed = record { x = a.x.now; y = a.y.now; pinned = a.pinned.now; t0 = a.t0.now; t1 = a.t1.now; t2 = a.t2.now; e0 = a.e0.now; e1 = a.e1.now; structural = a.structural.now; blade = a.blade.now } in
    let k = columns_from h in
    refusal_handed _ _ c.from_residual.ensures.1 ∙ refused_early k a.m _ c.in_err-refusal.ensures (refused_some c.in_err-refusal.field-0.0)

pub long_own-requires : goal.long_own-requires
long_own-requires c =
    let a = c.args in
    let h : Handed = record { x = a.x.now; y = a.y.now; pinned = a.pinned.now; t0 = a.t0.now; t1 = a.t1.now; t2 = a.t2.now; e0 = a.e0.now; e1 = a.e1.now; structural = a.structural.now; blade = a.blade.now } in
    let k = columns_from h in
    let g = good k 65536 (sym c.in_ok-refusal.ensures) in
    (record { second = g.even.t1; third = g.even.t2; few = omega (arith, g.counts.triangles) }, record { second = g.even.e1; third = g.even.structural; few = omega (arith, g.counts.edges) })

pub returns-then-long_own : goal.returns-then-long_own
returns-then-long_own c =
    let a = c.args in
    let h : Handed = record { x = a.x.now; y = a.y.now; pinned = a.pinned.now; t0 = a.t0.now; t1 = a.t1.now; t2 = a.t2.now; e0 = a.e0.now; e1 = a.e1.now; structural = a.structural.now; blade = a.blade.now } in
    let k = columns_from h in
    refused_long k a.m c.in_ok-refusal.ensures (ap (λ (l : List (List ℕ)). ltb 2048 (length l)) (sym (own_columns k)) ∙ (sym c.long_own.ensures ∙ c.if-long_own.true))

pub end_bit-requires : goal.end_bit-requires
end_bit-requires c =
    let a = c.args in
    let h : Handed = record { x = a.x.now; y = a.y.now; pinned = a.pinned.now; t0 = a.t0.now; t1 = a.t1.now; t2 = a.t2.now; e0 = a.e0.now; e1 = a.e1.now; structural = a.structural.now; blade = a.blade.now } in
    let k = columns_from h in
    let g = good k 65536 (sym c.in_ok-refusal.ensures) in
    record { particles = omega (arith, g.counts.particles, fields_long a.x.now); triangles = g.counts.triangles; edges = g.counts.edges; boundary = omega arith }

pub overflow_add-end_bit : goal.overflow_add-end_bit
overflow_add-end_bit c =
    let a = c.args in
    let h : Handed = record { x = a.x.now; y = a.y.now; pinned = a.pinned.now; t0 = a.t0.now; t1 = a.t1.now; t2 = a.t2.now; e0 = a.e0.now; e1 = a.e1.now; structural = a.structural.now; blade = a.blade.now } in
    let k = columns_from h in
    let g = good k 65536 (sym c.in_ok-refusal.ensures) in
    omega (arith, c.end_bit.ensures, g.counts.particles, g.counts.triangles, g.counts.edges, fields_long a.x.now)

pub returns-then-end_bit-m : goal.returns-then-end_bit-m
returns-then-end_bit-m c =
    let a = c.args in
    let h : Handed = record { x = a.x.now; y = a.y.now; pinned = a.pinned.now; t0 = a.t0.now; t1 = a.t1.now; t2 = a.t2.now; e0 = a.e0.now; e1 = a.e1.now; structural = a.structural.now; blade = a.blade.now } in
    let k = columns_from h in
    late k a.m c.in_ok-refusal.ensures (ap (λ (l : List (List ℕ)). ltb 2048 (length l)) (sym (own_columns k)) ∙ (sym c.long_own.ensures ∙ c.if-long_own.false)) true (le-leb (bytes_in true (counts_in k)) a.m (omega (arith, c.if-end_bit-m.true, c.end_bit.ensures, fields_long a.x.now)))

pub returns-else-end_bit-m : goal.returns-else-end_bit-m
returns-else-end_bit-m c =
    let a = c.args in
    let h : Handed = record { x = a.x.now; y = a.y.now; pinned = a.pinned.now; t0 = a.t0.now; t1 = a.t1.now; t2 = a.t2.now; e0 = a.e0.now; e1 = a.e1.now; structural = a.structural.now; blade = a.blade.now } in
    let k = columns_from h in
    late k a.m c.in_ok-refusal.ensures (ap (λ (l : List (List ℕ)). ltb 2048 (length l)) (sym (own_columns k)) ∙ (sym c.long_own.ensures ∙ c.if-long_own.false)) false (lt-leb (bytes_in true (counts_in k)) a.m (omega (arith, c.if-end_bit-m.false, c.end_bit.ensures, fields_long a.x.now)))
