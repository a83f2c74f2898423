-- `sheet_writing::write` meets its contract. Assumes nothing.
use Prim.Native.Nat.{ℕ, ◌*◌}
use Rattle.mesh.proofs.Refused.{refusal_handed, handed_some}
use mathlib.Core.Path.{sym, ap, ◌∙◌}
use native.Mathlib.Omega.{arith}
use lib.ListN.{length, replicate}
use Rattle.lists.specs.Lists.{padded}
use Rattle.sheet.specs.Sheet.{sheet_from}
use Rattle.sheet_writing.specs.Writing.{Handed, columns_from, answer_of}
use Rattle.edition.specs.Edition.{sheet2_bits}
use Rattle.sheet_writing.proofs.Putting.{good, put_none, put_some}
use Rattle.sheet_writing.proofs.write.Goals as goal

pub put_all-requires : goal.put_all-requires
put_all-requires c =
    let a = c.args in
    let h : Handed = record { x = a.x.now; y = a.y.now; pinned = a.pinned.now; t0 = a.t0.now; t1 = a.t1.now; t2 = a.t2.now; e0 = a.e0.now; e1 = a.e1.now; structural = a.structural.now; blade = a.blade.now } in
    let k = columns_from h in
    let g = good k _ (sym c.in_ok-refusal.ensures) in
    let n = c.blank.auto.s in
    record { even = g.even; counts = g.counts; room = omega (arith, g.room); zeros = c.blank.ensures ∙ ap (λ (j : ℕ). replicate (8 * j) 0) (sym n) }

pub shape_of-out : goal.shape_of-out
shape_of-out c = c.put_all.auto.s ∙ c.blank.auto.s

pub returns : goal.returns
returns c =
    let a = c.args in
    let h : Handed = record { x = a.x.now; y = a.y.now; pinned = a.pinned.now; t0 = a.t0.now; t1 = a.t1.now; t2 = a.t2.now; e0 = a.e0.now; e1 = a.e1.now; structural = a.structural.now; blade = a.blade.now } in
    let k = columns_from h in
    let n = c.blank.auto.s in
    record {
      answer = c.in_ok-refusal.ensures ∙ ap (answer_of k) n;
      bits = c.put_all.ensures ∙ (ap (λ (j : ℕ). padded (8 * j) 0 (sheet2_bits (sheet_from k))) n ∙ ap (padded (8 * length a.out.now) 0) (put_some (sheet_from k)));
    }

pub shape_of-out-in_err-refusal : goal.shape_of-out-in_err-refusal
shape_of-out-in_err-refusal c = c.blank.auto.s

pub returns-in_err-refusal : goal.returns-in_err-refusal
returns-in_err-refusal c =
    let a = c.args in
    let w : Handed = record { x = a.x.now; y = a.y.now; pinned = a.pinned.now; t0 = a.t0.now; t1 = a.t1.now; t2 = a.t2.now; e0 = a.e0.now; e1 = a.e1.now; structural = a.structural.now; blade = a.blade.now } in
    let k = columns_from w in
    let n = c.blank.auto.s in
    let h = c.from_residual.ensures.1 in
    record { answer = refusal_handed _ _ h ∙ (c.in_err-refusal.ensures ∙ ap (answer_of k) n); bits = c.blank.ensures ∙ put_none _ (sheet_from k) (8 * length a.out.now) (handed_some _ _ h) }
