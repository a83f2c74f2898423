-- `mender::mend_held` meets its contract. Assumes nothing.
use Rattle.mender.proofs.Whole.{few_held}
use Rattle.mending.proofs.Bytes.{held_six}
use Rattle.sheet.specs.declared.Counts.{Counts}
use lib.Seq.{length-take-le}
use native.Mathlib.Omega.{arith}
use mathlib.Core.Path.{sym, ap, ◌∙◌}
use Rattle.mender.proofs.mend_held.Goals as goal

-- `mender::mend_held` meets its contract. Assumes nothing.
pub counts_in-c-requires : goal.counts_in-c-requires
counts_in-c-requires c = held_six c.args.s.now c.requires.0

pub slice_bounds-triangles-end : goal.slice_bounds-triangles-end
slice_bounds-triangles-end c = let f = few_held c.args.s.now c.counts_in-c.result c.requires.0 c.counts_in-c.ensures.is in omega (arith, f.1)

pub slice_bounds-mend_lists-end : goal.slice_bounds-mend_lists-end
slice_bounds-mend_lists-end c = let f = few_held c.args.s.now c.counts_in-c.result c.requires.0 c.counts_in-c.ensures.is in sym (length-take-le _ _ (omega (arith, f.1)))

pub slice_bounds-edges-end : goal.slice_bounds-edges-end
slice_bounds-edges-end c = let f = few_held c.args.s.now c.counts_in-c.result c.requires.0 c.counts_in-c.ensures.is in omega (arith, f.2)

pub slice_bounds-mend_lists-end-2 : goal.slice_bounds-mend_lists-end-2
slice_bounds-mend_lists-end-2 c = let f = few_held c.args.s.now c.counts_in-c.result c.requires.0 c.counts_in-c.ensures.is in sym (length-take-le _ _ (omega (arith, f.2)))

pub slice_bounds-boundary-end : goal.slice_bounds-boundary-end
slice_bounds-boundary-end c = let f = few_held c.args.s.now c.counts_in-c.result c.requires.0 c.counts_in-c.ensures.is in omega (arith, f.3)

pub slice_bounds-mend_lists-end-3 : goal.slice_bounds-mend_lists-end-3
slice_bounds-mend_lists-end-3 c = let f = few_held c.args.s.now c.counts_in-c.result c.requires.0 c.counts_in-c.ensures.is in sym (length-take-le _ _ (omega (arith, f.3)))

pub mend_lists-requires : goal.mend_lists-requires
mend_lists-requires c = let f = few_held c.args.s.now c.counts_in-c.result c.requires.0 c.counts_in-c.ensures.is in let i = c.counts_in-c.ensures.is in (record { held = c.requires.0; triangles = length-take-le _ _ (omega (arith, f.1)) ∙ ap (λ (x : Counts). x.triangles) i; edges = length-take-le _ _ (omega (arith, f.2)) ∙ ap (λ (x : Counts). x.edges) i; boundary = length-take-le _ _ (omega (arith, f.3)) ∙ ap (λ (x : Counts). x.boundary) i }, c.requires.1)
