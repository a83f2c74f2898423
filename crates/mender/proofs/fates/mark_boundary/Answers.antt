-- `mender::fates::mark_boundary` meets its contract. Assumes nothing.
use Rattle.mender.proofs.Whole.{boundary_marked, front}
use Rattle.bits.proofs.RowLaws.{length_column}
use lib.Seq.{length-take-le}
use lib.ListN.{length}
use native.Mathlib.Omega.{arith}
use mathlib.Core.Path.{sym, ◌∙◌}
use Rattle.mender.proofs.fates.mark_boundary.Goals as goal

pub slice_bounds-mark_doubles-end-2 : goal.slice_bounds-mark_doubles-end-2
slice_bounds-mark_doubles-end-2 c = sym (length-take-le _ _ (omega (arith, c.requires.1, c.read_column.auto.out)))

pub slice_bounds-mark_doubles-end-4 : goal.slice_bounds-mark_doubles-end-4
slice_bounds-mark_doubles-end-4 c = sym (length-take-le _ _ (omega (arith, c.requires.2, c.read_column-2.auto.out)))

pub mark_doubles-requires : goal.mark_doubles-requires
mark_doubles-requires c = record { second = length-take-le (length c.args.mask.now) _ (omega (arith, c.requires.2, c.read_column-2.auto.out)) ∙ sym (length-take-le (length c.args.mask.now) _ (omega (arith, c.requires.1, c.read_column.auto.out))); mask = c.mark_list.auto.mask ∙ sym (length-take-le (length c.args.mask.now) _ (omega (arith, c.requires.1, c.read_column.auto.out))) }

pub returns : goal.returns
returns c = let a = c.args in c.mark_doubles.ensures ∙ boundary_marked a.s.now _ _ _ a.at a.p (length a.mask.now) (front _ _ _ _ c.read_column.ensures (length_column _ _ _ _ _)) (front _ _ _ _ c.read_column-2.ensures (length_column _ _ _ _ _)) c.mark_list.ensures
