-- `tear::families::family_pair` meets its contract: two families, and their first pair. Assumes nothing.
use mathlib.Core.Path.{sym}
use lib.Seq.{length-take-le}
use native.Mathlib.Omega.{arith}
use Rattle.tear.proofs.FamilyLaws.{families_met}
use borrow.Author.Rules.{rules}
use Rattle.tear.proofs.families.family_pair.Goals as goal

pub slice_bounds-first_pair-end : goal.slice_bounds-first_pair-end
slice_bounds-first_pair-end c = sym (length-take-le _ _ (omega (arith, c.family-p.ensures.few, c.family-p.auto, c.requires.few)))

pub slice_bounds-first_pair-end-2 : goal.slice_bounds-first_pair-end-2
slice_bounds-first_pair-end-2 c = sym (length-take-le _ _ (omega (arith, c.family-q.ensures.few, c.family-q.auto, c.requires.few)))

pub returns : goal.returns
returns c = families_met _ _ _ _ _ _ _ _ _ _ _ _ _ c.family-p.ensures c.family-q.ensures _ _ c.first_pair.ensures
