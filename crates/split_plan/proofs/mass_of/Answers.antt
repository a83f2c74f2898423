-- `split_plan::mass_of` meets its contract. By the test of the total; a count of at most 2048 is an f32 exactly. Assumes nothing.
use mathlib.Core.Bool.{Bool}
use mathlib.Core.Path.{sym, ap, subst}
use native.Mathlib.Omega.{arith}
use borrow.Author.Tests.{le-leb}
use lib.Ieee.{in_float, of_bits}
use lib.Dec.{T}
use Rattle.float.specs.Numbers.{over, share_of, count32}
use Rattle.lists.specs.Lists.{pick}
use Rattle.split_plan.specs.Opened.{mass_by}
use Rattle.split_plan.proofs.mass_of.Goals as goal

-- `split_plan::mass_of` meets its contract. By the test of the total; a count of at most 2048 is an f32 exactly. Assumes nothing.
pub returns-then-total : goal.returns-then-total
unfolding of_bits mass_by
returns-then-total c = let A = c.args in
    sym (ap (λ (t : Bool). pick t (share_of A.m A.w A.total) (over A.m (count32 A.count))) c.if-total.true)

pub int_to_float-result : goal.int_to_float-result
unfolding in_float
int_to_float-result c = subst T (sym (le-leb c.args.count 16777216 (omega (arith, c.requires)))) tt

pub returns : goal.returns
unfolding of_bits mass_by
returns c = let A = c.args in
    sym (ap (λ (t : Bool). pick t (share_of A.m A.w A.total) (over A.m (count32 A.count))) c.if-total.false)
