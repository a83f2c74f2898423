-- `float::order::total_cmp` meets its contract: the library's order is this one. Assumes nothing.
use mathlib.Core.Path.{sym, ap, ◌∙◌}
use Rattle.std.specs.Prelude.{Some}
use Rattle.float.proofs.Signs.{nan_test, not_a_nan}
use Rattle.float.proofs.OrderLaws.{library_order}
use Rattle.float.proofs.order.total_cmp.Goals as goal
use Rattle.float.proofs.order.total_cmp.Goals.{then-a-via-else-a+then-b, then-a-via-then-a}

pub returns-then-a : goal.returns-then-a
returns-then-a c =
    let a = c.args.a in
    let b = c.args.b in
    elim c.then-a.branch [
      | then-a-via-then-a w ↦ simp (sym (nan_test a) ∙ w.if-a.true)
      | then-a-via-else-a+then-b w ↦ simp (sym (nan_test a) ∙ w.if-a.false, sym (nan_test b) ∙ w.if-b.true)
    ]

pub total_cmp-requires-clause-self_not_nan : goal.total_cmp-requires-clause-self_not_nan
total_cmp-requires-clause-self_not_nan c = not_a_nan c.args.a c.if-a.false

pub total_cmp-requires-clause-other_not_nan : goal.total_cmp-requires-clause-other_not_nan
total_cmp-requires-clause-other_not_nan c = not_a_nan c.args.b c.if-b.false

pub returns : goal.returns
returns c =
    ap Some c.total_cmp.ensures
    ∙ library_order c.args.a c.args.b (sym (nan_test c.args.a) ∙ c.if-a.false) (sym (nan_test c.args.b) ∙ c.if-b.false)
