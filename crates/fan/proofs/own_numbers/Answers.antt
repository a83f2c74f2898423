-- `fan::own_numbers` meets its contract. Assumes nothing.
use borrow.Author.Rules.{rules}
use native.Mathlib.Omega.{arith}
use mathlib.Core.Path.{sym, ◌∙◌, refl}
use mathlib.Core.Logic.{⊎_elim}
use native.Mathlib.Nat.{not-suc-le-zero}
use lib.ListN.{length-set}
use Rattle.lists.proofs.Stores.{stored}
use Rattle.fan.proofs.own_numbers.Goals as goal

pub loop-i-init : goal.loop-i-init
loop-i-init c =
    (search rules, refl, λ a l. absurd (not-suc-le-zero l))

pub loop-i-preserved : goal.loop-i-preserved
loop-i-preserved c =
    let L = c.loop-i in (
      simp length-set (omega arith),
      length-set L.table L.i L.i ∙ L.invariant.1,
      λ a l. ⊎_elim (λ y. y.1 ∙ sym y.0) (λ y. y.1 ∙ L.invariant.2 a (omega arith)) (stored L.table L.i L.i a (search rules)),
    )

pub returns : goal.returns
returns c =
    λ a l. c.loop-i.invariant.2 a (omega arith)
