-- `fan_groups::groups_by_side` meets its contract. The invariant: the places passed have their numbers. Assumes nothing.
use borrow.Author.Rules.{rules}
use native.Mathlib.Omega.{arith}
use native.Mathlib.Nat.{mul-le-mul, le_of_lt}
use mathlib.Core.Path.{sym, ◌∙◌, ap}
use mathlib.Core.Logic.{⊎_elim}
use Prim.Native.Nat.{ℕ, ◌*◌, ◌≤◌}
use lib.ListN.{get_or, length-set}
use Rattle.lists.proofs.Stores.{stored, at_eq}
use Rattle.fan_groups.proofs.BySides.{groups_on_low}
use Rattle.fan_groups.proofs.groups_by_side.Goals as goal

pub overflow_mul-groups : goal.overflow_mul-groups
overflow_mul-groups c =
    let L = c.loop-i in
    let A = c.args in
    let r = c.groups_on-low.result in
    let t = c.requires.1 L.i (search rules) in
    let e = c.groups_on-low.ensures in
    let o : r ≤ 1 = omega (arith, groups_on_low 0 A.sides.now) in
    let w : get_or A.sides.now L.i 0 * r ≤ 2 * 1 = mul-le-mul (le_of_lt t) o in
    record { fits = omega arith }

pub loop-i-preserved : goal.loop-i-preserved
loop-i-preserved c =
    let L = c.loop-i in
    let A = c.args in
    let x = get_or A.sides.now L.i 0 * c.groups_on-low.result in (
      omega arith,
      length-set L.groups L.i x ∙ L.invariant.1,
      λ a l.
          ⊎_elim
          (λ y. y.1 ∙ ap (λ (s : ℕ). s * c.groups_on-low.result) (at_eq A.sides.now (sym y.0)))
          (λ y. y.1 ∙ L.invariant.2 a (omega arith))
          (stored L.groups L.i x a (search rules)),
    )

pub overflow_add-result : goal.overflow_add-result
overflow_add-result c =
    let A = c.args in
    let e = c.groups_on-low.ensures in
    let f = c.groups_on.ensures in
    let o = groups_on_low 0 A.sides.now in
    let p = groups_on_low 1 A.sides.now in
    omega arith

pub returns : goal.returns
returns c =
    let L = c.loop-i in
    let A = c.args in
    let e = c.groups_on-low.ensures in
    let f = c.groups_on.ensures in
    record {
      long = L.invariant.1;
      each = λ a l. L.invariant.2 a (omega arith) ∙ ap (λ (m : ℕ). get_or A.sides.now a 0 * m) e;
      count = omega arith;
    }
