-- `split_plan::next_group` meets its contract. The invariant: best is the least group so far from `from` on that holds x, else count. Assumes nothing.
use mathlib.Core.Bool.{false≢true}
use mathlib.Core.Path.{◌≡◌, refl, sym, ◌∙◌, subst}
use Prim.Native.Nat.{ℕ, ◌+◌}
use native.Mathlib.Omega.{arith}
use borrow.Author.Rules.{rules}
use Rattle.split_plan.proofs.Rings.{Least, least_start, least_take, least_keep, least_within, least_onward, least_count, row_fits}
use Rattle.split_plan.proofs.next_group.Goals as goal
use Rattle.split_plan.proofs.next_group.Goals.{else-from-g, then-from-g+else-g-best, then-from-g+then-g-best+else-row_has, then-from-g+then-g-best+then-row_has}

pub loop-i-init : goal.loop-i-init
loop-i-init c = (search rules, least_start _ _ _ _ _ _)

pub row_has-requires : goal.row_has-requires
row_has-requires c = row_fits c.requires c.loop-i.i (search rules)

pub loop-i-preserved : goal.loop-i-preserved
loop-i-preserved c = let A = c.args in
    let L = c.loop-i in
    let P = L.invariant.1 in
    let here : ℕ → Type 0 = λ b. Least A.x A.from A.count A.k A.verts.now A.groups.now (L.i + 1) b in (
      search rules,
      elim c.if-from-g.branch [
        | then-from-g+then-g-best+then-row_has w ↦ subst here (sym w.best-is) (least_take P _ refl (omega (arith, w.if-from-g.true)) w.if-g-best.true (least_within P) (sym w.row_has.ensures ∙ w.if-row_has.true))
        | then-from-g+then-g-best+else-row_has w ↦ subst here (sym w.best-is) (least_keep P (λ a b. absurd (false≢true (sym w.if-row_has.false ∙ w.row_has.ensures ∙ b))))
        | then-from-g+else-g-best w ↦ subst here (sym w.best-is) (least_keep P (λ a b. w.if-g-best.false))
        | else-from-g w ↦ subst here (sym w.best-is) (least_keep P (λ a b. omega arith))
      ],
    )

pub returns : goal.returns
returns c = let L = c.loop-i in
    let A = c.args in
    let e : L.i ≡ A.n = omega arith in
    let P = subst (λ (m : ℕ). Least A.x A.from A.count A.k A.verts.now A.groups.now m L.best) e L.invariant.1 in
    record { is = λ O R q. least_count O R q P; within = least_within P; onward = least_onward P }
