-- `pieces::sides::count_tops` meets its contract. The invariant: the tops below i are counted. Assumes nothing.
use borrow.Author.Rules.{rules}
use native.Mathlib.Omega.{arith}
use mathlib.Core.Path.{◌≡◌, sym, ◌∙◌, ap}
use mathlib.Core.Logic.{⊎_elim}
use Prim.Native.Nat.{ℕ, ◌≤◌, ◌-◌}
use lib.ListN.{length}
use Rattle.pieces.proofs.Tops.{tops_below, tops_start, tops_yes, tops_no, tops_all}
use Rattle.pieces.proofs.sides.count_tops.Goals as goal
use Rattle.pieces.proofs.sides.count_tops.Goals.{else-labels-i, then-labels-i}

pub loop-i-init : goal.loop-i-init
loop-i-init c = (search rules, search rules, sym (tops_start c.args.labels.now))

pub loop-i-preserved : goal.loop-i-preserved
loop-i-preserved c =
    let A = c.args in
    let L = c.loop-i in
    elim c.if-labels-i.branch [
      | then-labels-i w ↦ let s = tops_yes A.labels.now L.i w.if-labels-i.true in omega (arith, w.count-is)
      | else-labels-i w ↦ let s = tops_no A.labels.now L.i w.if-labels-i.false in omega (arith, w.count-is)
    ]

pub returns : goal.returns
returns c =
    let A = c.args in
    let L = c.loop-i in
    let e : L.i ≡ length A.labels.now = omega arith in
    L.invariant.2 ∙ ap (λ (m : ℕ). tops_below A.labels.now m) e ∙ tops_all A.labels.now
