-- `fan::shared_others` meets its contract. The invariant: the count so far and what the rest shares make the whole. Assumes nothing.
use borrow.Author.Rules.{rules}
use native.Mathlib.Omega.{arith}
use mathlib.Core.Path.{sym, ◌∙◌}
use Prim.Native.Nat.{◌<◌}
use lib.ListN.{length}
use Rattle.fan.proofs.Shared.{shared_self, shared_in, shared_out, shared_end}
use Rattle.fan.proofs.shared_others.Goals as goal
use Rattle.fan.proofs.shared_others.Goals.{else-x-v, then-x-v+else-stands_in, then-x-v+then-stands_in}

pub loop-x-init : goal.loop-x-init
loop-x-init c =
    (search rules, search rules, omega arith)

pub loop-x-preserved : goal.loop-x-preserved
loop-x-preserved c =
    let A = c.args in
    let L = c.loop-x in
    let a = A.a.now in
    let b = A.b.now in
    let l : L.x-index < length a = search rules in
    elim c.if-x-v.branch [
      | then-x-v+then-stands_in w ↦ let s = shared_in A.v a b L.x-index l w.if-x-v.true (sym w.stands_in.ensures ∙ w.if-stands_in.true) in omega (arith, w.count-is)
      | then-x-v+else-stands_in w ↦ let s = shared_out A.v a b L.x-index l w.if-x-v.true (sym w.stands_in.ensures ∙ w.if-stands_in.false) in omega (arith, w.count-is)
      | else-x-v w ↦ let s = shared_self A.v a b L.x-index l w.if-x-v.false in omega (arith, w.count-is)
    ]

pub returns : goal.returns
returns c =
    let A = c.args in
    let L = c.loop-x in
    let e = shared_end A.v A.a.now A.b.now L.x-index (search rules) in
    omega arith
