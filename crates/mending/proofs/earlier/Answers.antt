-- `mending::earlier` meets its contract. Assumes nothing.
use Prim.Native.Nat.{ℕ}
use mathlib.Core.Path.{◌≡◌, sym, ◌∙◌, ap}
use native.Mathlib.Omega.{arith}
use lib.ListN.{get_or}
use Rattle.lists.specs.Lists.{any, up_to}
use Rattle.mending.specs.Work.{same_ends_of, earlier_of}
use Rattle.mending.proofs.Marks.{search_start, search_more, search_found}
use Rattle.mending.proofs.earlier.Goals as goal

pub loop-j-init : goal.loop-j-init
loop-j-init c = (omega arith, search_start _)

pub returns-then-same_ends : goal.returns-then-same_ends
unfolding earlier_of
returns-then-same_ends c =
    let a = c.args in
    let l = c.loop-j in
    sym (search_found (λ (i : ℕ). same_ends_of (get_or a.a.now a.k 0) (get_or a.b.now a.k 0) (get_or a.a.now i 0) (get_or a.b.now i 0)) l.j a.k (omega arith) (sym c.same_ends.ensures ∙ c.if-same_ends.true))

pub loop-j-preserved : goal.loop-j-preserved
loop-j-preserved c =
    let a = c.args in
    let l = c.loop-j in
    (omega arith, search_more (λ (i : ℕ). same_ends_of (get_or a.a.now a.k 0) (get_or a.b.now a.k 0) (get_or a.a.now i 0) (get_or a.b.now i 0)) l.j l.invariant.1 (sym c.same_ends.ensures ∙ c.if-same_ends.false))

pub returns : goal.returns
unfolding earlier_of
returns c =
    let a = c.args in
    let l = c.loop-j in
    let e : l.j ≡ a.k = omega arith in
    sym (ap (λ (m : ℕ). any (λ (i : ℕ). same_ends_of (get_or a.a.now a.k 0) (get_or a.b.now a.k 0) (get_or a.a.now i 0) (get_or a.b.now i 0)) (up_to m)) (sym e) ∙ l.invariant.1)
