-- `mending::mark_doubles` meets its contract. Assumes nothing.
use Prim.Native.Nat.{ℕ}
use mathlib.Core.Path.{◌≡◌, refl, ◌∙◌, ap}
use native.Mathlib.Omega.{arith}
use lib.ListN.{length, get_or, length-set}
use Rattle.lists.specs.Lists.{tab}
use Rattle.mending.specs.Work.{double_code, earlier_of}
use Rattle.mending.proofs.Marks.{mark_more, mark_done, drop_get, drop_next}
use Rattle.mending.proofs.mark_doubles.Goals as goal

pub loop-i-init : goal.loop-i-init
unfolding tab
loop-i-init c = (omega arith, refl, refl, refl)

pub loop-i-preserved : goal.loop-i-preserved
loop-i-preserved c =
    let a = c.args in
    let l = c.loop-i in
    let same : get_or l.mask l.i 0 ≡ get_or a.mask.now l.i 0 = drop_get l.mask a.mask.now l.i l.invariant.2 in (
      omega arith,
      length-set l.mask l.i c.doubled.result ∙ l.invariant.1,
      drop_next l.mask a.mask.now l.i c.doubled.result l.invariant.2,
      mark_more (λ (k : ℕ). double_code (get_or a.mask.now k 0) (earlier_of a.a.now a.b.now k)) l.mask l.i c.doubled.result (omega arith) (c.doubled.ensures ∙ ap (λ (x : ℕ). double_code x (earlier_of a.a.now a.b.now l.i)) same) l.invariant.3,
    )

pub shape_of-mask : goal.shape_of-mask
shape_of-mask c = c.loop-i.invariant.1

pub returns : goal.returns
returns c =
    let a = c.args in
    let l = c.loop-i in
    mark_done (λ (k : ℕ). double_code (get_or a.mask.now k 0) (earlier_of a.a.now a.b.now k)) l.mask l.i (length a.a.now) (omega arith) (omega arith) l.invariant.3
