-- `columns::shift` meets its contract: it moves a place a turn. The laws are in proofs/Blocks.antt.
use Prim.Native.Nat.{◌+◌}
use native.Mathlib.Omega.{arith}
use mathlib.Core.Path.{◌≡◌, refl}
use lib.ListN.{get_or, length}
use Rattle.std.proofs.lemmas.List.{get_or_read_under}
use Rattle.columns.proofs.Blocks.{shift_start, shift_more, shift_done}
use Rattle.columns.proofs.shift.Goals as goal

pub loop-i-init : goal.loop-i-init
loop-i-init g c = λ d. shift_start d _ _ _

pub loop-i-preserved : goal.loop-i-preserved
loop-i-preserved g c = λ d.
    let e : c.index-s-from.result ≡ get_or c.loop-i.s (c.args.from + c.loop-i.i) d = get_or_read_under c.loop-i.s (c.args.from + c.loop-i.i) (length c.loop-i.s) c.index-s-from.result d c.index-s-from.is (omega arith) refl in
    rw e (shift_more d _ _ _ _ _ (c.loop-i.invariant d) c.requires.0 (omega arith))

pub returns : goal.returns
returns g c = λ d. shift_done d _ _ _ _ _ _ (c.loop-i.invariant d) (omega arith)
