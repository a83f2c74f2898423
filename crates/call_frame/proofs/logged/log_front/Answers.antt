-- `call_frame::logged::log_front` meets its contract: the entries that are handed back are no more than the log has. Assumes nothing.
use Prim.Native.Nat.{ℕ, ◌*◌}
use native.Mathlib.Omega.{arith}
use mathlib.Core.Path.{sym, ap}
use lib.ListN.{take}
use lib.Seq.{length-take-le}
use Rattle.call_frame.proofs.logged.log_front.Goals as goal

pub slice_bounds-result-end : goal.slice_bounds-result-end
slice_bounds-result-end c = sym (length-take-le _ _ (omega (arith, c.least-end.ensures)))

pub returns : goal.returns
returns c = ap (λ (m : ℕ). take (6 * m) c.args.log.now) c.least-end.ensures
