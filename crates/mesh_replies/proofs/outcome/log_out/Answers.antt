-- `mesh_replies::outcome::log_out` meets its contract: the words of the entries behind nothing. Assumes nothing.
use Prim.Native.Nat.{◌*◌}
use native.Mathlib.Omega.{arith}
use mathlib.Core.Path.{sym}
use lib.Seq.{length-take-le}
use Rattle.mesh_replies.proofs.Tellings.{log_written}
use Rattle.mesh_replies.proofs.outcome.log_out.Goals as goal

pub slice_bounds-store_log-end : goal.slice_bounds-store_log-end
slice_bounds-store_log-end c = sym (length-take-le _ _ c.requires.0)

pub store_log-requires : goal.store_log-requires
store_log-requires c = omega (arith, c.requires.1, c.clear_bytes.auto.out, length-take-le (6 * c.args.n) c.args.words.now c.requires.0)

pub returns : goal.returns
returns c = log_written _ _ _ _ (omega (arith, c.requires.1, length-take-le (6 * c.args.n) c.args.words.now c.requires.0)) c.clear_bytes.ensures c.store_log.ensures
