-- `feeding::grow` meets its contract. Assumes nothing.
use native.Mathlib.Omega.{arith}
use mathlib.Core.Path.{sym}
use lib.Seq.{length-take-le}
use Rattle.feeding.proofs.Steps.{run_long, grow_from}
use Rattle.feeding.proofs.grow.Goals as goal

pub slice_bounds-copy_bytes-end : goal.slice_bounds-copy_bytes-end
slice_bounds-copy_bytes-end c = sym (length-take-le _ _ (omega (arith, c.least-n.ensures)))

pub copy_bytes-requires : goal.copy_bytes-requires
copy_bytes-requires c = run_long _ _ _ _ c.held-k.ensures.few c.least-n.ensures c.requires

pub returns : goal.returns
returns c = grow_from _ _ _ _ _ _ c.requires c.held-k.ensures.is c.least-n.ensures c.copy_bytes.ensures c.put_word.ensures
