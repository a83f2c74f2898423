-- `crack::body::keep_ends` meets its contract: it narrows two columns. Assumes nothing.
use Prim.Native.Nat.{◌+◌, ◌-◌, ◌/◌}
use mathlib.Core.Path.{sym}
use lib.ListN.{length}
use native.Mathlib.Omega.{arith}
use lib.Seq.{length-take-le}
use Rattle.crack.proofs.BodyLaws.{first_narrow, second_narrow, columns_kept}
use Rattle.crack.proofs.body.keep_ends.Goals as goal

pub slice_bounds-narrow-end : goal.slice_bounds-narrow-end
slice_bounds-narrow-end c = sym (length-take-le _ _ (omega (arith, c.requires.inside)))

pub narrow-requires : goal.narrow-requires
narrow-requires c = let A = c.args in first_narrow A.e A.ends.now _ _ c.requires

pub narrow-requires-2 : goal.narrow-requires-2
narrow-requires-2 c = let A = c.args in second_narrow A.e A.ends.now _ _ c.requires

pub returns : goal.returns
returns c = let A = c.args in
    columns_kept A.e (length A.ends.now / 4 + A.e - length A.ends.now / 4) A.ends.now _ _ c.requires.inside (omega arith) c.narrow.ensures c.narrow-2.ensures
