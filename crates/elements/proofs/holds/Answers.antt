-- `elements::holds` meets its contract: the row is lent. Assumes nothing.
use Prim.Native.Nat.{◌*◌}
use mathlib.Core.Path.{◌∙◌}
use Rattle.elements.proofs.Held.{row_lent}
use Rattle.elements.proofs.holds.Goals as goal

pub returns : goal.returns
returns c = let A = c.args in
    c.stands_in.ensures ∙ row_lent A.v A.k (A.i * A.k) A.verts.now
