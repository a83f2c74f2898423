-- `split_plan::row_has` meets its contract. The part that is lent is the row. Assumes nothing.
use mathlib.Core.Path.{◌≡◌, ◌∙◌, ap}
use Prim.Native.Nat.{ℕ, ◌+◌, ◌*◌, ◌-◌}
use native.Mathlib.Omega.{arith}
use lib.ListN.{take, drop}
use Rattle.lists.specs.Lists.{stands}
use Rattle.split_plan.proofs.row_has.Goals as goal

pub returns : goal.returns
returns c = let A = c.args in
    let e : A.i * A.k + A.k - A.i * A.k ≡ A.k = omega arith in
    c.stands_in.ensures ∙ ap (λ (m : ℕ). stands A.x (take m (drop (A.i * A.k) A.verts.now))) e
