-- `mesh_calls::fans::strap_holds` meets its contract: the flag, and one end after the other. Assumes nothing.
use native.Mathlib.Omega.{arith}
use mathlib.Core.Path.{refl}
use mathlib.Core.List.{[], ◌∷◌}
use Rattle.mesh_calls.proofs.Fanned.{first_held, next_held, no_strap, strap_held}
use Rattle.mesh_calls.proofs.fans.strap_holds.Goals as goal

-- `mesh_calls::fans::strap_holds` meets its contract: the flag, and one end after the other. Assumes nothing.
pub returns-then-structural-ne1 : goal.returns-then-structural-ne1
returns-then-structural-ne1 c = (no_strap _ _ c.if-structural-ne1.true, omega arith)

pub returns-then-a-v : goal.returns-then-a-v
returns-then-a-v c = (strap_held _ _ _ c.if-structural-ne1.false (first_held _ _ (c.args.b ∷ []) c.if-a-v.true), omega arith)

pub returns-then-b-v : goal.returns-then-b-v
returns-then-b-v c = (strap_held _ _ _ c.if-structural-ne1.false (next_held _ _ (c.args.b ∷ []) _ c.if-a-v.false (first_held _ _ [] c.if-b-v.true)), omega arith)

pub returns : goal.returns
returns c = (strap_held _ _ _ c.if-structural-ne1.false (next_held _ _ (c.args.b ∷ []) _ c.if-a-v.false (next_held _ _ ([]) _ c.if-b-v.false refl)), omega arith)
