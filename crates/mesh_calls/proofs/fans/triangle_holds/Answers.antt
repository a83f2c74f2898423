-- `mesh_calls::fans::triangle_holds` meets its contract: one corner after the other. Assumes nothing.
use native.Mathlib.Omega.{arith}
use mathlib.Core.Path.{refl}
use mathlib.Core.List.{[], ◌∷◌}
use Rattle.mesh_calls.proofs.Fanned.{first_held, next_held}
use Rattle.mesh_calls.proofs.fans.triangle_holds.Goals as goal

-- `mesh_calls::fans::triangle_holds` meets its contract: one corner after the other. Assumes nothing.
pub returns-then-a-v : goal.returns-then-a-v
returns-then-a-v c = (first_held _ _ (c.args.b ∷ c.args.c ∷ []) c.if-a-v.true, omega arith)

pub returns-then-b-v : goal.returns-then-b-v
returns-then-b-v c = ((next_held _ _ (c.args.b ∷ c.args.c ∷ []) _ c.if-a-v.false (first_held _ _ (c.args.c ∷ []) c.if-b-v.true)), omega arith)

pub returns-then-c-v : goal.returns-then-c-v
returns-then-c-v c = ((next_held _ _ (c.args.b ∷ c.args.c ∷ []) _ c.if-a-v.false (next_held _ _ (c.args.c ∷ []) _ c.if-b-v.false (first_held _ _ [] c.if-c-v.true))), omega arith)

pub returns : goal.returns
returns c = ((next_held _ _ (c.args.b ∷ c.args.c ∷ []) _ c.if-a-v.false (next_held _ _ (c.args.c ∷ []) _ c.if-b-v.false (next_held _ _ ([]) _ c.if-c-v.false refl))), omega arith)
