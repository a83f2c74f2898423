-- Numbers beside a mesh, among the refusals of the mesh. Only contracts between workers need this file. Definitions only.
use Rattle.std.specs.Prelude.{ℕ, Bool, eqb}
use Rattle.lists.specs.Lists.{pick}

-- the fault of a mesh (1, 2, 3 or 0) and of the numbers beside it: bad ones are 2, behind 1 and before 3
abbrev pub with_numbers_of : ℕ → Bool → ℕ
with_numbers_of fault numbers = pick numbers fault (pick (eqb fault 1) 1 2)
