-- The refusals 1 to 3 of an input, in their order. Definitions only.
use Rattle.std.specs.Prelude.{ℕ, Bool, List, [], ◌∷◌, ◌==◌}
use Rattle.lists.specs.Lists.{pick}
use Rattle.model.specs.Mesh.{Mesh}
use Rattle.model.specs.Valid.{numbers_fit_of, indices_fit_of}
use Rattle.mesh.specs.Given.{Given, mesh_of, sizes_fit_of}

-- a test, and the number that it refuses with where it is false
pub record Check : Type 0 where
  pub ok : Bool
  pub number : ℕ

-- a test and its number
abbrev pub check : Bool → ℕ → Check
check t n = record { ok = t; number = n }

-- the refusal that is there already, or this one where its test is false
unfoldable pub then_check : ℕ → Bool → ℕ → ℕ
then_check code t n = pick (code == 0) (pick t 0 n) code

-- the number of the first test that fails, or 0
unfoldable pub first_from : ℕ → List Check → ℕ
first_from code [] = code
first_from code (c ∷ l) = first_from (then_check code c.ok c.number) l

-- 1 for sizes, 2 for numbers and flags, 3 for indices and roots, 0 for none of them
unfoldable pub fault_of : Given → ℕ
fault_of G = first_from 0 (check (sizes_fit_of G) 1 ∷ check (numbers_fit_of (mesh_of G)) 2 ∷ check (indices_fit_of (mesh_of G)) 3 ∷ [])

-- the same of a mesh that has its sizes
unfoldable pub fault_in : Mesh → ℕ
fault_in M = first_from 0 (check (numbers_fit_of M) 2 ∷ check (indices_fit_of M) 3 ∷ [])
