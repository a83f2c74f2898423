-- The faults of a mesh come before its arguments, and when these decide. Assumes nothing.
use Prim.Native.Nat.{ℕ}
use mathlib.Core.Path.{◌≡◌, refl, sym, ◌∙◌, ap}
use mathlib.Core.Bool.{Bool, true, false, not, ◌&&◌}
use Rattle.lists.specs.Lists.{pick}
use Rattle.model.specs.Mesh.{Mesh}
use Rattle.model.specs.Valid.{numbers_fit_of, indices_fit_of}
use Rattle.model.specs.Calls.{refusal}
use Rattle.mesh.specs.Given.{Given, mesh_of, sizes_fit_of}
use Rattle.judge.specs.Checks.{then_check, first_from, fault_in, fault_of}
use Rattle.judge.proofs.Joined.{then_stays}
use Rattle.arguments.specs.Beside.{with_numbers_of}

-- ---- the order of the refusals

-- the three tests of a mesh, the numbers beside it, and its arguments
all_in_order :
    (sized numbers indices beside arguments : Bool)
    → then_check (with_numbers_of (then_check (then_check (then_check 0 sized 1) numbers 2) indices 3) beside) arguments 4
    ≡ pick (not sized) 1 (pick (not (numbers && beside)) 2 (pick (not indices) 3 (pick (not arguments) 4 0)))
unfolding then_check
all_in_order false numbers indices false arguments = refl
all_in_order false numbers indices true arguments = refl
all_in_order true false indices false arguments = refl
all_in_order true false indices true arguments = refl
all_in_order true true false false arguments = refl
all_in_order true true false true arguments = refl
all_in_order true true true false arguments = refl
all_in_order true true true true false = refl
all_in_order true true true true true = refl

-- what stands beside a mesh refuses in its place among the faults of the mesh
pub beside_refuses : (G : Given) (beside t : Bool) → then_check (with_numbers_of (fault_of G) beside) t 4 ≡ refusal (sizes_fit_of G) (mesh_of G) beside t
unfolding fault_of first_from refusal
beside_refuses G beside t = all_in_order (sizes_fit_of G) (numbers_fit_of (mesh_of G)) (indices_fit_of (mesh_of G)) beside t

-- the same of a mesh that has its sizes
pub sized_refuses : (M : Mesh) (beside t : Bool) → then_check (with_numbers_of (fault_in M) beside) t 4 ≡ refusal true M beside t
unfolding fault_in first_from refusal then_check
sized_refuses M beside t = all_in_order true (numbers_fit_of M) (indices_fit_of M) beside t

-- without numbers beside it: a bad argument refuses behind the faults
pub arguments_refuse : (G : Given) (t : Bool) → then_check (fault_of G) t 4 ≡ refusal (sizes_fit_of G) (mesh_of G) true t
arguments_refuse G t = beside_refuses G true t

-- ---- arguments of a mesh without a fault

-- they alone decide
pub decided : (G : Given) (t : Bool) → fault_of G ≡ 0 → refusal (sizes_fit_of G) (mesh_of G) true t ≡ pick t 0 4
unfolding then_check
decided G t z = sym (arguments_refuse G t) ∙ ap (λ (c : ℕ). then_check c t 4) z

-- where there is a fault, they are not asked
pub undecided : (G : Given) (code : ℕ) (t : Bool) → code ≡ fault_of G → (code ≡ 0 → ⊥) → code ≡ refusal (sizes_fit_of G) (mesh_of G) true t
undecided G code t e h = then_stays code t 4 h ∙ ap (λ (c : ℕ). then_check c t 4) e ∙ arguments_refuse G t

-- the tests in their order: the fault of a mesh that has its sizes, the numbers beside it, and where these refuse nothing the arguments
module _ (M : Mesh) (code fault : ℕ) (numbers beside : Bool) (first : code ≡ with_numbers_of fault numbers) (told : fault ≡ fault_in M) (same : numbers ≡ beside) where
  -- the fault of both
  code_is : code ≡ with_numbers_of (fault_in M) beside
  code_is = first ∙ ap (λ (n : ℕ). with_numbers_of n numbers) told ∙ ap (with_numbers_of (fault_in M)) same

  -- where there is one, the arguments are not asked
  pub beside_stays : (t : Bool) → (code ≡ 0 → ⊥) → code ≡ refusal true M beside t
  beside_stays t h = then_stays code t 4 h ∙ ap (λ (n : ℕ). then_check n t 4) code_is ∙ sized_refuses M beside t

  -- where there is none, they decide
  pub beside_judged : (r : ℕ) (t u : Bool) → r ≡ then_check code t 4 → t ≡ u → r ≡ refusal true M beside u
  beside_judged r t u e q = e ∙ ap (λ (n : ℕ). then_check n t 4) code_is ∙ sized_refuses M beside t ∙ ap (refusal true M beside) q
