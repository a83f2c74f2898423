-- The refusals asked one behind the other are those of the definitions: the first check that fails.
use Rattle.std.proofs.Common.{◌≡◌, Bool, true, false, not, ◌&&◌, sym, refl, ◌∙◌}
use borrow.Author.Tests.{not-true, not-false}
use Rattle.lists.specs.Lists.{pick}
use Rattle.model.specs.Mesh.{Mesh}
use Rattle.model.specs.Valid.{numbers_fit_of, indices_fit_of}
use Rattle.model.specs.Calls.{refusal}
use Rattle.mesh.specs.Given.{Given, mesh_of, sizes_fit_of}
use Rattle.judge.specs.Checks.{then_check, first_from, fault_in, fault_of}

-- the five tests of a call in their order, whatever they answer
in_order :
    (sized numbers beside indices arguments : Bool)
    → then_check (then_check (then_check (then_check (then_check 0 sized 1) numbers 2) beside 2) indices 3) arguments 4
    ≡ pick (not sized) 1 (pick (not (numbers && beside)) 2 (pick (not indices) 3 (pick (not arguments) 4 0)))
unfolding then_check
in_order false numbers beside indices arguments = refl
in_order true false beside indices arguments = refl
in_order true true false indices arguments = refl
in_order true true true false arguments = refl
in_order true true true true false = refl
in_order true true true true true = refl

-- sizes, the numbers of the mesh, the numbers beside it, indices, arguments: a call's refusal
pub refused_in_order :
    (sized : Bool) (M : Mesh) (beside arguments : Bool)
    → then_check (then_check (then_check (then_check (then_check 0 sized 1) (numbers_fit_of M) 2) beside 2) (indices_fit_of M) 3) arguments 4 ≡ refusal sized M beside arguments
unfolding refusal
refused_in_order sized M beside arguments = in_order sized (numbers_fit_of M) beside (indices_fit_of M) arguments

-- the three tests of an input in their order
three_in_order :
    (sized numbers indices : Bool)
    → then_check (then_check (then_check 0 sized 1) numbers 2) indices 3 ≡ pick (not sized) 1 (pick (not (numbers && true)) 2 (pick (not indices) 3 (pick (not true) 4 0)))
unfolding then_check
three_in_order false numbers indices = refl
three_in_order true false indices = refl
three_in_order true true false = refl
three_in_order true true true = refl

-- with nothing beside the mesh and no argument, a call's refusal is the fault of its input
pub fault_refuses : (G : Given) → fault_of G ≡ refusal (sizes_fit_of G) (mesh_of G) true true
unfolding fault_of first_from refusal
fault_refuses G = three_in_order (sizes_fit_of G) (numbers_fit_of (mesh_of G)) (indices_fit_of (mesh_of G))

-- sizes that fit leave the other two refusals
pub fault_sized : (G : Given) (t : Bool) → t ≡ sizes_fit_of G → not t ≡ false → fault_in (mesh_of G) ≡ fault_of G
unfolding fault_in fault_of first_from then_check
fault_sized G t e h = rw (sym e ∙ not-false t h) refl

-- others are refused first
pub fault_unsized : (G : Given) (t : Bool) → t ≡ sizes_fit_of G → not t ≡ true → 1 ≡ fault_of G
unfolding fault_of first_from then_check
fault_unsized G t e h = rw (sym e ∙ not-true t h) refl
