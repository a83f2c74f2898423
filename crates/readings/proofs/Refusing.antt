-- Refusals: a check's number is the answer where it isn't 0, and the value is where it is.
use Prim.Native.Nat.{ℕ, zero, suc, ◌/◌}
use lib.Dec.{ltb}
use lib.ListN.{length}
use native.Mathlib.Omega.{arith}
use mathlib.Core.Path.{◌≡◌, refl, sym, ◌∙◌, ap}
use mathlib.Core.Bool.{Bool, true, false, ◌&&◌}
use mathlib.Core.List.{List}
use lib.Ieee.{Float}
use Rattle.lists.specs.Lists.{pick, all}
use Rattle.blade.specs.declared.Point.{Point}
use Rattle.blade.specs.declared.Hit.{Hit}
use Rattle.blade.specs.Blade.{blade_hit_of}
use Rattle.model.specs.Elements.{rest_measure, the_rest_measure_of}
use Rattle.model.specs.Pieces.{pieces}
use Rattle.model.specs.Cut.{Line}
use Rattle.model.specs.Calls.{point_ok, blade_ok, refusal, strictly, particles_ok}
use Rattle.model.specs.Reads.{refused, value, or_refused, blade_call, pieces_call, rest_measure_call, rest_measure_of_call}
use Rattle.mesh.specs.Given.{Given, mesh_of, sizes_fit_of}
use Rattle.mesh.specs.Widths.{point_columns}
use Rattle.judge.specs.Checks.{then_check, fault_of}
use Rattle.judge.proofs.Joined.{then_zero}
use Rattle.judge.proofs.Refusals.{fault_refuses}
use Rattle.mesh_tables.specs.Accepted.{Accepted}
use Rattle.mesh_tables.proofs.Accepted.{particles_count}
use Rattle.arguments.proofs.Judged.{arguments_refuse}
use Rattle.mesh_tables.proofs.Checked.{accepted}
use Rattle.std.specs.Prelude.{Result}
use Rattle.std.specs.Result.{IsErrAnd}
use Rattle.std.proofs.lemmas.Result.{err_from_is_err_and}
use Rattle.mesh.specs.Refused.{number_of, answer_in}
use Rattle.mesh.specs.declared.refusals.Refusal.{Refusal}

-- a number that isn't 0 refuses
pub refuse_by : {A : Type 0} (code m : ℕ) (a : A) → code ≡ m → (code ≡ 0 → ⊥) → or_refused m a ≡ refused code
refuse_by zero m a e h = absurd (h refl)
refuse_by (suc n) m a e h = rw (sym e) refl

-- where it is 0, the value is the answer
pub value_by : {A : Type 0} (code m : ℕ) (a b : A) → code ≡ m → code ≡ 0 → b ≡ a → or_refused m a ≡ value b
value_by code m a b e z q = rw (sym e ∙ z, q) refl

-- the exit of a `?` answers with the refusal that it hands on
pub answer_handed : {A : Type 0} (r : Result A Refusal) (e : Refusal) → IsErrAnd r (λ d. d ≡ e) → answer_in r ≡ refused (number_of e)
answer_handed r e h = let p = err_from_is_err_and r h in rw (p.1) (ap (λ (d : Refusal). refused (number_of d)) p.2)

-- ---- the blade test

module _ (B : Line) (p q : Point) (z : Bool) (e : z ≡ (blade_ok B && point_ok p && point_ok q)) where
  pub blade_refuses : z ≡ false → refused 2 ≡ blade_call B p q
  unfolding blade_call
  blade_refuses f = ap (λ (t : Bool). or_refused (pick t 0 2) (blade_hit_of B.from B.to p q)) (sym f ∙ e)

  pub blade_answers : (r : Hit) → z ≡ true → r ≡ blade_hit_of B.from B.to p q → value r ≡ blade_call B p q
  unfolding blade_call
  blade_answers r f g = ap value g ∙ ap (λ (t : Bool). or_refused (pick t 0 2) (blade_hit_of B.from B.to p q)) (sym f ∙ e)

-- ---- a mesh, with arguments beside it

module _ (G : Given) (code : ℕ) where
  pub pieces_refuses : code ≡ fault_of G → (code ≡ 0 → ⊥) → refused code ≡ pieces_call (sizes_fit_of G) (mesh_of G)
  unfolding pieces_call
  pieces_refuses e h = sym (refuse_by code _ (pieces (mesh_of G)) (e ∙ fault_refuses G) h)

  pub pieces_answers : (r : ℕ) → code ≡ fault_of G → code ≡ 0 → r ≡ pieces (mesh_of G) → value r ≡ pieces_call (sizes_fit_of G) (mesh_of G)
  unfolding pieces_call
  pieces_answers r e z q = sym (value_by code _ (pieces (mesh_of G)) r (e ∙ fault_refuses G) z q)

  pub measure_refuses : code ≡ fault_of G → (code ≡ 0 → ⊥) → refused code ≡ rest_measure_call (sizes_fit_of G) (mesh_of G)
  unfolding rest_measure_call
  measure_refuses e h = sym (refuse_by code _ (rest_measure (mesh_of G)) (e ∙ fault_refuses G) h)

  pub measure_answers : (r : Float) → code ≡ fault_of G → code ≡ 0 → r ≡ rest_measure (mesh_of G) → value r ≡ rest_measure_call (sizes_fit_of G) (mesh_of G)
  unfolding rest_measure_call
  measure_answers r e z q = sym (value_by code _ (rest_measure (mesh_of G)) r (e ∙ fault_refuses G) z q)

-- a list that was tested by the length of the points
pub listed_ok : (G : Given) (l : List ℕ) (t : Bool) → t ≡ (strictly l && all (λ x. ltb x (length G.points / point_columns)) l) → t ≡ particles_ok (mesh_of G) l
unfolding particles_ok
listed_ok G l t e = e ∙ ap (λ (n : ℕ). strictly l && all (λ x. ltb x n) l) (sym (particles_count G))

-- one refusal behind the faults: the tests that were made, and the number that came of them
module _ (G : Given) (code code₀ : ℕ) (t : Bool) (first : code ≡ then_check code₀ t 4) (fault : code₀ ≡ fault_of G) where
  behind : code ≡ refusal (sizes_fit_of G) (mesh_of G) true t
  behind = first ∙ ap (λ (c : ℕ). then_check c t 4) fault ∙ arguments_refuse G t

  -- where none refuses, the mesh is accepted and the test holds
  pub accepted_with : code ≡ 0 → Accepted G × (t ≡ true)
  accepted_with z = let w = then_zero code₀ t 4 (λ q. omega arith) (sym first ∙ z) in (accepted G (sym fault ∙ w.0), w.1)

  pub listed_refuses : (l : List ℕ) → t ≡ particles_ok (mesh_of G) l → (code ≡ 0 → ⊥) → refused code ≡ rest_measure_of_call (sizes_fit_of G) (mesh_of G) l
  unfolding rest_measure_of_call
  listed_refuses l e h = sym (refuse_by code _ (the_rest_measure_of (mesh_of G) l) (behind ∙ ap (refusal (sizes_fit_of G) (mesh_of G) true) e) h)

  pub listed_answers : (l : List ℕ) (r : Float) → t ≡ particles_ok (mesh_of G) l → code ≡ 0 → r ≡ the_rest_measure_of (mesh_of G) l → value r ≡ rest_measure_of_call (sizes_fit_of G) (mesh_of G) l
  unfolding rest_measure_of_call
  listed_answers l r e z q = sym (value_by code _ (the_rest_measure_of (mesh_of G) l) r (behind ∙ ap (refusal (sizes_fit_of G) (mesh_of G) true) e) z q)
