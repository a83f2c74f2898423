-- What the checks of a mesh and of the sides of a fan say of them. Assumes nothing.
use Prim.Native.Nat.{ℕ, ◌/◌}
use native.Mathlib.Omega.{arith}
use mathlib.Core.Path.{◌≡◌, sym, ◌∙◌, ap}
use mathlib.Core.Bool.{Bool, ◌&&◌}
use mathlib.Core.List.{List}
use lib.Dec.{eqb, ltb}
use lib.ListN.{length}
use Rattle.lists.specs.Lists.{all}
use Rattle.model.specs.Valid.{numbers_fit_of, indices_fit_of}
use Rattle.model.specs.Calls.{sides_ok}
use Rattle.mesh.specs.Given.{Given, mesh_of, sizes_fit_of}
use Rattle.mesh.specs.Widths.{point_columns}
use Rattle.judge.specs.Checks.{then_check, first_from, fault_of}
use Rattle.judge.proofs.Joined.{then_zero}
use Rattle.mesh_tables.specs.Accepted.{Accepted}
use Rattle.mesh_tables.specs.Fans.{FanOf}
use Rattle.mesh_tables.proofs.Accepted.{particles_count}

-- a mesh without a fault is accepted
pub accepted : (G : Given) → fault_of G ≡ 0 → Accepted G
unfolding fault_of first_from
accepted G e =
    let a = then_zero (then_check (then_check 0 (sizes_fit_of G) 1) (numbers_fit_of (mesh_of G)) 2) (indices_fit_of (mesh_of G)) 3 (λ q. omega arith) e in
    let b = then_zero (then_check 0 (sizes_fit_of G) 1) (numbers_fit_of (mesh_of G)) 2 (λ q. omega arith) a.0 in
    record { sized = (then_zero 0 (sizes_fit_of G) 1 (λ q. omega arith) b.0).1; indices = a.1 }

-- where the fan was read, the test of its sides is the definition's
pub sides_ok_lem : {G : Given} {v k others count : ℕ} {verts : List ℕ} (F : FanOf G v k others count verts) (sides : List ℕ) (t : Bool)
    → t ≡ (ltb v (length G.points / point_columns) && all (λ s. ltb s 2) sides && eqb (length sides) count) → t ≡ sides_ok (mesh_of G) v sides
unfolding sides_ok
sides_ok_lem {G} {v} {count = count} F sides t e =
    e ∙ ap (λ (p : ℕ). ltb v p && all (λ s. ltb s 2) sides && eqb (length sides) count) (sym (particles_count G))
    ∙ ap (λ (c : ℕ). ltb v (length (mesh_of G).particles) && all (λ s. ltb s 2) sides && eqb (length sides) c) F.count_is
