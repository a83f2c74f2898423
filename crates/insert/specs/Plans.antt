-- An insertion to be made, as the program holds it. Only contracts between workers need this file. Definitions only.
use Rattle.std.specs.Prelude.{ℕ, ◌+◌, ◌/◌, ◌<◌, ◌≤◌, ◌≡◌, Bool, List, length, get_or, Float}
use Rattle.model.specs.Mesh.{Mesh}
use Rattle.model.specs.Cut.{Insertion, insertion_of, insertable}
use Rattle.mesh.specs.Workers.{EdgeRoom, edge_of}
use Rattle.mesh.specs.Widths.{point_columns, end_columns}
use Rattle.insert.specs.Shares.{Stands}
use Rattle.insert.specs.declared.plan.Plan.{Plan}

-- a plan of the program as an insertion of the model
abbrev pub planned : Plan → Insertion
planned p = record { number = p.number; edge = edge_of p.row; t = p.at; share_a = p.first; share_b = p.second; before = p.before }

-- edge `number` is one of e, its ends are among n particles, and both have room
pub record PlanRoom (number n e lp : ℕ) (ends : List ℕ) (ll : ℕ) : Type 0 where
  pub here : number < e
  pub room : EdgeRoom e (length ends) ll
  pub points : n ≤ lp / point_columns
  pub a_in : get_or ends number 0 < n
  pub b_in : get_or ends (length ends / end_columns + number) 0 < n

-- r is the insertion into edge `number` at t, in every mesh that stands there
pub record PlanIs (f : Float) (number : ℕ) (t : Float) (n e : ℕ) (points : List Float) (ends : List ℕ) (lengths : List Float) (r : Plan) : Type 0 where
  pub is : (M : Mesh) (roots : List ℕ) → Stands M n e points roots ends lengths → planned r ≡ insertion_of f M (record { number = number; t = t })
  pub a_in : r.row.a < n
  pub b_in : r.row.b < n
  pub before_is : r.before ≡ n
  pub number_is : r.number ≡ number

-- both ends of the strap have places in the points
pub record InsertableRoom (plan : Plan) (lp : ℕ) : Type 0 where
  pub a_in : plan.row.a < lp / point_columns
  pub b_in : plan.row.b < lp / point_columns

-- r tells whether the insertion is to be made, in every mesh that stands there
pub record InsertableIs (f t : Float) (plan : Plan) (points : List Float) (r : Bool) : Type 0 where
  pub is :
      (M : Mesh) (number n e : ℕ) (roots ends : List ℕ) (lengths : List Float) → Stands M n e points roots ends lengths → plan.row.a < n → plan.row.b < n
      → planned plan ≡ insertion_of f M (record { number = number; t = t }) → r ≡ insertable f M (record { number = number; t = t })
