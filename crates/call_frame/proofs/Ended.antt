-- How a call ends: what its worker came to, shown in the lent blocks and answered.
use Prim.Native.Nat.{ℕ}
use mathlib.Core.Path.{◌≡◌, refl, sym, ap, subst}
use mathlib.Core.Bool.{Bool}
use mathlib.Core.List.{List}
use lib.Ieee.{Float}
use Rattle.lists.specs.Lists.{tab}
use Rattle.mesh.specs.At.{mesh_at, particles_at, triangles_at, edges_at, boundary_at}
use Rattle.mesh.specs.Log.{World, log_at, world_at}
use Rattle.mesh.specs.Given.{Lent}
use Rattle.mesh.specs.Filled.{Filled, Fits}
use Rattle.mesh.specs.declared.Counts.{Counts}
use Rattle.call_frame.specs.Answered.{nothing}
use Rattle.call_frame.specs.Framed.{words_change, RanFits, Finished}
use Rattle.std.specs.Prelude.{Result, Ok, Err}

-- no rows
abbrev none : Counts
none = record { particles = 0; triangles = 0; edges = 0; boundary = 0; log = 0 }

-- counts that a worker came to fit
pub ended_fits : {E : Type 0} (ran : Result Counts E) (k : Counts) (L : Lent) → RanFits ran L → ran ≡ Ok k → Fits k L
ended_fits {E} ran k L f e = subst (λ (x : Result Counts E). RanFits x L) e f

module _ (p : List Float) (r c : List ℕ) (v : List Float) (e : List ℕ) (l : List Float) (o g : List ℕ) where
  -- no rows of any blocks are nothing
  no_world : world_at none p r c v e l o g ≡ nothing
  unfolding world_at mesh_at particles_at triangles_at edges_at boundary_at log_at tab
  no_world = refl

  module _ {E : Type 0} (ran : Result Counts E) (L : Lent) (p' : List Float) (r' c' : List ℕ) (v' : List Float) (e' : List ℕ) (l' : List Float) (o' g' : List ℕ) where
    -- after a refusal every place is 0
    pub finished_refused : (n : E) → ran ≡ Err n → Filled (world_at none p r c v e l o g) L p' r' c' v' e' l' o' g'
        → Finished ran (λ k. world_at k p r c v e l o g) L (Err n) p' r' c' v' e' l' o' g'
    finished_refused n same f =
        let f' : Filled nothing L p' r' c' v' e' l' o' g' = subst (λ (W : World). Filled W L p' r' c' v' e' l' o' g') no_world f in
        subst (λ (x : Result Counts E). Finished x (λ k. world_at k p r c v e l o g) L (Err n) p' r' c' v' e' l' o' g') (sym same) (record { answer = refl; blocks = f' })

    -- else the fronts stay, and the log tells whether anything changed
    pub finished_done : (k : Counts) (any : Bool) → ran ≡ Ok k → any ≡ words_change (log_at k.log g) → Filled (world_at k p r c v e l o g) L p' r' c' v' e' l' o' g'
        → Finished ran (λ k. world_at k p r c v e l o g) L (Ok (record { counts = k; changed = any })) p' r' c' v' e' l' o' g'
    unfolding world_at
    finished_done k any same told f =
        subst (λ (x : Result Counts E). Finished x (λ k. world_at k p r c v e l o g) L (Ok (record { counts = k; changed = any })) p' r' c' v' e' l' o' g') (sym same) (record { answer = ap (λ (b : Bool). Ok (record { counts = k; changed = b })) told; blocks = f })
