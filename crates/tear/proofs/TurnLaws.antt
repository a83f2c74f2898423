-- Laws of the order of the two ways of a torn edge. Assumes nothing.
use Prim.Native.Nat.{ℕ}
use mathlib.Core.Path.{◌≡◌, ◌∙◌, ap₂}
use mathlib.Core.Bool.{Bool}
use mathlib.Core.List.{List}
use lib.Dec.{ltb}
use lib.Ieee.{Float}
use Rattle.float.specs.Order.{total_cmp_of}
use Rattle.model.specs.Mesh.{Mesh}
use Rattle.model.specs.Elements.{Kind}
use Rattle.model.specs.Crack.{ahead}
use Rattle.mesh.specs.declared.Counts.{Counts}
use Rattle.tear.specs.Tried.{WayReady, WayLoad}
use Rattle.tear.specs.Pairs.{Turned}

-- which goes first, by the loads of both
pub turned_is : (K : Kind) (x y : ℕ) (k : Counts) (loads : List Float) (M : Mesh) (p q : Float) → WayLoad K x y k loads M p → WayLoad K y x k loads M q → (t : Bool) → t ≡ ahead (total_cmp_of q p) (ltb y x)
    → Turned K x y k.triangles loads M t
turned_is K x y k loads M p q X Y t o = record { is = λ ls h. o ∙ ap₂ (λ (a b : Float). ahead (total_cmp_of a b) (ltb y x)) (Y.is ls h) (X.is ls h) }

-- the way from the other end is ready as well
pub ready_back : (v w : ℕ) (k : Counts) (lp lc lv le ll : ℕ) (M : Mesh) → WayReady v w k lp lc lv le ll M → WayReady w v k lp lc lv le ll M
ready_back v w k lp lc lv le ll M A =
    record {
      v_in = A.w_in;
      w_in = A.v_in;
      few_particles = A.few_particles;
      few_triangles = A.few_triangles;
      few_edges = A.few_edges;
      points = A.points;
      corners = A.corners;
      volumes = A.volumes;
      ends = A.ends;
      lengths = A.lengths;
      indices = A.indices;
    }
