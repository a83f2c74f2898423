-- The cut that words ask for. Assumes nothing.
use Prim.Native.Nat.{ℕ}
use mathlib.Core.Path.{◌≡◌, ap, ◌∙◌}
use lib.Ieee.{Float}
use Rattle.blade.specs.declared.Point.{Point}
use Rattle.mesh_calls.specs.declared.Job.{Job}
use Rattle.mesh_calls.specs.declared.Job.TheVariants.{Cut}

-- a cut by equal arguments
pub cut_same : (n : ℕ) (b0 b1 c0 c1 : Point) (f g : Float) → b0 ≡ c0 → b1 ≡ c1 → f ≡ g → ◌≡◌ {A = Job} (Cut n b0 b1 f) (Cut n c0 c1 g)
cut_same n b0 b1 c0 c1 f g e0 e1 ef = ap (λ (p : Point). Cut n p b1 f) e0 ∙ ap (λ (q : Point). Cut n c0 q f) e1 ∙ ap (Cut n c0 c1) ef
