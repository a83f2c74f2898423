-- A particle is what its columns hold: equal columns make equal particles. The only laws that name every column. Assumes nothing.
use Prim.Native.Nat.{ℕ, ◌<◌}
use native.Mathlib.Omega.{arith}
use mathlib.Core.Path.{◌≡◌}
use lib.Ieee.{Float}
use Rattle.model.specs.Mesh.{Particle, changedTo}
use Rattle.mesh.specs.At.{particleBy}
use Rattle.mesh.specs.Widths.{pointColumns}

-- the same numbers, root and flag
pub by-columns : (f g : ℕ → Float) (r s d e : ℕ) → ((c : ℕ) → c < pointColumns → f c ≡ g c) → r ≡ s → d ≡ e → particleBy f r d ≡ particleBy g s e
by-columns f g r s d e h p q =
    λ i.
    record {
      x = h 0 (omega arith) i;
      y = h 1 (omega arith) i;
      rest-x = h 2 (omega arith) i;
      rest-y = h 3 (omega arith) i;
      mass = h 4 (omega arith) i;
      inv = h 5 (omega arith) i;
      velocity-x = h 6 (omega arith) i;
      velocity-y = h 7 (omega arith) i;
      root = p i;
      damaged = q i;
    }

-- the same but for the mass and the inverse mass
pub by-columns-but : (f g : ℕ → Float) (m w : Float) (r s d e : ℕ) → ((c : ℕ) → c < pointColumns → (c ≡ 4 → ⊥) → (c ≡ 5 → ⊥) → f c ≡ g c) → f 4 ≡ m → f 5 ≡ w → r ≡ s → d ≡ e
    → particleBy f r d ≡ changedTo m w e (particleBy g s e)
by-columns-but f g m w r s d e h a b p q =
    λ i.
    record {
      x = h 0 (omega arith) (λ n. omega arith) (λ n. omega arith) i;
      y = h 1 (omega arith) (λ n. omega arith) (λ n. omega arith) i;
      rest-x = h 2 (omega arith) (λ n. omega arith) (λ n. omega arith) i;
      rest-y = h 3 (omega arith) (λ n. omega arith) (λ n. omega arith) i;
      mass = a i;
      inv = b i;
      velocity-x = h 6 (omega arith) (λ n. omega arith) (λ n. omega arith) i;
      velocity-y = h 7 (omega arith) (λ n. omega arith) (λ n. omega arith) i;
      root = p i;
      damaged = q i;
    }
