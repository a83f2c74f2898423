-- What the test of a block's rows tells, and what is known where nothing refused. Only contracts between these functions need this file. Definitions only.
use Rattle.std.specs.Prelude.{◌≡◌, ℕ, ◌+◌, Bool, ◌&&◌, List, [], ◌∷◌, nat_lt, slice_index_or, Float}
use Rattle.lists.specs.Lists.{all, up_to}
use Rattle.float.specs.Ranges.{number?, not_below0?}
use Rattle.columns.specs.Block.{cell}
use Rattle.model.specs.Valid.{named, root_ok, corners_ok, triangle_ok}
use Rattle.mesh.specs.At.{particles_at, triangles_at}

-- p holds of the n values of s from place `at` on
abbrev pub column_ok : {A : Type 0} → (A → Bool) → A → List A → ℕ → ℕ → Bool
column_ok p d s at n = all (λ (k : ℕ). p (slice_index_or s (at + k) d)) (up_to n)

-- a rest length: in range, and not below zero
abbrev pub length? : Float → Bool
length? x = number? x && not_below0? x

-- a word that tells of no fault: below 2 ^ 63
unfoldable pub fine : ℕ → Bool
fine w = nat_lt w 9223372036854775808

-- the ends in row k of a block with columns of R places name two different ones of n particles
unfoldable pub pair_ok : ℕ → ℕ → List ℕ → ℕ → Bool
pair_ok n R s k = named n (cell 0 R s 0 k ∷ cell 0 R s 1 k ∷ [])

-- r tells whether the roots of n particles fit, whatever stands in their other block
abbrev pub RootsTold : ℕ → List ℕ → Bool → Type 0
RootsTold n roots r = (points : List Float) → r ≡ all (root_ok n) (particles_at n points roots)

-- r tells whether the corners of t triangles fit, whatever stands in their other block
abbrev pub CornersTold : ℕ → ℕ → List ℕ → Bool → Type 0
CornersTold n t corners r = (volumes : List Float) → r ≡ all (corners_ok n) (triangles_at t corners volumes)

-- r tells whether the numbers of t triangles fit, whatever stands in their other block
abbrev pub VolumesTold : ℕ → List Float → Bool → Type 0
VolumesTold t volumes r = (corners : List ℕ) → r ≡ all triangle_ok (triangles_at t corners volumes)
