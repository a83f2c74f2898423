-- How many elements of the first rows of blocks hold a particle. Only the contracts between these functions need this file. Definitions only.
use Rattle.std.specs.Prelude.{ℕ, ◌≡◌, List, length, Float}
use Rattle.model.specs.Elements.{kind_of, fan_of, triangles_from, straps_from}
use Rattle.mesh.specs.At.{triangles_at, edges_at, mesh_at}
use Rattle.mesh.specs.declared.Counts.{Counts}
use Rattle.elements.specs.Table.{holding}

-- r of the first t triangles hold v, whatever stands in their other block
abbrev pub TrianglesWith : ℕ → ℕ → List ℕ → ℕ → Type 0
TrianglesWith v t corners r = (volumes : List Float) → r ≡ length (holding v (triangles_from 0 (triangles_at t corners volumes)))

-- r straps among the first e edges hold v, whatever stands in their other block
abbrev pub StrapsWith : ℕ → ℕ → List ℕ → ℕ → Type 0
StrapsWith v e ends r = (lengths : List Float) → r ≡ length (holding v (straps_from 0 (edges_at e ends lengths)))

-- r is the number of elements of the fan of v in the first k rows, whatever stands in the other blocks
abbrev pub FanCounted : ℕ → Counts → List ℕ → List ℕ → ℕ → Type 0
FanCounted v k corners ends r =
    (points : List Float) (roots : List ℕ) (volumes lengths : List Float) (outline : List ℕ)
    → r ≡ length (fan_of (kind_of (mesh_at k points roots corners volumes ends lengths outline)) (mesh_at k points roots corners volumes ends lengths outline) v)
