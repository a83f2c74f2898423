-- What a run of splits keeps of the triangles: the words of the theorems in proofs/Traced.antt and proofs/Holding.antt of crate model_laws. Definitions only.
use Rattle.std.specs.Prelude.{ℕ, ◌<◌, ◌≡◌, true, List, [], ◌∷◌, map, length, get_or, eqb}
use Rattle.lists.specs.Lists.{pick, stands}
use Rattle.model.specs.Mesh.{Triangle, Side, Mesh, blank_triangle}
use Rattle.model.specs.Elements.{corners_of}
use Rattle.model.specs.Valid.{named}
use Rattle.model.specs.Run.{Entry, Run, splits_of}

-- P holds of every element
abbrev pub All : {A : Type 0} → (A → Type 0) → List A → Type 0
All P [] = Unit {0}
All P (a ∷ l) = P a × All P l

-- each triangle has three corners, each boundary entry two
abbrev pub Threes : List Triangle → Type 0
Threes ts = All (λ (t : Triangle). length t.corners ≡ 3) ts

abbrev pub Twos : List Side → Type 0
Twos ss = All (λ (s : Side). length s.corners ≡ 2) ss

-- a mesh whose rows are so: every accepted one, and every one that is read from columns
pub record Rowed (M : Mesh) : Type 0 where
  pub triangles : Threes M.triangles
  pub boundary : Twos M.boundary

-- the particle that x was before these splits, the last of them undone first: a copy was its source
unfoldable pub origin_of : List (ℕ × ℕ) → ℕ → ℕ
origin_of [] x = x
origin_of (cs ∷ l) x = pick (eqb (origin_of l x) cs.0) cs.1 (origin_of l x)

-- w different particles of n
pub record Different (w n : ℕ) (l : List ℕ) : Type 0 where
  pub many : length l ≡ w
  pub apart : named n l ≡ true

-- a triangle has three of them
abbrev pub Sound : ℕ → Triangle → Type 0
Sound n t = Different 3 n t.corners

-- the corners of a triangle, traced back through these splits
abbrev pub traced_back : List (ℕ × ℕ) → Triangle → List ℕ
traced_back splits t = map (origin_of splits) (corners_of t)

-- every triangle has three different particles, and traced back is the triangle that it was
pub record Traced (M : Mesh) (R : Run) : Type 0 where
  pub sound : All (Sound (length R.mesh.particles)) R.mesh.triangles
  pub back : map (traced_back (splits_of R.log)) R.mesh.triangles ≡ map corners_of M.triangles

-- some triangle of the list holds x
abbrev pub Hold : ℕ → List Triangle → Type 0
Hold x ts = (i : ℕ) × ((i < length ts) × (stands x (corners_of (get_or ts i blank_triangle)) ≡ true))

-- every copy of the log belongs to a triangle
pub record Held (R : Run) : Type 0 where
  pub copies : All (λ (cs : ℕ × ℕ). Hold cs.0 R.mesh.triangles) (splits_of R.log)

-- the same of a call that was given M and gives M' with a log
pub record Kept (M M' : Mesh) (log : List Entry) : Type 0 where
  pub sound : All (Sound (length M'.particles)) M'.triangles
  pub back : map (traced_back (splits_of log)) M'.triangles ≡ map corners_of M.triangles
  pub copies : All (λ (cs : ℕ × ℕ). Hold cs.0 M'.triangles) (splits_of log)
