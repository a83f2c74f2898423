-- A call at work: the mesh so far, the log so far, and what room each step needed. Definitions only.
use Rattle.std.specs.Prelude.{ℕ, Bool, true, false, List, [], ◌∷◌, ◌++◌, length, Float}
use Rattle.blade.specs.declared.Point.{Point}
use Rattle.model.specs.Mesh.{Mesh}
use Rattle.lists.specs.Lists.{any, each}

-- copy c of v; removed edge (a, b); (a, b) became (a, p) and (q, b) at t; the torn edge that was (a, b) in the input opened; the blade met the pair (a, b) at a point, at fraction t
pub data Entry : Type 0 where
  split : ℕ → ℕ → Entry
  edge : ℕ → ℕ → Entry
  insert : ℕ → ℕ → ℕ → ℕ → Float → Entry
  opened : ℕ → ℕ → Entry
  met : ℕ → ℕ → Point → Float → Entry

-- the places that a step needs: particles, boundary and log behind it, edges (and boundary that goes) at their longest in it
pub record Need : Type 0 where
  pub particles : ℕ
  pub edges : ℕ
  pub boundary : ℕ
  pub log : ℕ

-- the room for each list: the shortest lent column, and no more than the limit
pub record Rooms : Type 0 where
  pub particles : ℕ
  pub triangles : ℕ
  pub edges : ℕ
  pub boundary : ℕ
  pub log : ℕ

-- the mesh, the log and the needs so far
pub record Run : Type 0 where
  pub mesh : Mesh
  pub log : List Entry
  pub needs : List Need

-- the copy of the input is the first step
unfoldable pub start : Mesh → Run
start M =
    record {
      mesh = M;
      log = [];
      needs = record { particles = length M.particles; edges = length M.edges; boundary = length M.boundary; log = 0 } ∷ [];
    }

-- a step to M that logs `more`, with e edges and b boundary entries at the longest
unfoldable pub step_to : Run → Mesh → List Entry → ℕ → ℕ → Run
step_to R M more e b =
    record {
      mesh = M;
      log = R.log ++ more;
      needs = R.needs ++ (record { particles = length M.particles; edges = e; boundary = b; log = length (R.log ++ more) } ∷ []);
    }

-- the mesh alone changes, in no step of its own
abbrev pub with_mesh : Mesh → Run → Run
with_mesh M R = record { mesh = M; log = R.log; needs = R.needs }

-- the copies of a log, each with its source
abbrev pub split_of : Entry → List (ℕ × ℕ)
split_of (split c v) = (c, v) ∷ []
split_of (edge a b) = []
split_of (insert a b p q t) = []
split_of (opened a b) = []
split_of (met a b p t) = []

-- of the whole log
unfoldable pub splits_of : List Entry → List (ℕ × ℕ)
splits_of l = each split_of l

-- does an entry tell of something split or inserted
abbrev pub changes : Entry → Bool
changes (split c v) = true
changes (edge a b) = false
changes (insert a b p q t) = true
changes (opened a b) = false
changes (met a b p t) = false

-- in the whole log
unfoldable pub changed : Run → Bool
changed R = any changes R.log
