-- Marks of particles: the candidates of a cut, the particles near a split, and the pinched. Only contracts between workers need this file. Definitions only.
use Rattle.std.specs.Prelude.{ℕ, ◌/◌, ◌<◌, ◌≤◌, ◌≡◌, Bool, true, not, ◌&&◌, List, [], ◌∷◌, map, length, get_or, eqb, Float}
use Rattle.std.specs.Float.Ieee.{lt}
use Rattle.float.specs.Numbers.{times, zero32}
use Rattle.lists.specs.Lists.{pick, stands, any, each, pairs, empty}
use Rattle.blade.specs.declared.Point.{Point}
use Rattle.blade.specs.declared.Hit.{Hit}
use Rattle.blade.specs.declared.Hit.TheVariants.{Miss}
use Rattle.model.specs.Mesh.{Mesh}
use Rattle.model.specs.Elements.{Triangles, Element, place_of, elements_of}
use Rattle.model.specs.Run.{Run, splits_of}
use Rattle.model.specs.Cut as M
use Rattle.model.specs.Cut.{rounded, signs, Blade, hit_by, hit?, if_met, split_ends, near_corners}
use Rattle.mesh.specs.At.{triangles_at}
use Rattle.mesh.specs.Log.{Words, words_of, log_at}
use Rattle.mesh.specs.Widths.{point_columns, corner_columns}
use Rattle.work.specs.Places.{CornersIn}
use Rattle.split_plan.specs.Opened.{place_in}
use Rattle.marks.specs.declared.Rule.{Rule}
use Rattle.marks.specs.declared.Rule.TheVariants.{Rounded, Signs}

-- ---- marks

-- exactly the listed are marked with 1, the others with 0
pub record Marks (listed marks : List ℕ) : Type 0 where
  pub mark : (k : ℕ) → k < length marks → get_or marks k 0 ≡ pick (stands k listed) 1 0

-- the listed are marked with 1, the others as they were
pub record MarkedBy (listed marks marks' : List ℕ) : Type 0 where
  pub mark : (k : ℕ) → k < length marks → get_or marks' k 0 ≡ pick (stands k listed) 1 (get_or marks k 0)

-- ---- places

-- the first p particles of M are where the block says
abbrev pub PlacesIn : Mesh → ℕ → List Float → Type 0
PlacesIn M p points = (w : ℕ) → w < p → place_of M w ≡ place_in points w

-- which of the definitions' rules one of the program's is
abbrev pub rule_is : Rule → M.Rule
rule_is Rounded = rounded
rule_is Signs = signs

-- the blade from b0 to b1 by a rule, and by rounded numbers
abbrev pub blade_by : Rule → Point → Point → Blade
blade_by r b0 b1 = record { line = record { from = b0; to = b1 }; rule = rule_is r }

abbrev pub blade_from : Point → Point → Blade
blade_from b0 b1 = blade_by Rounded b0 b1

-- ---- candidates

-- the blade test on a pair of particles, by the block of points
abbrev pub hit_in : Blade → List Float → ℕ × ℕ → Hit
hit_in B points xy = hit_by B.rule B.line.from B.line.to (place_in points xy.0) (place_in points xy.1)

-- is the product of each two of three offsets above 0
abbrev pub alike_by : Float → Float → Float → Bool
alike_by x y z = lt zero32 (times x y) && lt zero32 (times x z) && lt zero32 (times y z)

-- what is told of three particles: if true, the blade meets no side between them
pub record BesideTold (B : Blade) (points : List Float) (x y z : ℕ) (b : Bool) : Type 0 where
  pub first : b ≡ true → hit_in B points (x, y) ≡ Miss
  pub second : b ≡ true → hit_in B points (x, z) ≡ Miss
  pub third : b ≡ true → hit_in B points (y, z) ≡ Miss

-- the ends of a pair of corners that the blade meets, by the block of points
unfoldable pub met_in : Blade → List Float → ℕ × ℕ → List ℕ
met_in B points xy = pick (hit? (hit_in B points xy)) (xy.0 ∷ xy.1 ∷ []) []

-- the same of all pairs of a triangle's corners
unfoldable pub met_of : Blade → List Float → List ℕ → List ℕ
met_of B points corners = each (met_in B points) (pairs corners)

-- every end of a triangle's side that the blade meets: `candidates` are these, rising
unfoldable pub candidate_ends : Blade → Mesh → List ℕ
candidate_ends B M = each (λ (e : Element). each (if_met B M) (pairs e.corners)) (elements_of Triangles M)

-- the corners of t triangles stand in the block, and name particles of the block of points
pub record CandidateRoom (t : ℕ) (corners : List ℕ) (lp : ℕ) : Type 0 where
  pub long : t ≤ length corners / corner_columns
  pub corners_in : CornersIn (lp / point_columns) t corners

-- the candidates of every mesh of these triangles and places are marked
pub record CandidatesMarked (B : Blade) (t : ℕ) (points : List Float) (corners marks : List ℕ) : Type 0 where
  pub marked : (M : Mesh) (p : ℕ) (volumes : List Float) → PlacesIn M p points → CornersIn p t corners → M.triangles ≡ triangles_at t corners volumes → Marks (candidate_ends B M) marks

-- ---- the log

-- does an entry's first word tell of a split
abbrev pub split_words : Words → Bool
split_words w = eqb w.kind 1

-- the copy and the source that an entry tells of
unfoldable pub ends_in_of : Words → List ℕ
ends_in_of w = pick (split_words w) (w.a ∷ w.b ∷ []) []

-- the copies and sources of every run with this log are marked
pub record NearMarked (l : ℕ) (log near : List ℕ) : Type 0 where
  pub marked : (R : Run) → log_at l log ≡ map words_of R.log → Marks (split_ends R) near

-- r says whether anything split in a run with this log
pub record SplitFound (l : ℕ) (log : List ℕ) (r : Bool) : Type 0 where
  pub is : (R : Run) → log_at l log ≡ map words_of R.log → r ≡ not (empty (splits_of R.log))

-- ---- pinched

-- is w marked
abbrev pub marked? : List ℕ → ℕ → Bool
marked? marks w = eqb (get_or marks w 0) 1

-- the corners of a row with a marked one
unfoldable pub near_row : List ℕ → List ℕ → List ℕ
near_row near corners = pick (any (marked? near) corners) corners []

-- every corner of a triangle that touches a copy or its source: `pinched` are these, rising
unfoldable pub pinched_ends : Run → List ℕ
pinched_ends R = each (near_corners (split_ends R)) (elements_of Triangles R.mesh)

-- the corners of t triangles stand in the block, and name particles that may be near
pub record PinchedRoom (t : ℕ) (corners : List ℕ) (ln : ℕ) : Type 0 where
  pub long : t ≤ length corners / corner_columns
  pub corners_in : CornersIn ln t corners

-- the pinched of every run of these triangles are marked, where the near are
pub record PinchedMarked (t : ℕ) (corners near marks : List ℕ) : Type 0 where
  pub marked : (R : Run) (volumes : List Float) → R.mesh.triangles ≡ triangles_at t corners volumes → CornersIn (length near) t corners → Marks (split_ends R) near → Marks (pinched_ends R) marks
