-- The cut of straps behind its crossings, and the whole. Only contracts between workers need this file. Definitions only.
use Rattle.std.specs.Prelude.{ℕ, ◌<◌, ◌≤◌, ◌≡◌, true, List, Float}
use Rattle.lists.specs.Lists.{stands}
use Rattle.blade.specs.declared.Point.{Point}
use Rattle.model.specs.Calls.{first_fault}
use Rattle.model.specs.Cut.{Blade, Strapping, after_crossings}
use Rattle.mesh.specs.Log.{World, world_of}
use Rattle.mesh.specs.Given.{as_rooms}
use Rattle.mesh.specs.declared.Counts.{Counts}
use Rattle.mesh.specs.declared.Rooms.{Rooms}
use Rattle.work.specs.Working.{Went}
use Rattle.work.specs.Ran.{Ran}
use Rattle.crossing.specs.Crossings.{crossed_in, CrossingsAre}
use Rattle.crossing.specs.Crossed.{ran_of, bends_of, StrapMarks, CrossTold}
use Rattle.mesh.specs.Blocks.{LentNumbers, LentIndices}

-- each edge and each particle has a mark, and the marks of the edges can be a list of them
pub record MarksLent (bends snapped : ℕ) : Type 0 where
  pub bends_long : 2049 ≤ bends
  pub snapped_long : 1024 ≤ snapped

-- what is left of a strap cut is done to whatever cut the blocks hold, where the marks are its bend edges, all of them there, and its ends
pub record AfterTold (B : Blade) (L : Rooms) (e : ℕ) (W : World) (at : Counts → World) (bends snapped : List ℕ) (r : Ran) : Type 0 where
  pub went :
      (S : Strapping) → W ≡ world_of (ran_of S).mesh (ran_of S).log → first_fault (as_rooms L) (ran_of S).needs ≡ 0 → StrapMarks S bends snapped
      → ((j : ℕ) → stands j (bends_of S) ≡ true → j < e) → Went L (after_crossings B S) at r

-- the crossings of the blade with the straps in the blocks were found in some tables, and done in turn
pub record BladeCrossed (b0 b1 : Point) (f : Float) (L : Rooms) (k : Counts) (points : List Float) (roots ends : List ℕ) (lengths : List Float) (outline log bends snapped : List ℕ) (points' : List Float) (roots' ends' : List ℕ) (lengths' : List Float) (outline' log' bends' snapped' : List ℕ) (r : Ran) : Type 0 where
  pub many : ℕ
  pub numbers : List ℕ
  pub ts : List Float
  pub found : CrossingsAre b0 b1 k.edges points ends numbers ts many
  pub told : CrossTold f (crossed_in many numbers ts) L k points roots ends lengths outline log bends snapped points' roots' ends' lengths' outline' log' bends' snapped' r

-- `BladeCrossed` of the blocks and lists, as a contract names them
abbrev pub BladeCrossedIn : Point → Point → Float → Rooms → Counts → LentNumbers → LentIndices → LentIndices → LentNumbers → LentIndices → LentIndices → LentIndices → LentIndices → Ran → Type 0
BladeCrossedIn b0 b1 f L k points roots ends lengths outline log bends snapped r =
    BladeCrossed b0 b1 f L k points.entry.now roots.entry.now ends.entry.now lengths.entry.now outline.entry.now log.entry.now bends.entry.now snapped.entry.now
    points.exit.now roots.exit.now ends.exit.now lengths.exit.now outline.exit.now log.exit.now bends.exit.now snapped.exit.now r
