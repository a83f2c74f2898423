-- How a call that gives a mesh begins and ends: the copy of the input where there is room for it, and the end from what the worker came to. Only contracts between workers need this file. Definitions only.
use Rattle.std.specs.Prelude.{ℕ, ◌/◌, ◌≤◌, ◌≡◌, Bool, true, List, eqb, Float, Result, Ok, Err}
use Rattle.lists.specs.Lists.{pick, any}
use Rattle.model.specs.Mesh.{Mesh}
use Rattle.model.specs.Run as M
use Rattle.model.specs.Run.{Need, start}
use Rattle.model.specs.Calls.{first_fault, Outcome}
use Rattle.mesh.specs.Log.{Words, World}
use Rattle.mesh.specs.Given.{Given, Lent, sizes, sizes_fit_of, as_rooms}
use Rattle.mesh.specs.Filled.{Filled, Fits}
use Rattle.mesh.specs.declared.Counts.{Counts}
use Rattle.mesh.specs.declared.Rooms.{Rooms}
use Rattle.mesh.specs.Widths.{point_columns, corner_columns, end_columns, length_columns, root_columns, volume_columns, side_columns}
use Rattle.work.specs.Working.{Within}
use Rattle.work.specs.Ran.{Ran}
use Rattle.mesh.specs.Refused.{answer_in}
use Rattle.call_frame.specs.Answered.{nothing, shown, answer_of}
use Rattle.call_frame.specs.declared.Answer.{Answer}

-- ---- what a log tells

-- an entry of this kind tells of something split or inserted
abbrev pub kind_changes_of : ℕ → Bool
kind_changes_of n = pick (eqb n 1) true (eqb n 3)

-- some entry of a log does, by its words
abbrev pub words_change : List Words → Bool
words_change l = any (λ (e : Words). kind_changes_of e.kind) l

-- ---- the beginning

-- what the copy of an input with these counts needs
abbrev pub copy_need : Counts → Need
copy_need k = record { particles = k.particles; edges = k.edges; boundary = k.boundary; log = 0 }

-- the refusal that is there, or that of the room which the copy of M lacks
abbrev pub begun_with : ℕ → M.Rooms → Mesh → ℕ
begun_with code L N = pick (eqb code 0) (first_fault L (start N).needs) code

-- the rooms are within the columns of the seven blocks
pub record RoomsLent (R : Rooms) (I : Lent) : Type 0 where
  pub points : R.particles ≤ I.points / point_columns
  pub roots : R.particles ≤ I.roots / root_columns
  pub corners : R.triangles ≤ I.corners / corner_columns
  pub volumes : R.triangles ≤ I.volumes / volume_columns
  pub ends : R.edges ≤ I.ends / end_columns
  pub lengths : R.edges ≤ I.lengths / length_columns
  pub outline : R.boundary ≤ I.outline / side_columns

-- what is asked before an input is copied: where nothing has refused it, its sizes fit, and its triangles have room
pub record BeginAsked (code : ℕ) (R : Rooms) (G : Given) (I : Lent) : Type 0 where
  pub sized : code ≡ 0 → sizes_fit_of G ≡ true
  pub triangles : code ≡ 0 → (sizes G).triangles ≤ R.triangles
  pub rooms : RoomsLent R I

-- the number that is told, and the mesh that the lent blocks hold where it is 0
pub record Begun (code : ℕ) (R : Rooms) (N held : Mesh) (r : ℕ) : Type 0 where
  pub number : r ≡ begun_with code (as_rooms R) N
  pub copied : r ≡ 0 → held ≡ N

-- ---- the end

-- the counts that a worker came to fit the lent blocks, whatever its errors are
abbrev pub RanFits : {E : Type 0} → Result Counts E → Lent → Type 0
RanFits (Err c) L = Unit {0}
RanFits (Ok k) L = Fits k L

-- what is shown of what a worker came to, where the blocks hold `at` of its counts
abbrev pub shown_of : {E : Type 0} → Result Counts E → (Counts → World) → World
shown_of (Err c) at = nothing
shown_of (Ok k) at = at k

-- what is answered of it
abbrev pub said_of : {E : Type 0} → Result Counts E → (Counts → World) → Result Answer E
said_of (Err c) at = Err c
said_of (Ok k) at = Ok (record { counts = k; changed = words_change (at k).log })

-- the counts that a worker came to are within the rooms
abbrev pub RanWithin : Ran → Rooms → Type 0
RanWithin (Err c) R = Unit {0}
RanWithin (Ok k) R = Within k R

-- a call came to the outcome o, in rooms R and in blocks that hold `at` of its counts
pub record Came (o : Outcome) (R : Rooms) (at : Counts → World) (ran : Ran) : Type 0 where
  pub said : answer_in (said_of ran at) ≡ answer_of o
  pub shows : shown_of ran at ≡ shown o
  pub within : RanWithin ran R

-- the answer, and every lent place
pub record Finished {E : Type 0} (ran : Result Counts E) (at : Counts → World) (L : Lent) (a : Result Answer E) (p : List Float) (r c : List ℕ) (v : List Float) (e : List ℕ) (l : List Float) (b g : List ℕ) : Type 0 where
  pub answer : a ≡ said_of ran at
  pub blocks : Filled (shown_of ran at) L p r c v e l b g
