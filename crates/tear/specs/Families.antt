-- Families read off the log, and the pair that stands for a torn edge. Only contracts between workers need this file. Definitions only.
use Rattle.std.specs.Prelude.{ℕ, ◌+◌, ◌*◌, ◌/◌, ◌<◌, ◌≤◌, ◌≡◌, Bool, true, false, ◌&&◌, ◌||◌, List, [], ◌∷◌, map, length, get_or, take, eqb, Float, Option as Opt, None, Some}
use Rattle.std.proofs.Math.Option.{Option, none, some}
use Rattle.lists.specs.Lists.{pick, stands, any, each, find}
use Rattle.model.specs.Mesh.{Mesh}
use Rattle.model.specs.Elements.{Kind, elements_of, held}
use Rattle.model.specs.Run.{Run, splits_of}
use Rattle.model.specs.Crack.{family, joins, cross_pairs}
use Rattle.mesh.specs.At.{edges_at}
use Rattle.mesh.specs.Log.{Words, words_of, log_at}
use Rattle.mesh.specs.Widths.{end_columns, entry_words}
use Rattle.elements.specs.Table.{Cornered}

-- ---- families

-- the copies that the words of a log tell of, each with its source: kind 1 is a split
abbrev pub split_by_of : Words → List (ℕ × ℕ)
split_by_of w = pick (eqb w.kind 1) ((w.a, w.b) ∷ []) []

unfoldable pub splits_by : List Words → List (ℕ × ℕ)
splits_by l = each split_by_of l

-- is an entry a copy whose source stands in a list
abbrev pub source_in : Words → List ℕ → Bool
source_in w l = eqb w.kind 1 && stands w.b l

-- the log has l entries, and there is room for each and one more
pub record FamilyRoom (l lg lf : ℕ) : Type 0 where
  pub log : l ≤ lg / entry_words
  pub room : l + 1 ≤ lf

-- the first r of the table are the family of a
pub record FamilyFound (a l : ℕ) (log : List ℕ) (r : ℕ) (found : List ℕ) : Type 0 where
  pub is : take r found ≡ family (splits_by (log_at l log)) a
  pub few : r ≤ l + 1

-- ---- the current pair

-- is the edge (a, b) between x and y
abbrev pub joins_by : ℕ → ℕ → ℕ → ℕ → Bool
joins_by x y a b = (eqb a x && eqb b y) || (eqb a y && eqb b x)

-- r tells whether one of the first e edges is between x and y, whatever stands in their other block
pub record JoinTold (x y e : ℕ) (ends : List ℕ) (r : Bool) : Type 0 where
  pub is : (lengths : List Float) → r ≡ any (joins (x, y)) (edges_at e ends lengths)

-- do x and y meet: in one element of a mesh, or at an edge of it
abbrev pub meet : Bool → Kind → Mesh → ℕ × ℕ → Bool
meet true K M xy = held K M xy.0 xy.1
meet false K M xy = any (joins xy) M.edges

-- the table has n elements of k corners, and the block e edges
pub record MeetRoom (k n lk e le : ℕ) : Type 0 where
  pub table : n * k ≤ lk
  pub edges : e ≤ le / end_columns

-- a mesh whose elements stand in the table, and whose edges have these ends
pub record MeshIn (K : Kind) (M : Mesh) (k n : ℕ) (verts : List ℕ) (e : ℕ) (ends : List ℕ) (lengths : List Float) : Type 0 where
  pub cornered : Cornered k (elements_of K M) n verts
  pub edges_are : M.edges ≡ edges_at e ends lengths

-- r tells whether x and y meet
pub record MeetTold (in_element : Bool) (x y k n : ℕ) (verts : List ℕ) (e : ℕ) (ends : List ℕ) (r : Bool) : Type 0 where
  pub is : (K : Kind) (M : Mesh) (lengths : List Float) → MeshIn K M k n verts e ends lengths → r ≡ meet in_element K M (x, y)

-- r is the place of the first of ys that meets x, or their number
pub record FirstMet (in_element : Bool) (x : ℕ) (ys : List ℕ) (k n : ℕ) (verts : List ℕ) (e : ℕ) (ends : List ℕ) (r : ℕ) : Type 0 where
  pub within : r ≤ length ys
  pub earlier : (K : Kind) (M : Mesh) (lengths : List Float) → MeshIn K M k n verts e ends lengths → (j : ℕ) → j < r → meet in_element K M (x, get_or ys j 0) ≡ false
  pub here : (K : Kind) (M : Mesh) (lengths : List Float) → MeshIn K M k n verts e ends lengths → r < length ys → meet in_element K M (x, get_or ys r 0) ≡ true

-- a pair of the program as the definitions have it
abbrev pub pair_is : Opt (ℕ × ℕ) → Option (ℕ × ℕ)
pair_is None = none
pair_is (Some (x, y)) = some (x, y)

-- the first pair of the two lists that meets
pub record PairMet (in_element : Bool) (xs ys : List ℕ) (k n : ℕ) (verts : List ℕ) (e : ℕ) (ends : List ℕ) (r : Opt (ℕ × ℕ)) : Type 0 where
  pub is : (K : Kind) (M : Mesh) (lengths : List Float) → MeshIn K M k n verts e ends lengths → pair_is r ≡ find (meet in_element K M) (cross_pairs xs ys)

-- what the current pair asks
pub record CurrentRoom (l lg k n lk e le : ℕ) : Type 0 where
  pub log : l ≤ lg / entry_words
  pub few : l ≤ 4096
  pub meet : MeetRoom k n lk e le

-- r is the first pair of the families of a and b that meets, in an element or at an edge, in whatever run has this log and this mesh
pub record FamiliesMet (in_element : Bool) (a b l : ℕ) (log : List ℕ) (k n : ℕ) (verts : List ℕ) (e : ℕ) (ends : List ℕ) (r : Opt (ℕ × ℕ)) : Type 0 where
  pub is :
      (K : Kind) (R : Run) (lengths : List Float) → log_at l log ≡ map words_of R.log → MeshIn K R.mesh k n verts e ends lengths
      → pair_is r ≡ find (meet in_element K R.mesh) (cross_pairs (family (splits_of R.log) a) (family (splits_of R.log) b))
