-- The pair that stands for a torn edge, and which of its ways goes first. Only contracts between workers need this file. Definitions only.
use Rattle.std.specs.Prelude.{ℕ, ◌/◌, ◌<◌, ◌≤◌, ◌≡◌, Bool, true, List, take, ltb, Float, Option, None, Some}
use Rattle.float.specs.Order.{total_cmp_of}
use Rattle.model.specs.Mesh.{Mesh}
use Rattle.model.specs.Valid.{indices_fit_of}
use Rattle.model.specs.Elements.{Kind, Triangles}
use Rattle.model.specs.Run.{Run, splits_of}
use Rattle.lists.specs.Lists.{find}
use Rattle.model.specs.Crack.{family, cross_pairs, current_pair, mean_load, ahead}
use Rattle.mesh.specs.Log.{World, world_of}
use Rattle.mesh.specs.declared.Counts.{Counts}
use Rattle.mesh.specs.Widths.{entry_words}
use Rattle.mesh.specs.Limits.{entry_limit}
use Rattle.elements.specs.Table.{TableRoom}
use Rattle.tear.specs.Families.{pair_is, meet}

-- the elements, the edges and the log stand in their blocks, and the indices of the mesh fit
pub record PairReady (k : Counts) (lc lv le ll lg : ℕ) (M : Mesh) : Type 0 where
  pub table : TableRoom k.triangles k.edges lc lv le ll 2048 4096 2048
  pub log : k.log ≤ lg / entry_words
  pub few_log : k.log ≤ entry_limit
  pub indices : indices_fit_of M ≡ true

-- the particles of a pair, if it has any, are below p
abbrev pub PairBelow : ℕ → Option (ℕ × ℕ) → Type 0
PairBelow p None = Unit {0}
PairBelow p (Some (x, y)) = (x < p) × (y < p)

-- r is the first pair of the families of a and b that meets, in an element or at an edge, in whatever run the blocks hold
pub record PairMetNow (in_element : Bool) (K : Kind) (a b : ℕ) (W : World) (r : Option (ℕ × ℕ)) : Type 0 where
  pub is : (R : Run) → W ≡ world_of R.mesh R.log → pair_is r ≡ find (meet in_element K R.mesh) (cross_pairs (family (splits_of R.log) a) (family (splits_of R.log) b))

-- r stands for the torn edge (a, b) in whatever run the blocks hold, and its particles are there
pub record PairNow (K : Kind) (a b p : ℕ) (W : World) (r : Option (ℕ × ℕ)) : Type 0 where
  pub is : (R : Run) → W ≡ world_of R.mesh R.log → pair_is r ≡ current_pair K R (a, b)
  pub below : PairBelow p r

-- r tells whether the way at y goes before the way at x, by the loads at the front of the table where the elements are t triangles
pub record Turned (K : Kind) (x y t : ℕ) (loads : List Float) (M : Mesh) (r : Bool) : Type 0 where
  pub is : (ls : List Float) → (K ≡ Triangles → take t loads ≡ ls) → r ≡ ahead (total_cmp_of (mean_load K ls M y x) (mean_load K ls M x y)) (ltb y x)
