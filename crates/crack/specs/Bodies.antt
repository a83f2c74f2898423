-- The crack of a whole body over the lent blocks: the torn edges in turn, and what comes behind them. Only contracts between workers need this file. Definitions only.
use Rattle.std.specs.Prelude.{ℕ, ◌/◌, ◌<◌, ◌≤◌, ◌≡◌, List, map, length, get_or, take, ltb, Float}
use Rattle.lists.specs.Lists.{pick, sift, fold, empty}
use Rattle.columns.specs.Block.{cell}
use Rattle.model.specs.Elements.{Kind, Triangles}
use Rattle.model.specs.Run.{Run, splits_of}
use Rattle.model.specs.Pieces.{remove_straddlers_of}
use Rattle.model.specs.Cut.{split_pinched_of}
use Rattle.model.specs.Crack.{loads_of, crack_edge, torn_ends}
use Rattle.mesh.specs.Log.{World}
use Rattle.mesh.specs.declared.Counts.{Counts}
use Rattle.mesh.specs.declared.Rooms.{Rooms}
use Rattle.mesh.specs.Widths.{end_columns}
use Rattle.mesh.specs.Limits.{particle_limit}
use Rattle.work.specs.Working.{Works, Logged}
use Rattle.work.specs.Places.{EndsIn}
use Rattle.work.specs.Ran.{Ran}
use Rattle.tear.specs.Tried.{LoadsLong}

-- ---- the ends of the torn edges in the input

-- what is asked where numbers go into a table of 16 bits each: they fit, and have their places
pub record NarrowRoom (src : List ℕ) (ld : ℕ) : Type 0 where
  pub places : length src ≤ ld
  pub fits : (i : ℕ) → i < length src → get_or src i 0 < 65536

-- e edges stand in their block, their ends are below 1,024, and they have room in two tables
pub record EndsRoom (e : ℕ) (ends : List ℕ) (lf lt : ℕ) : Type 0 where
  pub inside : e ≤ length ends / end_columns
  pub below : EndsIn particle_limit e ends
  pub first : e ≤ lf
  pub second : e ≤ lt

-- the ends of the first e edges stand in two tables
pub record EndsKept (e : ℕ) (ends from to : List ℕ) : Type 0 where
  pub first : (i : ℕ) → i < e → get_or from i 0 ≡ cell 0 (length ends / end_columns) ends 0 i
  pub second : (i : ℕ) → i < e → get_or to i 0 ≡ cell 0 (length ends / end_columns) ends 1 i

-- the ends by those tables of the numbers in a list that are below e
unfoldable pub ends_listed : ℕ → List ℕ → List ℕ → List ℕ → List (ℕ × ℕ)
ends_listed e from to is = map (λ i. (get_or from i 0, get_or to i 0)) (sift (λ i. ltb i e) is)

-- ---- the torn edges in turn

-- the tables hold the ends of e edges, which are numbers of particles, and a load for each triangle; and a log
pub record CracksRoom (K : Kind) (e : ℕ) (from to : List ℕ) (k : Counts) (lo : ℕ) (log : List ℕ) : Type 0 where
  pub first : e ≤ length from
  pub second : e ≤ length to
  pub first_few : (i : ℕ) → i < e → get_or from i 0 < particle_limit
  pub second_few : (i : ℕ) → i < e → get_or to i 0 < particle_limit
  pub loads : LoadsLong K k lo
  pub logged : Logged k.log log

-- the torn edges with these ends in the input are cracked in turn, whatever loads of t triangles stand in the table
pub record CracksTold (K : Kind) (min t : ℕ) (abs : List (ℕ × ℕ)) (loads : List Float) (L : Rooms) (W : World) (at : Counts → World) (r : Ran) : Type 0 where
  pub works : (ls : List Float) → (K ≡ Triangles → take t loads ≡ ls) → Works (λ R. fold (crack_edge K ls min) R abs) L W at r

-- each of the listed torn edges in turn, by its ends in the input and the loads of the input
unfoldable pub crack_turns : Kind → ℕ → List ℕ → Run → Run
crack_turns K min is R = fold (crack_edge K (loads_of K R.mesh) min) R (torn_ends R.mesh is)

-- ---- behind them

-- if anything split, the pinched particles and then the straddlers across pieces
unfoldable pub crack_end : Kind → Run → Run
crack_end K S = pick (empty (splits_of S.log)) S (remove_straddlers_of K (split_pinched_of K S))
