-- Marked edges and boundary entries go from the blocks, and edges that go are noted in the log, the marked or the listed. Only contracts between workers need this file. Definitions only.
use Rattle.std.specs.Prelude.{ℕ, ◌+◌, ◌/◌, ◌<◌, ◌≤◌, ◌≡◌, Bool, List, ◌++◌, map, length, get_or, take, eqb, Float, Ok, Err}
use Rattle.lists.specs.Lists.{sift, keep, up_to}
use Rattle.columns.specs.Block.{cell}
use Rattle.mesh.specs.At.{edges_at, boundary_at}
use Rattle.mesh.specs.Log.{Words, log_at}
use Rattle.mesh.specs.Workers.{EdgeRoom}
use Rattle.mesh.specs.declared.Counts.{Counts}
use Rattle.mesh.specs.declared.Rooms.{Rooms}
use Rattle.mesh.specs.Widths.{end_columns, length_columns, side_columns, entry_words}
use Rattle.mesh.specs.Limits.{particle_limit}
use Rattle.work.specs.Places.{EndsIn}
use Rattle.work.specs.Ran.{Ran}
use Rattle.model.specs.Refusals.{entry_refusal}
use Rattle.mesh.specs.Refused.{number_of}

-- ---- masks

-- is place j marked
abbrev pub marked : List ℕ → ℕ → Bool
marked mask j = eqb (get_or mask j 0) 1

-- the marked places below n, in their order
unfoldable pub marked_of : List ℕ → ℕ → List ℕ
marked_of mask n = sift (marked mask) (up_to n)

-- ---- the log, and the blocks

-- the words that tell that edge j went
abbrev pub gone_words : List ℕ → ℕ → Words
gone_words ends j = record { kind = 2; a = cell 0 (length ends / end_columns) ends 0 j; b = cell 0 (length ends / end_columns) ends 1 j; p = 0; q = 0; t = 0 }

-- what the notes of the marked edges among the first n ask, behind `at` entries: ends are numbers of particles, which a word holds
pub record NoteRoom (mask : List ℕ) (n at : ℕ) (ends : List ℕ) (lg : ℕ) : Type 0 where
  pub mask_long : n ≤ length mask
  pub ends_long : n ≤ length ends / end_columns
  pub ends_in : EndsIn particle_limit n ends
  pub log_long : at + length (marked_of mask n) ≤ lg / entry_words

-- the marked edges stand in the log behind the `at` entries, and it has r entries
pub record EdgesNoted (mask : List ℕ) (n at : ℕ) (ends log log' : List ℕ) (r : ℕ) : Type 0 where
  pub count : r ≡ at + length (marked_of mask n)
  pub entries : log_at r log' ≡ log_at at log ++ map (gone_words ends) (marked_of mask n)

-- what the notes of s listed edges ask, behind `at` entries: they are among the first `rows` edges, whose ends are numbers of particles
pub record ListNoteRoom (list : List ℕ) (s at : ℕ) (ends : List ℕ) (lg : ℕ) : Type 0 where
  pub rows : ℕ
  pub few : s ≤ length list
  pub below : (i : ℕ) → i < s → get_or list i 0 < rows
  pub ends_long : rows ≤ length ends / end_columns
  pub ends_in : EndsIn particle_limit rows ends
  pub log_long : at + s ≤ lg / entry_words

-- the s listed edges stand in the log behind the `at` entries, in the order of the list, and it has r entries
pub record ListNoted (list : List ℕ) (s at : ℕ) (ends log log' : List ℕ) (r : ℕ) : Type 0 where
  pub count : r ≡ at + s
  pub entries : log_at r log' ≡ log_at at log ++ map (gone_words ends) (take s list)

-- what the removal of marked edges asks: s of the first n edges are marked
pub record MarkedRoom (mask : List ℕ) (n s le ll : ℕ) : Type 0 where
  pub long : n ≤ length mask
  pub counted : s ≡ length (marked_of mask n)
  pub rows : EdgeRoom n le ll

-- what the removal of the marked asks, where s edges are marked
pub record GoneRoom (L : Rooms) (k : Counts) (s : ℕ) (edge_mask : List ℕ) (side_mask : ℕ) (ends : List ℕ) (ll lo lg : ℕ) : Type 0 where
  pub marked_are : s ≡ length (marked_of edge_mask k.edges)
  pub edge_mask_long : k.edges ≤ length edge_mask
  pub side_mask_long : k.boundary ≤ side_mask
  pub ends_long : k.edges ≤ length ends / end_columns
  pub ends_in : EndsIn particle_limit k.edges ends
  pub lengths_long : k.edges ≤ ll / length_columns
  pub outline_long : k.boundary ≤ lo / side_columns
  pub log_in : k.log ≤ L.log
  pub log_long : L.log ≤ lg / entry_words

-- the marked are gone from the blocks, and the edges among them are noted
pub record BlocksGone (L : Rooms) (k q : Counts) (edge_mask side_mask ends ends' : List ℕ) (lengths lengths' : List Float) (outline outline' log log' : List ℕ) : Type 0 where
  pub particles : q.particles ≡ k.particles
  pub triangles : q.triangles ≡ k.triangles
  pub few_edges : q.edges ≤ k.edges
  pub few_boundary : q.boundary ≤ k.boundary
  pub few_log : q.log ≤ L.log
  pub edges : edges_at q.edges ends' lengths' ≡ keep edge_mask (edges_at k.edges ends lengths)
  pub boundary : boundary_at q.boundary outline' ≡ keep side_mask (boundary_at k.boundary outline)
  pub entries : log_at q.log log' ≡ log_at k.log log ++ map (gone_words ends) (marked_of edge_mask k.edges)

-- what was told of the removal: the log lacks room; or the new counts
abbrev pub GoneTo : Rooms → Counts → List ℕ → List ℕ → List ℕ → List ℕ → List Float → List Float → List ℕ → List ℕ → List ℕ → List ℕ → Ran → Type 0
GoneTo L k edge_mask side_mask ends ends' lengths lengths' outline outline' log log' (Err c) = (number_of c ≡ entry_refusal) × (L.log < k.log + length (marked_of edge_mask k.edges))
GoneTo L k edge_mask side_mask ends ends' lengths lengths' outline outline' log log' (Ok q) = BlocksGone L k q edge_mask side_mask ends ends' lengths lengths' outline outline' log log'
