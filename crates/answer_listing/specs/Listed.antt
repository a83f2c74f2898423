-- What the listing of an answer asks, and its text. Only the contracts between workers need this file. Definitions only.
use Rattle.std.specs.Prelude.{ℕ, ◌*◌, ◌/◌, ◌≤◌, ◌≡◌, Bool, true, List, length, Float, Result, Ok, Err}
use Rattle.lists.specs.Lists.{any, all}
use Rattle.model.specs.Mesh.{Triangle, Edge}
use Rattle.model.specs.Valid.{corners_ok, ends_ok}
use Rattle.model.specs.Elements.{structural?, kind_by, corners_per_of}
use Rattle.model.specs.Pieces.{piece_count}
use Rattle.mesh.specs.At.{triangles_at, edges_at}
use Rattle.mesh.specs.Log.{log_at}
use Rattle.mesh.specs.declared.Counts.{Counts}
use Rattle.elements.specs.Table.{elements_in}
use Rattle.call_frame.specs.declared.Answer.{Answer}
use Rattle.listing.specs.Listing.{listing_bytes, refused_bytes}
use Rattle.mesh.specs.declared.refusals.Refusal.{Refusal}
use Rattle.mesh.specs.Refused.{number_of}

-- the pieces of triangles and edges: `pieces` reads no more of a mesh
unfoldable pub pieces_in : List Triangle → List Edge → ℕ
pieces_in ts es = let K = kind_by ts (any structural? es) in piece_count (corners_per_of K) (elements_in K ts es)

-- the fronts of blocks hold few triangles and edges, which name particles
pub record Countable (k : Counts) (c : List ℕ) (v : List Float) (e : List ℕ) (l : List Float) : Type 0 where
  pub few_particles : k.particles ≤ 256
  pub few_triangles : k.triangles ≤ 128
  pub few_edges : k.edges ≤ 512
  pub corners : k.triangles ≤ length c / 3
  pub volumes : k.triangles ≤ length v / 2
  pub ends : k.edges ≤ length e / 4
  pub lengths : k.edges ≤ length l / 4
  pub triangle_names : all (corners_ok k.particles) (triangles_at k.triangles c v) ≡ true
  pub edge_names : all (ends_ok k.particles) (edges_at k.edges e l) ≡ true

-- what is asked for the listing of an answer: of counts, that the blocks hold so many rows, and few log entries
abbrev pub Listable : {E : Type 0} → Result Answer E → List ℕ → List Float → List ℕ → List Float → ℕ → Type 0
Listable (Err d) c v e l g = Unit {0}
Listable (Ok a) c v e l g = Countable a.counts c v e l × (6 * a.counts.log ≤ g) × (a.counts.log ≤ 640)

-- the text of an answer, from the blocks that it goes with, with the line of a replaced outline or without, where `told` tells a refusal's number
abbrev pub text_of_by : {E : Type 0} → (E → ℕ) → Bool → Result Answer E → List ℕ → List Float → List ℕ → List Float → List ℕ → List ℕ
text_of_by told replaced (Err d) c v e l g = refused_bytes (told d)
text_of_by told replaced (Ok a) c v e l g = listing_bytes replaced (log_at a.counts.log g) a.counts.particles (pieces_in (triangles_at a.counts.triangles c v) (edges_at a.counts.edges e l))

-- the same of an answer whose refusal is a `Refusal`
abbrev pub text_of : Bool → Result Answer Refusal → List ℕ → List Float → List ℕ → List Float → List ℕ → List ℕ
text_of = text_of_by number_of
