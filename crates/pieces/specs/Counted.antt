-- What the count of pieces asks of a table of elements and promises. Definitions only.
use Rattle.std.specs.Prelude.{ℕ, ◌*◌, ◌≤◌, ◌≡◌, List, length, get_or}
use Rattle.model.specs.Elements.{Element}
use Rattle.model.specs.Pieces.{piece_count}
use Rattle.elements.specs.Table.{Cornered}
use Rattle.reach.specs.Reached.{Plain}
use Rattle.bodies.specs.Bodies.{Corners}

-- The number of pieces, whichever elements the table is of, where none names a particle twice.
pub record PieceNumber (n k : ℕ) (verts : List ℕ) (r : ℕ) : Type 0 where
  pub counted : (es : List Element) → Cornered k es n verts → Plain es → r ≡ piece_count k es

-- The table has n elements of k corners, all below 1,024; there are 4,096 chains, which are empty, a link and a number for each corner, and a place for each element.
pub record SidesLent (n k : ℕ) (verts heads : List ℕ) (links lows places : ℕ) : Type 0 where
  pub corners : Corners n k verts 1024
  pub two : 2 ≤ k
  pub few : n * k ≤ 4096
  pub heads_long : length heads ≡ 4096
  pub empty : (h : ℕ) → get_or heads h 0 ≡ 0
  pub links_long : n * k ≤ links
  pub lows_long : n * k ≤ lows
  pub places_long : places ≡ n
