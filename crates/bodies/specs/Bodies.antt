-- What the functions on bodies ask of a table of elements and promise. Definitions only.
use Rattle.std.specs.Prelude.{ℕ, ◌*◌, ◌<◌, ◌≤◌, ◌≡◌, List, length, get_or}
use Rattle.lists.specs.Lists.{pick}
use Rattle.lists.specs.Labels.{Lowest}
use Rattle.model.specs.Elements.{Element}
use Rattle.elements.specs.Table.{Cornered}
use Rattle.piece_classes.specs.Classes.{held_by, Together}

-- The first n * k numbers of a table are corners, k to each of n elements, below a count of particles.
pub record Corners (n k : ℕ) (verts : List ℕ) (particles : ℕ) : Type 0 where
  pub width : (1 ≤ k) × (k ≤ 3)
  pub few : n ≤ 2048
  pub room : n * k ≤ length verts
  pub below : (t : ℕ) → t < n * k → get_or verts t 0 < particles

-- Each particle has the lowest particle of its body, whichever elements the table is of. A root is not above its particle, and is its own.
pub record BodyRoots (n k : ℕ) (verts roots : List ℕ) : Type 0 where
  pub lowest : (es : List Element) → Cornered k es n verts → Lowest (Together es) (length roots) roots
  pub down : (x : ℕ) → x < length roots → get_or roots x 0 ≤ x
  pub flat : (x : ℕ) → x < length roots → get_or roots (get_or roots x 0) 0 ≡ get_or roots x 0

-- 1 at each particle that some element holds, 0 at the others.
pub record UsedMarked (n k : ℕ) (verts used : List ℕ) : Type 0 where
  pub marks : (es : List Element) → Cornered k es n verts → (x : ℕ) → x < length used → get_or used x 0 ≡ pick (held_by es x) 1 0
