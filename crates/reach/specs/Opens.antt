-- What `opens_without_confetti` answers, over any elements that the table holds. Definitions only.
use Rattle.std.specs.Prelude.{ℕ, ◌≡◌, Bool, List, map, leb}
use Rattle.lists.specs.Lists.{all, up_to}
use Rattle.fan.specs.Fan.{Distinct}
use Rattle.model.specs.Elements.{Kind, Element, corners_per_of}
use Rattle.model.specs.Split.{Opening, parts_of}
use Rattle.model.specs.Pieces.{reach_labels, reach_of, min_piece_of}
use Rattle.elements.specs.Table.{Cornered, holding}

-- no two elements have one number
abbrev pub Numbered : List Element → Type 0
Numbered es = Distinct (map (λ (e : Element). e.number) es)

-- v's fan among the elements, with these groups
abbrev pub opening_at : ℕ → ℕ → List Element → List ℕ → ℕ → Opening
opening_at v before es groups count = record { v = v; before = before; fan = parts_of (holding v es) groups; count = count }

-- the answer is that each group reaches the minimum piece, for any elements that the first n rows of the table hold
pub record Opens (n k v : ℕ) (verts groups : List ℕ) (count minimum : ℕ) (r : Bool) : Type 0 where
  pub right : (es : List Element) (K : Kind) (before : ℕ) → Cornered k es n verts → Numbered es → corners_per_of K ≡ k
      → r ≡ all (λ g. leb (min_piece_of minimum) (reach_of es (reach_labels K v es) (opening_at v before es groups count) g)) (up_to count)
