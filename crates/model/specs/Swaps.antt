-- What a line drawn the other way leaves the same in edition 2. Definitions only.
use Rattle.std.specs.Prelude.{◌≡◌, map, Float}
use Rattle.std.specs.Float.Ieee.{eq}
use Rattle.lists.specs.Lists.{pick}
use Rattle.float.specs.Numbers.{zero32}
use Rattle.blade.specs.declared.Point.{Point}
use Rattle.model.specs.Run.{Entry, split, edge, insert, opened, met}
use Rattle.model.specs.Cut.{Line, Blade, exact}
use Rattle.model.specs.Calls.{Outcome, refused, done}

-- the blade along a line by the exact rule
abbrev pub exactly : Line → Blade
exactly B = record { line = B; rule = exact }

-- a number, but zero without its sign
abbrev pub plain : Float → Float
plain x = pick (eq x zero32) zero32 x

-- both coordinates so
abbrev pub plain_point : Point → Point
plain_point p = record { x = plain p.x; y = plain p.y }

-- a log entry, but in the mark of a crossing the zeros of its point and of its fraction without their signs
abbrev pub plain_mark : Entry → Entry
plain_mark (split c v) = split c v
plain_mark (edge a b) = edge a b
plain_mark (insert a b p q t) = insert a b p q t
plain_mark (opened a b) = opened a b
plain_mark (met a b p t) = met a b (plain_point p) (plain t)

-- an answer with the entries of its log taken so
abbrev pub but_marks : Outcome → Outcome
but_marks (refused n) = refused n
but_marks (done M l c) = done M (map plain_mark l) c

-- Two answers are the same, but for the signs of zeros in the marks of crossings: the same refusal; or both done, with the same mesh, the same word on whether anything
-- changed, and logs that are as long and agree entry by entry, in their order: splits and removals to the bit, marks in the pair and, as numbers, in point and fraction.
abbrev pub SameButMarks : Outcome → Outcome → Type 0
SameButMarks o o' = but_marks o ≡ but_marks o'
