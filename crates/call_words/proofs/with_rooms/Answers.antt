-- `call_words::with_rooms` meets its contract: the number, or 4 in the place of none and of a later one. Assumes nothing.
use native.Mathlib.Omega.{arith}
use mathlib.Core.Path.{sym, ◌∙◌}
use Rattle.call_words.proofs.RoomLaws.{rooms_right, rooms_none, rooms_late}
use Rattle.call_words.proofs.with_rooms.Goals as goal

pub returns-then-sixteen : goal.returns-then-sixteen
returns-then-sixteen g c = rooms_right _ _ c.if-sixteen.true

pub returns-then-number-eq0 : goal.returns-then-number-eq0
returns-then-number-eq0 g c = c.refuse.ensures ∙ rooms_none _ _ c.if-sixteen.false (sym c.tell-number.ensures ∙ c.if-number-eq0.true)

pub returns-then-number-lt4 : goal.returns-then-number-lt4
returns-then-number-lt4 g c =
    rooms_late _ _ _ c.if-sixteen.false (λ z. c.if-number-eq0.false (c.tell-number.ensures ∙ z)) (omega (arith, c.tell-number.ensures, c.if-number-lt4.true))

pub returns-else-number-lt4 : goal.returns-else-number-lt4
returns-else-number-lt4 g c =
    c.refuse-else-number-lt4.ensures
    ∙ rooms_late _ _ _ c.if-sixteen.false (λ z. c.if-number-eq0.false (c.tell-number.ensures ∙ z)) (omega (arith, c.tell-number.ensures, c.if-number-lt4.false))
