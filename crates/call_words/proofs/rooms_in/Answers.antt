-- `call_words::rooms_in` meets its contract: each word, at most its limit; or no rooms. Assumes nothing.
use Rattle.call_words.proofs.RoomLaws.{none_limited, made_limited, rooms_made}
use native.Mathlib.Omega.{arith}
use Rattle.call_words.proofs.rooms_in.Goals as goal

-- `call_words::rooms_in` meets its contract: each word, at most its limit; or no rooms. Assumes nothing.
pub returns-then-rooms-ne16 : goal.returns-then-rooms-ne16
returns-then-rooms-ne16 c = (none_limited _, λ e. absurd (c.if-rooms-ne16.true e))

pub returns : goal.returns
returns c =
    let made = rooms_made _ _ _ _ _ _ _ _ _ _ _ c.word_at.ensures.0 c.word_at-2.ensures.0 c.word_at-3.ensures.0 c.word_at-4.ensures.0 c.least.ensures c.least-2.ensures c.least-3.ensures c.least-4.ensures c.least-5.ensures in
    (made_limited _ _ _ made, λ e. made)
