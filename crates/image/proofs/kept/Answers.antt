-- `image::kept` meets its contract: its two cases. Assumes nothing.
use mathlib.Core.Path.{refl}
use borrow.Author.Tests.{lt-ltb, le-ltb}
use Rattle.image.proofs.kept.Goals as goal

-- `image::kept` meets its contract: its two cases. Assumes nothing.
pub returns-then-word-gt2139095040 : goal.returns-then-word-gt2139095040
returns-then-word-gt2139095040 c = rw (lt-ltb 2139095040 _ c.if-word-gt2139095040.true) refl

pub returns : goal.returns
returns c = rw (le-ltb 2139095040 _ c.if-word-gt2139095040.false) refl
