-- `replies::reply_one` meets its contract: one word, where the bytes have room for it. Assumes nothing.
use native.Mathlib.Omega.{arith}
use mathlib.Core.Path.{◌≡◌, refl, sym, subst, ◌∙◌, ap}
use mathlib.Core.List.{[], ◌∷◌}
use Rattle.replies.proofs.Saying.{says, says_short}
use borrow.Author.Rules.{rules}
use Rattle.replies.proofs.reply_one.Goals as goal

pub returns-then-out-lt4 : goal.returns-then-out-lt4
returns-then-out-lt4 c = says_short (_ ∷ []) _ _ _ c.if-out-lt4.true refl c.clear_bytes.ensures

pub returns : goal.returns
returns c = says (_ ∷ []) _ _ _ c.if-out-lt4.false refl c.write_one.ensures
