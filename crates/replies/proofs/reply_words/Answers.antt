-- `replies::reply_words` meets its contract: the words, where the bytes have room for them. Assumes nothing.
use mathlib.Core.Path.{refl}
use lib.Seq.{take-length}
use Rattle.replies.proofs.Saying.{says_words, says_few}
use borrow.Author.Rules.{rules}
use Rattle.replies.proofs.reply_words.Goals as goal

pub returns-then-out-n : goal.returns-then-out-n
returns-then-out-n c = says_few _ _ _ _ _ c.if-out-n.true refl c.clear_bytes.ensures

pub returns : goal.returns
returns c = says_words _ _ _ _ _ _ (take-length _) c.if-out-n.false refl c.words_out.ensures
