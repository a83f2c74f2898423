-- `bits::bit` meets its contract. Assumes nothing.
use mathlib.Core.Path.{sym}
use Rattle.bits.proofs.Laws.{get_d_bits_of}
use borrow.Author.Rules.{rules}
use Rattle.bits.proofs.bit.Goals as goal

pub returns : goal.returns
returns c =
    let a = c.args in
    (rw (c.from.ensures, c.pow2-p.ensures.is) (sym (get_d_bits_of a.s.now a.at (search rules))), search rules)
