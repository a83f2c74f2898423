-- `edition::typed::names_second` meets its contract. Assumes nothing.
use Rattle.edition.proofs.Editions.{names_second}
use Rattle.bits.proofs.Laws.{length_bits_of}
use Rattle.bits.specs.Bits.{bits_of}
use native.Mathlib.Omega.{arith}
use mathlib.Core.Path.{sym, ◌∙◌}
use Rattle.edition.proofs.typed.names_second.Goals as goal

pub returns-then-rows_ok : goal.returns-then-rows_ok
returns-then-rows_ok c = let a = c.args in
    let p = c.requires in
    let e = sym c.rows_ok.ensures ∙ c.if-rows_ok.true in
    c.rows_ok-then-rows_ok.ensures ∙ sym (names_second (bits_of a.s.now) (omega (arith, p.room, length_bits_of a.s.now)) a.c p.none ∙ rw e)

pub returns-else-rows_ok : goal.returns-else-rows_ok
returns-else-rows_ok c = let a = c.args in
    let p = c.requires in
    let e = sym c.rows_ok.ensures ∙ c.if-rows_ok.false in
    sym (names_second (bits_of a.s.now) (omega (arith, p.room, length_bits_of a.s.now)) a.c p.none ∙ rw e)
