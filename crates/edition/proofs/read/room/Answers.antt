-- `edition::read::room` meets its contract. Assumes nothing.
use Rattle.edition.specs.Reading.{room_for}
use mathlib.Core.Path.{◌∙◌, sym}
use borrow.Author.Tests.{le-leb, lt-leb}
use Rattle.edition.proofs.read.room.Goals as goal

pub returns-then-c-lo : goal.returns-then-c-lo
unfolding room_for
returns-then-c-lo c = let h1 = sym c.two_fit.ensures ∙ c.if-two_fit.true in let h2 = sym c.two_fit-then-lb-ge4.ensures ∙ c.if-two_fit-2.true in let h3 = sym c.two_fit-then-two_fit-2.ensures ∙ c.if-two_fit-3.true in sym (rw (h1, le-leb _ _ c.if-lb-ge4.true, h2, h3, le-leb _ _ c.if-c-lo.true))

pub returns-then-two_fit-3 : goal.returns-then-two_fit-3
unfolding room_for
returns-then-two_fit-3 c = let h1 = sym c.two_fit.ensures ∙ c.if-two_fit.true in let h2 = sym c.two_fit-then-lb-ge4.ensures ∙ c.if-two_fit-2.true in let h3 = sym c.two_fit-then-two_fit-2.ensures ∙ c.if-two_fit-3.true in sym (rw (h1, le-leb _ _ c.if-lb-ge4.true, h2, h3, lt-leb _ _ c.if-c-lo.false))

pub returns-then-two_fit-2 : goal.returns-then-two_fit-2
unfolding room_for
returns-then-two_fit-2 c = let h1 = sym c.two_fit.ensures ∙ c.if-two_fit.true in let h2 = sym c.two_fit-then-lb-ge4.ensures ∙ c.if-two_fit-2.true in let h3 = sym c.two_fit-then-two_fit-2.ensures ∙ c.if-two_fit-3.false in sym (rw (h1, le-leb _ _ c.if-lb-ge4.true, h2, h3))

pub returns-then-lb-ge4 : goal.returns-then-lb-ge4
unfolding room_for
returns-then-lb-ge4 c = let h1 = sym c.two_fit.ensures ∙ c.if-two_fit.true in let h2 = sym c.two_fit-then-lb-ge4.ensures ∙ c.if-two_fit-2.false in sym (rw (h1, le-leb _ _ c.if-lb-ge4.true, h2))

pub returns-then-two_fit : goal.returns-then-two_fit
unfolding room_for
returns-then-two_fit c = let h1 = sym c.two_fit.ensures ∙ c.if-two_fit.true in sym (rw (h1, lt-leb _ _ c.if-lb-ge4.false))

pub returns : goal.returns
unfolding room_for
returns c = let h1 = sym c.two_fit.ensures ∙ c.if-two_fit.false in sym (rw h1)
