-- `reading_c::listed::rest_measure_of` meets its contract: the refusal of bytes that are no words, or the question beside the capped list. Assumes nothing.
use native.Mathlib.Omega.{arith}
use mathlib.Core.Path.{sym}
use lib.Seq.{length-take-le}
use Rattle.reading_c.proofs.Siding.{capped_most}
use Rattle.reading_c.proofs.Listing.{words_within, words_few}
use Rattle.reading_c.proofs.Grouping.{front_few}
use Rattle.reading_c.proofs.Answering.{measure_of_replied, measure_of_ragged}
use Rattle.reading_c.proofs.listed.rest_measure_of.Goals as goal

pub returns-then-list-ne0 : goal.returns-then-list-ne0
returns-then-list-ne0 c = measure_of_ragged _ _ _ _ _ _ c.if-list-ne0.true c.image_asked.ensures

pub words_into-requires : goal.words_into-requires
words_into-requires c = (words_within _ _ c.capped-n.ensures, capped_most c.capped-n.ensures)

pub slice_bounds-words-end : goal.slice_bounds-words-end
slice_bounds-words-end c = omega (arith, capped_most c.capped-n.ensures)

pub slice_bounds-image_asked-end-2 : goal.slice_bounds-image_asked-end-2
slice_bounds-image_asked-end-2 c = sym (length-take-le _ _ ((omega (arith, capped_most c.capped-n.ensures))))

pub image_asked-requires-2 : goal.image_asked-requires-2
image_asked-requires-2 c = front_few _ _ (words_few c.capped-n.ensures)

pub returns : goal.returns
returns c = measure_of_replied _ _ _ _ _ _ _ c.if-list-ne0.false c.capped-n.ensures c.words_into.ensures c.image_asked-2.ensures
