-- `listing::put_number` meets its contract: the digits of the tenth, then the last. The measure is the number. Assumes nothing.
use Rattle.listing.proofs.Appending.{number_small, number_more}
use Rattle.listing.proofs.+put_number.Goals as goal

pub returns-then-n-lt10 : goal.returns-then-n-lt10
returns-then-n-lt10 t c = number_small _ c.put_byte.ensures c.digit.ensures c.if-n-lt10.true

pub returns : goal.returns
returns t c = number_more _ c.put_number-front.ensures c.put_byte-2.ensures c.digit-2.ensures c.if-n-lt10.false
