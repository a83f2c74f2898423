-- `mending::put_double` meets its contract. Assumes nothing.
use Rattle.listing.proofs.Appending.{appends_none, appends_as}
use Rattle.mending.proofs.Lines.{double_told, double_none}
use Rattle.mending.proofs.put_double.Goals as goal

pub returns-then-code-eq3 : goal.returns-then-code-eq3
returns-then-code-eq3 c = let a = c.args in appends_as c.put_drop.ensures (double_told a.word.now a.place a.code c.if-code-eq3.true)

pub returns : goal.returns
returns c = let a = c.args in appends_as (appends_none _ _) (double_none a.word.now a.place a.code c.if-code-eq3.false)
