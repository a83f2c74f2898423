-- `mending::put_cause` meets its contract. Assumes nothing.
use Rattle.listing.proofs.Appending.{appends_none, appends_as}
use Rattle.mending.proofs.Lines.{cause_absent, cause_twice, cause_none}
use Rattle.mending.proofs.put_cause.Goals as goal

pub returns-then-code-eq1 : goal.returns-then-code-eq1
returns-then-code-eq1 c = let a = c.args in appends_as c.put_drop.ensures (cause_absent a.word.now a.place a.code c.if-code-eq1.true)

pub returns-then-code-eq2 : goal.returns-then-code-eq2
returns-then-code-eq2 c = let a = c.args in appends_as c.put_drop-then-code-eq2.ensures (cause_twice a.word.now a.place a.code c.if-code-eq1.false c.if-code-eq2.true)

pub returns : goal.returns
returns c = let a = c.args in appends_as (appends_none _ _) (cause_none a.word.now a.place a.code c.if-code-eq1.false c.if-code-eq2.false)
