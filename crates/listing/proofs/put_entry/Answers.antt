-- `listing::put_entry` meets its contract: an entry of the kind has its line, another none. Assumes nothing.
use Rattle.listing.proofs.Entries.{entry_listed, entry_other}
use Rattle.listing.proofs.Appending.{appends_none, appends_as}
use Rattle.listing.proofs.put_entry.Goals as goal

pub returns-then-log-place : goal.returns-then-log-place
returns-then-log-place c =
    let a = c.args in
    appends_as (appends_none _ _) (entry_other a.word.now a.kind a.count a.log.now a.i c.if-log-place.true)

pub returns : goal.returns
returns c =
    let a = c.args in
    let pre = c.requires in
    appends_as c.put_words.ensures (entry_listed a.word.now a.kind a.count a.log.now a.i pre.room pre.few c.if-log-place.false)
