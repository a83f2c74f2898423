-- `links::corner_at` meets its contract: the columns passed do not have v (`Looking` of proofs/Places.antt). Assumes nothing.
use Rattle.links.proofs.Places.{looking_start, looking_found, looking_more, looking_last}
use Rattle.links.proofs.corner_at.Goals as goal

pub loop-c-init : goal.loop-c-init
loop-c-init c = looking_start _ _ _ _ _ c.requires

pub returns-then-corners-q : goal.returns-then-corners-q
returns-then-corners-q c = looking_found _ _ _ _ _ c.requires _ _ c.loop-c.invariant c.if-corners-q.true

pub loop-c-preserved : goal.loop-c-preserved
loop-c-preserved c = looking_more _ _ _ _ _ c.requires _ _ c.loop-c.invariant c.loop-c-test.true c.if-corners-q.false

pub returns : goal.returns
returns c = looking_last _ _ _ _ _ c.requires _ _ c.loop-c.invariant c.loop-c-test.false
