use Rattle.crossing.proofs.CrossingLaws.{noted_miss, noted_hit}
use borrow.Author.Rules.{rules}
use Rattle.crossing.proofs.crossings.note_hit.Goals as goal

-- src/crossings.rt:29:9
pub returns-in_default : goal.returns-in_default
returns-in_default c = noted_miss _ _ _ _ _ c.in_default.is

-- src/crossings.rt:24:1
pub returns : goal.returns
returns c = noted_hit _ _ _ _ _ _ _ c.in-Hit.is c.requires.0 c.requires.1
