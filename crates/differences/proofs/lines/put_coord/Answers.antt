-- `differences::lines::put_coord` meets its contract: the number, or a dash and its size. Assumes nothing.
use Rattle.differences.proofs.Writing.{coord_plain, coord_minus}
use mathlib.Core.Path.{refl}
use borrow.Author.Rules.{rules}
use Rattle.differences.proofs.lines.put_coord.Goals as goal

pub returns-then-raw-lt1024 : goal.returns-then-raw-lt1024
returns-then-raw-lt1024 c = coord_plain _ c.if-raw-lt1024.true c.put_plain.ensures

pub returns : goal.returns
returns c = coord_minus _ _ c.if-raw-lt1024.false c.requires refl c.put_text-sign.ensures c.put_number.ensures
