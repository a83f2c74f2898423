-- `sheetcut::list_cut` meets its contract: the refusal of the sheet, or the listing of a whole one. Assumes nothing.
use borrow.Author.Rules.{rules}
use Rattle.listing.proofs.Lengths.{refused_few}
use mathlib.Core.Path.{sym, ◌∙◌}
use Rattle.sheetcut.proofs.Cutting.{whole_listed, refused_listed}
use Rattle.sheetcut.proofs.list_cut.Goals as goal

pub list_whole-requires : goal.list_whole-requires
list_whole-requires c = sym c.look-seen.ensures ∙ c.in-Ok.is

pub returns-in-Ok : goal.returns-in-Ok
returns-in-Ok c = whole_listed c.args.bytes.now _ _ _ _ _ (sym c.look-seen.ensures ∙ c.in-Ok.is) c.list_whole.ensures

pub returns-in-Err : goal.returns-in-Err
returns-in-Err c = refused_listed c.args.bytes.now _ _ _ _ (sym c.look-seen.ensures ∙ c.in-Err.is) (record { wrote = rw c.number.ensures at c.write_refused.ensures; enough = refused_few _ (search rules) })
