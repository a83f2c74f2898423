-- `edition::typed::look_typed` meets its contract. Assumes nothing.
use Rattle.edition.specs.Edition.{typed_seen}
use borrow.Author.Tests.{lt-ltb}
use Rattle.edition.proofs.Editions.{first_seen}
use native.Mathlib.Omega.{arith}
use mathlib.Core.Path.{sym, ◌∙◌}
use Rattle.edition.proofs.typed.look_typed.Goals as goal

-- `edition::typed::look_typed` meets its contract. Assumes nothing.
pub returns-then-s-lt6 : goal.returns-then-s-lt6
unfolding typed_seen
returns-then-s-lt6 c = rw (lt-ltb _ _ c.if-s-lt6.true)

pub look_second-requires : goal.look_second-requires
look_second-requires c = (omega arith, sym c.is_second.ensures ∙ c.if-is_second.true)

pub returns : goal.returns
returns c = c.look.ensures ∙ sym (first_seen c.args.limits c.args.s.now (sym c.is_second.ensures ∙ c.if-is_second.false))
