-- `feeding::shut_reader` meets its contract. Assumes nothing.
use native.Mathlib.Omega.{arith}
use mathlib.Core.Path.{sym, ◌∙◌}
use Rattle.feeding.proofs.Bytes.{open_stands}
use Rattle.feeding.proofs.Steps.{shut_done, shut_late}
use Rattle.feeding.proofs.shut_reader.Goals as goal

pub put_word-requires : goal.put_word-requires
put_word-requires c = omega (arith, (open_stands _ (sym c.standing_of-why.ensures ∙ c.if-why-eq0.true)).0)

pub returns-then-why-eq0 : goal.returns-then-why-eq0
returns-then-why-eq0 c = shut_done _ _ _ c.standing_of-why.ensures (sym c.standing_of-why.ensures ∙ c.if-why-eq0.true) c.put_word.ensures

pub returns-else-why-eq0 : goal.returns-else-why-eq0
returns-else-why-eq0 c = shut_late _ _ c.standing_of-why.ensures (λ e. c.if-why-eq0.false (c.standing_of-why.ensures ∙ e))
