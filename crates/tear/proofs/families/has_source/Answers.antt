use Prim.Native.Nat.{◌+◌, ◌*◌}
use native.Mathlib.Omega.{arith}
use Rattle.tear.proofs.FamilyLaws.{source_told, source_none}
use borrow.Author.Rules.{rules}
use Rattle.tear.proofs.families.has_source.Goals as goal

pub overflow_cast-log : goal.overflow_cast-log
overflow_cast-log c = omega (arith, c.shared_slice_known-then-log-o-eq1-1.given (6 * c.args.i + 2))

pub returns-then-log-o-eq1 : goal.returns-then-log-o-eq1
returns-then-log-o-eq1 c = let A = c.args in source_told A.log.now A.i A.list.now _ c.if-log-o-eq1.true c.stands_in.ensures

pub returns : goal.returns
returns c = let A = c.args in source_none A.log.now A.i A.list.now c.if-log-o-eq1.false
