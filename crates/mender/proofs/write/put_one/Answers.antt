-- `mender::write::put_one` meets its contract. Assumes nothing.
use Rattle.mender.proofs.Puts.{one_put, one_left, step_at}
use Prim.Native.Nat.{◌+◌}
use native.Mathlib.Omega.{arith}
use Rattle.mender.proofs.write.put_one.Goals as goal

pub put_row-requires : goal.put_row-requires
put_row-requires c = let p = c.requires in let z = step_at c.args.code (c.args.w0 + c.args.w1 + c.args.w2) c.if-code-eq0.true in record { room = omega (arith, p.lent); small = omega (arith, p.short); narrow0 = p.narrow0; narrow1 = p.narrow1; narrow2 = p.narrow2 }

pub overflow_add-result-then-code-eq0-2 : goal.overflow_add-result-then-code-eq0-2
overflow_add-result-then-code-eq0-2 c = let p = c.requires in let z = step_at c.args.code (c.args.w0 + c.args.w1 + c.args.w2) c.if-code-eq0.true in omega (arith, p.short)

pub returns-then-code-eq0 : goal.returns-then-code-eq0
returns-then-code-eq0 c = let a = c.args in one_put a.s.now _ _ a.at a.to a.w0 a.w1 a.w2 a.code _ _ _ c.if-code-eq0.true c.field-a.ensures.0 c.field-b.ensures.0 c.field-c.ensures.0 c.put_row.ensures

pub returns : goal.returns
returns c = let a = c.args in one_left a.s.now a.out.now a.at a.to a.w0 a.w1 a.w2 a.code c.if-code-eq0.false
