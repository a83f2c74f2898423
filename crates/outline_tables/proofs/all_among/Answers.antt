-- `outline::all_among` meets its contract. Assumes nothing.
use Rattle.outline_tables.proofs.Comparing.{within_none, within_on, within_not}
use Rattle.outline_tables.specs.Rows.{sides_at}
use Rattle.outline.specs.Outline.{within}
use mathlib.Core.Bool.{true}
use native.Mathlib.Omega.{arith}
use mathlib.Core.Path.{◌≡◌, sym, subst}
use Prim.Native.Nat.{ℕ}
use Rattle.outline_tables.proofs.all_among.Goals as goal

pub loop-i-init : goal.loop-i-init
loop-i-init c = let a = c.args in (omega arith, within_none (sides_at a.m a.q.now) a.p.now)

pub among-requires : goal.among-requires
among-requires c = c.requires.second

pub loop-i-preserved : goal.loop-i-preserved
loop-i-preserved c = let a = c.args in let l = c.loop-i in (omega arith, within_on (sides_at a.m a.q.now) a.p.now l.i c.among.result l.invariant.1 c.among.ensures c.if-not-among.false)

pub returns-then-not-among : goal.returns-then-not-among
returns-then-not-among c = let a = c.args in let l = c.loop-i in within_not (sides_at a.m a.q.now) a.p.now l.i a.n c.among.result (omega arith) c.among.ensures c.if-not-among.true

pub returns : goal.returns
returns c = let a = c.args in let l = c.loop-i in let e : l.i ≡ a.n = omega arith in sym (subst (λ (k : ℕ). within (sides_at k a.p.now) (sides_at a.m a.q.now) ≡ true) e l.invariant.1)
