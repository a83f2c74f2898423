-- `edition::typed::counts_in` meets its contract. Assumes nothing.
use mathlib.Core.Path.{sym, ◌∙◌, subst}
use mathlib.Core.List.{List}
use Prim.Native.Nat.{ℕ}
use Rattle.bits.specs.Bits.{bits_of}
use Rattle.sheet.specs.Work.{CountsRead}
use Rattle.edition.proofs.Starts.{in_second, in_first}
use Rattle.edition.proofs.typed.counts_in.Goals as goal

pub returns-then-is_second : goal.returns-then-is_second
returns-then-is_second c =
    let l = bits_of c.args.s.now in
    let e = sym c.is_second.ensures ∙ c.if-is_second.true in
    subst (λ (x : List ℕ). CountsRead x c.counted_second.result) (sym (in_second l e)) c.counted_second.ensures

pub returns : goal.returns
returns c =
    let l = bits_of c.args.s.now in
    let e = sym c.is_second.ensures ∙ c.if-is_second.false in
    subst (λ (x : List ℕ). CountsRead x c.counted.result) (sym (in_first l e)) c.counted.ensures
