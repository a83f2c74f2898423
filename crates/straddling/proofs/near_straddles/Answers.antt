-- `straddling::near_straddles` meets its contract: an edge that is not near does not straddle. Assumes nothing.
use Rattle.straddling.proofs.StraddlerLaws.{told_far_first, told_far_second}
use Rattle.columns.proofs.Cells.{col_0, col_1}
use native.Mathlib.Omega.{arith}
use Prim.Native.Nat.{◌/◌}
use lib.ListN.{length}
use borrow.Author.Rules.{rules}
use Rattle.straddling.proofs.near_straddles.Goals as goal

pub bounds-near-a : goal.bounds-near-a
bounds-near-a c = let A = c.args in
    let P = c.requires in
    omega (arith, col_0 0 (length A.ends.now / 4) A.ends.now A.i, P.2.ends_in.first A.i P.1, P.2.places)

pub returns-then-near-a-ne1 : goal.returns-then-near-a-ne1
returns-then-near-a-ne1 c = told_far_first _ _ _ _ _ _ _ _ _ _ _ _ _ c.requires.0.ring c.requires.2 c.requires.1 c.if-near-a-ne1.true

pub bounds-near-b : goal.bounds-near-b
bounds-near-b c = let A = c.args in
    let P = c.requires in
    omega (arith, col_1 0 (length A.ends.now / 4) A.ends.now A.i, P.2.ends_in.second A.i P.1, P.2.places)

pub returns-then-near-b-ne1 : goal.returns-then-near-b-ne1
returns-then-near-b-ne1 c = told_far_second _ _ _ _ _ _ _ _ _ _ _ _ _ c.requires.0.ring c.requires.2 c.requires.1 c.if-near-b-ne1.true

pub straddles-requires : goal.straddles-requires
straddles-requires c = let P = c.requires in (P.0, P.1, P.2.ends_in, P.3, P.4)

pub returns : goal.returns
returns c = c.straddles.ensures
