-- `split::settle::note_split` meets its contract: the copies, then the edges that went. Assumes nothing.
use Rattle.split.proofs.NoteLaws.{split_noted}
use Prim.Native.Nat.{ℕ, ◌+◌}
use mathlib.Core.Path.{sym, subst}
use borrow.Author.Rules.{rules}
use Rattle.work.specs.Removal.{ListNoteRoom}
use Rattle.split.proofs.settle.note_split.Goals as goal

pub note_listed-requires : goal.note_listed-requires
note_listed-requires c =
    let A = c.args in
    let P = c.requires in
    subst (λ (n : ℕ). ListNoteRoom A.list.now A.s (A.at + A.m) A.ends.now n) (sym c.note_copies.auto.log) P.listed

pub returns : goal.returns
returns c = split_noted _ _ _ _ _ _ _ _ _ _ _ c.note_copies.ensures c.note_listed.ensures
