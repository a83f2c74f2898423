-- `crossmarks::note_pair` meets its contract. Assumes nothing.
use Rattle.crossmarks.proofs.NotingLaws.{pair_miss, pair_written, pair_counted}
use Rattle.marks.specs.Marking.{blade_by}
use mathlib.Core.Path.{ap, ◌∙◌}
use mathlib.Core.Logic.{⊎_elim}
use lib.ListN.{length}
use native.Mathlib.Omega.{arith}
use borrow.Author.Rules.{rules}
use Rattle.crossmarks.proofs.note_pair.Goals as goal
use Rattle.crossmarks.proofs.note_pair.Goals.{else-n-log, then-n-log}

pub returns-in_default : goal.returns-in_default
returns-in_default c =
    let A = c.args in
    pair_miss (blade_by A.rule A.b0 A.b1) A.points.now A.x A.y _ _ _ A.n _ c.place.ensures c.place-2.ensures c.tested-hit.ensures c.in_default.is

pub shape_of-log : goal.shape_of-log
shape_of-log c = elim c.if-n-log.branch [
  | then-n-log w ↦ ap length w.log-is ∙ w.note.auto.log
  | else-n-log w ↦ ap length w.log-is
]

pub returns : goal.returns
returns c =
    let A = c.args in
    let P = c.place.ensures in
    let Q = c.place-2.ensures in
    let H = c.tested-hit.ensures in
    elim c.if-n-log.branch [
      | then-n-log w ↦ pair_written (blade_by A.rule A.b0 A.b1) A.points.now A.x A.y _ _ _ _ _ A.n _ _ _ _ _ _ P Q H c.in-Hit.is w.bits_of-at_x.ensures w.bits_of-at_y.ensures w.bits_of.ensures w.note.ensures w.log-is
      | else-n-log w ↦ pair_counted (blade_by A.rule A.b0 A.b1) A.points.now A.x A.y _ _ _ _ _ A.n _ _ P Q H c.in-Hit.is (omega (arith, w.if-n-log.false))
    ]
