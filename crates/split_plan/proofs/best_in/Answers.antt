-- `split_plan::best_in` meets its contract. The invariant: from the best so far the rest of the row leads to the same best as the whole row. Assumes nothing.
use mathlib.Core.Path.{refl, sym, ◌∙◌, ap}
use Prim.Native.Nat.{◌+◌, ◌<◌}
use borrow.Author.Rules.{rules}
use lib.ListN.{length, get_or, drop}
use Rattle.model.specs.Split.{Best}
use Rattle.model.specs.Elements.{besides}
use Rattle.lists.specs.Lists.{fold}
use Rattle.split_plan.specs.Answers.{best_is}
use Rattle.split_plan.proofs.Towards.{scoring, score_in, best_step, besides_out, besides_end}
use Rattle.split_plan.proofs.best_in.Goals as goal
use Rattle.split_plan.proofs.best_in.Goals.{else-w-v, then-w-v}

pub loop-i-init : goal.loop-i-init
loop-i-init c = (search rules, λ M p r l b. refl)

pub rest_point-requires : goal.rest_point-requires
rest_point-requires c = c.requires.corners_in c.loop-i.i (search rules)

pub loop-i-preserved : goal.loop-i-preserved
loop-i-preserved c = let A = c.args in
    let P = c.requires in
    let L = c.loop-i in
    let row = A.row.now in
    let l : L.i < length row = search rules in (
      search rules,
      λ M p r lv below.
          elim c.if-w-v.branch [
            | then-w-v w ↦ best_step M A.v A.dir A.g row L.i (best_is L.best) (best_is c.if-w-v.best) _ w.score.result l w.if-w-v.true
                (score_in M p A.points.now r A.v (get_or row L.i 0) lv (below L.i l) A.home w.rest_point.result w.sub-d.result A.dir w.score.result P.home_is w.rest_point.ensures w.sub-d.ensures w.score.ensures)
                (ap best_is w.best-is ∙ w.better-best.ensures)
                (L.invariant.1 M p r lv below)
            | else-w-v w ↦ ap (λ (b : Best). fold (scoring M A.v A.dir A.g) b (besides A.v (drop (L.i + 1) row))) (ap best_is w.best-is)
                ∙ sym (besides_out (scoring M A.v A.dir A.g) (best_is L.best) A.v row L.i l w.if-w-v.false)
                ∙ L.invariant.1 M p r lv below
          ],
    )

pub returns : goal.returns
returns c = let A = c.args in
    let L = c.loop-i in
    record { is = λ M p r l b. sym (besides_end (scoring M A.v A.dir A.g) (best_is L.best) A.v A.row.now L.i (search rules)) ∙ L.invariant.1 M p r l b }
