-- `split_plan::group_toward` meets its contract. The best of all parts, from the lowest score. Assumes nothing.
use lib.Ieee.{of_bits, neg}
use Rattle.split_plan.specs.Answers.{best_is}
use Rattle.split_plan.proofs.Towards.{toward_is}
use Rattle.split_plan.proofs.group_toward.Goals as goal

pub fan_best-requires : goal.fan_best-requires
fan_best-requires c = record { room = c.requires.room; home_is = c.rest_point-home.ensures; corners_in = c.requires.corners_in }

pub returns : goal.returns
unfolding of_bits neg
returns c = let A = c.args in
    record {
      is =
          λ O M p R q r lp lx lv b.
          toward_is O M p A.points.now r A.x A.v q lx lv c.add-dir.result c.rest_point.result c.rest_point-home.result c.sub.result (best_is c.fan_best.result)
          c.rest_point-home.ensures c.rest_point.ensures c.sub.ensures c.add-dir.ensures (c.fan_best.ensures.is O M p R r lv b);
    }
