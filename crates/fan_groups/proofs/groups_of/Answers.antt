-- `fan_groups::groups_of` meets its contract: the groups are the sides where no corner need be shared; else the labels are spread, then numbered, one side after the other.
-- Assumes nothing.
use native.Mathlib.Omega.{arith}
use Rattle.fan.specs.Fan.{fan}
use Rattle.fan.specs.Groups.{labels_of}
use Rattle.fan.proofs.Numbering.{turned_none}
use Rattle.fan.proofs.Grouped.{labels_tops, counted}
use Rattle.fan_groups.proofs.BySides.{sided_counted}
use borrow.Author.Rules.{rules}
use Rattle.fan_groups.proofs.groups_of.Goals as goal

pub returns-then-needed-eq0 : goal.returns-then-needed-eq0
returns-then-needed-eq0 c =
    let A = c.args in
    let F = fan A.verts.now A.k A.v A.needed A.sides.now in
    sided_counted F c.if-needed-eq0.true c.requires.two c.groups_by_side.ensures

pub number_side-low-requires : goal.number_side-low-requires
number_side-low-requires c =
    let A = c.args in
    let F = fan A.verts.now A.k A.v A.needed A.sides.now in
    let S = c.spread_labels.ensures in
    record { turning = (labels_of F, (labels_tops F, turned_none S.long S.labels)); from_in_bounds = search rules }

pub number_side-requires : goal.number_side-requires
number_side-requires c =
    let A = c.args in
    let F = fan A.verts.now A.k A.v A.needed A.sides.now in
    let S = c.spread_labels.ensures in
    let N = c.number_side-low.ensures in
    record { turning = (labels_of F, (labels_tops F, N.turns (labels_of F) (labels_tops F) (turned_none S.long S.labels))); from_in_bounds = omega arith }

pub returns : goal.returns
returns c =
    let A = c.args in
    let F = fan A.verts.now A.k A.v A.needed A.sides.now in
    let S = c.spread_labels.ensures in
    let N = c.number_side-low.ensures in
    let O = c.number_side.ensures in
    let T = labels_tops F in
    counted F _ _ c.requires.two (O.turns (labels_of F) T (N.turns (labels_of F) T (turned_none S.long S.labels)))
