-- `readings::grouping::groups_by` meets its contract: the fan, the test of its sides, and its groups. Assumes nothing.
use mathlib.Core.Path.{refl, sym, subst, ◌∙◌}
use native.Mathlib.Omega.{arith}
use borrow.Author.Tests.{leb-true}
use lib.Seq.{length-take-le}
use Rattle.lists.proofs.Sifts.{and_true}
use Rattle.judge.proofs.Joined.{and_next}
use Rattle.mesh.specs.Given.{given}
use Rattle.mesh_tables.proofs.Accepted.{Few}
use Rattle.mesh_tables.proofs.FanRead.{corners_few, fan_read}
use Rattle.mesh_tables.proofs.Checked.{accepted}
use Rattle.readings.proofs.Grouped.{grid_is, fan_asked, roomy_fan, sides_by, groups_answered, groups_refused, four_of}
use Rattle.readings.proofs.grouping.groups_by.Goals as goal

pub overflow_mul-end : goal.overflow_mul-end
overflow_mul-end c = let P = c.requires in
    let W = subst (Few _) (sym c.corners_per-k.ensures) (corners_few _ _ _ _ _ _ _ _ P.0 P.1 c.fan_corners-n.ensures) in
    omega (arith, W.narrow)

pub slice_bounds-fill_groups-end : goal.slice_bounds-fill_groups-end
slice_bounds-fill_groups-end c = let P = c.requires in
    let A = c.args in
    let W = subst (Few _) (sym c.corners_per-k.ensures) (corners_few _ _ _ _ _ _ _ _ P.0 P.1 c.fan_corners-n.ensures) in
    let w = and_true _ _ (sym c.both-ok.ensures ∙ c.if-ok.true) in
    let r = roomy_fan A.v A.p _ A.sides.now _ c.sides_fit-fit.ensures w.0 _ _ P.2 W in
    omega (arith, r, c.fan_corners-n.auto.verts)

pub slice_bounds-fill_groups-end-then-ok : goal.slice_bounds-fill_groups-end-then-ok
slice_bounds-fill_groups-end-then-ok c = sym (length-take-le _ _ (slice_bounds-fill_groups-end c))

pub fill_groups-requires : goal.fill_groups-requires
fill_groups-requires c = let P = c.requires in
    let A = c.args in
    let W = corners_few _ _ _ _ _ _ _ _ P.0 P.1 c.fan_corners-n.ensures in
    let w = and_true _ _ (sym c.both-ok.ensures ∙ c.if-ok.true) in (
      fan_asked A.v A.p _ A.sides.now _ c.sides_fit-fit.ensures w.0 _ _ W.few (let P = c.requires in
          let A = c.args in
          let W = subst (Few _) (sym c.corners_per-k.ensures) (corners_few _ _ _ _ _ _ _ _ P.0 P.1 c.fan_corners-n.ensures) in
          let w = and_true _ _ (sym c.both-ok.ensures ∙ c.if-ok.true) in
          let r = roomy_fan A.v A.p _ A.sides.now _ c.sides_fit-fit.ensures w.0 _ _ P.2 W in
          omega (arith, r, c.fan_corners-n.auto.verts)),
      leb-true _ _ w.1,
    )

pub returns-then-ok : goal.returns-then-ok
returns-then-ok c = let A = c.args in
    λ points roots volumes lengths outline pe fault.
    let G = given points roots A.corners.now volumes A.ends.now lengths outline in
    let F = fan_read G (accepted G fault) A.v _ c.kind_of-kind.ensures _ _ _ _ c.fan_corners-n.ensures c.corners_per-k.ensures c.facet_others-others.ensures in
    groups_answered G A.v A.sides.now _ _ _ _ _ fault (and_next _ _ _ _ _ c.both-ok.ensures (sides_by F _ _ _ pe c.sides_fit-fit.ensures) refl) c.if-ok.true (grid_is F _ (let P = c.requires in
    let A = c.args in
    let W = subst (Few _) (sym c.corners_per-k.ensures) (corners_few _ _ _ _ _ _ _ _ P.0 P.1 c.fan_corners-n.ensures) in
    let w = and_true _ _ (sym c.both-ok.ensures ∙ c.if-ok.true) in
    let r = roomy_fan A.v A.p _ A.sides.now _ c.sides_fit-fit.ensures w.0 _ _ P.2 W in
    omega (arith, r, c.fan_corners-n.auto.verts))) c.fill_groups.ensures

pub returns : goal.returns
returns c = let A = c.args in
    λ points roots volumes lengths outline pe fault.
    let G = given points roots A.corners.now volumes A.ends.now lengths outline in
    let F = fan_read G (accepted G fault) A.v _ c.kind_of-kind.ensures _ _ _ _ c.fan_corners-n.ensures refl refl in
    groups_refused G A.v A.sides.now _ _ _ (four_of G _ _ fault (and_next _ _ _ _ _ c.both-ok.ensures (sides_by F _ _ _ pe c.sides_fit-fit.ensures) refl) c.if-ok.false) c.clear.ensures
