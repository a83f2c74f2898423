-- `sheetcut::list_blocks` meets its contract: the answer of the cut is listed. Assumes nothing.
use mathlib.Core.Path.{refl}
use Rattle.mesh.specs.Given.{given, mesh_of, sizes_fit_of}
use Rattle.mesh.proofs.Agree.{lent_path}
use Rattle.sheetcut.proofs.Cutting.{lent_listable, lent_listed}
use Rattle.sheetcut.proofs.list_blocks.Goals as goal

pub list_answer-requires : goal.list_answer-requires
list_answer-requires c =
    let A = c.args in
    let G = given A.points.now A.roots.now A.corners.now A.volumes.now A.ends.now A.lengths.now A.outline.now in
    let W = c.cut-a in
    lent_listable (sizes_fit_of G) (mesh_of G) (record { from = A.b0; to = A.b1 }) _ W.result _ W.new.points W.new.roots W.new.corners W.new.volumes W.new.ends W.new.lengths W.new.outline W.new.log W.ensures refl
    (lent_path _ _ W.auto.points W.auto.roots W.auto.corners W.auto.volumes W.auto.ends W.auto.lengths W.auto.outline W.auto.log)

pub returns : goal.returns
returns c =
    let A = c.args in
    let G = given A.points.now A.roots.now A.corners.now A.volumes.now A.ends.now A.lengths.now A.outline.now in
    let W = c.cut-a in
    lent_listed (sizes_fit_of G) (mesh_of G) (record { from = A.b0; to = A.b1 }) _ W.result _ W.new.points W.new.roots W.new.corners W.new.volumes W.new.ends W.new.lengths W.new.outline W.new.log W.ensures refl
    (lent_path _ _ W.auto.points W.auto.roots W.auto.corners W.auto.volumes W.auto.ends W.auto.lengths W.auto.outline W.auto.log) _ _ _ _ c.fraction.ensures c.list_answer.ensures
