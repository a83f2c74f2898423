-- `job_replies::lent::reply_work` meets its contract: what the worker came to is told. Assumes nothing.
use mathlib.Core.Path.{refl}
use Rattle.mesh.proofs.Agree.{lent_path}
use Rattle.call_frame.proofs.Begun.{roomed_still}
use Rattle.job_replies.proofs.Tearings.{work_asked, work_telling, work_replied}
use native.Mathlib.Omega.{arith}
use Rattle.job_replies.proofs.lent.reply_work.Goals as goal

-- `job_replies::lent::reply_work` meets its contract: what the worker came to is told. Assumes nothing.
pub image_counts-k-requires : goal.image_counts-k-requires
image_counts-k-requires c = c.requires.0

pub work-ran-requires : goal.work-ran-requires
work-ran-requires c =
    let A = c.args in
    let W = work_asked A.job A.list.now A.bytes.now A.room c.requires.0 A.points.now A.roots.now A.corners.now A.volumes.now A.ends.now A.lengths.now A.outline.now A.words.now _ c.image_counts-k.ensures c.requires.3 c.requires.2 in
    (W.0, W.1, W.2, omega arith)

pub reply_ran-requires : goal.reply_ran-requires
reply_ran-requires c =
    let K = c.work-ran.auto in
    let A = c.args in
    work_telling A.job A.list.now A.bytes.now A.room c.requires.0 _ _ _ _ _ _ _ _ _ c.image_counts-k.ensures c.requires.3 _ _ _ _ _ _ _ _ _ _ c.work-ran.ensures _ (roomed_still c.requires.2 (lent_path _ _ K.points K.roots K.corners refl K.ends K.lengths K.outline K.log)) c.requires.1

pub shape_of-points : goal.shape_of-points
shape_of-points c = c.work-ran.auto.points

pub shape_of-roots : goal.shape_of-roots
shape_of-roots c = c.work-ran.auto.roots

pub shape_of-corners : goal.shape_of-corners
shape_of-corners c = c.work-ran.auto.corners

pub shape_of-ends : goal.shape_of-ends
shape_of-ends c = c.work-ran.auto.ends

pub shape_of-lengths : goal.shape_of-lengths
shape_of-lengths c = c.work-ran.auto.lengths

pub shape_of-outline : goal.shape_of-outline
shape_of-outline c = c.work-ran.auto.outline

pub shape_of-words : goal.shape_of-words
shape_of-words c = c.work-ran.auto.log

pub shape_of-out : goal.shape_of-out
shape_of-out c = c.reply_ran.auto.out

pub shape_of-log : goal.shape_of-log
shape_of-log c = c.reply_ran.auto.log

pub returns : goal.returns
returns c =
    let K = c.work-ran.auto in
    let A = c.args in
    work_replied A.job A.list.now A.bytes.now A.room c.requires.0 _ _ _ _ _ _ _ _ _ c.image_counts-k.ensures c.requires.3 _ _ _ _ _ _ _ _ _ _ c.work-ran.ensures _ _ _ _ _ (roomed_still c.requires.2 (lent_path _ _ K.points K.roots K.corners refl K.ends K.lengths K.outline K.log)) c.requires.1 c.reply_ran.ensures
