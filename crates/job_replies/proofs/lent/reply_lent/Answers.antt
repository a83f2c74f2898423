-- `job_replies::lent::reply_lent` meets its contract: the refusal of a check, or the reply to a job that nothing refused. Assumes nothing.
use mathlib.Core.Path.{refl, sym, ◌∙◌}
use Rattle.mesh.proofs.Refused.{refused_some}
use Rattle.mesh.proofs.Agree.{lent_path}
use Rattle.call_frame.proofs.Begun.{roomed_still}
use Rattle.mesh_replies.proofs.Places.{fits_still}
use Rattle.job_replies.proofs.Tearings.{judged}
use Rattle.job_replies.proofs.Asked.{job_small, job_accepted, job_replied, job_turned}
use Rattle.job_replies.proofs.CutDown.{fits_as}
use Rattle.job_replies.proofs.lent.reply_lent.Goals as goal

-- `job_replies::lent::reply_lent` meets its contract: the refusal of a check, or the reply to a job that nothing refused. Assumes nothing.
pub image_counts-k-requires : goal.image_counts-k-requires
image_counts-k-requires c = c.requires.0

pub place_image-requires : goal.place_image-requires
place_image-requires c = (c.requires.0, c.image_counts-k.ensures, fits_as c.requires.2 c.image_counts-k.ensures)

pub judge_sized-fault-requires : goal.judge_sized-fault-requires
judge_sized-fault-requires c = let K = c.place_image.auto in fits_still (fits_as c.requires.2 c.image_counts-k.ensures) K.points K.roots K.corners K.volumes K.ends K.lengths K.outline

pub refuse-requires : goal.refuse-requires
refuse-requires c = let A = c.args in job_small A.job A.list.now A.bytes.now A.rooms.now A.room _ _ (judged A.job A.list.now A.bytes.now A.room c.requires.0 _ _ _ _ _ _ _ _ _ c.image_counts-k.ensures c.place_image.ensures c.judge_sized-fault.ensures) (c.number.ensures ∙ c.in-Err.ensures)

pub shape_of-points-in-Err : goal.shape_of-points-in-Err
shape_of-points-in-Err c = c.place_image.auto.points

pub shape_of-roots-in-Err : goal.shape_of-roots-in-Err
shape_of-roots-in-Err c = c.place_image.auto.roots

pub shape_of-corners-in-Err : goal.shape_of-corners-in-Err
shape_of-corners-in-Err c = c.place_image.auto.corners

pub shape_of-volumes-in-Err : goal.shape_of-volumes-in-Err
shape_of-volumes-in-Err c = c.place_image.auto.volumes

pub shape_of-ends-in-Err : goal.shape_of-ends-in-Err
shape_of-ends-in-Err c = c.place_image.auto.ends

pub shape_of-lengths-in-Err : goal.shape_of-lengths-in-Err
shape_of-lengths-in-Err c = c.place_image.auto.lengths

pub shape_of-outline-in-Err : goal.shape_of-outline-in-Err
shape_of-outline-in-Err c = c.place_image.auto.outline

pub shape_of-out-in-Err : goal.shape_of-out-in-Err
shape_of-out-in-Err c = c.refuse.auto.out

pub shape_of-log-in-Err : goal.shape_of-log-in-Err
shape_of-log-in-Err c = c.refuse.auto.log

pub returns-in-Err : goal.returns-in-Err
returns-in-Err c = let A = c.args in job_turned A.job A.list.now A.bytes.now A.rooms.now A.room _ _ (judged A.job A.list.now A.bytes.now A.room c.requires.0 _ _ _ _ _ _ _ _ _ c.image_counts-k.ensures c.place_image.ensures c.judge_sized-fault.ensures) (c.number.ensures ∙ c.in-Err.ensures) _ _ _ _ _ (λ h. refused_some c.in-Err.e (sym c.number.ensures ∙ h)) c.refuse.ensures

pub reply_accepted-requires : goal.reply_accepted-requires
reply_accepted-requires c =
    let A = c.args in
    let K = c.place_image.auto in
    (c.requires.0, c.requires.1, roomed_still c.requires.3 (lent_path _ _ K.points K.roots K.corners K.volumes K.ends K.lengths K.outline refl), job_accepted A.job A.list.now A.bytes.now A.rooms.now A.room _ _ (judged A.job A.list.now A.bytes.now A.room c.requires.0 _ _ _ _ _ _ _ _ _ c.image_counts-k.ensures c.place_image.ensures c.judge_sized-fault.ensures) c.in_default.ensures refl, c.place_image.ensures)

pub shape_of-points : goal.shape_of-points
shape_of-points c = c.reply_accepted.auto.points ∙ c.place_image.auto.points

pub shape_of-roots : goal.shape_of-roots
shape_of-roots c = c.reply_accepted.auto.roots ∙ c.place_image.auto.roots

pub shape_of-corners : goal.shape_of-corners
shape_of-corners c = c.reply_accepted.auto.corners ∙ c.place_image.auto.corners

pub shape_of-volumes : goal.shape_of-volumes
shape_of-volumes c = c.reply_accepted.auto.volumes ∙ c.place_image.auto.volumes

pub shape_of-ends : goal.shape_of-ends
shape_of-ends c = c.reply_accepted.auto.ends ∙ c.place_image.auto.ends

pub shape_of-lengths : goal.shape_of-lengths
shape_of-lengths c = c.reply_accepted.auto.lengths ∙ c.place_image.auto.lengths

pub shape_of-outline : goal.shape_of-outline
shape_of-outline c = c.reply_accepted.auto.outline ∙ c.place_image.auto.outline

pub shape_of-words : goal.shape_of-words
shape_of-words c = c.reply_accepted.auto.words

pub shape_of-out : goal.shape_of-out
shape_of-out c = c.reply_accepted.auto.out

pub shape_of-log : goal.shape_of-log
shape_of-log c = c.reply_accepted.auto.log

pub returns : goal.returns
returns c = let A = c.args in job_replied A.job A.list.now A.bytes.now A.rooms.now A.room _ _ (judged A.job A.list.now A.bytes.now A.room c.requires.0 _ _ _ _ _ _ _ _ _ c.image_counts-k.ensures c.place_image.ensures c.judge_sized-fault.ensures) c.in_default.ensures _ _ _ _ _ refl c.reply_accepted.ensures
