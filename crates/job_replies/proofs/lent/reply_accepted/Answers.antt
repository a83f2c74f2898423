-- `job_replies::lent::reply_accepted` meets its contract: the room that lacks, or the reply to the work. Assumes nothing.
use mathlib.Core.Path.{refl, sym, ◌∙◌}
use Rattle.mesh.proofs.Refused.{refused_some}
use Rattle.mesh.specs.Given.{mesh_of}
use Rattle.call_frame.proofs.Begun.{begun_lacking, begun_copied}
use Rattle.image.specs.Image.{image_of}
use Rattle.mesh_replies.proofs.Places.{lacking_as}
use Rattle.job_replies.proofs.Tearings.{accepted_begun, lack_small, lack_replied}
use Rattle.job_replies.proofs.lent.reply_accepted.Goals as goal

-- `job_replies::lent::reply_accepted` meets its contract: the room that lacks, or the reply to the work. Assumes nothing.
pub image_counts-k-requires : goal.image_counts-k-requires
image_counts-k-requires c = c.requires.0

pub refuse-requires : goal.refuse-requires
refuse-requires c = let A = c.args in lack_small A.job A.list.now A.bytes.now A.room c.requires.0 (mesh_of (image_of A.bytes.now)) _ (begun_lacking 0 _ (image_of A.bytes.now) (mesh_of (image_of A.bytes.now)) _ refl (lacking_as _ (image_of A.bytes.now) _ _ c.image_counts-k.ensures (c.number.ensures ∙ c.in-Err.ensures)) (λ h. refused_some c.in-Err.e (sym c.number.ensures ∙ h)))

pub shape_of-out-in-Err : goal.shape_of-out-in-Err
shape_of-out-in-Err c = c.refuse.auto.out

pub shape_of-log-in-Err : goal.shape_of-log-in-Err
shape_of-log-in-Err c = c.refuse.auto.log

pub returns-in-Err : goal.returns-in-Err
returns-in-Err c = let A = c.args in lack_replied A.job A.list.now A.bytes.now A.room c.requires.0 (mesh_of (image_of A.bytes.now)) _ _ _ _ _ _ c.requires.3 (begun_lacking 0 _ (image_of A.bytes.now) (mesh_of (image_of A.bytes.now)) _ refl (lacking_as _ (image_of A.bytes.now) _ _ c.image_counts-k.ensures (c.number.ensures ∙ c.in-Err.ensures)) (λ h. refused_some c.in-Err.e (sym c.number.ensures ∙ h))) (λ h. refused_some c.in-Err.e (sym c.number.ensures ∙ h)) c.refuse.ensures

pub reply_work-requires : goal.reply_work-requires
reply_work-requires c = let A = c.args in (c.requires.0, c.requires.1, c.requires.2, accepted_begun A.job A.list.now A.bytes.now A.room _ 0 c.requires.3 (begun_copied 0 _ (image_of A.bytes.now) _ _ refl (lacking_as _ (image_of A.bytes.now) _ _ c.image_counts-k.ensures c.in_default.ensures) refl c.requires.4) refl)

pub shape_of-points : goal.shape_of-points
shape_of-points c = c.reply_work.auto.points

pub shape_of-roots : goal.shape_of-roots
shape_of-roots c = c.reply_work.auto.roots

pub shape_of-corners : goal.shape_of-corners
shape_of-corners c = c.reply_work.auto.corners

pub shape_of-volumes : goal.shape_of-volumes
shape_of-volumes c = c.reply_work.auto.volumes

pub shape_of-ends : goal.shape_of-ends
shape_of-ends c = c.reply_work.auto.ends

pub shape_of-lengths : goal.shape_of-lengths
shape_of-lengths c = c.reply_work.auto.lengths

pub shape_of-outline : goal.shape_of-outline
shape_of-outline c = c.reply_work.auto.outline

pub shape_of-words : goal.shape_of-words
shape_of-words c = c.reply_work.auto.words

pub shape_of-out : goal.shape_of-out
shape_of-out c = c.reply_work.auto.out

pub shape_of-log : goal.shape_of-log
shape_of-log c = c.reply_work.auto.log

pub returns : goal.returns
returns c = c.reply_work.ensures
