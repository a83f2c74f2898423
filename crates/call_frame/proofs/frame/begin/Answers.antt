-- `call_frame::frame::begin` meets its contract: a refusal that is there, the room that lacks, or the copy. Assumes nothing.
use mathlib.Core.Path.{sym, ◌∙◌}
use Rattle.mesh.specs.Given.{given, mesh_of}
use Rattle.mesh.proofs.Refused.{refused_some, refused_as, refused_not}
use Rattle.call_frame.proofs.Begun.{copy_asked, begun_lacking, begun_copied, begun_as}
use Rattle.call_frame.proofs.frame.begin.Goals as goal

pub returns-in-Err : goal.returns-in-Err
returns-in-Err g c =
    let A = c.args in
    begun_lacking _ _ (given A.in_points.now A.in_roots.now A.in_corners.now A.in_volumes.now A.in_ends.now A.in_lengths.now A.in_outline.now) _ _ (sym c.tell.ensures ∙ c.if-tell-ne0.false)
    (c.refuse.ensures ∙ refused_as c.in-Err.is ∙ c.lacking.ensures) (λ z. refused_some c.in-Err.e (sym c.refuse.ensures ∙ z))

pub copy_all-requires : goal.copy_all-requires
copy_all-requires g c = let asked = (let A = c.args in
    copy_asked _ (given A.in_points.now A.in_roots.now A.in_corners.now A.in_volumes.now A.in_ends.now A.in_lengths.now A.in_outline.now) _ _ _ c.requires (sym c.tell.ensures ∙ c.if-tell-ne0.false) c.lacking.ensures (refused_not c.in_default.is)) in record { fits = asked.0; holds = asked.1 }

pub returns : goal.returns
unfolding mesh_of
returns g c =
    let A = c.args in
    let none = sym c.tell.ensures ∙ c.if-tell-ne0.false in
    begun_as (begun_copied _ _ (given A.in_points.now A.in_roots.now A.in_corners.now A.in_volumes.now A.in_ends.now A.in_lengths.now A.in_outline.now) _ _ none c.lacking.ensures (refused_not c.in_default.is) c.copy_all.ensures) none
