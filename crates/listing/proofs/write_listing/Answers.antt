-- `listing::write_listing` meets its contract: seven pieces from nothing on, then the end. Assumes nothing.
use Rattle.listing.proofs.Appending.{listing_written, wrote}
use Rattle.mesh.specs.Log.{log_at}
use mathlib.Core.Path.{◌∙◌}
use Rattle.listing.proofs.write_listing.Goals as goal

pub shape_of-out : goal.shape_of-out
shape_of-out c = c.finish.auto.out ∙ c.put_line-at-3.auto.out ∙ c.put_line-at-2.auto.out ∙ c.put_entries-at-3.auto.out ∙ c.put_entries-at-2.auto.out ∙ c.put_entries-at.auto.out ∙ c.put_replaced-at.auto.out ∙ c.put_line-at.auto.out

pub returns : goal.returns
returns c = let a = c.args in
    wrote
    (listing_written a.replaced (log_at a.entries a.log.now) a.particles a.pieces c.put_line-at.ensures c.put_replaced-at.ensures c.put_entries-at.ensures c.put_entries-at-2.ensures
    c.put_entries-at-3.ensures c.put_line-at-2.ensures c.put_line-at-3.ensures)
    c.finish.ensures
    (c.put_line-at-3.auto.out ∙ c.put_line-at-2.auto.out ∙ c.put_entries-at-3.auto.out ∙ c.put_entries-at-2.auto.out ∙ c.put_entries-at.auto.out ∙ c.put_replaced-at.auto.out ∙ c.put_line-at.auto.out)
