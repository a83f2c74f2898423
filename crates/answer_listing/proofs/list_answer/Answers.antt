-- `answer_listing::list_answer` meets its contract: the line of the refusal, or the listing with the pieces that were counted. Assumes nothing.
use Rattle.answer_listing.proofs.Texts.{done_listable, refused_text, done_text}
use native.Mathlib.Omega.{arith}
use borrow.Author.Rules.{rules}
use Rattle.listing.proofs.Lengths.{refused_few}
use Rattle.answer_listing.proofs.Lengths.{listing_few}
use Rattle.answer_listing.proofs.list_answer.Goals as goal

pub returns-in-Err : goal.returns-in-Err
returns-in-Err g c = refused_text g.E.Tells.told _ _ _ _ _ _ _ _ _ _ _ _ c.in-Err.is c.tell.ensures (record { wrote = c.write_refused.ensures; enough = refused_few _ (search rules) })

pub returns-in-Ok : goal.returns-in-Ok
returns-in-Ok g c =
    let H = done_listable g.E.Tells.told _ _ _ _ _ _ _ c.in-Ok.is c.requires in
    done_text g.E.Tells.told _ _ _ _ _ _ _ _ _ _ _ _ c.in-Ok.is c.count_pieces-found.ensures (record { wrote = c.write_listing.ensures; enough = listing_few _ _ _ _ _ H.2 (λ j. omega (arith, c.shared_slice_known-5-1.given j)) (omega (arith, H.0.few_particles)) (omega (arith, c.count_pieces-found.type_inv)) })
