-- `links::link_pairs` meets its contract: the room of two columns of w, and the table that is built in it (proofs/Parts.antt). Assumes nothing.
use Rattle.links.proofs.Parts.{pairs_room, pairs_built}
use Rattle.links.proofs.link_pairs.Goals as goal

pub build_links-requires : goal.build_links-requires
build_links-requires c = (pairs_room c.requires.0 c.requires.1, c.requires.2)

pub returns : goal.returns
returns c = pairs_built c.requires.1 c.build_links.auto.table c.build_links.ensures
