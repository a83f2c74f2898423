-- `reading_c::tiny::tiny_groups` meets its contract: the tiny blocks have room. Assumes nothing.
use Rattle.reading_c.proofs.Tininess.{tiny_loadable}
use Rattle.reading_c.proofs.tiny.tiny_groups.Goals as goal

pub groups_loaded-requires : goal.groups_loaded-requires
groups_loaded-requires c = let P = c.requires in (P.0, P.1, tiny_loadable _ P.0 P.2)
