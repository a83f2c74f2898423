-- `reading_c::fans::open_in` meets its contract: the question is asked beside the capped sides. Assumes nothing.
use Prim.Native.Nat.{ℕ}
use native.Mathlib.Omega.{arith}
use lib.ListN.{length-replicate}
use Rattle.reading_c.proofs.Siding.{capped_within, capped_most}
use Rattle.reading_c.proofs.Grouping.{front_few}
use Rattle.reading_c.proofs.Answering.{opens_replied}
use Rattle.reading_c.proofs.fans.open_in.Goals as goal

pub whole_as_slice-bytes_into : goal.whole_as_slice-bytes_into
whole_as_slice-bytes_into g c = omega (arith, c.requires.1)

pub bytes_into-requires : goal.bytes_into-requires
bytes_into-requires g c = (capped_within c.requires.2, rw (length-replicate {A = ℕ} g.row.N 0) c.requires.0)

pub image_asked-requires : goal.image_asked-requires
image_asked-requires g c = front_few _ _ (capped_most c.requires.2)

pub returns : goal.returns
returns g c = opens_replied _ _ _ _ _ _ _ _ _ c.requires.2 c.bytes_into.ensures c.image_asked.ensures
