-- `bench_c::meshes::bench_pieces` meets its contract: the body is crate reading_c's. Assumes nothing.
use Rattle.bench_c.proofs.meshes.bench_pieces.Goals as goal

pub returns : goal.returns
returns c = c.pieces.ensures
