-- `call_words::cut_job` meets its contract: two points and a fraction are read. Assumes nothing.
use native.Mathlib.Omega.{arith}
use Rattle.call_words.proofs.CutLaws.{cut_same}
use Rattle.call_words.proofs.cut_job.Goals as goal

pub returns : goal.returns
returns c = cut_same _ _ _ _ _ _ _ c.point_at-b0.ensures c.point_at-b1.ensures c.number_of-f.ensures
