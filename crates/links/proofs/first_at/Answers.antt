-- `links::first_at` meets its contract: what the table has at a head. Assumes nothing.
use Rattle.links.proofs.first_at.Goals as goal

pub returns : goal.returns
returns c = record { is = λ P k R n corner L h. L.heads _ h }
