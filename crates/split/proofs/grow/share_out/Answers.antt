-- `split::grow::share_out` meets its contract: the copies by the weights of their groups and the total of all. Assumes nothing.
use borrow.Author.Rules.{rules}
use Rattle.split.proofs.grow.share_out.Goals as goal

pub returns : goal.returns
returns c =
    let T = c.total_weight-total.ensures in
    let C = c.copy_particles.ensures in
    record { particles = λ O at count_is G W. C.particles O (record { at = at; count_is = count_is; grouped = G; weighted = W; total_is = T.is O G W count_is }) }
