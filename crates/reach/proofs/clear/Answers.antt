-- `reach::clear` meets its contract: the filled front holds 0. Assumes nothing.
use native.Mathlib.Omega.{arith}
use borrow.Author.Rules.{rules}
use mathlib.Core.Path.{◌≡◌, ◌∙◌}
use lib.ListN.{length, replicate, take, drop}
use Rattle.std.proofs.lemmas.List.{get_or_append_left, get_or-replicate}
use Rattle.reach.proofs.clear.Goals as goal

pub returns : goal.returns
returns c = λ j l.
    let long : length (take c.args.n c.args.seen.now) ≡ c.args.n = search rules in
    let filled : c.fill.new.self ≡ replicate (length (take c.args.n c.args.seen.now)) 0 = c.fill.ensures.after (λ y e. e) in
    get_or_append_left c.fill.new.self (drop c.args.n c.args.seen.now) 0 j (omega (arith, c.fill.ensures.len, long)) ∙ rw filled (get_or-replicate (length (take c.args.n c.args.seen.now)) j 0 0 (omega (arith, long)))
