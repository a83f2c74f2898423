-- `exact::sign_of` meets its contract. Assumes nothing.
use Rattle.std.proofs.Common.{◌∙◌}
use lib.Ieee.{lt, of_bits}
use Rattle.lists.specs.Lists.{pick}
use Rattle.float.specs.Numbers.{zero32}
use Rattle.exact.specs.declared.Sign.TheVariants.{Left, On, Right}
use Rattle.exact.specs.Signs.{sign_in}
use Rattle.exact.proofs.Picks.{picked, passed}
use Rattle.exact.proofs.sign_of.Goals as goal

-- `exact::sign_of` meets its contract. Assumes nothing.
pub returns-then-x : goal.returns-then-x
unfolding of_bits sign_in
returns-then-x c =
    let x = c.args.x in
    picked (lt zero32 x) Left (pick (lt x zero32) Right On) c.if-x.true

pub returns-then-x-2 : goal.returns-then-x-2
unfolding of_bits sign_in
returns-then-x-2 c =
    let x = c.args.x in
    picked (lt x zero32) Right On c.if-x-2.true ∙ passed (lt zero32 x) Left (pick (lt x zero32) Right On) c.if-x.false

pub returns : goal.returns
unfolding of_bits sign_in
returns c =
    let x = c.args.x in
    passed (lt x zero32) Right On c.if-x-2.false ∙ passed (lt zero32 x) Left (pick (lt x zero32) Right On) c.if-x.false
