use Prim.Native.Nat.{◌+◌, ◌-◌, ◌/◌}
use native.Mathlib.Omega.{arith}
use mathlib.Core.Path.{refl, ◌∙◌}
use lib.ListN.{length, length-set}
use Rattle.tear.proofs.TearLaws.{Hurting, hurting_start, hurting_more, hurting_done, two_set}
use borrow.Author.Rules.{rules}
use Rattle.tear.proofs.tears.damage.Goals as goal

pub bounds-roots-size-2 : goal.bounds-roots-size-2
bounds-roots-size-2 c = simp length-set (omega (arith, c.requires.y_in))

pub loop-g-init : goal.loop-g-init
loop-g-init c = hurting_start _ _ _ _

pub bounds-roots-size-in-loop-g : goal.bounds-roots-size-in-loop-g
bounds-roots-size-in-loop-g c = let e = two_set c.args.roots.now (length c.args.roots.now / 2 + c.args.x) (length c.args.roots.now / 2 + c.args.y) in omega (arith, c.loop-g.invariant.hurts.long, c.requires.copies_in, c.loop-g-test.true)

pub loop-g-preserved : goal.loop-g-preserved
loop-g-preserved c = let e = two_set c.args.roots.now (length c.args.roots.now / 2 + c.args.x) (length c.args.roots.now / 2 + c.args.y) in
    hurting_more _ _ _ _ _ _ c.loop-g.invariant c.loop-g-test.true c.requires.copies_in (omega arith)

pub shape_of-roots : goal.shape_of-roots
shape_of-roots c = c.loop-g.invariant.hurts.long ∙ two_set c.args.roots.now (length c.args.roots.now / 2 + c.args.x) (length c.args.roots.now / 2 + c.args.y)

pub returns : goal.returns
returns c = hurting_done c.args.x c.args.y _ _ _ _ _ _ refl c.requires.x_in c.requires.y_in c.loop-g.invariant (search rules)
