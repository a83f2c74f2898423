-- `differing::whole::put_counts` meets its contract: one count behind the other. Assumes nothing.
use Rattle.differences.specs.declared.Part.TheVariants.{Particles, Triangles, Edges}
use Rattle.differing.proofs.Wholes.{count_counted}
use Rattle.differences.proofs.Writing.{lists_then}
use mathlib.Core.Path.{◌∙◌}
use native.Mathlib.Omega.{arith}
use Rattle.differing.proofs.whole.put_counts.Goals as goal

pub put_count-two-requires : goal.put_count-two-requires
put_count-two-requires c = let a = c.args in omega (arith, count_counted Particles a.c.particles a.d.particles 0 c.put_count-one.ensures (omega arith))

pub put_count-three-requires : goal.put_count-three-requires
put_count-three-requires c = let a = c.args in omega (arith, count_counted Triangles a.c.triangles a.d.triangles 1 c.put_count-two.ensures (count_counted Particles a.c.particles a.d.particles 0 c.put_count-one.ensures (omega arith)))

pub put_count-requires : goal.put_count-requires
put_count-requires c = let a = c.args in omega (arith, count_counted Edges a.c.edges a.d.edges 2 c.put_count-three.ensures (count_counted Triangles a.c.triangles a.d.triangles 1 c.put_count-two.ensures (count_counted Particles a.c.particles a.d.particles 0 c.put_count-one.ensures (omega arith))))

pub shape_of-out : goal.shape_of-out
shape_of-out c = c.put_count.auto.out ∙ (c.put_count-three.auto.out ∙ (c.put_count-two.auto.out ∙ c.put_count-one.auto.out))

pub returns : goal.returns
returns c = lists_then (lists_then (lists_then c.put_count-one.ensures c.put_count-two.ensures) c.put_count-three.ensures) c.put_count.ensures
