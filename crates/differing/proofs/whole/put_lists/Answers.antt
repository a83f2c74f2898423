-- `differing::whole::put_lists` meets its contract: the three lists that stand in the bytes. Assumes nothing.
use Rattle.differing.proofs.Wholes.{counts_small, particles_at, triangles_at_lem, ask_particles, ask_triangles, rows_counted}
use Rattle.differences.proofs.Writing.{lists_then, lists_as}
use Rattle.differences.specs.declared.Part.TheVariants.{Particles, Triangles}
use Rattle.differences.specs.Differences.{rows_differ}
use mathlib.Core.List.{List}
use mathlib.Core.Path.{◌∙◌, ap, ap₂}
use Prim.Native.Nat.{ℕ, ◌+◌, ◌*◌}
use native.Mathlib.Omega.{arith}
use Rattle.differing.proofs.whole.put_lists.Goals as goal

-- `differing::whole::put_lists` meets its contract: the three lists that stand in the bytes. Assumes nothing.
pub start_bit-p-requires : goal.start_bit-p-requires
start_bit-p-requires c = c.requires.first.typed.six

pub overflow_mul-p_t : goal.overflow_mul-p_t
overflow_mul-p_t c = let a = c.args in omega (arith, counts_small a.first.now a.c a.left.now c.requires.first, c.start_bit-p.ensures)

pub overflow_add-p_t : goal.overflow_add-p_t
overflow_add-p_t c = let a = c.args in omega (arith, counts_small a.first.now a.c a.left.now c.requires.first, c.start_bit-p.ensures)

pub start_bit-q-requires : goal.start_bit-q-requires
start_bit-q-requires c = c.requires.second.typed.six

pub overflow_mul-q_t : goal.overflow_mul-q_t
overflow_mul-q_t c = let a = c.args in omega (arith, counts_small a.second.now a.d a.right.now c.requires.second, c.start_bit-q.ensures)

pub overflow_add-q_t : goal.overflow_add-q_t
overflow_add-q_t c = let a = c.args in omega (arith, counts_small a.second.now a.d a.right.now c.requires.second, c.start_bit-q.ensures)

pub put_list-one-requires : goal.put_list-one-requires
put_list-one-requires c = let a = c.args in let p = c.requires in ask_particles a.first.now a.c a.left.now a.second.now a.d a.right.now p.first p.second _ _ _ c.start_bit-p.ensures c.start_bit-q.ensures (omega (arith, p.few))

pub put_list-two-requires : goal.put_list-two-requires
put_list-two-requires c = let a = c.args in let p = c.requires in ask_triangles a.first.now a.c a.left.now a.second.now a.d a.right.now p.first p.second _ _ _ (ap (λ (k : ℕ). k + a.c.particles * 23) c.start_bit-p.ensures) (ap (λ (k : ℕ). k + a.d.particles * 23) c.start_bit-q.ensures) (omega (arith, (rows_counted Particles _ _ _ _ a.c.particles a.d.particles 4 c.put_list-one.ensures p.few (omega (arith, counts_small a.first.now a.c a.left.now p.first)) (omega (arith, counts_small a.second.now a.d a.right.now p.second)))))

pub put_edges-requires : goal.put_edges-requires
put_edges-requires c = let a = c.args in let p = c.requires in record { first = p.first; second = p.second; few = rows_counted Triangles _ _ _ _ a.c.triangles a.d.triangles 516 c.put_list-two.ensures (rows_counted Particles _ _ _ _ a.c.particles a.d.particles 4 c.put_list-one.ensures p.few (omega (arith, counts_small a.first.now a.c a.left.now p.first)) (omega (arith, counts_small a.second.now a.d a.right.now p.second))) (omega (arith, counts_small a.first.now a.c a.left.now p.first)) (omega (arith, counts_small a.second.now a.d a.right.now p.second)) }

pub shape_of-out : goal.shape_of-out
shape_of-out c = c.put_edges.auto.out ∙ (c.put_list-two.auto.out ∙ c.put_list-one.auto.out)

pub returns : goal.returns
returns c = let a = c.args in let p = c.requires in lists_then (lists_then (lists_as c.put_list-one.ensures (ap₂ (λ (f g : List (List ℕ)). rows_differ Particles 0 f g) (particles_at a.first.now a.c a.left.now p.first _ c.start_bit-p.ensures) (particles_at a.second.now a.d a.right.now p.second _ c.start_bit-q.ensures))) (lists_as c.put_list-two.ensures (ap₂ (λ (f g : List (List ℕ)). rows_differ Triangles 0 f g) (triangles_at_lem a.first.now a.c a.left.now p.first _ (ap (λ (k : ℕ). k + a.c.particles * 23) c.start_bit-p.ensures)) (triangles_at_lem a.second.now a.d a.right.now p.second _ (ap (λ (k : ℕ). k + a.d.particles * 23) c.start_bit-q.ensures))))) c.put_edges.ensures
