-- `differing::whole::put_edges` meets its contract: the edges behind the particles and the triangles. Assumes nothing.
use Rattle.differing.proofs.Wholes.{counts_small, edges_at, ask_edges}
use Rattle.differences.proofs.Writing.{lists_as}
use Rattle.differences.specs.declared.Part.TheVariants.{Edges}
use Rattle.differences.specs.Differences.{rows_differ}
use mathlib.Core.List.{List}
use mathlib.Core.Path.{ap, ap₂}
use Prim.Native.Nat.{ℕ, ◌+◌, ◌*◌}
use native.Mathlib.Omega.{arith}
use Rattle.differing.proofs.whole.put_edges.Goals as goal

-- `differing::whole::put_edges` meets its contract: the edges behind the particles and the triangles. Assumes nothing.
pub start_bit-requires : goal.start_bit-requires
start_bit-requires c = c.requires.first.typed.six

pub overflow_mul-p : goal.overflow_mul-p
overflow_mul-p c = let a = c.args in omega (arith, counts_small a.first.now a.c a.left.now c.requires.first, c.start_bit.ensures)

pub overflow_add-p : goal.overflow_add-p
overflow_add-p c = let a = c.args in omega (arith, counts_small a.first.now a.c a.left.now c.requires.first, c.start_bit.ensures)

pub overflow_mul-p-2 : goal.overflow_mul-p-2
overflow_mul-p-2 c = let a = c.args in omega (arith, counts_small a.first.now a.c a.left.now c.requires.first, c.start_bit.ensures)

pub overflow_add-p-2 : goal.overflow_add-p-2
overflow_add-p-2 c = let a = c.args in omega (arith, counts_small a.first.now a.c a.left.now c.requires.first, c.start_bit.ensures)

pub start_bit-requires-2 : goal.start_bit-requires-2
start_bit-requires-2 c = c.requires.second.typed.six

pub overflow_mul-q : goal.overflow_mul-q
overflow_mul-q c = let a = c.args in omega (arith, counts_small a.second.now a.d a.right.now c.requires.second, c.start_bit-2.ensures)

pub overflow_add-q : goal.overflow_add-q
overflow_add-q c = let a = c.args in omega (arith, counts_small a.second.now a.d a.right.now c.requires.second, c.start_bit-2.ensures)

pub overflow_mul-q-2 : goal.overflow_mul-q-2
overflow_mul-q-2 c = let a = c.args in omega (arith, counts_small a.second.now a.d a.right.now c.requires.second, c.start_bit-2.ensures)

pub overflow_add-q-2 : goal.overflow_add-q-2
overflow_add-q-2 c = let a = c.args in omega (arith, counts_small a.second.now a.d a.right.now c.requires.second, c.start_bit-2.ensures)

pub put_list-requires : goal.put_list-requires
put_list-requires c = let a = c.args in let p = c.requires in ask_edges a.first.now a.c a.left.now a.second.now a.d a.right.now p.first p.second _ _ _ (ap (λ (k : ℕ). k + a.c.particles * 23 + a.c.triangles * 30) c.start_bit.ensures) (ap (λ (k : ℕ). k + a.d.particles * 23 + a.d.triangles * 30) c.start_bit-2.ensures) (omega (arith, p.few))

pub shape_of-out : goal.shape_of-out
shape_of-out c = c.put_list.auto.out

pub returns : goal.returns
returns c = let a = c.args in let p = c.requires in lists_as c.put_list.ensures (ap₂ (λ (f g : List (List ℕ)). rows_differ Edges 0 f g) (edges_at a.first.now a.c a.left.now p.first _ (ap (λ (k : ℕ). k + a.c.particles * 23 + a.c.triangles * 30) c.start_bit.ensures)) (edges_at a.second.now a.d a.right.now p.second _ (ap (λ (k : ℕ). k + a.d.particles * 23 + a.d.triangles * 30) c.start_bit-2.ensures)))
