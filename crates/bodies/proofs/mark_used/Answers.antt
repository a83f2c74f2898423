-- `bodies::mark_used` meets its contract. The invariant: the first t corners are marked, and no other particle. Assumes nothing.
use borrow.Author.Rules.{rules}
use native.Mathlib.Omega.{arith}
use mathlib.Core.Path.{◌≡◌, refl, ◌∙◌, subst}
use Prim.Native.Nat.{ℕ, ◌*◌, ◌<◌, ◌≤◌, ◌-◌}
use lib.ListN.{length, get_or, take, length-set}
use Rattle.std.proofs.lemmas.List.{get_or-replicate}
use Rattle.bodies.specs.Tables.{Marked}
use Rattle.bodies.proofs.Marks.{marked_none, marked_corner, used_marked}
use Rattle.bodies.proofs.mark_used.Goals as goal

pub overflow_mul-total : goal.overflow_mul-total
overflow_mul-total c =
    let P = c.requires in
    omega (arith, P.room)

pub loop-t-init : goal.loop-t-init
loop-t-init c =
    let K = c.fill in
    (search rules, refl, marked_none K.new.self (λ x h. rw (K.ensures.after (λ y e. e)) (get_or-replicate (length c.args.used.now) x 0 0 (omega (arith, K.ensures.len)))))

pub offset_bounds-verts-t : goal.offset_bounds-verts-t
offset_bounds-verts-t c =
    let P = c.requires in
    omega (arith, P.room)

pub bounds-verts-t : goal.bounds-verts-t
bounds-verts-t c =
    let P = c.requires in
    omega (arith, P.room)

pub offset_bounds-used-x : goal.offset_bounds-used-x
offset_bounds-used-x c =
    let A = c.args in
    let P = c.requires in
    let L = c.loop-t in
    let K = c.fill in
    let h : get_or A.verts.now L.t 0 < length L.used = omega (arith, P.below L.t (search rules), L.invariant.1, K.auto.self) in
    omega arith

pub bounds-used-x : goal.bounds-used-x
bounds-used-x c =
    let A = c.args in
    let P = c.requires in
    let L = c.loop-t in
    let K = c.fill in
    let h : get_or A.verts.now L.t 0 < length L.used = omega (arith, P.below L.t (search rules), L.invariant.1, K.auto.self) in
    h

pub loop-t-preserved : goal.loop-t-preserved
loop-t-preserved c =
    let A = c.args in
    let P = c.requires in
    let L = c.loop-t in
    let K = c.fill in
    let h : get_or A.verts.now L.t 0 < length L.used = omega (arith, P.below L.t (search rules), L.invariant.1, K.auto.self) in (
      omega arith,
      length-set L.used (get_or A.verts.now L.t 0) 1 ∙ L.invariant.1,
      marked_corner L.t A.verts.now L.used (omega (arith, P.room)) h L.invariant.2,
    )

pub shape_of-used : goal.shape_of-used
shape_of-used c =
    let L = c.loop-t in
    let K = c.fill in
    L.invariant.1 ∙ K.auto.self

pub returns : goal.returns
returns c =
    let A = c.args in
    let L = c.loop-t in
    let d : L.t ≡ A.n * A.k = omega arith in
    used_marked (subst (λ (m : ℕ). Marked (take m A.verts.now) L.used) d L.invariant.2)
