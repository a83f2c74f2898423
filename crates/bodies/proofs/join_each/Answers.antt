-- `bodies::join_each` meets its contract. The invariant: the corners of the elements below i are joined. Assumes nothing.
use borrow.Author.Rules.{rules}
use native.Mathlib.Omega.{arith}
use mathlib.Core.Path.{◌≡◌, refl, sym, ◌∙◌, ap}
use Prim.Native.Nat.{ℕ, ◌*◌, ◌≤◌, ◌-◌}
use lib.ListN.{length}
use Rattle.bodies.specs.Tables.{Link, Tied}
use Rattle.bodies.proofs.Corners.{corners_for}
use Rattle.bodies.proofs.Trees.{tied_start, tied_at, link_none}
use Rattle.bodies.proofs.join_each.Goals as goal

pub loop-i-init : goal.loop-i-init
loop-i-init c =
    let A = c.args in
    let O = c.own_numbers in
    let z : 0 ≡ 0 * A.k = omega arith in
    (search rules, refl, tied_at z refl (tied_start {R = Link A.k A.verts.now 0} O.new.table O.ensures (link_none A.k A.verts.now)))

pub join_corners-requires : goal.join_corners-requires
join_corners-requires c =
    let A = c.args in
    let P = c.requires in
    let O = c.own_numbers in
    let L = c.loop-i in
    let e = L.invariant.1 ∙ O.auto.table in
    record { corners = corners_for (sym e) P; corner_step = record { inside = search rules; tied = L.invariant.2 } }

pub loop-i-preserved : goal.loop-i-preserved
loop-i-preserved c =
    let L = c.loop-i in
    let J = c.join_corners in
    (omega arith, J.auto.parent ∙ L.invariant.1, J.ensures)

pub shape_of-parent : goal.shape_of-parent
shape_of-parent c =
    let L = c.loop-i in
    let O = c.own_numbers in
    L.invariant.1 ∙ O.auto.table

pub returns : goal.returns
returns c =
    let A = c.args in
    let L = c.loop-i in
    let d : L.i ≡ A.n = omega arith in
    tied_at (ap (λ (m : ℕ). m * A.k) d) refl L.invariant.2
