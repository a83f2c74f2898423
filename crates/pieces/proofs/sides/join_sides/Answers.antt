-- `pieces::sides::join_sides` meets its contract. The invariant: the first i elements are joined. Assumes nothing.
use borrow.Author.Rules.{rules}
use native.Mathlib.Omega.{arith}
use mathlib.Core.Path.{◌≡◌, refl, sym, ◌∙◌, ap, subst}
use mathlib.Core.List.{List}
use mathlib.Core.Logic.{⊎_elim}
use Prim.Native.Nat.{ℕ, ◌+◌, ◌*◌, ◌≤◌, ◌-◌}
use lib.ListN.{length}
use Rattle.bodies.specs.Tables.{Tied}
use Rattle.pieces.specs.Sides.{low_of, high_of, SameFacet, Sided, SideRoom}
use Rattle.pieces.proofs.FacetChains.{room_of, room_for, room_own, sided_none, sided_same}
use Rattle.pieces.proofs.sides.join_sides.Goals as goal
use Rattle.pieces.proofs.sides.join_sides.Goals.{else-k-eq3, then-k-eq3}

pub loop-i-init : goal.loop-i-init
loop-i-init c =
    let A = c.args in
    let P = c.requires in
    let O = c.own_numbers in
    (search rules, refl, refl, refl, refl, sided_none A.k A.verts.now A.heads.now A.links.now A.lows.now O.new.table P.empty O.ensures)

pub join_triangle-requires : goal.join_triangle-requires
join_triangle-requires c =
    let A = c.args in
    let P = c.requires in
    let L = c.loop-i in
    let O = c.own_numbers in
    let e : A.k ≡ 3 = omega (arith, P.two, P.corners.width.1, c.if-k-eq3.true) in
    let b : SideRoom A.n A.k A.verts.now (length L.heads) (length L.links) (length L.lows) (length L.parent) = room_for L.invariant.1 L.invariant.2 L.invariant.3 (L.invariant.4 ∙ O.auto.table) (room_of P) in (
      room_own (subst (λ (k : ℕ). SideRoom A.n k A.verts.now (length L.heads) (length L.links) (length L.lows) (length L.parent)) e b),
      omega (arith, b.parents_long),
      subst (λ (k : ℕ). Sided k A.verts.now L.heads L.links L.lows (L.i * k) L.parent) e L.invariant.5,
    )

pub join_strap-requires : goal.join_strap-requires
join_strap-requires c =
    let A = c.args in
    let P = c.requires in
    let L = c.loop-i in
    let O = c.own_numbers in
    let e : A.k ≡ 2 = omega (arith, P.two, P.corners.width.1, c.if-k-eq3.false) in
    let b : SideRoom A.n A.k A.verts.now (length L.heads) (length L.links) (length L.lows) (length L.parent) = room_for L.invariant.1 L.invariant.2 L.invariant.3 (L.invariant.4 ∙ O.auto.table) (room_of P) in (
      room_own (subst (λ (k : ℕ). SideRoom A.n k A.verts.now (length L.heads) (length L.links) (length L.lows) (length L.parent)) e b),
      omega (arith, b.parents_long),
      subst (λ (k : ℕ). Sided k A.verts.now L.heads L.links L.lows (L.i * k) L.parent) e L.invariant.5,
    )

pub loop-i-preserved : goal.loop-i-preserved
loop-i-preserved c =
    let A = c.args in
    let P = c.requires in
    let L = c.loop-i in
    elim c.if-k-eq3.branch [
      | then-k-eq3 w ↦ let e : A.k ≡ 3 = omega (arith, P.two, P.corners.width.1, w.if-k-eq3.true) in (
        omega arith,
        ap (λ (p : List ℕ). length p) w.heads-is ∙ w.join_triangle.auto.heads ∙ L.invariant.1,
        ap (λ (p : List ℕ). length p) w.links-is ∙ w.join_triangle.auto.links ∙ L.invariant.2,
        ap (λ (p : List ℕ). length p) w.lows-is ∙ w.join_triangle.auto.lows ∙ L.invariant.3,
        ap (λ (p : List ℕ). length p) w.parent-is ∙ w.join_triangle.auto.parent ∙ L.invariant.4,
        sided_same w.heads-is w.links-is w.lows-is w.parent-is (subst (λ (k : ℕ). Sided k A.verts.now w.join_triangle.new.heads w.join_triangle.new.links w.join_triangle.new.lows ((L.i + 1) * k) w.join_triangle.new.parent) (sym e) w.join_triangle.ensures),
      )
      | else-k-eq3 w ↦ let e : A.k ≡ 2 = omega (arith, P.two, P.corners.width.1, w.if-k-eq3.false) in (
        omega arith,
        ap (λ (p : List ℕ). length p) w.heads-is ∙ w.join_strap.auto.heads ∙ L.invariant.1,
        ap (λ (p : List ℕ). length p) w.links-is ∙ w.join_strap.auto.links ∙ L.invariant.2,
        ap (λ (p : List ℕ). length p) w.lows-is ∙ w.join_strap.auto.lows ∙ L.invariant.3,
        ap (λ (p : List ℕ). length p) w.parent-is ∙ w.join_strap.auto.parent ∙ L.invariant.4,
        sided_same w.heads-is w.links-is w.lows-is w.parent-is (subst (λ (k : ℕ). Sided k A.verts.now w.join_strap.new.heads w.join_strap.new.links w.join_strap.new.lows ((L.i + 1) * k) w.join_strap.new.parent) (sym e) w.join_strap.ensures),
      )
    ]

pub shape_of-heads : goal.shape_of-heads
shape_of-heads c = c.loop-i.invariant.1

pub shape_of-links : goal.shape_of-links
shape_of-links c = c.loop-i.invariant.2

pub shape_of-lows : goal.shape_of-lows
shape_of-lows c = c.loop-i.invariant.3

pub shape_of-parent : goal.shape_of-parent
shape_of-parent c = c.loop-i.invariant.4 ∙ c.own_numbers.auto.table

pub returns : goal.returns
returns c =
    let A = c.args in
    let L = c.loop-i in
    let d : L.i ≡ A.n = omega arith in
    subst (λ (m : ℕ). Tied (SameFacet A.k (low_of A.k A.verts.now) (high_of A.k A.verts.now) (m * A.k)) L.parent) d L.invariant.5.tied
