-- `edition::outlines::own_sides` meets its contract. Assumes nothing.
use Prim.Native.Nat.{◌+◌, ◌*◌, ◌≤◌}
use native.Mathlib.Omega.{arith}
use Rattle.bits.specs.Bits.{bits_of}
use Rattle.sheet.proofs.There.{limits}
use Rattle.edition.proofs.Starts.{reach, start_most}
use Rattle.edition.proofs.Found.{listed_same, own_straps, own_triangles}
use Rattle.edition.proofs.outlines.own_sides.Goals as goal

pub overflow_add-at : goal.overflow_add-at
overflow_add-at c = let p = c.requires in omega (arith, limits c.args.c p.typed.few, p.is, start_most (bits_of c.args.s.now))

pub strap_sides-requires : goal.strap_sides-requires
strap_sides-requires c =
    let a = c.args in
    let p = c.requires in
    let f = limits a.c p.typed.few in
    let h : a.c.edges ≤ 2048 = omega arith in
    let r = reach a.s.now a.c p.typed in
    record { rows = record { room = omega (arith, p.is); small = omega (arith, p.is, start_most (bits_of a.s.now)) }; few = h; first = h; second = h; third = h }

pub shape_of-block-then-c-eq0 : goal.shape_of-block-then-c-eq0
shape_of-block-then-c-eq0 c = c.strap_sides.auto.block

pub returns-then-c-eq0 : goal.returns-then-c-eq0
returns-then-c-eq0 c =
    let a = c.args in
    let p = c.requires in
    listed_same _ _ (own_straps a.s.now a.c p.typed (a.start + a.c.particles * 23) (omega (arith, p.is)) c.if-c-eq0.true) c.strap_sides.ensures

pub triangle_sides-requires : goal.triangle_sides-requires
triangle_sides-requires c =
    let a = c.args in
    let p = c.requires in
    let f = limits a.c p.typed.few in
    let h : a.c.triangles ≤ 2048 = omega arith in
    let r = reach a.s.now a.c p.typed in
    record { rows = record { room = omega (arith, p.is); small = omega (arith, p.is, start_most (bits_of a.s.now)) }; few = h; first = h; second = h; third = h }

pub shape_of-block : goal.shape_of-block
shape_of-block c = c.triangle_sides.auto.block

pub returns : goal.returns
returns c =
    let a = c.args in
    let p = c.requires in
    listed_same _ _ (own_triangles a.s.now a.c p.typed (a.start + a.c.particles * 23) (omega (arith, p.is)) c.if-c-eq0.false) c.triangle_sides.ensures

-- `edition::outlines::own_sides` meets its contract. Assumes nothing.
pub overflow_mul-at : goal.overflow_mul-at
overflow_mul-at c = omega (arith, limits c.args.c c.requires.typed.few)
