-- `edition::outlines::settle_typed` meets its contract. Assumes nothing.
use Prim.Native.Nat.{◌+◌, ◌*◌}
use mathlib.Core.Path.{refl, ◌∙◌}
use native.Mathlib.Omega.{arith}
use Rattle.bits.specs.Bits.{bits_of}
use Rattle.sheet.proofs.There.{limits}
use Rattle.edition.proofs.Sides.{typed_sides}
use Rattle.edition.proofs.Found.{start_first, reach_first, own_bound, found_first}
use Rattle.edition.proofs.outlines.settle_typed.Goals as goal

-- `edition::outlines::settle_typed` meets its contract. Assumes nothing.
pub own_sides-m-requires : goal.own_sides-m-requires
own_sides-m-requires c = let p = c.requires in record { typed = p.typed; is = start_first (bits_of c.args.s.now) p.first }

pub read_sides-requires : goal.read_sides-requires
read_sides-requires c =
    let a = c.args in
    let p = c.requires in
    let f = limits a.c p.typed.few in
    let r = reach_first a.s.now a.c p.typed p.first in
    record { rows = record { room = omega arith; small = omega arith }; outline = omega (arith, p.places) }

pub settle-requires : goal.settle-requires
settle-requires c =
    let a = c.args in
    let p = c.requires in
    let f = limits a.c p.typed.few in
    let b = own_bound a.s.now a.c p.typed in
    let n = c.own_sides-m.ensures.count in
    let k = c.read_sides.auto.outline in
    let j = c.own_sides-m.auto.block in
    (record { first = omega (arith, p.places); second = omega (arith, p.own_places) }, omega (arith, p.places), omega arith)

pub shape_of-own : goal.shape_of-own
shape_of-own c = c.own_sides-m.auto.block

pub shape_of-block : goal.shape_of-block
shape_of-block c = c.settle.auto.outline ∙ c.read_sides.auto.outline

pub returns : goal.returns
returns c =
    let a = c.args in
    let p = c.requires in
    let b = own_bound a.s.now a.c p.typed in
    let n = c.own_sides-m.ensures.count in
    let j = c.own_sides-m.auto.block in
    found_first a.s.now a.c p.typed (46 + a.c.particles * 23 + a.c.triangles * 30 + a.c.edges * 21) _ _ _ c.settle.result p.first refl
    (typed_sides a.c.boundary _ (bits_of a.s.now) (46 + a.c.particles * 23 + a.c.triangles * 30 + a.c.edges * 21) c.read_sides.ensures) (c.own_sides-m.ensures.sides (omega (arith, p.own_places))) c.settle.ensures

pub overflow_mul-at : goal.overflow_mul-at
overflow_mul-at c = omega (arith, limits c.args.c c.requires.typed.few)

pub overflow_add-at : goal.overflow_add-at
overflow_add-at c = omega (arith, limits c.args.c c.requires.typed.few)

pub overflow_mul-at-2 : goal.overflow_mul-at-2
overflow_mul-at-2 c = omega (arith, limits c.args.c c.requires.typed.few)

pub overflow_add-at-2 : goal.overflow_add-at-2
overflow_add-at-2 c = omega (arith, limits c.args.c c.requires.typed.few)

pub overflow_mul-at-3 : goal.overflow_mul-at-3
overflow_mul-at-3 c = omega (arith, limits c.args.c c.requires.typed.few)

pub overflow_add-at-3 : goal.overflow_add-at-3
overflow_add-at-3 c = omega (arith, limits c.args.c c.requires.typed.few)
