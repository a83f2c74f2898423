-- `edition::outlines::find_outline` meets its contract. Assumes nothing.
use Prim.Native.Nat.{◌≤◌}
use mathlib.Core.Path.{sym, ◌∙◌}
use native.Mathlib.Omega.{arith}
use Rattle.bits.specs.Bits.{bits_of}
use Rattle.edition.proofs.Found.{start_second, own_bound, found_second}
use Rattle.edition.proofs.outlines.find_outline.Goals as goal

-- `edition::outlines::find_outline` meets its contract. Assumes nothing.
pub is_second-requires : goal.is_second-requires
is_second-requires c = c.requires.typed.six

pub own_sides-requires : goal.own_sides-requires
own_sides-requires c = record { typed = c.requires.typed; is = start_second (bits_of c.args.s.now) (sym c.is_second.ensures ∙ c.if-is_second.true) }

pub shape_of-block-then-is_second : goal.shape_of-block-then-is_second
shape_of-block-then-is_second c = c.own_sides.auto.block

pub returns-then-is_second : goal.returns-then-is_second
returns-then-is_second c =
    let a = c.args in
    let p = c.requires in
    let b = own_bound a.s.now a.c p.typed in
    let n = c.own_sides.ensures.count in
    let k = c.own_sides.auto.block in
    found_second a.s.now a.c p.typed _ c.own_sides.result (sym c.is_second.ensures ∙ c.if-is_second.true) c.own_sides.ensures (omega (arith, p.places))

pub settle_typed-requires : goal.settle_typed-requires
settle_typed-requires c = let h : 6144 ≤ 6144 = omega arith in record { typed = c.requires.typed; first = sym c.is_second.ensures ∙ c.if-is_second.false; own_places = h; places = c.requires.places }

pub shape_of-block : goal.shape_of-block
shape_of-block c = c.settle_typed.auto.block

pub returns : goal.returns
returns c = c.settle_typed.ensures
