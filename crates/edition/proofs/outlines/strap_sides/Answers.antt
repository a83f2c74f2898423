-- `edition::outlines::strap_sides` meets its contract: three columns are read, and their rows are the sheet's. Assumes nothing.
use mathlib.Core.Path.{refl, sym, ap}
use native.Mathlib.Omega.{arith}
use lib.Seq.{length-take-le}
use Rattle.bits.specs.Bits.{bits_of}
use Rattle.outline.specs.Outline.{outline_of_straps}
use Rattle.edition.proofs.Sides.{read_rows_lem}
use Rattle.edition.proofs.Found.{even_taken, listed_same}
use Rattle.edition.proofs.outlines.strap_sides.Goals as goal

-- `edition::outlines::strap_sides` meets its contract: three columns are read, and their rows are the sheet's. Assumes nothing.
pub read_column-requires : goal.read_column-requires
read_column-requires c = let p = c.requires in record { room = omega (arith, p.rows.room); small = omega (arith, p.rows.small); wide = omega arith; narrow = omega arith; places = p.first }

pub read_column-requires-2 : goal.read_column-requires-2
read_column-requires-2 c = let p = c.requires in record { room = omega (arith, p.rows.room); small = omega (arith, p.rows.small); wide = omega arith; narrow = omega arith; places = p.second }

pub read_column-requires-3 : goal.read_column-requires-3
read_column-requires-3 c = let p = c.requires in record { room = omega (arith, p.rows.room); small = omega (arith, p.rows.small); wide = omega arith; narrow = omega arith; places = p.third }

pub slice_bounds-outline_straps-end-2 : goal.slice_bounds-outline_straps-end-2
slice_bounds-outline_straps-end-2 c = sym (length-take-le _ _ (omega (arith, c.requires.first, c.read_column.auto.out)))

pub slice_bounds-outline_straps-end-4 : goal.slice_bounds-outline_straps-end-4
slice_bounds-outline_straps-end-4 c = sym (length-take-le _ _ (omega (arith, c.requires.second, c.read_column-2.auto.out)))

pub slice_bounds-outline_straps-end-6 : goal.slice_bounds-outline_straps-end-6
slice_bounds-outline_straps-end-6 c = sym (length-take-le _ _ (omega (arith, c.requires.third, c.read_column-3.auto.out)))

pub outline_straps-requires : goal.outline_straps-requires
outline_straps-requires c =
    let p = c.requires in
    even_taken c.args.n _ _ _ p.few (omega (arith, p.first, c.read_column.auto.out)) (omega (arith, p.second, c.read_column-2.auto.out)) (omega (arith, p.third, c.read_column-3.auto.out))

pub shape_of-a : goal.shape_of-a
shape_of-a c = c.read_column.auto.out

pub shape_of-b : goal.shape_of-b
shape_of-b c = c.read_column-2.auto.out

pub shape_of-c : goal.shape_of-c
shape_of-c c = c.read_column-3.auto.out

pub shape_of-block : goal.shape_of-block
shape_of-block c = c.outline_straps.auto.outline

pub returns : goal.returns
returns c =
    let a = c.args in
    listed_same _ _ (ap outline_of_straps (read_rows_lem 1 (bits_of a.s.now) a.n a.at 21 _ _ _ _ _ _ refl c.read_column.ensures c.read_column-2.ensures c.read_column-3.ensures)) c.outline_straps.ensures
