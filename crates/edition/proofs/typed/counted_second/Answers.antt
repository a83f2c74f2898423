-- `edition::typed::counted_second` meets its contract. Assumes nothing.
use Rattle.edition.proofs.Editions.{counts_second}
use Rattle.bits.proofs.Laws.{length_bits_of}
use Rattle.bits.specs.Bits.{bits_of}
use native.Mathlib.Omega.{arith}
use mathlib.Core.Path.{sym}
use Rattle.edition.proofs.typed.counted_second.Goals as goal

pub returns : goal.returns
returns c = let s = c.args.s.now in
    record {
      is = rw (c.field.ensures.0, c.field-2.ensures.0, c.field-3.ensures.0) (sym (counts_second (bits_of s) (omega (arith, length_bits_of s))));
      small = record { particles = omega arith; triangles = omega arith; edges = omega arith; boundary = omega arith };
    }
