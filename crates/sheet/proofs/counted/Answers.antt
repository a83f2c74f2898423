-- `sheet::counted` meets its contract. Assumes nothing.
use native.Mathlib.Omega.{arith}
use Rattle.sheet.proofs.counted.Goals as goal

pub returns : goal.returns
returns c =
    record {
      is = rw (c.field.ensures.0, c.field-2.ensures.0, c.field-3.ensures.0, c.field-4.ensures.0);
      small = record { particles = omega arith; triangles = omega arith; edges = omega arith; boundary = omega arith };
    }
