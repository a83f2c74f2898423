-- Points with whole coordinates, and the side of a line that one lies on. Definitions only.
use Rattle.std.specs.Prelude.{◌≤◌, ℤ, nat_abs, ◌-ℤ◌, ◌*ℤ◌}
use Rattle.float.specs.Whole.{Is}
use Rattle.blade.specs.declared.Point.{Point}

-- p is the point (x, y), each a whole number from -1024 to 1024
pub record IsPoint (p : Point) (x y : ℤ) : Type 0 where
  pub x_is : Is p.x x
  pub y_is : Is p.y y
  pub x_in : nat_abs x ≤ 1024
  pub y_in : nat_abs y ≤ 1024

-- the side of (x, y) by the line from (x0, y0) to (x1, y1): above 0 to the left, below 0 to the right, 0 on the line
abbrev pub side_of : ℤ → ℤ → ℤ → ℤ → ℤ → ℤ → ℤ
side_of x0 y0 x1 y1 x y = (x1 -ℤ x0) *ℤ (y -ℤ y0) -ℤ (y1 -ℤ y0) *ℤ (x -ℤ x0)
