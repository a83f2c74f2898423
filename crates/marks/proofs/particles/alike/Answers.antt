-- `marks::particles::alike` meets its contract. Assumes nothing.
use mathlib.Core.Path.{◌≡◌}
use mathlib.Core.Bool.{Bool, true, false, ◌&&◌}
use lib.Ieee.{of_bits}
use Rattle.marks.proofs.particles.alike.Goals as goal

-- `marks::particles::alike` meets its contract. Assumes nothing.
third : (a b c : Bool) → a ≡ true → b ≡ true → c ≡ (a && b && c)
third a b c h k = rw (h, k)

second : (a b c : Bool) → a ≡ true → b ≡ false → false ≡ (a && b && c)
second a b c h k = rw (h, k)

first : (a b c : Bool) → a ≡ false → false ≡ (a && b && c)
first a b c h = rw h

pub returns-then-x-z : goal.returns-then-x-z
unfolding of_bits
returns-then-x-z c = third _ _ _ c.if-x-y.true c.if-x-z.true

pub returns-else-x-z : goal.returns-else-x-z
unfolding of_bits
returns-else-x-z c = second _ _ _ c.if-x-y.true c.if-x-z.false

pub returns-else-x-y : goal.returns-else-x-y
unfolding of_bits
returns-else-x-y c = first _ _ _ c.if-x-y.false
