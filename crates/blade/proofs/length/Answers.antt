-- `blade::length` meets its contract. Assumes nothing.
use mathlib.Core.Path.{◌≡◌, sym, ap, ◌∙◌}
use lib.Ieee.{Float, div, of_bits}
use Rattle.std.specs.Prelude.{Option, None, Some}
use Rattle.float.specs.Root.{root_of}
use Rattle.blade.specs.declared.Point.{Point}
use Rattle.blade.specs.Points.{dot_of, root_value, length_of}
use Rattle.blade.proofs.length.Goals as goal

-- each call's answer put in the next one's place
glue : (v : Point) (x : Float) (a b : Option Float) → x ≡ dot_of v v → a ≡ root_of x → a ≡ b → root_value b ≡ length_of v
unfolding length_of
glue v x a b x_is a_is b_is = ap root_value (sym b_is ∙ a_is ∙ ap root_of x_is)

pub returns-in-Some : goal.returns-in-Some
returns-in-Some c =
    glue c.args.v c.dot.result c.root-r.result (Some c.in-Some.x) c.dot.ensures c.root-r.ensures.0 c.in-Some.is

pub returns-in-None : goal.returns-in-None
unfolding div of_bits
returns-in-None c =
    glue c.args.v c.dot.result c.root-r.result None c.dot.ensures c.root-r.ensures.0 c.in-None.is
