-- The starred cases on the blade and the root (docs/RULES.md, R15.3 and R15.5), and three remarks (R9.2, R9.3). Definitions only; proofs/Cases.antt proves them all in one statement.
use Rattle.std.specs.Prelude.{List, [], ◌∷◌, true, false, ℤ, pos, negsuc, Float, Option, None, Some}
use Rattle.std.specs.Float.{fin, binary32}
use Rattle.std.specs.Float.Ieee.{of_int}
use Rattle.float.specs.Numbers.{half}
use Rattle.float.specs.Root.{root_of}
use Rattle.blade.specs.declared.Point.{Point}
use Rattle.blade.specs.declared.Hit.{Hit}
use Rattle.blade.specs.declared.Hit.TheVariants.{Miss, Hit as HitAt}
use Rattle.blade.specs.Blade.{blade_hit_of}

-- a point with whole coordinates, and 1/4 and 1/2
abbrev pub at : ℤ → ℤ → Point
at x y = record { x = of_int binary32 x; y = of_int binary32 y }

abbrev pub quarter : Float
quarter = fin false 1 (negsuc 1)

-- what a case puts in, and what comes out
pub data Asked : Type 0 where
  blade : Point → Point → Point → Point → Asked
  root_of' : Float → Asked

pub data Answer : Type 0 where
  hit : Hit → Answer
  rooted : Option Float → Answer

abbrev pub answer : Asked → Answer
answer (blade b0 b1 p q) = hit (blade_hit_of b0 b1 p q)
answer (root_of' x) = rooted (root_of x)

pub record Case : Type 0 where
  pub asked : Asked
  pub wanted : Answer

abbrev pub cases : List Case
cases =
    record { asked = blade (at (pos 2) (negsuc 0)) (at (pos 2) (pos 1)) (at (pos 0) (pos 0)) (at (pos 8) (pos 0)); wanted = hit (HitAt quarter (at (pos 2) (pos 0))) }
    ∷ record { asked = blade (at (pos 2) (negsuc 0)) (at (pos 2) (pos 1)) (at (pos 2) (pos 0)) (at (pos 2) (pos 5)); wanted = hit Miss }
    ∷ record { asked = blade (at (pos 2) (pos 0)) (at (pos 2) (pos 1)) (at (pos 0) (pos 0)) (at (pos 8) (pos 0)); wanted = hit (HitAt quarter (at (pos 2) (pos 0))) }
    ∷ record { asked = blade (at (pos 3) (pos 3)) (at (pos 3) (pos 3)) (at (pos 0) (pos 0)) (at (pos 8) (pos 0)); wanted = hit Miss }
    ∷ record { asked = root_of' (of_int binary32 (pos 0)); wanted = rooted (Some (of_int binary32 (pos 0))) }
    ∷ record { asked = root_of' (of_int binary32 (pos 4)); wanted = rooted (Some (of_int binary32 (pos 2))) }
    ∷ record { asked = root_of' quarter; wanted = rooted (Some half) }
    ∷ record { asked = root_of' (of_int binary32 (negsuc 0)); wanted = rooted None }
    ∷ record { asked = root_of' (fin true 0 (pos 0)); wanted = rooted (Some (fin true 0 (pos 0))) }
    -- t is minus zero; and two tiny offsets of one side, whose product underflows, count as a hit
    ∷ record { asked = blade (at (pos 0) (pos 0)) (at (pos 1) (pos 0)) (at (pos 0) (pos 0)) (at (pos 0) (pos 1)); wanted = hit (HitAt (fin true 0 (pos 0)) (at (pos 0) (pos 0))) }
    ∷ record { asked = blade (at (pos 0) (pos 0)) (at (pos 1) (pos 0)) record { x = of_int binary32 (pos 0); y = fin false 1 (negsuc 99) } record { x = of_int binary32 (pos 1); y = fin false 1 (negsuc 100) }; wanted = hit (HitAt (of_int binary32 (pos 1)) record { x = of_int binary32 (pos 1); y = fin false 1 (negsuc 100) }) }
    ∷ []
