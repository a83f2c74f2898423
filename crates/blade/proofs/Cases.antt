-- The starred blade and root cases of docs/RULES.md (R15), as one statement over their list, which antt computes. Assumes nothing.
use mathlib.Core.Path.{◌≡◌, refl}
use mathlib.Core.List.{map}
use lib.Ieee.{of_int, neg, add, sub, mul, div, lt, le, eq}
use Rattle.float.specs.Root.{root_units}
use Rattle.blade.specs.Blade.{blade_hit_of}
use Rattle.blade.specs.Cases.{Case, cases, answer}

pub starred : map (λ (c : Case). answer c.asked) cases ≡ map (λ (c : Case). c.wanted) cases
unfolding blade_hit_of of_int neg add sub mul div lt le eq root_units
starred = refl
