-- `fan::stands_in` meets its contract: the library's search says whether any element is x. Assumes nothing.
use mathlib.Core.Path.{◌≡◌, refl, ap, ◌∙◌}
use Prim.Native.Nat.{ℕ}
use mathlib.Core.List.{List, [], ◌∷◌}
use Rattle.std.specs.Prelude.{Bool, true, false, nat_eq, ◌||◌}
use Rattle.std.specs.List.{list_any}
use Rattle.lists.specs.Lists.{stands, pick}
use Rattle.fan.proofs.stands_in.Goals as goal

-- a test of each element in turn is what `stands` asks
any_stands : (x : ℕ) (b : List ℕ) → list_any (λ y. nat_eq y x) b ≡ stands x b
any_stands x [] = refl
any_stands x (y ∷ b) = first (nat_eq y x) ∙ ap (pick (nat_eq y x) true) (any_stands x b)
  where
    first : (t : Bool) → (t || list_any (λ y. nat_eq y x) b) ≡ pick t true (list_any (λ y. nat_eq y x) b)
    first true = refl
    first false = refl

pub returns : goal.returns
returns c = c.contains.ensures.value ∙ any_stands c.args.x c.args.b.now
