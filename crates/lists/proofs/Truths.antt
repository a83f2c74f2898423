-- Laws of truth values, and of choices between them. Assumes nothing.
use mathlib.Core.Path.{◌≡◌, refl}
use mathlib.Core.Bool.{Bool, true, false, not, ◌&&◌, ◌||◌, false≢true, true≢false}
use mathlib.Core.Logic.{◌⊎◌, inl, inr}
use Prim.Native.Nat.{ℕ}
use Rattle.lists.specs.Lists.{pick}

-- false is not true
pub untrue : {P : Type 0} → ◌≡◌ {A = Bool} false true → P
untrue e = absurd (false≢true e)

pub and_end : (s : Bool) → s && true ≡ s
and_end true = refl
and_end false = refl

pub or_end : (s : Bool) → s || false ≡ s
or_end true = refl
or_end false = refl

pub or_cases : (s t : Bool) → s || t ≡ true → (s ≡ true) ⊎ (t ≡ true)
or_cases true t e = inl refl
or_cases false t e = inr e

pub or_left : (s t : Bool) → s ≡ true → s || t ≡ true
or_left true t e = refl
or_left false t e = untrue e

-- what is not true is false
pub not_true : (t : Bool) → (t ≡ true → ⊥) → t ≡ false
not_true true n = absurd (n refl)
not_true false n = refl

pub of_not : (t : Bool) → true ≡ not t → t ≡ false
of_not true e = absurd (true≢false e)
of_not false e = refl

pub of_not_false : (t : Bool) → false ≡ not t → t ≡ true
of_not_false true e = refl
of_not_false false e = untrue e

-- a truth value as a choice
pub pick_self : (t : Bool) → t ≡ pick t true false
pick_self true = refl
pick_self false = refl

-- a mark that is put where s holds, and then where t holds
pub mark_or : (s t : Bool) (x : ℕ) → pick t 1 (pick s 1 x) ≡ pick (s || t) 1 x
mark_or true true x = refl
mark_or true false x = refl
mark_or false t x = refl
