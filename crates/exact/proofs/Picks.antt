-- What a choice and a chain of tests come to, from what the tests are known to be. Assumes nothing.
use Rattle.std.proofs.Common.{◌≡◌, Bool, true, false, not, ◌&&◌, ◌||◌, sym, ◌∙◌, true≢false}
use Rattle.lists.specs.Lists.{pick}

pub picked : {A : Type 0} (t : Bool) (a b : A) → t ≡ true → a ≡ pick t a b
picked t a b h = rw h

pub passed : {A : Type 0} (t : Bool) (a b : A) → t ≡ false → b ≡ pick t a b
passed t a b h = rw h

-- the answer of `s && t` is t's where s holds, and s's where it fails
pub and_second : {s : Bool} (t : Bool) → s ≡ true → t ≡ (s && t)
and_second t h = rw h

pub and_first : {s : Bool} (t : Bool) → s ≡ false → s ≡ (s && t)
and_first t h = rw h

-- and of `s && (t || u)`
pub or_first : {s t : Bool} (u : Bool) → s ≡ true → t ≡ true → t ≡ (s && (t || u))
or_first u h k = rw (h, k)

pub or_second : {s t : Bool} (u : Bool) → s ≡ true → t ≡ false → u ≡ (s && (t || u))
or_second u h k = rw (h, k)

-- `!x && !y`
pub neither : (x y s t : Bool) → not x ≡ true → x ≡ s → y ≡ t → not y ≡ (not s && not t)
neither true y s t h k l = absurd (true≢false (sym h))
neither false y s t h k l = rw (sym k, sym l)

pub one_of : (x s t : Bool) → not x ≡ false → x ≡ s → not x ≡ (not s && t)
one_of true s t h k = rw (sym k)
one_of false s t h k = absurd (true≢false h)

-- `(s && t) && u`
pub last : (x r s t u : Bool) → x ≡ true → x ≡ (s && t) → r ≡ u → r ≡ (s && t && u)
last x r true true u h k l = l
last x r true false u h k l = absurd (true≢false (sym h ∙ k))
last x r false t u h k l = absurd (true≢false (sym h ∙ k))

pub stopped : (x s t u : Bool) → x ≡ false → x ≡ (s && t) → x ≡ (s && t && u)
stopped x true true u h k = absurd (true≢false (sym k ∙ h))
stopped x true false u h k = h
stopped x false t u h k = h
