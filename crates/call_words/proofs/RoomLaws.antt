-- Laws of rooms: those of four words, and the refusal of other bytes. Assumes nothing.
use Prim.Native.Nat.{ℕ, ◌/◌, min}
use native.Mathlib.Omega.{arith}
use mathlib.Core.Path.{◌≡◌, refl, sym, ap, subst, ◌∙◌}
use mathlib.Core.Bool.{Bool, true, false}
use mathlib.Core.List.{List}
use borrow.Author.Tests.{ne_eqb}
use Rattle.lists.specs.Lists.{pick}
use Rattle.mesh.specs.declared.Rooms.{Rooms}
use Rattle.image.specs.Words.{word_at_of}
use Rattle.mesh.specs.Refused.{number_of}
use Rattle.mesh.specs.declared.refusals.Refusal.{Refusal}
use Rattle.mesh.specs.declared.refusals.Refusal.TheVariants.{Size, Number, Name, Argument, Particles, Edges, Boundary, Entries, Sheet, Closed, Whole, Straps}
use Rattle.call_words.specs.Rooms.{Limited, rooms_given, rooms_too}

pub rooms_made : (s : List ℕ) (logged a b c d a' b' c' d' e : ℕ) → a' ≡ word_at_of s 0 → b' ≡ word_at_of s 1 → c' ≡ word_at_of s 2 → d' ≡ word_at_of s 3 → a ≡ min 1024 a' → b ≡ min 1024 b' → c ≡ min 2048 c' → d ≡ min 2048 d' → e ≡ min 4096 (logged / 24)
    → ◌≡◌ {A = Rooms} (record { particles = a; triangles = b; edges = c; boundary = d; log = e }) (rooms_given s logged)
unfolding rooms_given
rooms_made s logged a b c d a' b' c' d' e wa wb wc wd ea eb ec ed ee i =
    record { particles = (ea ∙ ap (min 1024) wa) i; triangles = (eb ∙ ap (min 1024) wb) i; edges = (ec ∙ ap (min 2048) wc) i; boundary = (ed ∙ ap (min 2048) wd) i; log = ee i }

given_limited : (s : List ℕ) (logged : ℕ) → Limited (rooms_given s logged) logged
unfolding rooms_given
given_limited s logged = record { particles = omega arith; triangles = omega arith; edges = omega arith; boundary = omega arith; log = omega arith; entries = omega arith }

pub made_limited : (s : List ℕ) (logged : ℕ) (R : Rooms) → R ≡ rooms_given s logged → Limited R logged
made_limited s logged R e = subst (λ (Q : Rooms). Limited Q logged) (sym e) (given_limited s logged)

-- no rooms
pub none_limited : (logged : ℕ) → Limited (record { particles = 0; triangles = 0; edges = 0; boundary = 0; log = 0 }) logged
none_limited logged = record { particles = omega arith; triangles = omega arith; edges = omega arith; boundary = omega arith; log = omega arith; entries = omega arith }

-- the code itself, 4 in the place of none, or at most 4
pub rooms_right : (code : ℕ) (b : Bool) → b ≡ true → code ≡ rooms_too code b
rooms_right code b e = sym (ap (rooms_too code) e)

pub rooms_none : (code : ℕ) (b : Bool) → b ≡ false → code ≡ 0 → 4 ≡ rooms_too code b
rooms_none code b e z = sym (ap (rooms_too code) e ∙ ap (λ (n : ℕ). rooms_too n false) z)

pub rooms_late : (code : ℕ) (b : Bool) (r : ℕ) → b ≡ false → (code ≡ 0 → ⊥) → r ≡ min code 4 → r ≡ rooms_too code b
rooms_late code b r e n q = q ∙ sym (ap (rooms_too code) e ∙ ap (λ (z : Bool). pick z 4 (min code 4)) (ne_eqb code 0 n))

-- a refusal behind the first three is 4 or a later one
pub late_number : (e : Refusal) → (e ≡ Size → ⊥) → (e ≡ Number → ⊥) → (e ≡ Name → ⊥) → 4 ≡ min (number_of e) 4
late_number Size s n m = absurd (s refl)
late_number Number s n m = absurd (n refl)
late_number Name s n m = absurd (m refl)
late_number Argument s n m = refl
late_number Particles s n m = refl
late_number Edges s n m = refl
late_number Boundary s n m = refl
late_number Entries s n m = refl
late_number Sheet s n m = refl
late_number Closed s n m = refl
late_number Whole s n m = refl
late_number Straps s n m = refl
