-- Laws of a refusal's number: it is above 0, and no two refusals have one.
use Prim.Native.Nat.{ℕ, ◌<◌}
use Rattle.std.specs.Prelude.{cond, eqb, Result, Ok, Err}
use Rattle.std.specs.Result.{IsErrAnd}
use Rattle.std.proofs.lemmas.Result.{err_from_is_err_and}
use native.Mathlib.Omega.{arith}
use mathlib.Core.Path.{◌≡◌, refl, sym, ap, ◌∙◌}
use Rattle.model.specs.Reads.{Read, refused, value}
use Rattle.mesh.specs.Refused.{number_of, refusal_in, answer_in}
use Rattle.mesh.specs.declared.refusals.Refusal.{Refusal}
use Rattle.mesh.specs.declared.refusals.Refusal.TheVariants.{Size, Number, Name, Argument, Particles, Edges, Boundary, Entries, Sheet, Closed, Whole, Straps}

-- a refusal's number is above 0
pub number_above : (e : Refusal) → 0 < number_of e
number_above Size = omega arith
number_above Number = omega arith
number_above Name = omega arith
number_above Argument = omega arith
number_above Particles = omega arith
number_above Edges = omega arith
number_above Boundary = omega arith
number_above Entries = omega arith
number_above Sheet = omega arith
number_above Closed = omega arith
number_above Whole = omega arith
number_above Straps = omega arith

-- the refusal of a number
refusal_of : ℕ → Refusal
refusal_of n =
    cond (eqb n 1) Size (
    cond (eqb n 2) Number (
    cond (eqb n 3) Name (
    cond (eqb n 4) Argument (
    cond (eqb n 5) Particles (
    cond (eqb n 6) Edges (
    cond (eqb n 7) Boundary (
    cond (eqb n 8) Entries (
    cond (eqb n 9) Sheet (
    cond (eqb n 10) Closed (
    cond (eqb n 11) Whole (
    Straps)))))))))))

refusal_back : (e : Refusal) → refusal_of (number_of e) ≡ e
unfolding refusal_of
refusal_back Size = refl
refusal_back Number = refl
refusal_back Name = refl
refusal_back Argument = refl
refusal_back Particles = refl
refusal_back Edges = refl
refusal_back Boundary = refl
refusal_back Entries = refl
refusal_back Sheet = refl
refusal_back Closed = refl
refusal_back Whole = refl
refusal_back Straps = refl

-- two refusals of one number are one
pub number_tells : (a b : Refusal) → number_of a ≡ number_of b → a ≡ b
number_tells a b e = sym (refusal_back a) ∙ ap refusal_of e ∙ refusal_back b

-- an answer that refuses nothing is Ok
pub refused_none : {A : Type 0} (r : Result A Refusal) → refusal_in r ≡ 0 → (a : A) × (r ≡ Ok a)
refused_none (Ok a) e = (a, refl)
refused_none (Err r) e = absurd (let h = number_above r in omega (arith, h, e))

-- and one that refuses has a number that is not 0
pub refused_some : (e : Refusal) → number_of e ≡ 0 → ⊥
refused_some e h = let p = number_above e in omega (arith, p, h)

-- the exit of a `?` hands the refusal on
pub refusal_handed : {A : Type 0} (r : Result A Refusal) (e : Refusal) → IsErrAnd r (λ d. d ≡ e) → refusal_in r ≡ number_of e
refusal_handed r e h = let p = err_from_is_err_and r h in rw (p.1) (ap number_of p.2)

-- the number of an answer that is told
pub refused_as : {A : Type 0} {r : Result A Refusal} {e : Refusal} → r ≡ Err e → number_of e ≡ refusal_in r
refused_as h = sym (ap refusal_in h)

pub refused_not : {A : Type 0} {r : Result A Refusal} {a : A} → r ≡ Ok a → refusal_in r ≡ 0
refused_not h = ap refusal_in h

-- so what is handed on is a refusal
pub handed_some : {A : Type 0} (r : Result A Refusal) (e : Refusal) → IsErrAnd r (λ d. d ≡ e) → refusal_in r ≡ 0 → ⊥
handed_some r e h z = refused_some e (sym (refusal_handed r e h) ∙ z)

-- a refusal's number, or 0 for a value
number_told : {A : Type 0} → Read A → ℕ
number_told (refused n) = n
number_told (value a) = 0

-- the value, or another one for a refusal
value_or : {A : Type 0} → A → Read A → A
value_or d (refused n) = d
value_or d (value a) = a

-- no two answers say the same
pub answer_tells : {A : Type 0} (r s : Result A Refusal) → answer_in r ≡ answer_in s → r ≡ s
unfolding number_told value_or
answer_tells (Ok a) (Ok b) e = ap Ok (ap (value_or a) e)
answer_tells (Ok a) (Err d) e = absurd (refused_some d (sym (ap number_told e)))
answer_tells (Err d) (Ok b) e = absurd (refused_some d (ap number_told e))
answer_tells (Err d) (Err f) e = ap Err (number_tells d f (ap number_told e))
