-- Which bytes are mended: what the tests of their header and their length say. Assumes nothing.
use Prim.Native.Nat.{ℕ, ◌<◌, ◌≤◌}
use mathlib.Core.Path.{◌≡◌, refl, sym, ap, ap₂, ◌∙◌}
use mathlib.Core.Bool.{Bool, true, false, ◌||◌}
use mathlib.Core.List.{List}
use native.Mathlib.Omega.{arith}
use borrow.Author.Tests.{lt-ltb, le-ltb, ne_eqb}
use lib.ListN.{length}
use Rattle.bits.specs.Bits.{bits_of}
use Rattle.sheet.specs.Sheet.{counts_at, too_many_of}
use Rattle.sheet.specs.declared.Counts.{Counts}
use Rattle.edition.specs.Edition.{second, bits_in_of, bytes_in}
use Rattle.std.specs.Prelude.{Ok, Err}
use Rattle.mesh.specs.declared.refusals.Refusal.{Refusal}
use Rattle.mesh.specs.declared.refusals.Refusal.TheVariants.{Size, Sheet}
use Rattle.mending.specs.Sheets.{refused, mend_with, mend_of}
use Rattle.mender.specs.Work.{Judged}

-- bytes that are refused
judged_no : (s : List ℕ) (e : Refusal) → mend_of s ≡ refused e → Judged s (Err e)
judged_no s e h = record { yes = λ u q. absurd (let z : ◌≡◌ {A = ℕ} 0 1 = cc in omega arith); no = λ d q. let i : e ≡ d = cc in h ∙ ap refused i }

pub judge_short : (s : List ℕ) → length s < 6 → Judged s (Err Sheet)
unfolding mend_of
judge_short s h = judged_no s Sheet (rw (lt-ltb (length s) 6 h))

twice : (x : Bool) → (x || x) ≡ x
twice true = refl
twice false = refl

module _ (s : List ℕ) (c : Counts) (six : 6 ≤ length s) (is : c ≡ counts_at (bits_in_of (bits_of s))) where
  few : (b : Bool) → (too_many_of c || too_many_of c) ≡ b → too_many_of (counts_at (bits_in_of (bits_of s))) ≡ b
  few b e = ap too_many_of (sym is) ∙ (sym (twice (too_many_of c)) ∙ e)

  pub judge_many : (too_many_of c || too_many_of c) ≡ true → Judged s (Err Size)
  unfolding mend_of mend_with
  judge_many e = judged_no s Size (rw (le-ltb (length s) 6 six, few true e))

  module _ (t : Bool) (n : ℕ) (e : (too_many_of c || too_many_of c) ≡ false) (two : t ≡ second (bits_of s)) (long : n ≡ bytes_in t c) where
    whole : n ≡ bytes_in (second (bits_of s)) (counts_at (bits_in_of (bits_of s)))
    whole = long ∙ ap₂ bytes_in two is

    pub judge_right : length s ≡ n → Judged s (Ok tt)
    judge_right h = record { yes = λ u z. record { few = few false e; long = h ∙ whole }; no = λ d q. absurd (let z : ◌≡◌ {A = ℕ} 0 1 = cc in omega arith) }

    pub judge_long : (length s ≡ n → ⊥) → Judged s (Err Sheet)
    unfolding mend_of mend_with
    judge_long h = judged_no s Sheet (rw (le-ltb (length s) 6 six, few false e, ne_eqb (length s) (bytes_in (second (bits_of s)) (counts_at (bits_in_of (bits_of s)))) (λ x. h (x ∙ sym whole))))
