-- Each end of the program: the sheet mended, or refused; the lent bytes are never too few. Assumes nothing.
use Prim.Native.Nat.{ℕ, ◌*◌, ◌<◌, ◌≤◌}
use mathlib.Core.Path.{◌≡◌, refl, sym, ap, ◌∙◌, subst}
use mathlib.Core.Bool.{Bool, true, false}
use mathlib.Core.List.{List, [], ◌∷◌, ◌++◌}
use native.Mathlib.Omega.{arith}
use borrow.Author.Tests.{leb-true, leb-false}
use lib.ListN.{length, take, length-append}
use lib.Seq.{length-take-le}
use Rattle.io.specs.Counts.{IsPrefixLen}
use Rattle.lists.specs.Lists.{pick, padded, each}
use Rattle.bits.specs.Bits.{bits_of}
use Rattle.bits.proofs.Laws.{length_bits_of}
use Rattle.sheet.proofs.There.{bits_of_take}
use Rattle.listing.specs.Listing.{decimal, line, refused_bytes, refused_word}
use Rattle.listing.specs.Answers.{Wrote}
use Rattle.std.specs.Prelude.{Option, None, Some}
use Rattle.listing.proofs.Decimal.{decimal_small}
use Rattle.mending.specs.Sheets.{Mending, mended, refused, mend_of}
use Rattle.mender.specs.Answers.{bytes_of, text_of, mended_with, MendDone}
use Rattle.std.specs.Prelude.{Result, Err}
use Rattle.mesh.specs.Refused.{number_of}
use Rattle.mesh.specs.declared.refusals.Refusal.{Refusal}
use Rattle.mender.specs.declared.Mended.{Mended}
use Rattle.mender.specs.declared.MendError.{MendError}
use Rattle.mender.specs.declared.MendError.TheVariants.{Short, Refused}
use Rattle.mender.proofs.Done.{wrote_told, wrote_cut}
use Rattle.mender.proofs.Ends.{padded_front, tell, refused_tell, small_code}
use Rattle.mender.proofs.Lengths.{enough}
use Rattle.mend.specs.Printing.{printed, is_mended, Printed}

counts : (n : ℕ) (l : List ℕ) → n ≤ length l → IsPrefixLen n l
counts n l h = (h, sym (length-take-le n l h))

says : (M : Mending) → M ≡ mended (bytes_of M) (text_of M) → (true ≡ is_mended M) × (text_of M ≡ printed M)
unfolding is_mended printed
says M e = (ap is_mended (sym e), sym (ap printed e))

pub whole_end : (s : List ℕ) (a b : ℕ) (out said : List ℕ) (r : Result Mended MendError) (n k : ℕ) → MendDone s a b out said r → r ≡ mended_with n k → length out ≡ a → length said ≡ b
    → IsPrefixLen n out × IsPrefixLen k said × Printed s out said (record { whole = true; sheet = n; text = k })
whole_end s a b out said r n k d e lo ls =
    let M = mend_of s in
    let w = tell M a b n k (sym e ∙ d.answer) in
    let m = bytes_of M in
    let o : bits_of out ≡ padded (8 * a) 0 (bits_of m) = d.bits ∙ ap (λ (x : Bool). padded (8 * a) 0 (bits_of (pick x m []))) w.fit in
    let q : said ≡ padded b 0 (text_of M) = d.text ∙ ap (λ (x : Bool). padded b 0 (pick x (text_of M) [])) w.fit in
    let l : 8 * n ≡ length (bits_of m) = ap (λ (j : ℕ). 8 * j) w.sheet ∙ sym (length_bits_of m) in
    let x : bits_of (take n out) ≡ bits_of m = bits_of_take n out ∙ (ap (take (8 * n)) o ∙ (ap (λ (j : ℕ). take j (padded (8 * a) 0 (bits_of m))) l ∙ padded_front (8 * a) (bits_of m))) in
    let y : take k said ≡ text_of M = ap (take k) q ∙ (ap (λ (j : ℕ). take j (padded b 0 (text_of M))) w.text ∙ padded_front b (text_of M)) in
    (counts n out (omega (arith, w.room)), counts k said (omega (arith, w.room_text)), record { whole = (says M w.is).0; sheet = x; text = y ∙ (says M w.is).1 })

-- ---- a refusal

line_long : (n : ℕ) → n < 10 → length (refused_bytes n) ≤ 20
unfolding refused_bytes line each
line_long n h =
    let d = ap length (decimal_small n h) in
    let x : List ℕ = 32 ∷ decimal n in
    omega (arith, length-append (refused_word ++ (x ++ [])) (10 ∷ []), length-append refused_word (x ++ []), length-append x [])

printed_refused : (n : Refusal) → refused_bytes (number_of n) ≡ printed (refused n)
unfolding printed
printed_refused n = refl

not_whole : (n : Refusal) → false ≡ is_mended (refused n)
unfolding is_mended
not_whole n = refl

no_bytes : (n : Refusal) → [] ≡ bytes_of (refused n)
unfolding bytes_of
no_bytes n = refl

module _ (s : List ℕ) (a b : ℕ) (out said said' : List ℕ) (r : Result Mended MendError) (n : Refusal) (line : Option ℕ) (d : MendDone s a b out said r) (e : r ≡ Err (Refused n)) (w : Wrote (refused_bytes (number_of n)) b said' line) where
  is : mend_of s ≡ refused n
  is = refused_tell (mend_of s) a b n (sym e ∙ d.answer)

  pub refused_end : (k : ℕ) → line ≡ Some k → length said' ≡ b → IsPrefixLen 0 out × IsPrefixLen k said' × Printed s out said' (record { whole = false; sheet = 0; text = k })
  refused_end k f l =
      let v = wrote_told (refused_bytes (number_of n)) b said' line k w f in
      let y : take k said' ≡ refused_bytes (number_of n) = ap (take k) v.2 ∙ (ap (λ (j : ℕ). take j (padded b 0 (refused_bytes (number_of n)))) v.1 ∙ padded_front b (refused_bytes (number_of n))) in (
        counts 0 out (omega arith),
        counts k said' (omega (arith, v.1, leb-true (length (refused_bytes (number_of n))) b v.0)),
        record { whole = not_whole n ∙ ap is_mended (sym is); sheet = ap bits_of (no_bytes n ∙ ap bytes_of (sym is)); text = y ∙ (printed_refused n ∙ ap printed (sym is)) },
      )

  pub refused_fits : line ≡ None → 131072 ≤ b → ⊥
  refused_fits f h = let v = wrote_cut (refused_bytes (number_of n)) b said' line w f in omega (arith, leb-false (length (refused_bytes (number_of n))) b v.0, line_long (number_of n) (small_code s n is))

-- too few lent bytes, which does not happen
pub short_never : (s : List ℕ) (a b : ℕ) (out said : List ℕ) (r : Result Mended MendError) → MendDone s a b out said r → r ≡ Err Short → 17292 ≤ a → 131072 ≤ b → ⊥
short_never s a b out said r d e h g = enough s a b out said r h (omega arith) d e

-- a length by another name
pub wrote_as : (text : List ℕ) (a b : ℕ) (s : List ℕ) (r : Option ℕ) → Wrote text a s r → a ≡ b → Wrote text b s r
wrote_as text a b s r w e = subst (λ (n : ℕ). Wrote text n s r) e w
