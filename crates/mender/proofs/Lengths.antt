-- How long the mended sheet and the text can be: 17,292 and 99,328 bytes, so that such rooms hold every answer. Assumes nothing.
use Prim.Native.Nat.{ℕ, suc, ◌+◌, ◌*◌, ◌<◌, ◌≤◌}
use mathlib.Core.Path.{◌≡◌, refl, sym, ap, ◌∙◌}
use mathlib.Core.Bool.{Bool, true, false, false≢true}
use mathlib.Core.List.{List, [], ◌∷◌, ◌++◌}
use native.Mathlib.Omega.{arith}
use native.Mathlib.Nat.{suc-mul}
use borrow.Author.Tests.{eqb-true, ne_eqb, le-leb}
use lib.Dec.{eqb, leb}
use lib.ListN.{length, length-append}
use Rattle.lists.specs.Lists.{pick, each}
use Rattle.bits.specs.Bits.{bits_of}
use Rattle.sheet.specs.Sheet.{Sheet, counts_at, counts_of}
use Rattle.sheet.specs.declared.Counts.{Counts}
use Rattle.edition.specs.Edition.{second, bits_in_of, bytes_in, typed_of}
use Rattle.listing.specs.Listing.{spaced, edge_word}
use Rattle.listing.proofs.Lengths.{four_digits}
use Rattle.mending.specs.Mending.{Why, absent, twice, double, Drop}
use Rattle.mending.specs.Sheets.{Mending, mended, refused, mended_sheet, sheet_bytes, drop_line, why_word, triangle_word, boundary_word, said_of, mend_of}
use Rattle.mending.specs.Work.{cause_by, double_by, said_by, codes_of, boundary_from}
use Rattle.mending.proofs.Bytes.{answered, sheet_length, typed_is}
use Rattle.mender.specs.Answers.{answer_for, mended_with, MendDone}
use Rattle.std.specs.Prelude.{Result, Err}
use Rattle.mender.specs.declared.Mended.{Mended}
use Rattle.mender.specs.declared.MendError.{MendError}
use Rattle.mender.specs.declared.MendError.TheVariants.{Short}
use Rattle.mender.specs.Work.{Marked}
use Rattle.mender.proofs.Whole.{few_held, few_out, many, long_t, long_e, long_b, marked_said}

-- ---- lines

why_few : (w : Why) → length (why_word w) ≤ 6
why_few absent = omega arith
why_few twice = omega arith
why_few double = omega arith

line_few : (word : List ℕ) (d : Drop) → d.place < 10000 → length (drop_line word d) ≤ length word + 13
unfolding drop_line
line_few word d h =
    let tail : List ℕ = 32 ∷ (why_word d.why ++ (10 ∷ [])) in
    let f = four_digits d.place h in
    let w = why_few d.why in
    omega (arith, length-append word (spaced d.place ++ tail), length-append (spaced d.place) tail, length-append (why_word d.why) (10 ∷ []))

-- ---- the lines of a column: a place has one at most

module _ (word : List ℕ) where
  lines : List Drop → ℕ
  lines l = length (each (drop_line word) l)

  lines_cons : (d : Drop) (l : List Drop) → d.place < 10000 → lines (d ∷ l) ≤ length word + 13 + lines l
  unfolding lines each
  lines_cons d l h = let f = line_few word d h in omega (arith, length-append (drop_line word d) (each (drop_line word) l))

  by_one : (x y z : Bool) (A B D : Drop) (X Y : List Drop) → A.place < 10000 → B.place < 10000 → D.place < 10000 → (x ≡ true → z ≡ false) → (y ≡ true → z ≡ false)
      → lines (pick x (A ∷ X) (pick y (B ∷ X) X)) + lines (pick z (D ∷ Y) Y) ≤ length word + 13 + (lines X + lines Y)
  by_one true y true A B D X Y a b d f g = absurd (false≢true (sym (f refl)))
  by_one true y false A B D X Y a b d f g = let q = lines_cons A X a in omega arith
  by_one false true true A B D X Y a b d f g = absurd (false≢true (sym (g refl)))
  by_one false true false A B D X Y a b d f g = let q = lines_cons B X b in omega arith
  by_one false false true A B D X Y a b d f g = let q = lines_cons D Y d in omega arith
  by_one false false false A B D X Y a b d f g = omega arith

  not_three : (c k : ℕ) → (k ≡ 3 → ⊥) → eqb c k ≡ true → eqb c 3 ≡ false
  not_three c k h e = ne_eqb c 3 (λ z. h (sym (eqb-true c k e) ∙ z))

  none_long : lines [] ≡ 0
  unfolding lines each
  none_long = refl

  column_few : (k : ℕ) (cs : List ℕ) → k + length cs ≤ 10000 → lines (cause_by k cs) + lines (double_by k cs) ≤ length cs * (length word + 13)
  unfolding cause_by double_by
  column_few k [] h = omega (arith, none_long)
  column_few k (c ∷ cs) h =
      let q = column_few (suc k) cs (omega arith) in
      let r = by_one (eqb c 1) (eqb c 2) (eqb c 3) (record { place = k; why = absent }) (record { place = k; why = twice }) (record { place = k; why = double }) (cause_by (suc k) cs) (double_by (suc k) cs) (omega arith) (omega arith) (omega arith)
      (not_three c 1 (λ z. omega (arith, z))) (not_three c 2 (λ z. omega (arith, z))) in
      omega (arith, suc-mul (length cs) (length word + 13))

  pub both_few : (cs : List ℕ) → length cs ≤ 10000 → length (each (drop_line word) (cause_by 0 cs)) + length (each (drop_line word) (double_by 0 cs)) ≤ length cs * (length word + 13)
  unfolding lines
  both_few cs h = column_few 0 cs (omega arith)

said_by_lem : (t e b : List ℕ) → length t ≤ 1024 → length e ≤ 2048 → length b ≤ 2048 → length (said_by t e b) ≤ 99328
unfolding said_by
said_by_lem t e b ht he hb =
    let T = each (drop_line triangle_word) (cause_by 0 t) in
    let E = each (drop_line edge_word) (cause_by 0 e) in
    let B = each (drop_line boundary_word) (cause_by 0 b) in
    let D = each (drop_line boundary_word) (double_by 0 b) in
    let x = both_few triangle_word t (omega arith) in
    let y = both_few edge_word e (omega arith) in
    let z = both_few boundary_word b (omega arith) in
    omega (arith, length-append T (E ++ (B ++ D)), length-append E (B ++ D), length-append B D)

-- ---- both bounds

bytes_few : (t : Bool) (c : Counts) → c.particles ≤ 1024 → c.triangles ≤ 1024 → c.edges ≤ 2048 → c.boundary ≤ 2048 → bytes_in t c ≤ 17292
bytes_few true c p t e b = omega arith
bytes_few false c p t e b = omega arith

-- the columns that every sheet has
own_marks : (s : List ℕ) → Marked s (codes_of (length (typed_of (bits_of s)).particles) 3 (typed_of (bits_of s)).triangles) (codes_of (length (typed_of (bits_of s)).particles) 2 (typed_of (bits_of s)).edges) (boundary_from (length (typed_of (bits_of s)).particles) [] (typed_of (bits_of s)).boundary)
own_marks s = record { triangles = refl; edges = refl; boundary = refl }

pub mended_short : (s m t : List ℕ) → mend_of s ≡ mended m t → (length m ≤ 17292) × (length t ≤ 99328)
mended_short s m t e =
    let w = answered s m t e in
    let a = w.held in
    let P = length (typed_of (bits_of s)).particles in
    let ct = codes_of P 3 (typed_of (bits_of s)).triangles in
    let ce = codes_of P 2 (typed_of (bits_of s)).edges in
    let cb = boundary_from P [] (typed_of (bits_of s)).boundary in
    let k = own_marks s in
    let f = few_out s ct ce cb a k in
    let c = few_held s (counts_at (bits_in_of (bits_of s))) a refl in
    let n = many s a in
    let lt : length ct ≤ 1024 = omega (arith, long_t s ct ce cb a k, n.1, c.1) in
    let le : length ce ≤ 2048 = omega (arith, long_e s ct ce cb a k, n.2, c.2) in
    let lb : length cb ≤ 2048 = omega (arith, long_b s ct ce cb a k, n.3, c.3) in
    let q = said_by_lem ct ce cb lt le lb in
    let x : length t ≡ length (said_by ct ce cb) = ap length (w.said ∙ (ap said_of (sym (typed_is s)) ∙ sym (marked_said s ct ce cb a k))) in
    let M = mended_sheet (typed_of (bits_of s)) in
    let y : length m ≡ bytes_in (second (bits_of s)) (counts_of M) = ap length (w.bytes ∙ ap (λ (z : Sheet). sheet_bytes (second (bits_of s)) (mended_sheet z)) (sym (typed_is s))) ∙ sheet_length (second (bits_of s)) M in
    let z = bytes_few (second (bits_of s)) (counts_of M) f.0 f.1 f.2 f.3 in
    (omega arith, omega arith)

-- enough: such rooms are never too few
fits_all : (M : Mending) (a b : ℕ) → ((m t : List ℕ) → M ≡ mended m t → (length m ≤ a) × (length t ≤ b)) → Err Short ≡ answer_for M a b → ⊥
unfolding answer_for
fits_all (mended m t) a b h e =
    let q = h m t refl in
    let f : leb (length m) a ≡ true = le-leb (length m) a q.0 in
    let g : leb (length t) b ≡ true = le-leb (length t) b q.1 in
    let z : Err Short ≡ mended_with (length m) (length t) = rw (f, g) at e in
    absurd (let y : ◌≡◌ {A = ℕ} 0 1 = cc in omega arith)
fits_all (refused n) a b h e = absurd (let y : ◌≡◌ {A = ℕ} 0 1 = cc in omega arith)

pub enough : (s : List ℕ) (a b : ℕ) (out said : List ℕ) (r : Result Mended MendError) → 17292 ≤ a → 99328 ≤ b → MendDone s a b out said r → r ≡ Err Short → ⊥
enough s a b out said r h g d e =
    fits_all (mend_of s) a b (λ m t q. let w = mended_short s m t q in (omega (arith, w.0), omega (arith, w.1))) (sym e ∙ d.answer)
