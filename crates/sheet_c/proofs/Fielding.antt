-- Laws of fields that are read from words and written: their sizes, the columns that they are, and the answer. Assumes nothing.
use Prim.Native.Nat.{ℕ, ◌+◌, ◌-◌, ◌*◌, ◌/◌, ◌≤◌, ◌<◌}
use native.Mathlib.Omega.{arith}
use mathlib.Core.Path.{◌≡◌, refl, sym, ap, ap₂, subst, ◌∙◌}
use mathlib.Core.Bool.{Bool, true, false, cond, not, ◌&&◌, ◌||◌}
use mathlib.Core.List.{List}
use lib.Dec.{eqb, leb, ltb}
use lib.IntN.{ℤ}
use lib.ListN.{length, take, replicate, length-map}
use lib.Seq.{take-length}
use borrow.Author.Tests.{leb-true, leb-false, eqb-true, le-leb, lt-leb, le-ltb, lt-ltb, eq-eqb}
use Rattle.lists.specs.Lists.{pick}
use Rattle.lists.proofs.Stores.{tab_length}
use Rattle.lists.proofs.Sifts.{and_true}
use Rattle.bits.specs.Bits.{bits_of}
use Rattle.sheet.specs.Sheet.{Columns, the_field_of, counts_in, even_of, fit_of, names_ok, too_many_of, above, sheet_from}
use Rattle.sheet.specs.declared.Counts.{Counts}
use Rattle.edition.specs.Edition.{own_of, bytes_in}
use Rattle.sheet_writing.specs.Writing.{Handed, columns_from, answer_of, WriteDone}
use Rattle.sheet_writing.proofs.Putting.{put_none}
use Rattle.image.specs.Words.{word_at_of, words_from}
use Rattle.replies.proofs.Saying.{pick_small}
use Rattle.sheet_c.specs.Fields.{signed_from, field_words, fields_fit_of, besides, handed_in, write_answer, SheetWritten}
use Rattle.sheet_c.specs.Work.{fields_few_of, FieldsRoom}

-- ---- sizes

-- the test of the bytes
pub fields_short : (s : List ℕ) → length s < 12 → false ≡ fields_fit_of s
unfolding fields_fit_of
fields_short s h = rw (lt-leb 12 (length s) h)

pub fields_as : (s : List ℕ) (p t e : ℕ) → p ≡ word_at_of s 0 → t ≡ word_at_of s 1 → e ≡ word_at_of s 2 → 12 ≤ length s
    → eqb (length s) (4 * (7 + 3 * p + 3 * t + 3 * e)) ≡ fields_fit_of s
unfolding fields_fit_of
fields_as s p t e ep et ee h = rw (le-leb 12 (length s) h, ep, et, ee)

-- fields that fit have their counts
pub fields_counts : (s : List ℕ) (r : Bool) → r ≡ fields_fit_of s → r ≡ true → 12 ≤ length s
unfolding fields_fit_of
fields_counts s r e h = leb-true 12 (length s) (and_true (leb 12 (length s)) (eqb (length s) (4 * field_words (word_at_of s 0) (word_at_of s 1) (word_at_of s 2))) (sym e ∙ h)).0

-- the test of the counts
pub many_particles : (s : List ℕ) (p : ℕ) → p ≡ word_at_of s 0 → 1024 < p → false ≡ fields_few_of s
unfolding fields_few_of
many_particles s p ep h = rw (lt-leb (word_at_of s 0) 1024 (omega arith))

pub many_triangles : (s : List ℕ) (p t : ℕ) → p ≡ word_at_of s 0 → p ≤ 1024 → t ≡ word_at_of s 1 → 1024 < t → false ≡ fields_few_of s
unfolding fields_few_of
many_triangles s p t ep k et h = rw (le-leb (word_at_of s 0) 1024 (omega arith), lt-leb (word_at_of s 1) 1024 (omega arith))

pub few_edges : (s : List ℕ) (p t e : ℕ) → p ≡ word_at_of s 0 → p ≤ 1024 → t ≡ word_at_of s 1 → t ≤ 1024 → e ≡ word_at_of s 2 → leb e 2048 ≡ fields_few_of s
unfolding fields_few_of
few_edges s p t e ep k et h ee = rw (le-leb (word_at_of s 0) 1024 (omega arith), le-leb (word_at_of s 1) 1024 (omega arith), ee)

-- both tests
pub ok_both : (s : List ℕ) (r w : Bool) → r ≡ fields_fit_of s → r ≡ true → w ≡ fields_few_of s → w ≡ (fields_fit_of s && fields_few_of s)
ok_both s r w e h k = k ∙ sym (ap (λ (b : Bool). b && fields_few_of s) (sym e ∙ h))

pub ok_not : (s : List ℕ) (r : Bool) → r ≡ fields_fit_of s → r ≡ false → false ≡ (fields_fit_of s && fields_few_of s)
ok_not s r e h = sym (ap (λ (b : Bool). b && fields_few_of s) (sym e ∙ h))

pub fields_room : (s : List ℕ) (r : Bool) → r ≡ (fields_fit_of s && fields_few_of s) → r ≡ true → FieldsRoom s
unfolding fields_fit_of fields_few_of
fields_room s r e h =
    let a = and_true (fields_fit_of s) (fields_few_of s) (sym e ∙ h) in
    let f = and_true (leb 12 (length s)) (eqb (length s) (4 * field_words (word_at_of s 0) (word_at_of s 1) (word_at_of s 2))) a.0 in
    let d = and_true (leb (word_at_of s 0) 1024 && leb (word_at_of s 1) 1024) (leb (word_at_of s 2) 2048) a.1 in
    let g = and_true (leb (word_at_of s 0) 1024) (leb (word_at_of s 1) 1024) d.0 in
    record {
      long = eqb-true _ _ f.1;
      particles = leb-true _ _ g.0;
      triangles = leb-true _ _ g.1;
      edges = leb-true _ _ d.1;
    }

-- ---- columns

-- equal columns are equal fields
handed_path : {x x' y y' : List ℤ} {p p' a a' b b' c c' d d' e e' f f' : List ℕ} {k k' : List ℤ}
    → x ≡ x' → y ≡ y' → p ≡ p' → a ≡ a' → b ≡ b' → c ≡ c' → d ≡ d' → e ≡ e' → f ≡ f' → k ≡ k'
    → ◌≡◌ {A = Handed} (record { x = x; y = y; pinned = p; t0 = a; t1 = b; t2 = c; e0 = d; e1 = e; structural = f; blade = k })
    (record { x = x'; y = y'; pinned = p'; t0 = a'; t1 = b'; t2 = c'; e0 = d'; e1 = e'; structural = f'; blade = k' })
handed_path ex ey ep ea eb ec ed ee ef ek i =
    record { x = ex i; y = ey i; pinned = ep i; t0 = ea i; t1 = eb i; t2 = ec i; e0 = ed i; e1 = ee i; structural = ef i; blade = ek i }

-- a writing under another name for its fields
written_as : (w w' : Handed) (before after : List ℕ) (r : ℕ) → w ≡ w' → WriteDone w before after r → WriteDone w' before after r
written_as w w' before after r e D = subst (λ (z : Handed). WriteDone z before after r) e D

-- what was read of the elements
pub record ElementsRead (s : List ℕ) (p t e : ℕ) (a₀ a₁ a₂ d₀ d₁ d₂ : List ℕ) : Type 0 where
  pub t0 : take t a₀ ≡ words_from s (3 + 3 * p) t
  pub t1 : take t a₁ ≡ words_from s (3 + 3 * p + t) t
  pub t2 : take t a₂ ≡ words_from s (3 + 3 * p + 2 * t) t
  pub e0 : take e d₀ ≡ words_from s (3 + 3 * p + 3 * t) e
  pub e1 : take e d₁ ≡ words_from s (3 + 3 * p + 3 * t + e) e
  pub structural : take e d₂ ≡ words_from s (3 + 3 * p + 3 * t + 2 * e) e

pub elements_written : (s : List ℕ) (p t e : ℕ) (x y : List ℤ) (pinned : List ℕ) (blade : List ℤ) (a₀ a₁ a₂ d₀ d₁ d₂ before after : List ℕ) (r : ℕ)
    → p ≡ word_at_of s 0 → t ≡ word_at_of s 1 → e ≡ word_at_of s 2 → ElementsRead s p t e a₀ a₁ a₂ d₀ d₁ d₂
    → WriteDone (record { x = x; y = y; pinned = pinned; t0 = take t a₀; t1 = take t a₁; t2 = take t a₂; e0 = take e d₀; e1 = take e d₁; structural = take e d₂; blade = blade }) before after r
    → WriteDone (besides s (word_at_of s 0) (word_at_of s 1) (word_at_of s 2) x y pinned blade) before after r
elements_written s p t e x y pinned blade a₀ a₁ a₂ d₀ d₁ d₂ before after r ep et ee E D =
    written_as _ (besides s (word_at_of s 0) (word_at_of s 1) (word_at_of s 2) x y pinned blade) before after r
    (handed_path refl refl refl E.t0 E.t1 E.t2 E.e0 E.e1 E.structural refl
    ∙ (λ i. besides s (ep i) (et i) (ee i) x y pinned blade)) D

-- what was read of the particles and of the blade
module _ (s : List ℕ) (F : FieldsRoom s) (p : ℕ) (X Y : List ℤ) (P : List ℕ) (B : List ℤ) (ep : p ≡ word_at_of s 0) (at : ℕ) (ea : at ≡ length s / 4 - 4)
    (ex : take p X ≡ signed_from s 3 p) (ey : take p Y ≡ signed_from s (3 + p) p) (eq : take p P ≡ words_from s (3 + 2 * p) p) (eb : take 4 B ≡ signed_from s at 4) (four : length B ≡ 4) where
  blade_at : at ≡ 3 + 3 * word_at_of s 0 + 3 * word_at_of s 1 + 3 * word_at_of s 2
  blade_at = ea ∙ omega (arith, F.long)

  columns_are : besides s (word_at_of s 0) (word_at_of s 1) (word_at_of s 2) (take p X) (take p Y) (take p P) B ≡ handed_in s
  unfolding handed_in
  columns_are =
      handed_path (ex ∙ ap (λ (n : ℕ). signed_from s 3 n) ep) (ey ∙ ap (λ (n : ℕ). signed_from s (3 + n) n) ep) (eq ∙ ap (λ (n : ℕ). words_from s (3 + 2 * n) n) ep)
      refl refl refl refl refl refl
      (sym (ap (λ (n : ℕ). take n B) (sym four) ∙ take-length B) ∙ eb ∙ ap (λ (n : ℕ). signed_from s n 4) blade_at)

  pub fields_written : (before after : List ℕ) (r : ℕ) → WriteDone (besides s (word_at_of s 0) (word_at_of s 1) (word_at_of s 2) (take p X) (take p Y) (take p P) B) before after r
      → SheetWritten s before after r
  unfolding write_answer fields_fit_of
  fields_written before after r D =
      let D' = written_as _ (handed_in s) before after r columns_are D in
      let f : leb 12 (length s) && eqb (length s) (4 * field_words (word_at_of s 0) (word_at_of s 1) (word_at_of s 2)) ≡ true
      = ap₂ (λ (a b : Bool). a && b) (le-leb 12 (length s) (omega (arith, F.long))) (eq-eqb (length s) _ F.long) in
      record { answer = D'.answer ∙ sym (ap (λ (z : Bool). pick z (answer_of (columns_from (handed_in s)) (length before)) 1) f); bits = D'.bits }

-- ---- refusals

cond_few : (b : Bool) (m n : ℕ) → m < 256 → n < 256 → cond b m n < 256
cond_few true m n h k = h
cond_few false m n h k = k

-- the number of a refusal is small
answer_few : (k : Columns) (m : ℕ) → answer_of k m < 256
unfolding answer_of
answer_few k m =
    cond_few (even_of k) _ 1
    (cond_few (too_many_of (counts_in k)) 1 _ (omega arith)
    (cond_few (fit_of k) _ 2
    (cond_few (names_ok (sheet_from k)) _ 3
    (cond_few (ltb 2048 (length (own_of (sheet_from k)))) 1 _ (omega arith) (cond_few (leb (bytes_in true (counts_in k)) m) 0 9 (omega arith) (omega arith))) (omega arith)) (omega arith)))
    (omega arith)

pub written_few : (s before after : List ℕ) (r : ℕ) → SheetWritten s before after r → r < 256
unfolding write_answer
written_few s before after r W =
    subst (λ (z : ℕ). z < 256) (sym W.answer) (pick_small (fields_fit_of s) (answer_of (columns_from (handed_in s)) (length before)) 1 (answer_few (columns_from (handed_in s)) (length before)) (omega arith))

-- counts above the limits are refused with 1, whatever else there is
many_one : (k : Columns) (m : ℕ) → too_many_of (counts_in k) ≡ true → answer_of k m ≡ 1
unfolding answer_of
many_one k m e =
    by (even_of k) (cond (fit_of k) (cond (names_ok (sheet_from k)) (cond (ltb 2048 (length (own_of (sheet_from k)))) 1 (cond (leb (bytes_in true (counts_in k)) m) 0 9)) 3) 2)
  where
    by : (b : Bool) (x : ℕ) → cond b (cond (too_many_of (counts_in k)) 1 x) 1 ≡ 1
    by true x = ap (λ (z : Bool). cond z 1 x) e
    by false x = refl

-- a count above its limit
over : (n limit : ℕ) → ltb limit n ≡ not (leb n limit)
over n limit = by (leb n limit) refl
  where
    by : (z : Bool) → leb n limit ≡ z → ltb limit n ≡ not z
    by true e = le-ltb limit n (leb-true n limit e)
    by false e = lt-ltb limit n (leb-false n limit e)

three_over : (a b d : Bool) → (a && b && d) ≡ false → (not a || (not b || (not d || false))) ≡ true
three_over false b d h = refl
three_over true false d h = refl
three_over true true false h = refl
three_over true true true h = let z : ◌≡◌ {A = ℕ} 0 1 = cc in absurd (omega arith)

-- the fields have as many entries as their counts say
counts_are : (s : List ℕ) → counts_in (columns_from (handed_in s)) ≡ record { particles = word_at_of s 0; triangles = word_at_of s 1; edges = word_at_of s 2; boundary = 0 }
unfolding handed_in signed_from words_from
counts_are s =
    let p : length (columns_from (handed_in s)).x ≡ word_at_of s 0 = length-map (handed_in s).x the_field_of ∙ tab_length (word_at_of s 0) _ in
    λ i. record { particles = p i; triangles = tab_length (word_at_of s 1) (λ k. word_at_of s (3 + 3 * word_at_of s 0 + k)) i; edges = tab_length (word_at_of s 2) (λ k. word_at_of s (3 + 3 * word_at_of s 0 + 3 * word_at_of s 1 + k)) i; boundary = 0 }

above_many : (s : List ℕ) → fields_few_of s ≡ false → too_many_of (counts_in (columns_from (handed_in s))) ≡ true
unfolding fields_few_of above
above_many s h =
    ap (λ (c : Counts). too_many_of c) (counts_are s)
    ∙ ap₂ (λ (a b : Bool). a || b) (over (word_at_of s 0) 1024) (ap₂ (λ (a b : Bool). a || b) (over (word_at_of s 1) 1024) (ap (λ (a : Bool). a || false) (over (word_at_of s 2) 2048)))
    ∙ three_over (leb (word_at_of s 0) 1024) (leb (word_at_of s 1) 1024) (leb (word_at_of s 2) 2048) h

-- fields that are refused before they are read
one_of : (s : List ℕ) (lent : ℕ) (f w : Bool) → fields_fit_of s ≡ f → fields_few_of s ≡ w → (f && w) ≡ false → write_answer s lent ≡ 1
unfolding write_answer
one_of s lent false w ef ew h = ap (λ (z : Bool). pick z (answer_of (columns_from (handed_in s)) lent) 1) ef
one_of s lent true false ef ew h = ap (λ (z : Bool). pick z (answer_of (columns_from (handed_in s)) lent) 1) ef ∙ many_one (columns_from (handed_in s)) lent (above_many s ew)
one_of s lent true true ef ew h = let z : ◌≡◌ {A = ℕ} 0 1 = cc in absurd (omega arith)

pub refused_one : (s before after : List ℕ) (r : Bool) → r ≡ (fields_fit_of s && fields_few_of s) → r ≡ false → bits_of after ≡ replicate (8 * length before) 0 → SheetWritten s before after 1
refused_one s before after r e h f =
    record { answer = sym (one_of s (length before) (fields_fit_of s) (fields_few_of s) refl refl (sym e ∙ h)); bits = f ∙ put_none 1 (sheet_from (columns_from (handed_in s))) (8 * length before) (λ z. omega arith) }
