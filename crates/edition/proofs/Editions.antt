-- The second edition: reading and writing undo each other, as in the first, from which it follows. Assumes nothing.
use Prim.Native.Nat.{ℕ, zero, suc, ◌+◌, ◌-◌, ◌*◌, ◌/◌, ◌≤◌}
use lib.Dec.{eqb}
use mathlib.Core.Path.{◌≡◌, refl, sym, ap, ap₂, ◌∙◌}
use mathlib.Core.Bool.{Bool, true, false, cond, ◌&&◌, ◌||◌}
use mathlib.Core.List.{List, [], ◌∷◌, ◌++◌, append_assoc, append-nil}
use native.Mathlib.Omega.{arith}
use borrow.Author.Tests.{eq-eqb, eqb-true, not-true, le-ltb}
use lib.ListN.{length, take, drop, replicate, length-append, length-drop, length-replicate, take-append-drop}
use lib.Seq.{take-append-add, take-append-le, take-take, take_at, drop_at, take-add, drop-drop, length-take-le}
use Rattle.bits.specs.Bits.{bits, bits_of, num, field_at}
use Rattle.bits.specs.Rows.{total, pack, read_rows, write_rows}
use Rattle.bits.proofs.Laws.{length_bits, num_bits, bits_num, bits_zero}
use Rattle.bits.proofs.RowLaws.{AllBits, bits_append, bits_zeros, bits_take, bits_drop, length_pack, length_write_rows}
use Rattle.sheet.specs.Sheet.{Sheet, counts_of, counts_at, sheet_with, sheet_bits, FitSheet, seen_of, seen_with, row_ok, names_ok, too_many_of, above, at_edges, at_boundary, particle_w, triangle_w, edge_w, blade_w, end_of}
use Rattle.edition.specs.Edition.{header2_w, second, as_first_of, bits_in_of, sheet2_bits, bounded, end_in, typed_seen, typed_with, typed_of, sheet_of, outline_in, replaced_in, own_of}
use Rattle.sheet.specs.Work.{row_at, ok_at_of}
use Rattle.outline.specs.Outline.{same_sides_of}
use Rattle.outline.proofs.Pairs.{settled_set}
use Rattle.sheet.specs.declared.Counts.{Counts}
use Rattle.sheet.proofs.Trip.{same_counts, counts_read, read_of_write, write_of_read}
use Rattle.sheet.proofs.There.{num_zeros}
use Rattle.sheet.proofs.SeenLaws.{names_at_lem}
use Rattle.std.specs.Prelude.{Ok, Err}
use Rattle.mesh.specs.declared.refusals.Refusal.TheVariants.{Size, Name, Sheet as NoSheet}
use Rattle.lists.proofs.Truths.{and_end}

-- the three counts, and all that stands behind them
abbrev counts3 : Sheet → List ℕ
counts3 s = bits 11 (length s.particles) ++ (bits 11 (length s.triangles) ++ bits 12 (length s.edges))

abbrev body_of : Sheet → List ℕ → List ℕ
body_of s rest = write_rows particle_w s.particles ++ (write_rows triangle_w s.triangles ++ (write_rows edge_w s.edges ++ (pack blade_w s.blade ++ rest)))

counts3_long : (s : Sheet) → length (counts3 s) ≡ 34
counts3_long s =
    let a = bits 11 (length s.particles) in
    let b = bits 11 (length s.triangles) in
    let c = bits 12 (length s.edges) in
    omega (arith, length-append a (b ++ c), length-append b c, length_bits 11 (length s.particles), length_bits 11 (length s.triangles), length_bits 12 (length s.edges))

-- the header, put in two parts
pub header_parts : (p t e : ℕ) → pack (11 ∷ 11 ∷ 11 ∷ []) (2047 ∷ p ∷ t ∷ []) ++ bits 12 e ≡ pack header2_w (2047 ∷ p ∷ t ∷ e ∷ [])
unfolding pack
header_parts p t e = simp (append_assoc, append-nil)

-- a sheet's bits in either edition, in these parts
parts2 : (s : Sheet) (rest : List ℕ) → sheet2_bits s ++ rest ≡ bits 11 2047 ++ (counts3 s ++ body_of s rest)
unfolding sheet2_bits pack
parts2 s rest = simp (append_assoc, append-nil)

parts1 : (s : Sheet) (rest : List ℕ) → sheet_bits (bounded [] s) ++ rest ≡ counts3 s ++ (bits 12 0 ++ body_of s rest)
unfolding sheet_bits pack write_rows
parts1 s rest = simp (append_assoc, append-nil)

-- the second edition's bits, as the first has them, are those of the sheet without boundary entries
pub as_first : (s : Sheet) (rest : List ℕ) → as_first_of (sheet2_bits s ++ rest) ≡ sheet_bits (bounded [] s) ++ rest
unfolding as_first_of
as_first s rest =
    let a = bits 11 2047 in
    let c = counts3 s in
    let b = body_of s rest in
    let l = sheet2_bits s ++ rest in
    let la : length a ≡ 11 = length_bits 11 2047 in
    let lc = counts3_long s in
    let lac : length (a ++ c) ≡ 45 = omega (arith, length-append a c) in
    let p : l ≡ a ++ (c ++ b) = parts2 s rest in
    let q : drop 11 l ≡ c ++ b = ap (drop 11) p ∙ drop_at a (c ++ b) 11 la in
    let t : take 34 (drop 11 l) ≡ c = ap (take 34) q ∙ take_at c b 34 lc in
    let u : drop 45 l ≡ b = ap (drop 45) (p ∙ sym (append_assoc a c b)) ∙ drop_at (a ++ c) b 45 lac in
    ap₂ (λ (x y : List ℕ). x ++ (replicate 12 0 ++ y)) t u ∙ ap (λ (z : List ℕ). c ++ (z ++ b)) (sym (bits_zero 12)) ∙ sym (parts1 s rest)

-- they begin with eleven ones
pub is_second : (s : Sheet) (rest : List ℕ) → second (sheet2_bits s ++ rest) ≡ true
is_second s rest =
    let a = bits 11 2047 in
    let w = counts3 s ++ body_of s rest in
    let e : take 11 (sheet2_bits s ++ rest) ≡ a = ap (take 11) (parts2 s rest) ∙ take_at a w 11 (length_bits 11 2047) in
    eq-eqb (num (take 11 (sheet2_bits s ++ rest))) 2047 (ap num e ∙ num_bits 11 2047)

pub bits_in : (s : Sheet) (rest : List ℕ) → bits_in_of (sheet2_bits s ++ rest) ≡ sheet_bits (bounded [] s) ++ rest
unfolding bits_in_of
bits_in s rest = rw (is_second s rest) (as_first s rest)

-- what is written in the second edition is read: the lists and the blade as they were, the boundary the mesh's own outline, and not replaced
pub second_read : (s : Sheet) (rest : List ℕ) → FitSheet (bounded [] s) → typed_of (sheet2_bits s ++ rest) ≡ bounded [] s
unfolding typed_of
second_read s rest f =
    let l = sheet_bits (bounded [] s) ++ rest in
    ap (λ (m : List ℕ). sheet_with (counts_at m) m) (bits_in s rest)
    ∙ ap (λ (c : Counts). sheet_with c l) (same_counts (counts_at l) (counts_of (bounded [] s)) (counts_read (bounded [] s) rest f)) ∙ read_of_write (bounded [] s) rest f

pub written_read : (s : Sheet) (rest : List ℕ) → FitSheet (bounded [] s) → sheet_of (sheet2_bits s ++ rest) ≡ record { sheet = bounded (own_of s) s; replaced = false }
unfolding sheet_of outline_in replaced_in
written_read s rest f = rw (is_second s rest, second_read s rest f)

-- ---- what is read is written again

-- bits of the second edition, in parts
module _ (l : List ℕ) (h : AllBits l) (two : second l ≡ true) (room : 45 ≤ length l) where
  abbrev A : List ℕ
  A = take 34 (drop 11 l)

  abbrev D : List ℕ
  D = drop 45 l

  A-long : length A ≡ 34
  A-long = length-take-le 34 (drop 11 l) (omega (arith, length-drop 11 l))

  ones : take 11 l ≡ bits 11 2047
  ones =
      let n : length (take 11 l) ≡ 11 = length-take-le 11 l (omega arith) in
      let v : num (take 11 l) ≡ 2047 = eqb-true (num (take 11 l)) 2047 two in
      sym (bits_num (take 11 l) (bits_take 11 l h)) ∙ ap₂ bits n v

  parts_of : l ≡ bits 11 2047 ++ (A ++ D)
  parts_of =
      let d : drop 34 (drop 11 l) ≡ D = drop-drop 34 11 l in
      sym (take-append-drop 11 l) ∙ ap₂ (λ (x y : List ℕ). x ++ y) ones (sym (take-append-drop 34 (drop 11 l)) ∙ ap (λ (x : List ℕ). A ++ x) d)

  pub first_bits : AllBits (as_first_of l)
  unfolding as_first_of
  first_bits = bits_append A (replicate 12 0 ++ D) (bits_take 34 (drop 11 l) (bits_drop 11 l h)) (bits_append (replicate 12 0) D (bits_zeros 12) (bits_drop 45 l h))

  -- it has no boundary entries
  no_boundary : (counts_at (as_first_of l)).boundary ≡ 0
  unfolding as_first_of
  no_boundary =
      let z = replicate {A = ℕ} 12 0 in
      let d : drop 34 (A ++ (z ++ D)) ≡ z ++ D = drop_at A (z ++ D) 34 A-long in
      ap (λ (x : List ℕ). num (take 12 x)) d ∙ ap num (take_at z D 12 (length-replicate {A = ℕ} 12 0)) ∙ num_zeros 12

  pub first_long : length (as_first_of l) ≡ length l + 1
  unfolding as_first_of
  first_long =
      let z = replicate {A = ℕ} 12 0 in
      omega (arith, A-long, length-append A (z ++ D), length-append z D, length-replicate {A = ℕ} 12 0, length-drop 45 l)

  abbrev c : Counts
  c = counts_at (as_first_of l)

  abbrev s : Sheet
  s = sheet_with c (as_first_of l)

  no_entries : s ≡ bounded [] s
  unfolding sheet_with read_rows
  no_entries =
      let n : s.boundary ≡ [] = rw no_boundary in
      ap (λ (b : List (List ℕ)). bounded b s) n

  -- the front of what stands in the first edition's way
  first_taken : (n e : ℕ) → n ≡ 46 + e → take n (as_first_of l) ≡ A ++ (replicate 12 0 ++ take e D)
  unfolding as_first_of
  first_taken n e d =
      let z = replicate {A = ℕ} 12 0 in
      let k : n ≡ length A + (length z + e) = omega (arith, A-long, length-replicate {A = ℕ} 12 0) in
      ap (λ (j : ℕ). take j (A ++ (z ++ D))) k ∙ take-append-add A (z ++ D) (length z + e) ∙ ap (λ (x : List ℕ). A ++ x) (take-append-add z D e)

  -- and of the bits themselves
  own_taken : (n e : ℕ) → n ≡ 45 + e → take n l ≡ bits 11 2047 ++ (A ++ take e D)
  own_taken n e d =
      let a = bits 11 2047 in
      let k : n ≡ length a + (length A + e) = omega (arith, A-long, length_bits 11 2047) in
      ap₂ (λ (j : ℕ) (x : List ℕ). take j x) k parts_of ∙ take-append-add a (A ++ D) (length A + e) ∙ ap (λ (x : List ℕ). a ++ x) (take-append-add A D e)

  -- reading and writing, part by part
  module _ (fits : end_of c ≤ length l + 1) where
    abbrev e : ℕ
    e = end_of c - 46

    same_parts : counts3 s ++ (replicate 12 0 ++ body_of s []) ≡ A ++ (replicate 12 0 ++ take e D)
    same_parts =
        let z = replicate {A = ℕ} 12 0 in
        let w : sheet_bits s ≡ take (end_of c) (as_first_of l) = write_of_read (as_first_of l) first_bits (omega (arith, first_long)) in
        let p : sheet_bits (bounded [] s) ++ [] ≡ counts3 s ++ (bits 12 0 ++ body_of s []) = parts1 s [] in
        let q : take (end_of c) (as_first_of l) ≡ A ++ (z ++ take e D) = first_taken (end_of c) e (omega arith) in
        ap (λ (x : List ℕ). counts3 s ++ (x ++ body_of s [])) (sym (bits_zero 12)) ∙ sym p ∙ append-nil (sheet_bits (bounded [] s)) ∙ ap sheet_bits (sym no_entries) ∙ w ∙ q

    pub written_again : sheet2_bits s ≡ take (end_of c - 1) l
    written_again =
        let z = replicate {A = ℕ} 12 0 in
        let f = same_parts in
        let g : counts3 s ≡ A = sym (take_at (counts3 s) (z ++ body_of s []) 34 (counts3_long s)) ∙ ap (take 34) f ∙ take_at A (z ++ take e D) 34 A-long in
        let h : z ++ body_of s [] ≡ z ++ take e D = sym (drop_at (counts3 s) (z ++ body_of s []) 34 (counts3_long s)) ∙ ap (drop 34) f ∙ drop_at A (z ++ take e D) 34 A-long in
        let lz : length z ≡ 12 = length-replicate {A = ℕ} 12 0 in
        let b : body_of s [] ≡ take e D = sym (drop_at z (body_of s []) 12 lz) ∙ ap (drop 12) h ∙ drop_at z (take e D) 12 lz in
        sym (append-nil (sheet2_bits s)) ∙ parts2 s [] ∙ ap₂ (λ (x y : List ℕ). bits 11 2047 ++ (x ++ y)) g b ∙ sym (own_taken (end_of c - 1) e (omega arith))

-- the second-edition bits of the sheet that second-edition bits hold are those bits, to the sheet's end
pub read_written : (l : List ℕ) → AllBits l → second l ≡ true → 45 ≤ length l → end_of (counts_at (bits_in_of l)) ≤ length l + 1 → sheet2_bits (typed_of l) ≡ take (end_in true (counts_at (bits_in_of l))) l
unfolding typed_of bits_in_of
read_written l h two room = rw two (written_again l h two room)

-- ---- the editions agree

-- a first-edition sheet and a second-edition one with the same other fields: the same but for the boundary, which has the same sides; the same altogether where the typed one was replaced
pub record Agree (l m : List ℕ) : Type 0 where
  pub others : bounded [] (sheet_of l).sheet ≡ bounded [] (sheet_of m).sheet
  pub sides : same_sides_of (sheet_of l).sheet.boundary (sheet_of m).sheet.boundary ≡ true
  pub whole : (sheet_of l).replaced ≡ true → (sheet_of l).sheet ≡ (sheet_of m).sheet

pub editions_agree : (l m : List ℕ) → second l ≡ false → second m ≡ true → bounded [] (typed_of l) ≡ bounded [] (typed_of m) → Agree l m
unfolding sheet_of outline_in replaced_in
editions_agree l m one two e =
    let own : own_of (typed_of l) ≡ own_of (typed_of m) = ap own_of e in
    let set = settled_set (typed_of l).boundary (own_of (typed_of l)) in
    record {
      others = e;
      sides = rw (one, two, ← own) set.same;
      whole = rw (one, two, ← own) (λ r. rw (set.replaced (not-true _ r)) (ap (bounded (own_of (typed_of l))) e));
    }

-- in the first edition the typed look is the look of the first edition
pub first_seen : (limits : Counts) (s : List ℕ) → second (bits_of s) ≡ false → typed_seen limits s ≡ seen_of limits s
unfolding typed_seen typed_with seen_of seen_with bits_in_of
first_seen limits s e = rw e

-- ---- places of the second edition in the first

module _ (l : List ℕ) (room : 45 ≤ length l) where
  -- what stands at a place behind the header
  pub behind : (k : ℕ) → drop (46 + k) (as_first_of l) ≡ drop (45 + k) l
  unfolding as_first_of
  behind k =
      let a = take 34 (drop 11 l) in
      let z = replicate {A = ℕ} 12 0 in
      let d = drop 45 l in
      let la : length a ≡ 34 = length-take-le 34 (drop 11 l) (omega (arith, length-drop 11 l)) in
      let n : length (a ++ z) ≡ 46 = omega (arith, length-append a z, length-replicate {A = ℕ} 12 0) in
      let u : drop 46 (a ++ (z ++ d)) ≡ d = ap (drop 46) (sym (append_assoc a z d)) ∙ drop_at (a ++ z) d 46 n in
      sym (drop-drop k 46 (a ++ (z ++ d))) ∙ ap (drop k) u ∙ drop-drop k 45 l

  pub field_behind : (k w : ℕ) → field_at (as_first_of l) (46 + k) w ≡ field_at l (45 + k) w
  field_behind k w = ap (λ (x : List ℕ). num (take w x)) (behind k)

  -- rows of names behind the header
  row_behind : (three : Bool) (p k : ℕ) → row_at three p (as_first_of l) (46 + k) ≡ row_at three p l (45 + k)
  row_behind three p k =
      let a1 : 46 + k + 10 ≡ 46 + (k + 10) = omega arith in
      let a2 : 46 + k + 20 ≡ 46 + (k + 20) = omega arith in
      let b1 : 45 + (k + 10) ≡ 45 + k + 10 = omega arith in
      let b2 : 45 + (k + 20) ≡ 45 + k + 20 = omega arith in
      let f : ℕ → ℕ = λ j. field_at (as_first_of l) j 10 in
      let g : ℕ → ℕ = λ j. field_at l j 10 in
      let x : f (46 + k) ≡ g (45 + k) = field_behind k 10 in
      let y : f (46 + k + 10) ≡ g (45 + k + 10) = ap f a1 ∙ field_behind (k + 10) 10 ∙ ap g b1 in
      let z : f (46 + k + 20) ≡ g (45 + k + 20) = ap f a2 ∙ field_behind (k + 20) 10 ∙ ap g b2 in
      ap (λ (u : ℕ). row_ok three p u (f (46 + k + 10)) (f (46 + k + 20))) x ∙ ap (λ (u : ℕ). row_ok three p (g (45 + k)) u (f (46 + k + 20))) y
      ∙ ap (λ (u : ℕ). row_ok three p (g (45 + k)) (g (45 + k + 10)) u) z

  pub rows_behind : (three : Bool) (p k step n : ℕ) → ok_at_of three p (as_first_of l) (46 + k) step n ≡ ok_at_of three p l (45 + k) step n
  unfolding ok_at_of
  rows_behind three p k step zero = refl
  rows_behind three p k step (suc n) =
      let a : 46 + k + step ≡ 46 + (k + step) = omega arith in
      let b : 45 + (k + step) ≡ 45 + k + step = omega arith in
      ap₂ ◌&&◌ (row_behind three p k)
      (ap (λ (j : ℕ). ok_at_of three p (as_first_of l) j step n) a ∙ rows_behind three p (k + step) step n ∙ ap (λ (j : ℕ). ok_at_of three p l j step n) b)

  -- the header's fields
  part : (k w : ℕ) (Z : List ℕ) → k + w ≤ length Z → take w (drop k Z) ≡ drop k (take (k + w) Z)
  part k w Z h = sym (ap (drop k) (take-add k w Z) ∙ drop_at (take k Z) (take w (drop k Z)) k (length-take-le k Z (omega arith)))

  pub front : (k w : ℕ) → k + w ≤ 34 → field_at (as_first_of l) k w ≡ field_at l (11 + k) w
  unfolding as_first_of
  front k w h =
      let X = drop 11 l in
      let a = take 34 X in
      let y = replicate {A = ℕ} 12 0 ++ drop 45 l in
      let lx = length-drop 11 l in
      let la : length a ≡ 34 = length-take-le 34 X (omega arith) in
      ap num
      (part k w (a ++ y) (omega (arith, length-append a y)) ∙ ap (drop k) (take-append-le (k + w) a y (omega arith) ∙ take-take (k + w) 34 X h) ∙ sym (part k w X (omega arith))
      ∙ ap (take w) (drop-drop k 11 l))

  none : field_at (as_first_of l) 34 12 ≡ 0
  unfolding as_first_of
  none =
      let a = take 34 (drop 11 l) in
      let z = replicate {A = ℕ} 12 0 in
      let la : length a ≡ 34 = length-take-le 34 (drop 11 l) (omega (arith, length-drop 11 l)) in
      ap (λ (x : List ℕ). num (take 12 x)) (drop_at a (z ++ drop 45 l) 34 la) ∙ ap num (take_at z (drop 45 l) 12 (length-replicate {A = ℕ} 12 0)) ∙ num_zeros 12

  pub counts_second : counts_at (as_first_of l) ≡ record { particles = field_at l 11 11; triangles = field_at l 22 11; edges = field_at l 33 12; boundary = 0 }
  counts_second =
      let p = front 0 11 (omega arith) in
      let t = front 11 11 (omega arith) in
      let e = front 22 12 (omega arith) in
      let b = none in
      λ i. record { particles = p i; triangles = t i; edges = e i; boundary = b i }

  -- every element names particles, by the places of its fields
  pub names_second : (c : Counts) → c.boundary ≡ 0
      → names_ok (sheet_with c (as_first_of l)) ≡ (ok_at_of true c.particles l (45 + c.particles * 23) 30 c.triangles && ok_at_of false c.particles l (45 + c.particles * 23 + c.triangles * 30) 21 c.edges)
  unfolding ok_at_of
  names_second c n =
      let a : 46 + c.particles * 23 + c.triangles * 30 ≡ 46 + (c.particles * 23 + c.triangles * 30) = omega arith in
      let b : 45 + (c.particles * 23 + c.triangles * 30) ≡ 45 + c.particles * 23 + c.triangles * 30 = omega arith in
      let t = rows_behind true c.particles (c.particles * 23) 30 c.triangles in
      let e : ok_at_of false c.particles (as_first_of l) (at_edges c) 21 c.edges ≡ ok_at_of false c.particles l (45 + c.particles * 23 + c.triangles * 30) 21 c.edges =
      ap (λ (j : ℕ). ok_at_of false c.particles (as_first_of l) j 21 c.edges) a ∙ rows_behind false c.particles (c.particles * 23 + c.triangles * 30) 21 c.edges
      ∙ ap (λ (j : ℕ). ok_at_of false c.particles l j 21 c.edges) b in
      let d : ok_at_of false c.particles (as_first_of l) (at_boundary c) 20 c.boundary ≡ true = ap (λ (j : ℕ). ok_at_of false c.particles (as_first_of l) (at_boundary c) 20 j) n in
      names_at_lem c (as_first_of l) ∙ ap₂ (λ (x y : Bool). x && y) t (ap₂ (λ (x y : Bool). x && y) e d ∙ and_end (ok_at_of false c.particles l (45 + c.particles * 23 + c.triangles * 30) 21 c.edges))

-- what a second-edition sheet is answered
pub second_with : (limits : Counts) (s : List ℕ) (c : Counts) → c ≡ counts_at (as_first_of (bits_of s)) → second (bits_of s) ≡ true → 6 ≤ length s
    → typed_seen limits s
    ≡ cond (too_many_of c || above limits c) (Err Size)
    (cond (eqb (length s) ((end_of c - 1 + 7) / 8))
    (cond (eqb (field_at (bits_of s) (end_of c - 1) (8 * ((end_of c - 1 + 7) / 8) - (end_of c - 1))) 0) (cond (names_ok (sheet_with c (as_first_of (bits_of s)))) (Ok c) (Err Name)) (Err NoSheet))
    (Err NoSheet))
unfolding typed_seen typed_with bits_in_of
second_with limits s c e two h = rw (le-ltb (length s) 6 h, e, two)

-- how long a sheet is in the second edition
pub length_second : (s : Sheet) → length (sheet2_bits s) ≡ 45 + length s.particles * 23 + length s.triangles * 30 + length s.edges * 21 + 44
unfolding sheet2_bits total
length_second s =
    let H = pack header2_w (2047 ∷ length s.particles ∷ length s.triangles ∷ length s.edges ∷ []) in
    let P = write_rows particle_w s.particles in
    let T = write_rows triangle_w s.triangles in
    let E = write_rows edge_w s.edges in
    let D = pack blade_w s.blade in
    let h : length H ≡ 45 = length_pack header2_w (2047 ∷ length s.particles ∷ length s.triangles ∷ length s.edges ∷ []) in
    let p : length P ≡ length s.particles * 23 = length_write_rows particle_w s.particles in
    let t : length T ≡ length s.triangles * 30 = length_write_rows triangle_w s.triangles in
    let e : length E ≡ length s.edges * 21 = length_write_rows edge_w s.edges in
    let d : length D ≡ 44 = length_pack blade_w s.blade in
    omega (arith, length-append (H ++ P ++ T ++ E) D, length-append (H ++ P ++ T) E, length-append (H ++ P) T, length-append H P)
