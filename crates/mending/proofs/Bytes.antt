-- Mending over bytes of either edition: same_bytes, mended-once, mended-whole, and that the mended bytes mean the mended sheet. Assumes nothing.
use Prim.Native.Nat.{ℕ, zero, suc, ◌-◌, ◌*◌, ◌<◌, ◌≤◌}
use mathlib.Core.Path.{◌≡◌, refl, ap, ap₂, sym, ◌∙◌, subst}
use mathlib.Core.List.{List, [], ◌∷◌, ◌++◌}
use mathlib.Core.Bool.{Bool, true, false, cond}
use native.Mathlib.Omega.{arith}
use borrow.Author.Tests.{eq-eqb, ne_eqb, eqb-true, le-ltb}
use lib.Dec.{eqb, ltb}
use lib.ListN.{length, take, drop, get_or, replicate, length-append, length-drop, length-replicate, take-append-drop}
use lib.Seq.{drop_at, take_all, length-take-le}
use Rattle.lists.specs.Lists.{padded}
use Rattle.bits.specs.Bits.{bits, bits_of, num, field_at}
use Rattle.bits.specs.Rows.{pack, read_rows, write_rows}
use Rattle.bits.proofs.Laws.{length_bits_of, num_lt, bits_num}
use Rattle.bits.proofs.RowLaws.{AllBits, bits_append, bits_zeros, zeros_of, bits_bits_of, bits_drop, bits_take}
use Rattle.sheet.specs.Sheet.{Sheet, FitSheet, most, sheet_bits, sheet_with, counts_of, counts_at, header_of, header_w, particle_w, triangle_w, edge_w, boundary_w, blade_w, end_of, too_many_of, names_ok, at_boundary}
use Rattle.sheet.specs.declared.Counts.{Counts}
use Rattle.std.specs.Prelude.{Ok}
use Rattle.mesh.specs.declared.refusals.Refusal.{Refusal}
use Rattle.mesh.specs.declared.refusals.Refusal.TheVariants.{Size, Sheet as NoSheet}
use Rattle.sheet.proofs.Trip.{same_counts, counts_read, read_of_write, write_of_read, length_sheet_bits}
use Rattle.sheet.proofs.There.{num_zeros, limits}
use Rattle.sheet.proofs.Back.{bits_of_inj}
use Rattle.edition.specs.Edition.{second, bits_in_of, header2_w, sheet2_bits, bounded, end_in, bytes_in, spare_in, typed_of, typed_with, typed_seen}
use Rattle.edition.specs.Work.{TypedIn}
use Rattle.edition.proofs.Editions.{is_second, bits_in, first_long, counts_second, read_written, length_second}
use Rattle.edition.proofs.Starts.{in_second, in_first, typed_in, header_bits}
use Rattle.edition.proofs.Fields.{least_bytes, typed_six, typed_counts_lem, all_bits, inside, typed_fit}
use Rattle.mending.specs.Mending.{placed_from, lawful, firsts, mended_boundary, apart}
use Rattle.mending.specs.Sheets.{mended_sheet, bytes_from, bits_as, sheet_bytes, said_of, mended, refused, mend_with, mend_of}
use Rattle.mending.specs.Work.{Mendable}
use Rattle.mending.proofs.Sheets.{mended_few, mended_fit, mended_names, mended_apart, sheet_same, sheet_once}

-- ---- a sheet's bits are bits

bits_number : (w n : ℕ) → AllBits (bits w n)
unfolding bits
bits_number zero n i = omega arith
bits_number (suc w) n zero = omega arith
bits_number (suc w) n (suc i) = bits_number w n i

bits_pack : (ws vs : List ℕ) → AllBits (pack ws vs)
unfolding pack
bits_pack [] vs i = omega arith
bits_pack (w ∷ ws) vs i = bits_append (bits w (get_or vs 0 0)) (pack ws (drop 1 vs)) (bits_number w (get_or vs 0 0)) (bits_pack ws (drop 1 vs)) i

bits_rows : (ws : List ℕ) (rs : List (List ℕ)) → AllBits (write_rows ws rs)
unfolding write_rows
bits_rows ws [] i = omega arith
bits_rows ws (r ∷ rs) i = bits_append (pack ws r) (write_rows ws rs) (bits_pack ws r) (bits_rows ws rs) i

bits_first : (s : Sheet) → AllBits (sheet_bits s)
unfolding sheet_bits
bits_first s =
    let H = pack header_w (header_of (counts_of s)) in
    let P = write_rows particle_w s.particles in
    let T = write_rows triangle_w s.triangles in
    let E = write_rows edge_w s.edges in
    let B = write_rows boundary_w s.boundary in
    let D = pack blade_w s.blade in
    let h = bits_pack header_w (header_of (counts_of s)) in
    let p = bits_append H P h (bits_rows particle_w s.particles) in
    let t = bits_append (H ++ P) T p (bits_rows triangle_w s.triangles) in
    let e = bits_append (H ++ P ++ T) E t (bits_rows edge_w s.edges) in
    let b = bits_append (H ++ P ++ T ++ E) B e (bits_rows boundary_w s.boundary) in
    bits_append (H ++ P ++ T ++ E ++ B) D b (bits_pack blade_w s.blade)

bits_second : (s : Sheet) → AllBits (sheet2_bits s)
unfolding sheet2_bits
bits_second s =
    let H = pack header2_w (2047 ∷ length s.particles ∷ length s.triangles ∷ length s.edges ∷ []) in
    let P = write_rows particle_w s.particles in
    let T = write_rows triangle_w s.triangles in
    let E = write_rows edge_w s.edges in
    let D = pack blade_w s.blade in
    let h = bits_pack header2_w (2047 ∷ length s.particles ∷ length s.triangles ∷ length s.edges ∷ []) in
    let p = bits_append H P h (bits_rows particle_w s.particles) in
    let t = bits_append (H ++ P) T p (bits_rows triangle_w s.triangles) in
    let e = bits_append (H ++ P ++ T) E t (bits_rows edge_w s.edges) in
    bits_append (H ++ P ++ T ++ E) D e (bits_pack blade_w s.blade)

bits_sheet : (t : Bool) (s : Sheet) → AllBits (bits_as t s)
unfolding bits_as
bits_sheet true s = bits_second s
bits_sheet false s = bits_first s

-- ---- bytes from bits

none_left : (l : List ℕ) → length l ≡ 0 → [] ≡ l
none_left [] e = refl
none_left (x ∷ l) e = absurd (omega arith)

bytes_bits : (n : ℕ) (l : List ℕ) → AllBits l → length l ≡ 8 * n → bits_of (bytes_from n l) ≡ l
unfolding bits_of bytes_from
bytes_bits zero l h e = none_left l (omega arith)
bytes_bits (suc n) l h e =
    let t : length (take 8 l) ≡ 8 = length-take-le 8 l (omega arith) in
    let b : bits 8 (num (take 8 l)) ≡ take 8 l = ap (λ (k : ℕ). bits k (num (take 8 l))) (sym t) ∙ bits_num (take 8 l) (bits_take 8 l h) in
    let d : bits_of (bytes_from n (drop 8 l)) ≡ drop 8 l = bytes_bits n (drop 8 l) (bits_drop 8 l h) (omega (arith, length-drop 8 l)) in
    rw (b, d) (take-append-drop 8 l)

bytes_length : (n : ℕ) (l : List ℕ) → length (bytes_from n l) ≡ n
unfolding bytes_from
bytes_length zero l = refl
bytes_length (suc n) l = ap suc (bytes_length n (drop 8 l))

bytes_small : (n : ℕ) (l : List ℕ) → AllBits l → length l ≡ 8 * n → (i : ℕ) → get_or (bytes_from n l) i 0 < 256
unfolding bytes_from
bytes_small zero l h e i = omega arith
bytes_small (suc n) l h e zero =
    let t : length (take 8 l) ≡ 8 = length-take-le 8 l (omega arith) in
    rw t at (num_lt (take 8 l) (bits_take 8 l h))
bytes_small (suc n) l h e (suc i) = bytes_small n (drop 8 l) (bits_drop 8 l h) (omega (arith, length-drop 8 l)) i

-- ---- a sheet's bytes hold the sheet

-- a sheet that an edition can hold: the second has no boundary entries
unfoldable pub Plain : Bool → Sheet → Type 0
Plain true s = s.boundary ≡ []
Plain false s = Unit {0}

-- the bits behind a sheet's
abbrev pub spare_as : Bool → Sheet → List ℕ
spare_as t s = replicate (8 * bytes_in t (counts_of s) - length (bits_as t s)) 0

pub as_length : (t : Bool) (s : Sheet) → Plain t s → length (bits_as t s) ≡ end_in t (counts_of s)
unfolding bits_as Plain
as_length true s p = let n : length s.boundary ≡ 0 = ap length p in omega (arith, length_second s)
as_length false s p = length_sheet_bits s

-- an edition's bytes hold its bits
pub end_inside : (t : Bool) (c : Counts) → end_in t c ≤ 8 * bytes_in t c
end_inside true c = omega arith
end_inside false c = omega arith

module _ (t : Bool) (s : Sheet) (p : Plain t s) where
  frame_length : length (bits_as t s ++ spare_as t s) ≡ 8 * bytes_in t (counts_of s)
  frame_length =
      let b = 8 * bytes_in t (counts_of s) in
      let e = end_in t (counts_of s) in
      let i : e ≤ b = end_inside t (counts_of s) in
      let l : length (bits_as t s) ≡ e = as_length t s p in
      let r : length (spare_as t s) ≡ b - length (bits_as t s) = length-replicate {A = ℕ} (b - length (bits_as t s)) 0 in
      let z = length-append (bits_as t s) (spare_as t s) in
      omega arith

  frame_bits : AllBits (bits_as t s ++ spare_as t s)
  frame_bits = bits_append (bits_as t s) (spare_as t s) (bits_sheet t s) (bits_zeros (8 * bytes_in t (counts_of s) - length (bits_as t s)))

  pub sheet_bits_lem : bits_of (sheet_bytes t s) ≡ bits_as t s ++ spare_as t s
  unfolding sheet_bytes padded
  sheet_bits_lem = bytes_bits (bytes_in t (counts_of s)) (bits_as t s ++ spare_as t s) frame_bits frame_length

  pub sheet_small : (i : ℕ) → get_or (sheet_bytes t s) i 0 < 256
  unfolding sheet_bytes padded
  sheet_small = bytes_small (bytes_in t (counts_of s)) (bits_as t s ++ spare_as t s) frame_bits frame_length

pub sheet_length : (t : Bool) (s : Sheet) → length (sheet_bytes t s) ≡ bytes_in t (counts_of s)
unfolding sheet_bytes
sheet_length t s = bytes_length (bytes_in t (counts_of s)) (padded (8 * bytes_in t (counts_of s)) 0 (bits_as t s))

no_more : (s : Sheet) → s.boundary ≡ [] → bounded [] s ≡ s
no_more s p = ap (λ (b : List (List ℕ)). bounded b s) (sym p)

-- the first eleven bits of the first edition are a count, which is no 2,047
few_first : (s : Sheet) (rest : List ℕ) → FitSheet s → too_many_of (counts_of s) ≡ false → second (sheet_bits s ++ rest) ≡ false
few_first s rest f few =
    let l = limits (counts_of s) few in
    let k : field_at (sheet_bits s ++ rest) 0 11 ≡ length s.particles = ap (λ (c : Counts). c.particles) (same_counts (counts_at (sheet_bits s ++ rest)) (counts_of s) (counts_read s rest f)) in
    ne_eqb (field_at (sheet_bits s ++ rest) 0 11) 2047 (λ e. omega (arith, l.0, k, e))

-- bits of either edition as the first has them
as_in : (t : Bool) (s : Sheet) (rest : List ℕ) → Plain t s → FitSheet s → too_many_of (counts_of s) ≡ false → (second (bits_as t s ++ rest) ≡ t) × (bits_in_of (bits_as t s ++ rest) ≡ sheet_bits s ++ rest)
unfolding bits_as Plain
as_in true s rest p f few = (is_second s rest, bits_in s rest ∙ ap (λ (x : Sheet). sheet_bits x ++ rest) (no_more s p))
as_in false s rest p f few = let e = few_first s rest f few in (e, in_first (sheet_bits s ++ rest) e)

module _ (t : Bool) (s : Sheet) (p : Plain t s) (f : FitSheet s) (few : too_many_of (counts_of s) ≡ false) where
  -- the edition is kept
  pub bytes_edition : second (bits_of (sheet_bytes t s)) ≡ t
  bytes_edition = ap second (sheet_bits_lem t s p) ∙ (as_in t s (spare_as t s) p f few).0

  bytes_in_lem : bits_in_of (bits_of (sheet_bytes t s)) ≡ sheet_bits s ++ spare_as t s
  bytes_in_lem = ap bits_in_of (sheet_bits_lem t s p) ∙ (as_in t s (spare_as t s) p f few).1

  pub bytes_counts : counts_at (bits_in_of (bits_of (sheet_bytes t s))) ≡ counts_of s
  bytes_counts = ap counts_at bytes_in_lem ∙ same_counts (counts_at (sheet_bits s ++ spare_as t s)) (counts_of s) (counts_read s (spare_as t s) f)

  pub bytes_mean : sheet_with (counts_of s) (bits_in_of (bits_of (sheet_bytes t s))) ≡ s
  bytes_mean = ap (λ (l : List ℕ). sheet_with (counts_of s) l) bytes_in_lem ∙ read_of_write s (spare_as t s) f

  pub bytes_typed : typed_of (bits_of (sheet_bytes t s)) ≡ s
  unfolding typed_of
  bytes_typed = ap (λ (c : Counts). sheet_with c (bits_in_of (bits_of (sheet_bytes t s)))) bytes_counts ∙ bytes_mean

  bytes_spare_by : field_at (bits_of (sheet_bytes t s)) (end_in t (counts_of s)) (8 * bytes_in t (counts_of s) - end_in t (counts_of s)) ≡ 0
  bytes_spare_by =
      let c = counts_of s in
      let b = 8 * bytes_in t c in
      let e = end_in t c in
      let d = b - e in
      let l : length (bits_as t s) ≡ e = as_length t s p in
      let k : length (spare_as t s) ≡ d = length-replicate {A = ℕ} (b - length (bits_as t s)) 0 ∙ ap (λ (i : ℕ). b - i) l in
      ap (λ (x : List ℕ). field_at x e d) (sheet_bits_lem t s p)
      ∙ (ap (λ (x : List ℕ). num (take d x)) (drop_at (bits_as t s) (spare_as t s) e l) ∙ (ap num (take_all d (spare_as t s) (omega arith)) ∙ num_zeros (b - length (bits_as t s))))

  bytes_spare : spare_in (counts_of s) (sheet_bytes t s) ≡ 0
  bytes_spare = ap (λ (u : Bool). field_at (bits_of (sheet_bytes t s)) (end_in u (counts_of s)) (8 * bytes_in u (counts_of s) - end_in u (counts_of s))) bytes_edition ∙ bytes_spare_by

  -- a sheet's bytes are whole before their outline is looked at
  pub bytes_seen : names_ok s ≡ true → typed_seen most (sheet_bytes t s) ≡ Ok (counts_of s)
  unfolding typed_seen typed_with
  bytes_seen names =
      let c = counts_of s in
      let n : length (sheet_bytes t s) ≡ bytes_in t c = sheet_length t s in
      let z = least_bytes t c in
      let m : names_ok (sheet_with c (bits_in_of (bits_of (sheet_bytes t s)))) ≡ true = ap names_ok bytes_mean ∙ names in
      let six : ltb (length (sheet_bytes t s)) 6 ≡ false = le-ltb (length (sheet_bytes t s)) 6 (omega arith) in
      let long : eqb (length (sheet_bytes t s)) (bytes_in (second (bits_of (sheet_bytes t s))) c) ≡ true = eq-eqb (length (sheet_bytes t s)) (bytes_in (second (bits_of (sheet_bytes t s))) c) (n ∙ ap (λ (u : Bool). bytes_in u c) (sym bytes_edition)) in
      let spare : eqb (spare_in c (sheet_bytes t s)) 0 ≡ true = eq-eqb (spare_in c (sheet_bytes t s)) 0 bytes_spare in
      rw six (ap (λ (d : Counts). typed_with most d (sheet_bytes t s)) bytes_counts ∙ rw (few, m, long, spare))

-- ---- bytes that are mended

-- the counts that bytes begin with, and the sheet that they hold
abbrev pub typed_counts : List ℕ → Counts
typed_counts s = counts_at (bits_in_of (bits_of s))

abbrev pub edition_of : List ℕ → Bool
edition_of s = second (bits_of s)

pub typed_is : (s : List ℕ) → typed_of (bits_of s) ≡ sheet_with (typed_counts s) (bits_in_of (bits_of s))
unfolding typed_of
typed_is s = refl

module _ (s : List ℕ) (a : Mendable s) where
  abbrev c : Counts
  c = counts_at (bits_in_of (bits_of s))

  abbrev l : List ℕ
  l = bits_in_of (bits_of s)

  pub held_six : 6 ≤ length s
  held_six = typed_six s a.long

  pub held_counts : counts_of (sheet_with c l) ≡ c
  held_counts = typed_counts_lem c l

  pub held_few : too_many_of (counts_of (sheet_with c l)) ≡ false
  held_few = ap too_many_of held_counts ∙ a.few

  pub held_fit : FitSheet (sheet_with c l)
  held_fit = typed_fit s a.long a.few

  plain_by : (t : Bool) → edition_of s ≡ t → Plain t (sheet_with c l)
  unfolding Plain sheet_with read_rows
  plain_by true e =
      let z : c.boundary ≡ 0 = ap (λ (x : List ℕ). (counts_at x).boundary) (in_second (bits_of s) e) ∙ ap (λ (d : Counts). d.boundary) (counts_second (bits_of s) (header_bits s held_six)) in
      ap (λ (n : ℕ). read_rows boundary_w n (drop (at_boundary c) l)) z
  plain_by false e = tt

  -- a second-edition sheet has no boundary entries
  pub held_plain : Plain (edition_of s) (sheet_with c l)
  held_plain = plain_by (edition_of s) refl

  -- they are answered
  pub held_mend : mend_of s ≡ mended (sheet_bytes (edition_of s) (mended_sheet (sheet_with c l))) (said_of (sheet_with c l))
  unfolding mend_of mend_with typed_of
  held_mend = rw (le-ltb (length s) 6 held_six, a.few, eq-eqb (length s) (bytes_in (edition_of s) c) a.long)

-- the mended sheet has no boundary entries where the broken one has none
pub mended_plain : (t : Bool) (s : Sheet) → Plain t s → Plain t (mended_sheet s)
unfolding Plain mended_sheet placed_from lawful firsts
mended_plain true s p = ap (λ (b : List (List ℕ)). mended_boundary (length s.particles) b) p
mended_plain false s p = tt

padded_is : (n : ℕ) (l : List ℕ) → padded n 0 l ≡ l ++ replicate (n - length l) 0
unfolding padded
padded_is n l = refl

-- what was answered tells what was asked
pub record Answered (s m t : List ℕ) : Type 0 where
  pub held : Mendable s
  pub bytes : m ≡ sheet_bytes (edition_of s) (mended_sheet (sheet_with (typed_counts s) (bits_in_of (bits_of s))))
  pub said : t ≡ said_of (sheet_with (typed_counts s) (bits_in_of (bits_of s)))

refused_never : (n : Refusal) (m t : List ℕ) → refused n ≡ mended m t → ⊥
refused_never n m t e = let z : ◌≡◌ {A = ℕ} 0 1 = cc in omega arith

answer_by : (a b x : Bool) (m t m' t' : List ℕ) → cond a (refused NoSheet) (cond b (refused Size) (cond x (mended m t) (refused NoSheet))) ≡ mended m' t' → (b ≡ false) × (x ≡ true) × (m' ≡ m) × (t' ≡ t)
answer_by true b x m t m' t' e = absurd (refused_never NoSheet m' t' e)
answer_by false true x m t m' t' e = absurd (refused_never Size m' t' e)
answer_by false false false m t m' t' e = absurd (refused_never NoSheet m' t' e)
answer_by false false true m t m' t' e = (refl, refl, cc, cc)

pub answered : (s m t : List ℕ) → mend_of s ≡ mended m t → Answered s m t
unfolding mend_of mend_with typed_of
answered s m t e =
    let c = counts_at (bits_in_of (bits_of s)) in
    let h = sheet_with c (bits_in_of (bits_of s)) in
    let w = answer_by (ltb (length s) 6) (too_many_of c) (eqb (length s) (bytes_in (second (bits_of s)) c)) (sheet_bytes (second (bits_of s)) (mended_sheet h)) (said_of h) m t e in
    record { held = record { few = w.0; long = eqb-true (length s) (bytes_in (second (bits_of s)) c) w.1 }; bytes = w.2; said = w.3 }

module _ (s m t : List ℕ) (e : mend_of s ≡ mended m t) where
  pub broken : Sheet
  broken = sheet_with (counts_at (bits_in_of (bits_of s))) (bits_in_of (bits_of s))

  a : Answered s m t
  a = answered s m t e

  fit : FitSheet broken
  unfolding broken
  fit = held_fit s a.held

  few : too_many_of (counts_of broken) ≡ false
  unfolding broken
  few = held_few s a.held

  plain : Plain (edition_of s) (mended_sheet broken)
  unfolding broken
  plain = mended_plain (edition_of s) broken (held_plain s a.held)

  bytes : m ≡ sheet_bytes (edition_of s) (mended_sheet broken)
  unfolding broken
  bytes = a.bytes

  fit' : FitSheet (mended_sheet broken)
  fit' = mended_fit broken fit few

  few' : too_many_of (counts_of (mended_sheet broken)) ≡ false
  few' = mended_few broken fit few

  -- the mended bytes are of the same edition
  pub mended_edition : second (bits_of m) ≡ second (bits_of s)
  mended_edition = ap (λ (x : List ℕ). second (bits_of x)) bytes ∙ bytes_edition (edition_of s) (mended_sheet broken) plain fit' few'

  mended_counts : counts_at (bits_in_of (bits_of m)) ≡ counts_of (mended_sheet broken)
  mended_counts = ap (λ (x : List ℕ). counts_at (bits_in_of (bits_of x))) bytes ∙ bytes_counts (edition_of s) (mended_sheet broken) plain fit' few'

  mended_is : typed_of (bits_of m) ≡ mended_sheet broken
  mended_is = ap (λ (x : List ℕ). typed_of (bits_of x)) bytes ∙ bytes_typed (edition_of s) (mended_sheet broken) plain fit' few'

  -- and mean the mended sheet: so particles and blade are the same (`untouched`)
  pub mended_means : typed_of (bits_of m) ≡ mended_sheet (typed_of (bits_of s))
  unfolding broken typed_of
  mended_means = mended_is

  -- mended-whole: with the limits of every mesh the mended bytes are whole before their outline is looked at
  pub mended_whole : typed_seen most m ≡ Ok (counts_at (bits_in_of (bits_of m)))
  mended_whole = ap (typed_seen most) bytes ∙ (bytes_seen (edition_of s) (mended_sheet broken) plain fit' few' (mended_names broken fit few) ∙ ap (λ (c : Counts). Ok c) (sym mended_counts))

  -- no two of the mended boundary entries have the same ends
  pub mended_boundary_apart : apart [] (typed_of (bits_of m)).boundary ≡ true
  mended_boundary_apart = ap (λ (h : Sheet). apart [] h.boundary) mended_is ∙ mended_apart broken fit few

  mended_held : Mendable m
  mended_held =
      record {
        few = ap too_many_of mended_counts ∙ few';
        long = ap length bytes ∙ (sheet_length (edition_of s) (mended_sheet broken) ∙ ap₂ bytes_in (sym mended_edition) (sym mended_counts));
      }

  -- mended-once: mending the mended bytes gives the same bytes and says nothing
  pub mended_once : mend_of m ≡ mended m []
  mended_once =
      let o = sheet_once broken fit few in
      let h = sheet_with (counts_at (bits_in_of (bits_of m))) (bits_in_of (bits_of m)) in
      let i : h ≡ mended_sheet broken = sym (typed_is m) ∙ mended_is in
      let x : sheet_bytes (second (bits_of m)) (mended_sheet h) ≡ m = ap₂ (λ (u : Bool) (g : Sheet). sheet_bytes u (mended_sheet g)) mended_edition i ∙ (ap (sheet_bytes (second (bits_of s))) o.0 ∙ sym bytes) in
      let y : said_of h ≡ [] = ap said_of i ∙ o.1 in
      held_mend m mended_held ∙ (ap (λ (z : List ℕ). mended z (said_of h)) x ∙ ap (mended m) y)

-- ---- bytes that need no mending

module _ (s : List ℕ) (w : TypedIn s (counts_at (bits_in_of (bits_of s)))) where
  held : Mendable s
  held = record { few = w.few; long = w.long }

  abbrev d : Counts
  d = counts_at (bits_in_of (bits_of s))

  abbrev g : Sheet
  g = sheet_with (counts_at (bits_in_of (bits_of s))) (bits_in_of (bits_of s))

  front_by : (t : Bool) → edition_of s ≡ t → bits_as t g ≡ take (end_in t d) (bits_of s)
  unfolding bits_as typed_of
  front_by true e =
      let x = inside s w.long in
      let y = ap length (in_second (bits_of s) e) in
      let z = first_long (bits_of s) (bits_bits_of s) e (header_bits s w.six) in
      read_written (bits_of s) (bits_bits_of s) e (header_bits s w.six) (omega arith)
  front_by false e =
      let i = in_first (bits_of s) e in
      write_of_read (bits_in_of (bits_of s)) (all_bits s w.long) (inside s w.long) ∙ ap (take (end_of d)) i

  back : bits_of s ≡ bits_as (edition_of s) g ++ spare_as (edition_of s) g
  back =
      let t = edition_of s in
      let v = bits_of s in
      let b = 8 * bytes_in t d in
      let e = end_in t d in
      let n : length v ≡ b = length_bits_of s ∙ ap (λ (k : ℕ). 8 * k) w.long in
      let i : e ≤ b = end_inside t d in
      let r : length (drop e v) ≡ b - e = length-drop e v ∙ ap (λ (k : ℕ). k - e) n in
      let u : take (b - e) (drop e v) ≡ drop e v = take_all (b - e) (drop e v) (omega arith) in
      let z : drop e v ≡ replicate (b - e) 0 = zeros_of (drop e v) (bits_drop e v (bits_bits_of s)) (ap num (sym u) ∙ w.spare) ∙ ap (λ (k : ℕ). replicate k 0) r in
      let f : bits_as t g ≡ take e v = front_by t refl in
      let k : b - e ≡ 8 * bytes_in t (counts_of g) - length (bits_as t g) = ap₂ (λ (x : Counts) (y : ℕ). 8 * bytes_in t x - y) (sym (held_counts s held)) (sym (as_length t g (held_plain s held) ∙ ap (end_in t) (held_counts s held))) in
      sym (take-append-drop e v) ∙ ap₂ (λ (x y : List ℕ). x ++ y) (sym f) (z ∙ ap (λ (j : ℕ). replicate j 0) k)

  pub own_bytes : ((i : ℕ) → get_or s i 0 < 256) → sheet_bytes (edition_of s) g ≡ s
  own_bytes small = bits_of_inj (sheet_bytes (edition_of s) g) s (sheet_small (edition_of s) g (held_plain s held)) small (sheet_bits_lem (edition_of s) g (held_plain s held) ∙ sym back)

  pub same_here : ((i : ℕ) → get_or s i 0 < 256) → apart [] g.boundary ≡ true → mend_of s ≡ mended s []
  same_here small p =
      let o = sheet_same g (held_fit s held) w.names p in
      held_mend s held ∙ (ap (λ (x : Sheet). mended (sheet_bytes (edition_of s) x) (said_of g)) o.0 ∙ (ap (λ (x : List ℕ). mended x (said_of g)) (own_bytes small) ∙ ap (mended s) o.1))

-- same_bytes: bytes that are whole before their outline is looked at, with no two boundary entries of the same ends, are given back, and nothing is said
pub same_bytes : (s : List ℕ) (c : Counts) → ((i : ℕ) → get_or s i 0 < 256) → typed_seen most s ≡ Ok c → apart [] (typed_of (bits_of s)).boundary ≡ true → mend_of s ≡ mended s []
unfolding typed_of
same_bytes s c small e p =
    let w = typed_in most s c e in
    same_here s (subst (λ (x : Counts). TypedIn s x) (sym w.is) w) small p

-- and only then
pub same_bytes_only : (s t : List ℕ) → mend_of s ≡ mended s t → (typed_seen most s ≡ Ok (counts_at (bits_in_of (bits_of s)))) × (apart [] (typed_of (bits_of s)).boundary ≡ true)
same_bytes_only s t e = (mended_whole s s t e, mended_boundary_apart s s t e)
