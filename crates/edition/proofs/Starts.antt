-- Places behind the header of a sheet of either edition, and what a whole sheet tells. Assumes nothing.
use Prim.Native.Nat.{ℕ, ◌+◌, ◌-◌, ◌*◌, ◌≤◌}
use mathlib.Core.Path.{◌≡◌, refl, sym, ap, ◌∙◌, subst}
use mathlib.Core.Bool.{Bool, true, false, cond, ◌||◌}
use mathlib.Core.List.{List}
use native.Mathlib.Omega.{arith}
use borrow.Author.Tests.{eqb-true, ltb-false}
use lib.Dec.{eqb, ltb}
use lib.ListN.{length, drop}
use Rattle.lists.specs.Lists.{pick}
use Rattle.bits.specs.Bits.{bits_of}
use Rattle.bits.proofs.Laws.{length_bits_of}
use Rattle.sheet.specs.Sheet.{counts_at, sheet_with, too_many_of, above, names_ok, end_of, at_triangles, at_edges, at_boundary}
use Rattle.sheet.specs.Work.{ok_at_of}
use Rattle.sheet.specs.declared.Counts.{Counts}
use Rattle.std.specs.Prelude.{Ok, Err}
use Rattle.mesh.specs.declared.refusals.Refusal.TheVariants.{Size, Name, Sheet}
use Rattle.sheet.proofs.PutLaws.{neither}
use Rattle.sheet.proofs.Back.{never}
use Rattle.sheet.proofs.SeenLaws.{names_at_lem}
use Rattle.sheet.proofs.MeshReads.{names_parts}
use Rattle.edition.specs.Edition.{second, as_first_of, bits_in_of, bytes_in, spare_in, typed_with, typed_seen}
use Rattle.edition.specs.Work.{start_of, TypedIn}
use Rattle.edition.proofs.Editions.{behind, rows_behind}

-- the bits of each edition as the first has them
pub in_second : (l : List ℕ) → second l ≡ true → bits_in_of l ≡ as_first_of l
unfolding bits_in_of
in_second l e = rw e

pub in_first : (l : List ℕ) → second l ≡ false → bits_in_of l ≡ l
unfolding bits_in_of
in_first l e = rw e

module _ (l : List ℕ) (room : 45 ≤ length l) where
  -- what stands behind the header
  pub starts : (k : ℕ) → drop (46 + k) (bits_in_of l) ≡ drop (start_of l + k) l
  unfolding bits_in_of
  starts k = by (second l)
    where
      by : (t : Bool) → drop (46 + k) (pick t (as_first_of l) l) ≡ drop (pick t 45 46 + k) l
      by true = behind l room k
      by false = refl

  pub starts_at : (p at k : ℕ) → p ≡ 46 + k → at ≡ start_of l + k → drop at l ≡ drop p (bits_in_of l)
  starts_at p at k e f = ap (λ (j : ℕ). drop j l) f ∙ sym (starts k) ∙ ap (λ (j : ℕ). drop j (bits_in_of l)) (sym e)

  -- rows of names there
  rows_start : (three : Bool) (p k step n : ℕ) → ok_at_of three p (bits_in_of l) (46 + k) step n ≡ ok_at_of three p l (start_of l + k) step n
  unfolding bits_in_of
  rows_start three p k step n = by (second l)
    where
      by : (t : Bool) → ok_at_of three p (pick t (as_first_of l) l) (46 + k) step n ≡ ok_at_of three p l (pick t 45 46 + k) step n
      by true = rows_behind l room three p k step n
      by false = refl

  pub rows_at : (three : Bool) (p from at k step n : ℕ) → from ≡ 46 + k → at ≡ start_of l + k → ok_at_of three p (bits_in_of l) from step n ≡ true → ok_at_of three p l at step n ≡ true
  rows_at three p from at k step n e f h =
      ap (λ (j : ℕ). ok_at_of three p l j step n) f ∙ sym (rows_start three p k step n) ∙ ap (λ (j : ℕ). ok_at_of three p (bits_in_of l) j step n) (sym e) ∙ h

-- what a look that ends whole went past
whole : (a b x y z : Bool) (d c : Counts)
    → cond a (Err Sheet) (cond b (Err Size) (cond x (cond y (cond z (Ok d) (Err Name)) (Err Sheet)) (Err Sheet))) ≡ Ok c
    → (a ≡ false) × (b ≡ false) × (x ≡ true) × (y ≡ true) × (z ≡ true) × (d ≡ c)
whole true b x y z d c e = absurd (never Sheet c e)
whole false true x y z d c e = absurd (never Size c e)
whole false false false y z d c e = absurd (never Sheet c e)
whole false false true false z d c e = absurd (never Sheet c e)
whole false false true true false d c e = absurd (never Name c e)
whole false false true true true d c e = (refl, refl, refl, refl, refl, cc)

whole_sheet : (limits : Counts) (s : List ℕ) (c : Counts) → typed_seen limits s ≡ Ok c → let d = counts_at (bits_in_of (bits_of s)) in
    (ltb (length s) 6 ≡ false) × (too_many_of d || above limits d ≡ false) × (eqb (length s) (bytes_in (second (bits_of s)) d) ≡ true) × (eqb (spare_in d s) 0 ≡ true) × (names_ok (sheet_with d (bits_in_of (bits_of s))) ≡ true) × (d ≡ c)
unfolding typed_seen typed_with
whole_sheet limits s c e =
    let d = counts_at (bits_in_of (bits_of s)) in
    whole (ltb (length s) 6) (too_many_of d || above limits d) (eqb (length s) (bytes_in (second (bits_of s)) d)) (eqb (spare_in d s) 0) (names_ok (sheet_with d (bits_in_of (bits_of s)))) d c e

-- a sheet that the typed look finds whole has no count above the limits
pub typed_within : (limits : Counts) (s : List ℕ) (c : Counts) → typed_seen limits s ≡ Ok c → above limits c ≡ false
typed_within limits s c e =
    let d = counts_at (bits_in_of (bits_of s)) in
    let w = whole_sheet limits s c e in
    subst (λ (x : Counts). above limits x ≡ false) w.5 (neither (too_many_of d) (above limits d) w.1).1

-- and stands in its bytes
pub typed_in : (limits : Counts) (s : List ℕ) (c : Counts) → typed_seen limits s ≡ Ok c → TypedIn s c
typed_in limits s c e =
    let d = counts_at (bits_in_of (bits_of s)) in
    let w = whole_sheet limits s c e in
    let i : d ≡ c = w.5 in
    record {
      is = i;
      six = ltb-false _ _ w.0;
      few = subst (λ (x : Counts). too_many_of x ≡ false) i (neither (too_many_of d) (above limits d) w.1).0;
      long = subst (λ (x : Counts). length s ≡ bytes_in (second (bits_of s)) x) i (eqb-true _ _ w.2);
      spare = subst (λ (x : Counts). spare_in x s ≡ 0) i (eqb-true _ _ w.3);
      names = subst (λ (x : Counts). names_ok (sheet_with x (bits_in_of (bits_of s))) ≡ true) i w.4;
    }

-- how far such a sheet reaches
pub reach : (s : List ℕ) (c : Counts) → TypedIn s c → start_of (bits_of s) + (end_of c - 46) ≤ 8 * length s
reach s c t = by (second (bits_of s)) t.long
  where
    by : (u : Bool) → length s ≡ bytes_in u c → pick u 45 46 + (end_of c - 46) ≤ 8 * length s
    by true e = omega arith
    by false e = omega arith

-- its lists' names, by the places of their fields
pub names_here : (s : List ℕ) (c : Counts) → TypedIn s c
    → (ok_at_of true c.particles (bits_in_of (bits_of s)) (at_triangles c) 30 c.triangles ≡ true) × (ok_at_of false c.particles (bits_in_of (bits_of s)) (at_edges c) 21 c.edges ≡ true) × (ok_at_of false c.particles (bits_in_of (bits_of s)) (at_boundary c) 20 c.boundary ≡ true)
names_here s c t = names_parts c (bits_in_of (bits_of s)) (sym (names_at_lem c (bits_in_of (bits_of s))) ∙ t.names)

-- the lists begin early
pub start_most : (l : List ℕ) → start_of l ≤ 46
start_most l = by (second l)
  where
    by : (t : Bool) → pick t 45 46 ≤ 46
    by true = omega arith
    by false = omega arith

-- 45 bits at least
pub header_bits : (s : List ℕ) → 6 ≤ length s → 45 ≤ length (bits_of s)
header_bits s h = omega (arith, length_bits_of s)
