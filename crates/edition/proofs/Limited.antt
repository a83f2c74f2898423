-- Sheets within the limits of the programs that print text have at most 2,172 bytes, in either edition; and what bytes are answered that are too many for their counts. Assumes nothing.
use Prim.Native.Nat.{ℕ, suc, ◌≤◌}
use native.Mathlib.Omega.{arith}
use mathlib.Core.Path.{◌≡◌, refl, ap}
use mathlib.Core.Bool.{Bool, true, false, cond, ◌||◌}
use mathlib.Core.List.{List}
use lib.Dec.{eqb, ltb}
use lib.ListN.{length}
use borrow.Author.Tests.{le-ltb, ne_eqb, ltb-false}
use Rattle.lists.specs.Lists.{pick}
use Rattle.bits.specs.Bits.{bits_of}
use Rattle.sheet.specs.Sheet.{sheet_with, above, limits, too_many_of, counts_at, names_ok}
use Rattle.sheet.specs.declared.Counts.{Counts}
use Rattle.std.specs.Prelude.{Result, Ok, Err}
use Rattle.mesh.specs.declared.refusals.Refusal.{Refusal}
use Rattle.mesh.specs.declared.refusals.Refusal.TheVariants.{Size, Name, Sheet}
use Rattle.sheet.proofs.PutLaws.{neither}
use Rattle.edition.specs.Edition.{second, bits_in_of, bytes_in, spare_in, typed_with, typed_seen}

-- no count above the limits
pub record Few (c : Counts) : Type 0 where
  pub particles : c.particles ≤ 128
  pub triangles : c.triangles ≤ 128
  pub edges : c.edges ≤ 256
  pub boundary : c.boundary ≤ 256

pub not_above : (c : Counts) → above limits c ≡ false → Few c
unfolding above
not_above c e =
    let u = neither (ltb 128 c.particles) (ltb 128 c.triangles || (ltb 256 c.edges || ltb 256 c.boundary)) e in
    let v = neither (ltb 128 c.triangles) (ltb 256 c.edges || ltb 256 c.boundary) u.1 in
    let w = neither (ltb 256 c.edges) (ltb 256 c.boundary) v.1 in
    record { particles = ltb-false 128 c.particles u.0; triangles = ltb-false 128 c.triangles v.0; edges = ltb-false 256 c.edges w.0; boundary = ltb-false 256 c.boundary w.1 }

-- the longest sheet, of either edition
pub few_bytes : (t : Bool) (c : Counts) → Few c → bytes_in t c ≤ 2172
few_bytes true c F = omega (arith, F.particles, F.triangles, F.edges, F.boundary)
few_bytes false c F = omega (arith, F.particles, F.triangles, F.edges, F.boundary)

-- a count of bytes is above its limit
abbrev pub above? : List ℕ → Bool
above? s = too_many_of (counts_at (bits_in_of (bits_of s))) || above limits (counts_at (bits_in_of (bits_of s)))

-- bytes that are more than a sheet with their counts has
abbrev pub TooLong : List ℕ → Type 0
TooLong s = Few (counts_at (bits_in_of (bits_of s))) → suc (bytes_in (second (bits_of s)) (counts_at (bits_in_of (bits_of s)))) ≤ length s

without : (t u : Bool) (x : Result Counts Refusal) → (t ≡ false → u ≡ false) → cond t (Err Size) (cond u x (Err Sheet)) ≡ Err (pick t Size Sheet)
without true u x h = refl
without false u x h = ap (λ (b : Bool). cond b x (Err Sheet)) (h refl)

-- they are refused, for a size where a count is above its limit, and else as no sheet
pub typed_long : (s : List ℕ) → 6 ≤ length s → TooLong s → typed_seen limits s ≡ Err (pick (above? s) Size Sheet)
unfolding typed_seen typed_with
typed_long s six h =
    let l = bits_of s in
    let c = counts_at (bits_in_of l) in
    let n = bytes_in (second l) c in
    rw (le-ltb (length s) 6 six)
    (without (above? s) (eqb (length s) n) (cond (eqb (spare_in c s) 0) (cond (names_ok (sheet_with c (bits_in_of l))) (Ok c) (Err Name)) (Err Sheet))
    (λ e. ne_eqb (length s) n (λ q. omega (arith, q, h (not_above c (neither (too_many_of c) (above limits c) e).1)))))

-- more than 2,172 bytes are too many
pub too_long : (s : List ℕ) → 2173 ≤ length s → TooLong s
too_long s h F = omega (arith, few_bytes (second (bits_of s)) (counts_at (bits_in_of (bits_of s))) F)
