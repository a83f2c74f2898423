-- The longest sheet that the program takes has 2,172 bytes, and 1,532 in the second edition: whatever follows one byte more than these, what is printed is the same. Assumes nothing.
use Prim.Native.Nat.{ℕ, ◌≤◌}
use native.Mathlib.Omega.{arith}
use mathlib.Core.Path.{◌≡◌, sym, ap, ◌∙◌}
use mathlib.Core.Bool.{Bool, true, ◌||◌}
use mathlib.Core.List.{List, ◌++◌}
use lib.ListN.{length, length-append}
use Rattle.lists.specs.Lists.{pick}
use Rattle.bits.specs.Bits.{bits_of}
use Rattle.sheet.specs.Sheet.{above, too_many_of, counts_at, limits}
use Rattle.sheet.specs.declared.Counts.{Counts}
use Rattle.edition.specs.Edition.{second, bits_in_of, bytes_in, seen_in}
use Rattle.edition.proofs.Editions.{counts_second}
use Rattle.edition.proofs.Starts.{in_second, header_bits}
use Rattle.edition.proofs.Joins.{edition_join, counts_join}
use Rattle.edition.proofs.Limited.{Few, above?, TooLong, typed_long, too_long}
use Rattle.mesh.specs.Refused.{number_of}
use Rattle.mesh.specs.declared.refusals.Refusal.TheVariants.{Size, Sheet}
use Rattle.listing.specs.Listing.{refused_bytes}
use Rattle.sheetcut.specs.SheetCut.{listed}
use Rattle.sheetcut.proofs.Cutting.{listed_refused}

-- ---- bytes that are too many

-- the longest sheet of the second edition, which has no boundary entries
pub second_bytes : (c : Counts) → Few c → c.boundary ≡ 0 → bytes_in true c ≤ 1532
second_bytes c F e = omega (arith, F.particles, F.triangles, F.edges)

no_entries : (s : List ℕ) → 6 ≤ length s → second (bits_of s) ≡ true → (counts_at (bits_in_of (bits_of s))).boundary ≡ 0
no_entries s h two =
    ap (λ (l : List ℕ). (counts_at l).boundary) (in_second (bits_of s) two) ∙ ap (λ (c : Counts). c.boundary) (counts_second (bits_of s) (header_bits s h))

-- the listing of too many bytes is the line of a refusal
long_refused : (s : List ℕ) → 6 ≤ length s → TooLong s → listed s ≡ refused_bytes (number_of (pick (above? s) Size Sheet))
unfolding seen_in
long_refused s six h = listed_refused s (pick (above? s) Size Sheet) (ap (seen_in limits s) (typed_long s six h))

second_long : (s : List ℕ) → second (bits_of s) ≡ true → 1533 ≤ length s → TooLong s
second_long s two h F =
    let c = counts_at (bits_in_of (bits_of s)) in
    let e = ap (λ (t : Bool). bytes_in t c) two in
    omega (arith, second_bytes c F (no_entries s (omega arith) two))

both_long : (a b : List ℕ) → 6 ≤ length a → TooLong a → TooLong (a ++ b) → listed (a ++ b) ≡ listed a
both_long a b six h g =
    long_refused (a ++ b) (omega (arith, length-append a b)) g
    ∙ (ap (λ (k : Counts). refused_bytes (number_of (pick (too_many_of k || above limits k) Size Sheet))) (counts_join a b six) ∙ sym (long_refused a six h))

-- a reader may stop behind 2,173 bytes, whatever the edition
pub long_listed : (a b : List ℕ) → 2173 ≤ length a → listed (a ++ b) ≡ listed a
long_listed a b h = both_long a b (omega arith) (too_long a h) (too_long (a ++ b) (omega (arith, length-append a b)))

-- and behind 1,533 bytes of the second
pub second_listed : (a b : List ℕ) → second (bits_of a) ≡ true → 1533 ≤ length a → listed (a ++ b) ≡ listed a
second_listed a b two h =
    both_long a b (omega arith) (second_long a two h) (second_long (a ++ b) (edition_join a b (omega arith) ∙ two) (omega (arith, length-append a b)))
