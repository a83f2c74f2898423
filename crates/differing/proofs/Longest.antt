-- The longest sheet that the program takes has 2,172 bytes, in either edition: whatever follows the first 2,173 bytes of either file, what is printed is the same. Assumes nothing.
use Prim.Native.Nat.{ℕ, ◌≤◌}
use native.Mathlib.Omega.{arith}
use native.Mathlib.Decide.{dec_le}
use mathlib.Core.Path.{◌≡◌, refl, sym, ap, ◌∙◌}
use mathlib.Core.Bool.{Bool, true, false, ◌||◌}
use mathlib.Core.List.{List, ◌++◌}
use lib.ListN.{length, take, drop, length-append, take-append-drop}
use lib.Seq.{length-take-le, take_all}
use Rattle.lists.specs.Lists.{pick}
use Rattle.bits.specs.Bits.{bits_of}
use Rattle.sheet.specs.Sheet.{above, limits, too_many_of, counts_at}
use Rattle.sheet.specs.declared.Counts.{Counts}
use Rattle.edition.specs.Edition.{bits_in_of, seen_in, seen_of}
use Rattle.std.specs.Prelude.{Result, Ok, Err}
use Rattle.mesh.specs.declared.refusals.Refusal.{Refusal}
use Rattle.mesh.specs.declared.refusals.Refusal.TheVariants.{Size, Sheet}
use Rattle.edition.specs.declared.Seen.{Seen}
use Rattle.edition.proofs.Joins.{counts_join}
use Rattle.edition.proofs.Limited.{typed_long, too_long}
use Rattle.differing.specs.Differed.{differed_seen, differed}

-- ---- bytes that are too many

abbrev counts_in : List ℕ → Counts
counts_in s = counts_at (bits_in_of (bits_of s))

-- what too many bytes are answered, by their counts
abbrev verdict : Bool → Result Seen Refusal
verdict t = Err (pick t Size Sheet)

abbrev over : Counts → Bool
over c = too_many_of c || above limits c

seen_long : (s : List ℕ) → 2173 ≤ length s → seen_of limits s ≡ verdict (over (counts_in s))
unfolding seen_in
seen_long s h = ap (seen_in limits s) (typed_long s (omega arith) (too_long s h))

-- bytes behind 2,173 change nothing in what a sheet is answered
seen_join : (a b : List ℕ) → 2173 ≤ length a → seen_of limits (a ++ b) ≡ seen_of limits a
seen_join a b h =
    seen_long (a ++ b) (omega (arith, length-append a b)) ∙ (ap (λ (c : Counts). verdict (over c)) (counts_join a b (omega arith)) ∙ sym (seen_long a h))

-- ---- what is printed

-- a refused sheet is told by its number alone
first_told : (t : Bool) (v : Result Seen Refusal) (a c b : List ℕ) → differed_seen (verdict t) v a b ≡ differed_seen (verdict t) v c b
unfolding differed_seen
first_told true v a c b = refl
first_told false v a c b = refl

second_told : (u : Result Seen Refusal) (t : Bool) (a b c : List ℕ) → differed_seen u (verdict t) a b ≡ differed_seen u (verdict t) a c
unfolding differed_seen
second_told (Err n) t a b c = refl
second_told (Ok d) true a b c = refl
second_told (Ok d) false a b c = refl

pub long_first : (a x b : List ℕ) → 2173 ≤ length a → differed (a ++ x) b ≡ differed a b
long_first a x b h =
    let v = seen_of limits b in
    let t = over (counts_in a) in
    ap (λ (w : Result Seen Refusal). differed_seen w v (a ++ x) b) (seen_join a x h ∙ seen_long a h) ∙ (first_told t v (a ++ x) a b ∙ ap (λ (w : Result Seen Refusal). differed_seen w v a b) (sym (seen_long a h)))

pub long_second : (a b y : List ℕ) → 2173 ≤ length b → differed a (b ++ y) ≡ differed a b
long_second a b y h =
    let u = seen_of limits a in
    let t = over (counts_in b) in
    ap (λ (w : Result Seen Refusal). differed_seen u w a (b ++ y)) (seen_join b y h ∙ seen_long b h) ∙ (second_told u t a (b ++ y) b ∙ ap (λ (w : Result Seen Refusal). differed_seen u w a b) (sym (seen_long b h)))

front : (a : List ℕ) → 2173 ≤ length a → 2173 ≤ length (take 2173 a)
front a h = omega (arith, length-take-le 2173 a h)

first_front : (a b : List ℕ) → differed (take 2173 a) b ≡ differed a b
first_front a b =
    elim (dec_le 2173 (length a)) [
      | yes h ↦ sym (long_first (take 2173 a) (drop 2173 a) b (front a h)) ∙ ap (λ (s : List ℕ). differed s b) (take-append-drop 2173 a)
      | no h ↦ ap (λ (s : List ℕ). differed s b) (take_all 2173 a (omega arith))
    ]

second_front : (a b : List ℕ) → differed a (take 2173 b) ≡ differed a b
second_front a b =
    elim (dec_le 2173 (length b)) [
      | yes h ↦ sym (long_second a (take 2173 b) (drop 2173 b) (front b h)) ∙ ap (λ (s : List ℕ). differed a s) (take-append-drop 2173 b)
      | no h ↦ ap (λ (s : List ℕ). differed a s) (take_all 2173 b (omega arith))
    ]

-- so a reader may stop behind 2,173 bytes of each
pub fronts_differ : (a b : List ℕ) → differed (take 2173 a) (take 2173 b) ≡ differed a b
fronts_differ a b = first_front a (take 2173 b) ∙ second_front a b
