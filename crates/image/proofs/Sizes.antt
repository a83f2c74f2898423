-- Laws of an image's sizes: what its counts say of its bytes and of the input that it is. Assumes nothing.
use Prim.Native.Nat.{ℕ, ◌+◌, ◌*◌, ◌/◌, ◌%◌, ◌≤◌, ◌<◌}
use native.Mathlib.Omega.{arith}
use mathlib.Core.Path.{◌≡◌, refl, sym, ap₂, ◌∙◌}
use mathlib.Core.Bool.{Bool, true, false, ◌&&◌}
use mathlib.Core.List.{List}
use lib.Dec.{eqb, leb}
use lib.ListN.{length}
use borrow.Author.Tests.{leb-true, eqb-true, le-leb, lt-leb, eq-eqb}
use Rattle.lists.proofs.Stores.{tab_length}
use Rattle.mesh.specs.Given.{list_fits_of, lengths_fit, sizes_fit_of}
use Rattle.mesh.specs.Widths.{point_columns, particle_words}
use Rattle.image.specs.Words.{word_at_of, words_from, numbers_from}
use Rattle.image.specs.Image.{image_words, image_fits_of, image_of, blocks_in, counts_within_of, image_sized_of}

-- both sides of a true conjunction hold
and_left : (a b : Bool) → a && b ≡ true → a ≡ true
and_left true b h = refl
and_left false b h = h

and_right : (a b : Bool) → a && b ≡ true → b ≡ true
and_right true b h = h
and_right false b h = let z : ◌≡◌ {A = ℕ} 0 1 = cc in absurd (omega arith)

-- an image that fits has its counts, and as many bytes as they say
pub fits_counts : (s : List ℕ) (r : Bool) → r ≡ image_fits_of s → r ≡ true → 16 ≤ length s
unfolding image_fits_of
fits_counts s r e h = leb-true 16 (length s) (and_left _ _ (sym e ∙ h))

pub fits_long : (s : List ℕ) → image_fits_of s ≡ true → length s ≡ 4 * image_words (word_at_of s 0) (word_at_of s 1) (word_at_of s 2) (word_at_of s 3)
unfolding image_fits_of
fits_long s h = eqb-true (length s) (4 * image_words (word_at_of s 0) (word_at_of s 1) (word_at_of s 2) (word_at_of s 3)) (and_right (leb 16 (length s)) _ h)

-- the test of the bytes
pub fits_short : (s : List ℕ) → length s < 16 → false ≡ image_fits_of s
unfolding image_fits_of
fits_short s h = rw (lt-leb 16 (length s) h)

pub fits_as : (s : List ℕ) (p t e b : ℕ) → p ≡ word_at_of s 0 → t ≡ word_at_of s 1 → e ≡ word_at_of s 2 → b ≡ word_at_of s 3 → 16 ≤ length s
    → eqb (length s) (4 * (4 + particle_words * p + 5 * t + 8 * e + 2 * b)) ≡ image_fits_of s
unfolding image_fits_of
fits_as s p t e b ep et ee eb h = rw (le-leb 16 (length s) h, ep, et, ee, eb)

-- one list of two blocks whose columns have p places
list_is : (limit p oa a ob b : ℕ) → oa ≡ 0 → a ≡ p → ob ≡ 0 → b ≡ p → list_fits_of limit oa a ob b ≡ leb p limit
unfolding list_fits_of
list_is limit p oa a ob b eo ea eob eb = rw (eq-eqb oa 0 eo, eq-eqb ob 0 eob, eq-eqb a b (ea ∙ sym eb), ea)

-- blocks of whole columns
pub lengths_are : (p t e b : ℕ) → lengths_fit (point_columns * p) (2 * p) (3 * t) (2 * t) (4 * e) (4 * e) (2 * b) ≡ leb p 1024 && leb t 1024 && leb e 2048 && leb b 2048
unfolding lengths_fit
lengths_are p t e b =
    ap₂ ◌&&◌
    (ap₂ ◌&&◌
    (ap₂ ◌&&◌ (list_is 1024 p (point_columns * p % point_columns) (point_columns * p / point_columns) (2 * p % 2) (2 * p / 2) (omega arith) (omega arith) (omega arith) (omega arith))
    (list_is 1024 t (3 * t % 3) (3 * t / 3) (2 * t % 2) (2 * t / 2) (omega arith) (omega arith) (omega arith) (omega arith)))
    (list_is 2048 e (4 * e % 4) (4 * e / 4) (4 * e % 4) (4 * e / 4) (omega arith) (omega arith) (omega arith) (omega arith)))
    (list_is 2048 b (2 * b % 2) (2 * b / 2) 0 (2 * b / 2) (omega arith) (omega arith) refl (omega arith))

-- the input that an image is has the sizes of a mesh where the counts are within the limits
pub sizes_are : (s : List ℕ) → sizes_fit_of (image_of s) ≡ counts_within_of s
unfolding image_of blocks_in counts_within_of words_from numbers_from
sizes_are s = simp tab_length (lengths_are (word_at_of s 0) (word_at_of s 1) (word_at_of s 2) (word_at_of s 3))

pub sized_as : (s : List ℕ) (r w : Bool) → r ≡ image_fits_of s → r ≡ true → w ≡ counts_within_of s → w ≡ image_sized_of s
unfolding image_sized_of
sized_as s r w e h k = rw (sym e ∙ h, sizes_are s) k

pub sized_not : (s : List ℕ) (r : Bool) → r ≡ image_fits_of s → r ≡ false → false ≡ image_sized_of s
unfolding image_sized_of
sized_not s r e h = rw (sym e ∙ h)
