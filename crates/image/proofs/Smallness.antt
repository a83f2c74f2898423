-- Laws of small and middling images: local blocks that are as small have room for them. Assumes nothing.
use Prim.Native.Nat.{ℕ, ◌*◌, ◌≤◌}
use native.Mathlib.Omega.{arith}
use mathlib.Core.Path.{◌≡◌}
use mathlib.Core.Bool.{true, ◌&&◌}
use mathlib.Core.List.{List}
use lib.Dec.{leb}
use borrow.Author.Tests.{leb-true}
use Rattle.lists.proofs.Sifts.{and_true}
use Rattle.mesh.specs.Widths.{point_columns}
use Rattle.image.specs.Words.{word_at_of}
use Rattle.image.specs.Image.{image_sized_of}
use Rattle.image.specs.Loads.{Loadable}
use Rattle.image.proofs.Loading.{sized_loadable}
use Rattle.image.specs.Small.{counts_in, small_image, middling_image}

-- four numbers that are within their limits by one test
four_within : (a b c d i j k l : ℕ) → leb a i && leb b j && leb c k && leb d l ≡ true → (a ≤ i) × (b ≤ j) × (c ≤ k) × (d ≤ l)
four_within a b c d i j k l h =
    let z = and_true (leb a i && leb b j && leb c k) (leb d l) h in
    let y = and_true (leb a i && leb b j) (leb c k) z.0 in
    let x = and_true (leb a i) (leb b j) y.0 in
    (leb-true a i x.0, leb-true b j x.1, leb-true c k y.1, leb-true d l z.1)

-- blocks for so many rows have room for an image that has at most as many
pub counts_loadable :
    (p t e b : ℕ) (s : List ℕ) → image_sized_of s ≡ true → counts_in p t e b s ≡ true → Loadable s (p * point_columns) (2 * p) (3 * t) (2 * t) (4 * e) (4 * e) (2 * b)
unfolding counts_in
counts_loadable p t e b s h f =
    let few = four_within (word_at_of s 0) (word_at_of s 1) (word_at_of s 2) (word_at_of s 3) p t e b f in
    record {
      long = (sized_loadable s h).long;
      points_room = omega (arith, few.0);
      roots_room = omega (arith, few.0);
      corners_room = omega (arith, few.1);
      volumes_room = omega (arith, few.1);
      ends_room = omega (arith, few.2);
      lengths_room = omega (arith, few.2);
      outline_room = omega (arith, few.3);
    }

pub small_loadable : (s : List ℕ) → image_sized_of s ≡ true → small_image s ≡ true → Loadable s (64 * point_columns) 128 192 128 512 512 256
unfolding small_image
small_loadable s h f = counts_loadable 64 64 128 128 s h f

pub middling_loadable : (s : List ℕ) → image_sized_of s ≡ true → middling_image s ≡ true → Loadable s (256 * point_columns) 512 768 512 2048 2048 1024
unfolding middling_image
middling_loadable s h f = counts_loadable 256 256 512 512 s h f
