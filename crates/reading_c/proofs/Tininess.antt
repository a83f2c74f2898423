-- Tiny local blocks have room for a tiny image. Assumes nothing.
use Prim.Native.Nat.{ℕ, ◌*◌}
use mathlib.Core.Path.{◌≡◌}
use mathlib.Core.Bool.{true}
use mathlib.Core.List.{List}
use Rattle.mesh.specs.Widths.{point_columns}
use Rattle.image.specs.Image.{image_sized_of}
use Rattle.image.specs.Loads.{Loadable}
use Rattle.image.proofs.Smallness.{counts_loadable}
use Rattle.reading_c.specs.Tiny.{tiny_image}

pub tiny_loadable : (s : List ℕ) → image_sized_of s ≡ true → tiny_image s ≡ true → Loadable s (16 * point_columns) 32 48 32 128 128 64
unfolding tiny_image
tiny_loadable s h f = counts_loadable 16 16 32 32 s h f
