-- When an image is tiny. Only the contracts between the functions need this file. Definitions only.
use Rattle.std.specs.Prelude.{ℕ, Bool, List}
use Rattle.image.specs.Small.{counts_in}

-- at most 16 particles, 16 triangles, 32 edges and 32 boundary entries, by the counts of an image
unfoldable pub tiny_image : List ℕ → Bool
tiny_image s = counts_in 16 16 32 32 s
