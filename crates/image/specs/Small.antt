-- When an image is small or middling. Only the contracts between the functions need this file. Definitions only.
use Rattle.std.specs.Prelude.{ℕ, Bool, ◌&&◌, List, leb}
use Rattle.image.specs.Words.{word_at_of}

-- at most p particles, t triangles, e edges and b boundary entries, by the counts of an image
unfoldable pub counts_in : ℕ → ℕ → ℕ → ℕ → List ℕ → Bool
counts_in p t e b s = leb (word_at_of s 0) p && leb (word_at_of s 1) t && leb (word_at_of s 2) e && leb (word_at_of s 3) b

-- at most 64 particles, 64 triangles, 128 edges and 128 boundary entries
unfoldable pub small_image : List ℕ → Bool
small_image s = counts_in 64 64 128 128 s

-- at most 256 particles, 256 triangles, 512 edges and 512 boundary entries
unfoldable pub middling_image : List ℕ → Bool
middling_image s = counts_in 256 256 512 512 s
