-- A mesh image, as docs/C-FUNCTIONS.md has it: the four counts, then the columns of the seven blocks. Definitions only.
use Rattle.std.specs.Prelude.{ℕ, ◌+◌, ◌*◌, Bool, ◌&&◌, List, [], ◌∷◌, ◌++◌, map, length, eqb, leb}
use Rattle.columns.specs.Block.{stack}
use Rattle.model.specs.Mesh.{Mesh}
use Rattle.mesh.specs.Given.{Given, given, sizes_fit_of}
use Rattle.mesh.specs.Filled.{point_of, root_of, corner_of, volume_of, end_of, length_of, side_of}
use Rattle.mesh.specs.Widths.{point_columns, particle_words}
use Rattle.mesh.specs.Limits.{particle_limit, triangle_limit, edge_limit, boundary_limit}
use Rattle.image.specs.Words.{word_at_of, words_from, numbers_from, bits_in_of}

-- how many words an image of so many particles, triangles, edges and boundary entries has
abbrev pub image_words : ℕ → ℕ → ℕ → ℕ → ℕ
image_words p t e b = 4 + particle_words * p + 5 * t + 8 * e + 2 * b

-- the counts are there, and the bytes are as many as they say
unfoldable pub image_fits_of : List ℕ → Bool
image_fits_of s = leb 16 (length s) && eqb (length s) (4 * image_words (word_at_of s 0) (word_at_of s 1) (word_at_of s 2) (word_at_of s 3))

-- the blocks of p particles, t triangles, e edges and b boundary entries, one behind the other from word 4 on
unfoldable pub blocks_in : List ℕ → ℕ → ℕ → ℕ → ℕ → Given
blocks_in s p t e b =
    given (numbers_from s 4 (point_columns * p)) (words_from s (4 + point_columns * p) (2 * p)) (words_from s (4 + particle_words * p) (3 * t)) (numbers_from s (4 + particle_words * p + 3 * t) (2 * t))
    (words_from s (4 + particle_words * p + 5 * t) (4 * e)) (numbers_from s (4 + particle_words * p + 5 * t + 4 * e) (4 * e)) (words_from s (4 + particle_words * p + 5 * t + 8 * e) (2 * b))

-- the input that an image is
unfoldable pub image_of : List ℕ → Given
image_of s = blocks_in s (word_at_of s 0) (word_at_of s 1) (word_at_of s 2) (word_at_of s 3)

-- at most 1,024 particles, 1,024 triangles, 2,048 edges and 2,048 boundary entries, by the counts of an image
unfoldable pub counts_within_of : List ℕ → Bool
counts_within_of s = leb (word_at_of s 0) particle_limit && leb (word_at_of s 1) triangle_limit && leb (word_at_of s 2) edge_limit && leb (word_at_of s 3) boundary_limit

-- the image has as many bytes as its counts say, and the input that it is has the sizes of a mesh
unfoldable pub image_sized_of : List ℕ → Bool
image_sized_of s = image_fits_of s && sizes_fit_of (image_of s)

-- the words of the image of a mesh: the four counts, then the columns of the seven blocks, one behind the other
unfoldable pub image_words_of : Mesh → List ℕ
image_words_of M =
    (length M.particles ∷ length M.triangles ∷ length M.edges ∷ length M.boundary ∷ []) ++ bits_in_of (stack point_columns (λ k. map (point_of k) M.particles))
    ++ stack 2 (λ k. map (root_of k) M.particles) ++ stack 3 (λ k. map (corner_of k) M.triangles) ++ bits_in_of (stack 2 (λ k. map (volume_of k) M.triangles))
    ++ stack 4 (λ k. map (end_of k) M.edges) ++ bits_in_of (stack 4 (λ k. map (length_of k) M.edges)) ++ stack 2 (λ k. map (side_of k) M.boundary)
