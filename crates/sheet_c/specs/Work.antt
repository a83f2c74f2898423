-- What the workers ask and promise. Only contracts between workers need this file. Definitions only.
use Rattle.std.specs.Prelude.{ℕ, ◌*◌, ◌≤◌, ◌≡◌, Bool, ◌&&◌, List, ◌∷◌, ◌++◌, length, leb, Float}
use Rattle.image.specs.Words.{word_at_of, bits_in_of}
use Rattle.image_writing.specs.Stores.{block_words, Standing}
use Rattle.sheet.specs.Read.{counts_for}
use Rattle.sheet.specs.declared.Counts.{Counts}
use Rattle.sheet_c.specs.Fields.{field_words}
use Rattle.mesh.specs.Limits.{particle_limit, triangle_limit, edge_limit, boundary_limit}

-- counts within the limits of a mesh
pub record Few (c : Counts) : Type 0 where
  pub particles : c.particles ≤ particle_limit
  pub triangles : c.triangles ≤ triangle_limit
  pub edges : c.edges ≤ edge_limit
  pub boundary : c.boundary ≤ boundary_limit

-- rows that stand in blocks, and the four numbers of a blade
pub record Storing (c : Counts) (lp lr lc lv le ll lo blade : ℕ) : Type 0 where
  pub few : Few c
  pub stands : Standing (counts_for c) lp lr lc lv le ll lo
  pub four : blade ≡ 4

-- a first word, the words of a blade, and of rows that stand in blocks
abbrev pub blocks_told : ℕ → Counts → List Float → List ℕ → List ℕ → List Float → List ℕ → List Float → List ℕ → List Float → List ℕ
blocks_told first c p r k v e l o blade = (first ∷ bits_in_of blade) ++ block_words (counts_for c) p r k v e l o

-- at most 1,024 particles, 1,024 triangles and 2,048 edges, by the counts of fields
unfoldable pub fields_few_of : List ℕ → Bool
fields_few_of s = leb (word_at_of s 0) particle_limit && leb (word_at_of s 1) triangle_limit && leb (word_at_of s 2) edge_limit

-- the bytes are as many as the counts say, and the counts are within the limits
pub record FieldsRoom (s : List ℕ) : Type 0 where
  pub long : length s ≡ 4 * field_words (word_at_of s 0) (word_at_of s 1) (word_at_of s 2)
  pub particles : word_at_of s 0 ≤ particle_limit
  pub triangles : word_at_of s 1 ≤ triangle_limit
  pub edges : word_at_of s 2 ≤ edge_limit
