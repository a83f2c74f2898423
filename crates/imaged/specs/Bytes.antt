-- The bytes of an image. Definitions only.
use Rattle.std.specs.Prelude.{ℕ, List}
use Rattle.lists.specs.Lists.{each}
use Rattle.model.specs.Mesh.{Mesh}
use Rattle.image.specs.Words.{bytes_of}
use Rattle.image.specs.Image.{image_words_of}

-- the bytes of words, four each
abbrev pub bytes_in : List ℕ → List ℕ
bytes_in ws = each bytes_of ws

-- the image of a mesh
abbrev pub image_bytes : Mesh → List ℕ
image_bytes M = bytes_in (image_words_of M)
