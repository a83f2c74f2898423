-- What is asked of an image whose elements answer, and of the tables that are lent for them. Only the contracts between the functions need this file. Definitions only.
use Rattle.std.specs.Prelude.{ℕ, ◌≤◌, ◌≡◌, true, List}
use Rattle.model.specs.Valid.{indices_fit_of}
use Rattle.model.specs.Calls.{particles_ok}
use Rattle.mesh.specs.Given.{mesh_of}
use Rattle.image.specs.Words.{word_at_of}
use Rattle.image.specs.Image.{image_of, image_sized_of}
use Rattle.image_elements.specs.Room.{ElementsRoom}

-- the image has the sizes of a mesh, and its indices are those of one
pub record Faultless (s : List ℕ) : Type 0 where
  pub sized : image_sized_of s ≡ true
  pub indices : indices_fit_of (mesh_of (image_of s)) ≡ true

-- the same, and three tables have room for its elements
pub record TableRoom (s : List ℕ) (numbers verts measures : ℕ) : Type 0 where
  pub faultless : Faultless s
  pub room : ElementsRoom s numbers verts measures

-- it has p particles, a list names some of them, and a table has a place for each
pub record MarksRoom (s : List ℕ) (p : ℕ) (list : List ℕ) (marks : ℕ) : Type 0 where
  pub particles : p ≡ word_at_of s 0
  pub listed : particles_ok (mesh_of (image_of s)) list ≡ true
  pub marks_long : p ≤ marks
