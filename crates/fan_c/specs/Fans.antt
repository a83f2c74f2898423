-- What is answered to the question for the fan of a particle: the numbers of its elements, in order. Definitions only.
use Rattle.std.specs.Prelude.{ℕ, Bool, true, List, ◌∷◌, map, length}
use Rattle.model.specs.Mesh.{Mesh}
use Rattle.model.specs.Elements.{Element, kind_of, fan_of}
use Rattle.model.specs.Calls.{present, refusal}
use Rattle.model.specs.Reads.{Read, refused, value, or_refused}
use Rattle.mesh.specs.Given.{mesh_of}
use Rattle.image.specs.Image.{image_of, image_sized_of}

-- the numbers of the elements at v, in the order of the fan: each is the triangle's or the edge's place in its list
unfoldable pub fan_numbers : Mesh → ℕ → List ℕ
fan_numbers M v = map (λ (e : Element). e.number) (fan_of (kind_of M) M v)

-- the same as a call: particle absent, 4
unfoldable pub fan_call : Bool → Mesh → ℕ → Read (List ℕ)
fan_call sized M v = or_refused (refusal sized M true (present M v)) (fan_numbers M v)

-- the words of an answer: how many they are, then the numbers
abbrev pub fan_words : Read (List ℕ) → Read (List ℕ)
fan_words (refused n) = refused n
fan_words (value ns) = value (length ns ∷ ns)

-- the fan of particle v of the mesh that an image is
unfoldable pub fan_reply : List ℕ → ℕ → Read (List ℕ)
fan_reply s v = fan_words (fan_call (image_sized_of s) (mesh_of (image_of s)) v)
