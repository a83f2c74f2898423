-- What the C functions answer, as docs/C-FUNCTIONS.md has it: the number of a refusal, and the words of an answer in the lent bytes. Definitions only.
use Rattle.std.specs.Prelude.{ℕ, ◌+◌, ◌*◌, ◌/◌, ◌%◌, Bool, true, false, List, [], ◌∷◌, length, eqb, Float}
use Rattle.std.specs.Float.{binary32}
use Rattle.std.specs.Float.Ieee.{to_bits}
use Rattle.lists.specs.Lists.{pick}
use Rattle.blade.specs.declared.Point.{Point}
use Rattle.blade.specs.declared.Hit.{Hit}
use Rattle.blade.specs.declared.Hit.TheVariants.{Miss, Hit as HitAt}
use Rattle.model.specs.Calls.{refusal}
use Rattle.model.specs.Reads.{Read, refused, value, root_call, blade_call, rest_measure_call, pieces_call, opens_call, groups_call, rest_measure_of_call}
use Rattle.model.specs.Refusals.{argument_refusal}
use Rattle.mesh.specs.Given.{mesh_of}
use Rattle.image.specs.Words.{word_at_of, words_from, number_of}
use Rattle.image.specs.Image.{image_of, image_sized_of}
pub use Rattle.replies.specs.Reply.{lent_enough, code_of, shown_of, Replied}

-- ---- the words of an answer

-- a number: its bits
abbrev pub number_words : Read Float → Read (List ℕ)
number_words (refused n) = refused n
number_words (value x) = value (to_bits binary32 x ∷ [])

-- a count: itself
abbrev pub count_words : Read ℕ → Read (List ℕ)
count_words (refused n) = refused n
count_words (value n) = value (n ∷ [])

-- whether something holds: 1 or 0
abbrev pub truth_words : Read Bool → Read (List ℕ)
truth_words (refused n) = refused n
truth_words (value b) = value (pick b 1 0 ∷ [])

-- groups: how many they are, then the group of each element
abbrev pub groups_words : Read (List ℕ × ℕ) → Read (List ℕ)
groups_words (refused n) = refused n
groups_words (value gs) = value (gs.1 ∷ gs.0)

-- a blade test: 1 and the bits of the fraction and of the hit point's x and y, or 0 0 0 0 for a miss
abbrev pub hit_words : Hit → List ℕ
hit_words Miss = 0 ∷ 0 ∷ 0 ∷ 0 ∷ []
hit_words (HitAt t p) = 1 ∷ to_bits binary32 t ∷ to_bits binary32 p.x ∷ to_bits binary32 p.y ∷ []

abbrev pub tested_words : Read Hit → Read (List ℕ)
tested_words (refused n) = refused n
tested_words (value h) = value (hit_words h)

-- ---- what each C function is asked

-- the root of the number of a word
unfoldable pub root_reply : ℕ → Read (List ℕ)
root_reply bits = number_words (root_call (number_of bits))

-- the point of words i and i + 1
abbrev pub point_at_of : List ℕ → ℕ → Point
point_at_of s i = record { x = number_of (word_at_of s i); y = number_of (word_at_of s (i + 1)) }

-- the blade test on eight words
unfoldable pub blade_reply : List ℕ → Read (List ℕ)
blade_reply s = pick (eqb (length s) 32) (tested_words (blade_call (record { from = point_at_of s 0; to = point_at_of s 2 }) (point_at_of s 4) (point_at_of s 6))) (refused argument_refusal)

-- the pieces, and the measure, of the mesh that an image is
unfoldable pub pieces_reply : List ℕ → Read (List ℕ)
pieces_reply s = count_words (pieces_call (image_sized_of s) (mesh_of (image_of s)))

unfoldable pub measure_reply : List ℕ → Read (List ℕ)
measure_reply s = number_words (rest_measure_call (image_sized_of s) (mesh_of (image_of s)))

-- whether the groups that sides, a byte for each, make at particle v of that mesh reach the minimum piece
unfoldable pub opens_reply : List ℕ → ℕ → List ℕ → ℕ → Read (List ℕ)
opens_reply s v sides min = truth_words (opens_call (image_sized_of s) (mesh_of (image_of s)) v sides min)

-- the groups that such sides make there
unfoldable pub groups_reply : List ℕ → ℕ → List ℕ → Read (List ℕ)
groups_reply s v sides = groups_words (groups_call (image_sized_of s) (mesh_of (image_of s)) v sides)

-- the measure of what lies in a list of particles, a word for each; bytes that are no whole words are a bad argument
unfoldable pub measure_of_reply : List ℕ → List ℕ → Read (List ℕ)
measure_of_reply s list =
    pick (eqb (length list % 4) 0) (number_words (rest_measure_of_call (image_sized_of s) (mesh_of (image_of s)) (words_from list 0 (length list / 4))))
    (refused (refusal (image_sized_of s) (mesh_of (image_of s)) true false))
