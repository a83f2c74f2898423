-- The questions to a mesh, said once: what each answers, and the reply to each on an image. Definitions only.
use Rattle.std.specs.Prelude.{ℕ, Bool, true, false, List}
use Rattle.model.specs.Mesh.{Mesh}
use Rattle.model.specs.Calls.{refusal}
use Rattle.model.specs.Reads.{Read, refused, pieces_call, rest_measure_call, rest_measure_of_call, opens_call, groups_call}
use Rattle.mesh.specs.Given.{mesh_of}
use Rattle.image.specs.Image.{image_of, image_sized_of}
use Rattle.reading_replies.specs.Replies.{count_words, number_words, truth_words, groups_words}
use Rattle.reading_c.specs.declared.Question.{Question}
use Rattle.reading_c.specs.declared.Question.TheVariants.{Pieces, Measure, MeasureOf, Opens, Groups, Unread}
use Rattle.reading_c.specs.declared.Asked.{Asked}
use Rattle.reading_c.specs.declared.Asked.TheVariants.{Opens as OpensAsked, Groups as GroupsAsked, Unread as UnreadAsked}

-- the question that is put to blocks
abbrev pub question_of : Asked → Question
question_of (OpensAsked v min) = Opens v min
question_of (GroupsAsked v) = Groups v
question_of UnreadAsked = Unread

-- the words of the answer to a question; the list is the particles of a measure, or the sides at a particle
abbrev pub question_call : Question → Bool → Mesh → List ℕ → Read (List ℕ)
question_call Pieces sized M l = count_words (pieces_call sized M)
question_call Measure sized M l = number_words (rest_measure_call sized M)
question_call MeasureOf sized M l = number_words (rest_measure_of_call sized M l)
question_call (Opens v min) sized M l = truth_words (opens_call sized M v l min)
question_call (Groups v) sized M l = groups_words (groups_call sized M v l)
question_call Unread sized M l = refused (refusal sized M true false)

-- the reply to a question to the mesh that an image is
unfoldable pub question_reply : Question → List ℕ → List ℕ → Read (List ℕ)
question_reply q s l = question_call q (image_sized_of s) (mesh_of (image_of s)) l
