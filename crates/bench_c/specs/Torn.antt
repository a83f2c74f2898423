-- What each C function that gives a mesh is asked, as docs/C-FUNCTIONS.md has it. (How its outcome is told stands in crate job_replies.) Definitions only.
use Rattle.std.specs.Prelude.{ℕ, ◌/◌, ◌%◌, min, Bool, true, false, ◌&&◌, List, length, eqb, leb}
use Rattle.lists.specs.Lists.{pick}
use Rattle.model.specs.Run.{Rooms}
use Rattle.model.specs.Cut.{Line}
use Rattle.model.specs.Calls.{Outcome, refusal, blade_ok, split_call, straddlers_call, cut_call, crack_call}
use Rattle.model.specs.Calls.{refused as turned_down}
use Rattle.mesh.specs.Given.{mesh_of}
use Rattle.mesh.specs.Limits.{particle_limit, triangle_limit, edge_limit, boundary_limit, entry_limit}
use Rattle.image.specs.Words.{word_at_of, words_from, number_of}
use Rattle.image.specs.Image.{image_of, image_sized_of}
use Rattle.reading_replies.specs.Replies.{point_at_of}
use Rattle.job_replies.specs.Outcomes.{with_rooms}

-- ---- what each C function is asked

-- four words: the places lent for particles, triangles, edges and boundary entries, each at most the limit; and the entries that the log's bytes have room for
abbrev pub rooms_in_of : List ℕ → ℕ → Rooms
rooms_in_of s logged = record { particles = min particle_limit (word_at_of s 0); triangles = min triangle_limit (word_at_of s 1); edges = min edge_limit (word_at_of s 2); boundary = min boundary_limit (word_at_of s 3); log = min entry_limit (logged / 24) }

-- the split of particle v of the mesh that an image is, by sides, a byte for each
unfoldable pub split_outcome : List ℕ → ℕ → List ℕ → List ℕ → ℕ → Outcome
split_outcome s v sides rooms logged = with_rooms s rooms true (split_call (image_sized_of s) (mesh_of (image_of s)) v sides (rooms_in_of rooms logged))

-- the removal of straddlers across its pieces
unfoldable pub straddlers_outcome : List ℕ → List ℕ → ℕ → Outcome
straddlers_outcome s rooms logged = with_rooms s rooms true (straddlers_call (image_sized_of s) (mesh_of (image_of s)) (rooms_in_of rooms logged))

-- the outcome o, if the bytes beside an image are as they should be; else they are a bad argument
abbrev pub if_read : Bool → List ℕ → Outcome → Outcome
if_read ok s o = pick ok o (turned_down (refusal (image_sized_of s) (mesh_of (image_of s)) true false))

-- the blade of four words x0, y0, x1, y1
abbrev pub blade_in : List ℕ → Line
blade_in blade = record { from = point_at_of blade 0; to = point_at_of blade 2 }

-- the cut in an edition along a blade of 16 bytes, with the insertion fraction of a word
unfoldable pub cut_outcome : List ℕ → List ℕ → ℕ → ℕ → List ℕ → ℕ → Outcome
cut_outcome s blade n f rooms logged =
    if_read (eqb (length blade) 16) s (with_rooms s rooms (blade_ok (blade_in blade)) (cut_call (image_sized_of s) (mesh_of (image_of s)) n (blade_in blade) (number_of f) (rooms_in_of rooms logged)))

-- the bytes are at most 2,048 whole words
abbrev pub words_few_of : ℕ → Bool
words_few_of n = eqb (n % 4) 0 && leb n 8192

-- the crack of torn edges, a word for each, with a minimum piece
unfoldable pub crack_outcome : List ℕ → List ℕ → ℕ → List ℕ → ℕ → Outcome
crack_outcome s torn min rooms logged =
    if_read (words_few_of (length torn)) s (with_rooms s rooms true (crack_call (image_sized_of s) (mesh_of (image_of s)) (words_from torn 0 (length torn / 4)) min (rooms_in_of rooms logged)))
