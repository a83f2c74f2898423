-- How many columns a block has. Definitions only.
use Rattle.std.specs.Prelude.{ℕ, ◌+◌}

-- of points: x, y, rest x, rest y, mass, inverse mass, velocity x, velocity y
abbrev pub point_columns : ℕ
point_columns = 8

-- of roots: root, damaged flag
abbrev pub root_columns : ℕ
root_columns = 2

-- of corners: a triangle's three particles
abbrev pub corner_columns : ℕ
corner_columns = 3

-- of volumes: rest volume, stress
abbrev pub volume_columns : ℕ
volume_columns = 2

-- of ends: an edge's two particles, structural flag, torn flag
abbrev pub end_columns : ℕ
end_columns = 4

-- of lengths: rest length, initial rest length, impulse, stress
abbrev pub length_columns : ℕ
length_columns = 4

-- of the outline: a boundary entry's two particles
abbrev pub side_columns : ℕ
side_columns = 2

-- of a particle in all, as an image has them: those of points, the root and the damaged flag
abbrev pub particle_words : ℕ
particle_words = point_columns + root_columns

-- how many words an entry of the log has
abbrev pub entry_words : ℕ
entry_words = 6
