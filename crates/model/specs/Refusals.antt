-- The numbers by which a call is refused (docs/RULES.md, R3). Definitions only.
use Rattle.std.specs.Prelude.{ℕ}

-- too many particles, triangles, edges or boundary entries, or blocks whose lengths do not fit each other
abbrev pub size_refusal : ℕ
size_refusal = 1

-- a number that is too large or not finite, or a flag that is neither 0 nor 1
abbrev pub number_refusal : ℕ
number_refusal = 2

-- something names a particle that is not there, or one twice
abbrev pub name_refusal : ℕ
name_refusal = 3

-- a bad argument
abbrev pub argument_refusal : ℕ
argument_refusal = 4

-- no room for particles, edges, boundary entries, entries of the log
abbrev pub particle_refusal : ℕ
particle_refusal = 5

abbrev pub edge_refusal : ℕ
edge_refusal = 6

abbrev pub boundary_refusal : ℕ
boundary_refusal = 7

abbrev pub entry_refusal : ℕ
entry_refusal = 8

-- the bytes are no whole sheet
abbrev pub sheet_refusal : ℕ
sheet_refusal = 9

-- the reader of a sheet is closed
abbrev pub closed_refusal : ℕ
closed_refusal = 10

-- edition 2: a coordinate that is not whole, or a mesh of straps
abbrev pub whole_refusal : ℕ
whole_refusal = 11

abbrev pub strap_refusal : ℕ
strap_refusal = 12
