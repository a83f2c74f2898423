-- The most that a mesh and a log may have (docs/RULES.md, R2.9). Definitions only.
use Rattle.std.specs.Prelude.{ℕ}

abbrev pub particle_limit : ℕ
particle_limit = 1024

abbrev pub triangle_limit : ℕ
triangle_limit = 1024

abbrev pub edge_limit : ℕ
edge_limit = 2048

abbrev pub boundary_limit : ℕ
boundary_limit = 2048

abbrev pub entry_limit : ℕ
entry_limit = 4096
