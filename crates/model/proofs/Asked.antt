-- How the computed cases write meshes, points and rooms: by their numbers, each f32 by its bits. Assumes nothing.
use Prim.Native.Nat.{ℕ}
use mathlib.Core.List.{List, [], ◌∷◌}
use lib.Ieee.{Float, binary32, of_bits}
use Rattle.float.specs.Numbers.{zero32}
use Rattle.blade.specs.declared.Point.{Point}
use Rattle.model.specs.Mesh.{Particle, Triangle, Edge, Side, Mesh}
use Rattle.model.specs.Run.{Rooms}
use Rattle.model.specs.Cut.{Line}

abbrev pub bits : ℕ → Float
bits b = of_bits binary32 b

abbrev pub point : ℕ → ℕ → Point
point x y = record { x = bits x; y = bits y }

abbrev pub blade : ℕ → ℕ → ℕ → ℕ → Line
blade x0 y0 x1 y1 = record { from = point x0 y0; to = point x1 y1 }

abbrev pub rooms : ℕ → ℕ → ℕ → ℕ → ℕ → Rooms
rooms p t e b l = record { particles = p; triangles = t; edges = e; boundary = b; log = l }

abbrev pub particle : ℕ → ℕ → ℕ → ℕ → ℕ → ℕ → ℕ → ℕ → Particle
particle x y rx ry m w r d = record { x = bits x; y = bits y; rest_x = bits rx; rest_y = bits ry; mass = bits m; inv = bits w; velocity_x = zero32; velocity_y = zero32; root = r; damaged = d }

abbrev pub triangle : ℕ → ℕ → ℕ → ℕ → ℕ → Triangle
triangle a b c v s = record { corners = a ∷ b ∷ c ∷ []; volume = bits v; stress = bits s }

abbrev pub edge : ℕ → ℕ → ℕ → ℕ → ℕ → ℕ → ℕ → ℕ → Edge
edge a b k t l i p s = record { a = a; b = b; structural = k; torn = t; rest = bits l; initial = bits i; impulse = bits p; stress = bits s }

abbrev pub side : ℕ → ℕ → Side
side a b = record { corners = a ∷ b ∷ [] }

abbrev pub mesh : List Particle → List Triangle → List Edge → List Side → Mesh
mesh ps ts es ss = record { particles = ps; triangles = ts; edges = es; boundary = ss }
