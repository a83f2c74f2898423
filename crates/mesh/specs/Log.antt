-- The log as numbers: six words an entry, one entry behind the other. Definitions only.
use Rattle.std.specs.Prelude.{ℕ, ◌+◌, ◌*◌, List, [], ◌∷◌, map, get_or, Float}
use Rattle.std.specs.Float.{binary32}
use Rattle.std.specs.Float.Ieee.{to_bits}
use Rattle.lists.specs.Lists.{tab, each}
use Rattle.model.specs.Mesh.{Mesh}
use Rattle.model.specs.Run.{Entry, split, edge, insert, opened, met}
use Rattle.mesh.specs.At.{mesh_at}
use Rattle.mesh.specs.declared.Counts.{Counts}

-- the six words of an entry
pub record Words : Type 0 where
  pub kind : ℕ
  pub a : ℕ
  pub b : ℕ
  pub p : ℕ
  pub q : ℕ
  pub t : ℕ

-- 1: copy and source; 2: the ends of a removed edge; 3: the ends, the two new particles and the bits of the fraction; 4: the ends of an opened torn edge; 5: the ends of a pair that the blade met, and the bits of the hit point's x and y and of the fraction; a word that an entry has no use for is 0
abbrev pub words_of : Entry → Words
words_of (split c v) = record { kind = 1; a = c; b = v; p = 0; q = 0; t = 0 }
words_of (edge a b) = record { kind = 2; a = a; b = b; p = 0; q = 0; t = 0 }
words_of (insert a b p q t) = record { kind = 3; a = a; b = b; p = p; q = q; t = to_bits binary32 t }
words_of (opened a b) = record { kind = 4; a = a; b = b; p = 0; q = 0; t = 0 }
words_of (met a b h t) = record { kind = 5; a = a; b = b; p = to_bits binary32 h.x; q = to_bits binary32 h.y; t = to_bits binary32 t }

-- the words of entry k of a log
abbrev pub entry_row : List ℕ → ℕ → Words
entry_row log k = record { kind = get_or log (6 * k) 0; a = get_or log (6 * k + 1) 0; b = get_or log (6 * k + 2) 0; p = get_or log (6 * k + 3) 0; q = get_or log (6 * k + 4) 0; t = get_or log (6 * k + 5) 0 }

-- the first n entries of a log
unfoldable pub log_at : ℕ → List ℕ → List Words
log_at n log = tab n (entry_row log)

-- an entry's words, in their order
abbrev pub word_list : Words → List ℕ
word_list e = e.kind ∷ e.a ∷ e.b ∷ e.p ∷ e.q ∷ e.t ∷ []

-- all words of a log's entries, in their order
abbrev pub words_in : List Words → List ℕ
words_in l = each word_list l

-- a mesh, and what was done to it
pub record World : Type 0 where
  pub mesh : Mesh
  pub log : List Words

-- a mesh and the entries of its log
abbrev pub world_of : Mesh → List Entry → World
world_of M l = record { mesh = M; log = map words_of l }

-- the mesh and the log that the fronts of eight blocks hold
unfoldable pub world_at : Counts → List Float → List ℕ → List ℕ → List Float → List ℕ → List Float → List ℕ → List ℕ → World
world_at k points roots corners volumes ends lengths outline log = record { mesh = mesh_at k points roots corners volumes ends lengths outline; log = log_at k.log log }
