-- Only proofs need this file: what the workers on elements require, and what their inner functions promise. Definitions only.
use Rattle.std.specs.Prelude.{ℕ, ◌+◌, ◌/◌, ◌<◌, ◌≤◌, ◌≡◌, List, length, get_or, Float}
use Rattle.lists.specs.Lists.{map_at_of}
use Rattle.model.specs.Mesh.{Edge}
use Rattle.mesh.specs.At.{edges_at}
use Rattle.mesh.specs.Widths.{end_columns}

-- the first n numbers rise and name some of so many rows, and the copies of their groups are small
pub record PartsRoom (before n rows : ℕ) (numbers groups : List ℕ) : Type 0 where
  pub some : 0 < before
  pub numbers_long : n ≤ length numbers
  pub groups_long : n ≤ length groups
  pub rising : (i j : ℕ) → i < j → j < n → get_or numbers i 0 < get_or numbers j 0
  pub within : (i : ℕ) → i < n → get_or numbers i 0 < rows
  pub small : (i : ℕ) → i < n → before + get_or groups i 0 ≤ 65536

-- the ends changed as g changes each edge by its number, for any number of edges and whatever stands in the other block
pub record EndsMapped (g : ℕ → Edge → Edge) (ends ends' : List ℕ) : Type 0 where
  pub edges : (n : ℕ) (lengths : List Float) → n ≤ length ends / end_columns → edges_at n ends' lengths ≡ map_at_of g (edges_at n ends lengths)
