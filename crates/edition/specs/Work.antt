-- What the workers ask and promise. Only the contracts between workers need this file. Definitions only.
use Rattle.std.specs.Prelude.{ℕ, ◌+◌, ◌*◌, ◌/◌, ◌≤◌, ◌≡◌, true, false, List, length, Result, Ok, Err}
use Rattle.lists.specs.Lists.{pick}
use Rattle.bits.specs.Bits.{bits_of}
use Rattle.mesh.specs.Given.{Lent}
use Rattle.mesh.specs.Filled.{Fits}
use Rattle.mesh.specs.Limits.{boundary_limit}
use Rattle.outline_tables.specs.Rows.{sides_at}
use Rattle.outline_tables.specs.declared.Settled.{Settled}
use Rattle.sheet.specs.Sheet.{counts_at, sheet_with, end_of, too_many_of, names_ok}
use Rattle.sheet.specs.Read.{counts_for}
use Rattle.sheet.specs.Work.{Small, RowsIn}
use Rattle.sheet.specs.declared.Counts.{Counts}
use Rattle.edition.specs.Edition.{second, bits_in_of, typed_of, sheet_of, outline_in, replaced_in, bytes_in, spare_in, seen_of}
use Rattle.edition.specs.declared.Seen.{Seen}
use Rattle.mesh.specs.declared.refusals.Refusal.{Refusal}

-- the bytes hold all bits of a second-edition sheet with these counts
pub record Framed2 (s : List ℕ) (c : Counts) : Type 0 where
  pub counts : Small c
  pub none : c.boundary ≡ 0
  pub room : end_of c ≤ 8 * length s + 1

-- the bit that the lists of a sheet begin at
abbrev pub start_of : List ℕ → ℕ
start_of l = pick (second l) 45 46

-- a sheet that is whole before its outline is looked at, with typed counts c
pub record TypedIn (s : List ℕ) (c : Counts) : Type 0 where
  pub is : counts_at (bits_in_of (bits_of s)) ≡ c
  pub six : 6 ≤ length s
  pub few : too_many_of c ≡ false
  pub long : length s ≡ bytes_in (second (bits_of s)) c
  pub spare : spare_in c s ≡ 0
  pub names : names_ok (sheet_with c (bits_in_of (bits_of s))) ≡ true

-- n rows of names from bit `at` lie inside the bytes, with a blade behind them, and three columns have places for them
pub record NamesIn (s : List ℕ) (at step n la lb lc : ℕ) : Type 0 where
  pub rows : RowsIn s (at + 44) step n
  pub few : n ≤ 2048
  pub first : n ≤ la
  pub second : n ≤ lb
  pub third : n ≤ lc

-- such a sheet, whose lists begin at this bit
pub record StartIn (s : List ℕ) (c : Counts) (start : ℕ) : Type 0 where
  pub typed : TypedIn s c
  pub is : start ≡ start_of (bits_of s)

-- such a sheet of the first edition, and two blocks for any outline
pub record FirstIn (s : List ℕ) (c : Counts) (own o : ℕ) : Type 0 where
  pub typed : TypedIn s c
  pub first : second (bits_of s) ≡ false
  pub own_places : 6144 ≤ own
  pub places : 6144 ≤ o

-- such a sheet, and a block for any outline
pub record BlockIn (s : List ℕ) (c : Counts) (o : ℕ) : Type 0 where
  pub typed : TypedIn s c
  pub places : 6144 ≤ o

-- the outline that a sheet is read with stands at the front of a block
pub record OutlineFound (s o : List ℕ) (r : Settled) : Type 0 where
  pub sides : sides_at r.count o ≡ outline_in (second (bits_of s)) (typed_of (bits_of s))
  pub told : r.replaced ≡ replaced_in (second (bits_of s)) (typed_of (bits_of s))

-- where a sheet is whole, its outline stands at the front of a block
abbrev pub Outlined : Result Seen Refusal → List ℕ → List ℕ → Type 0
Outlined (Ok k) s o = sides_at k.counts.boundary o ≡ (sheet_of (bits_of s)).sheet.boundary
Outlined (Err n) s o = Unit {0}

-- the answer to a sheet, and its outline
pub record LookedAt (limits : Counts) (s o : List ℕ) (r : Result Seen Refusal) : Type 0 where
  pub answer : r ≡ seen_of limits s
  pub outlined : Outlined r s o

-- a sheet that is whole, its outline in a block, and blocks that have room for its mesh
pub record MeshIn (s : List ℕ) (c : Counts) (o : List ℕ) (L : Lent) : Type 0 where
  pub typed : TypedIn s (counts_at (bits_in_of (bits_of s)))
  pub particles : c.particles ≡ (counts_at (bits_in_of (bits_of s))).particles
  pub triangles : c.triangles ≡ (counts_at (bits_in_of (bits_of s))).triangles
  pub edges : c.edges ≡ (counts_at (bits_in_of (bits_of s))).edges
  pub few : c.boundary ≤ boundary_limit
  pub sides : sides_at c.boundary o ≡ (sheet_of (bits_of s)).sheet.boundary
  pub block : c.boundary ≤ length o / 2
  pub room : Fits (counts_for c) L

-- the bit that the blade of a sheet begins at
pub record BladeAt (l : List ℕ) (at : ℕ) : Type 0 where
  pub counts : Small (counts_at (bits_in_of l))
  pub is : at ≡ start_of l + (counts_at (bits_in_of l)).particles * 23 + (counts_at (bits_in_of l)).triangles * 30 + (counts_at (bits_in_of l)).edges * 21 + (counts_at (bits_in_of l)).boundary * 20

-- the same, and places for its blade
pub record Held (s : List ℕ) (c : Counts) (o : List ℕ) (L : Lent) (places : ℕ) : Type 0 where
  pub mesh : MeshIn s c o L
  pub blade : 4 ≤ places
