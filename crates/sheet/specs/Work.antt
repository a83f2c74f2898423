-- Helper definitions and records that only contracts inside the crate and proofs need.
use Rattle.std.specs.Prelude.{ℕ, zero, suc, ◌+◌, ◌*◌, ◌^◌, ◌<◌, ◌≤◌, ◌≡◌, Bool, true, false, ◌&&◌, List, length}
use Rattle.bits.specs.Bits.{field_at}
use Rattle.sheet.specs.Sheet.{Columns, counts_at, end_of, row_ok, at_triangles, at_edges, at_boundary}
use Rattle.sheet.specs.declared.Counts.{Counts}

-- a row of names whose fields begin at bit `at`
abbrev pub row_at : Bool → ℕ → List ℕ → ℕ → Bool
row_at three p l at = row_ok three p (field_at l at 10) (field_at l (at + 10) 10) (field_at l (at + 20) 10)

-- n such rows, each `step` bits after the one before
unfoldable pub ok_at_of : Bool → ℕ → List ℕ → ℕ → ℕ → ℕ → Bool
ok_at_of three p l at step zero = true
ok_at_of three p l at step (suc n) = row_at three p l at && ok_at_of three p l (at + step) step n

-- every element, by the places of its fields
abbrev pub names_at : Counts → List ℕ → Bool
names_at c l = ok_at_of true c.particles l (at_triangles c) 30 c.triangles
    && (ok_at_of false c.particles l (at_edges c) 21 c.edges && ok_at_of false c.particles l (at_boundary c) 20 c.boundary)

-- counts that fields of 12 bits hold
pub record Small (c : Counts) : Type 0 where
  pub particles : c.particles < 4096
  pub triangles : c.triangles < 4096
  pub edges : c.edges < 4096
  pub boundary : c.boundary < 4096

-- the counts read from bits
pub record CountsRead (l : List ℕ) (c : Counts) : Type 0 where
  pub is : c ≡ counts_at l
  pub small : Small c

-- n rows of `step` bits from bit `at` lie inside the bytes
pub record RowsIn (s : List ℕ) (at step n : ℕ) : Type 0 where
  pub room : at + n * step ≤ 8 * length s
  pub small : at + n * step < 2 ^ 32

-- the bytes hold all bits of a sheet with these counts
pub record Framed (s : List ℕ) (c : Counts) : Type 0 where
  pub counts : Small c
  pub room : end_of c ≤ 8 * length s

-- columns of one list have one length, and the blade four numbers
pub record Even (k : Columns) : Type 0 where
  pub y : length k.y ≡ length k.x
  pub pinned : length k.pinned ≡ length k.x
  pub t1 : length k.t1 ≡ length k.t0
  pub t2 : length k.t2 ≡ length k.t0
  pub e1 : length k.e1 ≡ length k.e0
  pub structural : length k.structural ≡ length k.e0
  pub b1 : length k.b1 ≡ length k.b0
  pub blade : length k.blade ≡ 4
