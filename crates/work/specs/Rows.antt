-- Rows appended to a list, where there is room for them. Only contracts between workers need this file. Definitions only.
use Rattle.std.specs.Prelude.{ℕ, ◌/◌, ◌≤◌, ◌≡◌, true, false, List, length, leb, Option, None, Some}
use Rattle.mesh.specs.Widths.{side_columns}

-- rows that grew from e to what the list l is, where `room` is enough for it
abbrev pub GrownTo : {A : Type 0} → Option ℕ → ℕ → List A → (ℕ → List A) → Type 0
GrownTo None room l rows = leb (length l) room ≡ false
GrownTo (Some r) room l rows = (leb (length l) room ≡ true) × (r ≡ length l) × (rows r ≡ l)

-- if there was room, there are m rows at least and no more than the room
abbrev pub Between : ℕ → ℕ → Option ℕ → Type 0
Between m room None = 0 ≤ m
Between m room (Some r) = (m ≤ r) × (r ≤ room)

-- what rows of an outline ask
pub record SideRoom (m room lo : ℕ) : Type 0 where
  pub rows : m ≤ room
  pub columns : room ≤ lo / side_columns
