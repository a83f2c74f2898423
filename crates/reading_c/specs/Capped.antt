-- A number cut down to a limit. Only the contracts between the functions need this file. Definitions only.
use Rattle.std.specs.Prelude.{ℕ, ◌<◌, ◌≤◌, ◌≡◌, ◌⊎◌}

-- r is the smaller of n and most
abbrev pub Capped : ℕ → ℕ → ℕ → Type 0
Capped n most r = ((r ≡ n) × (n ≤ most)) ⊎ ((r ≡ most) × (most < n))
