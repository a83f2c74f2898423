-- What the workers of groups ask of a fan, and give. Only contracts between workers need this file. Definitions only.
use Rattle.std.specs.Prelude.{ℕ, ◌*◌, ◌/◌, ◌<◌, ◌≤◌, ◌≡◌, List, length, get_or, Float, Result}
use Rattle.lists.specs.Lists.{padded}
use Rattle.fan.specs.Fan.{Fan}
use Rattle.fan.specs.Groups.{groups_of, count_of}
use Rattle.reach.specs.Walk.{Lent}
use Rattle.model.specs.Reads.{groups_call}
use Rattle.mesh.specs.Given.{given, mesh_of, sizes_fit_of}
use Rattle.mesh.specs.Widths.{point_columns}
use Rattle.judge.specs.Checks.{fault_of}
use Rattle.mesh.specs.declared.refusals.Refusal.{Refusal}
use Rattle.readings.specs.Answers.{GroupsAnswered}

-- what is asked of a fan: few elements, k corners to each, and for each a side, 0 or 1
pub record FanAsked (verts : List ℕ) (k : ℕ) (sides : List ℕ) : Type 0 where
  pub few : length sides ≤ 2048
  pub whole : length verts ≡ length sides * k
  pub two : (i : ℕ) → i < length sides → get_or sides i 0 < 2

-- a lent table shows the groups of a fan, and 0 behind them; n is their count
pub record GroupsFilled (F : Fan) (lent : ℕ) (table : List ℕ) (n : ℕ) : Type 0 where
  pub table_is : table ≡ padded lent 0 (groups_of F)
  pub count_is : n ≡ count_of F

-- what is asked of a table of n elements for a walk from the groups of v's fan, whichever these are
pub record WalkAsked (n k v : ℕ) (verts : List ℕ) (size seen queue : ℕ) : Type 0 where
  pub asked : (groups : List ℕ) → length groups ≡ size → Lent n k v verts groups seen queue

-- the same with tables that have a place for each of the n elements, and so for each side
abbrev pub WalksIn : ℕ → ℕ → ℕ → List ℕ → ℕ → Type 0
WalksIn n k v verts size = (places : ℕ) → n ≤ places → (size ≤ places) × WalkAsked n k v verts size places places

-- a table of corners has room for a fan with an element for each side, if a mesh can have such a fan
abbrev pub Roomy : ℕ → ℕ → Type 0
Roomy sides verts = (k : ℕ) → k ≤ 3 → sides * k ≤ 4096 → sides * k ≤ verts

-- the answer of `groups` on any accepted mesh of p particles with these corners and ends, whatever stands in its other blocks
abbrev pub GroupsBy : ℕ → ℕ → List ℕ → List ℕ → List ℕ → ℕ → Result ℕ Refusal → List ℕ → Type 0
GroupsBy p v corners ends sides lent r table =
    (points : List Float) (roots : List ℕ) (volumes lengths : List Float) (outline : List ℕ) → length points / point_columns ≡ p
    → fault_of (given points roots corners volumes ends lengths outline) ≡ 0
    → GroupsAnswered (groups_call (sizes_fit_of (given points roots corners volumes ends lengths outline)) (mesh_of (given points roots corners volumes ends lengths outline)) v sides) lent r table
