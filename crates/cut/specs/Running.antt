-- Marked particles split one after the other over the lent blocks: what the workers ask and give. Only contracts between workers need this file. Definitions only.
use Rattle.std.specs.Prelude.{ℕ, ◌<◌, ◌≤◌, ◌≡◌, Bool, false, not, List, [], map, get_or, take, eqb, Float}
use Rattle.lists.specs.Lists.{sift, up_to}
use Rattle.model.specs.Mesh.{Mesh}
use Rattle.model.specs.Elements.{Kind, Element, corners_per_of, fan_of}
use Rattle.model.specs.Run.{Run}
use Rattle.model.specs.Split.{opening_of, split_step, split_by_sides_of}
use Rattle.model.specs.Cut.{blade_sides, slackened, at_copy}
use Rattle.mesh.specs.declared.Counts.{Counts}
use Rattle.elements.specs.Table.{Cornered}
use Rattle.split_plan.specs.Opened.{CornersBelow}
use Rattle.marks.specs.Marking.{PlacesIn, blade_by, blade_from, marked?}
use Rattle.cut.specs.declared.facets.Parting.{Parting}
use Rattle.cut.specs.declared.facets.Parting.TheVariants.{Free, Blade as BladeFrom, Snapped}
use Rattle.work.specs.Working.{Logged}

-- the sides of v's fan: all 0, or by a blade and its rule; snapped ends are parted by rounded numbers
unfoldable pub sides_in : Parting → Kind → Mesh → ℕ → List ℕ
sides_in Free K M v = map (λ (e : Element). 0) (fan_of K M v)
sides_in (BladeFrom r b0 b1) K M v = blade_sides K (blade_by r b0 b1) M v
sides_in (Snapped b0 b1) K M v = blade_sides K (blade_from b0 b1) M v

-- v split by them
unfoldable pub split_by_of : Parting → Kind → Run → ℕ → Run
split_by_of w K R v = split_by_sides_of K v (sides_in w K R.mesh v) R

-- v split by a parting: by the sides of its fan, and behind the split of a snapped end the edges at its copies are slack
unfoldable pub split_in : Parting → Kind → Run → ℕ → Run
split_in Free K R v = split_by_of Free K R v
split_in (BladeFrom r b0 b1) K R v = split_by_of (BladeFrom r b0 b1) K R v
split_in (Snapped b0 b1) K R v = let O = opening_of K R.mesh v (sides_in (Snapped b0 b1) K R.mesh v) in split_step [] (slackened (at_copy O)) K O R

-- are edges made slack behind a split: of a snapped end, which made copies if there are more particles behind it
abbrev pub slackens? : Parting → ℕ → ℕ → Bool
slackens? Free before after = false
slackens? (BladeFrom r b0 b1) before after = false
slackens? (Snapped b0 b1) before after = not (eqb before after)

-- a log, and a particle that is there
pub record Splittable (v : ℕ) (k : Counts) (log : List ℕ) : Type 0 where
  pub logged : Logged k.log log
  pub here : v < k.particles

-- the sides of v's fan, in every mesh with these places whose fan stands in the table
pub record SidesFor (w : Parting) (K : Kind) (v n : ℕ) (verts : List ℕ) (points : List Float) (sides : List ℕ) : Type 0 where
  pub are : (M : Mesh) (p : ℕ) → Cornered (corners_per_of K) (fan_of K M v) n verts → PlacesIn M p points → v < p → CornersBelow p n (corners_per_of K) verts → take n sides ≡ sides_in w K M v
  pub two : (i : ℕ) → i < n → get_or sides i 0 < 2

-- the particles below p that are marked, rising
unfoldable pub chosen : ℕ → List ℕ → List ℕ
chosen p marks = sift (marked? marks) (up_to p)

-- a log; and the first p particles are there and have marks
pub record Chosen (p : ℕ) (k : Counts) (log : List ℕ) (lm : ℕ) : Type 0 where
  pub logged : Logged k.log log
  pub inside : p ≤ k.particles
  pub long : p ≤ lm
