-- The sides of a fan of triangles by signs, as tables hold them. Only contracts between workers need this file. Definitions only.
use Rattle.std.specs.Prelude.{ℕ, ◌/◌, ◌<◌, ◌≡◌, Bool, true, false, List, length, get_or, Float}
use Rattle.lists.specs.Lists.{pick, tab}
use Rattle.exact.specs.declared.Sign.{Sign}
use Rattle.exact.specs.declared.Sign.TheVariants.{Left, On, Right}
use Rattle.exact.specs.Exact.{kept_by_of, opposite}
use Rattle.exact.specs.Signs.{sign_in, sign_of_sum_of}
use Rattle.model.specs.Cut.{Blade, offset}
use Rattle.mesh.specs.Widths.{point_columns}
use Rattle.split_plan.specs.Opened.{place_in}
use Rattle.marks.specs.Sided.{row_of}

-- three corners, in the block of points
pub record TriangleIn (row : List ℕ) (lp : ℕ) : Type 0 where
  pub size : length row ≡ 3
  pub corners_in : (j : ℕ) → j < 3 → get_or row j 0 < lp / point_columns

-- on the line
abbrev pub on? : Sign → Bool
on? Left = false
on? On = true
on? Right = false

-- to which side the middle of a row of three corners lies, by the block of points
unfoldable pub sign_at : Blade → List Float → List ℕ → Sign
sign_at B points row = let o : ℕ → Float = λ c. offset B (place_in points (get_or row c 0)) in sign_of_sum_of (o 0) (o 1) (o 2)

-- the same of n rows of a table
unfoldable pub signs_in : Blade → List Float → ℕ → List ℕ → List Sign
signs_in B points n verts = tab n (λ i. sign_at B points (row_of 3 verts i))

-- the kept side: v's own, or that of the first row off the line
unfoldable pub kept_sign_in : Blade → List Float → ℕ → ℕ → List ℕ → Sign
kept_sign_in B points v n verts = kept_by_of (sign_in (offset B (place_in points v))) (signs_in B points n verts)

-- the side of a triangle by its sign, where the kept side is
abbrev pub side_of_sign_of : Sign → Sign → ℕ
side_of_sign_of kept s = pick (opposite kept s) 1 0
