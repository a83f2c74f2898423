-- What `crosses` means: the point where the edge meets the blade's line is on the blade, ends included. Definitions only.
use Rattle.std.specs.Prelude.{◌≡◌, ℕ, ◌+◌, ◌<◌, Bool, ◌&&◌, ℤ, pos, ◌+ℤ◌, ◌-ℤ◌, ◌*ℤ◌, int_le, int_lt}
use Rattle.lists.specs.Lists.{pick}
use Rattle.blade.specs.declared.Point.{Point}
use Rattle.exact.specs.Exact.{whole_of, side_by}

-- how far v lies along the blade from its start, times the blade's length: 0 at its start, `along_of b0 b1 b1` at its end
unfoldable pub along_of : Point → Point → Point → ℤ
along_of b0 b1 v =
    (whole_of b1.x -ℤ whole_of b0.x) *ℤ (whole_of v.x -ℤ whole_of b0.x) +ℤ (whole_of b1.y -ℤ whole_of b0.y) *ℤ (whole_of v.y -ℤ whole_of b0.y)

-- 0 ≤ n / m ≤ d, for an m other than 0: said times m, which turns the order round where m is below 0
unfoldable pub within : ℤ → ℤ → ℤ → Bool
within d n m = pick (int_lt (pos 0) m) (int_le (pos 0) n && int_le n (d *ℤ m)) (int_le n (pos 0) && int_le (d *ℤ m) n)

-- the hit point, p + (q - p) * dp / (dp - dq), lies between the blade's ends: along the blade it is (dp * Q - dq * P) / (dp - dq), where p is P and q is Q
unfoldable pub on_blade : Point → Point → Point → Point → Bool
on_blade b0 b1 p q =
    let dp = side_by b0 b1 p in
    let dq = side_by b0 b1 q in
    within (along_of b0 b1 b1) (dp *ℤ along_of b0 b1 q -ℤ dq *ℤ along_of b0 b1 p) (dp -ℤ dq)

-- the edge from p to q and the blade, ends included, have a point in common: (i p + j q) / (i + j), a point of the edge, is (k b0 + l b1) / (k + l), a point of the blade
pub record Shared (b0 b1 p q : Point) : Type 0 where
  pub i : ℕ
  pub j : ℕ
  pub k : ℕ
  pub l : ℕ
  pub some : 0 < i + j
  pub alike : i + j ≡ k + l
  pub x_same : pos i *ℤ whole_of p.x +ℤ pos j *ℤ whole_of q.x ≡ pos k *ℤ whole_of b0.x +ℤ pos l *ℤ whole_of b1.x
  pub y_same : pos i *ℤ whole_of p.y +ℤ pos j *ℤ whole_of q.y ≡ pos k *ℤ whole_of b0.y +ℤ pos l *ℤ whole_of b1.y
