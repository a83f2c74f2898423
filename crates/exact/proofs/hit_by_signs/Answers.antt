-- `exact::hit_by_signs` meets its contract. Assumes nothing.
use Rattle.std.proofs.Common.{◌≡◌, Bool, true, false, not, sym, ap, ◌∙◌}
use borrow.Author.Tests.{not-true, not-false}
use lib.Ieee.{Float}
use Rattle.float.specs.Numbers.{minus, over}
use Rattle.blade.specs.declared.Point.{Point}
use Rattle.blade.specs.declared.Hit.TheVariants.{Miss, Hit as HitAt}
use Rattle.blade.specs.Points.{plus_of, minus_of, times_of}
use Rattle.blade.specs.Blade.{offset_of, clamp_low, clamp_high, hit_point}
use Rattle.exact.specs.Exact.{rounded_at}
use Rattle.exact.specs.Signs.{crosses_by_signs, hit_by_signs_of}
use Rattle.exact.proofs.Picks.{picked, passed}
use mathlib.Core.Path.{ap}
use mathlib.Core.Bool.{not}
use Rattle.exact.proofs.hit_by_signs.Goals as goal

-- each call's answer put in its place

module _ (b0 b1 p q : Point) (x : Bool) (x_is : x ≡ crosses_by_signs b0 b1 p q) where
  missed : not x ≡ true → Miss ≡ hit_by_signs_of b0 b1 p q
  unfolding hit_by_signs_of
  missed h = passed (crosses_by_signs b0 b1 p q) (rounded_at b0 b1 p q) Miss (sym x_is ∙ not-true x h)

  -- the fraction, and the hit point
  hit : not x ≡ false → (dp dq t : Float) (w k h : Point) → dp ≡ offset_of b0 b1 p → dq ≡ offset_of b0 b1 q → t ≡ clamp_high (clamp_low (over dp (minus dp dq)))
      → w ≡ minus_of q p → k ≡ times_of w t → h ≡ plus_of p k → HitAt t h ≡ hit_by_signs_of b0 b1 p q
  unfolding hit_by_signs_of
  hit n dp dq t w k h dp_is dq_is t_is w_is k_is h_is =
      let u = clamp_high (clamp_low (over (offset_of b0 b1 p) (minus (offset_of b0 b1 p) (offset_of b0 b1 q)))) in
      let t_u : t ≡ u
      = t_is ∙ ap (λ (z : Float). clamp_high (clamp_low (over z (minus z dq)))) dp_is ∙ ap (λ (z : Float). clamp_high (clamp_low (over (offset_of b0 b1 p) (minus (offset_of b0 b1 p) z)))) dq_is in
      let h_t : h ≡ hit_point p (minus_of q p) t = h_is ∙ ap (plus_of p) (k_is ∙ ap (λ (z : Point). times_of z t) w_is) in
      ap (HitAt t) h_t
      ∙ ap (λ (z : Float). HitAt z (hit_point p (minus_of q p) z)) t_u
      ∙ picked (crosses_by_signs b0 b1 p q) (rounded_at b0 b1 p q) Miss (sym x_is ∙ not-false x n)

pub returns-then-not-crossing : goal.returns-then-not-crossing
returns-then-not-crossing c =
    let a = c.args in
    missed a.b0 a.b1 a.p a.q c.crossing.result c.crossing.ensures (ap not c.if-not-crossing.true)

pub returns : goal.returns
returns c =
    let a = c.args in
    hit a.b0 a.b1 a.p a.q c.crossing.result c.crossing.ensures (ap not c.if-not-crossing.false)
    c.offset-dp.result c.offset.result c.clamp-t.result c.sub.result c.mul.result c.add.result
    c.offset-dp.ensures c.offset.ensures c.clamp-t.ensures c.sub.ensures c.mul.ensures c.add.ensures
