-- `blade::hit_at` meets its contract. Assumes nothing.
use mathlib.Core.Path.{◌≡◌, sym, ap, ◌∙◌}
use mathlib.Core.Bool.{◌&&◌}
use lib.Ieee.{Float, le, of_bits}
use Rattle.blade.specs.declared.Point.{Point}
use Rattle.blade.specs.declared.Hit.TheVariants.{Miss, Hit as HitAt}
use Rattle.float.specs.Numbers.{zero32}
use Rattle.blade.specs.Points.{minus_of, dot_of}
use Rattle.blade.specs.Blade.{hit_point}
use Rattle.float.proofs.Picks.{yes, no, and_yes, and_no_1, and_no_2}
use Rattle.blade.proofs.hit_at.Goals as goal
use Rattle.blade.proofs.hit_at.Goals.{else-s-via-else-s, else-s-via-then-s+else-s-dot}

pub returns-then-s-dot : goal.returns-then-s-dot
unfolding of_bits
returns-then-s-dot c =
    let along : Float = let a = c.args in
    dot_of (minus_of (hit_point a.p a.w a.t) a.b0) a.d in
    let is_along : c.dot-s.result ≡ along = c.dot-s.ensures ∙ ap (λ (m : Point). dot_of m c.args.d) c.sub.ensures in
    let d = c.args.d in
    let t = c.args.t in
    let p = c.args.p in
    let w = c.args.w in
    let e = is_along in
    yes (le zero32 (along) && le (along) (dot_of d d)) (HitAt t (hit_point p w t)) Miss
    (and_yes (ap (λ (z : Float). le zero32 z) (sym e) ∙ c.if-s.true)
    (ap (λ (z : Float). le z (dot_of d d)) (sym e) ∙ ap (λ (z : Float). le c.dot-s.result z) (sym c.dot.ensures) ∙ c.if-s-dot.true))

pub returns : goal.returns
unfolding of_bits
returns c =
    let along : Float = let a = c.args in
    dot_of (minus_of (hit_point a.p a.w a.t) a.b0) a.d in
    let is_along : c.dot-s.result ≡ along = c.dot-s.ensures ∙ ap (λ (m : Point). dot_of m c.args.d) c.sub.ensures in
    let d = c.args.d in
    let t = c.args.t in
    let p = c.args.p in
    let w' = c.args.w in
    let e = is_along in
    no (le zero32 (along) && le (along) (dot_of d d)) (HitAt t (hit_point p w' t)) Miss
    (elim c.else-s.branch [
      | else-s-via-then-s+else-s-dot w ↦ and_no_2 (ap (λ (z : Float). le zero32 z) (sym e) ∙ w.if-s.true)
          (ap (λ (z : Float). le z (dot_of d d)) (sym e) ∙ ap (λ (z : Float). le c.dot-s.result z) (sym w.dot.ensures) ∙ w.if-s-dot.false)
      | else-s-via-else-s w ↦ and_no_1 (le (along) (dot_of d d)) (ap (λ (z : Float). le zero32 z) (sym e) ∙ w.if-s.false)
    ])
