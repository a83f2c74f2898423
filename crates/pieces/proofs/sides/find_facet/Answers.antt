-- `pieces::sides::find_facet` meets its contract. The invariant: the facet stands at no place from e on. Assumes nothing.
use borrow.Author.Rules.{rules}
use native.Mathlib.Omega.{arith}
use mathlib.Core.Path.{◌≡◌, sym, ◌∙◌, subst}
use Prim.Native.Nat.{ℕ, ◌+◌, ◌*◌, ◌-◌, ◌<◌}
use lib.ListN.{get_or}
use Rattle.pieces.specs.Sides.{LastIn, Sought}
use Rattle.pieces.proofs.FacetChains.{Seeking, seek_start, seek_pass, seek_found, seek_end}
use Rattle.pieces.proofs.sides.find_facet.Goals as goal

pub loop-e-init : goal.loop-e-init
loop-e-init c = λ S. seek_start S.f S.g S.t S.start

pub offset_bounds-lows-s : goal.offset_bounds-lows-s
offset_bounds-lows-s c = omega (arith, (c.loop-e.invariant c.requires).below, c.requires.lows_long)

pub bounds-lows-s : goal.bounds-lows-s
bounds-lows-s c = omega (arith, (c.loop-e.invariant c.requires).below, c.requires.lows_long)

pub returns-then-from-low : goal.returns-then-from-low
returns-then-from-low c = λ P.
    let L = c.loop-e in
    let l : 0 < L.e = search rules in
    let o : L.e - 1 < P.t = omega (arith, (L.invariant P).below) in
    let F = P.filed.low (L.e - 1) o in
    seek_found P.f P.g P.t (L.invariant P) l (sym F ∙ sym c.from.ensures ∙ c.if-from-low.true ∙ P.is_low)

pub offset_bounds-links-s : goal.offset_bounds-links-s
offset_bounds-links-s c = omega (arith, (c.loop-e.invariant c.requires).below, c.requires.links_long)

pub bounds-links-s : goal.bounds-links-s
bounds-links-s c = omega (arith, (c.loop-e.invariant c.requires).below, c.requires.links_long)

pub loop-e-smaller : goal.loop-e-smaller
loop-e-smaller c =
    let P = c.requires in
    let L = c.loop-e in
    let l : 0 < L.e = search rules in
    let o : L.e - 1 < P.t = omega (arith, (L.invariant P).below) in
    let F = P.filed.link (L.e - 1) o in
    omega (arith, c.from-e.ensures, F.below)

pub loop-e-preserved : goal.loop-e-preserved
loop-e-preserved c = λ P.
    let L = c.loop-e in
    let l : 0 < L.e = search rules in
    let o : L.e - 1 < P.t = omega (arith, (L.invariant P).below) in
    let F = P.filed.low (L.e - 1) o in
    let ne : P.f (L.e - 1) ≡ P.f P.t → ⊥ = λ q. c.if-from-low.false (c.from.ensures ∙ F ∙ q ∙ sym P.is_low) in
    seek_pass P.f P.g P.t (L.invariant P) l ne
    (subst (λ (x : ℕ). LastIn P.f P.g (3 * P.f (L.e - 1) + P.g (L.e - 1)) (L.e - 1) x) (sym c.from-e.ensures) (P.filed.link (L.e - 1) o))

pub returns : goal.returns
returns c = λ P.
    let L = c.loop-e in
    let z : L.e ≡ 0 = omega arith in
    seek_end P.f P.g P.t (L.invariant P) z
