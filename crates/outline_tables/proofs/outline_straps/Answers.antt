-- `outline::outline_straps` meets its contract. Assumes nothing.
use mathlib.Core.List.{[], ◌∷◌}
use lib.Dec.{eqb}
use Rattle.outline_tables.proofs.Adding.{strap_turn, strap_none, strap_end, one_most}
use native.Mathlib.Omega.{arith}
use mathlib.Core.Path.{refl, ◌∙◌}
use lib.ListN.{get_or}
use Rattle.outline_tables.proofs.outline_straps.Goals as goal

pub loop-i-init : goal.loop-i-init
loop-i-init c = let a = c.args in (omega arith, omega arith, refl, strap_none a.a.now a.b.now a.c.now a.outline.now)

pub loop-i-preserved : goal.loop-i-preserved
loop-i-preserved c = let l = c.loop-i in
    let a = c.args in
    let s = c.add_side-n in
    let t = eqb (get_or a.c.now l.i 0) 1 in
    let side = get_or a.a.now l.i 0 ∷ get_or a.b.now l.i 0 ∷ [] in (
      omega arith,
      omega (arith, s.ensures.count, one_most t side),
      s.auto.outline ∙ l.invariant.2,
      strap_turn a.a.now a.b.now a.c.now l.i a.outline.now l.outline _ l.n _ t refl l.invariant.2 l.invariant.3 s.ensures,
    )

pub shape_of-outline : goal.shape_of-outline
shape_of-outline c = c.loop-i.invariant.2

pub returns : goal.returns
returns c = let l = c.loop-i in
    let a = c.args in
    strap_end a.a.now a.b.now a.c.now a.outline.now l.outline l.i l.n (omega arith) l.invariant.2 l.invariant.3
