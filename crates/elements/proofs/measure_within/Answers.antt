-- `elements::measure_within` meets its contract: the listed are marked, and the marks asked. The laws are in proofs/Measures.antt.
use native.Mathlib.Omega.{arith}
use Rattle.elements.proofs.Measures.{measured_within}
use Rattle.elements.proofs.measure_within.Goals as goal

pub measure_marked-requires : goal.measure_marked-requires
measure_marked-requires c = let pre = c.requires in
    record { verts_long = pre.verts_long; measures_long = pre.measures_long; verts_below = λ j h. omega (arith, pre.verts_below j h, c.mark_listed.auto.marks) }

pub returns : goal.returns
returns c = let pre = c.requires in
    measured_within _ _ _ _ _ _ _ pre.verts_long (λ j h. omega (arith, pre.verts_below j h, c.mark_listed.auto.marks)) c.mark_listed.ensures c.measure_marked.ensures
