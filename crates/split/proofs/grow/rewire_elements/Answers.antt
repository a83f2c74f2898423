-- `split::grow::rewire_elements` meets its contract: by cases of the kind. Assumes nothing.
use Rattle.split.proofs.LinkLaws.{split_room, linked_rewired, straps_linked}
use Rattle.split.proofs.GrowLaws.{triangles_room, rewired_triangles_lem, rewired_straps_lem, rewired_none}
use Rattle.links.proofs.Parts.{edges_lent, triangles_lent, edges_back, triangles_back}
use Rattle.elements.specs.Table.{kind_is}
use lib.Seq.{length-take-le}
use mathlib.Core.Path.{refl, sym, ap, ◌∙◌}
use native.Mathlib.Omega.{arith}
use Prim.Native.Nat.{ℕ}
use borrow.Author.Rules.{rules}
use Rattle.split.proofs.grow.rewire_elements.Goals as goal

pub slice_bounds-rewire_linked-end-in-Triangles : goal.slice_bounds-rewire_linked-end-in-Triangles
slice_bounds-rewire_linked-end-in-Triangles c = sym (length-take-le 4096 c.args.links.now (omega (arith, c.requires.1.long)))

pub rewire_linked-requires : goal.rewire_linked-requires
rewire_linked-requires c = let P = c.requires in let e = ap kind_is c.in-Triangles.is in (triangles_room P.0 e, split_room (triangles_room P.0 e) (triangles_lent P.1) P.2 P.3 e)

pub rewire_straps-requires : goal.rewire_straps-requires
rewire_straps-requires c = let P = c.requires in straps_linked P.0 P.4 P.5 P.3 (edges_lent P.1) (ap kind_is c.in-Straps.is)

pub returns-in-Triangles : goal.returns-in-Triangles
returns-in-Triangles c = let P = c.requires in let R = c.rewire_linked in (rewired_triangles_lem (ap kind_is c.in-Triangles.is) R.ensures.0, triangles_back P.1 (R.auto.links ∙ length-take-le 4096 c.args.links.now (omega (arith, P.1.long))) (linked_rewired (triangles_lent P.1) R.auto.links R.ensures.1))

pub returns-in-Straps : goal.returns-in-Straps
returns-in-Straps c = let P = c.requires in let R = c.rewire_straps in (rewired_straps_lem (ap kind_is c.in-Straps.is) R.ensures.0, edges_back P.1 R.auto.table R.ensures.1)

pub returns-in-Nothing : goal.returns-in-Nothing
returns-in-Nothing c = (rewired_none (ap kind_is c.in-Nothing.is), (c.requires.1, refl))
