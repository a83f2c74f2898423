-- `split::fans::group_fan` meets its contract: the groups of the front of the tables. Assumes nothing.
use Rattle.split.proofs.Fitted.{rows_small, rows_long, sides_room, groups_found}
use lib.Seq.{length-take-le}
use mathlib.Core.Path.{sym, ◌∙◌}
use native.Mathlib.Omega.{arith}
use Rattle.elements.specs.Table.{kind_is}
use borrow.Author.Rules.{rules}
use Rattle.split.proofs.fans.group_fan.Goals as goal

pub overflow_mul-end : goal.overflow_mul-end
overflow_mul-end c = omega (arith, rows_small (kind_is c.args.kind) c.args.n c.corners_per-k.result c.corners_per-k.ensures c.requires.few)

pub slice_bounds-groups_of-end : goal.slice_bounds-groups_of-end
slice_bounds-groups_of-end c = sym (length-take-le _ _ (rows_long _ _ _ _ c.corners_per-k.ensures c.requires.verts))

pub slice_bounds-groups_of-end-2 : goal.slice_bounds-groups_of-end-2
slice_bounds-groups_of-end-2 c = sym (length-take-le _ _ c.requires.long)

pub slice_bounds-groups_of-end-4 : goal.slice_bounds-groups_of-end-4
slice_bounds-groups_of-end-4 c = sym (length-take-le _ _ c.requires.groups)

pub groups_of-requires : goal.groups_of-requires
groups_of-requires c = sides_room (kind_is c.args.kind) _ _ _ _ _ c.corners_per-k.ensures c.requires

pub returns : goal.returns
returns c = let G = c.groups_of in
    groups_found (kind_is c.args.kind) _ _ _ _ _ _ _ _ _ c.corners_per-k.ensures c.facet_others-others.ensures (G.auto.groups ∙ length-take-le _ _ c.requires.groups) c.requires.long G.ensures
