-- `sheet_rows::refuse` meets its contract. Assumes nothing.
use native.Mathlib.Omega.{arith}
use mathlib.Core.Path.{◌≡◌, refl, ◌∙◌}
use Rattle.sheet_rows.proofs.MeshReads.{filled_same, empty_world}
use borrow.Author.Rules.{rules}
use Rattle.sheet_rows.proofs.refuse.Goals as goal

pub finish_all-requires : goal.finish_all-requires
finish_all-requires c = record { points = omega arith; roots = omega arith; corners = omega arith; volumes = omega arith; ends = omega arith; lengths = omega arith; outline = omega arith; log = omega arith }

pub shape_of-points : goal.shape_of-points
shape_of-points c = c.finish_all.auto.points

pub shape_of-roots : goal.shape_of-roots
shape_of-roots c = c.finish_all.auto.roots

pub shape_of-corners : goal.shape_of-corners
shape_of-corners c = c.finish_all.auto.corners

pub shape_of-volumes : goal.shape_of-volumes
shape_of-volumes c = c.finish_all.auto.volumes

pub shape_of-ends : goal.shape_of-ends
shape_of-ends c = c.finish_all.auto.ends

pub shape_of-lengths : goal.shape_of-lengths
shape_of-lengths c = c.finish_all.auto.lengths

pub shape_of-outline : goal.shape_of-outline
shape_of-outline c = c.finish_all.auto.outline

pub shape_of-log : goal.shape_of-log
shape_of-log c = c.finish_all.auto.log

pub shape_of-blade : goal.shape_of-blade
shape_of-blade c = c.clear.auto.s

pub returns : goal.returns
returns c = (filled_same _ _ _ _ _ _ _ _ (empty_world _ _ _ _ _ _ _ _) refl c.finish_all.ensures, c.clear.ensures)
