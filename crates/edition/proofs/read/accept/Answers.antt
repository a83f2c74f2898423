-- `edition::read::accept` meets its contract. Assumes nothing.
use native.Mathlib.Omega.{arith}
use mathlib.Core.Path.{refl, ◌∙◌}
use lib.ListN.{length}
use Rattle.sheet_rows.proofs.MeshReads.{filled_same, world_same}
use Rattle.edition.proofs.Meshes.{blade_here, blade_in}
use Rattle.edition.proofs.read.accept.Goals as goal

-- `edition::read::accept` meets its contract. Assumes nothing.
pub blade_bit-requires : goal.blade_bit-requires
blade_bit-requires c = c.requires.mesh.typed.six

pub read_blade-requires : goal.read_blade-requires
read_blade-requires c = record { rows = blade_in c.args.s.now c.blade_bit.result c.requires.mesh.typed c.blade_bit.ensures; room = c.requires.blade }

pub read_mesh-requires : goal.read_mesh-requires
read_mesh-requires c = c.requires.mesh

pub finish_all-requires : goal.finish_all-requires
finish_all-requires c =
    let q = c.requires.mesh.room in
    let m = c.read_mesh in
    record { points = omega (arith, c.requires.mesh.room.points, m.auto.points); roots = omega (arith, c.requires.mesh.room.roots, m.auto.roots); corners = omega (arith, c.requires.mesh.room.corners, m.auto.corners); volumes = omega (arith, c.requires.mesh.room.volumes, m.auto.volumes); ends = omega (arith, c.requires.mesh.room.ends, m.auto.ends); lengths = omega (arith, c.requires.mesh.room.lengths, m.auto.lengths); outline = omega (arith, c.requires.mesh.room.outline, m.auto.outline); log = omega arith }

pub shape_of-points : goal.shape_of-points
shape_of-points c = c.finish_all.auto.points ∙ c.read_mesh.auto.points

pub shape_of-roots : goal.shape_of-roots
shape_of-roots c = c.finish_all.auto.roots ∙ c.read_mesh.auto.roots

pub shape_of-corners : goal.shape_of-corners
shape_of-corners c = c.finish_all.auto.corners ∙ c.read_mesh.auto.corners

pub shape_of-volumes : goal.shape_of-volumes
shape_of-volumes c = c.finish_all.auto.volumes ∙ c.read_mesh.auto.volumes

pub shape_of-ends : goal.shape_of-ends
shape_of-ends c = c.finish_all.auto.ends ∙ c.read_mesh.auto.ends

pub shape_of-lengths : goal.shape_of-lengths
shape_of-lengths c = c.finish_all.auto.lengths ∙ c.read_mesh.auto.lengths

pub shape_of-outline : goal.shape_of-outline
shape_of-outline c = c.finish_all.auto.outline ∙ c.read_mesh.auto.outline

pub shape_of-log : goal.shape_of-log
shape_of-log c = c.finish_all.auto.log

pub shape_of-blade : goal.shape_of-blade
shape_of-blade c = c.read_blade.auto.blade

pub returns : goal.returns
returns c =
    let m = c.read_mesh in (
      filled_same _ _ _ _ _ _ _ _ (world_same _ _ _ _ _ _ _ _ _ _ refl m.ensures) (λ i. record { points = m.auto.points i; roots = m.auto.roots i; corners = m.auto.corners i; volumes = m.auto.volumes i; ends = m.auto.ends i; lengths = m.auto.lengths i; outline = m.auto.outline i; log = length c.args.log.now }) c.finish_all.ensures,
      blade_here c.args.s.now c.requires.mesh.typed _ _ _ c.blade_bit.ensures.is c.read_blade.ensures,
    )
