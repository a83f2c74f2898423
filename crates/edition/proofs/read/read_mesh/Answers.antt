-- `edition::read::read_mesh` meets its contract. Assumes nothing.
use native.Mathlib.Omega.{arith}
use Rattle.edition.proofs.Meshes.{mesh_here, mesh_few, mesh_names}
use Rattle.edition.proofs.read.read_mesh.Goals as goal

-- `edition::read::read_mesh` meets its contract. Assumes nothing.
pub start_bit-at-requires : goal.start_bit-at-requires
start_bit-at-requires c = c.requires.typed.six

pub read_particles-requires : goal.read_particles-requires
read_particles-requires c =
    let q = c.requires in
    let f = mesh_few q in
    let e = c.start_bit-at.ensures in
    record { rows = record { room = omega arith; small = omega arith }; room = record { points = q.room.points; roots = q.room.roots } }

pub read_triangles-requires : goal.read_triangles-requires
read_triangles-requires c =
    let q = c.requires in
    let f = mesh_few q in
    let e = c.start_bit-at.ensures in
    record { rows = record { room = omega arith; small = omega arith }; names = (mesh_names q c.start_bit-at.result e).0; points = omega (arith, q.room.points, c.read_particles.auto.points); corners = q.room.corners; volumes = q.room.volumes }

pub read_edges-requires : goal.read_edges-requires
read_edges-requires c =
    let q = c.requires in
    let f = mesh_few q in
    let e = c.start_bit-at.ensures in
    record { rows = record { room = omega arith; small = omega arith }; names = (mesh_names q c.start_bit-at.result e).1; points = omega (arith, q.room.points, c.read_particles.auto.points); room = record { ends = q.room.ends; lengths = q.room.lengths } }

pub copy_sides-requires : goal.copy_sides-requires
copy_sides-requires c = let q = c.requires in (record { first = q.block; second = q.room.outline }, omega (arith, q.few))

pub shape_of-points : goal.shape_of-points
shape_of-points c = c.read_particles.auto.points

pub shape_of-roots : goal.shape_of-roots
shape_of-roots c = c.read_particles.auto.roots

pub shape_of-corners : goal.shape_of-corners
shape_of-corners c = c.read_triangles.auto.corners

pub shape_of-volumes : goal.shape_of-volumes
shape_of-volumes c = c.read_triangles.auto.volumes

pub shape_of-ends : goal.shape_of-ends
shape_of-ends c = c.read_edges.auto.ends

pub shape_of-lengths : goal.shape_of-lengths
shape_of-lengths c = c.read_edges.auto.lengths

pub shape_of-outline : goal.shape_of-outline
shape_of-outline c = c.copy_sides.auto.outline

pub returns : goal.returns
returns c =
    let a = c.args in
    let q = c.requires in
    mesh_here a.s.now q.typed a.c _ _ _ _ _ _ _ a.found.now c.start_bit-at.result c.start_bit-at.ensures q.particles q.triangles q.edges c.read_particles.ensures c.read_triangles.ensures c.read_edges.ensures c.copy_sides.ensures q.sides
