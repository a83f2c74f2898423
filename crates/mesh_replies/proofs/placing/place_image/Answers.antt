-- `mesh_replies::placing::place_image` meets its contract: each block of the image is read to its place. Assumes nothing.
use Rattle.mesh_replies.proofs.Places.{image_bytes, placed_mesh}
use native.Mathlib.Omega.{arith}
use Rattle.mesh_replies.proofs.placing.place_image.Goals as goal

-- `mesh_replies::placing::place_image` meets its contract: each block of the image is read to its place. Assumes nothing.
pub overflow_mul-triangles : goal.overflow_mul-triangles
overflow_mul-triangles c = let b = image_bytes _ _ c.requires.0 c.requires.1 in omega (arith, b.few_particles)

pub overflow_add-triangles : goal.overflow_add-triangles
overflow_add-triangles c = let b = image_bytes _ _ c.requires.0 c.requires.1 in omega (arith, b.few_particles)

pub overflow_mul-edges : goal.overflow_mul-edges
overflow_mul-edges c = let b = image_bytes _ _ c.requires.0 c.requires.1 in omega (arith, b.few_triangles)

pub overflow_add-edges : goal.overflow_add-edges
overflow_add-edges c = let b = image_bytes _ _ c.requires.0 c.requires.1 in omega (arith, b.few_particles, b.few_triangles)

pub place_numbers-requires : goal.place_numbers-requires
place_numbers-requires c = let b = image_bytes _ _ c.requires.0 c.requires.1 in (c.requires.2.points, omega arith, omega (arith, b.long))

pub overflow_mul-p : goal.overflow_mul-p
overflow_mul-p c = let b = image_bytes _ _ c.requires.0 c.requires.1 in omega (arith, b.few_particles)

pub overflow_add-p : goal.overflow_add-p
overflow_add-p c = let b = image_bytes _ _ c.requires.0 c.requires.1 in omega (arith, b.few_particles)

pub place_words-requires : goal.place_words-requires
place_words-requires c = let b = image_bytes _ _ c.requires.0 c.requires.1 in (c.requires.2.roots, omega arith, omega (arith, b.long))

pub place_words-requires-2 : goal.place_words-requires-2
place_words-requires-2 c = let b = image_bytes _ _ c.requires.0 c.requires.1 in (c.requires.2.corners, omega arith, omega (arith, b.long))

pub overflow_mul-t : goal.overflow_mul-t
overflow_mul-t c = let b = image_bytes _ _ c.requires.0 c.requires.1 in omega (arith, b.few_triangles)

pub overflow_add-triangles-2 : goal.overflow_add-triangles-2
overflow_add-triangles-2 c = let b = image_bytes _ _ c.requires.0 c.requires.1 in omega (arith, b.few_particles, b.few_triangles)

pub place_numbers-requires-2 : goal.place_numbers-requires-2
place_numbers-requires-2 c = let b = image_bytes _ _ c.requires.0 c.requires.1 in (c.requires.2.volumes, omega arith, omega (arith, b.long))

pub place_words-requires-3 : goal.place_words-requires-3
place_words-requires-3 c = let b = image_bytes _ _ c.requires.0 c.requires.1 in (c.requires.2.ends, omega arith, omega (arith, b.long))

pub overflow_mul-e : goal.overflow_mul-e
overflow_mul-e c = let b = image_bytes _ _ c.requires.0 c.requires.1 in omega (arith, b.few_edges)

pub overflow_add-edges-2 : goal.overflow_add-edges-2
overflow_add-edges-2 c = let b = image_bytes _ _ c.requires.0 c.requires.1 in omega (arith, b.few_particles, b.few_triangles, b.few_edges)

pub place_numbers-requires-3 : goal.place_numbers-requires-3
place_numbers-requires-3 c = let b = image_bytes _ _ c.requires.0 c.requires.1 in (c.requires.2.lengths, omega arith, omega (arith, b.long))

pub overflow_mul-e-2 : goal.overflow_mul-e-2
overflow_mul-e-2 c = let b = image_bytes _ _ c.requires.0 c.requires.1 in omega (arith, b.few_edges)

pub overflow_add-edges-3 : goal.overflow_add-edges-3
overflow_add-edges-3 c = let b = image_bytes _ _ c.requires.0 c.requires.1 in omega (arith, b.few_particles, b.few_triangles, b.few_edges)

pub place_words-requires-4 : goal.place_words-requires-4
place_words-requires-4 c = let b = image_bytes _ _ c.requires.0 c.requires.1 in (c.requires.2.outline, omega arith, omega (arith, b.long))

pub shape_of-points : goal.shape_of-points
shape_of-points c = c.place_numbers.auto.block

pub shape_of-roots : goal.shape_of-roots
shape_of-roots c = c.place_words.auto.block

pub shape_of-corners : goal.shape_of-corners
shape_of-corners c = c.place_words-2.auto.block

pub shape_of-volumes : goal.shape_of-volumes
shape_of-volumes c = c.place_numbers-2.auto.block

pub shape_of-ends : goal.shape_of-ends
shape_of-ends c = c.place_words-3.auto.block

pub shape_of-lengths : goal.shape_of-lengths
shape_of-lengths c = c.place_numbers-3.auto.block

pub shape_of-outline : goal.shape_of-outline
shape_of-outline c = c.place_words-4.auto.block

pub returns : goal.returns
returns c =
    placed_mesh _ _ _ _ _ _ _ _ _ _ _ _ _ _ _ _ c.requires.1
    (record {
      points = c.place_numbers.ensures;
      roots = c.place_words.ensures;
      corners = c.place_words-2.ensures;
      volumes = c.place_numbers-2.ensures;
      ends = c.place_words-3.ensures;
      lengths = c.place_numbers-3.ensures;
      outline = c.place_words-4.ensures;
      long_points = c.place_numbers.auto.block;
      long_roots = c.place_words.auto.block;
      long_corners = c.place_words-2.auto.block;
      long_volumes = c.place_numbers-2.auto.block;
      long_ends = c.place_words-3.auto.block;
      long_lengths = c.place_numbers-3.auto.block;
      long_outline = c.place_words-4.auto.block;
    })
