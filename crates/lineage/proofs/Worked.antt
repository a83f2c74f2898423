-- A worked history: two triangles that hang together by one particle are split there, and the bound on particles is reached. Assumes nothing.
use mathlib.Core.Path.{◌≡◌, refl}
use mathlib.Core.Bool.{true, false}
use mathlib.Core.List.{[], ◌∷◌}
use lib.IntN.{pos, negsuc}
use Prim.Native.Nat.{ℕ}
use lib.Dec.{T, lit<, lit≤}
use lib.ListN.{length}
use lib.Ieee.{binary32, fin, neg, add, sub, mul, div, lt, le, eq, ne, of_int, fits}
use Rattle.lists.specs.Lists.{any, all, sift, sift_at, find, fold, each, pairs, map_at_of, tab, up_to, rising, distinct, disjoint}
use Rattle.lists.specs.Labels.{merged, join_pair, join_row, join_rows, labelled}
use Rattle.float.specs.Numbers.{half, abs_of, max_of, inv_of}
use Rattle.float.specs.Ranges.{finite?, number?, volume?, not_below0?}
use Rattle.blade.specs.declared.Point.{Point}
use Rattle.fan.specs.Groups.{labels_of, number_one, number_side, numbered, groups_of, count_of}
use Rattle.model.specs.Mesh.{Particle, Mesh, changed_to}
use Rattle.model.specs.Valid.{particle_ok, triangle_ok, edge_ok, numbers_fit_of, named, root_ok, corners_ok, ends_ok, side_ok, indices_fit_of}
use Rattle.model.specs.Elements.{sum, kind_by, kind_of, triangles_from, elements_of, held, fan_of, grid_of}
use Rattle.model.specs.Split.{parts_of, opening_of, splits?, made, weight_of, total_of, mass_of, portion, copied, group_at_of, rewired_triangles, rewired_straps, ring, edge_groups, stayed, doubled, other_edges, parted, straddles, side_group, followed, face_on, facets_at, crack_facets, at_longest, settled, split_entries, gone_entries, split_made, split_step, split_by_sides_of}
use Rattle.model.specs.Run.{split, start, step_to, splits_of, changed}
use Rattle.model.specs.Calls.{sides_ok, refusal, too_small, first_fault, done, outcome, split_call}
use Rattle.model.specs.Starred.{point, free, triangle, limits}
use Rattle.lineage.specs.History.{Particle32, Stored, Accepted, Begins, splitting, History, first, calling, in_use, most_particles}
use Rattle.lineage.proofs.Again.{accepted_always}

-- two triangles with particle 0 alone in common
abbrev pub joined : Mesh
joined =
    record {
      particles = free 0 (point (pos 0) (pos 0)) ∷ free 1 (point (pos 1) (pos 0)) ∷ free 2 (point (pos 1) (pos 1)) ∷ free 3 (point (negsuc 0) (pos 0)) ∷ free 4 (point (negsuc 0) (negsuc 0)) ∷ [];
      triangles = triangle 0 1 2 half ∷ triangle 0 3 4 half ∷ [];
      edges = [];
      boundary = [];
    }

-- particle 0 with half its mass
abbrev halved : Particle
halved = changed_to half (fin false 1 (pos 1)) 0 (free 0 (point (pos 0) (pos 0)))

-- the two apart, each with a particle of its own there
abbrev pub apart : Mesh
apart =
    record {
      particles = halved ∷ free 1 (point (pos 1) (pos 0)) ∷ free 2 (point (pos 1) (pos 1)) ∷ free 3 (point (negsuc 0) (pos 0)) ∷ free 4 (point (negsuc 0) (negsuc 0)) ∷ halved ∷ [];
      triangles = triangle 0 1 2 half ∷ triangle 5 3 4 half ∷ [];
      edges = [];
      boundary = [];
    }

joined_begins : Begins joined
unfolding numbers_fit_of indices_fit_of particle_ok triangle_ok named root_ok corners_ok number? finite? volume? abs_of le lt eq all up_to tab of_int fits
joined_begins = record { some = lit< tt; numbers = refl; indices = refl; roots = refl }

split_there : split_call true joined 0 (0 ∷ 0 ∷ []) limits ≡ done apart (split 5 0 ∷ []) true
unfolding neg add sub mul div lt le eq ne of_int any all sift sift_at find fold each pairs map_at_of tab up_to rising distinct disjoint merged join_pair join_row join_rows labelled abs_of max_of inv_of finite? number? volume? not_below0? labels_of number_one number_side numbered groups_of count_of particle_ok triangle_ok edge_ok numbers_fit_of named root_ok corners_ok ends_ok side_ok indices_fit_of sum kind_by kind_of triangles_from elements_of held fan_of grid_of parts_of opening_of splits? made weight_of total_of mass_of portion copied group_at_of rewired_triangles rewired_straps ring edge_groups stayed doubled other_edges parted straddles side_group followed face_on facets_at crack_facets at_longest settled split_entries gone_entries split_made split_step split_by_sides_of start step_to splits_of changed sides_ok refusal too_small first_fault outcome split_call
split_there = refl

-- a free particle whose coordinates f32 holds
free_32 : (n : ℕ) (p : Point) → T (fits binary32 p.x) → T (fits binary32 p.y) → Particle32 (free n p)
unfolding fits
free_32 n p x y = record { x = x; y = y; rest_x = x; rest_y = y; mass = tt; inv = tt; velocity_x = tt; velocity_y = tt }

joined_stored : Stored joined
unfolding fits of_int
joined_stored =
    record {
      particles = (free_32 0 _ tt tt, (free_32 1 _ tt tt, (free_32 2 _ tt tt, (free_32 3 _ tt tt, (free_32 4 _ tt tt, tt)))));
      triangles = (record { volume = tt; stress = tt }, (record { volume = tt; stress = tt }, tt));
      edges = tt;
    }

-- a history of one split
pub one_split : History joined apart (split 5 0 ∷ [])
one_split = calling limits (first joined_begins) (splitting 0 (0 ∷ 0 ∷ []) split_there)

-- after it there are as many particles as can be: 6, which is 5 and three for each of two triangles, less the 5 in use at first
pub bound_reached : length apart.particles ≡ most_particles joined
unfolding most_particles in_use rising up_to tab sift each
bound_reached = refl

-- and the mesh then is accepted
pub apart_accepted : Accepted apart
unfolding one_split
apart_accepted = accepted_always one_split (lit≤ tt) joined_stored
