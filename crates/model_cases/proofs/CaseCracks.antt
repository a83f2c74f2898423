-- Cracks: the published Rust's answers, computed. Made by oracle/cases.py of oracle/cases.txt, which the oracle wrote from the published Rust.
-- Assumes nothing.
use mathlib.Core.Path.{◌≡◌, refl}
use mathlib.Core.Bool.{true, false}
use mathlib.Core.List.{List, [], ◌∷◌, map}
use lib.Ieee.{is_nan, neg, add, sub, mul, div, lt, le, eq, ne, of_int, of_bits}
use Rattle.blade.specs.declared.Hit.TheVariants.{Miss, Hit as HitAt}
use Rattle.model.specs.Mesh.{Mesh}
use Rattle.model.specs.Pieces.{default_min_piece}
use Rattle.model.specs.Run.{split, edge as removed, insert, opened, met}
use Rattle.model.specs.Calls.{refused, done}
use Rattle.model.specs.Reads.{refused as denied, value}
use Rattle.model.specs.Starred.{Case, meshes, groups, flag, number, float, hit}
use Rattle.model.proofs.Asked.{bits, point, blade, rooms, mesh, particle, triangle, edge, side}
use Rattle.lists.specs.Lists.{same_row_of, any, all, sift, sift_at, find, fold, each, pairs, map_at_of, tab, up_to, rising, distinct, disjoint, padded, keep, kept_of, nth}
use Rattle.lists.specs.Labels.{merged, join_pair, join_row, join_rows, labelled}
use Rattle.float.specs.Numbers.{abs_of, max_of, inv_of}
use Rattle.float.specs.Ranges.{finite?, number?, volume?, not_below0?}
use Rattle.float.specs.Root.{floor_root, root_units}
use Rattle.float.specs.Order.{sign_of}
use Rattle.blade.specs.Points.{sum_of, centroid_of, lerp_of, length_of}
use Rattle.blade.specs.Blade.{blade_hit_of}
use Rattle.fan.specs.Groups.{labels_of, number_one, number_side, numbered, groups_of, count_of}
use Rattle.model.specs.Valid.{particle_ok, triangle_ok, edge_ok, numbers_fit_of, named, root_ok, corners_ok, ends_ok, side_ok, indices_fit_of}
use Rattle.model.specs.Elements.{place_of, rest_of, besides, sum, kind_by, kind_of, triangles_from, straps_from, elements_of, held, rest_measure, the_rest_measure_of, fan_of, grid_of}
use Rattle.model.specs.Split.{parts_of, opening_of, splits?, made, weight_of, total_of, mass_of, portion, copied, group_at_of, rewired_triangles, rewired_straps, ring, score_of, scored, toward, edge_groups, stayed, doubled, other_edges, parted, straddles, side_group, followed, face_on, facets_at, crack_facets, at_longest, settled, split_entries, gone_entries, split_made, split_step, split_by_sides_of}
use Rattle.model.specs.Pieces.{shared_of, piece_labels, piece_count, pieces, body_labels, bodies, body_of, spans, across?, without_straddlers, straddlers_gone, remove_straddlers_of, reach_labels, labels_at, members_of, reach_of, opens_without_confetti_of}
use Rattle.model.specs.Cut.{meets, left_of, kept_side, blade_sides, split_by_blade, split_ends, near_corners, pinched, split_free, split_pinched_of, candidates, cut_facets_of, crossings, near_end, straps_at, strap_share, insertion_of, wanted?, insertable, side_along, bends, numbers_of, bends_over, lightened, between, inserted_particles, half_of, inserted_edges, shortened, appended, inserted_sides, inserted_mesh, insert_step, inserted_at, snapped_at, crossed, unbent, slackened, split_snapped_of, after_crossings, cut_segments_of, marks_of, marked_by, cut_along, cut}
use Rattle.model.specs.Crack.{largest_stress, stress_between, triangle_load, loads_of, family, cross_pairs, current_of, current_pair, beyond, far_side, mean_load, two_sided_of, way_at, ways_of, damaged_at, torn, crack_by, crack_pair, crack_edge, torn_ends, crack}
use Rattle.model.specs.Run.{start, step_to, splits_of, changed}
use Rattle.model.specs.Calls.{sides_ok, strictly, particles_ok, refusal, too_small, first_fault, outcome, cut_call, crack_call, split_call, straddlers_call}
use Rattle.model.specs.Reads.{blade_call, groups_call, rest_measure_call, rest_measure_of_call, opens_call, pieces_call, state_call}

abbrev in601 : Mesh
in601 =
    mesh
    (particle 0x00000000 0x00000000 0x00000000 0x00000000 0x3f800000 0x3f800000 0 0 ∷ particle 0x3f800000 0x00000000 0x3f800000 0x00000000 0x3f800000 0x3f800000 1 0 ∷ particle 0x40000000 0x00000000 0x40000000 0x00000000 0x3f800000 0x3f800000 2 0 ∷ particle 0x40400000 0x00000000 0x40400000 0x00000000 0x3f800000 0x3f800000 3 0 ∷ [])
    []
    (edge 0 1 1 0 0x3f800000 0x3f800000 0x00000000 0x00000000 ∷ edge 1 2 1 0 0x3f800000 0x3f800000 0x00000000 0x00000000 ∷ edge 2 3 1 0 0x3f800000 0x3f800000 0x00000000 0x00000000 ∷ [])
    []

abbrev out601 : Mesh
out601 =
    mesh
    (particle 0x00000000 0x00000000 0x00000000 0x00000000 0x3f800000 0x3f800000 0 0 ∷ particle 0x3f800000 0x00000000 0x3f800000 0x00000000 0x3f000000 0x40000000 1 1 ∷ particle 0x40000000 0x00000000 0x40000000 0x00000000 0x3f800000 0x3f800000 2 1 ∷ particle 0x40400000 0x00000000 0x40400000 0x00000000 0x3f800000 0x3f800000 3 0 ∷ particle 0x3f800000 0x00000000 0x3f800000 0x00000000 0x3f000000 0x40000000 1 1 ∷ [])
    []
    (edge 0 1 1 0 0x3f800000 0x3f800000 0x00000000 0x00000000 ∷ edge 4 2 1 0 0x3f800000 0x3f800000 0x00000000 0x00000000 ∷ edge 2 3 1 0 0x3f800000 0x3f800000 0x00000000 0x00000000 ∷ [])
    []

-- the middle of a rope, minimum 1
abbrev case601 : Case
case601 = record { asked = meshes (crack_call true in601 (1 ∷ []) 1 (rooms 1024 1024 2048 2048 4096)); wanted = meshes (done out601 (split 4 1 ∷ opened 1 2 ∷ []) true) }

abbrev out602 : Mesh
out602 =
    mesh
    (particle 0x00000000 0x00000000 0x00000000 0x00000000 0x3f800000 0x3f800000 0 0 ∷ particle 0x3f800000 0x00000000 0x3f800000 0x00000000 0x3f000000 0x40000000 1 1 ∷ particle 0x40000000 0x00000000 0x40000000 0x00000000 0x3f000000 0x40000000 2 1 ∷ particle 0x40400000 0x00000000 0x40400000 0x00000000 0x3f800000 0x3f800000 3 0 ∷ particle 0x3f800000 0x00000000 0x3f800000 0x00000000 0x3f000000 0x40000000 1 1 ∷ particle 0x40000000 0x00000000 0x40000000 0x00000000 0x3f000000 0x40000000 2 1 ∷ [])
    []
    (edge 0 1 1 0 0x3f800000 0x3f800000 0x00000000 0x00000000 ∷ edge 4 5 1 0 0x3f800000 0x3f800000 0x00000000 0x00000000 ∷ edge 2 3 1 0 0x3f800000 0x3f800000 0x00000000 0x00000000 ∷ [])
    []

-- twice the same edge, minimum 0 counts as 1
abbrev case602 : Case
case602 = record { asked = meshes (crack_call true in601 (1 ∷ 1 ∷ []) 0 (rooms 1024 1024 2048 2048 4096)); wanted = meshes (done out602 (split 4 1 ∷ opened 1 2 ∷ split 5 2 ∷ opened 1 2 ∷ []) true) }

abbrev out603 : Mesh
out603 =
    mesh
    (particle 0x00000000 0x00000000 0x00000000 0x00000000 0x3f800000 0x3f800000 0 1 ∷ particle 0x3f800000 0x00000000 0x3f800000 0x00000000 0x3f000000 0x40000000 1 1 ∷ particle 0x40000000 0x00000000 0x40000000 0x00000000 0x3f800000 0x3f800000 2 0 ∷ particle 0x40400000 0x00000000 0x40400000 0x00000000 0x3f800000 0x3f800000 3 0 ∷ particle 0x3f800000 0x00000000 0x3f800000 0x00000000 0x3f000000 0x40000000 1 1 ∷ [])
    []
    (edge 0 4 1 0 0x3f800000 0x3f800000 0x00000000 0x00000000 ∷ edge 1 2 1 0 0x3f800000 0x3f800000 0x00000000 0x00000000 ∷ edge 2 3 1 0 0x3f800000 0x3f800000 0x00000000 0x00000000 ∷ [])
    []

-- a number past the end is skipped
abbrev case603 : Case
case603 = record { asked = meshes (crack_call true in601 (0 ∷ 9 ∷ []) 1 (rooms 1024 1024 2048 2048 4096)); wanted = meshes (done out603 (split 4 1 ∷ opened 0 1 ∷ []) true) }

abbrev out604 : Mesh
out604 =
    mesh
    (particle 0x00000000 0x00000000 0x00000000 0x00000000 0x3f800000 0x3f800000 0 0 ∷ particle 0x3f800000 0x00000000 0x3f800000 0x00000000 0x3f800000 0x3f800000 1 0 ∷ particle 0x40000000 0x00000000 0x40000000 0x00000000 0x3f800000 0x3f800000 2 0 ∷ particle 0x40400000 0x00000000 0x40400000 0x00000000 0x3f800000 0x3f800000 3 0 ∷ [])
    []
    (edge 0 1 1 0 0x3f800000 0x3f800000 0x00000000 0x00000000 ∷ edge 1 2 1 0 0x3f800000 0x3f800000 0x00000000 0x00000000 ∷ edge 2 3 1 0 0x3f800000 0x3f800000 0x00000000 0x00000000 ∷ [])
    []

-- nothing reaches the default minimum
abbrev case604 : Case
case604 = record { asked = meshes (crack_call true in601 (1 ∷ []) default_min_piece (rooms 1024 1024 2048 2048 4096)); wanted = meshes (done out604 [] false) }

abbrev out605 : Mesh
out605 =
    mesh
    (particle 0x00000000 0x00000000 0x00000000 0x00000000 0x3f800000 0x3f800000 0 0 ∷ particle 0x3f800000 0x00000000 0x3f800000 0x00000000 0x3f800000 0x3f800000 1 0 ∷ particle 0x40000000 0x00000000 0x40000000 0x00000000 0x3f800000 0x3f800000 2 0 ∷ particle 0x40400000 0x00000000 0x40400000 0x00000000 0x3f800000 0x3f800000 3 0 ∷ [])
    []
    (edge 0 1 1 0 0x3f800000 0x3f800000 0x00000000 0x00000000 ∷ edge 1 2 1 0 0x3f800000 0x3f800000 0x00000000 0x00000000 ∷ edge 2 3 1 0 0x3f800000 0x3f800000 0x00000000 0x00000000 ∷ [])
    []

-- no torn edge
abbrev case605 : Case
case605 = record { asked = meshes (crack_call true in601 [] 1 (rooms 1024 1024 2048 2048 4096)); wanted = meshes (done out605 [] false) }

abbrev in606 : Mesh
in606 =
    mesh
    (particle 0x00000000 0x00000000 0x00000000 0x00000000 0x3f800000 0x3f800000 0 0 ∷ particle 0x40800000 0x00000000 0x40800000 0x00000000 0x3f800000 0x3f800000 1 0 ∷ particle 0x41000000 0x00000000 0x41000000 0x00000000 0x3f800000 0x3f800000 2 0 ∷ particle 0x41400000 0x00000000 0x41400000 0x00000000 0x3f800000 0x3f800000 3 0 ∷ [])
    []
    (edge 0 1 1 1 0x40800000 0x40800000 0x3f800000 0x40000000 ∷ edge 1 2 1 1 0x40800000 0x40800000 0x3f800000 0x40400000 ∷ edge 2 3 1 1 0x40800000 0x40800000 0x3f800000 0x40800000 ∷ edge 0 2 0 1 0x41000000 0x41000000 0x3f800000 0x40a00000 ∷ edge 3 1 0 1 0x41000000 0x41000000 0x3f800000 0x40c00000 ∷ edge 0 3 0 1 0x41400000 0x41400000 0x3f800000 0x40e00000 ∷ [])
    (side 1 0 ∷ side 1 2 ∷ side 2 1 ∷ [])

abbrev out606 : Mesh
out606 =
    mesh
    (particle 0x00000000 0x00000000 0x00000000 0x00000000 0x3f800000 0x3f800000 0 0 ∷ particle 0x40800000 0x00000000 0x40800000 0x00000000 0x3f000000 0x40000000 1 1 ∷ particle 0x41000000 0x00000000 0x41000000 0x00000000 0x3f800000 0x3f800000 2 1 ∷ particle 0x41400000 0x00000000 0x41400000 0x00000000 0x3f800000 0x3f800000 3 0 ∷ particle 0x40800000 0x00000000 0x40800000 0x00000000 0x3f000000 0x40000000 1 1 ∷ [])
    []
    (edge 0 1 1 1 0x40800000 0x40800000 0x3f800000 0x40000000 ∷ edge 4 2 1 1 0x40800000 0x40800000 0x00000000 0x00000000 ∷ edge 2 3 1 1 0x40800000 0x40800000 0x3f800000 0x40800000 ∷ edge 3 4 0 1 0x41000000 0x41000000 0x3f800000 0x40c00000 ∷ [])
    (side 1 0 ∷ side 4 2 ∷ side 2 4 ∷ [])

-- structural and bend edges
abbrev case606 : Case
case606 = record { asked = meshes (crack_call true in606 (1 ∷ 3 ∷ 0 ∷ []) 1 (rooms 1024 1024 2048 2048 4096)); wanted = meshes (done out606 (split 4 1 ∷ removed 0 2 ∷ opened 1 2 ∷ removed 0 3 ∷ []) true) }

abbrev in607 : Mesh
in607 =
    mesh
    (particle 0x00000000 0x00000000 0x00000000 0x00000000 0x3f800000 0x3f800000 0 0 ∷ particle 0x3f800000 0x00000000 0x3f800000 0x00000000 0x3f800000 0x3f800000 1 0 ∷ particle 0x40000000 0x00000000 0x40000000 0x00000000 0x3f800000 0x3f800000 2 0 ∷ particle 0x40400000 0x00000000 0x40400000 0x00000000 0x3f800000 0x3f800000 3 0 ∷ particle 0x40800000 0x00000000 0x40800000 0x00000000 0x3f800000 0x3f800000 4 0 ∷ particle 0x40a00000 0x00000000 0x40a00000 0x00000000 0x3f800000 0x3f800000 5 0 ∷ particle 0x40c00000 0x00000000 0x40c00000 0x00000000 0x3f800000 0x3f800000 6 0 ∷ [])
    []
    (edge 0 1 1 0 0x3f800000 0x3f800000 0x00000000 0x00000000 ∷ edge 1 2 1 0 0x3f800000 0x3f800000 0x00000000 0x00000000 ∷ edge 2 3 1 0 0x3f800000 0x3f800000 0x00000000 0x00000000 ∷ edge 3 4 1 0 0x3f800000 0x3f800000 0x00000000 0x3f800000 ∷ edge 4 5 1 0 0x3f800000 0x3f800000 0x00000000 0x00000000 ∷ edge 5 6 1 0 0x3f800000 0x3f800000 0x00000000 0x00000000 ∷ edge 1 3 0 0 0x40000000 0x40000000 0x00000000 0x00000000 ∷ edge 2 4 0 0 0x40000000 0x40000000 0x00000000 0x00000000 ∷ [])
    []

abbrev out607 : Mesh
out607 =
    mesh
    (particle 0x00000000 0x00000000 0x00000000 0x00000000 0x3f800000 0x3f800000 0 0 ∷ particle 0x3f800000 0x00000000 0x3f800000 0x00000000 0x3f800000 0x3f800000 1 0 ∷ particle 0x40000000 0x00000000 0x40000000 0x00000000 0x3f800000 0x3f800000 2 1 ∷ particle 0x40400000 0x00000000 0x40400000 0x00000000 0x3f000000 0x40000000 3 1 ∷ particle 0x40800000 0x00000000 0x40800000 0x00000000 0x3f800000 0x3f800000 4 0 ∷ particle 0x40a00000 0x00000000 0x40a00000 0x00000000 0x3f800000 0x3f800000 5 0 ∷ particle 0x40c00000 0x00000000 0x40c00000 0x00000000 0x3f800000 0x3f800000 6 0 ∷ particle 0x40400000 0x00000000 0x40400000 0x00000000 0x3f000000 0x40000000 3 1 ∷ [])
    []
    (edge 0 1 1 0 0x3f800000 0x3f800000 0x00000000 0x00000000 ∷ edge 1 2 1 0 0x3f800000 0x3f800000 0x00000000 0x00000000 ∷ edge 2 7 1 0 0x3f800000 0x3f800000 0x00000000 0x00000000 ∷ edge 3 4 1 0 0x3f800000 0x3f800000 0x00000000 0x3f800000 ∷ edge 4 5 1 0 0x3f800000 0x3f800000 0x00000000 0x00000000 ∷ edge 5 6 1 0 0x3f800000 0x3f800000 0x00000000 0x00000000 ∷ edge 1 7 0 0 0x40000000 0x40000000 0x00000000 0x00000000 ∷ [])
    []

-- a long rope, the default minimum
abbrev case607 : Case
case607 = record { asked = meshes (crack_call true in607 (2 ∷ 3 ∷ 7 ∷ []) default_min_piece (rooms 1024 1024 2048 2048 4096)); wanted = meshes (done out607 (split 7 3 ∷ removed 2 4 ∷ opened 2 3 ∷ []) true) }

abbrev in608 : Mesh
in608 =
    mesh
    (particle 0x00000000 0x00000000 0x00000000 0x00000000 0x3f800000 0x3f800000 0 0 ∷ particle 0x3f800000 0x00000000 0x3f800000 0x00000000 0x3f800000 0x3f800000 1 0 ∷ particle 0xbf800000 0x00000000 0xbf800000 0x00000000 0x3f800000 0x3f800000 2 0 ∷ particle 0x40000000 0x00000000 0x40000000 0x00000000 0x3f800000 0x3f800000 3 0 ∷ particle 0xbf800000 0x3f800000 0xbf800000 0x3f800000 0x3f800000 0x3f800000 4 0 ∷ [])
    []
    (edge 0 1 1 0 0x3f800000 0x3f800000 0x00000000 0x80000001 ∷ edge 0 2 1 0 0x3f800000 0x3f800000 0x00000000 0x00000000 ∷ edge 1 3 1 0 0x3f800000 0x3f800000 0x00000000 0x00000000 ∷ edge 0 3 1 0 0x3f800000 0x3f800000 0x00000000 0x00000000 ∷ edge 1 2 1 0 0x3f800000 0x3f800000 0x00000000 0x00000001 ∷ [])
    []

abbrev out608 : Mesh
out608 =
    mesh
    (particle 0x00000000 0x00000000 0x00000000 0x00000000 0x3f800000 0x3f800000 0 1 ∷ particle 0x3f800000 0x00000000 0x3f800000 0x00000000 0x3eaaaaab 0x40400000 1 1 ∷ particle 0xbf800000 0x00000000 0xbf800000 0x00000000 0x3f800000 0x3f800000 2 0 ∷ particle 0x40000000 0x00000000 0x40000000 0x00000000 0x3f800000 0x3f800000 3 0 ∷ particle 0xbf800000 0x3f800000 0xbf800000 0x3f800000 0x3f800000 0x3f800000 4 0 ∷ particle 0x3f800000 0x00000000 0x3f800000 0x00000000 0x3f2aaaab 0x3fc00000 1 1 ∷ [])
    []
    (edge 0 5 1 0 0x3f800000 0x3f800000 0x00000000 0x00000000 ∷ edge 0 2 1 0 0x3f800000 0x3f800000 0x00000000 0x00000000 ∷ edge 1 3 1 0 0x3f800000 0x3f800000 0x00000000 0x00000000 ∷ edge 0 3 1 0 0x3f800000 0x3f800000 0x00000000 0x00000000 ∷ edge 5 2 1 0 0x3f800000 0x3f800000 0x00000000 0x00000001 ∷ [])
    []

-- a mean of minus zero comes behind plus zero
abbrev case608 : Case
case608 = record { asked = meshes (crack_call true in608 (0 ∷ []) 1 (rooms 1024 1024 2048 2048 4096)); wanted = meshes (done out608 (split 5 1 ∷ opened 0 1 ∷ []) true) }

abbrev in609 : Mesh
in609 =
    mesh
    (particle 0x00000000 0x00000000 0x00000000 0x00000000 0x3f800000 0x3f800000 0 0 ∷ particle 0x3f800000 0x00000000 0x3f800000 0x00000000 0x3f800000 0x00000000 1 0 ∷ particle 0x40000000 0x00000000 0x40000000 0x00000000 0x3f800000 0x00000000 2 0 ∷ particle 0x40400000 0x00000000 0x40400000 0x00000000 0x3f800000 0x3f800000 3 0 ∷ [])
    []
    (edge 0 1 1 0 0x3f800000 0x3f800000 0x00000000 0x00000000 ∷ edge 1 2 1 0 0x3f800000 0x3f800000 0x00000000 0x00000000 ∷ edge 2 3 1 0 0x3f800000 0x3f800000 0x00000000 0x00000000 ∷ [])
    []

abbrev out609 : Mesh
out609 =
    mesh
    (particle 0x00000000 0x00000000 0x00000000 0x00000000 0x3f800000 0x3f800000 0 0 ∷ particle 0x3f800000 0x00000000 0x3f800000 0x00000000 0x3f800000 0x00000000 1 0 ∷ particle 0x40000000 0x00000000 0x40000000 0x00000000 0x3f800000 0x00000000 2 0 ∷ particle 0x40400000 0x00000000 0x40400000 0x00000000 0x3f800000 0x3f800000 3 0 ∷ [])
    []
    (edge 0 1 1 0 0x3f800000 0x3f800000 0x00000000 0x00000000 ∷ edge 1 2 1 0 0x3f800000 0x3f800000 0x00000000 0x00000000 ∷ edge 2 3 1 0 0x3f800000 0x3f800000 0x00000000 0x00000000 ∷ [])
    []

-- both ends pinned, unchanged
abbrev case609 : Case
case609 = record { asked = meshes (crack_call true in609 (1 ∷ []) 1 (rooms 1024 1024 2048 2048 4096)); wanted = meshes (done out609 [] false) }

abbrev in610 : Mesh
in610 =
    mesh
    (particle 0x00000000 0x00000000 0x00000000 0x00000000 0x3f800000 0x3f800000 0 0 ∷ particle 0x3f800000 0x00000000 0x3f800000 0x00000000 0x3f800000 0x3f800000 1 0 ∷ [])
    []
    (edge 0 1 0 0 0x3f800000 0x3f800000 0x00000000 0x00000000 ∷ [])
    (side 0 1 ∷ [])

abbrev out610 : Mesh
out610 =
    mesh
    (particle 0x00000000 0x00000000 0x00000000 0x00000000 0x3f800000 0x3f800000 0 0 ∷ particle 0x3f800000 0x00000000 0x3f800000 0x00000000 0x3f800000 0x3f800000 1 0 ∷ [])
    []
    (edge 0 1 0 0 0x3f800000 0x3f800000 0x00000000 0x00000000 ∷ [])
    (side 0 1 ∷ [])

-- a crack of nothing
abbrev case610 : Case
case610 = record { asked = meshes (crack_call true in610 (0 ∷ []) 1 (rooms 1024 1024 2048 2048 4096)); wanted = meshes (done out610 [] false) }

abbrev pub cases : List Case
cases = case601 ∷ case602 ∷ case603 ∷ case604 ∷ case605 ∷ case606 ∷ case607 ∷ case608 ∷ case609 ∷ case610 ∷ []

pub agree : map (λ (c : Case). c.asked) cases ≡ map (λ (c : Case). c.wanted) cases
unfolding same_row_of any all sift sift_at find fold each pairs map_at_of tab up_to rising distinct disjoint padded keep kept_of nth merged join_pair join_row join_rows labelled abs_of max_of inv_of finite? number? volume? not_below0? floor_root root_units sign_of sum_of centroid_of lerp_of length_of blade_hit_of labels_of number_one number_side numbered groups_of count_of particle_ok triangle_ok edge_ok numbers_fit_of named root_ok corners_ok ends_ok side_ok indices_fit_of place_of rest_of besides sum kind_by kind_of triangles_from straps_from elements_of held rest_measure the_rest_measure_of fan_of grid_of parts_of opening_of splits? made weight_of total_of mass_of portion copied group_at_of rewired_triangles rewired_straps ring score_of scored toward edge_groups stayed doubled other_edges parted straddles side_group followed face_on facets_at crack_facets at_longest settled split_entries gone_entries split_made split_step split_by_sides_of shared_of piece_labels piece_count pieces body_labels bodies body_of spans across? without_straddlers straddlers_gone remove_straddlers_of reach_labels labels_at members_of reach_of opens_without_confetti_of meets left_of kept_side blade_sides split_by_blade split_ends near_corners pinched split_free split_pinched_of candidates cut_facets_of crossings near_end straps_at strap_share insertion_of wanted? insertable side_along bends numbers_of bends_over lightened between inserted_particles half_of inserted_edges shortened appended inserted_sides inserted_mesh insert_step inserted_at snapped_at crossed unbent slackened split_snapped_of after_crossings cut_segments_of marks_of marked_by cut_along cut largest_stress stress_between triangle_load loads_of family cross_pairs current_of current_pair beyond far_side mean_load two_sided_of way_at ways_of damaged_at torn crack_by crack_pair crack_edge torn_ends crack start step_to splits_of changed sides_ok strictly particles_ok refusal too_small first_fault outcome cut_call crack_call split_call straddlers_call blade_call groups_call rest_measure_call rest_measure_of_call opens_call pieces_call state_call is_nan neg add sub mul div lt le eq ne of_int of_bits
agree = refl
