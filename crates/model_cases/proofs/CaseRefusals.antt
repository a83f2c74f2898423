-- Refusals: the published Rust's answers, computed. Made by oracle/cases.py of oracle/cases.txt, which the oracle wrote from the published Rust.
-- Assumes nothing.
use mathlib.Core.Path.{◌≡◌, refl}
use mathlib.Core.Bool.{true, false}
use mathlib.Core.List.{List, [], ◌∷◌, map}
use lib.Ieee.{is_nan, neg, add, sub, mul, div, lt, le, eq, ne, of_int, of_bits}
use Rattle.blade.specs.declared.Hit.TheVariants.{Miss, Hit as HitAt}
use Rattle.model.specs.Mesh.{Mesh}
use Rattle.model.specs.Pieces.{default_min_piece}
use Rattle.model.specs.Run.{split, edge as removed, insert, opened, met}
use Rattle.model.specs.Calls.{refused, done}
use Rattle.model.specs.Reads.{refused as denied, value}
use Rattle.model.specs.Starred.{Case, meshes, groups, flag, number, float, hit}
use Rattle.model.proofs.Asked.{bits, point, blade, rooms, mesh, particle, triangle, edge, side}
use Rattle.lists.specs.Lists.{same_row_of, any, all, sift, sift_at, find, fold, each, pairs, map_at_of, tab, up_to, rising, distinct, disjoint, padded, keep, kept_of, nth}
use Rattle.lists.specs.Labels.{merged, join_pair, join_row, join_rows, labelled}
use Rattle.float.specs.Numbers.{abs_of, max_of, inv_of}
use Rattle.float.specs.Ranges.{finite?, number?, volume?, not_below0?}
use Rattle.float.specs.Root.{floor_root, root_units}
use Rattle.float.specs.Order.{sign_of}
use Rattle.blade.specs.Points.{sum_of, centroid_of, lerp_of, length_of}
use Rattle.blade.specs.Blade.{blade_hit_of}
use Rattle.fan.specs.Groups.{labels_of, number_one, number_side, numbered, groups_of, count_of}
use Rattle.model.specs.Valid.{particle_ok, triangle_ok, edge_ok, numbers_fit_of, named, root_ok, corners_ok, ends_ok, side_ok, indices_fit_of}
use Rattle.model.specs.Elements.{place_of, rest_of, besides, sum, kind_by, kind_of, triangles_from, straps_from, elements_of, held, rest_measure, the_rest_measure_of, fan_of, grid_of}
use Rattle.model.specs.Split.{parts_of, opening_of, splits?, made, weight_of, total_of, mass_of, portion, copied, group_at_of, rewired_triangles, rewired_straps, ring, score_of, scored, toward, edge_groups, stayed, doubled, other_edges, parted, straddles, side_group, followed, face_on, facets_at, crack_facets, at_longest, settled, split_entries, gone_entries, split_made, split_step, split_by_sides_of}
use Rattle.model.specs.Pieces.{shared_of, piece_labels, piece_count, pieces, body_labels, bodies, body_of, spans, across?, without_straddlers, straddlers_gone, remove_straddlers_of, reach_labels, labels_at, members_of, reach_of, opens_without_confetti_of}
use Rattle.model.specs.Cut.{meets, left_of, kept_side, blade_sides, split_by_blade, split_ends, near_corners, pinched, split_free, split_pinched_of, candidates, cut_facets_of, crossings, near_end, straps_at, strap_share, insertion_of, wanted?, insertable, side_along, bends, numbers_of, bends_over, lightened, between, inserted_particles, half_of, inserted_edges, shortened, appended, inserted_sides, inserted_mesh, insert_step, inserted_at, snapped_at, crossed, unbent, slackened, split_snapped_of, after_crossings, cut_segments_of, marks_of, marked_by, cut_along, cut}
use Rattle.model.specs.Crack.{largest_stress, stress_between, triangle_load, loads_of, family, cross_pairs, current_of, current_pair, beyond, far_side, mean_load, two_sided_of, way_at, ways_of, damaged_at, torn, crack_by, crack_pair, crack_edge, torn_ends, crack}
use Rattle.model.specs.Run.{start, step_to, splits_of, changed}
use Rattle.model.specs.Calls.{sides_ok, strictly, particles_ok, refusal, too_small, first_fault, outcome, cut_call, crack_call, split_call, straddlers_call}
use Rattle.model.specs.Reads.{blade_call, groups_call, rest_measure_call, rest_measure_of_call, opens_call, pieces_call, state_call}

abbrev in1001 : Mesh
in1001 =
    mesh
    (particle 0x00000000 0x00000000 0x00000000 0x00000000 0x3f800000 0x3f800000 0 0 ∷ particle 0x40800000 0x00000000 0x40800000 0x00000000 0x3f800000 0x3f800000 1 0 ∷ particle 0x40800000 0x40800000 0x40800000 0x40800000 0x3f800000 0x3f800000 2 0 ∷ particle 0x49800001 0x40800000 0x00000000 0x40800000 0x3f800000 0x3f800000 3 0 ∷ [])
    (triangle 9 1 2 0x41000000 0x00000000 ∷ triangle 0 2 3 0x41000000 0x00000000 ∷ [])
    (edge 0 2 1 0 0x40b504f3 0x40b504f3 0x00000000 0x00000000 ∷ edge 1 3 0 0 0x40b504f3 0x40b504f3 0x00000000 0x00000000 ∷ [])
    (side 0 1 ∷ side 1 2 ∷ side 2 3 ∷ side 3 0 ∷ [])

-- 2 before 3 and 4
abbrev case1001 : Case
case1001 = record { asked = meshes (cut_call true in1001 1 (blade 0x00000000 0x00000000 0x3f800000 0x3f800000) (bits 0x41100000) (rooms 1024 1024 2048 2048 4096)); wanted = meshes (refused 2) }

abbrev in1002 : Mesh
in1002 =
    mesh
    (particle 0x00000000 0x00000000 0x00000000 0x00000000 0x3f800000 0x3f800000 0 0 ∷ particle 0x40800000 0x00000000 0x40800000 0x00000000 0x3f800000 0x3f800000 1 0 ∷ particle 0x40800000 0x40800000 0x40800000 0x40800000 0x3f800000 0x3f800000 2 0 ∷ particle 0x49800000 0x40800000 0x00000000 0x40800000 0x3f800000 0x3f800000 3 0 ∷ [])
    (triangle 9 1 2 0x41000000 0x00000000 ∷ triangle 0 2 3 0x41000000 0x00000000 ∷ [])
    (edge 0 2 1 0 0x40b504f3 0x40b504f3 0x00000000 0x00000000 ∷ edge 1 3 0 0 0x40b504f3 0x40b504f3 0x00000000 0x00000000 ∷ [])
    (side 0 1 ∷ side 1 2 ∷ side 2 3 ∷ side 3 0 ∷ [])

-- coordinate 1,048,576 passes; 3 before 4
abbrev case1002 : Case
case1002 = record { asked = meshes (cut_call true in1002 1 (blade 0x00000000 0x00000000 0x3f800000 0x3f800000) (bits 0x41100000) (rooms 1024 1024 2048 2048 4096)); wanted = meshes (refused 3) }

abbrev in1003 : Mesh
in1003 =
    mesh
    (particle 0x00000000 0x00000000 0x00000000 0x00000000 0x3f800000 0x3f800000 0 0 ∷ particle 0x40800000 0x00000000 0x40800000 0x00000000 0x3f800000 0x3f800000 1 0 ∷ particle 0x40800000 0x40800000 0x40800000 0x40800000 0x3f800000 0x3f800000 2 0 ∷ particle 0x49800000 0x40800000 0x00000000 0x40800000 0x3f800000 0x3f800000 3 0 ∷ [])
    (triangle 0 1 2 0x41000000 0x00000000 ∷ triangle 0 2 3 0x41000000 0x00000000 ∷ [])
    (edge 0 2 1 0 0x40b504f3 0x40b504f3 0x00000000 0x00000000 ∷ edge 1 3 0 0 0x40b504f3 0x40b504f3 0x00000000 0x00000000 ∷ [])
    (side 0 1 ∷ side 1 2 ∷ side 2 3 ∷ side 3 0 ∷ [])

-- 4: the fraction
abbrev case1003 : Case
case1003 = record { asked = meshes (cut_call true in1003 1 (blade 0x00000000 0x00000000 0x3f800000 0x3f800000) (bits 0x41100000) (rooms 1024 1024 2048 2048 4096)); wanted = meshes (refused 4) }

abbrev in1004 : Mesh
in1004 =
    mesh
    (particle 0x00000000 0x00000000 0x00000000 0x00000000 0x3f800000 0x3f800000 0 0 ∷ particle 0x40800000 0x00000000 0x40800000 0x00000000 0x3f800000 0x3f800000 1 0 ∷ particle 0x40800000 0x40800000 0x40800000 0x40800000 0x3f800000 0x3f800000 2 0 ∷ particle 0x00000000 0x40800000 0x00000000 0x40800000 0x3f800000 0x3f800000 3 0 ∷ [])
    (triangle 0 1 2 0x41000000 0x00000000 ∷ triangle 0 2 3 0x41000000 0x00000000 ∷ [])
    (edge 0 2 1 0 0x40b504f3 0x40b504f3 0x00000000 0x00000000 ∷ edge 1 3 0 0 0x40b504f3 0x40b504f3 0x00000000 0x00000000 ∷ [])
    (side 0 1 ∷ side 1 2 ∷ side 2 3 ∷ side 3 0 ∷ [])

-- 2: a blade that is no number
abbrev case1004 : Case
case1004 = record { asked = meshes (cut_call true in1004 1 (blade 0x00000000 0x00000000 0x3f800000 0x7fc00000) (bits 0x3dcccccd) (rooms 1024 1024 2048 2048 4096)); wanted = meshes (refused 2) }

-- 4: the next f32 above 0.5
abbrev case1005 : Case
case1005 = record { asked = meshes (cut_call true in1004 1 (blade 0x00000000 0x00000000 0x3f800000 0x3f800000) (bits 0x3f000001) (rooms 1024 1024 2048 2048 4096)); wanted = meshes (refused 4) }

-- 4: a fraction below 0
abbrev case1006 : Case
case1006 = record { asked = meshes (cut_call true in1004 1 (blade 0x00000000 0x00000000 0x3f800000 0x3f800000) (bits 0x80000001) (rooms 1024 1024 2048 2048 4096)); wanted = meshes (refused 4) }

-- 4: a fraction that is no number
abbrev case1007 : Case
case1007 = record { asked = meshes (cut_call true in1004 1 (blade 0x00000000 0x00000000 0x3f800000 0x3f800000) (bits 0x7fc00000) (rooms 1024 1024 2048 2048 4096)); wanted = meshes (refused 4) }

abbrev out1008 : Mesh
out1008 =
    mesh
    (particle 0x00000000 0x00000000 0x00000000 0x00000000 0x3f800000 0x3f800000 0 0 ∷ particle 0x40800000 0x00000000 0x40800000 0x00000000 0x3f800000 0x3f800000 1 0 ∷ particle 0x40800000 0x40800000 0x40800000 0x40800000 0x3f800000 0x3f800000 2 0 ∷ particle 0x00000000 0x40800000 0x00000000 0x40800000 0x3f800000 0x3f800000 3 0 ∷ [])
    (triangle 0 1 2 0x41000000 0x00000000 ∷ triangle 0 2 3 0x41000000 0x00000000 ∷ [])
    (edge 0 2 1 0 0x40b504f3 0x40b504f3 0x00000000 0x00000000 ∷ edge 1 3 0 0 0x40b504f3 0x40b504f3 0x00000000 0x00000000 ∷ [])
    (side 0 1 ∷ side 1 2 ∷ side 2 3 ∷ side 3 0 ∷ [])

-- 0: fraction minus zero
abbrev case1008 : Case
case1008 = record { asked = meshes (cut_call true in1004 1 (blade 0x00000000 0x41100000 0x3f800000 0x41100000) (bits 0x80000000) (rooms 1024 1024 2048 2048 4096)); wanted = meshes (done out1008 [] false) }

-- 4: a side that is 2
abbrev case1009 : Case
case1009 = record { asked = meshes (split_call true in1004 0 (0 ∷ 2 ∷ []) (rooms 1024 1024 2048 2048 4096)); wanted = meshes (refused 4) }

-- 4: too few sides
abbrev case1010 : Case
case1010 = record { asked = meshes (split_call true in1004 0 (0 ∷ []) (rooms 1024 1024 2048 2048 4096)); wanted = meshes (refused 4) }

-- 4: particle absent
abbrev case1011 : Case
case1011 = record { asked = meshes (split_call true in1004 4 [] (rooms 1024 1024 2048 2048 4096)); wanted = meshes (refused 4) }

abbrev in1012 : Mesh
in1012 =
    mesh
    (particle 0x00000000 0x00000000 0x00000000 0x00000000 0x3f800000 0x3f800000 0 0 ∷ particle 0x40800000 0x00000000 0x40800000 0x00000000 0x3f800000 0x3f800000 1 0 ∷ particle 0x40800000 0x40800000 0x40800000 0x40800000 0x3f800000 0x3f800000 2 0 ∷ particle 0x00000000 0x40800000 0x00000000 0x40800000 0x3f800000 0x3f800000 3 0 ∷ [])
    (triangle 0 1 2 0x41000000 0x00000000 ∷ triangle 0 2 3 0x41000000 0x00000000 ∷ [])
    (edge 0 2 1 0 0x40b504f3 0x40b504f3 0x00000000 0x00000000 ∷ edge 1 3 0 2 0x40b504f3 0x40b504f3 0x00000000 0x00000000 ∷ [])
    (side 0 1 ∷ side 1 2 ∷ side 2 3 ∷ side 3 0 ∷ [])

-- 2: a flag that is 2
abbrev case1012 : Case
case1012 = record { asked = meshes (cut_call true in1012 1 (blade 0x00000000 0x00000000 0x3f800000 0x3f800000) (bits 0x3dcccccd) (rooms 1024 1024 2048 2048 4096)); wanted = meshes (refused 2) }

abbrev in1013 : Mesh
in1013 =
    mesh
    (particle 0x00000000 0x00000000 0x00000000 0x00000000 0x3f800000 0x3f800000 0 0 ∷ particle 0x40800000 0x00000000 0x40800000 0x00000000 0x3f800000 0x3f800000 1 2 ∷ particle 0x40800000 0x40800000 0x40800000 0x40800000 0x3f800000 0x3f800000 2 0 ∷ particle 0x00000000 0x40800000 0x00000000 0x40800000 0x3f800000 0x3f800000 3 0 ∷ [])
    (triangle 0 1 2 0x41000000 0x00000000 ∷ triangle 0 2 3 0x41000000 0x00000000 ∷ [])
    (edge 0 2 1 0 0x40b504f3 0x40b504f3 0x00000000 0x00000000 ∷ edge 1 3 0 0 0x40b504f3 0x40b504f3 0x00000000 0x00000000 ∷ [])
    (side 0 1 ∷ side 1 2 ∷ side 2 3 ∷ side 3 0 ∷ [])

-- 2: a damaged flag that is 2
abbrev case1013 : Case
case1013 = record { asked = meshes (cut_call true in1013 1 (blade 0x00000000 0x00000000 0x3f800000 0x3f800000) (bits 0x3dcccccd) (rooms 1024 1024 2048 2048 4096)); wanted = meshes (refused 2) }

abbrev in1014 : Mesh
in1014 =
    mesh
    (particle 0x00000000 0x00000000 0x00000000 0x00000000 0x3f800000 0x3f800000 0 0 ∷ particle 0x40800000 0x00000000 0x40800000 0x00000000 0x3f800000 0x3f800000 1 0 ∷ particle 0x40800000 0x40800000 0x40800000 0x40800000 0x3f800000 0x3f800000 2 0 ∷ particle 0x00000000 0x40800000 0x00000000 0x40800000 0x3f800000 0x3f800000 3 0 ∷ [])
    (triangle 0 1 2 0x41000000 0x00000000 ∷ triangle 0 2 3 0x41000000 0x00000000 ∷ [])
    (edge 0 2 1 0 0x40b504f3 0x40b504f3 0x00000000 0x00000000 ∷ edge 1 3 0 0 0x40b504f3 0x40b504f3 0x00000000 0x00000000 ∷ [])
    (side 0 1 ∷ side 1 1 ∷ side 2 3 ∷ side 3 0 ∷ [])

-- 3: a boundary entry names one twice
abbrev case1014 : Case
case1014 = record { asked = meshes (cut_call true in1014 1 (blade 0x00000000 0x00000000 0x3f800000 0x3f800000) (bits 0x3dcccccd) (rooms 1024 1024 2048 2048 4096)); wanted = meshes (refused 3) }

abbrev in1015 : Mesh
in1015 =
    mesh
    (particle 0x00000000 0x00000000 0x00000000 0x00000000 0x3f800000 0x3f800000 0 0 ∷ particle 0x40800000 0x00000000 0x40800000 0x00000000 0x3f800000 0x3f800000 1 0 ∷ particle 0x40800000 0x40800000 0x40800000 0x40800000 0x3f800000 0x3f800000 2 0 ∷ particle 0x00000000 0x40800000 0x00000000 0x40800000 0x3f800000 0x3f800000 3 0 ∷ [])
    (triangle 0 1 2 0x41000000 0x00000000 ∷ triangle 0 2 3 0x41000000 0x00000000 ∷ [])
    (edge 4 2 1 0 0x40b504f3 0x40b504f3 0x00000000 0x00000000 ∷ edge 1 3 0 0 0x40b504f3 0x40b504f3 0x00000000 0x00000000 ∷ [])
    (side 0 1 ∷ side 1 2 ∷ side 2 3 ∷ side 3 0 ∷ [])

-- 3: an edge names no particle
abbrev case1015 : Case
case1015 = record { asked = meshes (straddlers_call true in1015 (rooms 1024 1024 2048 2048 4096)); wanted = meshes (refused 3) }

abbrev in1016 : Mesh
in1016 =
    mesh
    (particle 0x00000000 0x00000000 0x00000000 0x00000000 0x3f800000 0x3f800000 0 0 ∷ particle 0x40800000 0x00000000 0x40800000 0x00000000 0x3f800000 0x3f800000 1 0 ∷ particle 0x40800000 0x40800000 0x40800000 0x40800000 0x3f800000 0x3f800000 2 0 ∷ particle 0x00000000 0x40800000 0x00000000 0x40800000 0x3f800000 0x3f800000 3 0 ∷ [])
    (triangle 0 1 0 0x41000000 0x00000000 ∷ triangle 0 2 3 0x41000000 0x00000000 ∷ [])
    (edge 0 2 1 0 0x40b504f3 0x40b504f3 0x00000000 0x00000000 ∷ edge 1 3 0 0 0x40b504f3 0x40b504f3 0x00000000 0x00000000 ∷ [])
    (side 0 1 ∷ side 1 2 ∷ side 2 3 ∷ side 3 0 ∷ [])

-- 3: a triangle names one twice
abbrev case1016 : Case
case1016 = record { asked = number (pieces_call true in1016); wanted = number (denied 3) }

abbrev in1017 : Mesh
in1017 =
    mesh
    (particle 0x00000000 0x00000000 0x00000000 0x00000000 0x3f800000 0x3f800000 0 0 ∷ particle 0x40800000 0x00000000 0x40800000 0x00000000 0x3f800000 0x3f800000 1 0 ∷ particle 0x40800000 0x40800000 0x40800000 0x40800000 0x3f800000 0x3f800000 2 0 ∷ particle 0x00000000 0x40800000 0x00000000 0x40800000 0x3f800000 0x3f800000 4 0 ∷ [])
    (triangle 0 1 2 0x41000000 0x00000000 ∷ triangle 0 2 3 0x41000000 0x00000000 ∷ [])
    (edge 0 2 1 0 0x40b504f3 0x40b504f3 0x00000000 0x00000000 ∷ edge 1 3 0 0 0x40b504f3 0x40b504f3 0x00000000 0x00000000 ∷ [])
    (side 0 1 ∷ side 1 2 ∷ side 2 3 ∷ side 3 0 ∷ [])

-- 3: a root names no particle
abbrev case1017 : Case
case1017 = record { asked = float (rest_measure_call true in1017); wanted = float (denied 3) }

abbrev in1018 : Mesh
in1018 =
    mesh
    (particle 0x00000000 0x00000000 0x00000000 0x00000000 0x3f800000 0x3f800000 0 0 ∷ particle 0x40800000 0x00000000 0x40800000 0x00000000 0x3f800000 0x7f7fffff 1 0 ∷ particle 0x40800000 0x40800000 0x40800000 0x40800000 0x3f800000 0x3f800000 2 0 ∷ particle 0x00000000 0x40800000 0x00000000 0x40800000 0x3f800000 0x3f800000 3 0 ∷ [])
    (triangle 0 1 2 0x41000000 0x00000000 ∷ triangle 0 2 3 0x41000000 0x00000000 ∷ [])
    (edge 0 2 1 0 0x40b504f3 0x40b504f3 0x00000000 0x00000000 ∷ edge 1 3 0 0 0x80000000 0x40b504f3 0x00000000 0x00000000 ∷ [])
    (side 0 1 ∷ side 1 2 ∷ side 2 3 ∷ side 3 0 ∷ [])

abbrev out1018 : Mesh
out1018 =
    mesh
    (particle 0x00000000 0x00000000 0x00000000 0x00000000 0x3f000000 0x40000000 0 0 ∷ particle 0x40800000 0x00000000 0x40800000 0x00000000 0x3f800000 0x7f7fffff 1 0 ∷ particle 0x40800000 0x40800000 0x40800000 0x40800000 0x3f000000 0x40000000 2 0 ∷ particle 0x00000000 0x40800000 0x00000000 0x40800000 0x3f800000 0x3f800000 3 0 ∷ particle 0x00000000 0x00000000 0x00000000 0x00000000 0x3f000000 0x40000000 0 0 ∷ particle 0x40800000 0x40800000 0x40800000 0x40800000 0x3f000000 0x40000000 2 0 ∷ [])
    (triangle 0 1 2 0x41000000 0x00000000 ∷ triangle 4 5 3 0x41000000 0x00000000 ∷ [])
    (edge 0 2 1 0 0x40b504f3 0x40b504f3 0x00000000 0x00000000 ∷ edge 4 5 1 0 0x40b504f3 0x40b504f3 0x00000000 0x00000000 ∷ [])
    (side 0 1 ∷ side 1 2 ∷ side 5 3 ∷ side 3 4 ∷ side 2 0 ∷ side 4 5 ∷ [])

-- 0: rest length minus zero, any finite inverse mass
abbrev case1018 : Case
case1018 = record { asked = meshes (cut_call true in1018 1 (blade 0x00000000 0x00000000 0x3f800000 0x3f800000) (bits 0x3dcccccd) (rooms 1024 1024 2048 2048 4096)); wanted = meshes (done out1018 (met 0 1 (point 0x00000000 0x00000000) (bits 0x00000000) ∷ met 0 3 (point 0x00000000 0x00000000) (bits 0x80000000) ∷ split 4 0 ∷ removed 1 3 ∷ split 5 2 ∷ []) true) }

abbrev in1019 : Mesh
in1019 =
    mesh
    (particle 0x00000000 0x00000000 0x00000000 0x00000000 0x3f800000 0x3f800000 0 0 ∷ particle 0x40800000 0x00000000 0x40800000 0x00000000 0x3f800000 0x7f800000 1 0 ∷ particle 0x40800000 0x40800000 0x40800000 0x40800000 0x3f800000 0x3f800000 2 0 ∷ particle 0x00000000 0x40800000 0x00000000 0x40800000 0x3f800000 0x3f800000 3 0 ∷ [])
    (triangle 0 1 2 0x41000000 0x00000000 ∷ triangle 0 2 3 0x41000000 0x00000000 ∷ [])
    (edge 0 2 1 0 0x40b504f3 0x40b504f3 0x00000000 0x00000000 ∷ edge 1 3 0 0 0x40b504f3 0x40b504f3 0x00000000 0x00000000 ∷ [])
    (side 0 1 ∷ side 1 2 ∷ side 2 3 ∷ side 3 0 ∷ [])

-- 2: an infinite inverse mass
abbrev case1019 : Case
case1019 = record { asked = meshes (cut_call true in1019 1 (blade 0x00000000 0x00000000 0x3f800000 0x3f800000) (bits 0x3dcccccd) (rooms 1024 1024 2048 2048 4096)); wanted = meshes (refused 2) }

abbrev in1020 : Mesh
in1020 =
    mesh
    (particle 0x00000000 0x00000000 0x00000000 0x00000000 0x3f800000 0x3f800000 0 0 ∷ particle 0x40800000 0x00000000 0x40800000 0x00000000 0x3f800000 0x3f800000 1 0 ∷ particle 0x40800000 0x40800000 0x40800000 0x40800000 0x3f800000 0x3f800000 2 0 ∷ particle 0x00000000 0x40800000 0x00000000 0x40800000 0x3f800000 0x3f800000 3 0 ∷ [])
    (triangle 0 1 2 0x41000000 0x00000000 ∷ triangle 0 2 3 0x41000000 0x00000000 ∷ [])
    (edge 0 2 1 0 0x40b504f3 0x40b504f3 0x00000000 0x00000000 ∷ edge 1 3 0 0 0x80000001 0x40b504f3 0x00000000 0x00000000 ∷ [])
    (side 0 1 ∷ side 1 2 ∷ side 2 3 ∷ side 3 0 ∷ [])

-- 2: a rest length below 0
abbrev case1020 : Case
case1020 = record { asked = meshes (cut_call true in1020 1 (blade 0x00000000 0x00000000 0x3f800000 0x3f800000) (bits 0x3dcccccd) (rooms 1024 1024 2048 2048 4096)); wanted = meshes (refused 2) }

abbrev in1021 : Mesh
in1021 =
    mesh
    (particle 0x00000000 0x00000000 0x00000000 0x00000000 0x3f800000 0x3f800000 0 0 ∷ particle 0x40800000 0x00000000 0x40800000 0x00000000 0x3f800000 0x3f800000 1 0 ∷ particle 0x40800000 0x40800000 0x40800000 0x40800000 0x3f800000 0x3f800000 2 0 ∷ particle 0x00000000 0x40800000 0x00000000 0x40800000 0x3f800000 0x3f800000 3 0 ∷ [])
    (triangle 0 1 2 0x41000000 0x00000000 ∷ triangle 0 2 3 0x41000000 0x00000000 ∷ [])
    (edge 0 2 1 0 0x40b504f3 0xbf800000 0x00000000 0x00000000 ∷ edge 1 3 0 0 0x40b504f3 0x40b504f3 0x00000000 0x00000000 ∷ [])
    (side 0 1 ∷ side 1 2 ∷ side 2 3 ∷ side 3 0 ∷ [])

-- 2: an initial rest length below 0
abbrev case1021 : Case
case1021 = record { asked = meshes (crack_call true in1021 (0 ∷ []) 1 (rooms 1024 1024 2048 2048 4096)); wanted = meshes (refused 2) }

abbrev in1022 : Mesh
in1022 =
    mesh
    (particle 0x00000000 0x00000000 0x00000000 0x00000000 0x3f800000 0x3f800000 0 0 ∷ particle 0x40800000 0x00000000 0x40800000 0x00000000 0x3f800000 0x3f800000 1 0 ∷ particle 0x40800000 0x40800000 0x40800000 0x40800000 0x3f800000 0x3f800000 2 0 ∷ particle 0x00000000 0x40800000 0x00000000 0x40800000 0x3f800000 0x3f800000 3 0 ∷ [])
    (triangle 0 1 2 0x41000000 0x00000000 ∷ triangle 0 2 3 0xca800000 0x00000000 ∷ [])
    (edge 0 2 1 0 0x40b504f3 0x40b504f3 0x00000000 0x00000000 ∷ edge 1 3 0 0 0x40b504f3 0x40b504f3 0x00000000 0x00000000 ∷ [])
    (side 0 1 ∷ side 1 2 ∷ side 2 3 ∷ side 3 0 ∷ [])

-- 0: a rest volume of minus 4,194,304
abbrev case1022 : Case
case1022 = record { asked = float (rest_measure_call true in1022); wanted = float (value (bits 0x4a800010)) }

abbrev in1023 : Mesh
in1023 =
    mesh
    (particle 0x00000000 0x00000000 0x00000000 0x00000000 0x3f800000 0x3f800000 0 0 ∷ particle 0x40800000 0x00000000 0x40800000 0x00000000 0x3f800000 0x3f800000 1 0 ∷ particle 0x40800000 0x40800000 0x40800000 0x40800000 0x3f800000 0x3f800000 2 0 ∷ particle 0x00000000 0x40800000 0x00000000 0x40800000 0x3f800000 0x3f800000 3 0 ∷ [])
    (triangle 0 1 2 0x41000000 0x00000000 ∷ triangle 0 2 3 0x4a800001 0x00000000 ∷ [])
    (edge 0 2 1 0 0x40b504f3 0x40b504f3 0x00000000 0x00000000 ∷ edge 1 3 0 0 0x40b504f3 0x40b504f3 0x00000000 0x00000000 ∷ [])
    (side 0 1 ∷ side 1 2 ∷ side 2 3 ∷ side 3 0 ∷ [])

-- 2: the next rest volume
abbrev case1023 : Case
case1023 = record { asked = float (rest_measure_call true in1023); wanted = float (denied 2) }

abbrev in1024 : Mesh
in1024 =
    mesh
    (particle 0x00000000 0x00000000 0x00000000 0x00000000 0x3f800000 0x3f800000 0 0 ∷ particle 0x40800000 0x00000000 0x40800000 0x00000000 0x3f800000 0x3f800000 1 0 ∷ particle 0x40800000 0x40800000 0x40800000 0x40800000 0x3f800000 0x3f800000 2 0 ∷ particle 0x00000000 0x40800000 0x00000000 0x40800000 0x3f800000 0x3f800000 3 0 ∷ [])
    (triangle 0 1 2 0x41000000 0x00000000 ∷ triangle 0 2 3 0x41000000 0x49800001 ∷ [])
    (edge 0 2 1 0 0x40b504f3 0x40b504f3 0x00000000 0x00000000 ∷ edge 1 3 0 0 0x40b504f3 0x40b504f3 0x00000000 0x00000000 ∷ [])
    (side 0 1 ∷ side 1 2 ∷ side 2 3 ∷ side 3 0 ∷ [])

-- 2: a stress above the limit
abbrev case1024 : Case
case1024 = record { asked = float (rest_measure_call true in1024); wanted = float (denied 2) }

abbrev pub cases : List Case
cases = case1001 ∷ case1002 ∷ case1003 ∷ case1004 ∷ case1005 ∷ case1006 ∷ case1007 ∷ case1008 ∷ case1009 ∷ case1010 ∷ case1011 ∷ case1012 ∷ case1013 ∷ case1014 ∷ case1015 ∷ case1016 ∷ case1017 ∷ case1018 ∷ case1019 ∷ case1020 ∷ case1021 ∷ case1022 ∷ case1023 ∷ case1024 ∷ []

pub agree : map (λ (c : Case). c.asked) cases ≡ map (λ (c : Case). c.wanted) cases
unfolding same_row_of any all sift sift_at find fold each pairs map_at_of tab up_to rising distinct disjoint padded keep kept_of nth merged join_pair join_row join_rows labelled abs_of max_of inv_of finite? number? volume? not_below0? floor_root root_units sign_of sum_of centroid_of lerp_of length_of blade_hit_of labels_of number_one number_side numbered groups_of count_of particle_ok triangle_ok edge_ok numbers_fit_of named root_ok corners_ok ends_ok side_ok indices_fit_of place_of rest_of besides sum kind_by kind_of triangles_from straps_from elements_of held rest_measure the_rest_measure_of fan_of grid_of parts_of opening_of splits? made weight_of total_of mass_of portion copied group_at_of rewired_triangles rewired_straps ring score_of scored toward edge_groups stayed doubled other_edges parted straddles side_group followed face_on facets_at crack_facets at_longest settled split_entries gone_entries split_made split_step split_by_sides_of shared_of piece_labels piece_count pieces body_labels bodies body_of spans across? without_straddlers straddlers_gone remove_straddlers_of reach_labels labels_at members_of reach_of opens_without_confetti_of meets left_of kept_side blade_sides split_by_blade split_ends near_corners pinched split_free split_pinched_of candidates cut_facets_of crossings near_end straps_at strap_share insertion_of wanted? insertable side_along bends numbers_of bends_over lightened between inserted_particles half_of inserted_edges shortened appended inserted_sides inserted_mesh insert_step inserted_at snapped_at crossed unbent slackened split_snapped_of after_crossings cut_segments_of marks_of marked_by cut_along cut largest_stress stress_between triangle_load loads_of family cross_pairs current_of current_pair beyond far_side mean_load two_sided_of way_at ways_of damaged_at torn crack_by crack_pair crack_edge torn_ends crack start step_to splits_of changed sides_ok strictly particles_ok refusal too_small first_fault outcome cut_call crack_call split_call straddlers_call blade_call groups_call rest_measure_call rest_measure_of_call opens_call pieces_call state_call is_nan neg add sub mul div lt le eq ne of_int of_bits
agree = refl
