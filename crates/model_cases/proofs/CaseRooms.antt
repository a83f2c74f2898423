-- Rooms: the published Rust's answers, computed. Made by oracle/cases.py of oracle/cases.txt, which the oracle wrote from the published Rust.
-- Assumes nothing.
use mathlib.Core.Path.{◌≡◌, refl}
use mathlib.Core.Bool.{true, false}
use mathlib.Core.List.{List, [], ◌∷◌, map}
use lib.Ieee.{is_nan, neg, add, sub, mul, div, lt, le, eq, ne, of_int, of_bits}
use Rattle.blade.specs.declared.Hit.TheVariants.{Miss, Hit as HitAt}
use Rattle.model.specs.Mesh.{Mesh}
use Rattle.model.specs.Pieces.{default_min_piece}
use Rattle.model.specs.Run.{split, edge as removed, insert, opened, met}
use Rattle.model.specs.Calls.{refused, done}
use Rattle.model.specs.Reads.{refused as denied, value}
use Rattle.model.specs.Starred.{Case, meshes, groups, flag, number, float, hit}
use Rattle.model.proofs.Asked.{bits, point, blade, rooms, mesh, particle, triangle, edge, side}
use Rattle.lists.specs.Lists.{same_row_of, any, all, sift, sift_at, find, fold, each, pairs, map_at_of, tab, up_to, rising, distinct, disjoint, padded, keep, kept_of, nth}
use Rattle.lists.specs.Labels.{merged, join_pair, join_row, join_rows, labelled}
use Rattle.float.specs.Numbers.{abs_of, max_of, inv_of}
use Rattle.float.specs.Ranges.{finite?, number?, volume?, not_below0?}
use Rattle.float.specs.Root.{floor_root, root_units}
use Rattle.float.specs.Order.{sign_of}
use Rattle.blade.specs.Points.{sum_of, centroid_of, lerp_of, length_of}
use Rattle.blade.specs.Blade.{blade_hit_of}
use Rattle.fan.specs.Groups.{labels_of, number_one, number_side, numbered, groups_of, count_of}
use Rattle.model.specs.Valid.{particle_ok, triangle_ok, edge_ok, numbers_fit_of, named, root_ok, corners_ok, ends_ok, side_ok, indices_fit_of}
use Rattle.model.specs.Elements.{place_of, rest_of, besides, sum, kind_by, kind_of, triangles_from, straps_from, elements_of, held, rest_measure, the_rest_measure_of, fan_of, grid_of}
use Rattle.model.specs.Split.{parts_of, opening_of, splits?, made, weight_of, total_of, mass_of, portion, copied, group_at_of, rewired_triangles, rewired_straps, ring, score_of, scored, toward, edge_groups, stayed, doubled, other_edges, parted, straddles, side_group, followed, face_on, facets_at, crack_facets, at_longest, settled, split_entries, gone_entries, split_made, split_step, split_by_sides_of}
use Rattle.model.specs.Pieces.{shared_of, piece_labels, piece_count, pieces, body_labels, bodies, body_of, spans, across?, without_straddlers, straddlers_gone, remove_straddlers_of, reach_labels, labels_at, members_of, reach_of, opens_without_confetti_of}
use Rattle.model.specs.Cut.{meets, left_of, kept_side, blade_sides, split_by_blade, split_ends, near_corners, pinched, split_free, split_pinched_of, candidates, cut_facets_of, crossings, near_end, straps_at, strap_share, insertion_of, wanted?, insertable, side_along, bends, numbers_of, bends_over, lightened, between, inserted_particles, half_of, inserted_edges, shortened, appended, inserted_sides, inserted_mesh, insert_step, inserted_at, snapped_at, crossed, unbent, slackened, split_snapped_of, after_crossings, cut_segments_of, marks_of, marked_by, cut_along, cut}
use Rattle.model.specs.Crack.{largest_stress, stress_between, triangle_load, loads_of, family, cross_pairs, current_of, current_pair, beyond, far_side, mean_load, two_sided_of, way_at, ways_of, damaged_at, torn, crack_by, crack_pair, crack_edge, torn_ends, crack}
use Rattle.model.specs.Run.{start, step_to, splits_of, changed}
use Rattle.model.specs.Calls.{sides_ok, strictly, particles_ok, refusal, too_small, first_fault, outcome, cut_call, crack_call, split_call, straddlers_call}
use Rattle.model.specs.Reads.{blade_call, groups_call, rest_measure_call, rest_measure_of_call, opens_call, pieces_call, state_call}

abbrev in1101 : Mesh
in1101 =
    mesh
    (particle 0x00000000 0x00000000 0x00000000 0x00000000 0x3f800000 0x3f800000 0 0 ∷ particle 0x40800000 0x00000000 0x40800000 0x00000000 0x3f800000 0x3f800000 1 0 ∷ particle 0x40800000 0x40800000 0x40800000 0x40800000 0x3f800000 0x3f800000 2 0 ∷ particle 0x00000000 0x40800000 0x00000000 0x40800000 0x3f800000 0x3f800000 3 0 ∷ [])
    (triangle 0 1 2 0x41000000 0x00000000 ∷ triangle 0 2 3 0x41000000 0x00000000 ∷ [])
    (edge 0 2 1 0 0x40b504f3 0x40b504f3 0x00000000 0x00000000 ∷ edge 1 3 0 0 0x40b504f3 0x40b504f3 0x00000000 0x00000000 ∷ [])
    (side 0 1 ∷ side 1 2 ∷ side 2 3 ∷ side 3 0 ∷ [])

-- 5: the second split lacks a particle
abbrev case1101 : Case
case1101 = record { asked = meshes (cut_call true in1101 1 (blade 0xbf800000 0xbf800000 0x40a00000 0x40a00000) (bits 0x3dcccccd) (rooms 5 1024 2 6 7)); wanted = meshes (refused 6) }

-- 6: edges at their longest
abbrev case1102 : Case
case1102 = record { asked = meshes (cut_call true in1101 1 (blade 0xbf800000 0xbf800000 0x40a00000 0x40a00000) (bits 0x3dcccccd) (rooms 6 1024 2 6 7)); wanted = meshes (refused 6) }

-- 7: boundary
abbrev case1103 : Case
case1103 = record { asked = meshes (cut_call true in1101 1 (blade 0xbf800000 0xbf800000 0x40a00000 0x40a00000) (bits 0x3dcccccd) (rooms 6 1024 3 5 7)); wanted = meshes (refused 7) }

-- 8: log
abbrev case1104 : Case
case1104 = record { asked = meshes (cut_call true in1101 1 (blade 0xbf800000 0xbf800000 0x40a00000 0x40a00000) (bits 0x3dcccccd) (rooms 6 1024 3 6 6)); wanted = meshes (refused 8) }

abbrev out1105 : Mesh
out1105 =
    mesh
    (particle 0x00000000 0x00000000 0x00000000 0x00000000 0x3f000000 0x40000000 0 0 ∷ particle 0x40800000 0x00000000 0x40800000 0x00000000 0x3f800000 0x3f800000 1 0 ∷ particle 0x40800000 0x40800000 0x40800000 0x40800000 0x3f000000 0x40000000 2 0 ∷ particle 0x00000000 0x40800000 0x00000000 0x40800000 0x3f800000 0x3f800000 3 0 ∷ particle 0x00000000 0x00000000 0x00000000 0x00000000 0x3f000000 0x40000000 0 0 ∷ particle 0x40800000 0x40800000 0x40800000 0x40800000 0x3f000000 0x40000000 2 0 ∷ [])
    (triangle 0 1 2 0x41000000 0x00000000 ∷ triangle 4 5 3 0x41000000 0x00000000 ∷ [])
    (edge 0 2 1 0 0x40b504f3 0x40b504f3 0x00000000 0x00000000 ∷ edge 4 5 1 0 0x40b504f3 0x40b504f3 0x00000000 0x00000000 ∷ [])
    (side 0 1 ∷ side 1 2 ∷ side 5 3 ∷ side 3 4 ∷ side 2 0 ∷ side 4 5 ∷ [])

-- 0: just enough
abbrev case1105 : Case
case1105 = record { asked = meshes (cut_call true in1101 1 (blade 0xbf800000 0xbf800000 0x40a00000 0x40a00000) (bits 0x3dcccccd) (rooms 6 1024 3 6 7)); wanted = meshes (done out1105 (met 0 1 (point 0x00000000 0x00000000) (bits 0x00000000) ∷ met 1 2 (point 0x40800000 0x40800000) (bits 0x3f800000) ∷ met 0 3 (point 0x00000000 0x00000000) (bits 0x80000000) ∷ met 2 3 (point 0x40800000 0x40800000) (bits 0x80000000) ∷ split 4 0 ∷ removed 1 3 ∷ split 5 2 ∷ []) true) }

-- 6: the copy of the input comes first
abbrev case1106 : Case
case1106 = record { asked = meshes (cut_call true in1101 1 (blade 0xbf800000 0xbf800000 0x40a00000 0x40a00000) (bits 0x3dcccccd) (rooms 4 1024 1 6 3)); wanted = meshes (refused 6) }

abbrev in1107 : Mesh
in1107 =
    mesh
    (particle 0x00000000 0x00000000 0x00000000 0x00000000 0x3f800000 0x3f800000 0 0 ∷ particle 0x40800000 0x00000000 0x40800000 0x00000000 0x3f800000 0x3f800000 1 0 ∷ particle 0x41000000 0x00000000 0x41000000 0x00000000 0x3f800000 0x3f800000 2 0 ∷ particle 0x41400000 0x00000000 0x41400000 0x00000000 0x3f800000 0x3f800000 3 0 ∷ [])
    []
    (edge 0 1 1 1 0x40800000 0x40800000 0x3f800000 0x40000000 ∷ edge 1 2 1 1 0x40800000 0x40800000 0x3f800000 0x40400000 ∷ edge 2 3 1 1 0x40800000 0x40800000 0x3f800000 0x40800000 ∷ edge 0 2 0 1 0x41000000 0x41000000 0x3f800000 0x40a00000 ∷ edge 3 1 0 1 0x41000000 0x41000000 0x3f800000 0x40c00000 ∷ edge 0 3 0 1 0x41400000 0x41400000 0x3f800000 0x40e00000 ∷ [])
    (side 1 0 ∷ side 1 2 ∷ side 2 1 ∷ [])

-- 6: an insertion lacks an edge
abbrev case1107 : Case
case1107 = record { asked = meshes (cut_call true in1107 1 (blade 0x40c00000 0xbf800000 0x40c00000 0x3f800000) (bits 0x3dcccccd) (rooms 6 1024 6 6 9)); wanted = meshes (refused 6) }

-- 0: an insertion has just enough
abbrev case1108 : Case
case1108 = record { asked = meshes (cut_call true in1107 1 (blade 0x40c00000 0xbf800000 0x40c00000 0x3f800000) (bits 0x3dcccccd) (rooms 6 1024 7 5 4)); wanted = meshes (refused 8) }

-- 8: the bend edges lack log
abbrev case1109 : Case
case1109 = record { asked = meshes (cut_call true in1107 1 (blade 0x40c00000 0xbf800000 0x40c00000 0x3f800000) (bits 0x3dcccccd) (rooms 6 1024 7 5 3)); wanted = meshes (refused 8) }

abbrev in1110 : Mesh
in1110 =
    mesh
    (particle 0x00000000 0x00000000 0x00000000 0x00000000 0x3f800000 0x3f800000 0 0 ∷ particle 0x3f800000 0x00000000 0x3f800000 0x00000000 0x3f800000 0x3f800000 1 0 ∷ particle 0x3f800000 0x3f800000 0x3f800000 0x3f800000 0x3f800000 0x3f800000 2 0 ∷ particle 0x00000000 0x3f800000 0x00000000 0x3f800000 0x3f800000 0x3f800000 3 0 ∷ particle 0xbf800000 0x00000000 0xbf800000 0x00000000 0x3f800000 0x3f800000 4 0 ∷ particle 0xbf800000 0xbf800000 0xbf800000 0xbf800000 0x3f800000 0x3f800000 5 0 ∷ [])
    (triangle 0 1 2 0x3f000000 0x00000000 ∷ triangle 0 2 3 0x3f000000 0x00000000 ∷ triangle 0 4 5 0x3f000000 0x00000000 ∷ [])
    []
    []

-- 5: three groups are one step
abbrev case1110 : Case
case1110 = record { asked = meshes (split_call true in1110 0 (1 ∷ 0 ∷ 0 ∷ []) (rooms 7 1024 9 9 0)); wanted = meshes (refused 5) }

-- 8: three groups lack log
abbrev case1111 : Case
case1111 = record { asked = meshes (split_call true in1110 0 (1 ∷ 0 ∷ 0 ∷ []) (rooms 8 1024 9 9 1)); wanted = meshes (refused 8) }

abbrev in1112 : Mesh
in1112 =
    mesh
    (particle 0x00000000 0x00000000 0x00000000 0x00000000 0x3f800000 0x3f800000 0 0 ∷ particle 0x3f800000 0x00000000 0x3f800000 0x00000000 0x3f800000 0x3f800000 1 0 ∷ particle 0x40000000 0x00000000 0x40000000 0x00000000 0x3f800000 0x3f800000 2 0 ∷ particle 0x40400000 0x00000000 0x40400000 0x00000000 0x3f800000 0x3f800000 3 0 ∷ [])
    []
    (edge 0 1 1 0 0x3f800000 0x3f800000 0x00000000 0x00000000 ∷ edge 1 2 1 0 0x3f800000 0x3f800000 0x00000000 0x00000000 ∷ edge 2 3 1 0 0x3f800000 0x3f800000 0x00000000 0x00000000 ∷ [])
    []

-- 8: an opened edge lacks log
abbrev case1112 : Case
case1112 = record { asked = meshes (crack_call true in1112 (1 ∷ []) 1 (rooms 9 1024 9 9 1)); wanted = meshes (refused 8) }

abbrev in1113 : Mesh
in1113 =
    mesh
    (particle 0x00000000 0x00000000 0x00000000 0x00000000 0x3f800000 0x3f800000 0 0 ∷ particle 0x3f800000 0x00000000 0x3f800000 0x00000000 0x3f800000 0x3f800000 1 0 ∷ particle 0x00000000 0x3f800000 0x00000000 0x3f800000 0x3f800000 0x3f800000 2 0 ∷ particle 0x40a00000 0x40a00000 0x40a00000 0x40a00000 0x3f800000 0x3f800000 3 0 ∷ particle 0x40c00000 0x40a00000 0x40c00000 0x40a00000 0x3f800000 0x3f800000 4 0 ∷ particle 0x40a00000 0x40c00000 0x40a00000 0x40c00000 0x3f800000 0x3f800000 5 0 ∷ particle 0x41100000 0x41100000 0x41100000 0x41100000 0x3f800000 0x3f800000 6 0 ∷ [])
    (triangle 0 1 2 0x3f000000 0x00000000 ∷ triangle 3 4 5 0x3f000000 0x00000000 ∷ [])
    (edge 4 1 1 0 0x3f800000 0x3f800000 0x00000000 0x00000000 ∷ edge 0 6 0 0 0x3f800000 0x3f800000 0x00000000 0x00000000 ∷ [])
    (side 2 3 ∷ side 6 0 ∷ side 0 1 ∷ [])

-- 8: straddlers lack log
abbrev case1113 : Case
case1113 = record { asked = meshes (straddlers_call true in1113 (rooms 9 1024 9 9 0)); wanted = meshes (refused 8) }

-- 8: four marks come before a split that lacks a particle
abbrev case1114 : Case
case1114 = record { asked = meshes (cut_call true in1101 1 (blade 0xbf800000 0xbf800000 0x40a00000 0x40a00000) (bits 0x3dcccccd) (rooms 4 1024 2 4 3)); wanted = meshes (refused 8) }

-- 5: the marks have just enough
abbrev case1115 : Case
case1115 = record { asked = meshes (cut_call true in1101 1 (blade 0xbf800000 0xbf800000 0x40a00000 0x40a00000) (bits 0x3dcccccd) (rooms 4 1024 2 4 4)); wanted = meshes (refused 5) }

abbrev in1116 : Mesh
in1116 =
    mesh
    (particle 0x00000000 0x00000000 0x00000000 0x00000000 0x3f800000 0x3f800000 0 0 ∷ particle 0x41000000 0x00000000 0x41000000 0x00000000 0x3f800000 0x3f800000 1 0 ∷ [])
    []
    (edge 0 1 1 0 0x41000000 0x41000000 0x00000000 0x00000000 ∷ [])
    []

-- 8: the mark of a strap that is left whole
abbrev case1116 : Case
case1116 = record { asked = meshes (cut_call true in1116 1 (blade 0x3e99999a 0xbf800000 0x3f000000 0x3f800000) (bits 0x3dcccccd) (rooms 9 1024 9 9 0)); wanted = meshes (refused 8) }

abbrev pub cases : List Case
cases = case1101 ∷ case1102 ∷ case1103 ∷ case1104 ∷ case1105 ∷ case1106 ∷ case1107 ∷ case1108 ∷ case1109 ∷ case1110 ∷ case1111 ∷ case1112 ∷ case1113 ∷ case1114 ∷ case1115 ∷ case1116 ∷ []

pub agree : map (λ (c : Case). c.asked) cases ≡ map (λ (c : Case). c.wanted) cases
unfolding same_row_of any all sift sift_at find fold each pairs map_at_of tab up_to rising distinct disjoint padded keep kept_of nth merged join_pair join_row join_rows labelled abs_of max_of inv_of finite? number? volume? not_below0? floor_root root_units sign_of sum_of centroid_of lerp_of length_of blade_hit_of labels_of number_one number_side numbered groups_of count_of particle_ok triangle_ok edge_ok numbers_fit_of named root_ok corners_ok ends_ok side_ok indices_fit_of place_of rest_of besides sum kind_by kind_of triangles_from straps_from elements_of held rest_measure the_rest_measure_of fan_of grid_of parts_of opening_of splits? made weight_of total_of mass_of portion copied group_at_of rewired_triangles rewired_straps ring score_of scored toward edge_groups stayed doubled other_edges parted straddles side_group followed face_on facets_at crack_facets at_longest settled split_entries gone_entries split_made split_step split_by_sides_of shared_of piece_labels piece_count pieces body_labels bodies body_of spans across? without_straddlers straddlers_gone remove_straddlers_of reach_labels labels_at members_of reach_of opens_without_confetti_of meets left_of kept_side blade_sides split_by_blade split_ends near_corners pinched split_free split_pinched_of candidates cut_facets_of crossings near_end straps_at strap_share insertion_of wanted? insertable side_along bends numbers_of bends_over lightened between inserted_particles half_of inserted_edges shortened appended inserted_sides inserted_mesh insert_step inserted_at snapped_at crossed unbent slackened split_snapped_of after_crossings cut_segments_of marks_of marked_by cut_along cut largest_stress stress_between triangle_load loads_of family cross_pairs current_of current_pair beyond far_side mean_load two_sided_of way_at ways_of damaged_at torn crack_by crack_pair crack_edge torn_ends crack start step_to splits_of changed sides_ok strictly particles_ok refusal too_small first_fault outcome cut_call crack_call split_call straddlers_call blade_call groups_call rest_measure_call rest_measure_of_call opens_call pieces_call state_call is_nan neg add sub mul div lt le eq ne of_int of_bits
agree = refl
