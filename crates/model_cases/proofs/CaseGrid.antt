-- Grid: the published Rust's answers, computed. Made by oracle/cases.py of oracle/cases.txt, which the oracle wrote from the published Rust.
-- Assumes nothing.
use mathlib.Core.Path.{◌≡◌, refl}
use mathlib.Core.Bool.{true, false}
use mathlib.Core.List.{List, [], ◌∷◌, map}
use lib.Ieee.{is_nan, neg, add, sub, mul, div, lt, le, eq, ne, of_int, of_bits}
use Rattle.blade.specs.declared.Hit.TheVariants.{Miss, Hit as HitAt}
use Rattle.model.specs.Mesh.{Mesh}
use Rattle.model.specs.Pieces.{default_min_piece}
use Rattle.model.specs.Run.{split, edge as removed, insert, opened, met}
use Rattle.model.specs.Calls.{refused, done}
use Rattle.model.specs.Reads.{refused as denied, value}
use Rattle.model.specs.Starred.{Case, meshes, groups, flag, number, float, hit}
use Rattle.model.proofs.Asked.{bits, point, blade, rooms, mesh, particle, triangle, edge, side}
use Rattle.lists.specs.Lists.{same_row_of, any, all, sift, sift_at, find, fold, each, pairs, map_at_of, tab, up_to, rising, distinct, disjoint, padded, keep, kept_of, nth}
use Rattle.lists.specs.Labels.{merged, join_pair, join_row, join_rows, labelled}
use Rattle.float.specs.Numbers.{abs_of, max_of, inv_of}
use Rattle.float.specs.Ranges.{finite?, number?, volume?, not_below0?}
use Rattle.float.specs.Root.{floor_root, root_units}
use Rattle.float.specs.Order.{sign_of}
use Rattle.blade.specs.Points.{sum_of, centroid_of, lerp_of, length_of}
use Rattle.blade.specs.Blade.{blade_hit_of}
use Rattle.fan.specs.Groups.{labels_of, number_one, number_side, numbered, groups_of, count_of}
use Rattle.model.specs.Valid.{particle_ok, triangle_ok, edge_ok, numbers_fit_of, named, root_ok, corners_ok, ends_ok, side_ok, indices_fit_of}
use Rattle.model.specs.Elements.{place_of, rest_of, besides, sum, kind_by, kind_of, triangles_from, straps_from, elements_of, held, rest_measure, the_rest_measure_of, fan_of, grid_of}
use Rattle.model.specs.Split.{parts_of, opening_of, splits?, made, weight_of, total_of, mass_of, portion, copied, group_at_of, rewired_triangles, rewired_straps, ring, score_of, scored, toward, edge_groups, stayed, doubled, other_edges, parted, straddles, side_group, followed, face_on, facets_at, crack_facets, at_longest, settled, split_entries, gone_entries, split_made, split_step, split_by_sides_of}
use Rattle.model.specs.Pieces.{shared_of, piece_labels, piece_count, pieces, body_labels, bodies, body_of, spans, across?, without_straddlers, straddlers_gone, remove_straddlers_of, reach_labels, labels_at, members_of, reach_of, opens_without_confetti_of}
use Rattle.model.specs.Cut.{meets, left_of, kept_side, blade_sides, split_by_blade, split_ends, near_corners, pinched, split_free, split_pinched_of, candidates, cut_facets_of, crossings, near_end, straps_at, strap_share, insertion_of, wanted?, insertable, side_along, bends, numbers_of, bends_over, lightened, between, inserted_particles, half_of, inserted_edges, shortened, appended, inserted_sides, inserted_mesh, insert_step, inserted_at, snapped_at, crossed, unbent, slackened, split_snapped_of, after_crossings, cut_segments_of, marks_of, marked_by, cut_along, cut}
use Rattle.model.specs.Crack.{largest_stress, stress_between, triangle_load, loads_of, family, cross_pairs, current_of, current_pair, beyond, far_side, mean_load, two_sided_of, way_at, ways_of, damaged_at, torn, crack_by, crack_pair, crack_edge, torn_ends, crack}
use Rattle.model.specs.Run.{start, step_to, splits_of, changed}
use Rattle.model.specs.Calls.{sides_ok, strictly, particles_ok, refusal, too_small, first_fault, outcome, cut_call, crack_call, split_call, straddlers_call}
use Rattle.model.specs.Reads.{blade_call, groups_call, rest_measure_call, rest_measure_of_call, opens_call, pieces_call, state_call}

abbrev in401 : Mesh
in401 =
    mesh
    (particle 0x00000000 0x00000000 0x00000000 0x00000000 0x3f800000 0x3f800000 0 0 ∷ particle 0x3f800000 0x00000000 0x3f800000 0x00000000 0x3f800000 0x3f800000 1 0 ∷ particle 0x40000000 0x00000000 0x40000000 0x00000000 0x3f800000 0x3f800000 2 0 ∷ particle 0x00000000 0x3f800000 0x00000000 0x3f800000 0x3f800000 0x3f800000 3 0 ∷ particle 0x3f800000 0x3f800000 0x3f800000 0x3f800000 0x3f800000 0x3f800000 4 0 ∷ particle 0x40000000 0x3f800000 0x40000000 0x3f800000 0x3f800000 0x3f800000 5 0 ∷ [])
    (triangle 0 1 4 0x3f000000 0x00000000 ∷ triangle 0 4 3 0x3f000000 0x00000000 ∷ triangle 1 2 5 0x3f000000 0x00000000 ∷ triangle 1 5 4 0x3f000000 0x00000000 ∷ [])
    (edge 0 1 1 0 0x3f800000 0x3f800000 0x00000000 0xbf800000 ∷ edge 1 2 1 0 0x3f800000 0x3f800000 0x3f000000 0xbf400000 ∷ edge 3 4 1 0 0x3f800000 0x3f800000 0x3f800000 0xbf000000 ∷ edge 4 5 1 0 0x3f800000 0x3f800000 0x3fc00000 0xbe800000 ∷ edge 0 3 0 0 0x3f800000 0x3f800000 0x40000000 0x00000000 ∷ edge 1 4 0 0 0x3f800000 0x3f800000 0x40200000 0x3e800000 ∷ edge 2 5 0 0 0x3f800000 0x3f800000 0x40400000 0x3f000000 ∷ edge 0 4 0 0 0x3f800000 0x3f800000 0x40600000 0x3f400000 ∷ edge 1 5 0 0 0x3f800000 0x3f800000 0x40800000 0x3f800000 ∷ edge 3 1 0 0 0x3f800000 0x3f800000 0x40900000 0x3fa00000 ∷ edge 4 2 0 0 0x3f800000 0x3f800000 0x40a00000 0x3fc00000 ∷ edge 3 5 0 0 0x3f800000 0x3f800000 0x40b00000 0x3fe00000 ∷ [])
    (side 0 1 ∷ side 1 2 ∷ side 2 5 ∷ side 5 4 ∷ side 4 3 ∷ side 3 0 ∷ [])

abbrev out401 : Mesh
out401 =
    mesh
    (particle 0x00000000 0x00000000 0x00000000 0x00000000 0x3f800000 0x3f800000 0 0 ∷ particle 0x3f800000 0x00000000 0x3f800000 0x00000000 0x3eaaaaab 0x40400000 1 0 ∷ particle 0x40000000 0x00000000 0x40000000 0x00000000 0x3f800000 0x3f800000 2 0 ∷ particle 0x00000000 0x3f800000 0x00000000 0x3f800000 0x3f800000 0x3f800000 3 0 ∷ particle 0x3f800000 0x3f800000 0x3f800000 0x3f800000 0x3f2aaaab 0x3fc00000 4 0 ∷ particle 0x40000000 0x3f800000 0x40000000 0x3f800000 0x3f800000 0x3f800000 5 0 ∷ particle 0x3f800000 0x00000000 0x3f800000 0x00000000 0x3f2aaaab 0x3fc00000 1 0 ∷ particle 0x3f800000 0x3f800000 0x3f800000 0x3f800000 0x3eaaaaab 0x40400000 4 0 ∷ [])
    (triangle 0 1 4 0x3f000000 0x00000000 ∷ triangle 0 4 3 0x3f000000 0x00000000 ∷ triangle 6 2 5 0x3f000000 0x00000000 ∷ triangle 6 5 7 0x3f000000 0x00000000 ∷ [])
    (edge 0 1 1 0 0x3f800000 0x3f800000 0x00000000 0xbf800000 ∷ edge 6 2 1 0 0x3f800000 0x3f800000 0x3f000000 0xbf400000 ∷ edge 3 4 1 0 0x3f800000 0x3f800000 0x3f800000 0xbf000000 ∷ edge 7 5 1 0 0x3f800000 0x3f800000 0x3fc00000 0xbe800000 ∷ edge 0 3 0 0 0x3f800000 0x3f800000 0x40000000 0x00000000 ∷ edge 1 4 0 0 0x3f800000 0x3f800000 0x40200000 0x3e800000 ∷ edge 2 5 0 0 0x3f800000 0x3f800000 0x40400000 0x3f000000 ∷ edge 0 4 0 0 0x3f800000 0x3f800000 0x40600000 0x3f400000 ∷ edge 6 5 0 0 0x3f800000 0x3f800000 0x40800000 0x3f800000 ∷ edge 3 1 0 0 0x3f800000 0x3f800000 0x40900000 0x3fa00000 ∷ edge 4 2 0 0 0x3f800000 0x3f800000 0x40a00000 0x3fc00000 ∷ edge 6 7 0 0 0x3f800000 0x3f800000 0x00000000 0x3e800000 ∷ [])
    (side 0 1 ∷ side 6 2 ∷ side 2 5 ∷ side 5 7 ∷ side 4 3 ∷ side 3 0 ∷ side 1 4 ∷ side 7 6 ∷ [])

-- a grid with all edges, blade along a line of particles
abbrev case401 : Case
case401 = record { asked = meshes (cut_call true in401 1 (blade 0x3f800000 0xbf800000 0x3f800000 0x40000000) (bits 0x3dcccccd) (rooms 1024 1024 2048 2048 4096)); wanted = meshes (done out401 (met 0 1 (point 0x3f800000 0x00000000) (bits 0x3f800000) ∷ met 0 4 (point 0x3f800000 0x3f800000) (bits 0x3f800000) ∷ met 0 4 (point 0x3f800000 0x3f800000) (bits 0x3f800000) ∷ met 4 3 (point 0x3f800000 0x3f800000) (bits 0x80000000) ∷ met 1 2 (point 0x3f800000 0x00000000) (bits 0x00000000) ∷ met 1 5 (point 0x3f800000 0x00000000) (bits 0x00000000) ∷ met 1 5 (point 0x3f800000 0x00000000) (bits 0x00000000) ∷ met 5 4 (point 0x3f800000 0x3f800000) (bits 0x3f800000) ∷ split 6 1 ∷ split 7 4 ∷ removed 3 5 ∷ []) true) }

abbrev out402 : Mesh
out402 =
    mesh
    (particle 0x00000000 0x00000000 0x00000000 0x00000000 0x3f800000 0x3f800000 0 0 ∷ particle 0x3f800000 0x00000000 0x3f800000 0x00000000 0x3f2aaaab 0x3fc00000 1 0 ∷ particle 0x40000000 0x00000000 0x40000000 0x00000000 0x3f800000 0x3f800000 2 0 ∷ particle 0x00000000 0x3f800000 0x00000000 0x3f800000 0x3f800000 0x3f800000 3 0 ∷ particle 0x3f800000 0x3f800000 0x3f800000 0x3f800000 0x3f2aaaab 0x3fc00000 4 0 ∷ particle 0x40000000 0x3f800000 0x40000000 0x3f800000 0x3f800000 0x3f800000 5 0 ∷ particle 0x3f800000 0x00000000 0x3f800000 0x00000000 0x3eaaaaab 0x40400000 1 0 ∷ particle 0x3f800000 0x3f800000 0x3f800000 0x3f800000 0x3eaaaaab 0x40400000 4 0 ∷ [])
    (triangle 0 6 4 0x3f000000 0x00000000 ∷ triangle 0 4 3 0x3f000000 0x00000000 ∷ triangle 1 2 5 0x3f000000 0x00000000 ∷ triangle 1 5 7 0x3f000000 0x00000000 ∷ [])
    (edge 0 6 1 0 0x3f800000 0x3f800000 0x00000000 0xbf800000 ∷ edge 1 2 1 0 0x3f800000 0x3f800000 0x3f000000 0xbf400000 ∷ edge 3 4 1 0 0x3f800000 0x3f800000 0x3f800000 0xbf000000 ∷ edge 7 5 1 0 0x3f800000 0x3f800000 0x3fc00000 0xbe800000 ∷ edge 0 3 0 0 0x3f800000 0x3f800000 0x40000000 0x00000000 ∷ edge 1 7 0 0 0x3f800000 0x3f800000 0x40200000 0x3e800000 ∷ edge 2 5 0 0 0x3f800000 0x3f800000 0x40400000 0x3f000000 ∷ edge 0 4 0 0 0x3f800000 0x3f800000 0x40600000 0x3f400000 ∷ edge 1 5 0 0 0x3f800000 0x3f800000 0x40800000 0x3f800000 ∷ edge 3 6 0 0 0x3f800000 0x3f800000 0x40900000 0x3fa00000 ∷ edge 4 2 0 0 0x3f800000 0x3f800000 0x40a00000 0x3fc00000 ∷ edge 6 4 0 0 0x3f800000 0x3f800000 0x00000000 0x3e800000 ∷ [])
    (side 0 6 ∷ side 1 2 ∷ side 2 5 ∷ side 5 7 ∷ side 4 3 ∷ side 3 0 ∷ side 6 4 ∷ side 7 1 ∷ [])

-- a grid with all edges, slanted blade
abbrev case402 : Case
case402 = record { asked = meshes (cut_call true in401 1 (blade 0x3f666666 0xbf000000 0x3f99999a 0x3fc00000) (bits 0x3dcccccd) (rooms 1024 1024 2048 2048 4096)); wanted = meshes (done out402 (met 0 1 (point 0x3f79999a 0x00000000) (bits 0x3f79999a) ∷ met 1 4 (point 0x3f800000 0x3e2aaaab) (bits 0x3e2aaaab) ∷ met 1 4 (point 0x3f800000 0x3e2aaaab) (bits 0x3e2aaaab) ∷ met 5 4 (point 0x3f900000 0x3f800000) (bits 0x3f600000) ∷ split 6 1 ∷ split 7 4 ∷ removed 3 5 ∷ []) true) }

abbrev pub cases : List Case
cases = case401 ∷ case402 ∷ []

pub agree : map (λ (c : Case). c.asked) cases ≡ map (λ (c : Case). c.wanted) cases
unfolding same_row_of any all sift sift_at find fold each pairs map_at_of tab up_to rising distinct disjoint padded keep kept_of nth merged join_pair join_row join_rows labelled abs_of max_of inv_of finite? number? volume? not_below0? floor_root root_units sign_of sum_of centroid_of lerp_of length_of blade_hit_of labels_of number_one number_side numbered groups_of count_of particle_ok triangle_ok edge_ok numbers_fit_of named root_ok corners_ok ends_ok side_ok indices_fit_of place_of rest_of besides sum kind_by kind_of triangles_from straps_from elements_of held rest_measure the_rest_measure_of fan_of grid_of parts_of opening_of splits? made weight_of total_of mass_of portion copied group_at_of rewired_triangles rewired_straps ring score_of scored toward edge_groups stayed doubled other_edges parted straddles side_group followed face_on facets_at crack_facets at_longest settled split_entries gone_entries split_made split_step split_by_sides_of shared_of piece_labels piece_count pieces body_labels bodies body_of spans across? without_straddlers straddlers_gone remove_straddlers_of reach_labels labels_at members_of reach_of opens_without_confetti_of meets left_of kept_side blade_sides split_by_blade split_ends near_corners pinched split_free split_pinched_of candidates cut_facets_of crossings near_end straps_at strap_share insertion_of wanted? insertable side_along bends numbers_of bends_over lightened between inserted_particles half_of inserted_edges shortened appended inserted_sides inserted_mesh insert_step inserted_at snapped_at crossed unbent slackened split_snapped_of after_crossings cut_segments_of marks_of marked_by cut_along cut largest_stress stress_between triangle_load loads_of family cross_pairs current_of current_pair beyond far_side mean_load two_sided_of way_at ways_of damaged_at torn crack_by crack_pair crack_edge torn_ends crack start step_to splits_of changed sides_ok strictly particles_ok refusal too_small first_fault outcome cut_call crack_call split_call straddlers_call blade_call groups_call rest_measure_call rest_measure_of_call opens_call pieces_call state_call is_nan neg add sub mul div lt le eq ne of_int of_bits
agree = refl
