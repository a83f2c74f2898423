-- Bodies and pieces of small meshes and of the worked cuts, by computation. Assumes nothing.
use mathlib.Core.Path.{◌≡◌, refl}
use mathlib.Core.Bool.{true}
use mathlib.Core.List.{List, [], ◌∷◌, ◌++◌, map}
use lib.IntN.{pos, negsuc}
use lib.Ieee.{fin, is_nan, neg, add, sub, mul, div, lt, le, eq, ne, of_int, of_bits}
use Rattle.float.specs.Numbers.{zero32, one, half}
use Rattle.blade.specs.declared.Point.{Point}
use Rattle.model.specs.Run.{Entry, split, edge as removed, met}
use Rattle.model.specs.Starred.{point, triangle, edge, tenth, limits, listing_mesh, blade}
use Rattle.piece_classes.specs.Examples.{counts, said, told_of, one_pin, two_pins, letter_mesh, triangles, straps}
use Rattle.lists.specs.Lists.{any, all, sift, sift_at, find, fold, each, pairs, map_at_of, tab, up_to, rising, distinct, disjoint, padded, keep, kept_of, nth}
use Rattle.lists.specs.Labels.{merged, join_pair, join_row, join_rows, labelled}
use Rattle.float.specs.Numbers.{abs_of, max_of, inv_of}
use Rattle.float.specs.Ranges.{finite?, number?, volume?, not_below0?}
use Rattle.float.specs.Root.{floor_root, root_units}
use Rattle.float.specs.Order.{sign_of}
use Rattle.blade.specs.Points.{sum_of, centroid_of, lerp_of, length_of}
use Rattle.blade.specs.Blade.{blade_hit_of}
use Rattle.fan.specs.Groups.{labels_of, number_one, number_side, numbered, groups_of, count_of}
use Rattle.model.specs.Valid.{particle_ok, triangle_ok, edge_ok, numbers_fit_of, named, root_ok, corners_ok, ends_ok, side_ok, indices_fit_of}
use Rattle.model.specs.Elements.{place_of, rest_of, besides, sum, kind_by, kind_of, triangles_from, straps_from, elements_of, held, rest_measure, the_rest_measure_of, fan_of, grid_of}
use Rattle.model.specs.Split.{parts_of, opening_of, splits?, made, weight_of, total_of, mass_of, portion, copied, group_at_of, rewired_triangles, rewired_straps, ring, score_of, scored, toward, edge_groups, stayed, doubled, other_edges, parted, straddles, side_group, followed, face_on, facets_at, crack_facets, at_longest, settled, split_entries, gone_entries, split_made, split_step, split_by_sides_of}
use Rattle.model.specs.Pieces.{shared_of, piece_labels, piece_count, pieces, body_labels, bodies, body_of, spans, across?, without_straddlers, straddlers_gone, remove_straddlers_of, reach_labels, labels_at, members_of, reach_of, opens_without_confetti_of}
use Rattle.model.specs.Cut.{meets, left_of, kept_side, blade_sides, split_by_blade, split_ends, near_corners, pinched, split_free, split_pinched_of, candidates, cut_facets_of, crossings, near_end, straps_at, strap_share, insertion_of, wanted?, insertable, side_along, bends, numbers_of, bends_over, lightened, between, inserted_particles, half_of, inserted_edges, shortened, appended, inserted_sides, inserted_mesh, insert_step, inserted_at, snapped_at, crossed, unbent, slackened, split_snapped_of, after_crossings, cut_segments_of, marks_of, marked_by, cut_along, cut}
use Rattle.model.specs.Crack.{largest_stress, stress_between, triangle_load, loads_of, family, cross_pairs, current_of, current_pair, beyond, far_side, mean_load, two_sided_of, way_at, ways_of, damaged_at, torn, crack_by, crack_pair, crack_edge, torn_ends, crack}
use Rattle.model.specs.Run.{start, step_to, splits_of, changed}
use Rattle.model.specs.Calls.{sides_ok, strictly, particles_ok, refusal, too_small, first_fault, outcome, cut_call, crack_call, split_call, straddlers_call}
use Rattle.model.specs.Reads.{blade_call, groups_call, rest_measure_call, rest_measure_of_call, opens_call, pieces_call, state_call}

-- two triangles at one corner; two at a side; a triangle and its double; three on one side; two straps in a row; no element
pub small_meshes : map counts
    (triangles (triangle 0 1 2 half ∷ triangle 0 4 3 half ∷ [])
    ∷ triangles (triangle 0 1 2 half ∷ triangle 0 2 3 half ∷ [])
    ∷ triangles (triangle 0 1 2 half ∷ triangle 2 1 0 half ∷ [])
    ∷ triangles (triangle 0 1 2 half ∷ triangle 1 0 3 half ∷ triangle 4 0 1 half ∷ [])
    ∷ straps (edge 0 1 1 one ∷ edge 1 2 1 one ∷ [])
    ∷ straps []
    ∷ [])
    ≡ (1, 2) ∷ (1, 1) ∷ (1, 1) ∷ (1, 1) ∷ (1, 1) ∷ (0, 0) ∷ []
unfolding any all sift tab up_to distinct merged join_pair join_row join_rows labelled kind_by kind_of triangles_from straps_from elements_of body_labels bodies shared_of piece_labels piece_count pieces
small_meshes = refl

-- An element that names a particle twice would share two particles one way and one the other. No accepted mesh has such an element (refusal 3).
pub named_twice : shared_of (0 ∷ 0 ∷ 1 ∷ []) (0 ∷ 2 ∷ 3 ∷ []) ∷ shared_of (0 ∷ 2 ∷ 3 ∷ []) (0 ∷ 0 ∷ 1 ∷ []) ∷ [] ≡ 2 ∷ 1 ∷ []
unfolding sift shared_of
named_twice = refl

-- the marks of the diagonal through 0 and 2, where 2 is at p: the sides that it meets end there
abbrev met_at : Point → List Entry
met_at p =
    met 0 1 (point (pos 0) (pos 0)) zero32 ∷ met 1 2 p one ∷ met 0 3 (point (pos 0) (pos 0)) (fin true 0 (pos 0)) ∷ met 2 3 p (fin true 0 (pos 0)) ∷ []

-- the listing's mesh, blade (-1,-1) to (5,5), fraction 0.1: two pieces, as before
pub listing_keeps : told_of (cut_call true listing_mesh 1 (blade (negsuc 0) (negsuc 0) (pos 5) (pos 5)) tenth limits)
    ≡ said (met_at (point (pos 4) (pos 4)) ++ (split 4 0 ∷ removed 1 3 ∷ split 5 2 ∷ [])) 6 (2, 2)
unfolding any all sift sift_at find fold each pairs map_at_of tab up_to rising distinct disjoint padded keep kept_of nth merged join_pair join_row join_rows labelled abs_of max_of inv_of finite? number? volume? not_below0? floor_root root_units sign_of sum_of centroid_of lerp_of length_of blade_hit_of labels_of number_one number_side numbered groups_of count_of particle_ok triangle_ok edge_ok numbers_fit_of named root_ok corners_ok ends_ok side_ok indices_fit_of place_of rest_of besides sum kind_by kind_of triangles_from straps_from elements_of held rest_measure the_rest_measure_of fan_of grid_of parts_of opening_of splits? made weight_of total_of mass_of portion copied group_at_of rewired_triangles rewired_straps ring score_of scored toward edge_groups stayed doubled other_edges parted straddles side_group followed face_on facets_at crack_facets at_longest settled split_entries gone_entries split_made split_step split_by_sides_of body_labels bodies piece_labels piece_count shared_of pieces body_of spans across? without_straddlers straddlers_gone remove_straddlers_of reach_labels labels_at members_of reach_of opens_without_confetti_of meets left_of kept_side blade_sides split_by_blade split_ends near_corners pinched split_free split_pinched_of candidates cut_facets_of crossings near_end straps_at strap_share insertion_of wanted? insertable side_along bends numbers_of bends_over lightened between inserted_particles half_of inserted_edges shortened appended inserted_sides inserted_mesh insert_step inserted_at snapped_at crossed unbent slackened split_snapped_of after_crossings cut_segments_of marks_of marked_by cut_along cut largest_stress stress_between triangle_load loads_of family cross_pairs current_of current_pair beyond far_side mean_load two_sided_of way_at ways_of damaged_at torn crack_by crack_pair crack_edge torn_ends crack start step_to splits_of changed sides_ok strictly particles_ok refusal too_small first_fault outcome cut_call crack_call split_call straddlers_call blade_call groups_call rest_measure_call rest_measure_of_call opens_call pieces_call state_call is_nan neg add sub mul div lt le eq ne of_int of_bits
listing_keeps = refl

-- the same with particle 0 pinned: one body that the pin holds together, and two pieces
pub pinned_parts : told_of (cut_call true one_pin 1 (blade (negsuc 0) (negsuc 0) (pos 5) (pos 5)) tenth limits)
    ≡ said (met_at (point (pos 4) (pos 4)) ++ (split 4 2 ∷ removed 1 3 ∷ [])) 5 (1, 2)
unfolding any all sift sift_at find fold each pairs map_at_of tab up_to rising distinct disjoint padded keep kept_of nth merged join_pair join_row join_rows labelled abs_of max_of inv_of finite? number? volume? not_below0? floor_root root_units sign_of sum_of centroid_of lerp_of length_of blade_hit_of labels_of number_one number_side numbered groups_of count_of particle_ok triangle_ok edge_ok numbers_fit_of named root_ok corners_ok ends_ok side_ok indices_fit_of place_of rest_of besides sum kind_by kind_of triangles_from straps_from elements_of held rest_measure the_rest_measure_of fan_of grid_of parts_of opening_of splits? made weight_of total_of mass_of portion copied group_at_of rewired_triangles rewired_straps ring score_of scored toward edge_groups stayed doubled other_edges parted straddles side_group followed face_on facets_at crack_facets at_longest settled split_entries gone_entries split_made split_step split_by_sides_of body_labels bodies piece_labels piece_count shared_of pieces body_of spans across? without_straddlers straddlers_gone remove_straddlers_of reach_labels labels_at members_of reach_of opens_without_confetti_of meets left_of kept_side blade_sides split_by_blade split_ends near_corners pinched split_free split_pinched_of candidates cut_facets_of crossings near_end straps_at strap_share insertion_of wanted? insertable side_along bends numbers_of bends_over lightened between inserted_particles half_of inserted_edges shortened appended inserted_sides inserted_mesh insert_step inserted_at snapped_at crossed unbent slackened split_snapped_of after_crossings cut_segments_of marks_of marked_by cut_along cut largest_stress stress_between triangle_load loads_of family cross_pairs current_of current_pair beyond far_side mean_load two_sided_of way_at ways_of damaged_at torn crack_by crack_pair crack_edge torn_ends crack start step_to splits_of changed sides_ok strictly particles_ok refusal too_small first_fault outcome cut_call crack_call split_call straddlers_call blade_call groups_call rest_measure_call rest_measure_of_call opens_call pieces_call state_call is_nan neg add sub mul div lt le eq ne of_int of_bits
pinned_parts = refl

-- with 0 and 2 pinned nothing splits
pub pinned_both : told_of (cut_call true two_pins 1 (blade (negsuc 0) (negsuc 0) (pos 5) (pos 5)) tenth limits)
    ≡ said (met_at (point (pos 4) (pos 4))) 4 (1, 1)
unfolding any all sift sift_at find fold each pairs map_at_of tab up_to rising distinct disjoint padded keep kept_of nth merged join_pair join_row join_rows labelled abs_of max_of inv_of finite? number? volume? not_below0? floor_root root_units sign_of sum_of centroid_of lerp_of length_of blade_hit_of labels_of number_one number_side numbered groups_of count_of particle_ok triangle_ok edge_ok numbers_fit_of named root_ok corners_ok ends_ok side_ok indices_fit_of place_of rest_of besides sum kind_by kind_of triangles_from straps_from elements_of held rest_measure the_rest_measure_of fan_of grid_of parts_of opening_of splits? made weight_of total_of mass_of portion copied group_at_of rewired_triangles rewired_straps ring score_of scored toward edge_groups stayed doubled other_edges parted straddles side_group followed face_on facets_at crack_facets at_longest settled split_entries gone_entries split_made split_step split_by_sides_of body_labels bodies piece_labels piece_count shared_of pieces body_of spans across? without_straddlers straddlers_gone remove_straddlers_of reach_labels labels_at members_of reach_of opens_without_confetti_of meets left_of kept_side blade_sides split_by_blade split_ends near_corners pinched split_free split_pinched_of candidates cut_facets_of crossings near_end straps_at strap_share insertion_of wanted? insertable side_along bends numbers_of bends_over lightened between inserted_particles half_of inserted_edges shortened appended inserted_sides inserted_mesh insert_step inserted_at snapped_at crossed unbent slackened split_snapped_of after_crossings cut_segments_of marks_of marked_by cut_along cut largest_stress stress_between triangle_load loads_of family cross_pairs current_of current_pair beyond far_side mean_load two_sided_of way_at ways_of damaged_at torn crack_by crack_pair crack_edge torn_ends crack start step_to splits_of changed sides_ok strictly particles_ok refusal too_small first_fault outcome cut_call crack_call split_call straddlers_call blade_call groups_call rest_measure_call rest_measure_of_call opens_call pieces_call state_call is_nan neg add sub mul div lt le eq ne of_int of_bits
pinned_both = refl

-- "I cut exactly along the line on the lesson page and it says one piece, but the halves slide apart": the square cut along its diagonal, from the pin to the far
-- corner, is one body and two pieces
pub letter_parts : told_of (cut_call true letter_mesh 1 (blade (pos 0) (pos 0) (pos 1) (pos 1)) tenth limits) ≡ said (met_at (point (pos 1) (pos 1)) ++ (split 4 2 ∷ [])) 5 (1, 2)
unfolding any all sift sift_at find fold each pairs map_at_of tab up_to rising distinct disjoint padded keep kept_of nth merged join_pair join_row join_rows labelled abs_of max_of inv_of finite? number? volume? not_below0? floor_root root_units sign_of sum_of centroid_of lerp_of length_of blade_hit_of labels_of number_one number_side numbered groups_of count_of particle_ok triangle_ok edge_ok numbers_fit_of named root_ok corners_ok ends_ok side_ok indices_fit_of place_of rest_of besides sum kind_by kind_of triangles_from straps_from elements_of held rest_measure the_rest_measure_of fan_of grid_of parts_of opening_of splits? made weight_of total_of mass_of portion copied group_at_of rewired_triangles rewired_straps ring score_of scored toward edge_groups stayed doubled other_edges parted straddles side_group followed face_on facets_at crack_facets at_longest settled split_entries gone_entries split_made split_step split_by_sides_of body_labels bodies piece_labels piece_count shared_of pieces body_of spans across? without_straddlers straddlers_gone remove_straddlers_of reach_labels labels_at members_of reach_of opens_without_confetti_of meets left_of kept_side blade_sides split_by_blade split_ends near_corners pinched split_free split_pinched_of candidates cut_facets_of crossings near_end straps_at strap_share insertion_of wanted? insertable side_along bends numbers_of bends_over lightened between inserted_particles half_of inserted_edges shortened appended inserted_sides inserted_mesh insert_step inserted_at snapped_at crossed unbent slackened split_snapped_of after_crossings cut_segments_of marks_of marked_by cut_along cut largest_stress stress_between triangle_load loads_of family cross_pairs current_of current_pair beyond far_side mean_load two_sided_of way_at ways_of damaged_at torn crack_by crack_pair crack_edge torn_ends crack start step_to splits_of changed sides_ok strictly particles_ok refusal too_small first_fault outcome cut_call crack_call split_call straddlers_call blade_call groups_call rest_measure_call rest_measure_of_call opens_call pieces_call state_call is_nan neg add sub mul div lt le eq ne of_int of_bits
letter_parts = refl
