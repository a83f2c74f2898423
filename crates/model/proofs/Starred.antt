-- The starred cases of docs/RULES.md (R15) in one statement, and the two worked meshes. The unfolding lines are made by oracle/cases.py. Assumes nothing.
use Prim.Native.Nat.{ℕ}
use mathlib.Core.Path.{◌≡◌, refl}
use mathlib.Core.Bool.{Bool, true, false}
use mathlib.Core.List.{List, [], ◌∷◌, map}
use lib.IntN.{pos, negsuc}
use lib.ListN.{length}
use lib.Ieee.{Float, fin, is_nan, neg, add, sub, mul, div, lt, le, eq, ne, of_int, of_bits}
use Rattle.float.specs.Numbers.{zero32, one}
use Rattle.model.specs.Mesh.{Particle}
use Rattle.model.specs.Elements.{ends_of, side_ends}
use Rattle.model.specs.Run.{Entry, split, edge as removed, insert, met}
use Rattle.model.specs.Calls.{Outcome, refused, done}
use Rattle.model.specs.Reads.{refused as denied, value}
use Rattle.model.specs.Starred.{Case, pinned_mesh, point, quarter, tenth, limits, strap_mesh, listing_mesh, blade, starred}
-- opened
use Rattle.lists.specs.Lists.{same_row_of, any, all, sift, sift_at, find, fold, each, pairs, map_at_of, tab, up_to, rising, distinct, disjoint, padded, keep, kept_of, nth}
use Rattle.lists.specs.Labels.{merged, join_pair, join_row, join_rows, labelled}
use Rattle.float.specs.Numbers.{abs_of, max_of, inv_of}
use Rattle.float.specs.Ranges.{finite?, number?, volume?, not_below0?}
use Rattle.float.specs.Root.{floor_root, root_units}
use Rattle.float.specs.Order.{sign_of}
use Rattle.blade.specs.Points.{sum_of, centroid_of, lerp_of, length_of}
use Rattle.blade.specs.Blade.{blade_hit_of}
use Rattle.fan.specs.Groups.{labels_of, number_one, number_side, numbered, groups_of, count_of}
use Rattle.model.specs.Valid.{particle_ok, triangle_ok, edge_ok, numbers_fit_of, named, root_ok, corners_ok, ends_ok, side_ok, indices_fit_of}
use Rattle.model.specs.Elements.{place_of, rest_of, besides, sum, kind_by, kind_of, triangles_from, straps_from, elements_of, held, rest_measure, the_rest_measure_of, fan_of, grid_of}
use Rattle.model.specs.Split.{parts_of, opening_of, splits?, made, weight_of, total_of, mass_of, portion, copied, group_at_of, rewired_triangles, rewired_straps, ring, score_of, scored, toward, edge_groups, stayed, doubled, other_edges, parted, straddles, side_group, followed, face_on, facets_at, crack_facets, at_longest, settled, split_entries, gone_entries, split_made, split_step, split_by_sides_of}
use Rattle.model.specs.Pieces.{shared_of, piece_labels, piece_count, pieces, body_labels, bodies, body_of, spans, across?, without_straddlers, straddlers_gone, remove_straddlers_of, reach_labels, labels_at, members_of, reach_of, opens_without_confetti_of}
use Rattle.model.specs.Cut.{meets, left_of, kept_side, blade_sides, split_by_blade, split_ends, near_corners, pinched, split_free, split_pinched_of, candidates, cut_facets_of, crossings, near_end, straps_at, strap_share, insertion_of, wanted?, insertable, side_along, bends, numbers_of, bends_over, lightened, between, inserted_particles, half_of, inserted_edges, shortened, appended, inserted_sides, inserted_mesh, insert_step, inserted_at, snapped_at, crossed, unbent, slackened, split_snapped_of, after_crossings, cut_segments_of, marks_of, marked_by, cut_along, cut}
use Rattle.model.specs.Crack.{largest_stress, stress_between, triangle_load, loads_of, family, cross_pairs, current_of, current_pair, beyond, far_side, mean_load, two_sided_of, way_at, ways_of, damaged_at, torn, crack_by, crack_pair, crack_edge, torn_ends, crack}
use Rattle.model.specs.Run.{start, step_to, splits_of, changed}
use Rattle.model.specs.Calls.{sides_ok, strictly, particles_ok, refusal, too_small, first_fault, outcome, cut_call, crack_call, split_call, straddlers_call}
use Rattle.model.specs.Reads.{blade_call, groups_call, rest_measure_call, rest_measure_of_call, opens_call, pieces_call, state_call}

-- end

pub starred_hold : map (λ (c : Case). c.asked) starred ≡ map (λ (c : Case). c.wanted) starred
unfolding same_row_of any all sift sift_at find fold each pairs map_at_of tab up_to rising distinct disjoint padded keep kept_of nth merged join_pair join_row join_rows labelled abs_of max_of inv_of finite? number? volume? not_below0? floor_root root_units sign_of sum_of centroid_of lerp_of length_of blade_hit_of labels_of number_one number_side numbered groups_of count_of particle_ok triangle_ok edge_ok numbers_fit_of named root_ok corners_ok ends_ok side_ok indices_fit_of place_of rest_of besides sum kind_by kind_of triangles_from straps_from elements_of held rest_measure the_rest_measure_of fan_of grid_of parts_of opening_of splits? made weight_of total_of mass_of portion copied group_at_of rewired_triangles rewired_straps ring score_of scored toward edge_groups stayed doubled other_edges parted straddles side_group followed face_on facets_at crack_facets at_longest settled split_entries gone_entries split_made split_step split_by_sides_of shared_of piece_labels piece_count pieces body_labels bodies body_of spans across? without_straddlers straddlers_gone remove_straddlers_of reach_labels labels_at members_of reach_of opens_without_confetti_of meets left_of kept_side blade_sides split_by_blade split_ends near_corners pinched split_free split_pinched_of candidates cut_facets_of crossings near_end straps_at strap_share insertion_of wanted? insertable side_along bends numbers_of bends_over lightened between inserted_particles half_of inserted_edges shortened appended inserted_sides inserted_mesh insert_step inserted_at snapped_at crossed unbent slackened split_snapped_of after_crossings cut_segments_of marks_of marked_by cut_along cut largest_stress stress_between triangle_load loads_of family cross_pairs current_of current_pair beyond far_side mean_load two_sided_of way_at ways_of damaged_at torn crack_by crack_pair crack_edge torn_ends crack start step_to splits_of changed sides_ok strictly particles_ok refusal too_small first_fault outcome cut_call crack_call split_call straddlers_call blade_call groups_call rest_measure_call rest_measure_of_call opens_call pieces_call state_call is_nan neg add sub mul div lt le eq ne of_int of_bits
starred_hold = refl

-- what the worked cases say of a result: masses, ends of edges, boundary, particles, pieces, log, and whether it changed
pub record Told : Type 0 where
  pub masses : List Float
  pub edges : List (List ℕ)
  pub boundary : List (List ℕ)
  pub particles : ℕ
  pub pieces : ℕ
  pub log : List Entry
  pub changed : Bool

pub data Said : Type 0 where
  no_mesh : ℕ → Said
  told : Told → Said

abbrev pub said : Outcome → Said
said (refused n) = no_mesh n
said (done M l c) =
    told
    (record {
      masses = map (λ (p : Particle). p.mass) M.particles;
      edges = map ends_of M.edges;
      boundary = map side_ends M.boundary;
      particles = length M.particles;
      pieces = pieces M;
      log = l;
      changed = c;
    })

-- 3/4
abbrev rest_of_lem : Float
rest_of_lem = fin false 3 (negsuc 1)

-- the strap of length 8, blade (2,-1) to (2,1), fraction 0.1: masses 0.25, 0.75, 0.25, 0.75; edges (0,2), (3,1); the crossing at (2,0), then log 0 1 2 3
pub strap_worked : said (cut_call true strap_mesh 1 (blade (pos 2) (negsuc 0) (pos 2) (pos 1)) tenth limits)
    ≡ told
    (record {
      masses = quarter ∷ rest_of_lem ∷ quarter ∷ rest_of_lem ∷ [];
      edges = (0 ∷ 2 ∷ []) ∷ (3 ∷ 1 ∷ []) ∷ [];
      boundary = [];
      particles = 4;
      pieces = 2;
      log = met 0 1 (point (pos 2) (pos 0)) quarter ∷ insert 0 1 2 3 quarter ∷ [];
      changed = true;
    })
unfolding same_row_of any all sift sift_at find fold each pairs map_at_of tab up_to rising distinct disjoint padded keep kept_of nth merged join_pair join_row join_rows labelled abs_of max_of inv_of finite? number? volume? not_below0? floor_root root_units sign_of sum_of centroid_of lerp_of length_of blade_hit_of labels_of number_one number_side numbered groups_of count_of particle_ok triangle_ok edge_ok numbers_fit_of named root_ok corners_ok ends_ok side_ok indices_fit_of place_of rest_of besides sum kind_by kind_of triangles_from straps_from elements_of held rest_measure the_rest_measure_of fan_of grid_of parts_of opening_of splits? made weight_of total_of mass_of portion copied group_at_of rewired_triangles rewired_straps ring score_of scored toward edge_groups stayed doubled other_edges parted straddles side_group followed face_on facets_at crack_facets at_longest settled split_entries gone_entries split_made split_step split_by_sides_of shared_of piece_labels piece_count pieces body_labels bodies body_of spans across? without_straddlers straddlers_gone remove_straddlers_of reach_labels labels_at members_of reach_of opens_without_confetti_of meets left_of kept_side blade_sides split_by_blade split_ends near_corners pinched split_free split_pinched_of candidates cut_facets_of crossings near_end straps_at strap_share insertion_of wanted? insertable side_along bends numbers_of bends_over lightened between inserted_particles half_of inserted_edges shortened appended inserted_sides inserted_mesh insert_step inserted_at snapped_at crossed unbent slackened split_snapped_of after_crossings cut_segments_of marks_of marked_by cut_along cut largest_stress stress_between triangle_load loads_of family cross_pairs current_of current_pair beyond far_side mean_load two_sided_of way_at ways_of damaged_at torn crack_by crack_pair crack_edge torn_ends crack start step_to splits_of changed sides_ok strictly particles_ok refusal too_small first_fault outcome cut_call crack_call split_call straddlers_call blade_call groups_call rest_measure_call rest_measure_of_call opens_call pieces_call state_call is_nan neg add sub mul div lt le eq ne of_int of_bits
strap_worked = refl

-- the listing's mesh, blade (-1,-1) to (5,5), fraction 0.1: four sides met at 0 and 2, then split 4 0, split 5 2, edge 1 3 (gone with the first split), 6 particles, 2 pieces
pub listing_worked : said (cut_call true listing_mesh 1 (blade (negsuc 0) (negsuc 0) (pos 5) (pos 5)) tenth limits)
    ≡ told
    (record {
      masses =
          fin false 1 (negsuc 0) ∷ fin false 1 (pos 0) ∷ fin false 1 (negsuc 0) ∷ fin false 1 (pos 0) ∷ fin false 1 (negsuc 0) ∷ fin false 1 (negsuc 0) ∷ [];
      edges = (0 ∷ 2 ∷ []) ∷ (4 ∷ 5 ∷ []) ∷ [];
      boundary = (0 ∷ 1 ∷ []) ∷ (1 ∷ 2 ∷ []) ∷ (5 ∷ 3 ∷ []) ∷ (3 ∷ 4 ∷ []) ∷ (2 ∷ 0 ∷ []) ∷ (4 ∷ 5 ∷ []) ∷ [];
      particles = 6;
      pieces = 2;
      log =
          met 0 1 (point (pos 0) (pos 0)) zero32 ∷ met 1 2 (point (pos 4) (pos 4)) one ∷ met 0 3 (point (pos 0) (pos 0)) (fin true 0 (pos 0))
          ∷ met 2 3 (point (pos 4) (pos 4)) (fin true 0 (pos 0))
          ∷ split 4 0
          ∷ removed 1 3
          ∷ split 5 2
          ∷ [];
      changed = true;
    })
unfolding same_row_of any all sift sift_at find fold each pairs map_at_of tab up_to rising distinct disjoint padded keep kept_of nth merged join_pair join_row join_rows labelled abs_of max_of inv_of finite? number? volume? not_below0? floor_root root_units sign_of sum_of centroid_of lerp_of length_of blade_hit_of labels_of number_one number_side numbered groups_of count_of particle_ok triangle_ok edge_ok numbers_fit_of named root_ok corners_ok ends_ok side_ok indices_fit_of place_of rest_of besides sum kind_by kind_of triangles_from straps_from elements_of held rest_measure the_rest_measure_of fan_of grid_of parts_of opening_of splits? made weight_of total_of mass_of portion copied group_at_of rewired_triangles rewired_straps ring score_of scored toward edge_groups stayed doubled other_edges parted straddles side_group followed face_on facets_at crack_facets at_longest settled split_entries gone_entries split_made split_step split_by_sides_of shared_of piece_labels piece_count pieces body_labels bodies body_of spans across? without_straddlers straddlers_gone remove_straddlers_of reach_labels labels_at members_of reach_of opens_without_confetti_of meets left_of kept_side blade_sides split_by_blade split_ends near_corners pinched split_free split_pinched_of candidates cut_facets_of crossings near_end straps_at strap_share insertion_of wanted? insertable side_along bends numbers_of bends_over lightened between inserted_particles half_of inserted_edges shortened appended inserted_sides inserted_mesh insert_step inserted_at snapped_at crossed unbent slackened split_snapped_of after_crossings cut_segments_of marks_of marked_by cut_along cut largest_stress stress_between triangle_load loads_of family cross_pairs current_of current_pair beyond far_side mean_load two_sided_of way_at ways_of damaged_at torn crack_by crack_pair crack_edge torn_ends crack start step_to splits_of changed sides_ok strictly particles_ok refusal too_small first_fault outcome cut_call crack_call split_call straddlers_call blade_call groups_call rest_measure_call rest_measure_of_call opens_call pieces_call state_call is_nan neg add sub mul div lt le eq ne of_int of_bits
listing_worked = refl

-- the entry on a run of records: 0 is pinned, 1 is not, 6 is absent
pub state_worked : (state_call pinned_mesh.particles 0 ∷ state_call pinned_mesh.particles 1 ∷ state_call pinned_mesh.particles 6 ∷ []) ≡ (value (true, false) ∷ value (false, false) ∷ denied 4 ∷ [])
unfolding same_row_of any all sift sift_at find fold each pairs map_at_of tab up_to rising distinct disjoint padded keep kept_of nth merged join_pair join_row join_rows labelled abs_of max_of inv_of finite? number? volume? not_below0? floor_root root_units sign_of sum_of centroid_of lerp_of length_of blade_hit_of labels_of number_one number_side numbered groups_of count_of particle_ok triangle_ok edge_ok numbers_fit_of named root_ok corners_ok ends_ok side_ok indices_fit_of place_of rest_of besides sum kind_by kind_of triangles_from straps_from elements_of held rest_measure the_rest_measure_of fan_of grid_of parts_of opening_of splits? made weight_of total_of mass_of portion copied group_at_of rewired_triangles rewired_straps ring score_of scored toward edge_groups stayed doubled other_edges parted straddles side_group followed face_on facets_at crack_facets at_longest settled split_entries gone_entries split_made split_step split_by_sides_of shared_of piece_labels piece_count pieces body_labels bodies body_of spans across? without_straddlers straddlers_gone remove_straddlers_of reach_labels labels_at members_of reach_of opens_without_confetti_of meets left_of kept_side blade_sides split_by_blade split_ends near_corners pinched split_free split_pinched_of candidates cut_facets_of crossings near_end straps_at strap_share insertion_of wanted? insertable side_along bends numbers_of bends_over lightened between inserted_particles half_of inserted_edges shortened appended inserted_sides inserted_mesh insert_step inserted_at snapped_at crossed unbent slackened split_snapped_of after_crossings cut_segments_of marks_of marked_by cut_along cut largest_stress stress_between triangle_load loads_of family cross_pairs current_of current_pair beyond far_side mean_load two_sided_of way_at ways_of damaged_at torn crack_by crack_pair crack_edge torn_ends crack start step_to splits_of changed sides_ok strictly particles_ok refusal too_small first_fault outcome cut_call crack_call split_call straddlers_call blade_call groups_call rest_measure_call rest_measure_of_call opens_call pieces_call state_call is_nan neg add sub mul div lt le eq ne of_int of_bits
state_worked = refl
