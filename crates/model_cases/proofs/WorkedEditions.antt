-- The editions of the cut, computed: the examples of edition 2 with the line drawn either way, edition 1 beside it, and the order of the refusals. Assumes nothing.
use mathlib.Core.Path.{◌≡◌, refl}
use mathlib.Core.Bool.{true, false}
use mathlib.Core.List.{List, [], ◌∷◌, map}
use Prim.Native.Nat.{ℕ}
use lib.IntN.{pos, negsuc}
use lib.Ieee.{Float, binary32, is_nan, of_bits, neg, add, sub, mul, div, lt, le, eq, ne, of_int, to_signed}
use Rattle.lists.specs.Lists.{any, all, sift, sift_at, find, fold, each, pairs, map_at_of, tab, up_to, rising, distinct, disjoint}
use Rattle.lists.specs.Labels.{merged, join_pair, join_row, join_rows, labelled}
use Rattle.float.specs.Numbers.{zero32, one, half, abs_of, max_of, inv_of}
use Rattle.float.specs.Ranges.{finite?, number?, volume?, not_below0?}
use Rattle.blade.specs.Points.{sum_of, centroid_of}
use Rattle.blade.specs.Blade.{blade_hit_of}
use Rattle.exact.specs.Exact.{whole_of, whole?, side_by, crosses, exact_hit, sign_of, total, kept_by_of}
use Rattle.fan.specs.Groups.{labels_of, number_one, number_side, numbered, groups_of, count_of}
use Rattle.model.specs.Mesh.{Particle, Triangle, Mesh, changed_to}
use Rattle.model.specs.Valid.{particle_ok, triangle_ok, edge_ok, numbers_fit_of, named, root_ok, corners_ok, ends_ok, side_ok, indices_fit_of}
use Rattle.model.specs.Elements.{corners_of, place_of, rest_of, besides, sum, kind_by, kind_of, triangles_from, straps_from, elements_of, held, fan_of, grid_of}
use Rattle.model.specs.Run.{Rooms, start, step_to, splits_of, changed}
use Rattle.model.specs.Split.{parts_of, opening_of, splits?, made, weight_of, total_of, mass_of, portion, copied, group_at_of, rewired_triangles, rewired_straps, ring, score_of, scored, toward, edge_groups, stayed, doubled, other_edges, parted, straddles, side_group, followed, face_on, facets_at, crack_facets, at_longest, settled, split_entries, gone_entries, split_made, split_step, split_by_sides_of}
use Rattle.model.specs.Cut.{Line, meets, left_of, kept_side, blade_sides, split_by_blade, split_ends, near_corners, pinched, split_free, split_pinched_of, candidates, cut_facets_of, marks_of, marked_by, cut_along, cut}
use Rattle.model.specs.Calls.{swapped, whole_mesh, refusal, too_small, first_fault, Outcome, refused, done, outcome, cut_call}
use Rattle.model.specs.Starred.{point, tenth, free, triangle, limits, strap_mesh, blade}
use Rattle.model.specs.Swaps.{SameButMarks}
use Rattle.model.proofs.Asked.{bits, rooms, blade as line_of}
use Rattle.model.proofs.CaseCuts.{in301, done301}

-- ---- what is told of a cut

-- the corners of the triangles, and each copy with its source; or a refusal's number
pub data Told : Type 0 where
  no_mesh : ℕ → Told
  told : List (List ℕ) → List (ℕ × ℕ) → Told

abbrev told_of : Outcome → Told
told_of (refused n) = no_mesh n
told_of (done M l c) = told (map corners_of M.triangles) (splits_of l)

abbrev corners_told : Told → List (List ℕ)
corners_told (no_mesh n) = []
corners_told (told ts l) = ts

-- a cut in an edition, with all the room that there is
abbrev cut_in : ℕ → Line → Mesh → Outcome
cut_in n B M = cut_call true M n B tenth limits

-- told of the line as drawn, and drawn the other way
abbrev both_ways : ℕ → Line → Mesh → List Told
both_ways n B M = told_of (cut_in n B M) ∷ told_of (cut_in n (swapped B) M) ∷ []

abbrev twice : Told → List Told
twice a = a ∷ a ∷ []

-- ---- the meshes

abbrev sheet_of : List Particle → List Triangle → Mesh
sheet_of ps ts = record { particles = ps; triangles = ts; edges = []; boundary = [] }

-- the centroid of the first triangle is on the diagonal
abbrev wedge : Mesh
wedge =
    sheet_of (free 0 (point (pos 0) (pos 0)) ∷ free 1 (point (pos 1) (pos 0)) ∷ free 2 (point (pos 0) (pos 2)) ∷ free 3 (point (pos 0) (pos 1)) ∷ [])
    (triangle 3 1 2 half ∷ triangle 3 0 1 half ∷ [])

-- at 0, on the diagonal, the first triangle is on it too, and the second sets the kept side
abbrev square : Mesh
square =
    sheet_of (free 0 (point (pos 1) (pos 1)) ∷ free 1 (point (pos 0) (pos 1)) ∷ free 2 (point (pos 0) (pos 0)) ∷ free 3 (point (pos 1) (pos 0)) ∷ [])
    (triangle 0 3 1 half ∷ triangle 0 1 2 half ∷ triangle 2 0 3 half ∷ [])

-- the second triangle is on the line: it stays with 3 and, at 1, with 1, where the closing pass parts it
abbrev kite : Mesh
kite =
    sheet_of (free 0 (point (pos 1) (pos 0)) ∷ free 1 (point (pos 0) (pos 2)) ∷ free 2 (point (pos 2) (pos 0)) ∷ free 3 (point (pos 0) (pos 0)) ∷ [])
    (triangle 1 2 3 one ∷ triangle 1 0 3 one ∷ [])

-- the side (0, 1) of both triangles meets the very end of the blade; particle 0 is pinned
abbrev ended : Mesh
ended =
    sheet_of
    (changed_to one zero32 0 (free 0 (point (pos 0) (pos 6))) ∷ free 1 (point (pos 0) (negsuc 6)) ∷ free 2 (point (negsuc 2) (negsuc 0)) ∷ free 3 (point (pos 3) (negsuc 0)) ∷ [])
    (triangle 0 1 2 one ∷ triangle 0 1 3 one ∷ [])

-- ---- the examples: edition 2 gives one answer either way, edition 1 two or none

pub wedge_exact : both_ways 2 (blade (pos 0) (pos 0) (pos 1) (pos 1)) wedge ≡ twice (told ((3 ∷ 4 ∷ 2 ∷ []) ∷ (5 ∷ 0 ∷ 1 ∷ []) ∷ []) ((4, 1) ∷ (5, 3) ∷ []))
unfolding any all sift sift_at find fold each pairs map_at_of tab up_to rising distinct disjoint merged join_pair join_row join_rows labelled abs_of max_of inv_of finite? number? volume? not_below0? sum_of centroid_of blade_hit_of whole_of whole? side_by crosses exact_hit sign_of total kept_by_of labels_of number_one number_side numbered groups_of count_of particle_ok triangle_ok edge_ok numbers_fit_of named root_ok corners_ok ends_ok side_ok indices_fit_of place_of rest_of besides sum kind_by kind_of triangles_from straps_from elements_of held fan_of grid_of parts_of opening_of splits? made weight_of total_of mass_of portion copied group_at_of rewired_triangles rewired_straps ring score_of scored toward edge_groups stayed doubled other_edges parted straddles side_group followed face_on facets_at crack_facets at_longest settled split_entries gone_entries split_made split_step split_by_sides_of meets left_of kept_side blade_sides split_by_blade split_ends near_corners pinched split_free split_pinched_of candidates cut_facets_of marks_of marked_by cut_along cut start step_to splits_of changed refusal whole_mesh too_small first_fault outcome cut_call neg add sub mul div lt le eq ne of_int to_signed
wedge_exact = refl

pub wedge_rounded : both_ways 1 (blade (pos 0) (pos 0) (pos 1) (pos 1)) wedge
    ≡ told ((3 ∷ 4 ∷ 2 ∷ []) ∷ (5 ∷ 0 ∷ 1 ∷ []) ∷ []) ((4, 1) ∷ (5, 3) ∷ []) ∷ told ((3 ∷ 1 ∷ 2 ∷ []) ∷ (3 ∷ 0 ∷ 1 ∷ []) ∷ []) [] ∷ []
unfolding any all sift sift_at find fold each pairs map_at_of tab up_to rising distinct disjoint merged join_pair join_row join_rows labelled abs_of max_of inv_of finite? number? volume? not_below0? sum_of centroid_of blade_hit_of whole_of whole? side_by crosses exact_hit sign_of total kept_by_of labels_of number_one number_side numbered groups_of count_of particle_ok triangle_ok edge_ok numbers_fit_of named root_ok corners_ok ends_ok side_ok indices_fit_of place_of rest_of besides sum kind_by kind_of triangles_from straps_from elements_of held fan_of grid_of parts_of opening_of splits? made weight_of total_of mass_of portion copied group_at_of rewired_triangles rewired_straps ring score_of scored toward edge_groups stayed doubled other_edges parted straddles side_group followed face_on facets_at crack_facets at_longest settled split_entries gone_entries split_made split_step split_by_sides_of meets left_of kept_side blade_sides split_by_blade split_ends near_corners pinched split_free split_pinched_of candidates cut_facets_of marks_of marked_by cut_along cut start step_to splits_of changed refusal whole_mesh too_small first_fault outcome cut_call neg add sub mul div lt le eq ne of_int to_signed
wedge_rounded = refl

pub square_exact : both_ways 2 (blade (pos 1) (pos 1) (pos 0) (pos 0)) square ≡ twice (told ((0 ∷ 3 ∷ 1 ∷ []) ∷ (0 ∷ 1 ∷ 2 ∷ []) ∷ (5 ∷ 4 ∷ 6 ∷ []) ∷ []) ((4, 0) ∷ (5, 2) ∷ (6, 3) ∷ []))
unfolding any all sift sift_at find fold each pairs map_at_of tab up_to rising distinct disjoint merged join_pair join_row join_rows labelled abs_of max_of inv_of finite? number? volume? not_below0? sum_of centroid_of blade_hit_of whole_of whole? side_by crosses exact_hit sign_of total kept_by_of labels_of number_one number_side numbered groups_of count_of particle_ok triangle_ok edge_ok numbers_fit_of named root_ok corners_ok ends_ok side_ok indices_fit_of place_of rest_of besides sum kind_by kind_of triangles_from straps_from elements_of held fan_of grid_of parts_of opening_of splits? made weight_of total_of mass_of portion copied group_at_of rewired_triangles rewired_straps ring score_of scored toward edge_groups stayed doubled other_edges parted straddles side_group followed face_on facets_at crack_facets at_longest settled split_entries gone_entries split_made split_step split_by_sides_of meets left_of kept_side blade_sides split_by_blade split_ends near_corners pinched split_free split_pinched_of candidates cut_facets_of marks_of marked_by cut_along cut start step_to splits_of changed refusal whole_mesh too_small first_fault outcome cut_call neg add sub mul div lt le eq ne of_int to_signed
square_exact = refl

pub square_rounded : map corners_told (both_ways 1 (blade (pos 1) (pos 1) (pos 0) (pos 0)) square)
    ≡ ((0 ∷ 6 ∷ 1 ∷ []) ∷ (0 ∷ 1 ∷ 2 ∷ []) ∷ (5 ∷ 4 ∷ 3 ∷ []) ∷ []) ∷ ((0 ∷ 3 ∷ 5 ∷ []) ∷ (4 ∷ 1 ∷ 2 ∷ []) ∷ (6 ∷ 0 ∷ 3 ∷ []) ∷ []) ∷ []
unfolding any all sift sift_at find fold each pairs map_at_of tab up_to rising distinct disjoint merged join_pair join_row join_rows labelled abs_of max_of inv_of finite? number? volume? not_below0? sum_of centroid_of blade_hit_of whole_of whole? side_by crosses exact_hit sign_of total kept_by_of labels_of number_one number_side numbered groups_of count_of particle_ok triangle_ok edge_ok numbers_fit_of named root_ok corners_ok ends_ok side_ok indices_fit_of place_of rest_of besides sum kind_by kind_of triangles_from straps_from elements_of held fan_of grid_of parts_of opening_of splits? made weight_of total_of mass_of portion copied group_at_of rewired_triangles rewired_straps ring score_of scored toward edge_groups stayed doubled other_edges parted straddles side_group followed face_on facets_at crack_facets at_longest settled split_entries gone_entries split_made split_step split_by_sides_of meets left_of kept_side blade_sides split_by_blade split_ends near_corners pinched split_free split_pinched_of candidates cut_facets_of marks_of marked_by cut_along cut start step_to splits_of changed refusal whole_mesh too_small first_fault outcome cut_call neg add sub mul div lt le eq ne of_int to_signed
square_rounded = refl

pub kite_exact : both_ways 2 (blade (pos 1) (pos 0) (pos 0) (pos 1)) kite ≡ twice (told ((1 ∷ 2 ∷ 4 ∷ []) ∷ (5 ∷ 0 ∷ 3 ∷ []) ∷ []) ((4, 3) ∷ (5, 1) ∷ []))
unfolding any all sift sift_at find fold each pairs map_at_of tab up_to rising distinct disjoint merged join_pair join_row join_rows labelled abs_of max_of inv_of finite? number? volume? not_below0? sum_of centroid_of blade_hit_of whole_of whole? side_by crosses exact_hit sign_of total kept_by_of labels_of number_one number_side numbered groups_of count_of particle_ok triangle_ok edge_ok numbers_fit_of named root_ok corners_ok ends_ok side_ok indices_fit_of place_of rest_of besides sum kind_by kind_of triangles_from straps_from elements_of held fan_of grid_of parts_of opening_of splits? made weight_of total_of mass_of portion copied group_at_of rewired_triangles rewired_straps ring score_of scored toward edge_groups stayed doubled other_edges parted straddles side_group followed face_on facets_at crack_facets at_longest settled split_entries gone_entries split_made split_step split_by_sides_of meets left_of kept_side blade_sides split_by_blade split_ends near_corners pinched split_free split_pinched_of candidates cut_facets_of marks_of marked_by cut_along cut start step_to splits_of changed refusal whole_mesh too_small first_fault outcome cut_call neg add sub mul div lt le eq ne of_int to_signed
kite_exact = refl

pub kite_rounded : both_ways 1 (blade (pos 1) (pos 0) (pos 0) (pos 1)) kite ≡ twice (told ((1 ∷ 2 ∷ 3 ∷ []) ∷ (1 ∷ 0 ∷ 3 ∷ []) ∷ []) [])
unfolding any all sift sift_at find fold each pairs map_at_of tab up_to rising distinct disjoint merged join_pair join_row join_rows labelled abs_of max_of inv_of finite? number? volume? not_below0? sum_of centroid_of blade_hit_of whole_of whole? side_by crosses exact_hit sign_of total kept_by_of labels_of number_one number_side numbered groups_of count_of particle_ok triangle_ok edge_ok numbers_fit_of named root_ok corners_ok ends_ok side_ok indices_fit_of place_of rest_of besides sum kind_by kind_of triangles_from straps_from elements_of held fan_of grid_of parts_of opening_of splits? made weight_of total_of mass_of portion copied group_at_of rewired_triangles rewired_straps ring score_of scored toward edge_groups stayed doubled other_edges parted straddles side_group followed face_on facets_at crack_facets at_longest settled split_entries gone_entries split_made split_step split_by_sides_of meets left_of kept_side blade_sides split_by_blade split_ends near_corners pinched split_free split_pinched_of candidates cut_facets_of marks_of marked_by cut_along cut start step_to splits_of changed refusal whole_mesh too_small first_fault outcome cut_call neg add sub mul div lt le eq ne of_int to_signed
kite_rounded = refl

pub end_exact : both_ways 2 (blade (pos 0) (negsuc 0) (negsuc 1) (pos 5)) ended ≡ twice (told ((0 ∷ 1 ∷ 2 ∷ []) ∷ (0 ∷ 4 ∷ 3 ∷ []) ∷ []) ((4, 1) ∷ []))
unfolding any all sift sift_at find fold each pairs map_at_of tab up_to rising distinct disjoint merged join_pair join_row join_rows labelled abs_of max_of inv_of finite? number? volume? not_below0? sum_of centroid_of blade_hit_of whole_of whole? side_by crosses exact_hit sign_of total kept_by_of labels_of number_one number_side numbered groups_of count_of particle_ok triangle_ok edge_ok numbers_fit_of named root_ok corners_ok ends_ok side_ok indices_fit_of place_of rest_of besides sum kind_by kind_of triangles_from straps_from elements_of held fan_of grid_of parts_of opening_of splits? made weight_of total_of mass_of portion copied group_at_of rewired_triangles rewired_straps ring score_of scored toward edge_groups stayed doubled other_edges parted straddles side_group followed face_on facets_at crack_facets at_longest settled split_entries gone_entries split_made split_step split_by_sides_of meets left_of kept_side blade_sides split_by_blade split_ends near_corners pinched split_free split_pinched_of candidates cut_facets_of marks_of marked_by cut_along cut start step_to splits_of changed refusal whole_mesh too_small first_fault outcome cut_call neg add sub mul div lt le eq ne of_int to_signed
end_exact = refl

pub end_rounded : both_ways 1 (blade (pos 0) (negsuc 0) (negsuc 1) (pos 5)) ended ≡ twice (told ((0 ∷ 1 ∷ 2 ∷ []) ∷ (0 ∷ 1 ∷ 3 ∷ []) ∷ []) [])
unfolding any all sift sift_at find fold each pairs map_at_of tab up_to rising distinct disjoint merged join_pair join_row join_rows labelled abs_of max_of inv_of finite? number? volume? not_below0? sum_of centroid_of blade_hit_of whole_of whole? side_by crosses exact_hit sign_of total kept_by_of labels_of number_one number_side numbered groups_of count_of particle_ok triangle_ok edge_ok numbers_fit_of named root_ok corners_ok ends_ok side_ok indices_fit_of place_of rest_of besides sum kind_by kind_of triangles_from straps_from elements_of held fan_of grid_of parts_of opening_of splits? made weight_of total_of mass_of portion copied group_at_of rewired_triangles rewired_straps ring score_of scored toward edge_groups stayed doubled other_edges parted straddles side_group followed face_on facets_at crack_facets at_longest settled split_entries gone_entries split_made split_step split_by_sides_of meets left_of kept_side blade_sides split_by_blade split_ends near_corners pinched split_free split_pinched_of candidates cut_facets_of marks_of marked_by cut_along cut start step_to splits_of changed refusal whole_mesh too_small first_fault outcome cut_call neg add sub mul div lt le eq ne of_int to_signed
end_rounded = refl

-- the printed line, and the rooms
abbrev diagonal : Line
diagonal = line_of 0xbf800000 0xbf800000 0x40a00000 0x40a00000

abbrev room : Rooms
room = rooms 1024 1024 2048 2048 4096

-- the worked listing is cut by edition 2 as it is printed for edition 1, to the bit
pub listing_exact : cut_call true in301 2 diagonal (bits 0x3dcccccd) room ≡ done301
unfolding any all sift sift_at find fold each pairs map_at_of tab up_to rising distinct disjoint merged join_pair join_row join_rows labelled abs_of max_of inv_of finite? number? volume? not_below0? sum_of centroid_of blade_hit_of whole_of whole? side_by crosses exact_hit sign_of total kept_by_of labels_of number_one number_side numbered groups_of count_of particle_ok triangle_ok edge_ok numbers_fit_of named root_ok corners_ok ends_ok side_ok indices_fit_of place_of rest_of besides sum kind_by kind_of triangles_from straps_from elements_of held fan_of grid_of parts_of opening_of splits? made weight_of total_of mass_of portion copied group_at_of rewired_triangles rewired_straps ring score_of scored toward edge_groups stayed doubled other_edges parted straddles side_group followed face_on facets_at crack_facets at_longest settled split_entries gone_entries split_made split_step split_by_sides_of meets left_of kept_side blade_sides split_by_blade split_ends near_corners pinched split_free split_pinched_of candidates cut_facets_of marks_of marked_by cut_along cut start step_to splits_of changed refusal whole_mesh too_small first_fault outcome cut_call neg add sub mul div lt le eq ne of_int to_signed is_nan of_bits
listing_exact = refl

-- and drawn the other way, but for the marks
pub listing_swapped : SameButMarks (cut_call true in301 2 (swapped diagonal) (bits 0x3dcccccd) room) done301
unfolding any all sift sift_at find fold each pairs map_at_of tab up_to rising distinct disjoint merged join_pair join_row join_rows labelled abs_of max_of inv_of finite? number? volume? not_below0? sum_of centroid_of blade_hit_of whole_of whole? side_by crosses exact_hit sign_of total kept_by_of labels_of number_one number_side numbered groups_of count_of particle_ok triangle_ok edge_ok numbers_fit_of named root_ok corners_ok ends_ok side_ok indices_fit_of place_of rest_of besides sum kind_by kind_of triangles_from straps_from elements_of held fan_of grid_of parts_of opening_of splits? made weight_of total_of mass_of portion copied group_at_of rewired_triangles rewired_straps ring score_of scored toward edge_groups stayed doubled other_edges parted straddles side_group followed face_on facets_at crack_facets at_longest settled split_entries gone_entries split_made split_step split_by_sides_of meets left_of kept_side blade_sides split_by_blade split_ends near_corners pinched split_free split_pinched_of candidates cut_facets_of marks_of marked_by cut_along cut start step_to splits_of changed refusal whole_mesh too_small first_fault outcome cut_call neg add sub mul div lt le eq ne of_int to_signed is_nan of_bits
listing_swapped = refl

pub listing_rounded : SameButMarks (cut_call true in301 1 (swapped diagonal) (bits 0x3dcccccd) room) done301
unfolding any all sift sift_at find fold each pairs map_at_of tab up_to rising distinct disjoint merged join_pair join_row join_rows labelled abs_of max_of inv_of finite? number? volume? not_below0? sum_of centroid_of blade_hit_of whole_of whole? side_by crosses exact_hit sign_of total kept_by_of labels_of number_one number_side numbered groups_of count_of particle_ok triangle_ok edge_ok numbers_fit_of named root_ok corners_ok ends_ok side_ok indices_fit_of place_of rest_of besides sum kind_by kind_of triangles_from straps_from elements_of held fan_of grid_of parts_of opening_of splits? made weight_of total_of mass_of portion copied group_at_of rewired_triangles rewired_straps ring score_of scored toward edge_groups stayed doubled other_edges parted straddles side_group followed face_on facets_at crack_facets at_longest settled split_entries gone_entries split_made split_step split_by_sides_of meets left_of kept_side blade_sides split_by_blade split_ends near_corners pinched split_free split_pinched_of candidates cut_facets_of marks_of marked_by cut_along cut start step_to splits_of changed refusal whole_mesh too_small first_fault outcome cut_call neg add sub mul div lt le eq ne of_int to_signed is_nan of_bits
listing_rounded = refl

-- ---- the order of the refusals

-- a strap from (0.5,0), which is no whole place, and two particles without an element
abbrev off_strap : Mesh
off_strap = record { particles = free 0 (record { x = half; y = zero32 }) ∷ free 1 (point (pos 8) (pos 0)) ∷ []; triangles = []; edges = strap_mesh.edges; boundary = [] }

abbrev loose : Mesh
loose = sheet_of (free 0 (point (pos 0) (pos 0)) ∷ free 1 (point (pos 1) (pos 0)) ∷ []) []

-- the line of the examples above, and one that ends at this height
abbrev slanted : Line
slanted = blade (pos 0) (pos 0) (pos 1) (pos 1)

abbrev to_height : Float → Line
to_height y = record { from = point (pos 0) (pos 0); to = record { x = zero32; y = y } }

-- 4 for an unknown edition, before 11 for a place that is not whole, before 12 for straps
pub refused_straps : map (λ n. told_of (cut_in n slanted off_strap)) (0 ∷ 3 ∷ 2 ∷ []) ≡ no_mesh 4 ∷ no_mesh 4 ∷ no_mesh 11 ∷ []
unfolding any all sift sift_at find fold each pairs map_at_of tab up_to rising distinct disjoint merged join_pair join_row join_rows labelled abs_of max_of inv_of finite? number? volume? not_below0? sum_of centroid_of blade_hit_of whole_of whole? side_by crosses exact_hit sign_of total kept_by_of labels_of number_one number_side numbered groups_of count_of particle_ok triangle_ok edge_ok numbers_fit_of named root_ok corners_ok ends_ok side_ok indices_fit_of place_of rest_of besides sum kind_by kind_of triangles_from straps_from elements_of held fan_of grid_of parts_of opening_of splits? made weight_of total_of mass_of portion copied group_at_of rewired_triangles rewired_straps ring score_of scored toward edge_groups stayed doubled other_edges parted straddles side_group followed face_on facets_at crack_facets at_longest settled split_entries gone_entries split_made split_step split_by_sides_of meets left_of kept_side blade_sides split_by_blade split_ends near_corners pinched split_free split_pinched_of candidates cut_facets_of marks_of marked_by cut_along cut start step_to splits_of changed refusal whole_mesh too_small first_fault outcome cut_call neg add sub mul div lt le eq ne of_int to_signed
refused_straps = refl

pub refused_whole_straps : told_of (cut_in 2 slanted strap_mesh) ≡ no_mesh 12
unfolding any all sift sift_at find fold each pairs map_at_of tab up_to rising distinct disjoint merged join_pair join_row join_rows labelled abs_of max_of inv_of finite? number? volume? not_below0? sum_of centroid_of blade_hit_of whole_of whole? side_by crosses exact_hit sign_of total kept_by_of labels_of number_one number_side numbered groups_of count_of particle_ok triangle_ok edge_ok numbers_fit_of named root_ok corners_ok ends_ok side_ok indices_fit_of place_of rest_of besides sum kind_by kind_of triangles_from straps_from elements_of held fan_of grid_of parts_of opening_of splits? made weight_of total_of mass_of portion copied group_at_of rewired_triangles rewired_straps ring score_of scored toward edge_groups stayed doubled other_edges parted straddles side_group followed face_on facets_at crack_facets at_longest settled split_entries gone_entries split_made split_step split_by_sides_of meets left_of kept_side blade_sides split_by_blade split_ends near_corners pinched split_free split_pinched_of candidates cut_facets_of marks_of marked_by cut_along cut start step_to splits_of changed refusal whole_mesh too_small first_fault outcome cut_call neg add sub mul div lt le eq ne of_int to_signed
refused_whole_straps = refl

-- a coordinate of the line: 1,024 passes, 1,025 and 0.5 are no whole numbers in range, and 1,048,577 is out of the range of numbers
pub refused_lines : map (λ y. told_of (cut_in 2 (to_height y) loose)) (of_int binary32 (pos 1024) ∷ of_int binary32 (negsuc 1023) ∷ of_int binary32 (pos 1025) ∷ half ∷ of_int binary32 (pos 1048577) ∷ [])
    ≡ told [] [] ∷ told [] [] ∷ no_mesh 11 ∷ no_mesh 11 ∷ no_mesh 2 ∷ []
unfolding any all sift sift_at find fold each pairs map_at_of tab up_to rising distinct disjoint merged join_pair join_row join_rows labelled abs_of max_of inv_of finite? number? volume? not_below0? sum_of centroid_of blade_hit_of whole_of whole? side_by crosses exact_hit sign_of total kept_by_of labels_of number_one number_side numbered groups_of count_of particle_ok triangle_ok edge_ok numbers_fit_of named root_ok corners_ok ends_ok side_ok indices_fit_of place_of rest_of besides sum kind_by kind_of triangles_from straps_from elements_of held fan_of grid_of parts_of opening_of splits? made weight_of total_of mass_of portion copied group_at_of rewired_triangles rewired_straps ring score_of scored toward edge_groups stayed doubled other_edges parted straddles side_group followed face_on facets_at crack_facets at_longest settled split_entries gone_entries split_made split_step split_by_sides_of meets left_of kept_side blade_sides split_by_blade split_ends near_corners pinched split_free split_pinched_of candidates cut_facets_of marks_of marked_by cut_along cut start step_to splits_of changed refusal whole_mesh too_small first_fault outcome cut_call neg add sub mul div lt le eq ne of_int to_signed
refused_lines = refl

-- a mesh of nothing is no mesh of straps: it stays as it is
pub nothing_exact : cut_in 2 slanted loose ≡ done loose [] false
unfolding any all sift sift_at find fold each pairs map_at_of tab up_to rising distinct disjoint merged join_pair join_row join_rows labelled abs_of max_of inv_of finite? number? volume? not_below0? sum_of centroid_of blade_hit_of whole_of whole? side_by crosses exact_hit sign_of total kept_by_of labels_of number_one number_side numbered groups_of count_of particle_ok triangle_ok edge_ok numbers_fit_of named root_ok corners_ok ends_ok side_ok indices_fit_of place_of rest_of besides sum kind_by kind_of triangles_from straps_from elements_of held fan_of grid_of parts_of opening_of splits? made weight_of total_of mass_of portion copied group_at_of rewired_triangles rewired_straps ring score_of scored toward edge_groups stayed doubled other_edges parted straddles side_group followed face_on facets_at crack_facets at_longest settled split_entries gone_entries split_made split_step split_by_sides_of meets left_of kept_side blade_sides split_by_blade split_ends near_corners pinched split_free split_pinched_of candidates cut_facets_of marks_of marked_by cut_along cut start step_to splits_of changed refusal whole_mesh too_small first_fault outcome cut_call neg add sub mul div lt le eq ne of_int to_signed
nothing_exact = refl
