-- The worked sheet (docs/RULES.md, R15.7) as the program reads and lists it, byte for byte, in both editions and with a typed outline that is replaced; a file without bytes. Assumes nothing.
use Prim.Native.Nat.{ℕ}
use mathlib.Core.Path.{◌≡◌, refl, ap, ◌∙◌}
use mathlib.Core.Bool.{Bool, true, false}
use mathlib.Core.List.{List, [], ◌∷◌, map}
use lib.IntN.{pos, negsuc}
use lib.ListN.{length}
use lib.Ieee.{is_nan, neg, add, sub, mul, div, lt, le, eq, ne, of_int, of_bits}
use Rattle.model.specs.Run.{Entry}
use Rattle.model.specs.Calls.{Outcome, refused, done}
use Rattle.model.specs.Starred.{tenth, listing_mesh, blade}
use Rattle.mesh.specs.Log.{words_of}
use Rattle.bits.specs.Bits.{bits, bits_of, num}
use Rattle.bits.specs.Rows.{total, unpack, read_rows}
use Rattle.sheet.specs.Sheet.{Sheet, sheet_with, all_ok, row_ok, pair_ok_of, above, limits}
use Rattle.sheet.specs.Read.{mesh_of_sheet, blade_of_sheet}
use Rattle.sheet.proofs.Cases.{worked, worked_counts, worked_mesh, worked_blade}
use Rattle.outline.specs.Outline.{single, outline_of, outline_of_triangles, within, same_sides_of, settled as settled_outline}
use Rattle.edition.specs.Edition.{as_first_of, bits_in_of, outline_in, replaced_in, typed_of, sheet_of, typed_with, typed_seen, seen_in, seen_of, whole_with}
use Rattle.std.specs.Prelude.{Err}
use Rattle.mesh.specs.declared.refusals.Refusal.TheVariants.{Sheet as NoSheet}
use Rattle.edition.proofs.Cases.{worked2, worked2_read, short}
use Rattle.listing.specs.Listing.{printed, listing_bytes, refused_bytes}
use Rattle.listing.proofs.Worked.{worked_bytes, replaced_bytes, worked_log, worked_listing, replaced_listing, worked_refused}
use Rattle.sheetcut.specs.SheetCut.{rooms, fraction, blade_of, cut_of, listed}
use Rattle.sheetcut.proofs.Cutting.{listed_whole, listed_refused}
-- opened
use Rattle.lists.specs.Lists.{any, all, sift, sift_at, find, fold, each, pairs, map_at_of, tab, up_to, rising, distinct, disjoint, padded, keep, kept_of, nth}
use Rattle.lists.specs.Labels.{merged, join_pair, join_row, join_rows, labelled}
use Rattle.float.specs.Numbers.{abs_of, max_of, inv_of}
use Rattle.float.specs.Ranges.{finite?, number?, volume?, not_below0?}
use Rattle.float.specs.Root.{floor_root, root_units}
use Rattle.float.specs.Order.{sign_of}
use Rattle.blade.specs.Points.{sum_of, centroid_of, lerp_of, length_of}
use Rattle.blade.specs.Blade.{blade_hit_of}
use Rattle.fan.specs.Groups.{labels_of, number_one, number_side, numbered, groups_of, count_of}
use Rattle.model.specs.Valid.{particle_ok, triangle_ok, edge_ok, numbers_fit_of, named, root_ok, corners_ok, ends_ok, side_ok, indices_fit_of}
use Rattle.model.specs.Elements.{place_of, rest_of, besides, sum, kind_by, kind_of, triangles_from, straps_from, elements_of, held, rest_measure, the_rest_measure_of, fan_of, grid_of}
use Rattle.model.specs.Split.{parts_of, opening_of, splits?, made, weight_of, total_of, mass_of, portion, copied, group_at_of, rewired_triangles, rewired_straps, ring, score_of, scored, toward, edge_groups, stayed, doubled, other_edges, parted, straddles, side_group, followed, face_on, facets_at, crack_facets, at_longest, settled, split_entries, gone_entries, split_made, split_step, split_by_sides_of}
use Rattle.model.specs.Pieces.{shared_of, piece_labels, piece_count, pieces, body_labels, bodies, body_of, spans, across?, without_straddlers, straddlers_gone, remove_straddlers_of, reach_labels, labels_at, members_of, reach_of, opens_without_confetti_of}
use Rattle.model.specs.Cut.{meets, left_of, kept_side, blade_sides, split_by_blade, split_ends, near_corners, pinched, split_free, split_pinched_of, candidates, cut_facets_of, crossings, near_end, straps_at, strap_share, insertion_of, wanted?, insertable, side_along, bends, numbers_of, bends_over, lightened, between, inserted_particles, half_of, inserted_edges, shortened, appended, inserted_sides, inserted_mesh, insert_step, inserted_at, snapped_at, crossed, unbent, slackened, split_snapped_of, after_crossings, cut_segments_of, marks_of, marked_by, cut_along, cut}
use Rattle.model.specs.Crack.{largest_stress, stress_between, triangle_load, loads_of, family, cross_pairs, current_of, current_pair, beyond, far_side, mean_load, two_sided_of, way_at, ways_of, damaged_at, torn, crack_by, crack_pair, crack_edge, torn_ends, crack}
use Rattle.model.specs.Run.{start, step_to, splits_of, changed}
use Rattle.model.specs.Calls.{sides_ok, strictly, particles_ok, refusal, too_small, first_fault, outcome, cut_call, crack_call, split_call, straddlers_call}
use Rattle.model.specs.Reads.{blade_call, groups_call, rest_measure_call, rest_measure_of_call, opens_call, pieces_call, state_call}

-- end

-- ---- from the bytes to the mesh

-- it is whole under the program's limits in both editions, and not replaced; typed without (3, 0) it is replaced
worked_seen : seen_of limits worked ≡ whole_with worked_counts false
unfolding worked worked_counts seen_in typed_seen typed_with sheet_of replaced_in outline_in typed_of bits_in_of sheet_with bits_of bits num read_rows unpack total same_sides_of within any all outline_of outline_of_triangles single sift each settled_outline all_ok row_ok pair_ok_of above
worked_seen = refl

worked2_seen : seen_of limits worked2 ≡ whole_with worked_counts false
unfolding worked2 worked_counts seen_in typed_seen typed_with sheet_of replaced_in outline_in typed_of bits_in_of as_first_of sheet_with bits_of bits num read_rows unpack total outline_of outline_of_triangles single sift each all_ok row_ok pair_ok_of above
worked2_seen = refl

short_seen : seen_of limits short ≡ whole_with worked_counts true
unfolding short worked_counts seen_in typed_seen typed_with sheet_of replaced_in outline_in typed_of bits_in_of sheet_with bits_of bits num read_rows unpack total same_sides_of within any all outline_of outline_of_triangles single sift each settled_outline all_ok row_ok pair_ok_of above
short_seen = refl

-- and is read as the same sheet each time
worked_read : (sheet_of (bits_of worked)).sheet ≡ sheet_with worked_counts (bits_of worked)
unfolding worked worked_counts sheet_of outline_in typed_of bits_in_of sheet_with bits_of bits num read_rows unpack total same_sides_of within any all outline_of outline_of_triangles single sift each settled_outline
worked_read = refl

short_read : (sheet_of (bits_of short)).sheet ≡ sheet_with worked_counts (bits_of worked)
unfolding worked worked_counts short sheet_of outline_in typed_of bits_in_of sheet_with bits_of bits num read_rows unpack total same_sides_of within any all outline_of outline_of_triangles single sift each settled_outline
short_read = refl

-- the fraction is the f32 that the worked cases of the model cut with
fraction_tenth : fraction ≡ tenth
unfolding fraction of_bits
fraction_tenth = refl

-- its mesh is the whole listing's
mesh_listing : mesh_of_sheet (sheet_with worked_counts (bits_of worked)) ≡ listing_mesh
unfolding of_int of_bits floor_root root_units length_of is_nan neg add sub mul div lt le eq
mesh_listing = worked_mesh

-- its blade goes from (-1,-1) to (5,5)
blade_listing : blade_of (blade_of_sheet (sheet_with worked_counts (bits_of worked))) ≡ blade (negsuc 0) (negsuc 0) (pos 5) (pos 5)
unfolding of_int of_bits
blade_listing = ap blade_of worked_blade

-- ---- from the mesh to the bytes

-- what a listing says of an outcome
data Said : Type 0 where
  no_mesh : ℕ → Said
  told : List Entry → ℕ → ℕ → Said

abbrev said : Outcome → Said
said (refused n) = no_mesh n
said (done M l c) = told l (length M.particles) (pieces M)

-- what is printed depends on nothing else but the outline's line
abbrev printed_said : Bool → Said → List ℕ
printed_said f (no_mesh n) = refused_bytes n
printed_said f (told l n k) = listing_bytes f (map words_of l) n k

printed_as : (f : Bool) (o : Outcome) → printed f o ≡ printed_said f (said o)
printed_as f (refused n) = refl
printed_as f (done M l c) = refl

-- with the rooms that the program lends: four sides met, split 4 0, edge 1 3, split 5 2; 6 particles, 2 pieces
worked_cut : said (cut_call true listing_mesh 1 (blade (negsuc 0) (negsuc 0) (pos 5) (pos 5)) tenth rooms) ≡ told worked_log 6 2
unfolding any all sift sift_at find fold each pairs map_at_of tab up_to rising distinct disjoint padded keep kept_of nth merged join_pair join_row join_rows labelled abs_of max_of inv_of finite? number? volume? not_below0? floor_root root_units sign_of sum_of centroid_of lerp_of length_of blade_hit_of labels_of number_one number_side numbered groups_of count_of particle_ok triangle_ok edge_ok numbers_fit_of named root_ok corners_ok ends_ok side_ok indices_fit_of place_of rest_of besides sum kind_by kind_of triangles_from straps_from elements_of held rest_measure the_rest_measure_of fan_of grid_of parts_of opening_of splits? made weight_of total_of mass_of portion copied group_at_of rewired_triangles rewired_straps ring score_of scored toward edge_groups stayed doubled other_edges parted straddles side_group followed face_on facets_at crack_facets at_longest settled split_entries gone_entries split_made split_step split_by_sides_of shared_of piece_labels piece_count pieces body_labels bodies body_of spans across? without_straddlers straddlers_gone remove_straddlers_of reach_labels labels_at members_of reach_of opens_without_confetti_of meets left_of kept_side blade_sides split_by_blade split_ends near_corners pinched split_free split_pinched_of candidates cut_facets_of crossings near_end straps_at strap_share insertion_of wanted? insertable side_along bends numbers_of bends_over lightened between inserted_particles half_of inserted_edges shortened appended inserted_sides inserted_mesh insert_step inserted_at snapped_at crossed unbent slackened split_snapped_of after_crossings cut_segments_of marks_of marked_by cut_along cut largest_stress stress_between triangle_load loads_of family cross_pairs current_of current_pair beyond far_side mean_load two_sided_of way_at ways_of damaged_at torn crack_by crack_pair crack_edge torn_ends crack start step_to splits_of changed sides_ok strictly particles_ok refusal too_small first_fault outcome cut_call crack_call split_call straddlers_call blade_call groups_call rest_measure_call rest_measure_of_call opens_call pieces_call state_call is_nan neg add sub mul div lt le eq ne of_int of_bits
worked_cut = refl

-- the same of the sheet
sheet_cut : cut_of (sheet_with worked_counts (bits_of worked)) ≡ cut_call true listing_mesh 1 (blade (negsuc 0) (negsuc 0) (pos 5) (pos 5)) tenth rooms
unfolding cut_of
sheet_cut = λ i. cut_call true (mesh_listing i) 1 (blade_listing i) (fraction_tenth i) rooms

-- what is printed of a sheet that is read as this one
read_printed : (f : Bool) (S : Sheet) → S ≡ sheet_with worked_counts (bits_of worked) → printed f (cut_of S) ≡ listing_bytes f (map words_of worked_log) 6 2
read_printed f S e =
    ap (λ (x : Sheet). printed f (cut_of x)) e
    ∙ (ap (printed f) sheet_cut ∙ (printed_as f (cut_call true listing_mesh 1 (blade (negsuc 0) (negsuc 0) (pos 5) (pos 5)) tenth rooms) ∙ ap (printed_said f) worked_cut))

-- what the program prints for the worked sheet of 46 bytes
pub worked_listed : listed worked ≡ worked_bytes
worked_listed = listed_whole worked worked_counts false worked_seen ∙ (read_printed false (sheet_of (bits_of worked)).sheet worked_read ∙ worked_listing)

-- the same for its 36 bytes in the second edition
pub worked2_listed : listed worked2 ≡ worked_bytes
worked2_listed = listed_whole worked2 worked_counts false worked2_seen ∙ (read_printed false (sheet_of (bits_of worked2)).sheet (worked2_read ∙ worked_read) ∙ worked_listing)

-- typed without (3, 0): the same with the line `outline replaced` behind `tear 1`
pub short_listed : listed short ≡ replaced_bytes
short_listed = listed_whole short worked_counts true short_seen ∙ (read_printed true (sheet_of (bits_of short)).sheet short_read ∙ replaced_listing)

-- ---- refusals

empty_seen : seen_of limits [] ≡ Err NoSheet
unfolding seen_in typed_seen
empty_seen = refl

-- a file without bytes: `refused 9`
pub empty_listed : listed [] ≡ 114 ∷ 101 ∷ 102 ∷ 117 ∷ 115 ∷ 101 ∷ 100 ∷ 32 ∷ 57 ∷ 10 ∷ []
empty_listed = listed_refused [] NoSheet empty_seen ∙ worked_refused
