-- Strap results may go out of range: a cut that is accepted, and whose result is refused with 2 as input. Assumes nothing.
-- A cut strap's mass goes half to each end's part, so an end that keeps another strap may get more than it gave. The first case is plain: it goes out of range by 65,536. The second is the smallest in
-- particles and straps: two straps between the same two particles, out of range by the roundings alone. (One strap's results stay in range, which is not proved here: each end is left with its half of its part of a sum of at most
-- 2,097,152, and each rounding keeps it at most 1,048,576.)
use mathlib.Core.Path.{◌≡◌, refl}
use mathlib.Core.Bool.{true}
use mathlib.Core.List.{[], ◌∷◌}
use lib.Ieee.{is_nan, neg, add, sub, mul, div, lt, le, eq, ne, of_bits}
use Rattle.model.specs.Mesh.{Mesh}
use Rattle.model.proofs.Asked.{bits, point, blade, rooms, mesh, particle, edge}
use Rattle.lists.specs.Lists.{any, all, sift, fold, each, pairs, map_at_of, tab, up_to, rising}
use Rattle.float.specs.Numbers.{abs_of, inv_of}
use Rattle.float.specs.Ranges.{finite?, number?, volume?, not_below0?}
use Rattle.blade.specs.Points.{lerp_of}
use Rattle.blade.specs.Blade.{blade_hit_of}
use Rattle.model.specs.Valid.{particle_ok, triangle_ok, edge_ok, numbers_fit_of, named, root_ok, corners_ok, ends_ok, side_ok, indices_fit_of}
use Rattle.model.specs.Elements.{place_of, rest_of, besides, sum, kind_by, kind_of, straps_from, elements_of}
use Rattle.model.specs.Cut.{meets, crossings, near_end, straps_at, strap_share, insertion_of, wanted?, insertable, side_along, bends, numbers_of, bends_over, lightened, between, inserted_particles, half_of, inserted_edges, inserted_sides, inserted_mesh, insert_step, inserted_at, crossed, unbent, after_crossings, cut_segments_of, marks_of, marked_by, cut_along, cut}
use Rattle.model.specs.Run.{insert, met, start, step_to, changed}
use Rattle.model.specs.Calls.{done, refusal, too_small, first_fault, outcome, cut_call}

-- masses 1,048,576, 1,048,576 and 1; straps (0, 1) and (0, 2) of length 8
abbrev pub two_straps : Mesh
two_straps =
    mesh
    (particle 0x00000000 0x00000000 0x00000000 0x00000000 0x49800000 0x35800000 0 0 ∷ particle 0x41000000 0x00000000 0x41000000 0x00000000 0x49800000 0x35800000 1 0 ∷ particle 0x00000000 0x41000000 0x00000000 0x41000000 0x3f800000 0x3f800000 2 0 ∷ [])
    []
    (edge 0 1 1 0 0x41000000 0x41000000 0 0 ∷ edge 0 2 1 0 0x41000000 0x41000000 0 0 ∷ [])
    []

-- behind the cut particle 0 has mass 1,114,112
abbrev pub too_heavy : Mesh
too_heavy =
    mesh
    (particle 0x00000000 0x00000000 0x00000000 0x00000000 0x49880000 0x3570f0f1 0 0 ∷ particle 0x41000000 0x00000000 0x41000000 0x00000000 0x48400000 0x36aaaaab 1 0 ∷ particle 0x00000000 0x41000000 0x00000000 0x41000000 0x3f800000 0x3f800000 2 0 ∷ particle 0x40c00000 0x00000000 0x40c00000 0x00000000 0x49100000 0x35e38e39 3 0 ∷ particle 0x40c00000 0x00000000 0x40c00000 0x00000000 0x48400000 0x36aaaaab 4 0 ∷ [])
    []
    (edge 0 3 1 0 0x40c00000 0x40c00000 0 0 ∷ edge 0 2 1 0 0x41000000 0x41000000 0 0 ∷ edge 4 1 1 0 0x40000000 0x40000000 0 0 ∷ [])
    []

-- the mesh is accepted, and cut across strap (0, 1) at 0.75
pub strap_cut : cut_call true two_straps 1 (blade 0x40c00000 0xbf800000 0x40c00000 0x3f800000) (bits 0x3dcccccd) (rooms 1024 1024 2048 2048 4096) ≡ done too_heavy (met 0 1 (point 0x40c00000 0) (bits 0x3f400000) ∷ insert 0 1 3 4 (bits 0x3f400000) ∷ []) true
unfolding all finite? number? volume? not_below0? abs_of particle_ok triangle_ok edge_ok numbers_fit_of named root_ok corners_ok ends_ok side_ok indices_fit_of refusal of_bits neg lt le eq ne add sub mul div is_nan any sift fold each pairs map_at_of tab up_to rising inv_of lerp_of blade_hit_of place_of rest_of besides sum kind_by kind_of straps_from elements_of meets crossings near_end straps_at strap_share insertion_of wanted? insertable side_along bends numbers_of bends_over lightened between inserted_particles half_of inserted_edges inserted_sides inserted_mesh insert_step inserted_at crossed unbent after_crossings cut_segments_of marks_of marked_by cut_along cut start step_to changed too_small first_fault outcome cut_call
strap_cut = refl

-- what the cut gave is refused with 2 as input
pub strap_out_of_range : refusal true too_heavy true true ≡ 2
unfolding all finite? number? volume? not_below0? abs_of particle_ok triangle_ok edge_ok numbers_fit_of named root_ok corners_ok ends_ok side_ok indices_fit_of refusal of_bits neg lt le eq
strap_out_of_range = refl

-- two straps between the same two particles of mass 1,048,576: of length 1 + 171 / 8,388,608, and of length 1.625
abbrev pub one_pair : Mesh
one_pair =
    mesh
    (particle 0x00000000 0x00000000 0x00000000 0x00000000 0x49800000 0x35800000 0 0 ∷ particle 0x41000000 0x00000000 0x41000000 0x00000000 0x49800000 0x35800000 1 0 ∷ [])
    []
    (edge 0 1 1 0 0x3f8000ab 0x3f8000ab 0 0 ∷ edge 0 1 1 0 0x3fd00000 0x3fd00000 0 0 ∷ [])
    []

-- behind the cut particle 0 has mass 1,048,576.125
abbrev pub just_too_heavy : Mesh
just_too_heavy =
    mesh
    (particle 0x00000000 0x00000000 0x00000000 0x00000000 0x49800001 0x357ffffe 0 0 ∷ particle 0x41000000 0x00000000 0x41000000 0x00000000 0xbd800000 0xc1800000 1 0
    ∷ particle 0x41000000 0x00000000 0x41000000 0x00000000 0x48c30cd1 0x3627ff76 2 0 ∷ particle 0x41000000 0x00000000 0x41000000 0x00000000 0x00000000 0x00000000 3 0
    ∷ particle 0x41000000 0x00000000 0x41000000 0x00000000 0x491e7998 0x35cec554 4 0 ∷ particle 0x41000000 0x00000000 0x41000000 0x00000000 0x00000000 0x00000000 5 0 ∷ [])
    []
    (edge 0 2 1 0 0x3f8000ab 0x3f8000ab 0 0 ∷ edge 0 4 1 0 0x3fd00000 0x3fd00000 0 0 ∷ edge 3 1 1 0 0 0 0 0 ∷ edge 5 1 1 0 0 0 0 0 ∷ [])
    []

-- the mesh is accepted, and both straps are cut at their end, with fraction 0
pub pair_cut : cut_call true one_pair 1 (blade 0x41000000 0xbf800000 0x41000000 0x3f800000) (bits 0) (rooms 1024 1024 2048 2048 4096) ≡ done just_too_heavy (met 0 1 (point 0x41000000 0) (bits 0x3f800000) ∷ met 0 1 (point 0x41000000 0) (bits 0x3f800000) ∷ insert 0 1 2 3 (bits 0x3f800000) ∷ insert 0 1 4 5 (bits 0x3f800000) ∷ []) true
unfolding all finite? number? volume? not_below0? abs_of particle_ok triangle_ok edge_ok numbers_fit_of named root_ok corners_ok ends_ok side_ok indices_fit_of refusal of_bits neg lt le eq ne add sub mul div is_nan any sift fold each pairs map_at_of tab up_to rising inv_of lerp_of blade_hit_of place_of rest_of besides sum kind_by kind_of straps_from elements_of meets crossings near_end straps_at strap_share insertion_of wanted? insertable side_along bends numbers_of bends_over lightened between inserted_particles half_of inserted_edges inserted_sides inserted_mesh insert_step inserted_at crossed unbent after_crossings cut_segments_of marks_of marked_by cut_along cut start step_to changed too_small first_fault outcome cut_call
pair_cut = refl

pub pair_out_of_range : refusal true just_too_heavy true true ≡ 2
unfolding all finite? number? volume? not_below0? abs_of particle_ok triangle_ok edge_ok numbers_fit_of named root_ok corners_ok ends_ok side_ok indices_fit_of refusal of_bits neg lt le eq
pair_out_of_range = refl
