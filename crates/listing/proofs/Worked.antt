-- The worked listing (docs/RULES.md, R15.7), byte for byte, of the model's cut of the worked mesh; the listing of its worked strap; a refusal; and numbers. Assumes nothing.
use Prim.Native.Nat.{ℕ}
use mathlib.Core.Path.{◌≡◌, refl, ap, ◌∙◌}
use mathlib.Core.Bool.{true, false}
use mathlib.Core.List.{List, [], ◌∷◌, map}
use lib.IntN.{pos, negsuc}
use lib.Ieee.{fin}
use Rattle.lists.specs.Lists.{sift, each}
use Rattle.float.specs.Numbers.{zero32, one}
use Rattle.model.specs.Run.{Entry, split, edge, insert, met}
use Rattle.model.specs.Calls.{Outcome, refused, done, cut_call}
use Rattle.model.specs.Starred.{point, quarter, tenth, limits, strap_mesh, listing_mesh, blade}
use Rattle.model.proofs.Starred.{Said, no_mesh, told, said, listing_worked, strap_worked}
use Rattle.mesh.specs.Log.{words_of}
use Rattle.listing.specs.Listing.{decimal_by, decimal, line, of_kind, replaced_line, listing_bytes, refused_bytes, printed}

-- `tear 1`, `split 4 0`, `split 5 2`, `edge 1 3`, `particles 6`, `pieces 2`, a line each
abbrev pub worked_bytes : List ℕ
worked_bytes =
    116 ∷ 101 ∷ 97 ∷ 114 ∷ 32 ∷ 49 ∷ 10
    ∷ 115 ∷ 112 ∷ 108 ∷ 105 ∷ 116 ∷ 32 ∷ 52 ∷ 32 ∷ 48 ∷ 10
    ∷ 115 ∷ 112 ∷ 108 ∷ 105 ∷ 116 ∷ 32 ∷ 53 ∷ 32 ∷ 50 ∷ 10
    ∷ 101 ∷ 100 ∷ 103 ∷ 101 ∷ 32 ∷ 49 ∷ 32 ∷ 51 ∷ 10
    ∷ 112 ∷ 97 ∷ 114 ∷ 116 ∷ 105 ∷ 99 ∷ 108 ∷ 101 ∷ 115 ∷ 32 ∷ 54 ∷ 10
    ∷ 112 ∷ 105 ∷ 101 ∷ 99 ∷ 101 ∷ 115 ∷ 32 ∷ 50 ∷ 10 ∷ []

-- the log in the order of happening: the four sides that the blade meets, which have no line; copy 4 of 0, with which edge (1, 3) goes, then copy 5 of 2
abbrev pub worked_log : List Entry
worked_log =
    met 0 1 (point (pos 0) (pos 0)) zero32 ∷ met 1 2 (point (pos 4) (pos 4)) one ∷ met 0 3 (point (pos 0) (pos 0)) (fin true 0 (pos 0))
    ∷ met 2 3 (point (pos 4) (pos 4)) (fin true 0 (pos 0))
    ∷ split 4 0
    ∷ edge 1 3
    ∷ split 5 2
    ∷ []

pub worked_listing : listing_bytes false (map words_of worked_log) 6 2 ≡ worked_bytes
unfolding listing_bytes replaced_line of_kind sift each line decimal decimal_by
worked_listing = refl

-- the same with the line of a replaced outline behind `tear 1`
abbrev pub replaced_bytes : List ℕ
replaced_bytes =
    116 ∷ 101 ∷ 97 ∷ 114 ∷ 32 ∷ 49 ∷ 10
    ∷ 111 ∷ 117 ∷ 116 ∷ 108 ∷ 105 ∷ 110 ∷ 101 ∷ 32 ∷ 114 ∷ 101 ∷ 112 ∷ 108 ∷ 97 ∷ 99 ∷ 101 ∷ 100 ∷ 10
    ∷ 115 ∷ 112 ∷ 108 ∷ 105 ∷ 116 ∷ 32 ∷ 52 ∷ 32 ∷ 48 ∷ 10
    ∷ 115 ∷ 112 ∷ 108 ∷ 105 ∷ 116 ∷ 32 ∷ 53 ∷ 32 ∷ 50 ∷ 10
    ∷ 101 ∷ 100 ∷ 103 ∷ 101 ∷ 32 ∷ 49 ∷ 32 ∷ 51 ∷ 10
    ∷ 112 ∷ 97 ∷ 114 ∷ 116 ∷ 105 ∷ 99 ∷ 108 ∷ 101 ∷ 115 ∷ 32 ∷ 54 ∷ 10
    ∷ 112 ∷ 105 ∷ 101 ∷ 99 ∷ 101 ∷ 115 ∷ 32 ∷ 50 ∷ 10 ∷ []

pub replaced_listing : listing_bytes true (map words_of worked_log) 6 2 ≡ replaced_bytes
unfolding listing_bytes replaced_line of_kind sift each line decimal decimal_by
replaced_listing = refl

-- `tear 1`, `insert 0 1 2 3`, `particles 4`, `pieces 2`, a line each
abbrev strap_bytes : List ℕ
strap_bytes =
    116 ∷ 101 ∷ 97 ∷ 114 ∷ 32 ∷ 49 ∷ 10
    ∷ 105 ∷ 110 ∷ 115 ∷ 101 ∷ 114 ∷ 116 ∷ 32 ∷ 48 ∷ 32 ∷ 49 ∷ 32 ∷ 50 ∷ 32 ∷ 51 ∷ 10
    ∷ 112 ∷ 97 ∷ 114 ∷ 116 ∷ 105 ∷ 99 ∷ 108 ∷ 101 ∷ 115 ∷ 32 ∷ 52 ∷ 10
    ∷ 112 ∷ 105 ∷ 101 ∷ 99 ∷ 101 ∷ 115 ∷ 32 ∷ 50 ∷ 10 ∷ []

strap_listing : listing_bytes false (map words_of (met 0 1 (point (pos 2) (pos 0)) quarter ∷ insert 0 1 2 3 quarter ∷ [])) 4 2 ≡ strap_bytes
unfolding listing_bytes replaced_line of_kind sift each line decimal decimal_by
strap_listing = refl

-- ---- from the mesh to the bytes

-- what is printed depends only on what the worked case says of a result
abbrev printed_said : Said → List ℕ
printed_said (no_mesh code) = refused_bytes code
printed_said (told t) = listing_bytes false (map words_of t.log) t.particles t.pieces

printed_as : (o : Outcome) → printed false o ≡ printed_said (said o)
printed_as (refused code) = refl
printed_as (done M log changed) = refl

-- the worked mesh, cut by (-1,-1) to (5,5)
pub worked_printed : printed false (cut_call true listing_mesh 1 (blade (negsuc 0) (negsuc 0) (pos 5) (pos 5)) tenth limits) ≡ worked_bytes
worked_printed = printed_as (cut_call true listing_mesh 1 (blade (negsuc 0) (negsuc 0) (pos 5) (pos 5)) tenth limits) ∙ ap printed_said listing_worked ∙ worked_listing

-- the worked strap, cut by (2,-1) to (2,1)
pub strap_printed : printed false (cut_call true strap_mesh 1 (blade (pos 2) (negsuc 0) (pos 2) (pos 1)) tenth limits) ≡ strap_bytes
strap_printed = printed_as (cut_call true strap_mesh 1 (blade (pos 2) (negsuc 0) (pos 2) (pos 1)) tenth limits) ∙ ap printed_said strap_worked ∙ strap_listing

-- ---- single lines and numbers

-- `refused 9`
pub worked_refused : refused_bytes 9 ≡ 114 ∷ 101 ∷ 102 ∷ 117 ∷ 115 ∷ 101 ∷ 100 ∷ 32 ∷ 57 ∷ 10 ∷ []
unfolding refused_bytes each line decimal decimal_by
worked_refused = refl

-- `128`, and `1024`
pub worked_number : (decimal 128 ≡ 49 ∷ 50 ∷ 56 ∷ []) × (decimal 1024 ≡ 49 ∷ 48 ∷ 50 ∷ 52 ∷ [])
unfolding decimal decimal_by
worked_number = (refl, refl)
