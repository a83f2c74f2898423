-- The marks of crossings bring a sheet no new refusal: the 640 log entries that are lent have room for 256 and for every mark. Assumes nothing.
use Prim.Native.Nat.{ℕ, zero, suc, ◌≤◌}
use native.Mathlib.Omega.{arith}
use mathlib.Core.Path.{◌≡◌, refl, sym, ap, ◌∙◌}
use mathlib.Core.Bool.{Bool, true, ◌&&◌}
use mathlib.Core.List.{List, ◌++◌}
use lib.ListN.{length}
use Rattle.model.specs.Mesh.{Mesh}
use Rattle.model.specs.Elements.{kind_of}
use Rattle.model.specs.Run.{Entry, Rooms, Run, start}
use Rattle.model.specs.Cut.{Line, rounded, Blade, marks_of, cut_along, cut}
use Rattle.model.specs.Calls.{blade_ok, fraction_ok, triangles_lent, refusal, first_fault, Outcome, refused, done, fitted, outcome, unless, cut_call}
use Rattle.model_laws.proofs.Whole.{edition_first}
use Rattle.model_laws.proofs.Kept.{unless_done, outcome_done}
use Rattle.model_laws.proofs.Marks.{marks_few, roomier, marks_fit, as_unmarked}
use Rattle.mesh.specs.declared.Counts as M
use Rattle.bits.specs.Bits.{bits_of}
use Rattle.sheet.specs.Sheet.{Sheet, limits}
use Rattle.sheet.proofs.Rowed.{sheet_rowed}
use Rattle.sheet.specs.Read.{mesh_of_sheet, blade_of_sheet}
use Rattle.sheet.specs.declared.Counts.{Counts}
use Rattle.edition.specs.Edition.{sheet_of, seen_of, whole_with}
use Rattle.sheetcut.specs.SheetCut.{rooms, fraction, blade_of, cut_of}
use Rattle.sheet_fronts.proofs.Reading.{seen_few, mesh_counts}

-- the rooms without places for marks
abbrev pub unmarked_rooms : Rooms
unmarked_rooms = record { particles = 256; triangles = 128; edges = 512; boundary = 512; log = 256 }

-- the line of a sheet, and its blade, which cuts in edition 1
abbrev pub line_in : Sheet → Line
line_in S = blade_of (blade_of_sheet S)

abbrev pub blade_in : Sheet → Blade
blade_in S = record { line = line_in S; rule = rounded }

-- the run of the cut of a sheet that marks no crossings
unfoldable pub unmarked_run : Sheet → Run
unmarked_run S = cut_along (kind_of (mesh_of_sheet S)) (blade_in S) fraction (start (mesh_of_sheet S))

-- and its answer
unfoldable pub unmarked_of : Sheet → Outcome
unmarked_of S =
    unless (refusal true (mesh_of_sheet S) (blade_ok (line_in S)) (fraction_ok fraction && triangles_lent unmarked_rooms (mesh_of_sheet S))) (outcome unmarked_rooms (unmarked_run S))

-- a sheet within the program's limits has at most 384 crossings
pub sheet_marks : (s : List ℕ) (c : Counts) (f : Bool) → seen_of limits s ≡ whole_with c f → let S = (sheet_of (bits_of s)).sheet in length (marks_of (kind_of (mesh_of_sheet S)) (blade_in S) (mesh_of_sheet S)) ≤ 384
sheet_marks s c f seen =
    let S = (sheet_of (bits_of s)).sheet in
    let F = seen_few s c f seen in
    let k = mesh_counts s c f seen in
    let t = ap (λ (x : M.Counts). x.triangles) k in
    let e = ap (λ (x : M.Counts). x.edges) k in
    marks_few (kind_of (mesh_of_sheet S)) (blade_in S) (mesh_of_sheet S) 128 256 (sheet_rowed S).triangles (omega (arith, t, F.triangles)) (omega (arith, e, F.edges)) (omega arith)

-- No sheet within the limits gets a refusal 8 that it did not get without marks: where its cut without them is not refused by 8, its cut with them is refused by the same number, or by none as well.
pub no_new_refusal : (s : List ℕ) (c : Counts) (f : Bool) → seen_of limits s ≡ whole_with c f → let S = (sheet_of (bits_of s)).sheet in (first_fault unmarked_rooms (unmarked_run S).needs ≡ 8 → ⊥)
    → first_fault rooms (cut (kind_of (mesh_of_sheet S)) (blade_in S) fraction (start (mesh_of_sheet S))).needs ≡ first_fault unmarked_rooms (unmarked_run S).needs
unfolding unmarked_run roomier
no_new_refusal s c f seen not8 =
    let S = (sheet_of (bits_of s)).sheet in
    marks_fit (kind_of (mesh_of_sheet S)) (blade_in S) fraction (mesh_of_sheet S) unmarked_rooms 384 (sheet_marks s c f seen) not8

-- a run that is done lacks no room
number : Outcome → ℕ
number (refused n) = n
number (done M l c) = 0

no_fault : (n : ℕ) (R : Run) (M : Mesh) (l : List Entry) (c : Bool) → fitted n R ≡ done M l c → n ≡ 0
unfolding number
no_fault zero R M l c e = refl
no_fault (suc n) R M l c e = ap number e

done_path : {M N : Mesh} {l k : List Entry} {b c : Bool} → M ≡ N → l ≡ k → b ≡ c → done M l b ≡ done N k c
done_path m l b = λ i. done (m i) (l i) (b i)

-- Where the cut of a sheet without marks is done, the cut is done with the same mesh, its log behind the marks, and changed or not as before.
pub done_as_unmarked : (s : List ℕ) (c : Counts) (f : Bool) (M : Mesh) (l : List Entry) (b : Bool) → seen_of limits s ≡ whole_with c f → unmarked_of (sheet_of (bits_of s)).sheet ≡ done M l b
    → let S = (sheet_of (bits_of s)).sheet in cut_of S ≡ done M (marks_of (kind_of (mesh_of_sheet S)) (blade_in S) (mesh_of_sheet S) ++ l) b
unfolding unmarked_of unmarked_run cut_of cut_call outcome
done_as_unmarked s c f M l b seen e =
    let S = (sheet_of (bits_of s)).sheet in
    let N = mesh_of_sheet S in
    let B = blade_in S in
    let n = refusal true N (blade_ok (line_in S)) (fraction_ok fraction && triangles_lent unmarked_rooms N) in
    let u = unless_done n (outcome unmarked_rooms (unmarked_run S)) M l b e in
    let d = outcome_done unmarked_rooms (unmarked_run S) M l b u.1 in
    let z = no_fault (first_fault unmarked_rooms (unmarked_run S).needs) (unmarked_run S) M l b u.1 in
    let same = no_new_refusal s c f seen (λ h. let y : ◌≡◌ {A = ℕ} 8 0 = sym h ∙ z in omega arith) ∙ z in
    let A = as_unmarked (kind_of N) B fraction N in
    let C = cut (kind_of N) B fraction (start N) in
    ap (λ (n : ℕ). unless n (outcome rooms C)) (edition_first true N (line_in S) fraction rooms ∙ u.0)
    ∙ ap (λ (n : ℕ). fitted n C) same
    ∙ done_path (A.mesh ∙ d.0) (A.log ∙ ap (λ (k : List Entry). marks_of (kind_of N) B N ++ k) d.1) (A.changed ∙ d.2)
