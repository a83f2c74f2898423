-- Which particles lie in different bodies, by the tables that `join_elements` and `mark_used` fill. Assumes nothing.
use mathlib.Core.Path.{◌≡◌, refl, sym, ◌∙◌, ap, ap₂}
use mathlib.Core.Bool.{Bool, true, false, not, ◌&&◌}
use mathlib.Core.List.{List}
use Prim.Native.Nat.{ℕ, ◌<◌, ◌≤◌}
use native.Mathlib.Omega.{arith}
use lib.Dec.{eqb}
use lib.ListN.{length, get_or}
use Rattle.lists.specs.Lists.{pick}
use Rattle.model.specs.Elements.{Element}
use Rattle.model.specs.Pieces.{body_labels, spans}
use Rattle.elements.specs.Table.{Cornered}
use Rattle.piece_classes.specs.Classes.{held_by}
use Rattle.bodies.specs.Bodies.{BodyRoots, UsedMarked}
use Rattle.piece_classes.proofs.Laws.{spans_by_root}

-- a mark, read as a test
mark_eqb : (b : Bool) → eqb (pick b 1 0) 1 ≡ b
mark_eqb true = refl
mark_eqb false = refl

-- two particles are marked, and their roots differ
pub spans_by_tables : {n k : ℕ} {verts roots used : List ℕ} (es : List Element) → Cornered k es n verts → BodyRoots n k verts roots → UsedMarked n k verts used
    → length roots ≤ length used → (x y : ℕ) → x < length roots → y < length roots
    → spans es (body_labels es) x y ≡ eqb (get_or used x 0) 1 && (eqb (get_or used y 0) 1 && not (eqb (get_or roots x 0) (get_or roots y 0)))
spans_by_tables {roots = roots} {used} es C R U h x y l m =
    let held : (z : ℕ) → z < length roots → eqb (get_or used z 0) 1 ≡ held_by es z = λ z g. ap (λ (a : ℕ). eqb a 1) (U.marks es C z (omega arith)) ∙ mark_eqb (held_by es z) in
    spans_by_root es roots (R.lowest es C) x y l m
    ∙ ap₂ (λ (s t : Bool). s && (t && not (eqb (get_or roots x 0) (get_or roots y 0)))) (sym (held x l)) (sym (held y m))
