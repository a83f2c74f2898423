-- Rows, right names and the blade of a sheet by the places of their bits.
use Prim.Native.Nat.{ℕ, zero, suc, ◌+◌, ◌*◌}
use native.Mathlib.Omega.{arith}
use native.Mathlib.Nat.{suc-mul, zero-mul}
use mathlib.Core.Path.{◌≡◌, refl, sym, ap, ◌∙◌}
use mathlib.Core.Bool.{true, false, ◌&&◌}
use mathlib.Core.List.{List, [], ◌∷◌, map}
use lib.ListN.{drop}
use lib.Seq.{drop-drop}
use Rattle.lists.specs.Lists.{tab}
use Rattle.columns.proofs.Rows.{tab_ext}
use Rattle.lists.proofs.Sifts.{and_true}
use Rattle.bits.specs.Bits.{field_at}
use Rattle.bits.specs.Rows.{total, unpack, read_rows, column_at}
use Rattle.sheet.specs.Sheet.{sheet_with, blade_w, at_triangles, at_edges, at_boundary, at_blade}
use Rattle.sheet.specs.Work.{ok_at_of, names_at}
use Rattle.sheet.specs.Read.{the_float_of, blade_of_sheet}
use Rattle.sheet.specs.declared.Counts.{Counts}

-- rows by their places
pub read_tab : (ws : List ℕ) (n : ℕ) (l : List ℕ) (p : ℕ) → read_rows ws n (drop p l) ≡ tab n (λ k. unpack ws (drop (p + k * total ws) l))
unfolding read_rows tab
read_tab ws zero l p = refl
read_tab ws (suc n) l p =
    let z : p + zero * total ws ≡ p = omega (arith, zero-mul (total ws)) in
    rw (z, drop-drop (total ws) p l, read_tab ws n l (p + total ws))
    (ap (λ (t : List (List ℕ)). unpack ws (drop p l) ∷ t)
    (tab_ext n (λ k. unpack ws (drop (p + total ws + k * total ws) l)) (λ k. unpack ws (drop (p + suc k * total ws) l))
    (λ k h. let e : p + total ws + k * total ws ≡ p + suc k * total ws = omega (arith, suc-mul k (total ws)) in ap (λ (j : ℕ). unpack ws (drop j l)) e)))

-- right names, list by list
pub names_parts : (c : Counts) (l : List ℕ) → names_at c l ≡ true
    → (ok_at_of true c.particles l (at_triangles c) 30 c.triangles ≡ true) × (ok_at_of false c.particles l (at_edges c) 21 c.edges ≡ true) × (ok_at_of false c.particles l (at_boundary c) 20 c.boundary ≡ true)
names_parts c l e =
    let w = and_true (ok_at_of true c.particles l (at_triangles c) 30 c.triangles) (ok_at_of false c.particles l (at_edges c) 21 c.edges && ok_at_of false c.particles l (at_boundary c) 20 c.boundary) e in
    let v = and_true (ok_at_of false c.particles l (at_edges c) 21 c.edges) (ok_at_of false c.particles l (at_boundary c) 20 c.boundary) w.1 in
    (w.0, v.0, v.1)

-- the row of a blade, by the places of its fields
pub blade_row : (l : List ℕ) (at : ℕ) → field_at l at 11 ∷ field_at l (at + 11) 11 ∷ field_at l (at + 22) 11 ∷ field_at l (at + 33) 11 ∷ [] ≡ unpack blade_w (drop at l)
unfolding unpack
blade_row l at =
    let f : at + 11 + 11 ≡ at + 22 = omega arith in
    let g : at + 22 + 11 ≡ at + 33 = omega arith in
    rw (drop-drop 11 at l, drop-drop 11 (at + 11) l, f, drop-drop 11 (at + 22) l, g)

-- the blade's fields as a column
col_blade : (c : Counts) (l : List ℕ) → (sheet_with c l).blade ≡ column_at l (at_blade c) 11 11 4
unfolding sheet_with unpack column_at
col_blade c l = rw (drop-drop 11 (at_blade c) l, drop-drop 11 (at_blade c + 11) l, drop-drop 11 (at_blade c + 11 + 11) l)

-- the blade by the places of its fields
pub blade_read :
    (c : Counts) (l : List ℕ)
    → the_float_of (field_at l (at_blade c) 11) ∷ the_float_of (field_at l (at_blade c + 11) 11) ∷ the_float_of (field_at l (at_blade c + 22) 11) ∷ the_float_of (field_at l (at_blade c + 33) 11) ∷ [] ≡ blade_of_sheet (sheet_with c l)
unfolding blade_of_sheet column_at
blade_read c l =
    let e : at_blade c + 11 + 11 ≡ at_blade c + 22 = omega arith in
    let f : at_blade c + 22 + 11 ≡ at_blade c + 33 = omega arith in
    sym (ap (map the_float_of) (col_blade c l) ∙ rw (e, f))
