-- Rows of names read as columns, and the sides of an outline's block as boundary entries. Assumes nothing.
use Prim.Native.Nat.{ℕ, zero, suc, ◌+◌, ◌*◌, ◌≤◌}
use mathlib.Core.Path.{◌≡◌, refl, sym, ap, ◌∙◌}
use mathlib.Core.List.{List, [], ◌∷◌, ◌++◌, map}
use native.Mathlib.Omega.{arith}
use lib.ListN.{length, take, drop, length-append, length-map}
use lib.Seq.{drop-drop, take_at}
use lib.Dec.{eqb}
use Rattle.lists.specs.Lists.{tab, sift, each}
use Rattle.lists.proofs.Sifts.{sift_length}
use Rattle.columns.proofs.Rows.{tab_ext, tab_length, map_tab}
use Rattle.model.specs.Mesh.{Side}
use Rattle.mesh.specs.At.{boundary_at}
use Rattle.bits.specs.Bits.{field_at}
use Rattle.bits.specs.Rows.{total, unpack, read_rows, column_at}
use Rattle.bits.proofs.RowLaws.{length_column}
use Rattle.outline.specs.Outline.{at, faces_of, single, outline_of_triangles, outline_of_straps, outline_of}
use Rattle.outline_tables.specs.Rows.{rows3, sides_at}
use Rattle.sheet.specs.Sheet.{boundary_w}
use Rattle.sheet.specs.Read.{boundary_from}
use Rattle.sheet_rows.specs.Work.{side_bits}
use Rattle.sheet.proofs.MeshReads.{read_tab}

-- three columns of fields are the rows of the fields
columns_rows : (w : ℕ) (l : List ℕ) (n from st : ℕ) → st ≡ 10 + (10 + (w + 0))
    → rows3 (column_at l from st 10 n) (column_at l (from + 10) st 10 n) (column_at l (from + 20) st w n) ≡ read_rows (10 ∷ 10 ∷ w ∷ []) n (drop from l)
unfolding rows3 column_at read_rows tab total unpack
columns_rows w l zero from st e = refl
columns_rows w l (suc n) from st e =
    let a : from + 10 + 10 ≡ from + 20 = omega arith in
    let b : from + 10 + st ≡ from + st + 10 = omega arith in
    let d : from + 20 + st ≡ from + st + 20 = omega arith in
    let i = columns_rows w l n (from + st) st e in
    rw (b, d, drop-drop 10 from l, drop-drop 10 (from + 10) l, a, ← e, drop-drop st from l) (ap (λ (t : List (List ℕ)). (field_at l from 10 ∷ field_at l (from + 10) 10 ∷ field_at l (from + 20) w ∷ []) ∷ t) i)

-- the front of a column that was read
taken : (l : List ℕ) (from st w n : ℕ) (a rest : List ℕ) → a ≡ column_at l from st w n ++ rest → take n a ≡ column_at l from st w n
taken l from st w n a rest e = ap (take n) e ∙ take_at (column_at l from st w n) rest n (length_column l from st w n)

-- the fronts of three columns that were read are the rows
pub read_rows_lem : (w : ℕ) (l : List ℕ) (n from st : ℕ) (a b c ra rb rc : List ℕ) → st ≡ 10 + (10 + (w + 0))
    → a ≡ column_at l from st 10 n ++ ra → b ≡ column_at l (from + 10) st 10 n ++ rb → c ≡ column_at l (from + 20) st w n ++ rc
    → rows3 (take n a) (take n b) (take n c) ≡ read_rows (10 ∷ 10 ∷ w ∷ []) n (drop from l)
read_rows_lem w l n from st a b c ra rb rc e ea eb ec =
    rw (taken l from st 10 n a ra ea, taken l (from + 10) st 10 n b rb eb, taken l (from + 20) st w n c rc ec) (columns_rows w l n from st e)

-- ---- how long an outline is

each_few : {A B : Type 0} (f : A → List B) → ((a : A) → length (f a) ≤ 3) → (l : List A) → length (each f l) ≤ 3 * length l
unfolding each
each_few f h [] = omega arith
each_few f h (a ∷ l) = omega (arith, length-append (f a) (each f l), h a, each_few f h l)

pub own_few : (ts es : List (List ℕ)) → length ts ≤ 1024 → length es ≤ 2048 → length (outline_of ts es) ≤ 3072
unfolding outline_of outline_of_triangles outline_of_straps
own_few [] es p q =
    let l = sift (λ (e : List ℕ). eqb (at e 2) 1) es in
    omega (arith, length-map l (take 2), sift_length (λ (e : List ℕ). eqb (at e 2) 1) es)
own_few (t ∷ ts) es p q =
    let h = each_few (λ (u : List ℕ). sift (single (t ∷ ts)) (faces_of u)) (λ u. sift_length (single (t ∷ ts)) (faces_of u)) (t ∷ ts) in
    omega arith

-- ---- sides and boundary entries

pub sides_long : (n : ℕ) (o : List ℕ) → length (sides_at n o) ≡ n
unfolding sides_at
sides_long n o = tab_length n _

pub sides_boundary : (n : ℕ) (o : List ℕ) → boundary_at n o ≡ boundary_from (sides_at n o)
unfolding boundary_at boundary_from sides_at
sides_boundary n o = sym (map_tab _ n _)

abbrev ends : Side → List ℕ
ends s = s.corners

pub typed_sides : (n : ℕ) (o l : List ℕ) (from : ℕ) → boundary_at n o ≡ tab n (side_bits l from) → sides_at n o ≡ read_rows boundary_w n (drop from l)
unfolding boundary_at sides_at total unpack
typed_sides n o l from e =
    sym (map_tab ends n _) ∙ (ap (map ends) e ∙ (map_tab ends n _
    ∙ (tab_ext n _ _ (λ k h. rw (drop-drop 10 (from + k * 20) l)) ∙ sym (read_tab boundary_w n l from))))
