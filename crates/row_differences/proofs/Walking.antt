-- Laws of two lists of rows, in columns, gone through place by place. Assumes nothing.
use Prim.Native.Nat.{ℕ, zero, suc, ◌+◌, ◌-◌, ◌*◌, ◌/◌, ◌^◌, ◌<◌, ◌≤◌}
use native.Mathlib.Omega.{arith}
use native.Mathlib.Nat.{suc-mul}
use native.Mathlib.Decide.{dec_le}
use mathlib.Core.Path.{◌≡◌, refl, sym, ap, ap₂, ◌∙◌, subst}
use mathlib.Core.Bool.{Bool, true, false}
use mathlib.Core.List.{List, [], ◌∷◌, ◌++◌}
use mathlib.Core.Option.{Option, none, some}
use lib.Dec.{ltb}
use lib.Pow.{pow_pos}
use lib.ListN.{length, get_or, take, drop, length-drop}
use lib.Seq.{take_at, drop-drop, get_or-take, get_or-drop, length-take-le}
use borrow.Author.Tests.{lt-ltb, le-ltb}
use Rattle.lists.specs.Lists.{pick, each, tab, same_row_of}
use Rattle.lists.proofs.Sifts.{tab_ext}
use Rattle.lists.proofs.Stores.{tab_length}
use Rattle.lists.proofs.Steps.{each_step}
use Rattle.columns.specs.Block.{cell}
use Rattle.bits.specs.Bits.{bits_of, field_at}
use Rattle.bits.proofs.Laws.{length_bits_of}
use Rattle.bits.specs.Rows.{total, unpack, read_rows, column_at}
use Rattle.bits.proofs.RowLaws.{AllBits, bits_bits_of, field_lt, length_column}
use Rattle.outline_tables.specs.Rows.{side_at, sides_at}
use Rattle.listing.proofs.Appending.{appends_none}
use Rattle.differences.specs.Differences.{Difference, place, rows_differ}
use Rattle.differences.specs.Work.{read_at, same_reading_of, place_differs, row_by, as_row, Coords, CoordsRead, Lists}
use Rattle.row_differences.specs.Work.{CoordsIn, reading_at, rows_in, RowsAsked, ThreeRead, of_three, ListAsked, SidesAsked}
use Rattle.differences.specs.declared.Part.{Part}
use Rattle.differences.specs.declared.Part.TheVariants.{Particles, Triangles, Edges, Boundary}
use Rattle.std.specs.Prelude.{Option as Opt, None, Some}
use Rattle.differences.specs.declared.lines.Lines.{Lines}
use Rattle.differences.proofs.Places.{rows_all}
use Rattle.differences.proofs.Writing.{lists_then, lists_as}

-- ---- readings

both_less : (k n : ℕ) → ltb k n ≡ ltb (suc k) (suc n)
both_less k n = elim (dec_le n k) [ yes h ↦ le-ltb k n h ∙ sym (le-ltb (suc k) (suc n) (omega arith)) | no h ↦ lt-ltb k n (omega arith) ∙ sym (lt-ltb (suc k) (suc n) (omega arith)) ]

read_tab : (n : ℕ) (f : ℕ → List ℕ) (k : ℕ) → read_at (tab n f) k ≡ pick (ltb k n) (some (f k)) none
unfolding tab
read_tab zero f k = ap (λ (t : Bool). pick t (some (f k)) none) (sym (le-ltb k 0 (omega arith)))
read_tab (suc n) f zero = ap (λ (t : Bool). pick t (some (f 0)) none) (sym (lt-ltb 0 (suc n) (omega arith)))
read_tab (suc n) f (suc k) =
    read_tab n (λ j. f (suc j)) k ∙ ap (λ (t : Bool). pick t (some (f (suc k))) none) (both_less k n)

as_by : (p : Part) (t : Bool) (x y z : ℕ) → as_row p (pick t (Some (x, y, z)) None) ≡ pick t (some (row_by p x y z)) none
as_by p true x y z = refl
as_by p false x y z = refl

-- the reading that the code finds is the list's
pub reading_row : (p : Part) (a b c : List ℕ) (k : ℕ) (r : Opt (ℕ × ℕ × ℕ)) → r ≡ reading_at a b c k → as_row p r ≡ read_at (rows_in p a b c) k
unfolding rows_in
reading_row p a b c k r e =
    ap (as_row p) e ∙ (as_by p (ltb k (length a)) (get_or a k 0) (get_or b k 0) (get_or c k 0) ∙ sym (read_tab (length a) (λ j. row_by p (get_or a j 0) (get_or b j 0) (get_or c j 0)) k))

coords_by : (p : Part) (t : Bool) (x y z : ℕ) → Coords p x y → CoordsRead p (pick t (Some (x, y, z)) None)
coords_by p true x y z h = h
coords_by p false x y z h = tt

coords_in : (p : Part) (a b : List ℕ) (k : ℕ) → CoordsIn p a b → Coords p (get_or a k 0) (get_or b k 0)
coords_in Particles a b k h = h k
coords_in Triangles a b k h = tt
coords_in Edges a b k h = tt
coords_in Boundary a b k h = tt

pub coords_at : (p : Part) (a b c : List ℕ) (k : ℕ) (r : Opt (ℕ × ℕ × ℕ)) → r ≡ reading_at a b c k → CoordsIn p a b → CoordsRead p r
coords_at p a b c k r e h = subst (CoordsRead p) (sym e) (coords_by p (ltb k (length a)) (get_or a k 0) (get_or b k 0) (get_or c k 0) (coords_in p a b k h))

-- ---- the loop

-- at its head: the lines of the first k of n places are written
pub record Walked (p : Part) (A B : List (List ℕ)) (n : ℕ) (s₀ : List ℕ) (l₀ : Lines) (s : List ℕ) (l : Lines) (k : ℕ) : Type 0 where
  pub so_far : Lists (each (λ j. place_differs p j (read_at A j) (read_at B j)) (tab k (λ j. j))) s₀ l₀ s l
  pub long : length s ≡ length s₀
  pub below : k ≤ n
  pub few : l.count ≤ l₀.count + k

none_yet : (s : List ℕ) (l : Lines) → Lists [] s l s l
unfolding each
none_yet s l = record { text = appends_none s l.at; counted = omega arith }

pub walk_start : (p : Part) (A B : List (List ℕ)) (n : ℕ) (s : List ℕ) (l : Lines) → Walked p A B n s l s l 0
unfolding each tab
walk_start p A B n s l = record { so_far = none_yet s l; long = refl; below = omega arith; few = omega arith }

pub pick_few : (t : Bool) (d : Difference) → length (pick t [] (d ∷ [])) ≤ 1
pick_few true d = omega arith
pick_few false d = omega arith

place_few : (p : Part) (k : ℕ) (r s : Option (List ℕ)) → length (place_differs p k r s) ≤ 1
unfolding place_differs
place_few p k r s = pick_few (same_reading_of r s) (place p k r s)

pub walk_more : (p : Part) (a b c x y z : List ℕ) (n : ℕ) (s₀ : List ℕ) (l₀ : Lines) (s : List ℕ) (l : Lines) (k : ℕ) (s' : List ℕ) (l' : Lines) (r u : Opt (ℕ × ℕ × ℕ))
    → Walked p (rows_in p a b c) (rows_in p x y z) n s₀ l₀ s l k → k < n → r ≡ reading_at a b c k → u ≡ reading_at x y z k
    → Lists (place_differs p k (as_row p r) (as_row p u)) s l s' l' → length s' ≡ length s → Walked p (rows_in p a b c) (rows_in p x y z) n s₀ l₀ s' l' (k + 1)
walk_more p a b c x y z n s₀ l₀ s l k s' l' r u W h e f L m =
    let A = rows_in p a b c in
    let B = rows_in p x y z in
    let g : ℕ → List Difference = λ j. place_differs p j (read_at A j) (read_at B j) in
    let q : place_differs p k (as_row p r) (as_row p u) ≡ g k = ap₂ (λ (i j : Option (List ℕ)). place_differs p k i j) (reading_row p a b c k r e) (reading_row p x y z k u f) in
    record {
      so_far = lists_as (lists_then W.so_far (lists_as L q)) (sym (each_step g (λ j. j) k));
      long = m ∙ W.long;
      below = omega arith;
      few = omega (arith, W.few, L.counted, place_few p k (as_row p r) (as_row p u));
    }

rows_long : (p : Part) (a b c : List ℕ) → length (rows_in p a b c) ≡ length a
unfolding rows_in
rows_long p a b c = tab_length (length a) _

pub walk_done : (p : Part) (a b c x y z : List ℕ) (n : ℕ) (s₀ : List ℕ) (l₀ : Lines) (s : List ℕ) (l : Lines) (k : ℕ)
    → Walked p (rows_in p a b c) (rows_in p x y z) n s₀ l₀ s l k → n ≤ k → length a ≤ n → length x ≤ n → Lists (rows_differ p 0 (rows_in p a b c) (rows_in p x y z)) s₀ l₀ s l
walk_done p a b c x y z n s₀ l₀ s l k W h f g =
    let B = W.below in
    lists_as W.so_far (sym (rows_all k p (rows_in p a b c) (rows_in p x y z) (omega (arith, rows_long p a b c)) (omega (arith, rows_long p x y z))))

-- ---- columns

pub front_taken : (l : List ℕ) (at st w n : ℕ) (a rest : List ℕ) → a ≡ column_at l at st w n ++ rest → take n a ≡ column_at l at st w n
front_taken l at st w n a rest e = ap (take n) e ∙ take_at (column_at l at st w n) rest n (length_column l at st w n)

abbrev column_row : List ℕ → ℕ → ℕ → ℕ → ℕ → ℕ → ℕ → List ℕ
column_row l from st w v n k = get_or (column_at l from st w n) k 0 ∷ get_or (column_at l (from + w) st w n) k 0 ∷ get_or (column_at l (from + w + w) st v n) k 0 ∷ []

column_rows : (w v : ℕ) (l : List ℕ) (n from st : ℕ) → st ≡ w + (w + (v + 0)) → tab n (column_row l from st w v n) ≡ read_rows (w ∷ w ∷ v ∷ []) n (drop from l)
unfolding column_at read_rows tab total unpack
column_rows w v l zero from st e = refl
column_rows w v l (suc n) from st e =
    let a : from + w + st ≡ from + st + w = omega arith in
    let b : from + w + w + st ≡ from + st + w + w = omega arith in
    let i = column_rows w v l n (from + st) st e in
    rw (a, b, drop-drop w from l, drop-drop w (from + w) l, ← e, drop-drop st from l) (ap (λ (t : List (List ℕ)). (field_at l from w ∷ field_at l (from + w) w ∷ field_at l (from + w + w) v ∷ []) ∷ t) i)

three_row : (p : Part) (x y z : ℕ) → of_three p ≡ true → row_by p x y z ≡ x ∷ y ∷ z ∷ []
three_row Particles x y z e = refl
three_row Triangles x y z e = refl
three_row Edges x y z e = refl
three_row Boundary x y z e = let k : ◌≡◌ {A = ℕ} 0 1 = cc in absurd (omega arith)

-- three columns that were read are the rows
pub three_rows : (p : Part) (l : List ℕ) (at w v n : ℕ) (a b c : List ℕ) → of_three p ≡ true → ThreeRead l at w v n a b c → rows_in p (take n a) (take n b) (take n c) ≡ read_rows (w ∷ w ∷ v ∷ []) n (drop at l)
unfolding rows_in
three_rows p l at w v n a b c t R =
    let st = w + w + v in
    let X = column_at l at st w n in
    let Y = column_at l (at + w) st w n in
    let Z = column_at l (at + w + w) st v n in
    let e : rows_in p (take n a) (take n b) (take n c) ≡ rows_in p X Y Z = λ i. rows_in p (R.first i) (R.second i) (R.third i) in
    let m : length X ≡ n = length_column l at st w n in
    e ∙ (ap (λ (k : ℕ). tab k (λ j. row_by p (get_or X j 0) (get_or Y j 0) (get_or Z j 0))) m
    ∙ (tab_ext n (λ j. row_by p (get_or X j 0) (get_or Y j 0) (get_or Z j 0)) (column_row l at st w v n) (λ j h. three_row p (get_or X j 0) (get_or Y j 0) (get_or Z j 0) t) ∙ column_rows w v l n at st (omega arith)))

column_below : (l : List ℕ) (at st w n : ℕ) → AllBits l → w ≤ st → at + n * st ≤ length l → (k : ℕ) → get_or (column_at l at st w n) k 0 < 2 ^ w
unfolding column_at
column_below l at st w zero h g r k = pow_pos w
column_below l at st w (suc n) h g r zero = field_lt l at w h (omega (arith, suc-mul n st))
column_below l at st w (suc n) h g r (suc k) = column_below l (at + st) st w n h g (omega (arith, suc-mul n st)) k

coords_made : (p : Part) (a b : List ℕ) → ((k : ℕ) → (get_or a k 0 < 2048) × (get_or b k 0 < 2048)) → CoordsIn p a b
coords_made Particles a b h = h
coords_made Triangles a b h = tt
coords_made Edges a b h = tt
coords_made Boundary a b h = tt

pub three_coords : (p : Part) (l : List ℕ) (at w v n : ℕ) (a b c : List ℕ) → ThreeRead l at w v n a b c → AllBits l → w ≤ 11 → 2 ^ w ≤ 2048 → at + 44 + n * (w + w + v) ≤ length l → CoordsIn p (take n a) (take n b)
three_coords p l at w v n a b c R h o q r =
    let st = w + w + v in
    let x = column_below l at st w n h (omega arith) (omega arith) in
    let y = column_below l (at + w) st w n h (omega arith) (omega arith) in
    coords_made p (take n a) (take n b)
    (λ k. (subst (λ (s : List ℕ). get_or s k 0 < 2048) (sym R.first) (omega (arith, x k)), subst (λ (s : List ℕ). get_or s k 0 < 2048) (sym R.second) (omega (arith, y k))))

-- ---- sides of a block

pub side_rows : (n : ℕ) (o a b c : List ℕ) → n ≤ length o / 2 → a ≡ take n o → b ≡ take n (drop (length o / 2) o) → rows_in Boundary a b c ≡ sides_at n o
unfolding rows_in sides_at cell
side_rows n o a b c h e f =
    let m : length a ≡ n = ap length e ∙ length-take-le n o (omega arith) in
    ap (λ (k : ℕ). tab k (λ j. get_or a j 0 ∷ get_or b j 0 ∷ [])) m
    ∙ tab_ext n (λ j. get_or a j 0 ∷ get_or b j 0 ∷ []) (side_at (length o / 2) o)
    (λ j q.
    let u : 0 * (length o / 2) + j ≡ j = omega arith in
    let x : get_or a j 0 ≡ get_or o (0 * (length o / 2) + j) 0 = ap (λ (s : List ℕ). get_or s j 0) e ∙ (get_or-take n o j 0 q ∙ ap (λ (i : ℕ). get_or o i 0) (sym u)) in
    let v : 1 * (length o / 2) + j ≡ length o / 2 + j = omega arith in
    let y : get_or b j 0 ≡ get_or o (1 * (length o / 2) + j) 0 = ap (λ (s : List ℕ). get_or s j 0) f ∙ (get_or-take n (drop (length o / 2) o) j 0 q ∙ (get_or-drop (length o / 2) o j 0 ∙ ap (λ (i : ℕ). get_or o i 0) (sym v))) in
    ap₂ (λ (u v : ℕ). u ∷ v ∷ []) x y)

-- what the lines of one list ask, once its columns are read
pub list_asked : (p : Part) (w v : ℕ) (s : List ℕ) (at n : ℕ) (t : List ℕ) (from m count : ℕ) (a b c x y z : List ℕ) → ListAsked p w v s at n t from m count
    → ThreeRead (bits_of s) at w v n a b c → ThreeRead (bits_of t) from w v m x y z → RowsAsked p (take n a) (take n b) (take n c) (take m x) (take m y) (take m z) count
list_asked p w v s at n t from m count a b c x y z A R S =
    let st = w + w + v in
    let la : length (take n a) ≡ n = ap length R.first ∙ length_column (bits_of s) at st w n in
    let lb : length (take n b) ≡ n = ap length R.second ∙ length_column (bits_of s) (at + w) st w n in
    let lc : length (take n c) ≡ n = ap length R.third ∙ length_column (bits_of s) (at + w + w) st v n in
    let lx : length (take m x) ≡ m = ap length S.first ∙ length_column (bits_of t) from st w m in
    let ly : length (take m y) ≡ m = ap length S.second ∙ length_column (bits_of t) (from + w) st w m in
    let lz : length (take m z) ≡ m = ap length S.third ∙ length_column (bits_of t) (from + w + w) st v m in
    record {
      first = record { second = lb ∙ sym la; third = lc ∙ sym la };
      second = record { second = ly ∙ sym lx; third = lz ∙ sym lx };
      few = omega (arith, A.few);
      few_second = omega (arith, A.few_second);
      coords = three_coords p (bits_of s) at w v n a b c R (bits_bits_of s) A.narrow A.coords (omega (arith, A.rows.room, length_bits_of s));
      coords_second = three_coords p (bits_of t) from w v m x y z S (bits_bits_of t) A.narrow A.coords (omega (arith, A.rows_second.room, length_bits_of t));
      counted = A.counted;
    }

-- and those of two outlines
pub sides_asked : (n m count : ℕ) (o u a b x y : List ℕ) → SidesAsked n (length o) m (length u) count → a ≡ take n o → b ≡ take n (drop (length o / 2) o) → x ≡ take m u → y ≡ take m (drop (length u / 2) u)
    → RowsAsked Boundary a b a x y x count
sides_asked n m count o u a b x y A ea eb ex ey =
    let la : length a ≡ n = ap length ea ∙ length-take-le n o (omega (arith, A.first)) in
    let lb : length b ≡ n = ap length eb ∙ length-take-le n (drop (length o / 2) o) (omega (arith, A.first, length-drop (length o / 2) o)) in
    let lx : length x ≡ m = ap length ex ∙ length-take-le m u (omega (arith, A.second)) in
    let ly : length y ≡ m = ap length ey ∙ length-take-le m (drop (length u / 2) u) (omega (arith, A.second, length-drop (length u / 2) u)) in
    record {
      first = record { second = lb ∙ sym la; third = refl };
      second = record { second = ly ∙ sym lx; third = refl };
      few = omega (arith, A.few);
      few_second = omega (arith, A.few_second);
      coords = tt;
      coords_second = tt;
      counted = A.counted;
    }

-- the part of a block from a place on
pub part_is : (h n : ℕ) (o : List ℕ) → take (h + n - h) (drop h o) ≡ take n (drop h o)
part_is h n o = let e : h + n - h ≡ n = omega arith in ap (λ (k : ℕ). take k (drop h o)) e

-- ---- how many

few_step : (t : Bool) (d : Difference) (x : List Difference) (m n : ℕ) → length x ≤ m + n → length (pick t x (d ∷ x)) ≤ suc m + suc n
few_step true d x m n h = omega arith
few_step false d x m n h = omega arith

pub rows_few : (p : Part) (k : ℕ) (a b : List (List ℕ)) → length (rows_differ p k a b) ≤ length a + length b
unfolding rows_differ
rows_few p k [] [] = omega arith
rows_few p k (r ∷ a) [] = omega (arith, rows_few p (suc k) a [])
rows_few p k [] (s ∷ b) = omega (arith, rows_few p (suc k) [] b)
rows_few p k (r ∷ a) (s ∷ b) = few_step (same_row_of r s) (place p k (some r) (some s)) (rows_differ p (suc k) a b) (length a) (length b) (rows_few p (suc k) a b)
