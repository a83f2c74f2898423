-- Laws of what a sheet is answered.
use Prim.Native.Nat.{ℕ, zero, suc, ◌+◌, ◌-◌, ◌<◌, ◌≤◌}
use mathlib.Core.Path.{◌≡◌, refl, ap, sym}
use mathlib.Core.List.{List, [], ◌∷◌}
use mathlib.Core.Bool.{Bool, true, false, ◌&&◌}
use native.Mathlib.Omega.{arith}
use borrow.Author.Tests.{le-ltb}
use native.Mathlib.Numerals.{add-one}
use lib.Dec.{ltb}
use lib.ListN.{length, drop, get_or, drop_of_length-le}
use lib.Seq.{drop-drop, drop-cons}
use Rattle.bits.specs.Bits.{bits_of}
use Rattle.bits.specs.Rows.{total, unpack, read_rows, rows_of}
use Rattle.sheet.specs.Sheet.{triangle_w, edge_w, boundary_w, particle_w, row_ok, all_ok, names_ok, all_below, sheet_with, counts_at, seen_of, seen_with, at_triangles, at_edges, at_boundary}
use Rattle.sheet.specs.Work.{row_at, ok_at_of, names_at}
use Rattle.sheet.specs.declared.Counts.{Counts}
use Rattle.bits.proofs.RowLaws.{length_read}

-- the rows that bits hold are right where the fields at their places are
module _ (ws : List ℕ) (three : Bool) (p : ℕ)
    (row : (l : List ℕ) (at : ℕ) → row_ok three p (get_or (unpack ws (drop at l)) 0 0) (get_or (unpack ws (drop at l)) 1 0) (get_or (unpack ws (drop at l)) 2 0) ≡ row_at three p l at) where
  pub ok_rows : (n : ℕ) (l : List ℕ) (at : ℕ) → all_ok three p (read_rows ws n (drop at l)) ≡ ok_at_of three p l at (total ws) n
  unfolding all_ok ok_at_of read_rows
  ok_rows zero l at = refl
  ok_rows (suc n) l at = rw (row l at, drop-drop (total ws) at l, ok_rows n l (at + total ws))

triangle_row : (p : ℕ) (l : List ℕ) (at : ℕ) → row_ok true p (get_or (unpack triangle_w (drop at l)) 0 0) (get_or (unpack triangle_w (drop at l)) 1 0) (get_or (unpack triangle_w (drop at l)) 2 0) ≡ row_at true p l at
unfolding unpack
triangle_row p l at = let e : at + 10 + 10 ≡ at + 20 = omega arith in rw (drop-drop 10 at l, drop-drop 10 (at + 10) l, e)

edge_row : (p : ℕ) (l : List ℕ) (at : ℕ) → row_ok false p (get_or (unpack edge_w (drop at l)) 0 0) (get_or (unpack edge_w (drop at l)) 1 0) (get_or (unpack edge_w (drop at l)) 2 0) ≡ row_at false p l at
unfolding unpack row_ok
edge_row p l at = rw (drop-drop 10 at l)

boundary_row : (p : ℕ) (l : List ℕ) (at : ℕ) → row_ok false p (get_or (unpack boundary_w (drop at l)) 0 0) (get_or (unpack boundary_w (drop at l)) 1 0) (get_or (unpack boundary_w (drop at l)) 2 0) ≡ row_at false p l at
unfolding unpack row_ok
boundary_row p l at = rw (drop-drop 10 at l)

pub names_at_lem : (c : Counts) (l : List ℕ) → names_ok (sheet_with c l) ≡ names_at c l
unfolding sheet_with total
names_at_lem c l =
    let t : all_ok true c.particles (read_rows triangle_w c.triangles (drop (at_triangles c) l)) ≡ ok_at_of true c.particles l (at_triangles c) 30 c.triangles = ok_rows triangle_w true c.particles (triangle_row c.particles) c.triangles l (at_triangles c) in
    let e : all_ok false c.particles (read_rows edge_w c.edges (drop (at_edges c) l)) ≡ ok_at_of false c.particles l (at_edges c) 21 c.edges = ok_rows edge_w false c.particles (edge_row c.particles) c.edges l (at_edges c) in
    let b : all_ok false c.particles (read_rows boundary_w c.boundary (drop (at_boundary c) l)) ≡ ok_at_of false c.particles l (at_boundary c) 20 c.boundary = ok_rows boundary_w false c.particles (boundary_row c.particles) c.boundary l (at_boundary c) in
    rw (length_read particle_w c.particles (drop 46 l), t, e, b)

pub seen_with_lem : (limits : Counts) (s : List ℕ) (c : Counts) → c ≡ counts_at (bits_of s) → 6 ≤ length s → seen_of limits s ≡ seen_with limits c s
unfolding seen_of
seen_with_lem limits s c e h = rw (le-ltb (length s) 6 h) (ap (λ (d : Counts). seen_with limits d s) (sym e))

pub ok_turn : (three : Bool) (p : ℕ) (l : List ℕ) (pos st n i : ℕ) → i < n → ok_at_of three p l pos st (n - i) ≡ (row_at three p l pos && ok_at_of three p l (pos + st) st (n - (i + 1)))
unfolding ok_at_of
ok_turn three p l pos st n i h = let e : n - i ≡ suc (n - (i + 1)) = omega arith in rw e

pub ok_none : (three : Bool) (p : ℕ) (l : List ℕ) (pos st n i : ℕ) → n ≤ i → ok_at_of three p l pos st (n - i) ≡ true
unfolding ok_at_of
ok_none three p l pos st n i h = let e : n - i ≡ zero = omega arith in rw e

pub names_turn : (three : Bool) (p : ℕ) (a b c : List ℕ) (n i : ℕ) → i < n
    → all_ok three p (rows_of (a ∷ b ∷ c ∷ []) i (n - i)) ≡ (row_ok three p (get_or a i 0) (get_or b i 0) (get_or c i 0) && all_ok three p (rows_of (a ∷ b ∷ c ∷ []) (i + 1) (n - (i + 1))))
unfolding all_ok rows_of
names_turn three p a b c n i h = let e : n - i ≡ suc (n - (i + 1)) = omega arith in rw e

pub names_none : (three : Bool) (p : ℕ) (a b c : List ℕ) (n i : ℕ) → n ≤ i → all_ok three p (rows_of (a ∷ b ∷ c ∷ []) i (n - i)) ≡ true
unfolding all_ok rows_of
names_none three p a b c n i h = let e : n - i ≡ zero = omega arith in rw e

pub below_turn : (m : ℕ) (a : List ℕ) (i : ℕ) → i < length a → all_below m (drop i a) ≡ (ltb (get_or a i 0) m && all_below m (drop (i + 1) a))
unfolding all_below
below_turn m a i h = rw (add-one, drop-cons a i 0 h)

pub below_end : (m : ℕ) (a : List ℕ) (i : ℕ) → length a ≤ i → all_below m (drop i a) ≡ true
unfolding all_below
below_end m a i h = rw (drop_of_length-le a h)
