-- Laws of the mended sheet written part by part, and of the fates read from bits. Assumes nothing.
use Prim.Native.Nat.{ℕ, zero, suc, ◌+◌, ◌-◌, ◌*◌, ◌/◌, ◌<◌, ◌≤◌}
use mathlib.Core.Path.{◌≡◌, refl, sym, ap, ap₂, ◌∙◌}
use mathlib.Core.Bool.{Bool, true, false, true≢false, false≢true}
use mathlib.Core.List.{List, [], ◌∷◌, ◌++◌, append_assoc, append-nil}
use native.Mathlib.Omega.{arith}
use native.Mathlib.Numerals.{add-one}
use borrow.Author.Tests.{eq-eqb, ne_eqb}
use lib.Dec.{eqb}
use lib.ListN.{length, take, drop, get_or, set, drop_of_length-le}
use lib.Seq.{sets, drop-drop, drop-cons, take_all}
use Rattle.lists.specs.Lists.{pick}
use Rattle.bits.specs.Bits.{bits, bits_of, num, field_at}
use Rattle.bits.specs.Rows.{total, unpack, pack, read_rows, write_rows}
use Rattle.bits.proofs.RowLaws.{sets_then, length_pack, take_store}
use Rattle.sheet.specs.Sheet.{triangle_w, edge_w, blade_w, boundary_w, end_of}
use Rattle.sheet.specs.declared.Counts.{Counts}
use Rattle.sheet.proofs.MeshReads.{blade_row}
use Rattle.edition.specs.Edition.{bytes_in}
use Rattle.edition.proofs.Editions.{header_parts}
use Rattle.mending.specs.Mending.{fate_of}
use Rattle.mending.specs.Work.{code_of, row_code, kept_by_of, one_of, zeros_of, codes_of}
use Rattle.mender.specs.Work.{codes_at, step_of, OneKept, header_as}
use Rattle.mending.proofs.Marks.{zeros_next, zeros_end}

-- ---- fates read from bits

codes_turn : (three : Bool) (p : ℕ) (l : List ℕ) (pos step n i : ℕ) → i < n
    → codes_at three p l pos step (n - i) ≡ row_code three p (field_at l pos 10) (field_at l (pos + 10) 10) (field_at l (pos + 20) 10) ∷ codes_at three p l (pos + step) step (n - (i + 1))
unfolding codes_at
codes_turn three p l pos step n i h = let e : n - i ≡ suc (n - (i + 1)) = omega arith in rw e

codes_none : (three : Bool) (p : ℕ) (l : List ℕ) (pos step n i : ℕ) → n ≤ i → codes_at three p l pos step (n - i) ≡ []
unfolding codes_at
codes_none three p l pos step n i h = let e : n - i ≡ zero = omega arith in rw e

pub length_codes : (three : Bool) (p : ℕ) (l : List ℕ) (pos step n : ℕ) → length (codes_at three p l pos step n) ≡ n
unfolding codes_at
length_codes three p l pos step zero = refl
length_codes three p l pos step (suc n) = ap suc (length_codes three p l (pos + step) step n)

-- one turn of the loop
pub mark_next : (three : Bool) (p : ℕ) (l : List ℕ) (pos step n i v a b c : ℕ) (mask G : List ℕ) → i < n → i < length mask
    → v ≡ row_code three p a b c → a ≡ field_at l pos 10 → b ≡ field_at l (pos + 10) 10 → c ≡ field_at l (pos + 20) 10
    → take i mask ++ codes_at three p l pos step (n - i) ≡ G → take (i + 1) (set mask i v) ++ codes_at three p l (pos + step) step (n - (i + 1)) ≡ G
mark_next three p l pos step n i v a b c mask G h g e ea eb ec k =
    let rest = codes_at three p l (pos + step) step (n - (i + 1)) in
    let w : v ≡ row_code three p (field_at l pos 10) (field_at l (pos + 10) 10) (field_at l (pos + 20) 10) = e ∙ (λ j. row_code three p (ea j) (eb j) (ec j)) in
    ap (λ (x : List ℕ). x ++ rest) (take_store mask i v g)
    ∙ (append_assoc (take i mask) (v ∷ []) rest ∙ (ap (λ (x : ℕ). take i mask ++ (x ∷ rest)) w ∙ (ap (λ (x : List ℕ). take i mask ++ x) (sym (codes_turn three p l pos step n i h)) ∙ k)))

pub mark_end : (three : Bool) (p : ℕ) (l : List ℕ) (pos step n i : ℕ) (mask G : List ℕ) → n ≤ i → length mask ≤ i → take i mask ++ codes_at three p l pos step (n - i) ≡ G → mask ≡ G
mark_end three p l pos step n i mask G h g k =
    sym (take_all i mask g) ∙ (sym (append-nil (take i mask)) ∙ (ap (λ (x : List ℕ). take i mask ++ x) (sym (codes_none three p l pos step n i h)) ∙ k))

-- ---- one row

unpack3 : (l : List ℕ) (at w0 w1 w2 : ℕ) → field_at l at w0 ∷ field_at l (at + w0) w1 ∷ field_at l (at + w0 + w1) w2 ∷ [] ≡ unpack (w0 ∷ w1 ∷ w2 ∷ []) (drop at l)
unfolding unpack
unpack3 l at w0 w1 w2 =
    let e : drop (at + w0) l ≡ drop w0 (drop at l) = sym (drop-drop w0 at l) in
    let f : drop (at + w0 + w1) l ≡ drop w1 (drop w0 (drop at l)) = sym (drop-drop w1 (at + w0) l) ∙ ap (drop w1) e in
    ap₂ (λ (x y : List ℕ). num (take w0 (drop at l)) ∷ num (take w1 x) ∷ num (take w2 y) ∷ []) e f

pub blade_put : (l m m' : List ℕ) (at to a b c d : ℕ) → a ≡ field_at l at 11 → b ≡ field_at l (at + 11) 11 → c ≡ field_at l (at + 22) 11 → d ≡ field_at l (at + 33) 11
    → m' ≡ sets m to (pack (11 ∷ 11 ∷ 11 ∷ 11 ∷ []) (a ∷ b ∷ c ∷ d ∷ [])) → m' ≡ sets m to (pack blade_w (unpack blade_w (drop at l)))
blade_put l m m' at to a b c d ea eb ec ed e =
    let k : a ∷ b ∷ c ∷ d ∷ [] ≡ field_at l at 11 ∷ field_at l (at + 11) 11 ∷ field_at l (at + 22) 11 ∷ field_at l (at + 33) 11 ∷ [] = λ i. ea i ∷ eb i ∷ ec i ∷ ed i ∷ [] in
    e ∙ ap (λ (x : List ℕ). sets m to (pack blade_w x)) (k ∙ blade_row l at)

pub one_put : (s out out' : List ℕ) (at to w0 w1 w2 code a b c : ℕ) → code ≡ 0 → a ≡ field_at (bits_of s) at w0 → b ≡ field_at (bits_of s) (at + w0) w1 → c ≡ field_at (bits_of s) (at + w0 + w1) w2
    → bits_of out' ≡ sets (bits_of out) to (pack (w0 ∷ w1 ∷ w2 ∷ []) (a ∷ b ∷ c ∷ [])) → OneKept s at w0 w1 w2 code out to out' (to + (w0 + w1 + w2))
unfolding step_of
one_put s out out' at to w0 w1 w2 code a b c z ea eb ec e =
    let k : a ∷ b ∷ c ∷ [] ≡ unpack (w0 ∷ w1 ∷ w2 ∷ []) (drop at (bits_of s)) = (λ i. ea i ∷ eb i ∷ ec i ∷ []) ∙ unpack3 (bits_of s) at w0 w1 w2 in
    let t : eqb code 0 ≡ true = eq-eqb code 0 z in
    record { bits = e ∙ (ap (λ (x : List ℕ). sets (bits_of out) to (pack (w0 ∷ w1 ∷ w2 ∷ []) x)) k ∙ ap (λ (x : Bool). sets (bits_of out) to (pick x (pack (w0 ∷ w1 ∷ w2 ∷ []) (unpack (w0 ∷ w1 ∷ w2 ∷ []) (drop at (bits_of s)))) [])) (sym t)); next = ap (λ (x : Bool). to + pick x (w0 + w1 + w2) 0) (sym t) }

sets_none : (m : List ℕ) (to : ℕ) → sets m to [] ≡ m
sets_none m to = refl

pub one_left : (s out : List ℕ) (at to w0 w1 w2 code : ℕ) → (code ≡ 0 → ⊥) → OneKept s at w0 w1 w2 code out to out to
unfolding step_of
one_left s out at to w0 w1 w2 code z =
    let t : eqb code 0 ≡ false = ne_eqb code 0 z in
    let e : to ≡ to + 0 = omega arith in
    record { bits = sym (sets_none (bits_of out) to) ∙ ap (λ (x : Bool). sets (bits_of out) to (pick x (pack (w0 ∷ w1 ∷ w2 ∷ []) (unpack (w0 ∷ w1 ∷ w2 ∷ []) (drop at (bits_of s)))) [])) (sym t); next = e ∙ ap (λ (x : Bool). to + pick x (w0 + w1 + w2) 0) (sym t) }

-- ---- a row for each number of a column

step_by : (b : Bool) (z w : ℕ) → (pick b 1 0 + z) * w ≡ pick b w 0 + z * w
step_by true z w = omega arith
step_by false z w = omega arith

-- what is still to be written, at the next number
pub zeros_step : (mask : List ℕ) (i w : ℕ) → i < length mask → zeros_of (drop i mask) * w ≡ step_of (get_or mask i 0) w + zeros_of (drop (i + 1) mask) * w
unfolding step_of one_of
zeros_step mask i w h = ap (λ (k : ℕ). k * w) (zeros_next mask i h) ∙ step_by (eqb (get_or mask i 0) 0) (zeros_of (drop (i + 1) mask)) w

step_long : (b : Bool) (ws r : List ℕ) (w : ℕ) → total ws ≡ w → length (pick b (pack ws r) []) ≡ pick b w 0
step_long true ws r w e = length_pack ws r ∙ e
step_long false ws r w e = refl

kept_by : (b : Bool) (ws r : List ℕ) (rs : List (List ℕ)) → write_rows ws (pick b (r ∷ rs) rs) ≡ pick b (pack ws r) [] ++ write_rows ws rs
unfolding write_rows
kept_by true ws r rs = refl
kept_by false ws r rs = refl

kept_cons : (ws l : List ℕ) (code : ℕ) (cs : List ℕ) (n : ℕ) → write_rows ws (kept_by_of (code ∷ cs) (read_rows ws (suc n) l)) ≡ pick (eqb code 0) (pack ws (unpack ws l)) [] ++ write_rows ws (kept_by_of cs (read_rows ws n (drop (total ws) l)))
unfolding kept_by_of read_rows
kept_cons ws l code cs n = kept_by (eqb code 0) ws (unpack ws l) (kept_by_of cs (read_rows ws n (drop (total ws) l)))

kept_turn : (ws l mask : List ℕ) (from w n i : ℕ) → total ws ≡ w → i < n → i < length mask
    → write_rows ws (kept_by_of (drop i mask) (read_rows ws (n - i) (drop from l))) ≡ pick (eqb (get_or mask i 0) 0) (pack ws (unpack ws (drop from l))) [] ++ write_rows ws (kept_by_of (drop (i + 1) mask) (read_rows ws (n - (i + 1)) (drop (from + w) l)))
kept_turn ws l mask from w n i e h g =
    let a : n - i ≡ suc (n - (i + 1)) = omega arith in
    let d : drop i mask ≡ get_or mask i 0 ∷ drop (i + 1) mask = drop-cons mask i 0 g ∙ ap (λ (k : ℕ). get_or mask i 0 ∷ drop k mask) (sym (add-one i)) in
    let f : drop (total ws) (drop from l) ≡ drop (from + w) l = drop-drop (total ws) from l ∙ ap (λ (k : ℕ). drop (from + k) l) e in
    ap₂ (λ (x : List ℕ) (k : ℕ). write_rows ws (kept_by_of x (read_rows ws k (drop from l)))) d a
    ∙ (kept_cons ws (drop from l) (get_or mask i 0) (drop (i + 1) mask) (n - (i + 1)) ∙ ap (λ (x : List ℕ). pick (eqb (get_or mask i 0) 0) (pack ws (unpack ws (drop from l))) [] ++ write_rows ws (kept_by_of (drop (i + 1) mask) (read_rows ws (n - (i + 1)) x))) f)

total3 : (w0 w1 w2 : ℕ) → total (w0 ∷ w1 ∷ w2 ∷ []) ≡ w0 + w1 + w2
unfolding total
total3 w0 w1 w2 = omega arith

-- one turn of the loop
pub kept_next : (s mask out out' G : List ℕ) (w0 w1 w2 from end end' n i : ℕ) → i < n → i < length mask → OneKept s from w0 w1 w2 (get_or mask i 0) out end out' end'
    → sets (bits_of out) end (write_rows (w0 ∷ w1 ∷ w2 ∷ []) (kept_by_of (drop i mask) (read_rows (w0 ∷ w1 ∷ w2 ∷ []) (n - i) (drop from (bits_of s))))) ≡ G
    → sets (bits_of out') end' (write_rows (w0 ∷ w1 ∷ w2 ∷ []) (kept_by_of (drop (i + 1) mask) (read_rows (w0 ∷ w1 ∷ w2 ∷ []) (n - (i + 1)) (drop (from + (w0 + w1 + w2)) (bits_of s))))) ≡ G
unfolding step_of
kept_next s mask out out' G w0 w1 w2 from end end' n i h g k e =
    let ws = w0 ∷ w1 ∷ w2 ∷ [] in
    let w = w0 + w1 + w2 in
    let l = bits_of s in
    let b = eqb (get_or mask i 0) 0 in
    let X = pick b (pack ws (unpack ws (drop from l))) [] in
    let Y = write_rows ws (kept_by_of (drop (i + 1) mask) (read_rows ws (n - (i + 1)) (drop (from + w) l))) in
    let m : end + length X ≡ end' = ap (λ (j : ℕ). end + j) (step_long b ws (unpack ws (drop from l)) w (total3 w0 w1 w2)) ∙ sym k.next in
    ap (λ (x : List ℕ). sets x end' Y) k.bits ∙ (sets_then (bits_of out) end end' X Y m ∙ (ap (sets (bits_of out) end) (sym (kept_turn ws l mask from w n i (total3 w0 w1 w2) h g)) ∙ e))

none_kept : (ws : List ℕ) (rows : List (List ℕ)) → write_rows ws (kept_by_of [] rows) ≡ []
unfolding kept_by_of write_rows
none_kept ws rows = refl

pub kept_end : (ws mask m G : List ℕ) (end i : ℕ) (rows : List (List ℕ)) → length mask ≤ i → sets m end (write_rows ws (kept_by_of (drop i mask) rows)) ≡ G → m ≡ G
kept_end ws mask m G end i rows h e =
    let z : write_rows ws (kept_by_of (drop i mask) rows) ≡ [] = ap (λ (x : List ℕ). write_rows ws (kept_by_of x rows)) (drop_of_length-le mask h) ∙ none_kept ws rows in
    sym (sets_none m end) ∙ (ap (sets m end) (sym z) ∙ e)

pub zeros_over : (mask : List ℕ) (i w end r : ℕ) → length mask ≤ i → end + zeros_of (drop i mask) * w ≡ r → end ≡ r
zeros_over mask i w end r h e =
    let z : zeros_of (drop i mask) * w ≡ 0 * w = ap (λ (k : ℕ). k * w) (zeros_end mask i h) in
    let y : 0 * w ≡ 0 = omega arith in
    omega arith

pairs_none : (c : ℕ) (cs l : List ℕ) → write_rows (10 ∷ 10 ∷ 0 ∷ []) (kept_by_of (c ∷ cs) (read_rows (10 ∷ 10 ∷ 0 ∷ []) zero l)) ≡ write_rows boundary_w (kept_by_of (c ∷ cs) (read_rows boundary_w zero l))
unfolding kept_by_of read_rows write_rows
pairs_none c cs l = refl

pair_packed : (l : List ℕ) → pack (10 ∷ 10 ∷ 0 ∷ []) (unpack (10 ∷ 10 ∷ 0 ∷ []) l) ≡ pack boundary_w (unpack boundary_w l)
unfolding pack unpack bits
pair_packed l = refl

pair_dropped : (l : List ℕ) → drop (total (10 ∷ 10 ∷ 0 ∷ [])) l ≡ drop (total boundary_w) l
unfolding total
pair_dropped l = refl

-- a third field of no bits adds nothing
pub kept_pairs : (l mask : List ℕ) (n : ℕ) → write_rows (10 ∷ 10 ∷ 0 ∷ []) (kept_by_of mask (read_rows (10 ∷ 10 ∷ 0 ∷ []) n l)) ≡ write_rows boundary_w (kept_by_of mask (read_rows boundary_w n l))
kept_pairs l [] n = none_kept (10 ∷ 10 ∷ 0 ∷ []) (read_rows (10 ∷ 10 ∷ 0 ∷ []) n l) ∙ sym (none_kept boundary_w (read_rows boundary_w n l))
kept_pairs l (c ∷ cs) zero = pairs_none c cs l
kept_pairs l (c ∷ cs) (suc n) =
    kept_cons (10 ∷ 10 ∷ 0 ∷ []) l c cs n
    ∙ (ap₂ (λ (x y : List ℕ). pick (eqb c 0) x [] ++ y) (pair_packed l) (ap (λ (x : List ℕ). write_rows (10 ∷ 10 ∷ 0 ∷ []) (kept_by_of cs (read_rows (10 ∷ 10 ∷ 0 ∷ []) n x))) (pair_dropped l) ∙ kept_pairs (drop (total boundary_w) l) cs n)
    ∙ sym (kept_cons boundary_w l c cs n))

-- ---- the header

pub header_two : (second : Bool) (c : Counts) (m m1 m2 : List ℕ) → second ≡ true → m1 ≡ sets m 0 (pack (11 ∷ 11 ∷ 11 ∷ []) (2047 ∷ c.particles ∷ c.triangles ∷ [])) → m2 ≡ sets m1 33 (bits 12 c.edges) → m2 ≡ sets m 0 (header_as second c)
unfolding header_as total
header_two second c m m1 m2 s e f =
    let A = pack (11 ∷ 11 ∷ 11 ∷ []) (2047 ∷ c.particles ∷ c.triangles ∷ []) in
    let a : length A ≡ 33 = length_pack (11 ∷ 11 ∷ 11 ∷ []) (2047 ∷ c.particles ∷ c.triangles ∷ []) in
    let z : 0 + length A ≡ 33 = omega arith in
    f ∙ (ap (λ (x : List ℕ). sets x 33 (bits 12 c.edges)) e ∙ (sets_then m 0 33 A (bits 12 c.edges) z ∙ (ap (sets m 0) (header_parts c.particles c.triangles c.edges) ∙ ap (λ (b : Bool). sets m 0 (header_as b c)) (sym s))))

pub header_one : (second : Bool) (c : Counts) (m m1 : List ℕ) → second ≡ false → m1 ≡ sets m 0 (pack (11 ∷ 11 ∷ 12 ∷ 12 ∷ []) (c.particles ∷ c.triangles ∷ c.edges ∷ c.boundary ∷ [])) → m1 ≡ sets m 0 (header_as second c)
unfolding header_as
header_one second c m m1 s e = e ∙ ap (λ (b : Bool). sets m 0 (header_as b c)) (sym s)

-- how many bytes a sheet has
pub bytes_by : (second : Bool) (c : Counts) (e : ℕ) → e ≡ end_of c → ((second ≡ true → (e - 1 + 7) / 8 ≡ bytes_in second c) × (second ≡ false → (e + 7) / 8 ≡ bytes_in second c))
bytes_by true c e h = (λ z. ap (λ (k : ℕ). (k - 1 + 7) / 8) h, λ z. absurd (true≢false z))
bytes_by false c e h = (λ z. absurd (false≢true z), λ z. ap (λ (k : ℕ). (k + 7) / 8) h)

-- how far a kept row moves what is written
pub step_at : (code w : ℕ) → code ≡ 0 → step_of code w ≡ w
unfolding step_of
step_at code w z = rw (eq-eqb code 0 z)

-- ---- rows by the places of their fields

three_at : (p at : ℕ) (l : List ℕ) → code_of (fate_of p (field_at l at 10 ∷ field_at l (at + 10) 10 ∷ field_at l (at + 20) 10 ∷ [])) ≡ code_of (fate_of p (num (take 10 (drop at l)) ∷ num (take 10 (drop 10 (drop at l))) ∷ num (take 10 (drop 10 (drop 10 (drop at l)))) ∷ []))
three_at p at l =
    let a : at + 20 ≡ at + 10 + 10 = omega arith in
    let e : drop (at + 10) l ≡ drop 10 (drop at l) = sym (drop-drop 10 at l) in
    let f : drop (at + 20) l ≡ drop 10 (drop 10 (drop at l)) = ap (λ (k : ℕ). drop k l) a ∙ (sym (drop-drop 10 (at + 10) l) ∙ ap (drop 10) e) in
    ap₂ (λ (x y : List ℕ). code_of (fate_of p (num (take 10 (drop at l)) ∷ num (take 10 x) ∷ num (take 10 y) ∷ []))) e f

two_at : (p at : ℕ) (l : List ℕ) → code_of (fate_of p (field_at l at 10 ∷ field_at l (at + 10) 10 ∷ [])) ≡ code_of (fate_of p (num (take 10 (drop at l)) ∷ num (take 10 (drop 10 (drop at l))) ∷ []))
two_at p at l = ap (λ (x : List ℕ). code_of (fate_of p (num (take 10 (drop at l)) ∷ num (take 10 x) ∷ []))) (sym (drop-drop 10 at l))

-- what `mark_list` leaves for rows of three names
pub marks_three : (p n at : ℕ) (l : List ℕ) → codes_at true p l at 30 n ≡ codes_of p 3 (read_rows triangle_w n (drop at l))
unfolding codes_at row_code read_rows unpack total
marks_three p zero at l = refl
marks_three p (suc n) at l =
    ap₂ (λ (x : ℕ) (y : List ℕ). x ∷ y) (three_at p at l) (marks_three p n (at + 30) l ∙ ap (λ (x : List ℕ). codes_of p 3 (read_rows triangle_w n x)) (sym (drop-drop 30 at l)))

-- and of two
pub marks_edges : (p n at : ℕ) (l : List ℕ) → codes_at false p l at 21 n ≡ codes_of p 2 (read_rows edge_w n (drop at l))
unfolding codes_at row_code read_rows unpack total
marks_edges p zero at l = refl
marks_edges p (suc n) at l =
    ap₂ (λ (x : ℕ) (y : List ℕ). x ∷ y) (two_at p at l) (marks_edges p n (at + 21) l ∙ ap (λ (x : List ℕ). codes_of p 2 (read_rows edge_w n x)) (sym (drop-drop 21 at l)))

pub marks_pairs : (p n at : ℕ) (l : List ℕ) → codes_at false p l at 20 n ≡ codes_of p 2 (read_rows boundary_w n (drop at l))
unfolding codes_at row_code read_rows unpack total
marks_pairs p zero at l = refl
marks_pairs p (suc n) at l =
    ap₂ (λ (x : ℕ) (y : List ℕ). x ∷ y) (two_at p at l) (marks_pairs p n (at + 20) l ∙ ap (λ (x : List ℕ). codes_of p 2 (read_rows boundary_w n x)) (sym (drop-drop 20 at l)))
