-- Laws of columns of whole numbers, told by their fields.
use Prim.Native.Nat.{ℕ, ◌+◌, ◌-◌, ◌^◌, ◌<◌, ◌≤◌}
use mathlib.Core.Path.{◌≡◌, ap, sym, ◌∙◌, subst}
use mathlib.Core.List.{List, [], ◌∷◌, map}
use mathlib.Core.Bool.{Bool, true, false}
use native.Mathlib.Omega.{arith}
use borrow.Author.Tests.{lt-ltb, le-ltb, eq-eqb, ne_eqb}
use lib.Dec.{eqb}
use lib.IntN.{ℤ, pos}
use lib.ListN.{length, drop, get_or, length-map, get_or-map}
use lib.Seq.{sets}
use Rattle.bits.specs.Rows.{total, pack, write_rows, rows_of}
use Rattle.bits.proofs.RowLaws.{rows_turn, sets_then, length_pack}
use mir.Syntax.{w64}
use mir.Val.{to_z, of_z, hbits}
use lib.Signed.{mag}
use borrow.Author.Rules.{sfits_of}
use mir.ValLaws.{to_z-of_z}
use Rattle.sheet.specs.Sheet.{Wholes, fields_of, the_field_of, all_below, even3, particle_w, blade_w, counts_in, too_many_of}
use Rattle.sheet.specs.declared.Counts.{Counts}
use Rattle.sheet.proofs.SeenLaws.{below_turn, below_end}
use Rattle.sheet.proofs.PutLaws.{pack_blade}

-- the field of a place
pub field_at : (l : List ℤ) (i : ℕ) → get_or (map the_field_of l) i 0 ≡ the_field_of (get_or l i (pos 0))
unfolding the_field_of
field_at l i = get_or-map the_field_of l i (pos 0)

-- as many fields as numbers
pub fields_long : (l : List ℤ) → length (map the_field_of l) ≡ length l
fields_long l = length-map l the_field_of

-- a turn of the test of every number: one that has a field
pub fit_turn : (a : List ℤ) (i r : ℕ) → i < length a → r ≡ the_field_of (get_or a i (pos 0)) → r < 2048 → all_below 2048 (drop i (map the_field_of a)) ≡ all_below 2048 (drop (i + 1) (map the_field_of a))
fit_turn a i r h e g =
    let k : i < length (map the_field_of a) = omega (arith, fields_long a) in
    let f : r ≡ get_or (map the_field_of a) i 0 = e ∙ sym (field_at a i) in
    below_turn 2048 (map the_field_of a) i k ∙ rw (← f, lt-ltb r 2048 g)

-- one that has none
pub fit_stop : (a : List ℤ) (i r : ℕ) → i < length a → r ≡ the_field_of (get_or a i (pos 0)) → 2048 ≤ r → all_below 2048 (drop i (map the_field_of a)) ≡ false
fit_stop a i r h e g =
    let k : i < length (map the_field_of a) = omega (arith, fields_long a) in
    let f : r ≡ get_or (map the_field_of a) i 0 = e ∙ sym (field_at a i) in
    below_turn 2048 (map the_field_of a) i k ∙ rw (← f, le-ltb r 2048 g)

-- and the end
pub fit_end : (a : List ℤ) (i : ℕ) → length a ≤ i → all_below 2048 (drop i (map the_field_of a)) ≡ true
fit_end a i h = below_end 2048 (map the_field_of a) i (omega (arith, fields_long a))

-- columns of particles that have one length, and columns that do not
pub even_whole : (x y : List ℤ) (p : List ℕ) → length y ≡ length x → eqb (length p) (length x) ≡ even3 (map the_field_of x) (map the_field_of y) p
unfolding even3
even_whole x y p e = rw (fields_long x, fields_long y, eq-eqb (length y) (length x) e)

pub uneven_whole : (x y : List ℤ) (p : List ℕ) → (length y ≡ length x → ⊥) → false ≡ even3 (map the_field_of x) (map the_field_of y) p
unfolding even3
uneven_whole x y p e = rw (fields_long x, fields_long y, ne_eqb (length y) (length x) e)

-- one row of particles more
pub row_turn : (x y : List ℤ) (p l : List ℕ) (n i at u v : ℕ) → i < n → u ≡ the_field_of (get_or x i (pos 0)) → v ≡ the_field_of (get_or y i (pos 0))
    → sets (sets l at (pack particle_w (u ∷ v ∷ get_or p i 0 ∷ []))) (at + 23) (write_rows particle_w (rows_of (map the_field_of x ∷ map the_field_of y ∷ p ∷ []) (i + 1) (n - (i + 1))))
    ≡ sets l at (write_rows particle_w (rows_of (map the_field_of x ∷ map the_field_of y ∷ p ∷ []) i (n - i)))
unfolding total
row_turn x y p l n i at u v h e f =
    let cols = map the_field_of x ∷ map the_field_of y ∷ p ∷ [] in
    let row = u ∷ v ∷ get_or p i 0 ∷ [] in
    let a : u ≡ get_or (map the_field_of x) i 0 = e ∙ sym (field_at x i) in
    let b : v ≡ get_or (map the_field_of y) i 0 = f ∙ sym (field_at y i) in
    let t = rows_turn particle_w cols n i h in
    let k : at + length (pack particle_w row) ≡ at + 23 = omega (arith, length_pack particle_w row) in
    sets_then l at (at + 23) (pack particle_w row) (write_rows particle_w (rows_of cols (i + 1) (n - (i + 1)))) k ∙ rw (t, a, b)

-- the field of a number that was read from a column
pub read_field : (r : ℕ) (z : ℤ) → mag z < 2 ^ hbits w64 → r ≡ the_field_of (to_z w64 (of_z w64 z)) → r ≡ the_field_of z
read_field r z h e = e ∙ ap the_field_of (to_z-of_z w64 z (sfits_of {w = w64} {z = z} h))

-- four fields are the blade's
pub blade_fields : (d : List ℤ) (e f g h : ℕ) → e ≡ the_field_of (get_or d 0 (pos 0)) → f ≡ the_field_of (get_or d 1 (pos 0)) → g ≡ the_field_of (get_or d 2 (pos 0)) → h ≡ the_field_of (get_or d 3 (pos 0))
    → pack blade_w (e ∷ f ∷ g ∷ h ∷ []) ≡ pack blade_w (map the_field_of d)
blade_fields d e f g h p q r s =
    let a : e ≡ get_or (map the_field_of d) 0 0 = p ∙ sym (field_at d 0) in
    let b : f ≡ get_or (map the_field_of d) 1 0 = q ∙ sym (field_at d 1) in
    let c : g ≡ get_or (map the_field_of d) 2 0 = r ∙ sym (field_at d 2) in
    let i : h ≡ get_or (map the_field_of d) 3 0 = s ∙ sym (field_at d 3) in
    rw (a, b, c, i) (pack_blade (map the_field_of d))

-- the counts of columns
abbrev pub counts_whole : Wholes → Counts
counts_whole w = record { particles = length w.x; triangles = length w.t0; edges = length w.e0; boundary = length w.b0 }

pub few_whole : (w : Wholes) (b : Bool) → too_many_of (counts_whole w) ≡ b → too_many_of (counts_in (fields_of w)) ≡ b
few_whole w b e = subst (λ (n : ℕ). too_many_of (record { particles = n; triangles = length w.t0; edges = length w.e0; boundary = length w.b0 }) ≡ b) (sym (fields_long w.x)) e
