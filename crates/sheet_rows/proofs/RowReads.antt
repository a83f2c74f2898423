-- Laws of the loops that read rows into blocks: nothing at the start, one row more each turn.
use Prim.Native.Nat.{ℕ, ◌+◌, ◌-◌, ◌*◌, ◌<◌}
use mathlib.Core.Path.{◌≡◌, refl, sym, ◌∙◌}
use mathlib.Core.Bool.{Bool, true}
use mathlib.Core.List.{List, [], ◌∷◌, ◌++◌}
use lib.Ieee.{Float}
use borrow.Author.Tests.{ltb-true}
use Rattle.lists.specs.Lists.{tab}
use Rattle.lists.proofs.Steps.{tab_step}
use Rattle.blade.specs.declared.Point.{Point}
use Rattle.blade.specs.Points.{minus_of, length_of}
use Rattle.float.specs.Numbers.{zero32}
use Rattle.model.specs.Mesh.{Particle, Triangle, Edge, Side}
use Rattle.mesh.specs.At.{particles_at, triangles_at, edges_at, boundary_at}
use Rattle.lists.proofs.Sifts.{and_true}
use Rattle.bits.specs.Bits.{field_at}
use Rattle.sheet.specs.Sheet.{pair_ok_of, row_ok}
use Rattle.sheet.specs.Work.{row_at, ok_at_of}
use Rattle.sheet_rows.specs.Work.{particle_bits, triangle_bits, edge_bits, side_bits}
use Rattle.sheet.specs.Read.{particle_from, triangle_from, edge_from, side_from}
use Rattle.sheet.proofs.SeenLaws.{ok_turn}

-- before the first turn
pub no_particles : (S : List Float) (T : List ℕ) (f : ℕ → Particle) → particles_at 0 S T ≡ tab 0 f
unfolding particles_at tab
no_particles S T f = refl

pub no_triangles : (S : List ℕ) (T : List Float) (f : ℕ → Triangle) → triangles_at 0 S T ≡ tab 0 f
unfolding triangles_at tab
no_triangles S T f = refl

pub no_edges : (S : List ℕ) (T : List Float) (f : ℕ → Edge) → edges_at 0 S T ≡ tab 0 f
unfolding edges_at tab
no_edges S T f = refl

pub no_sides : (S : List ℕ) (f : ℕ → Side) → boundary_at 0 S ≡ tab 0 f
unfolding boundary_at tab
no_sides S f = refl

-- a turn
pub tab_more : {A : Type 0} (f : ℕ → A) (i : ℕ) (l m : List A) (a : A) → m ≡ l ++ (a ∷ []) → l ≡ tab i f → a ≡ f i → m ≡ tab (i + 1) f
tab_more f i l m a g h e = g ∙ rw (h, e, tab_step f i)

-- the row of a turn, from the fields that were read
pub side_same : (l : List ℕ) (at pos i x y : ℕ) → pos ≡ at + i * 20 → x ≡ field_at l pos 10 → y ≡ field_at l (pos + 10) 10 → side_from x y ≡ side_bits l at i
side_same l at pos i x y p e f = rw (e, f, p)

pub particle_same : (l : List ℕ) (at pos i x y z : ℕ) → pos ≡ at + i * 23 → x ≡ field_at l pos 11 → y ≡ field_at l (pos + 11) 11 → z ≡ field_at l (pos + 22) 1
    → particle_from i x y z ≡ particle_bits l at i
particle_same l at pos i x y z p e f g = rw (e, f, g, p)

pub triangle_same : (place : ℕ → Point) (l : List ℕ) (at pos i x y z : ℕ) → pos ≡ at + i * 30 → x ≡ field_at l pos 10 → y ≡ field_at l (pos + 10) 10 → z ≡ field_at l (pos + 20) 10
    → triangle_from place x y z ≡ triangle_bits place l at i
triangle_same place l at pos i x y z p e f g = rw (e, f, g, p)

pub edge_same : (place : ℕ → Point) (l : List ℕ) (at pos i x y z : ℕ) → pos ≡ at + i * 21 → x ≡ field_at l pos 10 → y ≡ field_at l (pos + 10) 10 → z ≡ field_at l (pos + 20) 1
    → edge_from place x y z ≡ edge_bits place l at i
edge_same place l at pos i x y z p e f g = rw (e, f, g, p)

made_edge : (place : ℕ → Point) (x y z : ℕ) (w : Float) → w ≡ length_of (minus_of (place y) (place x))
    → record { a = x; b = y; structural = z; torn = 0; rest = w; initial = w; impulse = zero32; stress = zero32 } ≡ edge_from place x y z
unfolding edge_from
made_edge place x y z w h = rw (← h)

-- an edge's row as the program makes it
pub edge_made : (place : ℕ → Point) (l : List ℕ) (at pos i x y z : ℕ) (w : Float) → pos ≡ at + i * 21 → x ≡ field_at l pos 10 → y ≡ field_at l (pos + 10) 10 → z ≡ field_at l (pos + 20) 1
    → w ≡ length_of (minus_of (place y) (place x))
    → record { a = x; b = y; structural = z; torn = 0; rest = w; initial = w; impulse = zero32; stress = zero32 } ≡ edge_bits place l at i
edge_made place l at pos i x y z w p e f g h = made_edge place x y z w h ∙ edge_same place l at pos i x y z p e f g

-- a pair that is right names particles
pub pair_named : (p a b : ℕ) → pair_ok_of p a b ≡ true → (a < p) × (b < p)
unfolding pair_ok_of
pair_named p a b e =
    let w = and_true _ _ e in
    let v = and_true _ _ w.1 in
    (ltb-true a p w.0, ltb-true b p v.0)

-- so does a row of two
pub two_named : (three : Bool) (p a b c : ℕ) → row_ok three p a b c ≡ true → (a < p) × (b < p)
unfolding row_ok
two_named three p a b c e = pair_named p a b (and_true _ _ e).0

-- and one of three
pub three_named : (p a b c : ℕ) → row_ok true p a b c ≡ true → (a < p) × (b < p) × (c < p)
unfolding row_ok
three_named p a b c e =
    let w = and_true _ _ e in
    let v = and_true _ _ w.1 in
    let q = pair_named p a b w.0 in
    let r = pair_named p a c v.0 in
    (q.0, q.1, r.1)

-- of rows that are right, the first is, and the others are
pub first_right : (three : Bool) (p : ℕ) (l : List ℕ) (pos st n i : ℕ) → i < n → ok_at_of three p l pos st (n - i) ≡ true
    → (row_at three p l pos ≡ true) × (ok_at_of three p l (pos + st) st (n - (i + 1)) ≡ true)
first_right three p l pos st n i h e = and_true _ _ (sym (ok_turn three p l pos st n i h) ∙ e)
