-- How an accepted reading begins: what the answer to a sheet tells, and the room that was found. Assumes nothing.
use Prim.Native.Nat.{ℕ, ◌/◌, ◌<◌, ◌≤◌}
use mathlib.Core.Path.{◌≡◌, refl, sym, ap, ◌∙◌, subst}
use mathlib.Core.Bool.{Bool, true, false, cond, ◌&&◌}
use mathlib.Core.List.{List}
use native.Mathlib.Omega.{arith}
use borrow.Author.Tests.{leb-true, ltb-false}
use lib.Dec.{leb, ltb}
use lib.ListN.{length}
use Rattle.lists.proofs.Sifts.{and_true}
use Rattle.bits.specs.Bits.{bits_of}
use Rattle.mesh.specs.Given.{Lent}
use Rattle.mesh.specs.Widths.{point_columns}
use Rattle.outline_tables.specs.Rows.{sides_at}
use Rattle.sheet.specs.Sheet.{counts_at}
use Rattle.sheet.specs.declared.Counts.{Counts}
use Rattle.std.specs.Prelude.{Result, Ok, Err}
use Rattle.sheet.proofs.PutLaws.{neither}
use Rattle.edition.specs.Edition.{bits_in_of, sheet_of, overlong, typed_seen, seen_in, seen_of, whole_with}
use Rattle.edition.specs.Reading.{room_for, lent_of}
use Rattle.edition.specs.Work.{Held}
use Rattle.edition.specs.declared.Seen.{Seen}
use Rattle.mesh.specs.declared.refusals.Refusal.{Refusal}
use Rattle.mesh.specs.Refused.{number_of}
use Rattle.mesh.specs.declared.refusals.Refusal.TheVariants.{Size, Number, Name, Argument, Particles, Edges, Boundary, Entries, Sheet, Closed, Whole, Straps}
use Rattle.edition.proofs.Starts.{typed_in}

pub never : (n : Refusal) (c : Counts) (f : Bool) → Err n ≡ whole_with c f → ⊥
never n c f e = let z : ◌≡◌ {A = ℕ} 0 1 = cc in omega arith

-- a refusal's number fits a byte
pub number_small : (e : Refusal) → number_of e < 256
number_small Size = omega arith
number_small Number = omega arith
number_small Name = omega arith
number_small Argument = omega arith
number_small Particles = omega arith
number_small Edges = omega arith
number_small Boundary = omega arith
number_small Entries = omega arith
number_small Sheet = omega arith
number_small Closed = omega arith
number_small Whole = omega arith
number_small Straps = omega arith

-- what a whole sheet's answer tells
pub whole_same : (c d : Counts) (f g : Bool) → whole_with c f ≡ whole_with d g → (c ≡ d) × (f ≡ g)
whole_same c d f g e = let q : ◌≡◌ {A = Seen} (record { counts = c; replaced = f }) (record { counts = d; replaced = g }) = cc in (ap (λ (x : Seen). x.counts) q, ap (λ (x : Seen). x.replaced) q)

-- counts with another boundary
abbrev pub outlined : Counts → ℕ → Counts
outlined c n = record { particles = c.particles; triangles = c.triangles; edges = c.edges; boundary = n }

-- what it tells of a sheet that its answer is whole
pub record SeenWhole (limits : Counts) (s : List ℕ) (c : Counts) (f : Bool) : Type 0 where
  pub typed : typed_seen limits s ≡ Ok (counts_at (bits_in_of (bits_of s)))
  pub counts : c ≡ outlined (counts_at (bits_in_of (bits_of s))) (length (sheet_of (bits_of s)).sheet.boundary)
  pub told : f ≡ (sheet_of (bits_of s)).replaced
  pub few : length (sheet_of (bits_of s)).sheet.boundary ≤ 2048
  pub within : length (sheet_of (bits_of s)).sheet.boundary ≤ limits.boundary

cases : (t : Bool) (d c : Counts) (g f : Bool) → cond t (Err Size) (whole_with d g) ≡ whole_with c f → (t ≡ false) × (c ≡ d) × (f ≡ g)
cases true d c g f e = absurd (never Size c f e)
cases false d c g f e = let w = whole_same d c g f e in (refl, sym w.0, sym w.1)

seen_parts : (limits : Counts) (s : List ℕ) (c : Counts) (f : Bool) (w : Result Counts Refusal) → typed_seen limits s ≡ w → seen_in limits s w ≡ whole_with c f → SeenWhole limits s c f
unfolding seen_in
seen_parts limits s c f (Err n) e h = absurd (never n c f h)
seen_parts limits s c f (Ok d) e h =
    let n = length (sheet_of (bits_of s)).sheet.boundary in
    let w = cases (overlong limits n) (outlined d n) c (sheet_of (bits_of s)).replaced f h in
    let v = neither (ltb 2048 n) (ltb limits.boundary n) w.0 in
    let i : d ≡ counts_at (bits_in_of (bits_of s)) = sym (typed_in limits s d e).is in
    record {
      typed = e ∙ ap Ok i;
      counts = w.1 ∙ ap (λ (x : Counts). outlined x n) i;
      told = w.2;
      few = ltb-false _ _ v.0;
      within = ltb-false _ _ v.1;
    }

pub seen_whole_tells : (limits : Counts) (s : List ℕ) (c : Counts) (f : Bool) → seen_of limits s ≡ whole_with c f → SeenWhole limits s c f
seen_whole_tells limits s c f e = seen_parts limits s c f (typed_seen limits s) refl e

-- ---- the room that was found

roomy : (t p e b : Bool) (c d : Counts) (f g : Bool) → cond t (cond p (cond e (cond b (whole_with c f) (Err Boundary)) (Err Edges)) (Err Particles)) (Err Argument) ≡ whole_with d g
    → (t ≡ true) × (p ≡ true) × (e ≡ true) × (b ≡ true) × (c ≡ d) × (f ≡ g)
roomy false p e b c d f g h = absurd (never Argument d g h)
roomy true false e b c d f g h = absurd (never Particles d g h)
roomy true true false b c d f g h = absurd (never Edges d g h)
roomy true true true false c d f g h = absurd (never Boundary d g h)
roomy true true true true c d f g h = let w = whole_same c d f g h in (refl, refl, refl, refl, w.0, w.1)

fits : (n a b : ℕ) → (leb n a && leb n b) ≡ true → (n ≤ a) × (n ≤ b)
fits n a b e = let w = and_true (leb n a) (leb n b) e in (leb-true n a w.0, leb-true n b w.1)

module _ (limits : Counts) (s o : List ℕ) (L : Lent) (nb : ℕ) (c d : Counts) (f g : Bool) (e : seen_of limits s ≡ whole_with c f) (h : room_for c f L nb ≡ whole_with d g)
    (places : 6144 ≤ length o) (sides : sides_at c.boundary o ≡ (sheet_of (bits_of s)).sheet.boundary) where
  held_here : Held s c o L nb
  unfolding room_for
  held_here =
      let w = roomy ((leb c.triangles (L.corners / 3) && leb c.triangles (L.volumes / 2)) && leb 4 nb) (leb c.particles (L.points / point_columns) && leb c.particles (L.roots / 2))
      (leb c.edges (L.ends / 4) && leb c.edges (L.lengths / 4)) (leb c.boundary (L.outline / 2)) c d f g h in
      let v = and_true (leb c.triangles (L.corners / 3) && leb c.triangles (L.volumes / 2)) (leb 4 nb) w.0 in
      let t = fits c.triangles (L.corners / 3) (L.volumes / 2) v.0 in
      let p = fits c.particles (L.points / point_columns) (L.roots / 2) w.1 in
      let q = fits c.edges (L.ends / 4) (L.lengths / 4) w.2 in
      let b = leb-true c.boundary (L.outline / 2) w.3 in
      let a = seen_whole_tells limits s c f e in
      let k = ap (λ (x : Counts). x.boundary) a.counts in
      record {
        mesh =
            record {
              typed = typed_in limits s (counts_at (bits_in_of (bits_of s))) a.typed;
              particles = ap (λ (x : Counts). x.particles) a.counts;
              triangles = ap (λ (x : Counts). x.triangles) a.counts;
              edges = ap (λ (x : Counts). x.edges) a.counts;
              few = omega (arith, a.few);
              sides = sides;
              block = omega (arith, a.few);
              room = record { points = p.0; roots = p.1; corners = t.0; volumes = t.1; ends = q.0; lengths = q.1; outline = b; log = omega arith };
            };
        blade = leb-true 4 nb v.1;
      }

  counts_same : c ≡ d
  unfolding room_for
  counts_same = (roomy ((leb c.triangles (L.corners / 3) && leb c.triangles (L.volumes / 2)) && leb 4 nb) (leb c.particles (L.points / point_columns) && leb c.particles (L.roots / 2))
      (leb c.edges (L.ends / 4) && leb c.edges (L.lengths / 4)) (leb c.boundary (L.outline / 2)) c d f g h).4

  -- the counts that room was found for hold
  pub held : Held s d o L nb
  held = subst (λ (x : Counts). Held s x o L nb) counts_same held_here

-- the answer where the sheet is whole
pub lent_room : (limits : Counts) (s : List ℕ) (L : Lent) (nb : ℕ) (c : Counts) (f : Bool) (r : Result Seen Refusal) → seen_of limits s ≡ whole_with c f → r ≡ room_for c f L nb → r ≡ lent_of (seen_of limits s) L nb
unfolding lent_of
lent_room limits s L nb c f r e h = h ∙ sym (ap (λ (x : Result Seen Refusal). lent_of x L nb) e)

-- the answer where it is not
pub lent_refused : (limits : Counts) (s : List ℕ) (L : Lent) (nb : ℕ) (n : Refusal) → seen_of limits s ≡ Err n → Err n ≡ lent_of (seen_of limits s) L nb
unfolding lent_of
lent_refused limits s L nb n e = sym (ap (λ (x : Result Seen Refusal). lent_of x L nb) e)

-- room does not hang on the log
pub room_log :
    (c : Counts) (f : Bool) (L : Lent) (nb : ℕ)
    → room_for c f (record { points = L.points; roots = L.roots; corners = L.corners; volumes = L.volumes; ends = L.ends; lengths = L.lengths; outline = L.outline; log = 0 }) nb ≡ room_for c f L nb
unfolding room_for
room_log c f L nb = refl

-- what a reader left whole was a whole sheet
pub lent_whole : (x : Result Seen Refusal) (L : Lent) (nb : ℕ) (c : Counts) (f : Bool) → lent_of x L nb ≡ whole_with c f → x ≡ whole_with c f
unfolding lent_of room_for
lent_whole (Err n) L nb c f e = absurd (never n c f e)
lent_whole (Ok k) L nb c f e =
    let w = roomy ((leb k.counts.triangles (L.corners / 3) && leb k.counts.triangles (L.volumes / 2)) && leb 4 nb) (leb k.counts.particles (L.points / point_columns) && leb k.counts.particles (L.roots / 2))
    (leb k.counts.edges (L.ends / 4) && leb k.counts.edges (L.lengths / 4)) (leb k.counts.boundary (L.outline / 2)) k.counts c k.replaced f e in
    λ i. whole_with (w.4 i) (w.5 i)
