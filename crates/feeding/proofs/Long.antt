-- The longest sheet has 17,292 bytes: what follows the first 17,293 bytes changes neither the answer nor what is left. Assumes nothing.
use Prim.Native.Nat.{ℕ, ◌+◌, ◌≤◌}
use native.Mathlib.Omega.{arith}
use mathlib.Core.Path.{◌≡◌, refl, sym, ap, subst, ◌∙◌}
use mathlib.Core.Bool.{Bool, true, false, cond, ◌||◌}
use mathlib.Core.List.{List, ◌++◌}
use mathlib.Core.Logic.{⊎_elim}
use lib.Dec.{eqb, ltb}
use lib.Ieee.{Float}
use lib.ListN.{length, take, drop, length-append, take-append-drop}
use lib.Seq.{take_all, length-take-le}
use borrow.Author.Tests.{le-ltb, ne_eqb, ltb-false}
use Rattle.lists.specs.Lists.{padded}
use Rattle.float.specs.Numbers.{zero32}
use Rattle.mesh.specs.Given.{Lent}
use Rattle.mesh.specs.Filled.{Filled}
use Rattle.mesh.specs.Log.{World}
use Rattle.bits.specs.Bits.{bits_of}
use Rattle.bits.proofs.Laws.{below?}
use Rattle.sheet.specs.Sheet.{sheet_with, above, too_many_of, counts_at, names_ok}
use Rattle.sheet.specs.declared.Counts.{Counts}
use Rattle.std.specs.Prelude.{Result, Ok, Err}
use Rattle.mesh.specs.declared.refusals.Refusal.{Refusal}
use Rattle.mesh.specs.declared.refusals.Refusal.TheVariants.{Size, Name, Sheet}
use Rattle.edition.specs.declared.Seen.{Seen}
use Rattle.sheet.proofs.PutLaws.{neither}
use Rattle.edition.specs.Edition.{second, as_first_of, bits_in_of, bytes_in, spare_in, typed_with, typed_seen, seen_in, seen_of}
use Rattle.edition.specs.Reading.{lent_of, world_of, blade_left, ReadDone}
use Rattle.edition.proofs.Editions.{counts_second}
use Rattle.feeding.specs.Feeding.{most}
use Rattle.edition.proofs.Joins.{counts_join}

-- ---- bytes that are too many

-- counts within those of every mesh
pub record Few (c : Counts) : Type 0 where
  pub particles : c.particles ≤ 1024
  pub triangles : c.triangles ≤ 1024
  pub edges : c.edges ≤ 2048
  pub boundary : c.boundary ≤ 2048

few : (c : Counts) → too_many_of c ≡ false → Few c
unfolding above
few c e =
    let u = neither (ltb 1024 c.particles) (ltb 1024 c.triangles || (ltb 2048 c.edges || ltb 2048 c.boundary)) e in
    let v = neither (ltb 1024 c.triangles) (ltb 2048 c.edges || ltb 2048 c.boundary) u.1 in
    let w = neither (ltb 2048 c.edges) (ltb 2048 c.boundary) v.1 in
    record { particles = ltb-false 1024 c.particles u.0; triangles = ltb-false 1024 c.triangles v.0; edges = ltb-false 2048 c.edges w.0; boundary = ltb-false 2048 c.boundary w.1 }

-- the longest sheet
pub longest : (t : Bool) (c : Counts) → too_many_of c ≡ false → bytes_in t c ≤ 17292
longest true c e = let F = few c e in omega (arith, F.particles, F.triangles, F.edges, F.boundary)
longest false c e = let F = few c e in omega (arith, F.particles, F.triangles, F.edges, F.boundary)

-- the longest of the second edition, which has no boundary entries
pub longest_second : (l : List ℕ) → 45 ≤ length l → too_many_of (counts_at (as_first_of l)) ≡ false → bytes_in true (counts_at (as_first_of l)) ≤ 12172
longest_second l h e =
    let F = few (counts_at (as_first_of l)) e in
    let z : (counts_at (as_first_of l)).boundary ≡ 0 = ap (λ (c : Counts). c.boundary) (counts_second l h) in
    omega (arith, F.particles, F.triangles, F.edges, z)

-- what too many bytes are answered, by their counts
abbrev pub code : Bool → Refusal
code t = cond t Size Sheet

without : (t u : Bool) (x : Result Counts Refusal) → (t ≡ false → u ≡ false) → cond t (Err Size) (cond u x (Err Sheet)) ≡ Err (code t)
without true u x h = refl
without false u x h = ap (λ (b : Bool). cond b x (Err Sheet)) (h refl)

typed_long : (limits : Counts) (s : List ℕ) → 17293 ≤ length s → typed_seen limits s ≡ Err (code (too_many_of (counts_at (bits_in_of (bits_of s))) || above limits (counts_at (bits_in_of (bits_of s)))))
unfolding typed_seen typed_with
typed_long limits s h =
    let c = counts_at (bits_in_of (bits_of s)) in
    let t = second (bits_of s) in
    rw (le-ltb (length s) 6 (omega arith))
    (without (too_many_of c || above limits c) (eqb (length s) (bytes_in t c)) (cond (eqb (spare_in c s) 0) (cond (names_ok (sheet_with c (bits_in_of (bits_of s)))) (Ok c) (Err Name)) (Err Sheet))
    (λ e. ne_eqb (length s) (bytes_in t c) (λ q. omega (arith, q, longest t c (neither (too_many_of c) (above limits c) e).0))))

seen_long : (limits : Counts) (s : List ℕ) → 17293 ≤ length s → seen_of limits s ≡ Err (code (too_many_of (counts_at (bits_in_of (bits_of s))) || above limits (counts_at (bits_in_of (bits_of s)))))
unfolding seen_in
seen_long limits s h = ap (seen_in limits s) (typed_long limits s h)

-- the same, by the bytes that it begins with
pub seen_full : (limits : Counts) (a b : List ℕ) → 6 ≤ length a → 17293 ≤ length a + length b
    → seen_of limits (a ++ b) ≡ Err (code (too_many_of (counts_at (bits_in_of (bits_of a))) || above limits (counts_at (bits_in_of (bits_of a)))))
seen_full limits a b h f =
    seen_long limits (a ++ b) (omega (arith, length-append a b)) ∙ ap (λ (c : Counts). Err (code (too_many_of c || above limits c))) (counts_join a b h)

-- ---- two runs of bytes that are read alike: they are the same, or refused alike

pub data Alike (limits : Counts) (s u : List ℕ) : Type 0 where
  same : s ≡ u → Alike limits s u
  both : (n : Refusal) → seen_of limits s ≡ Err n → seen_of limits u ≡ Err n → Alike limits s u

pub alike_back : {limits : Counts} {s u : List ℕ} → Alike limits s u → Alike limits u s
alike_back (same e) = same (sym e)
alike_back (both n e f) = both n f e

-- the first n bytes, where n is above the longest sheet's
pub alike_front : (limits : Counts) (s : List ℕ) (n : ℕ) → 17293 ≤ n → Alike limits s (take n s)
alike_front limits s n h =
    ⊎_elim
    (λ y.
    let a = take n s in
    let b = drop n s in
    let l : length a ≡ n = length-take-le n s (omega arith) in
    let e : counts_at (bits_in_of (bits_of s)) ≡ counts_at (bits_in_of (bits_of a)) = ap (λ (x : List ℕ). counts_at (bits_in_of (bits_of x))) (sym (take-append-drop n s)) ∙ counts_join a b (omega arith) in
    both _ (seen_long limits s (omega arith) ∙ ap (λ (c : Counts). Err (code (too_many_of c || above limits c))) e) (seen_long limits a (omega arith)))
    (λ y. same (sym (take_all n s y)))
    (below? n (length s))

-- the answer is the same
pub alike_seen : {limits : Counts} {s u : List ℕ} → Alike limits s u → seen_of limits s ≡ seen_of limits u
alike_seen {limits} (same e) = ap (seen_of limits) e
alike_seen (both n e f) = e ∙ sym f

-- what a refused reading leaves depends on no byte
world_refused : (r : Result Seen Refusal) (n : Refusal) (l m : List ℕ) → r ≡ Err n → world_of r l ≡ world_of r m
unfolding world_of
world_refused r n l m e = ap (λ (x : Result Seen Refusal). world_of x l) e ∙ sym (ap (λ (x : Result Seen Refusal). world_of x m) e)

blade_refused : (r : Result Seen Refusal) (n : Refusal) (l m : List ℕ) → r ≡ Err n → blade_left r l ≡ blade_left r m
unfolding blade_left
blade_refused r n l m e = ap (λ (x : Result Seen Refusal). blade_left x l) e ∙ sym (ap (λ (x : Result Seen Refusal). blade_left x m) e)

lent_refused : (r x : Result Seen Refusal) (n : Refusal) (L : Lent) (k : ℕ) → r ≡ lent_of x L k → x ≡ Err n → r ≡ Err n
unfolding lent_of
lent_refused r x n L k e f = e ∙ ap (λ (y : Result Seen Refusal). lent_of y L k) f

-- and so is what a reading leaves
pub alike_read :
    {limits : Counts} {s u : List ℕ} {L : Lent} {r : Result Seen Refusal} {p : List Float} {q c : List ℕ} {v : List Float} {e : List ℕ} {l : List Float} {o g : List ℕ} {b b' : List Float}
    → Alike limits s u → ReadDone limits s L r p q c v e l o g b b' → ReadDone limits u L r p q c v e l o g b b'
alike_read {limits} {s} {u} {L} {r} {p} {q} {c} {v} {e} {l} {o} {g} {b} {b'} (same z) D = subst (λ (x : List ℕ). ReadDone limits x L r p q c v e l o g b b') z D
alike_read {limits} {s} {u} {L} {r} {p} {q} {c} {v} {e} {l} {o} {g} {b} {b'} (both n f h) D =
    let z = lent_refused r (seen_of limits s) n L (length b) D.answer f in
    record {
      answer = D.answer ∙ ap (λ (x : Result Seen Refusal). lent_of x L (length b)) (f ∙ sym h);
      blocks = subst (λ (W : World). Filled W L p q c v e l o g) (world_refused r n (bits_of s) (bits_of u) z) D.blocks;
      blade = D.blade ∙ ap (padded (length b) zero32) (blade_refused r n (bits_of s) (bits_of u) z);
    }

-- ---- so a reader may stop behind 17,293 bytes

pub long_read : (limits : Counts) (s : List ℕ) → seen_of limits s ≡ seen_of limits (take most s)
long_read limits s = alike_seen (alike_front limits s most (omega arith))

-- the same of what is left in the lent places
pub long_left :
    (limits : Counts) (s : List ℕ) {L : Lent} {r : Result Seen Refusal} {p : List Float} {q c : List ℕ} {v : List Float} {e : List ℕ} {l : List Float} {o g : List ℕ} {b b' : List Float}
    → ReadDone limits (take most s) L r p q c v e l o g b b' → ReadDone limits s L r p q c v e l o g b b'
long_left limits s D = alike_read (alike_back (alike_front limits s most (omega arith))) D
