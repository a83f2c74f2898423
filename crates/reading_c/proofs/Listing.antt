-- Laws of the question beside a list of particles: a capped list asks the same. Assumes nothing.
use Prim.Native.Nat.{ℕ, zero, suc, ◌+◌, ◌*◌, ◌/◌, ◌≤◌, ◌<◌}
use native.Mathlib.Omega.{arith}
use mathlib.Core.Path.{◌≡◌, refl, sym, ap, ◌∙◌}
use mathlib.Core.Logic.{⊎_elim}
use mathlib.Core.Bool.{Bool, true, false}
use mathlib.Core.List.{List, [], ◌∷◌}
use lib.ListN.{length}
use lib.Dec.{ltb}
use lib.Ieee.{Float}
use borrow.Author.Tests.{ltb-true}
use Rattle.lists.specs.Lists.{all}
use Rattle.lists.proofs.Sifts.{and_true}
use Rattle.mesh.specs.Refused.{answer_in}
use Rattle.model.specs.Mesh.{Mesh}
use Rattle.model.specs.Elements.{the_rest_measure_of}
use Rattle.model.specs.Calls.{present, strictly, particles_ok, refusal}
use Rattle.model.specs.Reads.{or_refused, rest_measure_of_call}
use Rattle.mesh.specs.Given.{mesh_of}
use Rattle.judge.proofs.Joined.{Sized, sizes_told}
use Rattle.mesh_tables.proofs.Accepted.{particles_count}
use Rattle.std.specs.Prelude.{Result}
use Rattle.mesh.specs.declared.refusals.Refusal.{Refusal}
use Rattle.reading_replies.specs.Replies.{number_words}
use Rattle.reading_replies.proofs.Replying.{number_words_lem}
use Rattle.image.specs.Words.{words_from}
use Rattle.image.proofs.InBlocks.{words_long}
use Rattle.image.specs.Image.{image_of, image_sized_of}
use Rattle.reading_replies.specs.Given.{number_reply, SmallCode}
use Rattle.reading_c.specs.Capped.{Capped}
use Rattle.replies.proofs.Saying.{refusal_small}
use Rattle.image.proofs.Loading.{sized_input}
use Rattle.reading_c.proofs.Siding.{capped_within, capped_most, refused_either}

-- ---- a rising list of particles is short

rising_few : (n x : ℕ) (l : List ℕ) → strictly (x ∷ l) ≡ true → all (λ y. ltb y n) (x ∷ l) ≡ true → x + suc (length l) ≤ n
unfolding strictly all
rising_few n x [] h k = let a = ltb-true x n (and_true (ltb x n) true k).0 in omega arith
rising_few n x (y ∷ l) h k =
    let f = rising_few n y l (and_true (ltb x y) (strictly (y ∷ l)) h).1 (and_true (ltb x n) (all (λ y. ltb y n) (y ∷ l)) k).1 in
    let a = ltb-true x y (and_true (ltb x y) (strictly (y ∷ l)) h).0 in
    omega (arith, f, a)

-- so an accepted list has at most as many as there are particles
ok_few : (M : Mesh) (l : List ℕ) → particles_ok M l ≡ true → length l ≤ length M.particles
unfolding particles_ok
ok_few M [] h = omega arith
ok_few M (x ∷ l) h =
    let a = and_true (strictly (x ∷ l)) (all (present M) (x ∷ l)) h in
    let f = rising_few (length M.particles) x l a.0 a.1 in
    omega (arith, f)

-- and a longer one is refused
many_wrong : (M : Mesh) (l : List ℕ) → length M.particles ≤ 1024 → 1025 ≤ length l → particles_ok M l ≡ false
many_wrong M l f h = by (particles_ok M l) refl
  where
    by : (b : Bool) → particles_ok M l ≡ b → b ≡ false
    by false e = refl
    by true e = let a = ok_few M l e in absurd (omega (arith, a, f, h))

particles_small : (s : List ℕ) → image_sized_of s ≡ true → length (mesh_of (image_of s)).particles ≤ 1024
particles_small s h =
    let G = image_of s in
    let z : Sized (length G.points) (length G.roots) (length G.corners) (length G.volumes) (length G.ends) (length G.lengths) (length G.outline) = sizes_told _ _ _ _ _ _ _ (sized_input s h ∙ h) in
    omega (arith, particles_count G, z.few_particles)

-- ---- the entry on a capped list

bad_calls : (z : Bool) (M : Mesh) (t l : List ℕ) → particles_ok M t ≡ false → particles_ok M l ≡ false → rest_measure_of_call z M t ≡ rest_measure_of_call z M l
unfolding rest_measure_of_call
bad_calls z M t l e f =
    ap (λ (b : Bool). or_refused (refusal z M true b) (the_rest_measure_of M t)) e ∙ refused_either z M (the_rest_measure_of M t) (the_rest_measure_of M l)
    ∙ sym (ap (λ (b : Bool). or_refused (refusal z M true b) (the_rest_measure_of M l)) f)

pub words_capped : (s b : List ℕ) (m n : ℕ) → image_sized_of s ≡ true → Capped m 1025 n
    → rest_measure_of_call (image_sized_of s) (mesh_of (image_of s)) (words_from b 0 n) ≡ rest_measure_of_call (image_sized_of s) (mesh_of (image_of s)) (words_from b 0 m)
words_capped s b m n h c =
    ⊎_elim
    (λ y. ap (λ (k : ℕ). rest_measure_of_call (image_sized_of s) (mesh_of (image_of s)) (words_from b 0 k)) y.0)
    (λ y.
    let f = particles_small s h in
    bad_calls (image_sized_of s) (mesh_of (image_of s)) (words_from b 0 n) (words_from b 0 m)
    (many_wrong (mesh_of (image_of s)) (words_from b 0 n) f (omega (arith, words_long b 0 n, y.0)))
    (many_wrong (mesh_of (image_of s)) (words_from b 0 m) f (omega (arith, words_long b 0 m, y.1))))
    c

-- capped words stand in the bytes
pub words_within : (m n : ℕ) → Capped (m / 4) 1025 n → 4 * (0 + n) ≤ m
words_within m n c = let w = capped_within c in omega arith

-- and are no more than a question may have
pub words_few : {m n : ℕ} → Capped m 1025 n → n ≤ 2049
words_few c = let w = capped_most c in omega arith

-- ---- the reply

small_or : (n : ℕ) (x : Float) → n < 256 → SmallCode (number_words ((or_refused n x)))
small_or zero x h = omega arith
small_or (suc n) x h = h

pub measure_of_small : (z : Bool) (M : Mesh) (l : List ℕ) (a : Result Float Refusal) → answer_in a ≡ rest_measure_of_call z M l → SmallCode (number_reply a)
unfolding rest_measure_of_call
measure_of_small z M l a e = rw (number_words_lem a) (rw e (small_or _ _ (refusal_small z M true (particles_ok M l))))
