-- The image of an accepted mesh, read back, is that mesh. Assumes nothing.
use Prim.Native.Nat.{ℕ, zero, suc, ◌+◌, ◌*◌, ◌<◌, ◌≤◌}
use mathlib.Core.Path.{◌≡◌, refl, sym, ap, ◌∙◌, subst}
use mathlib.Core.Bool.{true, false, false≢true, ◌&&◌}
use mathlib.Core.List.{List, [], ◌∷◌, ◌++◌, append-nil, append_assoc}
use native.Mathlib.Omega.{arith}
use borrow.Author.Tests.{ltb-true, le-leb, eq-eqb}
use lib.ListN.{length, get_or, length-append, length-map, get_or-append}
use lib.Ieee.{Float, nan, inf, fin, binary32, to_bits, is_nan, le, lt, eq}
use Rattle.lists.specs.Lists.{all}
use Rattle.float.specs.Numbers.{abs_of}
use Rattle.float.specs.Ranges.{finite?, number?, volume?, not_below0?}
use Rattle.model.specs.Mesh.{Particle, Triangle, Edge, Side, Mesh}
use Rattle.model.specs.Valid.{flag?, particle_ok, triangle_ok, edge_ok, numbers_fit_of}
use Rattle.model.specs.Trace.{All, Different, Sound, Rowed}
use Rattle.model_laws.proofs.Laws.{all_over, all_map, all_from}
use Rattle.model_laws.proofs.Indexed.{Indexed}
use Rattle.model_laws.proofs.Rows.{Pair, named_at}
use Rattle.model_laws.proofs.Accepted.{accepted_indexed, indexed_rowed}
use Rattle.mesh.specs.Given.{given, mesh_of}
use Rattle.mesh.specs.Filled.{point_of, root_of, corner_of, volume_of, end_of, length_of, side_of}
use Rattle.mesh.specs.Widths.{point_columns, particle_words}
use Rattle.image.specs.Words.{word_at_of, words_from, numbers_from, bits_in_of}
use Rattle.image.specs.Image.{image_words, image_fits_of, blocks_in, image_of, counts_within_of, image_sized_of, image_words_of}
use Rattle.image.proofs.Words.{bytes_length}
use Rattle.image.proofs.Sizes.{sizes_are}
use Rattle.lineage.specs.History.{Particle32, Triangle32, Edge32, Accepted, Few}
use Rattle.lineage.proofs.Again.{Tests, tests}
use Rattle.imaged.specs.Bytes.{bytes_in, image_bytes}
use Rattle.imaged.proofs.Words.{Word, Plain, word_of, words_there, numbers_there, stack_all}
use Rattle.imaged.proofs.Packed.{packed_of, packed_held, points_long, roots_long, corners_long, volumes_long, ends_long, lengths_long, outline_long}
use Rattle.lists.proofs.Sifts.{and_true}

-- ---- the numbers and words of an accepted mesh

number_no_nan : (x : Float) → number? x ≡ true → is_nan x ≡ false
unfolding number? abs_of le lt eq is_nan
number_no_nan nan e = absurd (false≢true e)
number_no_nan (inf s) e = refl
number_no_nan (fin s m d) e = refl

volume_no_nan : (x : Float) → volume? x ≡ true → is_nan x ≡ false
unfolding volume? abs_of le lt eq is_nan
volume_no_nan nan e = absurd (false≢true e)
volume_no_nan (inf s) e = refl
volume_no_nan (fin s m d) e = refl

finite_no_nan : (x : Float) → finite? x ≡ true → is_nan x ≡ false
unfolding finite? is_nan
finite_no_nan nan e = absurd (false≢true e)
finite_no_nan (inf s) e = refl
finite_no_nan (fin s m d) e = refl

-- a flag is a word
flag_word : (f : ℕ) → flag? f ≡ true → Word f
flag_word f e = let h = ltb-true f 2 e in omega arith

-- what is asked of each row of a mesh: its numbers are plain, its words are words
abbrev ParticleWritable : Particle → Type 0
ParticleWritable p = ((c : ℕ) → Plain (point_of c p)) × ((c : ℕ) → Word (root_of c p))

abbrev TriangleWritable : Triangle → Type 0
TriangleWritable t = ((c : ℕ) → Plain (volume_of c t)) × ((c : ℕ) → Word (corner_of c t))

abbrev EdgeWritable : Edge → Type 0
EdgeWritable e = ((c : ℕ) → Plain (length_of c e)) × ((c : ℕ) → Word (end_of c e))

abbrev SideWritable : Side → Type 0
SideWritable s = (c : ℕ) → Word (side_of c s)

particle_writable : (p : Particle) → particle_ok p ≡ true → Particle32 p → Word p.root → ParticleWritable p
particle_writable p ok h r =
    let S = tests p ok in
    let a = and_true (number? p.x && number? p.y && number? p.rest_x) (number? p.rest_y) S.places in
    let b = and_true (number? p.x && number? p.y) (number? p.rest_x) a.0 in
    let c = and_true (number? p.x) (number? p.y) b.0 in
    (numbers S c.0 c.1 b.1 a.1, words S.damaged)
  where
    numbers : Tests p → number? p.x ≡ true → number? p.y ≡ true → number? p.rest_x ≡ true → number? p.rest_y ≡ true → (c : ℕ) → Plain (point_of c p)
    numbers S x y rx ry zero = (h.x, number_no_nan p.x x)
    numbers S x y rx ry (suc zero) = (h.y, number_no_nan p.y y)
    numbers S x y rx ry (suc (suc zero)) = (h.rest_x, number_no_nan p.rest_x rx)
    numbers S x y rx ry (suc (suc (suc zero))) = (h.rest_y, number_no_nan p.rest_y ry)
    numbers S x y rx ry (suc (suc (suc (suc zero)))) = (h.mass, number_no_nan p.mass S.mass)
    numbers S x y rx ry (suc (suc (suc (suc (suc zero))))) = (h.inv, finite_no_nan p.inv S.inv)
    numbers S x y rx ry (suc (suc (suc (suc (suc (suc zero)))))) = (h.velocity_x, number_no_nan p.velocity_x S.velocity_x)
    numbers S x y rx ry (suc (suc (suc (suc (suc (suc (suc c))))))) = (h.velocity_y, number_no_nan p.velocity_y S.velocity_y)

    words : flag? p.damaged ≡ true → (c : ℕ) → Word (root_of c p)
    words d zero = r
    words d (suc c) = flag_word p.damaged d

triangle_writable : (n : ℕ) → n ≤ 1024 → (t : Triangle) → triangle_ok t ≡ true → Triangle32 t → Sound n t → TriangleWritable t
unfolding triangle_ok
triangle_writable n few t ok h S = (numbers (and_true (volume? t.volume) (number? t.stress) ok), words)
  where
    numbers : (volume? t.volume ≡ true) × (number? t.stress ≡ true) → (c : ℕ) → Plain (volume_of c t)
    numbers q zero = (h.volume, volume_no_nan t.volume q.0)
    numbers q (suc c) = (h.stress, number_no_nan t.stress q.1)

    words : (c : ℕ) → Word (corner_of c t)
    words c = omega (arith, named_at n t.corners S.apart c)

edge_writable : (n : ℕ) → n ≤ 1024 → (e : Edge) → edge_ok e ≡ true → Edge32 e → Pair n e.a e.b → EdgeWritable e
unfolding edge_ok
edge_writable n few e ok h P =
    let a = and_true (flag? e.structural && flag? e.torn && number? e.rest && number? e.initial && not_below0? e.rest && not_below0? e.initial && number? e.impulse) (number? e.stress) ok in
    let b = and_true (flag? e.structural && flag? e.torn && number? e.rest && number? e.initial && not_below0? e.rest && not_below0? e.initial) (number? e.impulse) a.0 in
    let c = and_true (flag? e.structural && flag? e.torn && number? e.rest && number? e.initial && not_below0? e.rest) (not_below0? e.initial) b.0 in
    let d = and_true (flag? e.structural && flag? e.torn && number? e.rest && number? e.initial) (not_below0? e.rest) c.0 in
    let f = and_true (flag? e.structural && flag? e.torn && number? e.rest) (number? e.initial) d.0 in
    let g = and_true (flag? e.structural && flag? e.torn) (number? e.rest) f.0 in
    let i = and_true (flag? e.structural) (flag? e.torn) g.0 in
    (numbers g.1 f.1 b.1 a.1, words i.0 i.1)
  where
    numbers : number? e.rest ≡ true → number? e.initial ≡ true → number? e.impulse ≡ true → number? e.stress ≡ true → (c : ℕ) → Plain (length_of c e)
    numbers r i p s zero = (h.rest, number_no_nan e.rest r)
    numbers r i p s (suc zero) = (h.initial, number_no_nan e.initial i)
    numbers r i p s (suc (suc zero)) = (h.impulse, number_no_nan e.impulse p)
    numbers r i p s (suc (suc (suc c))) = (h.stress, number_no_nan e.stress s)

    words : flag? e.structural ≡ true → flag? e.torn ≡ true → (c : ℕ) → Word (end_of c e)
    words s t zero = omega (arith, P.first)
    words s t (suc zero) = omega (arith, P.second)
    words s t (suc (suc zero)) = flag_word e.structural s
    words s t (suc (suc (suc c))) = flag_word e.torn t

side_writable : (n : ℕ) → n ≤ 1024 → (s : Side) → Different 2 n s.corners → SideWritable s
side_writable n few s D c = omega (arith, named_at n s.corners D.apart c)

-- two facts, and three, on each row
all_two : {A : Type 0} {P Q R : A → Type 0} → ((a : A) → P a → Q a → R a) → (l : List A) → All P l → All Q l → All R l
all_two f [] h u = tt
all_two f (a ∷ l) h u = (f a h.0 u.0, all_two f l h.1 u.1)

all_three : {A : Type 0} {P Q R S : A → Type 0} → ((a : A) → P a → Q a → R a → S a) → (l : List A) → All P l → All Q l → All R l → All S l
all_three f [] h u v = tt
all_three f (a ∷ l) h u v = (f a h.0 u.0 v.0, all_three f l h.1 u.1 v.1)

-- each row of a mesh
pub record Writable (M : Mesh) : Type 0 where
  pub particles : All ParticleWritable M.particles
  pub triangles : All TriangleWritable M.triangles
  pub edges : All EdgeWritable M.edges
  pub boundary : All SideWritable M.boundary
  pub rowed : Rowed M

pub accepted_writable : (M : Mesh) → Accepted M → Few M → Writable M
unfolding numbers_fit_of
accepted_writable M A F =
    let n = length M.particles in
    let few : n ≤ 1024 = F.particles in
    let p = and_true (all particle_ok M.particles && all triangle_ok M.triangles) (all edge_ok M.edges) A.numbers in
    let q = and_true (all particle_ok M.particles) (all triangle_ok M.triangles) p.0 in
    let I : Indexed M = accepted_indexed M A.indices in
    record {
      particles = all_three (λ a ok h r. particle_writable a ok h (omega (arith, few, r))) M.particles (all_from particle_ok (λ (x : Particle). particle_ok x ≡ true) (λ x u. u) M.particles q.0) A.stored.particles I.roots;
      triangles = all_three (triangle_writable n few) M.triangles (all_from triangle_ok (λ (x : Triangle). triangle_ok x ≡ true) (λ x u. u) M.triangles q.1) A.stored.triangles I.triangles;
      edges = all_three (edge_writable n few) M.edges (all_from edge_ok (λ (x : Edge). edge_ok x ≡ true) (λ x u. u) M.edges p.1) A.stored.edges I.edges;
      boundary = all_over _ SideWritable (side_writable n few) M.boundary I.boundary;
      rowed = indexed_rowed M I;
    }

-- ---- where each block stands among the words

module _ (h p r c v e l o : List ℕ) where
  abbrev eight : List ℕ
  eight = h ++ p ++ r ++ c ++ v ++ e ++ l ++ o

  at_outline : eight ≡ (h ++ p ++ r ++ c ++ v ++ e ++ l) ++ (o ++ [])
  at_outline = ap (λ (x : List ℕ). (h ++ p ++ r ++ c ++ v ++ e ++ l) ++ x) (sym (append-nil o))

  at_lengths : eight ≡ (h ++ p ++ r ++ c ++ v ++ e) ++ (l ++ o)
  at_lengths = append_assoc (h ++ p ++ r ++ c ++ v ++ e) l o

  at_ends : eight ≡ (h ++ p ++ r ++ c ++ v) ++ (e ++ (l ++ o))
  at_ends = at_lengths ∙ append_assoc (h ++ p ++ r ++ c ++ v) e (l ++ o)

  at_volumes : eight ≡ (h ++ p ++ r ++ c) ++ (v ++ (e ++ (l ++ o)))
  at_volumes = at_ends ∙ append_assoc (h ++ p ++ r ++ c) v (e ++ (l ++ o))

  at_corners : eight ≡ (h ++ p ++ r) ++ (c ++ (v ++ (e ++ (l ++ o))))
  at_corners = at_volumes ∙ append_assoc (h ++ p ++ r) c (v ++ (e ++ (l ++ o)))

  at_roots : eight ≡ (h ++ p) ++ (r ++ (c ++ (v ++ (e ++ (l ++ o)))))
  at_roots = at_corners ∙ append_assoc (h ++ p) r (c ++ (v ++ (e ++ (l ++ o))))

  at_points : eight ≡ h ++ (p ++ (r ++ (c ++ (v ++ (e ++ (l ++ o))))))
  at_points = at_roots ∙ append_assoc h p (r ++ (c ++ (v ++ (e ++ (l ++ o)))))

-- words, and numbers, that stand somewhere in a list of words
module _ (ws A C : List ℕ) (at n : ℕ) (a : length A ≡ at) where
  words_in : (B : List ℕ) → ws ≡ A ++ (B ++ C) → length B ≡ n → All Word B → words_from (bytes_in ws) at n ≡ B
  words_in B is b small =
      ap (λ (s : List ℕ). words_from s at n) (sym (append-nil (bytes_in ws))) ∙ (ap (λ (u : List ℕ). words_from (bytes_in u ++ []) at n) is ∙ words_there A B C [] at n a b small)

  numbers_in : (F : List Float) → ws ≡ A ++ (bits_in_of F ++ C) → length F ≡ n → All Plain F → numbers_from (bytes_in ws) at n ≡ F
  numbers_in F is b plain =
      ap (λ (s : List ℕ). numbers_from s at n) (sym (append-nil (bytes_in ws))) ∙ (ap (λ (u : List ℕ). numbers_from (bytes_in u ++ []) at n) is ∙ numbers_there A F C [] at n a b plain)

-- ---- the image of a mesh

-- the counts of a mesh
abbrev pub counts_first : Mesh → List ℕ
counts_first M = length M.particles ∷ length M.triangles ∷ length M.edges ∷ length M.boundary ∷ []

module _ (M : Mesh) where
  -- the words of its blocks, one behind the other
  abbrev block_list : List ℕ
  block_list =
      let G = packed_of M in
      eight (counts_first M) (bits_in_of G.points) G.roots G.corners (bits_in_of G.volumes) G.ends (bits_in_of G.lengths) G.outline

  pub image_words_lem : image_words_of M ≡ block_list
  unfolding image_words_of
  image_words_lem = refl

  bits_points : length (bits_in_of (packed_of M).points) ≡ point_columns * length M.particles
  bits_points = length-map (packed_of M).points (to_bits binary32) ∙ points_long M

  bits_volumes : length (bits_in_of (packed_of M).volumes) ≡ 2 * length M.triangles
  bits_volumes = length-map (packed_of M).volumes (to_bits binary32) ∙ volumes_long M

  bits_lengths : length (bits_in_of (packed_of M).lengths) ≡ 4 * length M.edges
  bits_lengths = length-map (packed_of M).lengths (to_bits binary32) ∙ lengths_long M

  -- how far each block stands from the first word
  long_points : length (counts_first M ++ bits_in_of (packed_of M).points) ≡ 4 + point_columns * length M.particles
  long_points = omega (arith, length-append (counts_first M) (bits_in_of (packed_of M).points), bits_points)

  long_roots : length (counts_first M ++ bits_in_of (packed_of M).points ++ (packed_of M).roots) ≡ 4 + particle_words * length M.particles
  long_roots = omega (arith, length-append (counts_first M ++ bits_in_of (packed_of M).points) (packed_of M).roots, long_points, roots_long M)

  long_corners : length (counts_first M ++ bits_in_of (packed_of M).points ++ (packed_of M).roots ++ (packed_of M).corners) ≡ 4 + particle_words * length M.particles + 3 * length M.triangles
  long_corners = omega (arith, length-append (counts_first M ++ bits_in_of (packed_of M).points ++ (packed_of M).roots) (packed_of M).corners, long_roots, corners_long M)

  long_volumes : length (counts_first M ++ bits_in_of (packed_of M).points ++ (packed_of M).roots ++ (packed_of M).corners ++ bits_in_of (packed_of M).volumes) ≡ 4 + particle_words * length M.particles + 5 * length M.triangles
  long_volumes = omega (arith, length-append (counts_first M ++ bits_in_of (packed_of M).points ++ (packed_of M).roots ++ (packed_of M).corners) (bits_in_of (packed_of M).volumes), long_corners, bits_volumes)

  long_ends : length (counts_first M ++ bits_in_of (packed_of M).points ++ (packed_of M).roots ++ (packed_of M).corners ++ bits_in_of (packed_of M).volumes ++ (packed_of M).ends)
      ≡ 4 + particle_words * length M.particles + 5 * length M.triangles + 4 * length M.edges
  long_ends = omega (arith, length-append (counts_first M ++ bits_in_of (packed_of M).points ++ (packed_of M).roots ++ (packed_of M).corners ++ bits_in_of (packed_of M).volumes) (packed_of M).ends, long_volumes, ends_long M)

  long_lengths : length (counts_first M ++ bits_in_of (packed_of M).points ++ (packed_of M).roots ++ (packed_of M).corners ++ bits_in_of (packed_of M).volumes ++ (packed_of M).ends ++ bits_in_of (packed_of M).lengths)
      ≡ 4 + particle_words * length M.particles + 5 * length M.triangles + 8 * length M.edges
  long_lengths =
      omega (arith, length-append (counts_first M ++ bits_in_of (packed_of M).points ++ (packed_of M).roots ++ (packed_of M).corners ++ bits_in_of (packed_of M).volumes ++ (packed_of M).ends) (bits_in_of (packed_of M).lengths), long_ends, bits_lengths)

  -- how many words an image has
  pub image_long : length (image_words_of M) ≡ image_words (length M.particles) (length M.triangles) (length M.edges) (length M.boundary)
  image_long =
      ap length image_words_lem
      ∙ omega (arith, length-append (counts_first M ++ bits_in_of (packed_of M).points ++ (packed_of M).roots ++ (packed_of M).corners ++ bits_in_of (packed_of M).volumes ++ (packed_of M).ends ++ bits_in_of (packed_of M).lengths) (packed_of M).outline, long_lengths, outline_long M)

  -- it begins with the counts
  pub count_first : (i : ℕ) → i < 4 → get_or (image_words_of M) i 0 ≡ get_or (counts_first M) i 0
  count_first i h =
      let G = packed_of M in
      let rest = bits_in_of G.points ++ (G.roots ++ (G.corners ++ (bits_in_of G.volumes ++ (G.ends ++ (bits_in_of G.lengths ++ G.outline))))) in
      ap (λ (u : List ℕ). get_or u i 0) (image_words_lem ∙ at_points (counts_first M) (bits_in_of G.points) G.roots G.corners (bits_in_of G.volumes) G.ends (bits_in_of G.lengths) G.outline)
      ∙ get_or-append (counts_first M) rest 0 i h

module _ (M : Mesh) (W : Writable M) (F : Few M) where
  -- each count is read as it is
  count_at : (i : ℕ) → i < 4 → Word (get_or (counts_first M) i 0) → word_at_of (image_bytes M) i ≡ get_or (counts_first M) i 0
  count_at i h w =
      let g = count_first M i h in
      ap (λ (s : List ℕ). word_at_of s i) (sym (append-nil (image_bytes M))) ∙ (word_of (image_words_of M) [] i (omega (arith, image_long M)) (subst Word (sym g) w) ∙ g)

  read_particles : word_at_of (image_bytes M) 0 ≡ length M.particles
  read_particles = count_at 0 (omega arith) (omega (arith, F.particles))

  read_triangles : word_at_of (image_bytes M) 1 ≡ length M.triangles
  read_triangles = count_at 1 (omega arith) (omega (arith, F.triangles))

  read_edges : word_at_of (image_bytes M) 2 ≡ length M.edges
  read_edges = count_at 2 (omega arith) (omega (arith, F.edges))

  read_boundary : word_at_of (image_bytes M) 3 ≡ length M.boundary
  read_boundary = count_at 3 (omega arith) (omega (arith, F.boundary))

  -- seven blocks are one input
  given_path : {p p' : List Float} {r r' c c' : List ℕ} {v v' : List Float} {e e' : List ℕ} {l l' : List Float} {o o' : List ℕ}
      → p ≡ p' → r ≡ r' → c ≡ c' → v ≡ v' → e ≡ e' → l ≡ l' → o ≡ o' → given p r c v e l o ≡ given p' r' c' v' e' l' o'
  given_path ep er ec ev ee el eo = rw (ep, er, ec, ev, ee, el, eo)

  -- the blocks of the image are the mesh's own
  blocks_read : blocks_in (image_bytes M) (length M.particles) (length M.triangles) (length M.edges) (length M.boundary) ≡ packed_of M
  unfolding blocks_in
  blocks_read =
      let G = packed_of M in
      let h = counts_first M in
      let p = bits_in_of G.points in
      let v = bits_in_of G.volumes in
      let l = bits_in_of G.lengths in
      let w = image_words_lem M in
      given_path
      (numbers_in (image_words_of M) h _ 4 _ refl G.points (w ∙ at_points h p G.roots G.corners v G.ends l G.outline) (points_long M)
      (stack_all Plain _ (λ c. all_map ParticleWritable Plain (point_of c) (λ a u. u.0 c) M.particles W.particles) point_columns))
      (words_in (image_words_of M) (h ++ p) _ _ _ (long_points M) G.roots (w ∙ at_roots h p G.roots G.corners v G.ends l G.outline) (roots_long M)
      (stack_all Word _ (λ c. all_map ParticleWritable Word (root_of c) (λ a u. u.1 c) M.particles W.particles) 2))
      (words_in (image_words_of M) (h ++ p ++ G.roots) _ _ _ (long_roots M) G.corners (w ∙ at_corners h p G.roots G.corners v G.ends l G.outline) (corners_long M)
      (stack_all Word _ (λ c. all_map TriangleWritable Word (corner_of c) (λ a u. u.1 c) M.triangles W.triangles) 3))
      (numbers_in (image_words_of M) (h ++ p ++ G.roots ++ G.corners) _ _ _ (long_corners M) G.volumes (w ∙ at_volumes h p G.roots G.corners v G.ends l G.outline) (volumes_long M)
      (stack_all Plain _ (λ c. all_map TriangleWritable Plain (volume_of c) (λ a u. u.0 c) M.triangles W.triangles) 2))
      (words_in (image_words_of M) (h ++ p ++ G.roots ++ G.corners ++ v) _ _ _ (long_volumes M) G.ends (w ∙ at_ends h p G.roots G.corners v G.ends l G.outline) (ends_long M)
      (stack_all Word _ (λ c. all_map EdgeWritable Word (end_of c) (λ a u. u.1 c) M.edges W.edges) 4))
      (numbers_in (image_words_of M) (h ++ p ++ G.roots ++ G.corners ++ v ++ G.ends) _ _ _ (long_ends M) G.lengths (w ∙ at_lengths h p G.roots G.corners v G.ends l G.outline) (lengths_long M)
      (stack_all Plain _ (λ c. all_map EdgeWritable Plain (length_of c) (λ a u. u.0 c) M.edges W.edges) 4))
      (words_in (image_words_of M) (h ++ p ++ G.roots ++ G.corners ++ v ++ G.ends ++ l) _ _ _ (long_lengths M) G.outline (w ∙ at_outline h p G.roots G.corners v G.ends l G.outline) (outline_long M)
      (stack_all Word _ (λ c. all_map SideWritable Word (side_of c) (λ a u. u c) M.boundary W.boundary) 2))

  pub image_given : image_of (image_bytes M) ≡ packed_of M
  unfolding image_of
  image_given = rw (read_particles, read_triangles, read_edges, read_boundary) blocks_read

  -- read back, the image is the mesh
  pub image_held : mesh_of (image_of (image_bytes M)) ≡ M
  image_held = ap mesh_of image_given ∙ packed_held M W.rowed

  bytes_long : length (image_bytes M) ≡ 4 * image_words (length M.particles) (length M.triangles) (length M.edges) (length M.boundary)
  bytes_long = bytes_length (image_words_of M) ∙ ap (λ (n : ℕ). 4 * n) (image_long M)

  -- and it is not refused with 1
  pub image_sized_lem : image_sized_of (image_bytes M) ≡ true
  unfolding image_sized_of image_fits_of counts_within_of
  image_sized_lem =
      let n = length (image_bytes M) in
      let a : 16 ≤ n = omega (arith, bytes_long) in
      rw (
        sizes_are (image_bytes M),
        read_particles,
        read_triangles,
        read_edges,
        read_boundary,
        le-leb 16 n a,
        eq-eqb n _ bytes_long,
        le-leb (length M.particles) 1024 F.particles,
        le-leb (length M.triangles) 1024 F.triangles,
        le-leb (length M.edges) 2048 F.edges,
        le-leb (length M.boundary) 2048 F.boundary,
      )
