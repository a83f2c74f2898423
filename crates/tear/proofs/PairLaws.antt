-- Laws of the pair that stands for a torn edge: it is that of any run in the blocks, and its particles are there. Assumes nothing.
use Prim.Native.Nat.{ℕ, ◌<◌, ◌≤◌}
use native.Mathlib.Omega.{arith}
use mathlib.Core.Path.{◌≡◌, refl, sym, ◌∙◌, ap, subst}
use mathlib.Core.Bool.{Bool, true, false, ◌&&◌, ◌||◌}
use mathlib.Core.List.{List, [], ◌∷◌}
use mathlib.Core.Option.{Option, none, some}
use borrow.Author.Tests.{eqb-true}
use lib.ListN.{length, get_or}
use lib.Dec.{eqb}
use lib.Ieee.{Float}
use Rattle.lists.specs.Lists.{pick, stands, any, find}
use Rattle.lists.proofs.Sifts.{any_get, stands_get, and_true}
use Rattle.model.specs.Mesh.{Edge, Mesh, blank_edge}
use Rattle.model.specs.Elements.{Kind, Element, elements_of, held, corners_per_of}
use Rattle.model.specs.Run.{Run, splits_of}
use Rattle.model.specs.Crack.{family, cross_pairs, joins, first_of, current_of, current_pair}
use Rattle.model.specs.Trace.{All}
use Rattle.model_laws.proofs.Laws.{all_in, Found}
use Rattle.model_laws.proofs.Indexed.{Indexed}
use Rattle.model_laws.proofs.Rows.{Pair as Two}
use Rattle.model_laws.proofs.Accepted.{accepted_indexed}
use Rattle.mesh.specs.At.{triangles_at, edges_at, mesh_at}
use Rattle.mesh.specs.Log.{World, world_of, world_at}
use Rattle.mesh.specs.declared.Counts.{Counts}
use Rattle.elements.specs.Table.{Tabled, elements_in}
use Rattle.elements.proofs.Tables.{no_element}
use Rattle.work.proofs.Placed.{particles_count}
use Rattle.split.proofs.Below.{Few, Cornering, element_corners}
use Rattle.split.proofs.Fitted.{all_few}
use Rattle.work.specs.Working.{Logged}
use Rattle.tear.specs.Families.{MeshIn, meet, pair_is, CurrentRoom, FamiliesMet}
use Rattle.tear.specs.Pairs.{PairReady, PairBelow, PairMetNow, PairNow}
use Rattle.std.specs.Prelude.{Option as Opt, None, Some}
use Rattle.tear.proofs.TriedLaws.{elements_here}

-- ---- its particles are there

-- what is found passes
find_passes : {A : Type 0} (p : A → Bool) (l : List A) → Found (λ a. p a ≡ true) (find p l)
unfolding find
find_passes p [] = tt
find_passes {A} p (a ∷ l) = by (p a) (find p l) refl (find_passes p l)
  where
    by : (b : Bool) (o : Option A) → p a ≡ b → Found (λ (x : A). p x ≡ true) o → Found (λ (x : A). p x ≡ true) (pick b (some a) o)
    by true o e h = e
    by false o e h = h

found_over : {A : Type 0} (P Q : A → Type 0) → ((a : A) → P a → Q a) → (o : Option A) → Found P o → Found Q o
found_over P Q f none h = tt
found_over P Q f (some a) h = f a h

found_first : {A : Type 0} (P : A → Type 0) (o p : Option A) → Found P o → Found P p → Found P (first_of o p)
found_first P none p h g = g
found_first P (some a) p h g = h

-- both particles are below n
abbrev Both : ℕ → ℕ × ℕ → Type 0
Both n xy = (xy.0 < n) × (xy.1 < n)

-- a corner is below what all corners are below
corner_below : (n x : ℕ) (l : List ℕ) → All (λ z. z < n) l → stands x l ≡ true → x < n
corner_below n x l a e =
    let s = stands_get x l e in
    subst (λ (z : ℕ). z < n) s.1.1 (all_in (λ z. z < n) l s.0 0 s.1.0 a)

-- one element holds both
held_below : (K : Kind) (M : Mesh) (xy : ℕ × ℕ) → Indexed M → held K M xy.0 xy.1 ≡ true → Both (length M.particles) xy
unfolding held
held_below K M xy X e =
    let n = length M.particles in
    let s = any_get (λ (z : Element). stands xy.0 z.corners && stands xy.1 z.corners) (elements_of K M) no_element e in
    let a = all_in (Cornering n) (elements_of K M) s.0 no_element s.1.0 (element_corners K M X) in
    let cs : List ℕ = (get_or (elements_of K M) s.0 no_element).corners in
    let q = and_true (stands xy.0 cs) (stands xy.1 cs) s.1.1 in
    (corner_below n xy.0 cs a q.0, corner_below n xy.1 cs a q.1)

-- an edge joins them
ends_below : (n x y a b : ℕ) (s t : Bool) → Two n a b → (s ≡ true → (a ≡ x) × (b ≡ y)) → (t ≡ true → (a ≡ y) × (b ≡ x)) → (s || t) ≡ true → (x < n) × (y < n)
ends_below n x y a b true t P f g e = let q = f refl in let u = P.first in let v = P.second in (omega (arith, q.0), omega (arith, q.1))
ends_below n x y a b false t P f g e = let q = g e in let u = P.first in let v = P.second in (omega (arith, q.1), omega (arith, q.0))

same_two : (a x b y : ℕ) → (eqb a x && eqb b y) ≡ true → (a ≡ x) × (b ≡ y)
same_two a x b y e = let q = and_true (eqb a x) (eqb b y) e in (eqb-true a x q.0, eqb-true b y q.1)

joined_below : (M : Mesh) (xy : ℕ × ℕ) → Indexed M → any (joins xy) M.edges ≡ true → Both (length M.particles) xy
joined_below M xy X e =
    let n = length M.particles in
    let s = any_get (joins xy) M.edges blank_edge e in
    let z : Edge = get_or M.edges s.0 blank_edge in
    let P : Two n z.a z.b = all_in (λ (c : Edge). Two n c.a c.b) M.edges s.0 blank_edge s.1.0 X.edges in
    ends_below n xy.0 xy.1 z.a z.b (eqb z.a xy.0 && eqb z.b xy.1) (eqb z.a xy.1 && eqb z.b xy.0) P
    (same_two z.a xy.0 z.b xy.1) (same_two z.a xy.1 z.b xy.0) s.1.1

current_below : (K : Kind) (R : Run) (ab : ℕ × ℕ) → Indexed R.mesh → Found (Both (length R.mesh.particles)) (current_pair K R ab)
unfolding current_pair current_of
current_below K R ab X =
    let n = length R.mesh.particles in
    let ps : List (ℕ × ℕ) = cross_pairs (family (splits_of R.log) ab.0) (family (splits_of R.log) ab.1) in
    let p : ℕ × ℕ → Bool = λ (xy : ℕ × ℕ). held K R.mesh xy.0 xy.1 in
    let q : ℕ × ℕ → Bool = λ (xy : ℕ × ℕ). any (joins xy) R.mesh.edges in
    found_first (Both n) (find p ps) (find q ps)
    (found_over (λ (xy : ℕ × ℕ). p xy ≡ true) (Both n) (λ xy h. held_below K R.mesh xy X h) (find p ps) (find_passes p ps))
    (found_over (λ (xy : ℕ × ℕ). q xy ≡ true) (Both n) (λ xy h. joined_below R.mesh xy X h) (find q ps) (find_passes q ps))

pair_below : (n : ℕ) (r : Opt (ℕ × ℕ)) → Found (Both n) (pair_is r) → PairBelow n r
pair_below n None h = tt
pair_below n (Some (x, y)) h = h

-- ---- over the blocks

module _ (K : Kind) (k : Counts) (points : List Float) (roots corners : List ℕ) (volumes : List Float) (ends : List ℕ) (lengths : List Float) (outline log : List ℕ)
    (P : PairReady k (length corners) (length volumes) (length ends) (length lengths) (length log) (mesh_at k points roots corners volumes ends lengths outline)) (n per : ℕ) (numbers verts : List ℕ) (measures : List Float)
    (T : Tabled (corners_per_of K) (elements_in K (triangles_at k.triangles corners volumes) (edges_at k.edges ends lengths)) n numbers verts measures) (e : per ≡ corners_per_of K) where
  abbrev Here : Mesh
  Here = mesh_at k points roots corners volumes ends lengths outline

  pub pair_room : 4096 ≤ length verts → CurrentRoom k.log (length log) per n (length verts) k.edges (length ends)
  pair_room h =
      let F : Few n per = subst (Few n) (sym e) (all_few K k.triangles k.edges n corners volumes ends lengths numbers verts measures P.table.few.0 P.table.few.1 T) in
      let narrow = F.narrow in
      record { log = P.log; few = P.few_log; meet = record { table = omega arith; edges = P.table.ends } }

  -- the table and the edges are those of the mesh
  mesh_in : MeshIn K Here per n verts k.edges ends lengths
  unfolding mesh_at
  mesh_in = record { cornered = elements_here K k points roots corners volumes ends lengths outline n per numbers verts measures T e; edges_are = refl }

  pub met_told : (i : Bool) (a b : ℕ) (r : Opt (ℕ × ℕ)) → FamiliesMet i a b k.log log per n verts k.edges ends r → PairMetNow i K a b (world_at k points roots corners volumes ends lengths outline log) r
  unfolding world_at
  met_told i a b r C =
      record {
        is = λ R w. C.is K R lengths (ap (λ (X : World). X.log) w) (subst (λ (M : Mesh). MeshIn K M per n verts k.edges ends lengths) (ap (λ (X : World). X.mesh) w) mesh_in);
      }

-- the pair that stands for an edge: one that an element holds, or else one that an edge joins
module _ (K : Kind) (k : Counts) (points : List Float) (roots corners : List ℕ) (volumes : List Float) (ends : List ℕ) (lengths : List Float) (outline log : List ℕ)
    (P : PairReady k (length corners) (length volumes) (length ends) (length lengths) (length log) (mesh_at k points roots corners volumes ends lengths outline)) (G : Logged k.log log) (a b : ℕ) where
  abbrev Now : World
  Now = world_at k points roots corners volumes ends lengths outline log

  pair_told : (r : Opt (ℕ × ℕ)) → ((R : Run) → Now ≡ world_of R.mesh R.log → pair_is r ≡ current_pair K R (a, b)) → PairNow K a b k.particles Now r
  unfolding world_at
  pair_told r told =
      let M = mesh_at k points roots corners volumes ends lengths outline in
      let R : Run = record { mesh = M; log = G.entries; needs = [] } in
      let w : Now ≡ world_of R.mesh R.log = λ i. record { mesh = M; log = G.words i } in
      record {
        is = told;
        below =
            pair_below k.particles r
            (subst (λ (m : ℕ). Found (Both m) (pair_is r)) (particles_count k points roots corners volumes ends lengths outline)
            (subst (Found (Both (length M.particles))) (sym (told R w)) (current_below K R (a, b) (accepted_indexed M P.indices))));
      }

  -- the pairs of the families, as the definitions have them
  pairs_of : Run → List (ℕ × ℕ)
  pairs_of R = cross_pairs (family (splits_of R.log) a) (family (splits_of R.log) b)

  first_of_lem : (R : Run) → first_of (find (meet true K R.mesh) (pairs_of R)) (find (meet false K R.mesh) (pairs_of R)) ≡ current_pair K R (a, b)
  unfolding current_pair current_of pairs_of
  first_of_lem R = refl

  pub told_held : (r : Opt (ℕ × ℕ)) (x y : ℕ) → r ≡ Some (x, y) → PairMetNow true K a b Now r → PairNow K a b k.particles Now (Some (x, y))
  unfolding pairs_of
  told_held r x y s C =
      pair_told (Some (x, y))
      (λ R w.
      let h : find (meet true K R.mesh) (pairs_of R) ≡ some (x, y) = sym (C.is R w) ∙ ap pair_is s in
      sym (ap (λ (o : Option (ℕ × ℕ)). first_of o (find (meet false K R.mesh) (pairs_of R))) h) ∙ first_of_lem R)

  pub told_joined : (r t : Opt (ℕ × ℕ)) → r ≡ None → PairMetNow true K a b Now r → PairMetNow false K a b Now t → PairNow K a b k.particles Now t
  unfolding pairs_of
  told_joined r t s C D =
      pair_told t
      (λ R w.
      let h : find (meet true K R.mesh) (pairs_of R) ≡ none = sym (C.is R w) ∙ ap pair_is s in
      D.is R w ∙ sym (ap (λ (o : Option (ℕ × ℕ)). first_of o (find (meet false K R.mesh) (pairs_of R))) h) ∙ first_of_lem R)
