-- What an edition refuses, as its tests tell it: places and ends that are not whole, then straps. Assumes nothing.
use Prim.Native.Nat.{ℕ, zero, suc, ◌/◌, ◌<◌, ◌≤◌}
use native.Mathlib.Omega.{arith}
use mathlib.Core.Path.{◌≡◌, refl, sym, ◌∙◌, ap, subst}
use mathlib.Core.Bool.{Bool, true, false, not, ◌&&◌}
use mathlib.Core.List.{List}
use lib.ListN.{length}
use lib.Ieee.{Float}
use borrow.Author.Tests.{ne_eqb, eq-eqb, not-true, not-false}
use Rattle.lists.specs.Lists.{pick, all, tab, up_to}
use Rattle.lists.proofs.Sifts.{all_tab, tab_all}
use Rattle.blade.specs.declared.Point.{Point}
use Rattle.exact.specs.Exact.{whole_point_of}
use Rattle.model.specs.Mesh.{Particle, Mesh}
use Rattle.model.specs.Elements.{straps?, at, kind_of}
use Rattle.model.specs.Run.{Rooms}
use Rattle.model.specs.Calls.{whole_mesh, exact_refusal, first_of, refusal}
use Rattle.model_laws.proofs.Laws.{false_true}
use Rattle.mesh.specs.At.{mesh_at, particles_at, particle_row}
use Rattle.mesh.specs.declared.Counts.{Counts}
use Rattle.mesh.specs.Widths.{point_columns}
use Rattle.elements.specs.declared.Kind.{Kind as KindCase}
use Rattle.elements.specs.Table.{kind_is, KindFound}
use Rattle.split_plan.specs.Opened.{place_in}
use Rattle.mesh_calls.specs.Jobs.{job_edition, job_refusal, whole_places_of}
use Rattle.mesh_calls.specs.declared.Job.{Job}
use Rattle.mesh_calls.specs.declared.Job.TheVariants.{Cut}

-- ---- the places of a block

-- one that is whole
pub whole_goes : (points : List Float) (i : ℕ) (p : Point) (t : Bool) → p ≡ place_in points i → t ≡ whole_point_of p → not t ≡ false → whole_point_of (place_in points i) ≡ true
whole_goes points i p t at_i e f = ap whole_point_of (sym at_i) ∙ sym e ∙ not-false t f

module _ (points : List Float) (n : ℕ) where
  -- one that is not
  pub whole_stops : (i : ℕ) (p : Point) (t : Bool) → i < n → p ≡ place_in points i → t ≡ whole_point_of p → not t ≡ true → false ≡ whole_places_of n points
  unfolding whole_places_of up_to
  whole_stops i p t h at_i e f = by (all (λ k. whole_point_of (place_in points k)) (tab n (λ k. k))) refl
    where
      by : (b : Bool) → all (λ k. whole_point_of (place_in points k)) (tab n (λ k. k)) ≡ b → false ≡ b
      by false q = refl
      by true q = absurd (false_true (sym (not-true t f) ∙ e ∙ ap whole_point_of at_i ∙ all_tab (λ k. whole_point_of (place_in points k)) n (λ k. k) q i h))

  -- none that is not
  pub whole_ends : (i : ℕ) → n ≤ i → ((k : ℕ) → k < i → whole_point_of (place_in points k) ≡ true) → true ≡ whole_places_of n points
  unfolding whole_places_of up_to
  whole_ends i h every = sym (tab_all (λ k. whole_point_of (place_in points k)) n (λ k. k) (λ k l. every k (omega (arith, h, l))))

-- tests that agree row by row agree on two tables
tables_agree : {A B : Type 0} (p : A → Bool) (q : B → Bool) (n : ℕ) (f : ℕ → A) (g : ℕ → B) → ((k : ℕ) → p (f k) ≡ q (g k)) → all p (tab n f) ≡ all q (tab n g)
unfolding all tab
tables_agree p q zero f g e = refl
tables_agree p q (suc n) f g e = rw (e 0, tables_agree p q n (λ k. f (suc k)) (λ k. g (suc k)) (λ k. e (suc k)))

-- the first rows of seven blocks
module _ (k : Counts) (points : List Float) (roots corners : List ℕ) (volumes : List Float) (ends : List ℕ) (lengths : List Float) (outline : List ℕ) where
  -- the places of the block are those of the mesh
  pub places_whole : whole_places_of k.particles points ≡ whole_mesh (mesh_at k points roots corners volumes ends lengths outline)
  unfolding whole_places_of up_to whole_mesh mesh_at particles_at
  places_whole =
      tables_agree (λ i. whole_point_of (place_in points i)) (λ (p : Particle). whole_point_of (at p)) k.particles (λ j. j) (particle_row (length points / point_columns) (length roots / 2) points roots) (λ j. refl)

  -- the kind that was found is that of the mesh
  pub kind_found : (kind : KindCase) → KindFound k.triangles k.edges ends kind → kind_is kind ≡ kind_of (mesh_at k points roots corners volumes ends lengths outline)
  unfolding kind_of mesh_at
  kind_found kind F = F.is corners volumes lengths

-- ---- what refuses, by the tests in their order

-- nothing but a cut is refused by its edition, and it only in edition 2
pub edition_other : (job : Job) (n : ℕ) (b0 b1 : Point) (f : Float) (M : Mesh) → job ≡ Cut n b0 b1 f → (n ≡ 2 → ⊥) → 0 ≡ job_edition job M
edition_other job n b0 b1 f M arm h = sym (ap (λ (x : Job). job_edition x M) arm ∙ ap (λ (t : Bool). pick t (exact_refusal M (record { from = b0; to = b1 })) 0) (ne_eqb n 2 h))

-- 11 for any that is not whole, then 12 for straps
eleven_places : (a b s : Bool) → ◌≡◌ {A = ℕ} 11 (pick (not (false && (a && b))) 11 (pick s 12 0))
eleven_places a b s = refl

eleven_from : (m b s : Bool) → ◌≡◌ {A = ℕ} 11 (pick (not (m && (false && b))) 11 (pick s 12 0))
eleven_from true b s = refl
eleven_from false b s = refl

eleven_to : (m a s : Bool) → ◌≡◌ {A = ℕ} 11 (pick (not (m && (a && false))) 11 (pick s 12 0))
eleven_to true true s = refl
eleven_to true false s = refl
eleven_to false a s = refl

module _ (M : Mesh) (job : Job) (n : ℕ) (b0 b1 : Point) (f : Float) (arm : job ≡ Cut n b0 b1 f) (second : n ≡ 2) (places : Bool) (places_are : places ≡ whole_mesh M) where
  -- the three tests and the kind decide
  edition_is : (a b s : Bool) → a ≡ whole_point_of b0 → b ≡ whole_point_of b1 → s ≡ straps? (kind_of M) → pick (not (places && (a && b))) 11 (pick s 12 0) ≡ job_edition job M
  edition_is a b s ea eb es =
      rw (places_are, ea, eb, es) (ap (λ (t : Bool). pick t (exact_refusal M (record { from = b0; to = b1 })) 0) (sym (eq-eqb n 2 second)))
      ∙ ap (λ (x : Job). job_edition x M) (sym arm)

  pub places_not : not places ≡ true → 11 ≡ job_edition job M
  places_not h =
      let p : places ≡ false = not-true places h in
      rw p (eleven_places (whole_point_of b0) (whole_point_of b1) (straps? (kind_of M))) ∙ edition_is (whole_point_of b0) (whole_point_of b1) (straps? (kind_of M)) refl refl refl

  pub from_not : (a : Bool) → a ≡ whole_point_of b0 → not a ≡ true → 11 ≡ job_edition job M
  from_not a e h = eleven_from places (whole_point_of b1) (straps? (kind_of M)) ∙ edition_is false (whole_point_of b1) (straps? (kind_of M)) (sym (not-true a h) ∙ e) refl refl

  pub to_not : (b : Bool) → b ≡ whole_point_of b1 → not b ≡ true → 11 ≡ job_edition job M
  to_not b e h = eleven_to places (whole_point_of b0) (straps? (kind_of M)) ∙ edition_is (whole_point_of b0) false (straps? (kind_of M)) refl (sym (not-true b h) ∙ e) refl

  -- all whole: the kind decides
  pub kind_tells : (a b : Bool) → not places ≡ false → a ≡ whole_point_of b0 → not a ≡ false → b ≡ whole_point_of b1 → not b ≡ false → (kind k : KindCase) → kind_is kind ≡ kind_of M → kind ≡ k
      → pick (straps? (kind_is k)) 12 0 ≡ job_edition job M
  kind_tells a b hp ea ha eb hb kind k F e =
      rest places (not-false places hp) ∙ edition_is true true (straps? (kind_is k)) (sym (not-false a ha) ∙ ea) (sym (not-false b hb) ∙ eb) (ap straps? (ap kind_is (sym e) ∙ F))
    where
      rest : (p : Bool) → p ≡ true → ◌≡◌ {A = ℕ} (pick (straps? (kind_is k)) 12 0) (pick (not (p && (true && true))) 11 (pick (straps? (kind_is k)) 12 0))
      rest true h = refl
      rest false h = absurd (false_true h)

-- ---- both refusals

-- what is there stays
pub refusal_stays : (r s m : ℕ) → r ≡ s → (r ≡ 0 → ⊥) → r ≡ first_of s m
refusal_stays r zero m e h = absurd (h e)
refusal_stays r (suc s) m e h = e

-- else the edition's is told
pub refusal_next : (r s m t : ℕ) → r ≡ s → r ≡ 0 → t ≡ m → t ≡ first_of s m
refusal_next r zero m t e z q = q
refusal_next r (suc s) m t e z q = absurd (omega (arith, e, z))

-- ---- the sizes

module _ (j : Job) (ls : List ℕ) (M : Mesh) (L : Rooms) (t u : Bool) (e : t ≡ u) where
  -- those that do not fit refuse first
  pub job_unsized : not t ≡ true → ◌≡◌ {A = ℕ} 1 (job_refusal j ls u M L)
  unfolding refusal
  job_unsized h = subst (λ (z : Bool). ◌≡◌ {A = ℕ} 1 (job_refusal j ls z M L)) (sym (not-true t h) ∙ e) refl

  -- those that fit leave the rest
  pub job_sized : (r : ℕ) → not t ≡ false → r ≡ job_refusal j ls true M L → r ≡ job_refusal j ls u M L
  job_sized r h q = subst (λ (z : Bool). r ≡ job_refusal j ls z M L) (sym (not-false t h) ∙ e) q
