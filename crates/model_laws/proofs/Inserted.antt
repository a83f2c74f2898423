-- The cut of straps keeps every index and root; and so every call gives a mesh that refusal 3 lets pass. Assumes nothing.
use mathlib.Core.Path.{◌≡◌, refl, sym, ◌∙◌, ap, subst}
use mathlib.Core.Bool.{Bool, true, false, not}
use mathlib.Core.List.{List, [], ◌∷◌, map}
use Prim.Native.Nat.{ℕ, suc, ◌+◌, ◌<◌, ◌≤◌}
use native.Mathlib.Omega.{arith}
use lib.Dec.{eqb}
use lib.ListN.{length, length-append}
use lib.Ieee.{Float}
use Rattle.blade.specs.declared.Hit.{Hit}
use Rattle.blade.specs.declared.Hit.TheVariants.{Miss, Hit as HitAt}
use Rattle.lists.specs.Lists.{pick, stands, fold, each, map_at_of, rising}
use Rattle.model.specs.Mesh.{Particle, Edge, Side, Mesh, blank_edge}
use Rattle.model.specs.Elements.{Kind, Triangles, Straps, Nothing, Element, edge_at, structural?, strap_element, straps_from, elements_of}
use Rattle.model.specs.Run.{Run, step_to}
use Rattle.model.specs.Split.{only_at}
use Rattle.model.specs.Cut.{Blade, roundly, meets, Crossing, crossing_at, crossings, Insertion, insertion_of, half_a, half_b, left_over, insertable, lightened, between, inserted_particles, half_of, inserted_edges, same, shortened, appended, inserted_sides, inserted_mesh, insert_step, Strapping, strapping, inserted_at, snapped_at, crossed, unbent, split_snapped_of, after_crossings, cut_segments_of, marked_by, cut_along, cut}
use Rattle.model.specs.Trace.{All, Different, Sound}
use Rattle.model_laws.proofs.Rows.{Pair, pair_to, different_wide}
use Rattle.model_laws.proofs.Indexed.{Indexed, Ends, Sides, wide, sound_wide, fold_indexed, facets_indexed, snapped_indexed}
use Rattle.model_laws.proofs.Steps.{run_of}
use Rattle.model_laws.proofs.Marks.{marked_mesh}
use Rattle.model_laws.proofs.Laws.{pick_both, all_over, all_append, all_map_at, all_in, all_map, all_each_of, all_sift_at, length_map_at}

-- ---- one insertion

module _ (M : Mesh) (X : Indexed M) (I : Insertion) (before : I.before ≡ length M.particles) (P : Pair I.before I.edge.a I.edge.b) where
  abbrev Rooted : Particle → Type 0
  Rooted p = p.root < I.before + 2

  light_rooted : (s m : Float) (p : Particle) → Rooted p → Rooted (lightened s m p)
  unfolding lightened
  light_rooted s m p u = u

  at_rooted : (j : ℕ) (s m : Float) (ps : List Particle) → All Rooted ps → All Rooted (map_at_of (only_at j (lightened s m)) ps)
  at_rooted j s m ps h = all_map_at Rooted Rooted (only_at j (lightened s m)) (λ i p u. pick_both Rooted (eqb i j) (lightened s m p) p (light_rooted s m p u) u) ps h

  ends_light : List Particle
  ends_light = map_at_of (only_at I.edge.b (lightened I.share_b (half_b I))) (map_at_of (only_at I.edge.a (lightened I.share_a (half_a I))) M.particles)

  roots : All Rooted (inserted_particles I M)
  unfolding inserted_particles between ends_light
  roots =
      let old = all_over (λ (p : Particle). p.root < length M.particles) Rooted (λ p u. omega (arith, before)) M.particles X.roots in
      all_append Rooted ends_light _
      (at_rooted I.edge.b I.share_b (half_b I) (map_at_of (only_at I.edge.a (lightened I.share_a (half_a I))) M.particles) (at_rooted I.edge.a I.share_a (half_a I) M.particles old))
      (omega arith, (omega arith, tt))

  len : length (inserted_particles I M) ≡ I.before + 2
  unfolding inserted_particles ends_light
  len =
      let e : length ends_light ≡ length M.particles = length_map_at _ (map_at_of (only_at I.edge.a (lightened I.share_a (half_a I))) M.particles) ∙ length_map_at _ M.particles in
      length-append ends_light _ ∙ ap (λ n. n + 2) (e ∙ sym before)

  half_first : (f : Float) → Ends (I.before + 2) (half_of I.edge I.edge.a I.before f)
  unfolding half_of
  half_first f = let h = P.first in record { first = omega arith; second = omega arith; differ = λ d. omega arith }

  half_second : (f : Float) → Ends (I.before + 2) (half_of I.edge (I.before + 1) I.edge.b f)
  unfolding half_of
  half_second f = let h = P.second in record { first = omega arith; second = omega arith; differ = λ d. omega arith }

  ends : All (Ends (I.before + 2)) (inserted_edges I M.edges)
  unfolding inserted_edges
  ends =
      let old = all_over (Ends (length M.particles)) (Ends (I.before + 2)) (λ e Q. wide I.before 2 e.a e.b (subst (λ (n : ℕ). Ends n e) (sym before) Q)) M.edges X.edges in
      all_append (Ends (I.before + 2)) (map_at_of (only_at I.number (λ e. half_of I.edge I.edge.a I.before I.t)) M.edges) _
      (all_map_at (Ends (I.before + 2)) (Ends (I.before + 2)) (only_at I.number (λ e. half_of I.edge I.edge.a I.before I.t))
      (λ i e Q. pick_both (Ends (I.before + 2)) (eqb i I.number) (half_of I.edge I.edge.a I.before I.t) e (half_first I.t) Q) M.edges old)
      (half_second (left_over I), tt)

  two : (a b : ℕ) → Pair (I.before + 2) a b → Different 2 (I.before + 2) (a ∷ b ∷ [])
  two a b Q = record { many = refl; apart = pair_to (I.before + 2) a b Q }

  first_old : Sides (I.before + 2) (record { corners = I.edge.a ∷ I.before ∷ [] })
  first_old = let h = P.first in two _ _ (record { first = omega arith; second = omega arith; differ = λ d. omega arith })

  second_old : Sides (I.before + 2) (record { corners = I.edge.b ∷ (I.before + 1) ∷ [] })
  second_old = let h = P.second in two _ _ (record { first = omega arith; second = omega arith; differ = λ d. omega arith })

  new_second : Sides (I.before + 2) (record { corners = (I.before + 1) ∷ I.edge.b ∷ [] })
  new_second = let h = P.second in two _ _ (record { first = omega arith; second = omega arith; differ = λ d. omega arith })

  new_first : Sides (I.before + 2) (record { corners = I.before ∷ I.edge.a ∷ [] })
  new_first = let h = P.first in two _ _ (record { first = omega arith; second = omega arith; differ = λ d. omega arith })

  abbrev Good : Side → Type 0
  Good = Sides (I.before + 2)

  short_good : (s : Side) → Good s → Good (shortened I.edge.a I.edge.b I.before (I.before + 1) s)
  unfolding shortened
  short_good s Q =
      pick_both Good (same s I.edge.a I.edge.b) (record { corners = I.edge.a ∷ I.before ∷ [] }) (pick (same s I.edge.b I.edge.a) (record { corners = I.edge.b ∷ (I.before + 1) ∷ [] }) s) first_old
      (pick_both Good (same s I.edge.b I.edge.a) (record { corners = I.edge.b ∷ (I.before + 1) ∷ [] }) s second_old Q)

  app_good : (s : Side) → All Good (appended I.edge.a I.edge.b I.before (I.before + 1) s)
  unfolding appended
  app_good s =
      pick_both (All Good) (same s I.edge.a I.edge.b) (record { corners = (I.before + 1) ∷ I.edge.b ∷ [] } ∷ []) (pick (same s I.edge.b I.edge.a) (record { corners = I.before ∷ I.edge.a ∷ [] } ∷ []) []) (new_second, tt)
      (pick_both (All Good) (same s I.edge.b I.edge.a) (record { corners = I.before ∷ I.edge.a ∷ [] } ∷ []) [] (new_first, tt) tt)

  sides : All Good (inserted_sides I M.boundary)
  unfolding inserted_sides
  sides =
      let old = all_over (Sides (length M.particles)) Good (λ s Q. different_wide 2 I.before 2 s.corners (subst (λ (n : ℕ). Sides n s) (sym before) Q)) M.boundary X.boundary in
      all_append Good (map (shortened I.edge.a I.edge.b I.before (I.before + 1)) M.boundary) (each (appended I.edge.a I.edge.b I.before (I.before + 1)) M.boundary)
      (all_map Good Good (shortened I.edge.a I.edge.b I.before (I.before + 1)) short_good M.boundary old)
      (all_each_of Good Good (appended I.edge.a I.edge.b I.before (I.before + 1)) (λ s Q. app_good s) M.boundary old)

  pub inserted_indexed : Indexed (inserted_mesh I M)
  unfolding inserted_mesh
  inserted_indexed =
      record {
        roots = subst (λ (n : ℕ). All (λ (p : Particle). p.root < n) (inserted_particles I M)) (sym len) roots;
        triangles =
            subst (λ (n : ℕ). All (Sound n) M.triangles) (sym len)
            (all_over (Sound (length M.particles)) (Sound (I.before + 2)) (λ t S. sound_wide I.before 2 t (subst (λ (n : ℕ). Sound n t) (sym before) S)) M.triangles X.triangles);
        edges = subst (λ (n : ℕ). All (Ends n) (inserted_edges I M.edges)) (sym len) ends;
        boundary = subst (λ (n : ℕ). All (Sides n) (inserted_sides I M.boundary)) (sym len) sides;
      }

  -- the edges get one more
  pub more_edges : length (inserted_edges I M.edges) ≡ length M.edges + 1
  unfolding inserted_edges
  more_edges = length-append (map_at_of _ M.edges) _ ∙ ap (λ n. n + 1) (length_map_at _ M.edges)

-- ---- a strap cut at work

-- the mesh is as it must be, and has n edges at least
abbrev Ready : ℕ → Strapping → Type 0
Ready n S = Indexed (run_of S).mesh × (n ≤ length (run_of S).mesh.edges)

inserted_ready : (f : Float) (R : Run) (marked snapped : List ℕ) (c : Crossing) (n : ℕ) → c.number < n → Indexed R.mesh → n ≤ length R.mesh.edges → Ready n (inserted_at f R marked snapped c)
unfolding inserted_at insert_step step_to run_of insertion_of inserted_mesh
inserted_ready f R marked snapped c n u X w =
    let M = R.mesh in
    let I = insertion_of f M c in
    let P = all_in (Ends (length M.particles)) M.edges c.number blank_edge (omega arith) X.edges in
    let e = more_edges M X I refl P in
    (inserted_indexed M X I refl P, omega (arith, e))

crossed_ready : (f : Float) (S : Strapping) (c : Crossing) (n : ℕ) → c.number < n → Ready n S → Ready n (crossed f S c)
unfolding crossed snapped_at run_of
crossed_ready f (strapping R marked snapped) c n u Y = by (insertable f R.mesh c)
  where
    by : (b : Bool) → Ready n (pick b (inserted_at f R marked snapped c) (snapped_at R marked snapped c))
    by true = inserted_ready f R marked snapped c n u Y.0 Y.1
    by false = Y

crossings_ready : (f : Float) (n : ℕ) (S : Strapping) (l : List Crossing) → All (λ (c : Crossing). c.number < n) l → Ready n S → Ready n (fold (crossed f) S l)
unfolding fold
crossings_ready f n S [] h Y = Y
crossings_ready f n S (c ∷ l) h Y = crossings_ready f n (crossed f S c) l h.1 (crossed_ready f S c n h.0 Y)

pub straps_inside : (i : ℕ) (es : List Edge) → All (λ (e : Element). e.number < i + length es) (straps_from i es)
unfolding straps_from
straps_inside i [] = tt
straps_inside i (e ∷ es) =
    by (structural? e) (all_over (λ (x : Element). x.number < suc i + length es) (λ (x : Element). x.number < i + suc (length es)) (λ x u. omega arith) (straps_from (suc i) es) (straps_inside (suc i) es))
  where
    by : (b : Bool) → All (λ (x : Element). x.number < i + suc (length es)) (straps_from (suc i) es)
        → All (λ (x : Element). x.number < i + suc (length es)) (pick b (strap_element i e ∷ straps_from (suc i) es) (straps_from (suc i) es))
    by true h = (omega arith, h)
    by false h = h

pub hit_inside : (n i : ℕ) → i < n → (h : Hit) → All (λ (c : Crossing). c.number < n) (crossing_at i h)
hit_inside n i u Miss = tt
hit_inside n i u (HitAt t p) = (u, tt)

pub crossings_inside : (B : Blade) (M : Mesh) → All (λ (c : Crossing). c.number < length M.edges) (crossings B M)
unfolding crossings elements_of
crossings_inside B M =
    all_each_of (λ (e : Element). e.number < 0 + length M.edges) (λ (c : Crossing). c.number < length M.edges) _ (λ e u. hit_inside (length M.edges) e.number (omega arith) (meets B M (edge_at M e.number).a (edge_at M e.number).b)) (straps_from 0 M.edges)
    (straps_inside 0 M.edges)

pub unbent_indexed : (is : List ℕ) (R : Run) → Indexed R.mesh → Indexed (unbent is R).mesh
unfolding unbent step_to
unbent_indexed [] R X = X
unbent_indexed (i ∷ is) R X =
    record { roots = X.roots; triangles = X.triangles; edges = all_sift_at (Ends (length R.mesh.particles)) (λ j e. not (stands j (i ∷ is))) R.mesh.edges X.edges; boundary = X.boundary }

after_indexed : (B : Blade) (S : Strapping) → Indexed (run_of S).mesh → Indexed (after_crossings B S).mesh
unfolding after_crossings run_of
after_indexed B (strapping R marked snapped) X = fold_indexed (split_snapped_of B) (λ Q v Y. snapped_indexed B Q v Y) (unbent marked R) (rising _ snapped) (unbent_indexed marked R X)

-- a cut of any kind
along_indexed : (k : Kind) (B : Blade) (f : Float) (R : Run) → Indexed R.mesh → Indexed (cut_along k B f R).mesh
unfolding cut_along cut_segments_of run_of
along_indexed Triangles B f R X = facets_indexed B R X
along_indexed Straps B f R X =
    let n = length R.mesh.edges in
    after_indexed (roundly B) (fold (crossed f) (strapping R [] []) (crossings (roundly B) R.mesh)) (crossings_ready f n (strapping R [] []) (crossings (roundly B) R.mesh) (crossings_inside (roundly B) R.mesh) (X, omega arith)).0
along_indexed Nothing B f R X = X

-- with its crossings marked
pub cut_indexed : (k : Kind) (B : Blade) (f : Float) (R : Run) → Indexed R.mesh → Indexed (cut k B f R).mesh
unfolding cut
cut_indexed k B f R X = along_indexed k B f (marked_by k B R) (subst Indexed (sym (marked_mesh k B R)) X)
