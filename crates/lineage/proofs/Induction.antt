-- What every split, every mark of crossings and every removal of straddlers keeps, a cut, a crack, a split and a removal keep: the one induction over runs on triangles. Assumes nothing.
use mathlib.Core.Path.{◌≡◌, refl}
use mathlib.Core.Bool.{Bool, true, false}
use mathlib.Core.List.{List, [], ◌∷◌, map}
use mathlib.Core.Option.{Option, none as nothing, some}
use Prim.Native.Nat.{ℕ, ◌<◌}
use native.Mathlib.Omega.{arith}
use lib.ListN.{length, length-map}
use lib.Ieee.{Float}
use Rattle.lists.specs.Lists.{pick, fold, each, empty}
use Rattle.model.specs.Mesh.{Mesh}
use Rattle.model.specs.Elements.{Triangles, Element, fan_of}
use Rattle.model.specs.Run.{Entry, Run, splits_of}
use Rattle.model.specs.Split.{Opening, opening_of, splits?, split_made, split_step, split_by_sides_of}
use Rattle.model.specs.Pieces.{remove_straddlers_of}
use Rattle.model.specs.Cut.{Blade, blade_sides, split_by_blade, split_free, pinched, split_pinched_of, candidates, cut_facets_of, marked_by, cut_along, cut}
use Rattle.model.specs.Crack.{Way, beyond, far_side, two_sided_of, mean_load, torn, crack_by, crack_pair, crack_edge, current_pair, ways_of, way_at, loads_of, torn_ends, crack}
use Rattle.model.specs.Trace.{All}
use Rattle.model_laws.proofs.Traced.{order_fits}
use Rattle.model_laws.proofs.Laws.{pick_one, Found, find_fits}
use Rattle.model_laws.proofs.Rules.{two_all, pick_two, blade_two, blade_every}

-- a split at v of M: a side, 0 or 1, for each element of its fan
pub record Sided (M : Mesh) (O : Opening) : Type 0 where
  pub v : ℕ
  pub sides : List ℕ
  pub is : O ≡ opening_of Triangles M v sides
  pub every : length sides ≡ length (fan_of Triangles M v)
  pub two : All (λ s. s < 2) sides

-- what is done to the mesh behind a split: nothing, or what a crack does
pub data Behind (O : Opening) : (Mesh → Mesh) → Type 0 where
  nothing_more : Behind O (λ M. M)
  tearing : (xy : ℕ × ℕ) → Behind O (torn O xy)

-- P is kept by each split that is made, by the marks of crossings, and by the removal of straddlers
pub record Kept (P : Run → Type 0) : Type 0 where
  pub split : (R : Run) → P R → (O : Opening) → Sided R.mesh O → splits? O R.mesh ≡ true → (more : List Entry) → splits_of more ≡ [] → (f : Mesh → Mesh) → Behind O f → P (split_made more f Triangles O R)
  pub marks : (R : Run) → P R → (B : Blade) → P (marked_by Triangles B R)
  pub straddlers : (R : Run) → P R → P (remove_straddlers_of Triangles R)

way_sided : (loads : List Float) (M : Mesh) (v u : ℕ) → All (λ (w : Way). Sided M w.opening) (way_at Triangles loads M v u)
unfolding way_at far_side
way_sided loads M v u =
    let sides = map (far_side M v u) (fan_of Triangles M v) in
    pick_one (λ (w : Way). Sided M w.opening) (two_sided_of M v sides) (record { load = mean_load Triangles loads M v u; opening = opening_of Triangles M v sides })
    (record { v = v; sides = sides; is = refl; every = length-map (fan_of Triangles M v) (far_side M v u); two = two_all (far_side M v u) (λ e. pick_two (beyond M v u e) 1 0 (omega arith) (omega arith)) (fan_of Triangles M v) })

module _ (P : Run → Type 0) (K : Kept P) where
  step_by : (R : Run) → P R → (O : Opening) → Sided R.mesh O → (more : List Entry) → splits_of more ≡ [] → (f : Mesh → Mesh) → Behind O f → (b : Bool) → splits? O R.mesh ≡ b → P (pick b (split_made more f Triangles O R) R)
  step_by R p O S more none f B true e = K.split R p O S e more none f B
  step_by R p O S more none f B false e = p

  step_kept : (R : Run) → P R → (O : Opening) → Sided R.mesh O → (more : List Entry) → splits_of more ≡ [] → (f : Mesh → Mesh) → Behind O f → P (split_step more f Triangles O R)
  unfolding split_step
  step_kept R p O S more none f B = step_by R p O S more none f B (splits? O R.mesh) refl

  -- v split by sides
  pub sides_kept : (R : Run) → P R → (v : ℕ) (sides : List ℕ) → length sides ≡ length (fan_of Triangles R.mesh v) → All (λ s. s < 2) sides → P (split_by_sides_of Triangles v sides R)
  unfolding split_by_sides_of splits_of each
  sides_kept R p v sides e t =
      step_kept R p (opening_of Triangles R.mesh v sides) (record { v = v; sides = sides; is = refl; every = e; two = t }) [] refl (λ M. M) nothing_more

  fold_kept : {A : Type 0} (g : Run → A → Run) → ((R : Run) (a : A) → P R → P (g R a)) → (R : Run) (l : List A) → P R → P (fold g R l)
  unfolding fold
  fold_kept g k R [] p = p
  fold_kept g k R (a ∷ l) p = fold_kept g k (g R a) l (k R a p)

  pick_kept : (b : Bool) (R S : Run) → P R → P S → P (pick b R S)
  pick_kept true R S p q = p
  pick_kept false R S p q = q

  free_kept : (R : Run) (v : ℕ) → P R → P (split_free Triangles R v)
  unfolding split_free
  free_kept R v p =
      sides_kept R p v (map (λ (e : Element). 0) (fan_of Triangles R.mesh v)) (length-map (fan_of Triangles R.mesh v) _) (two_all (λ (e : Element). 0) (λ e. omega arith) (fan_of Triangles R.mesh v))

  pinched_kept : (R : Run) → P R → P (split_pinched_of Triangles R)
  unfolding split_pinched_of
  pinched_kept R p = fold_kept (split_free Triangles) free_kept R (pinched Triangles R) p

  blade_kept : (B : Blade) (R : Run) (v : ℕ) → P R → P (split_by_blade Triangles B R v)
  unfolding split_by_blade
  blade_kept B R v p = sides_kept R p v (blade_sides Triangles B R.mesh v) (blade_every Triangles B R.mesh v) (blade_two Triangles B R.mesh v)

  facets_kept : (B : Blade) (R : Run) → P R → P (cut_facets_of B R)
  unfolding cut_facets_of
  facets_kept B R p =
      let S = fold (split_by_blade Triangles B) R (candidates B R.mesh) in
      let q = fold_kept (split_by_blade Triangles B) (blade_kept B) R (candidates B R.mesh) p in
      pick_kept (empty (splits_of S.log)) S (split_pinched_of Triangles S) q (pinched_kept S q)

  -- the cut
  pub cut_kept : (B : Blade) (f : Float) (R : Run) → P R → P (cut Triangles B f R)
  unfolding cut cut_along
  cut_kept B f R p = facets_kept B (marked_by Triangles B R) (K.marks R p B)

  by_kept : (R : Run) → P R → (o : Option Way) → Found (λ (w : Way). Sided R.mesh w.opening) o → (ab xy : ℕ × ℕ) → P (crack_by Triangles o ab xy R)
  unfolding crack_by splits_of each
  by_kept R p nothing S ab xy = p
  by_kept R p (some w) S ab xy = step_kept R p w.opening S _ refl (torn w.opening xy) (tearing xy)

  pair_kept : (loads : List Float) (min : ℕ) (ab : ℕ × ℕ) (o : Option (ℕ × ℕ)) (R : Run) → P R → P (crack_pair Triangles loads min ab o R)
  unfolding crack_pair ways_of
  pair_kept loads min ab nothing R p = p
  pair_kept loads min ab (some xy) R p =
      let Q : Way → Type 0 = λ (w : Way). Sided R.mesh w.opening in
      let there = way_at Triangles loads R.mesh xy.0 xy.1 in
      let back = way_at Triangles loads R.mesh xy.1 xy.0 in
      by_kept R p _ (find_fits Q _ (ways_of Triangles loads R.mesh xy) (order_fits Q there back (way_sided loads R.mesh xy.0 xy.1) (way_sided loads R.mesh xy.1 xy.0))) ab xy

  -- the crack
  pub crack_kept : (min : ℕ) (is : List ℕ) (R : Run) → P R → P (crack Triangles min is R)
  unfolding crack crack_edge
  crack_kept min is R p =
      let g = crack_edge Triangles (loads_of Triangles R.mesh) min in
      let S = fold g R (torn_ends R.mesh is) in
      let q = fold_kept g (λ Q ab w. pair_kept _ min ab (current_pair Triangles Q ab) Q w) R (torn_ends R.mesh is) p in
      pick_kept (empty (splits_of S.log)) S (remove_straddlers_of Triangles (split_pinched_of Triangles S)) q (K.straddlers _ (pinched_kept S q))
