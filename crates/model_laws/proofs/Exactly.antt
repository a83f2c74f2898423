-- On whole coordinates the rule of signs, by which the program cuts in edition 2, is the exact rule: `signs_exact`. Assumes nothing.
use mathlib.Core.Path.{◌≡◌, refl, sym, ◌∙◌, ap, ap₂, subst}
use mathlib.Core.Bool.{true, false}
use mathlib.Core.List.{List, [], ◌∷◌, map}
use Prim.Native.Nat.{ℕ, suc}
use lib.ListN.{length, get_or, length-map}
use lib.Ieee.{Float}
use Rattle.lists.specs.Lists.{pick, stands, fold, pairs, empty, rising}
use Rattle.blade.specs.declared.Hit.{Hit}
use Rattle.exact.specs.Exact.{whole_point_of, side_by, sign_of, total}
use Rattle.exact.specs.Signs.{sign_of_sum_of}
use Rattle.exact.proofs.Exactly.{hit_exact, sign_exact, sum_exact}
use Rattle.model.specs.Mesh.{Triangle, Mesh}
use Rattle.model.specs.Elements.{Kind, Triangles, Straps, Nothing, straps?, Element, place_of, kind_of, triangles_from, elements_of, fan_of}
use Rattle.model.specs.Run.{Entry, Run, start, step_to, splits_of}
use Rattle.model.specs.Split.{opening_of, splits?, copy_of, group_at_of, retargeted, rewired_triangles, at_longest, settled, split_made, split_step, split_by_sides_of}
use Rattle.model.specs.Cut.{Line, exact, signs, Blade, hit?, meets, offset, sides_of_signs, exact_middle, rounded_middle, blade_sides, split_by_blade, split_pinched_of, if_met, candidates, cut_facets_of, mark_at, mark_of, marks_of, marked_by, cut_along, cut}
use Rattle.model.specs.Calls.{whole_mesh, whole_line}
use Rattle.model.specs.Swaps.{exactly}
use Rattle.model.specs.Trace.{All, Threes}
use Rattle.model_laws.proofs.Rows.{three_are}
use Rattle.model_laws.proofs.Laws.{false_true, pick_both, all_sift, all_map_at}
use Rattle.model_laws.proofs.Whole.{place_whole, WholeRun, sides_whole}
use Rattle.lists.proofs.Sifts.{and_true, each_ext}

-- ---- elements of three corners

record Three (e : Element) : Type 0 where
  a : ℕ
  b : ℕ
  c : ℕ
  are : e.corners ≡ a ∷ b ∷ c ∷ []

all_three : (i : ℕ) (ts : List Triangle) → Threes ts → All Three (triangles_from i ts)
unfolding triangles_from
all_three i [] h = tt
all_three i (t ∷ ts) h =
    let l = t.corners in
    (record { a = get_or l 0 0; b = get_or l 1 0; c = get_or l 2 0; are = three_are l h.0 }, all_three (suc i) ts h.1)

fan_three : (M : Mesh) (v : ℕ) → Threes M.triangles → All Three (fan_of Triangles M v)
unfolding fan_of elements_of
fan_three M v h = all_sift Three (λ (e : Element). stands v e.corners) (triangles_from 0 M.triangles) (all_three 0 M.triangles h)

-- whole coordinates and three corners: a split keeps both
abbrev Both : Run → Type 0
Both R = WholeRun R × Threes R.mesh.triangles

sides_three : (v : ℕ) (sides : List ℕ) (R : Run) → Threes R.mesh.triangles → Threes (split_by_sides_of Triangles v sides R).mesh.triangles
unfolding split_by_sides_of split_step split_made step_to settled at_longest rewired_triangles
sides_three v sides R h =
    let O = opening_of Triangles R.mesh v sides in
    pick_both (λ (S : Run). Threes S.mesh.triangles) (splits? O R.mesh) (split_made [] (λ M. M) Triangles O R) R
    (all_map_at (λ (t : Triangle). length t.corners ≡ 3) (λ (t : Triangle). length t.corners ≡ 3) (λ i. retargeted O.v (copy_of O (group_at_of O.fan i))) (λ i t e. length-map t.corners _ ∙ e) R.mesh.triangles h) h

sides_both : (v : ℕ) (sides : List ℕ) (R : Run) → Both R → Both (split_by_sides_of Triangles v sides R)
sides_both v sides R w = (sides_whole Triangles v sides R w.0, sides_three v sides R w.1)

-- functions that agree on what has P, and steps that agree on such runs, which they keep so
pub map_on : {A B : Type 0} (P : A → Type 0) (f g : A → B) → ((a : A) → P a → f a ≡ g a) → (l : List A) → All P l → map f l ≡ map g l
map_on P f g h [] u = refl
map_on {A} {B} P f g h (a ∷ l) u = ap₂ {C = List B} (λ x y. x ∷ y) (h a u.0) (map_on P f g h l u.1)

fold_on : (f g : Run → ℕ → Run) → ((R : Run) (v : ℕ) → Both R → f R v ≡ g R v) → ((R : Run) (v : ℕ) → Both R → Both (g R v)) → (R : Run) (l : List ℕ) → Both R → fold f R l ≡ fold g R l
unfolding fold
fold_on f g h k R [] w = refl
fold_on f g h k R (v ∷ l) w = ap (λ (Q : Run). fold f Q l) (h R v w) ∙ fold_on f g h k (g R v) l (k R v w)

-- ---- along a whole line

-- the blade along a line by the rule of signs
abbrev pub by_signs : Line → Blade
by_signs B = record { line = B; rule = signs }

module _ (B : Line) (h0 : whole_point_of B.from ≡ true) (h1 : whole_point_of B.to ≡ true) where
  meets_exact : (M : Mesh) → whole_mesh M ≡ true → (x y : ℕ) → meets (by_signs B) M x y ≡ meets (exactly B) M x y
  unfolding meets
  meets_exact M w x y = hit_exact B.from B.to h0 h1 (place_of M x) (place_of M y) (place_whole M w x) (place_whole M w y)

  marks_exact : (k : Kind) (M : Mesh) → whole_mesh M ≡ true → marks_of k (by_signs B) M ≡ marks_of k (exactly B) M
  unfolding marks_of
  marks_exact k M w =
      each_ext _ _ (λ (e : Element). each_ext (mark_of (by_signs B) M) (mark_of (exactly B) M) (λ xy. ap (mark_at xy) (meets_exact M w xy.0 xy.1)) (pairs e.corners)) (elements_of k M)

  candidates_exact : (M : Mesh) → whole_mesh M ≡ true → candidates (by_signs B) M ≡ candidates (exactly B) M
  unfolding candidates
  candidates_exact M w =
      ap (rising (length M.particles))
      (each_ext _ _
      (λ (e : Element). each_ext (if_met (by_signs B) M) (if_met (exactly B) M) (λ xy. ap (λ (h : Hit). pick (hit? h) (xy.0 ∷ xy.1 ∷ []) []) (meets_exact M w xy.0 xy.1)) (pairs e.corners))
      (elements_of Triangles M))

  middle_exact : (M : Mesh) → whole_mesh M ≡ true → (e : Element) → Three e → rounded_middle (by_signs B) M e ≡ exact_middle (exactly B) M e
  middle_exact M w e T =
      subst
      (λ (l : List ℕ). sign_of_sum_of (offset (by_signs B) (place_of M (get_or l 0 0))) (offset (by_signs B) (place_of M (get_or l 1 0))) (offset (by_signs B) (place_of M (get_or l 2 0)))
      ≡ sign_of (total (map (λ v. side_by B.from B.to (place_of M v)) l)))
      (sym T.are)
      (sum_exact B.from B.to h0 h1 (place_of M T.a) (place_of M T.b) (place_of M T.c) (place_whole M w T.a) (place_whole M w T.b) (place_whole M w T.c))

  sides_exact : (M : Mesh) → whole_mesh M ≡ true → Threes M.triangles → (v : ℕ) → blade_sides Triangles (by_signs B) M v ≡ blade_sides Triangles (exactly B) M v
  unfolding blade_sides
  sides_exact M w h v =
      ap₂ {C = List ℕ} sides_of_signs (sign_exact B.from B.to h0 h1 (place_of M v) (place_whole M w v))
      (map_on Three (rounded_middle (by_signs B) M) (exact_middle (exactly B) M) (middle_exact M w) (fan_of Triangles M v) (fan_three M v h))

  facets_exact : (R : Run) → Both R → cut_facets_of (by_signs B) R ≡ cut_facets_of (exactly B) R
  unfolding cut_facets_of split_by_blade
  facets_exact R w =
      let rounding = split_by_blade Triangles (by_signs B) in
      let exacting = split_by_blade Triangles (exactly B) in
      let e : fold rounding R (candidates (by_signs B) R.mesh) ≡ fold exacting R (candidates (exactly B) R.mesh)
      = ap (fold rounding R) (candidates_exact R.mesh w.0)
      ∙ fold_on rounding exacting (λ Q v u. ap (λ (s : List ℕ). split_by_sides_of Triangles v s Q) (sides_exact Q.mesh u.0 u.1 v)) (λ Q v u. sides_both v _ Q u) R (candidates (exactly B) R.mesh) w in
      ap (λ (S : Run). pick (empty (splits_of S.log)) S (split_pinched_of Triangles S)) e

  along_exact : (k : Kind) (f : Float) (R : Run) → straps? k ≡ false → Both R → cut_along k (by_signs B) f R ≡ cut_along k (exactly B) f R
  unfolding cut_along
  along_exact Triangles f R s w = facets_exact R w
  along_exact Straps f R s w = absurd (false_true (sym s))
  along_exact Nothing f R s w = refl

  -- a run, with the marks of its crossings, to the bit
  pub run_exact : (k : Kind) (f : Float) (R : Run) → straps? k ≡ false → Both R → cut k (by_signs B) f R ≡ cut k (exactly B) f R
  unfolding cut marked_by step_to
  run_exact k f R s w =
      along_exact k f (marked_by k (by_signs B) R) s w
      ∙ ap (λ (l : List Entry). cut_along k (exactly B) f (step_to R R.mesh l (length R.mesh.edges) (length R.mesh.boundary))) (marks_exact k R.mesh w.0)

-- On whole coordinates, of the mesh and of the line, the cut by the signs of rounded offsets is the exact one: mesh, log with its marks, and room of each step. (Straps have no edition 2.)
pub signs_exact : (M : Mesh) (B : Line) (f : Float) → Threes M.triangles → whole_mesh M ≡ true → whole_line B ≡ true → straps? (kind_of M) ≡ false
    → cut (kind_of M) (record { line = B; rule = signs }) f (start M) ≡ cut (kind_of M) (record { line = B; rule = exact }) f (start M)
unfolding start
signs_exact M B f h w l s = let p = and_true (whole_point_of B.from) (whole_point_of B.to) l in run_exact B p.0 p.1 (kind_of M) f (start M) s (w, h)
