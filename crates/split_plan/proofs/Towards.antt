-- Laws of directions: a score by the block of points, the corners of a part, the parts of a fan. Assumes nothing.
use mathlib.Core.Path.{◌≡◌, refl, sym, ◌∙◌, ap, ap₂, subst}
use mathlib.Core.Bool.{Bool, not}
use mathlib.Core.List.{List, ◌∷◌}
use Prim.Native.Nat.{ℕ, ◌+◌, ◌*◌, ◌<◌, ◌≤◌}
use native.Mathlib.Omega.{arith}
use borrow.Author.Tests.{eq-eqb, ne_eqb}
use lib.Dec.{eqb}
use lib.ListN.{length, get_or, take, drop, length-take, drop_of_length-le}
use lib.Seq.{get_or-take, get_or-drop}
use lib.Ieee.{Float, neg}
use Rattle.lists.specs.Lists.{pick, sift, fold, tab}
use Rattle.lists.proofs.Steps.{sift_drop, fold_step}
use Rattle.float.specs.Numbers.{largest}
use Rattle.blade.specs.declared.Point.{Point}
use Rattle.blade.specs.Points.{origin, plus_of, minus_of, sum_of}
use Rattle.fan.proofs.Shared.{row_end}
use Rattle.model.specs.Mesh.{Mesh}
use Rattle.model.specs.Elements.{besides, rest_of}
use Rattle.model.specs.Split.{Opening, Best, better, score_of, scored, toward}
use Rattle.split_plan.specs.Opened.{part_at, Ringed, rest_in, RestsIn, CornersBelow}
use Rattle.split_plan.specs.Answers.{score_by}
use Rattle.split_plan.proofs.Weights.{fan_tab}

-- one corner's score
abbrev pub scoring : Mesh → ℕ → Point → ℕ → Best → ℕ → Best
scoring M v dir g c w = better c (score_of M v dir w) g

-- the corners besides v, as a loop goes through them
module _ {B : Type 0} (f : B → ℕ → B) (b : B) (v : ℕ) (row : List ℕ) (i : ℕ) where
  -- a corner that is not v
  pub besides_in : i < length row → (get_or row i 0 ≡ v → ⊥) → fold f b (besides v (drop i row)) ≡ fold f (f b (get_or row i 0)) (besides v (drop (i + 1) row))
  unfolding besides fold
  besides_in l n =
      let S = sift (λ w. not (eqb w v)) (drop (i + 1) row) in
      ap (fold f b) (sift_drop (λ w. not (eqb w v)) row i 0 l) ∙ ap (λ (t : Bool). fold f b (pick (not t) (get_or row i 0 ∷ S) S)) (ne_eqb (get_or row i 0) v n)

  -- a corner that is v
  pub besides_out : i < length row → get_or row i 0 ≡ v → fold f b (besides v (drop i row)) ≡ fold f b (besides v (drop (i + 1) row))
  unfolding besides
  besides_out l e =
      let S = sift (λ w. not (eqb w v)) (drop (i + 1) row) in
      ap (fold f b) (sift_drop (λ w. not (eqb w v)) row i 0 l) ∙ ap (λ (t : Bool). fold f b (pick (not t) (get_or row i 0 ∷ S) S)) (eq-eqb (get_or row i 0) v e)

  -- no corner is left
  pub besides_end : length row ≤ i → fold f b (besides v (drop i row)) ≡ b
  unfolding besides fold sift
  besides_end l = ap (λ (s : List ℕ). fold f b (besides v s)) (drop_of_length-le row l)

-- a score by the block of points
score_is : (M : Mesh) (v : ℕ) (dir : Point) (w : ℕ) → score_by (minus_of (rest_of M w) (rest_of M v)) dir ≡ score_of M v dir w
unfolding score_by score_of
score_is M v dir w = refl

-- the score that is worked out from the block is the score of the mesh
pub score_in : (M : Mesh) (p : ℕ) (points : List Float) → RestsIn M p points → (v w : ℕ) → v < p → w < p → (home q d dir : Point) (s : Float)
    → home ≡ rest_in points v → q ≡ rest_in points w → d ≡ minus_of q home → s ≡ score_by d dir → s ≡ score_of M v dir w
score_in M p points r v w lv lw home q d dir s h e m t =
    t
    ∙ ap (λ (a : Point). score_by a dir) (m ∙ ap₂ minus_of (e ∙ sym (r w lw)) (h ∙ sym (r v lv)))
    ∙ score_is M v dir w

-- one more corner
pub best_step : (M : Mesh) (v : ℕ) (dir : Point) (g : ℕ) (row : List ℕ) (i : ℕ) (old new end : Best) (s : Float) → i < length row → (get_or row i 0 ≡ v → ⊥)
    → s ≡ score_of M v dir (get_or row i 0) → new ≡ better old s g → fold (scoring M v dir g) old (besides v (drop i row)) ≡ end
    → fold (scoring M v dir g) new (besides v (drop (i + 1) row)) ≡ end
best_step M v dir g row i old new end s l n e d h =
    ap (λ (b : Best). fold (scoring M v dir g) b (besides v (drop (i + 1) row))) (d ∙ ap (λ (t : Float). better old t g) e)
    ∙ sym (besides_in (scoring M v dir g) old v row i l n)
    ∙ h

-- a row's corners name some of the first p particles
pub row_below : {p n k : ℕ} (verts : List ℕ) → CornersBelow p n k verts → (i m : ℕ) → i < n → m ≡ k → (j : ℕ) → j < length (take m (drop (i * k) verts)) → get_or (take m (drop (i * k) verts)) j 0 < p
row_below {p} {n} {k} verts h i m l e j d =
    let a : j < m = omega (arith, length-take m (drop (i * k) verts)) in
    let q : i * k + j < n * k = omega (arith, row_end i n k l) in
    subst (λ (x : ℕ). x < p) (sym (get_or-take m (drop (i * k) verts) j 0 a ∙ get_or-drop (i * k) verts j 0)) (h (i * k + j) q)

-- one more part
pub fan_step : {k n : ℕ} {verts groups : List ℕ} (O : Opening) → Ringed k O n verts groups → (M : Mesh) (v : ℕ) (dir : Point) (start old new : Best) (i m : ℕ) → i < n → m ≡ k
    → old ≡ fold (scored M v dir) start (tab i (part_at O))
    → new ≡ fold (scoring M v dir (get_or groups i 0)) old (besides v (take m (drop (i * k) verts)))
    → new ≡ fold (scored M v dir) start (tab (i + 1) (part_at O))
unfolding scored
fan_step {k} {n} {verts} {groups} O R M v dir start old new i m l q e d =
    let row : take m (drop (i * k) verts) ≡ (part_at O i).corners = ap (λ (x : ℕ). take x (drop (i * k) verts)) q ∙ sym (R.corners_are i l) in
    d
    ∙ ap (λ (r : List ℕ). fold (scoring M v dir (get_or groups i 0)) old (besides v r)) row
    ∙ ap (λ (g : ℕ). fold (scoring M v dir g) old (besides v (part_at O i).corners)) (sym (R.group_is i l))
    ∙ ap (λ (b : Best). scored M v dir b (part_at O i)) e
    ∙ sym (fold_step (scored M v dir) start (part_at O) i)

-- before the first part
pub fan_none : (O : Opening) (M : Mesh) (v : ℕ) (dir : Point) (start : Best) → start ≡ fold (scored M v dir) start (tab 0 (part_at O))
unfolding fold tab
fan_none O M v dir start = refl

-- after the last part
pub fan_all : {k n : ℕ} {verts groups : List ℕ} (O : Opening) → Ringed k O n verts groups → (M : Mesh) (v : ℕ) (dir : Point) (start : Best)
    → fold (scored M v dir) start (tab n (part_at O)) ≡ fold (scored M v dir) start O.fan
fan_all {k} {n} O R M v dir start = ap (fold (scored M v dir) start) (sym (fan_tab O n R.size))

-- the best of all parts, from the lowest score
pub toward_is : (O : Opening) (M : Mesh) (p : ℕ) (points : List Float) → RestsIn M p points → (x v : ℕ) → O.v ≡ v → x < p → v < p → (dir to home away : Point) (r : Best)
    → home ≡ rest_in points v → to ≡ rest_in points x → away ≡ minus_of to home → dir ≡ plus_of origin away
    → r ≡ fold (scored M v dir) (record { score = neg largest; group = 0 }) O.fan → r.group ≡ toward M O x
unfolding toward sum_of fold
toward_is O M p points rs x v q lx lv dir to home away r h t a d e =
    let dir_is : dir ≡ plus_of origin (minus_of (rest_of M x) (rest_of M O.v)) =
    d ∙ ap (plus_of origin) (a ∙ ap₂ minus_of (t ∙ sym (rs x lx)) (h ∙ sym (rs v lv) ∙ ap (rest_of M) (sym q))) in
    ap (λ (b : Best). b.group) (e ∙ ap₂ (λ (u : ℕ) (z : Point). fold (scored M u z) (record { score = neg largest; group = 0 }) O.fan) (sym q) dir_is)
