-- A run of splits keeps the triangles: three different particles each, and traced back through the copies each is what it was.
-- Assumes nothing.
use mathlib.Core.Path.{◌≡◌, refl, sym, ◌∙◌, ap, ap₂, subst}
use mathlib.Core.Bool.{Bool, true, false}
use mathlib.Core.Logic.{◌⊎◌, inl, inr, ⊎_elim}
use mathlib.Core.List.{List, [], ◌∷◌, ◌++◌, map, append-nil}
use Prim.Native.Nat.{ℕ, zero, suc, ◌+◌, ◌-◌, ◌<◌, ◌≤◌, max}
use native.Mathlib.Omega.{arith}
use native.Mathlib.Decide.{ℕ_discrete, dec_lt}
use borrow.Author.Tests.{eq-eqb, ne_eqb, leb-true}
use lib.Dec.{eqb}
use lib.ListN.{length, get_or, set, length-append, length-map, get_or-eq_default}
use lib.Ieee.{Float, eq, ne}
use Rattle.lists.specs.Lists.{tab, pick, map_at_of, each, up_to, fold, sift, empty}
use Rattle.lists.specs.Labels.{replaced}
use Rattle.float.specs.Numbers.{zero32}
use Rattle.fan.specs.Fan.{Fan, size}
use Rattle.fan.specs.Groups.{Numbered, number_one, number_side, numbered, groups_of, count_of}
use Rattle.lists.proofs.Stores.{tab_length, replaced_case}
use Rattle.model.specs.Mesh.{Particle, Triangle, Edge, Mesh, blank}
use Rattle.model.specs.Elements.{Kind, Triangles, Element, corners_of, fan_of, elements_of, grid_of}
use Rattle.model.specs.Run.{Entry, split as split_entry, edge as edge_entry, Run, start, step_to, split_of, splits_of}
use Rattle.model.specs.Split.{Part, parts_of, Opening, opening_of, splits?, retargeted, copy_for_of, copy_of, made, copied, group_at_of, rewired_triangles, at_longest, settled, split_entries, gone_entries, split_made, split_step, split_by_sides_of}
use Rattle.model.specs.Pieces.{body_labels, across?, without_straddlers, straddlers_gone, remove_straddlers_of}
use Rattle.model.specs.Cut.{Blade, split_by_blade, split_free, split_pinched_of, pinched, candidates, cut_facets_of, slackened}
use Rattle.model.specs.Crack.{Way, far_side, two_sided_of, mean_load, damaged_at, torn, crack_by, crack_pair, crack_edge, current_pair, ways_of, way_at, in_order, before?, loads_of, torn_ends, crack}
use mathlib.Core.Option.{Option, none as nothing, some}
use Rattle.model.specs.Trace.{All, origin_of, Different, Sound, traced_back, Traced}
use Rattle.model_laws.proofs.Rows.{named_below, different_mapped}
use Rattle.model_laws.proofs.Laws.{false_true, all_at, all_set, all_replicate, all_over, all_map_at, all_tab, tab_all, pick_one, all_yes, length_map_at, map_map_at, each_append, Found, find_fits}
use Rattle.lists.proofs.Sifts.{and_true, map_ext}

-- ---- lists

-- ---- origins

pub origin_append : (a b : List (ℕ × ℕ)) (x : ℕ) → origin_of (a ++ b) x ≡ origin_of a (origin_of b x)
unfolding origin_of
origin_append [] b x = refl
origin_append (cs ∷ a) b x = rw (origin_append a b x)

-- the copies that a split at v makes: k of them, from n on
unfoldable pub copies_from : ℕ → ℕ → ℕ → List (ℕ × ℕ)
copies_from n v k = map (λ g. (n + g, v)) (up_to k)

abbrev CopyOf : ℕ → ℕ → ℕ × ℕ → Type 0
CopyOf n v cs = (n ≤ cs.0) × (cs.1 ≡ v)

copies_are : (n v k : ℕ) → All (CopyOf n v) (copies_from n v k)
unfolding copies_from up_to
copies_are n v k = all_tab (CopyOf n v) (λ g. (n + g, v)) k (λ i. i) (λ i. (omega arith, refl))

-- a particle that was there before is its own origin; and any other's is v, or itself if it is none of the copies
origin_low : (n v : ℕ) (S : List (ℕ × ℕ)) → All (CopyOf n v) S → (x : ℕ) → x < n → origin_of S x ≡ x
unfolding origin_of
origin_low n v [] u x l = refl
origin_low n v (cs ∷ S) u x l = let e = origin_low n v S u.1 x l in let c = u.0.0 in rw (e, ne_eqb x cs.0 (λ d. omega arith))

abbrev Origin : ℕ → List (ℕ × ℕ) → ℕ → Type 0
Origin v S x = (origin_of S x ≡ v) ⊎ ((origin_of S x ≡ x) × All (λ (cs : ℕ × ℕ). x ≡ cs.0 → ⊥) S)

origin_case : (n v : ℕ) → v < n → (S : List (ℕ × ℕ)) → All (CopyOf n v) S → (x : ℕ) → Origin v S x
unfolding origin_of
origin_case n v o [] u x = inr (refl, tt)
origin_case n v o (cs ∷ S) u x =
    let c = u.0.0 in
    ⊎_elim
    (λ e. inl (rw (e, ne_eqb v cs.0 (λ d. omega arith))))
    (λ e. elim (ℕ_discrete x cs.0) [ yes d ↦ inl (rw (e.0, eq-eqb x cs.0 d) u.0.1) | no m ↦ inr (rw (e.0, ne_eqb x cs.0 m), (m, e.1)) ])
    (origin_case n v o S u.1 x)

origin_copy : (n v k g : ℕ) → v < n → g < k → origin_of (copies_from n v k) (n + g) ≡ v
unfolding copies_from up_to
origin_copy n v k g o l =
    ⊎_elim (λ e. e)
    (λ e. absurd (tab_all (λ (cs : ℕ × ℕ). n + g ≡ cs.0 → ⊥) (λ i. (n + i, v)) k (λ i. i) e.1 g l refl))
    (origin_case n v o (copies_from n v k) (copies_are n v k) (n + g))

-- ---- one triangle

-- the particle that group g has, of k + 1 groups
module _ (n v k g : ℕ) (o : v < n) (l : g < suc k) where
  pub new : (copy_for_of v n g ≡ v) ⊎ (n ≤ copy_for_of v n g)
  new = elim (ℕ_discrete g 0) [ yes e ↦ inl (rw (eq-eqb g 0 e)) | no m ↦ inr (rw (ne_eqb g 0 m) (omega arith)) ]

  there : copy_for_of v n g < n + k
  there = elim (ℕ_discrete g 0) [ yes e ↦ rw (eq-eqb g 0 e) (omega arith) | no m ↦ rw (ne_eqb g 0 m) (omega arith) ]

  was : origin_of (copies_from n v k) (copy_for_of v n g) ≡ v
  was =
      elim (ℕ_discrete g 0) [
        | yes e ↦ rw (eq-eqb g 0 e) (origin_low n v (copies_from n v k) (copies_are n v k) v o)
        | no m ↦ let d : n + g - 1 ≡ n + (g - 1) = omega arith in rw (ne_eqb g 0 m, d) (origin_copy n v k (g - 1) o (omega arith))
      ]

  pub apart : (c d : ℕ) → c < n → d < n → (c ≡ d → ⊥) → replaced v (copy_for_of v n g) c ≡ replaced v (copy_for_of v n g) d → ⊥
  apart c d p q m e =
      ⊎_elim
      (λ a. ⊎_elim (λ b. m (a.0 ∙ sym b.0)) (λ b. let f : copy_for_of v n g ≡ d = sym a.1 ∙ e ∙ b.1 in ⊎_elim (λ h. b.0 (sym f ∙ h)) (λ h. omega arith) new) (replaced_case v (copy_for_of v n g) d))
      (λ a. ⊎_elim (λ b. let f : copy_for_of v n g ≡ c = sym b.1 ∙ sym e ∙ a.1 in ⊎_elim (λ h. a.0 (sym f ∙ h)) (λ h. omega arith) new) (λ b. m (sym a.1 ∙ e ∙ b.1)) (replaced_case v (copy_for_of v n g) d))
      (replaced_case v (copy_for_of v n g) c)

  pub inside : (c : ℕ) → c < n → replaced v (copy_for_of v n g) c < n + k
  inside c p = ⊎_elim (λ a. let h = there in omega (arith, a.1)) (λ a. omega (arith, a.1)) (replaced_case v (copy_for_of v n g) c)

  undone : (c : ℕ) → c < n → origin_of (copies_from n v k) (replaced v (copy_for_of v n g) c) ≡ c
  undone c p =
      ⊎_elim (λ a. ap (origin_of (copies_from n v k)) a.1 ∙ was ∙ sym a.0)
      (λ a. ap (origin_of (copies_from n v k)) a.1 ∙ origin_low n v (copies_from n v k) (copies_are n v k) c p)
      (replaced_case v (copy_for_of v n g) c)

  -- a row of different particles stays one
  pub row_step : (w : ℕ) (l : List ℕ) → Different w n l → Different w (n + k) (map (replaced v (copy_for_of v n g)) l)
  row_step w l D = different_mapped n (n + k) (replaced v (copy_for_of v n g)) inside apart w l D

  pub sound_step : (t : Triangle) → Sound n t → Sound (n + k) (retargeted v (copy_for_of v n g) t)
  sound_step t S = row_step 3 t.corners S

  -- of each corner of a row
  row_back : (S : List (ℕ × ℕ)) (l : List ℕ) → All (λ x. x < n) l → map (origin_of (S ++ copies_from n v k)) (map (replaced v (copy_for_of v n g)) l) ≡ map (origin_of S) l
  row_back S [] h = refl
  row_back S (c ∷ l) h =
      ap₂ (λ (x : ℕ) (r : List ℕ). x ∷ r) (origin_append S (copies_from n v k) (replaced v (copy_for_of v n g) c) ∙ ap (origin_of S) (undone c h.0)) (row_back S l h.1)

  back_over : (S : List (ℕ × ℕ)) (t : Triangle) → Sound n t → map (origin_of (S ++ copies_from n v k)) (corners_of (retargeted v (copy_for_of v n g) t)) ≡ map (origin_of S) (corners_of t)
  back_over S t U = row_back S t.corners (named_below n t.corners U.apart)

-- ---- groups lie below their count

abbrev Below : ℕ → ℕ → Type 0
Below n g = g < max n 1

one_below : (p : List ℕ) (i : ℕ) (N : Numbered) (b : Bool) → All (Below N.count) N.groups
    → let N' : Numbered = pick {A = Numbered} b (record { groups = set N.groups i N.count; count = N.count + 1 }) (record { groups = set N.groups i (get_or N.groups (get_or p i 0) 0); count = N.count }) in
    All (Below N'.count) N'.groups
one_below p i N true h = all_set (Below (N.count + 1)) N.groups i N.count (omega arith) (all_over (Below N.count) (Below (N.count + 1)) (λ g u. omega arith) N.groups h)
one_below p i N false h = all_set (Below N.count) N.groups i (get_or N.groups (get_or p i 0) 0) (all_at (Below N.count) N.groups (get_or p i 0) 0 (omega arith) h) h

visit_below : (p : List ℕ) (i : ℕ) (N : Numbered) (b : Bool) → All (Below N.count) N.groups
    → let N' : Numbered = pick {A = Numbered} b (number_one p i N) N in All (Below N'.count) N'.groups
unfolding number_one
visit_below p i N true h = one_below p i N (eqb (get_or p i 0) i) h
visit_below p i N false h = h

side_below : (sides p : List ℕ) (s m i : ℕ) (N : Numbered) → All (Below N.count) N.groups
    → All (Below (number_side sides p s m i N).count) (number_side sides p s m i N).groups
unfolding number_side
side_below sides p s zero i N h = h
side_below sides p s (suc m) i N h = side_below sides p s m (suc i) (pick (eqb (get_or sides i 0) s) (number_one p i N) N) (visit_below p i N (eqb (get_or sides i 0) s) h)

pub groups_below : (F : Fan) → All (Below (count_of F)) (groups_of F)
unfolding groups_of count_of numbered
groups_below F = side_below _ _ 1 _ 0 _ (side_below _ _ 0 _ 0 _ (all_replicate (Below 0) (size F) 0 (omega arith)))

-- what holds of each element and of each group holds of the parts
pub parts_all : (P : Element → Type 0) (G : ℕ → Type 0) (Q : Part → Type 0)
    → ((e : Element) (g : ℕ) → P e → G g → Q (record { number = e.number; corners = e.corners; measure = e.measure; group = g })) → (es : List Element) (gs : List ℕ) → All P es → All G gs → All Q (parts_of es gs)
unfolding parts_of
parts_all P G Q k [] gs h u = tt
parts_all P G Q k (e ∷ es) [] h u = tt
parts_all P G Q k (e ∷ es) (g ∷ gs) h u = (k e g h.0 u.0, parts_all P G Q k es gs h.1 u.1)

abbrev pub Any : {A : Type 0} → A → Type 0
Any a = Unit {0}

pub all_any : {A : Type 0} (l : List A) → All Any l
all_any l = all_yes Any (λ a. tt) l

pick_below : (n : ℕ) (b : Bool) (x y : ℕ) → Below n x → Below n y → Below n (pick b x y)
pick_below n true x y p q = p
pick_below n false x y p q = q

pub at_below : (n : ℕ) (ps : List Part) (i : ℕ) → All (λ (p : Part). Below n p.group) ps → Below n (group_at_of ps i)
unfolding group_at_of
at_below n [] i h = omega arith
at_below n (p ∷ ps) i h = pick_below n (eqb p.number i) p.group (group_at_of ps i) h.0 (at_below n ps i h.1)

-- ---- one split

-- a split that fits the mesh: as many particles before, and groups below the count
pub record Fitting (O : Opening) (M : Mesh) : Type 0 where
  pub before : O.before ≡ length M.particles
  pub below : All (λ (p : Part). Below O.count p.group) O.fan

pub opening_fits : (k : Kind) (M : Mesh) (v : ℕ) (sides : List ℕ) → Fitting (opening_of k M v sides) M
unfolding opening_of
opening_fits k M v sides =
    let F = grid_of k v (fan_of k M v) sides in
    record { before = refl; below = parts_all Any (Below (count_of F)) (λ (p : Part). Below (count_of F) p.group) (λ e g h u. u) (fan_of k M v) (groups_of F) (all_any (fan_of k M v)) (groups_below F) }

-- a change of the mesh that leaves the triangles, and the number of particles
abbrev pub Still : (Mesh → Mesh) → Type 0
Still f = (M : Mesh) → ((f M).triangles ≡ M.triangles) × (length (f M).particles ≡ length M.particles)

split_entries_lem : (n v : ℕ) (l : List ℕ) → each split_of (map (λ c. split_entry c v) (map (λ g. n + g) l)) ≡ map (λ g. (n + g, v)) l
unfolding each
split_entries_lem n v [] = refl
split_entries_lem n v (g ∷ l) = ap (λ (r : List (ℕ × ℕ)). (n + g, v) ∷ r) (split_entries_lem n v l)

gone_entries_lem : (l : List Edge) → each split_of (map (λ (e : Edge). edge_entry e.a e.b) l) ≡ []
unfolding each
gone_entries_lem [] = refl
gone_entries_lem (e ∷ l) = gone_entries_lem l

module _ (O : Opening) (gone : Edge → Bool) (es : List Edge) (log more : List Entry) (none : splits_of more ≡ []) where
  pub step_splits : splits_of (log ++ (split_entries O ++ gone_entries gone es ++ more)) ≡ splits_of log ++ copies_from O.before O.v (O.count - 1)
  unfolding splits_of split_entries made gone_entries copies_from
  step_splits =
      rw (
        each_append split_of log (split_entries O ++ gone_entries gone es ++ more),
        each_append split_of (split_entries O ++ gone_entries gone es) more,
        each_append split_of (split_entries O) (gone_entries gone es),
        split_entries_lem O.before O.v (up_to (O.count - 1)),
        gone_entries_lem (sift gone es),
        none,
        append-nil {A = ℕ × ℕ} (map (λ g. (O.before + g, O.v)) (up_to (O.count - 1))),
        append-nil {A = ℕ × ℕ} (map (λ g. (O.before + g, O.v)) (up_to (O.count - 1))),
      )

-- what splits is a particle that is there
pub splits_here : (O : Opening) (M : Mesh) → splits? O M ≡ true → (2 ≤ O.count) × (O.v < length M.particles)
unfolding splits? ne eq
splits_here O M e =
    let p = and_true _ _ e in (
      leb-true _ _ p.0,
      elim (dec_lt O.v (length M.particles)) [
        | yes h ↦ h
        | no h ↦ absurd (false_true (subst (λ (q : Particle). ne q.inv zero32 ≡ true) (get_or-eq_default M.particles blank {n = O.v} (omega arith)) p.1))
      ],
    )

pub copied_length : (O : Opening) (ps : List Particle) → length (copied O ps) ≡ length ps + (O.count - 1)
unfolding copied up_to
copied_length O ps =
    length-append (map_at_of _ ps) (map _ (tab (O.count - 1) (λ k. k)))
    ∙ ap₂ ◌+◌ (length_map_at _ ps) (length-map (tab (O.count - 1) (λ k. k)) _ ∙ tab_length (O.count - 1) (λ k. k))

module _ (M₀ : Mesh) (R : Run) (T : Traced M₀ R) (O : Opening) (H : Fitting O R.mesh) (more : List Entry) (none : splits_of more ≡ []) (f : Mesh → Mesh) (still : Still f) where
  -- the mesh behind the split
  after : Mesh
  after = f (settled Triangles O (at_longest Triangles O R.mesh))

  after_triangles : after.triangles ≡ rewired_triangles Triangles O R.mesh.triangles
  unfolding after settled at_longest
  after_triangles = (still (settled Triangles O (at_longest Triangles O R.mesh))).0

  after_particles : length after.particles ≡ length R.mesh.particles + (O.count - 1)
  unfolding after settled at_longest
  after_particles = (still (settled Triangles O (at_longest Triangles O R.mesh))).1 ∙ copied_length O R.mesh.particles

  module _ (yes? : splits? O R.mesh ≡ true) (gone : Edge → Bool) (es : List Edge) (e b : ℕ) where
    low : O.v < O.before
    low = let h = (splits_here O R.mesh yes?).1 in omega (arith, H.before)

    sounds : All (Sound O.before) R.mesh.triangles
    sounds = subst (λ (n : ℕ). All (Sound n) R.mesh.triangles) (sym H.before) T.sound

    groups : (i : ℕ) → group_at_of O.fan i < suc (O.count - 1)
    groups i = let h = at_below O.count O.fan i H.below in let c = (splits_here O R.mesh yes?).0 in omega arith

    all_sound : All (Sound (length after.particles)) after.triangles
    unfolding rewired_triangles
    all_sound =
        let h = all_map_at (Sound O.before) (Sound (O.before + (O.count - 1))) (λ i. retargeted O.v (copy_of O (group_at_of O.fan i)))
        (λ i t U. sound_step O.before O.v (O.count - 1) (group_at_of O.fan i) low (groups i) t U) R.mesh.triangles sounds in
        rw (after_triangles, after_particles, ← H.before) h

    all_back : map (traced_back (splits_of (R.log ++ (split_entries O ++ gone_entries gone es ++ more)))) after.triangles ≡ map corners_of M₀.triangles
    unfolding rewired_triangles
    all_back =
        rw (after_triangles, step_splits O gone es R.log more none)
        (map_map_at (Sound O.before) (λ i. retargeted O.v (copy_of O (group_at_of O.fan i)))
        (traced_back (splits_of R.log ++ copies_from O.before O.v (O.count - 1))) (traced_back (splits_of R.log))
        (λ i t U. back_over O.before O.v (O.count - 1) (group_at_of O.fan i) low (groups i) (splits_of R.log) t U) R.mesh.triangles sounds
        ∙ T.back)

    stepped : Traced M₀ (step_to R after (split_entries O ++ gone_entries gone es ++ more) e b)
    unfolding step_to
    stepped = record { sound = all_sound; back = all_back }

  step_by : (c : Bool) → splits? O R.mesh ≡ c → (gone : Edge → Bool) (es : List Edge) (e b : ℕ) → Traced M₀ (pick c (step_to R after (split_entries O ++ gone_entries gone es ++ more) e b) R)
  step_by true y gone es e b = stepped y gone es e b
  step_by false y gone es e b = T

  pub split_traced : Traced M₀ (split_step more f Triangles O R)
  unfolding split_step split_made after
  split_traced = step_by (splits? O R.mesh) refl _ _ _ _

-- v split by any sides
pub sides_traced : (M₀ : Mesh) (R : Run) → Traced M₀ R → (v : ℕ) (sides : List ℕ) → Traced M₀ (split_by_sides_of Triangles v sides R)
unfolding split_by_sides_of splits_of each
sides_traced M₀ R T v sides = split_traced M₀ R T (opening_of Triangles R.mesh v sides) (opening_fits Triangles R.mesh v sides) [] refl (λ M. M) (λ M. (refl, refl))

-- a run of steps that each keep it
pub fold_traced : {A : Type 0} (M₀ : Mesh) (g : Run → A → Run) → ((R : Run) (a : A) → Traced M₀ R → Traced M₀ (g R a)) → (R : Run) (l : List A) → Traced M₀ R → Traced M₀ (fold g R l)
unfolding fold
fold_traced M₀ g k R [] T = T
fold_traced M₀ g k R (a ∷ l) T = fold_traced M₀ g k (g R a) l (k R a T)

map_self : (l : List ℕ) → map (λ x. x) l ≡ l
map_self [] = refl
map_self (x ∷ l) = ap (λ (r : List ℕ). x ∷ r) (map_self l)

pub start_traced : (M : Mesh) → All (Sound (length M.particles)) M.triangles → Traced M (start M)
unfolding start origin_of splits_of each
start_traced M S = record { sound = S; back = map_ext (λ (t : Triangle). map (λ x. x) (corners_of t)) corners_of (λ t. map_self (corners_of t)) M.triangles }

-- ---- the cut

pinched_traced : (M₀ : Mesh) (R : Run) → Traced M₀ R → Traced M₀ (split_pinched_of Triangles R)
unfolding split_pinched_of split_free
pinched_traced M₀ R T = fold_traced M₀ (split_free Triangles) (λ S v U. sides_traced M₀ S U v _) R (pinched Triangles R) T

pick_traced : (M₀ : Mesh) (b : Bool) (R S : Run) → Traced M₀ R → Traced M₀ S → Traced M₀ (pick b R S)
pick_traced M₀ true R S T U = T
pick_traced M₀ false R S T U = U

-- a cut of triangles keeps them
pub cut_traced : (M₀ : Mesh) (B : Blade) (R : Run) → Traced M₀ R → Traced M₀ (cut_facets_of B R)
unfolding cut_facets_of split_by_blade
cut_traced M₀ B R T =
    let U = fold_traced M₀ (split_by_blade Triangles B) (λ S v W. sides_traced M₀ S W v _) R (candidates B R.mesh) T in
    let S = fold (split_by_blade Triangles B) R (candidates B R.mesh) in
    pick_traced M₀ (empty (splits_of S.log)) S (split_pinched_of Triangles S) U (pinched_traced M₀ S U)

-- ---- the crack

pub still_torn : (O : Opening) (xy : ℕ × ℕ) → Still (torn O xy)
unfolding torn damaged_at slackened
still_torn O xy M = (refl, length_map_at _ M.particles)

pub no_splits : (log : List Entry) (p : Edge → Bool) (es : List Edge) → splits_of (log ++ gone_entries p es) ≡ splits_of log
unfolding splits_of gone_entries
no_splits log p es = each_append split_of log (gone_entries p es) ∙ ap (λ (l : List (ℕ × ℕ)). each split_of log ++ l) (gone_entries_lem (sift p es)) ∙ append-nil (each split_of log)

pub straddlers_traced : (M₀ : Mesh) (R : Run) → Traced M₀ R → Traced M₀ (remove_straddlers_of Triangles R)
unfolding remove_straddlers_of straddlers_gone without_straddlers step_to
straddlers_traced M₀ R T =
    record {
      sound = T.sound;
      back = rw (no_splits R.log (across? Triangles (elements_of Triangles R.mesh) (body_labels (elements_of Triangles R.mesh))) R.mesh.edges) T.back;
    }

-- each way of a torn edge is an opening of the mesh
abbrev FitWay : Mesh → Way → Type 0
FitWay M w = Fitting w.opening M

way_fits : (loads : List Float) (M : Mesh) (v u : ℕ) → All (FitWay M) (way_at Triangles loads M v u)
unfolding way_at
way_fits loads M v u =
    let sides = map (far_side M v u) (fan_of Triangles M v) in
    pick_one (FitWay M) (two_sided_of M v sides) (record { load = mean_load Triangles loads M v u; opening = opening_of Triangles M v sides }) (opening_fits Triangles M v sides)

pub order_fits : (P : Way → Type 0) (ps qs : List Way) → All P ps → All P qs → All P (in_order ps qs)
order_fits P [] qs u w = w
order_fits P (p ∷ ps) [] u w = u
order_fits P (p ∷ ps) (q ∷ qs) u w = both (before? q p)
  where
    both : (b : Bool) → All P (pick b (q ∷ p ∷ []) (p ∷ q ∷ []))
    both true = (w.0, (u.0, tt))
    both false = (u.0, (w.0, tt))

by_traced : (M₀ : Mesh) (R : Run) → Traced M₀ R → (o : Option Way) → Found (FitWay R.mesh) o → (ab xy : ℕ × ℕ) → Traced M₀ (crack_by Triangles o ab xy R)
unfolding crack_by splits_of each
by_traced M₀ R T nothing H ab xy = T
by_traced M₀ R T (some w) H ab xy = split_traced M₀ R T w.opening H _ refl (torn w.opening xy) (still_torn w.opening xy)

pair_traced : (M₀ : Mesh) (loads : List Float) (min : ℕ) (ab : ℕ × ℕ) (o : Option (ℕ × ℕ)) (R : Run) → Traced M₀ R → Traced M₀ (crack_pair Triangles loads min ab o R)
unfolding crack_pair ways_of
pair_traced M₀ loads min ab nothing R T = T
pair_traced M₀ loads min ab (some xy) R T =
    by_traced M₀ R T _
    (find_fits (FitWay R.mesh) _ (ways_of Triangles loads R.mesh xy) (order_fits (FitWay R.mesh) (way_at Triangles loads R.mesh xy.0 xy.1) (way_at Triangles loads R.mesh xy.1 xy.0) (way_fits loads R.mesh xy.0 xy.1) (way_fits loads R.mesh xy.1 xy.0)))
    ab xy

-- a crack of triangles keeps them
pub crack_traced : (M₀ : Mesh) (min : ℕ) (is : List ℕ) (R : Run) → Traced M₀ R → Traced M₀ (crack Triangles min is R)
unfolding crack crack_edge
crack_traced M₀ min is R T =
    let U = fold_traced M₀ (crack_edge Triangles (loads_of Triangles R.mesh) min) (λ S ab W. pair_traced M₀ _ min ab (current_pair Triangles S ab) S W) R (torn_ends R.mesh is) T in
    let S = fold (crack_edge Triangles (loads_of Triangles R.mesh) min) R (torn_ends R.mesh is) in
    pick_traced M₀ (empty (splits_of S.log)) S (remove_straddlers_of Triangles (split_pinched_of Triangles S)) U (straddlers_traced M₀ _ (pinched_traced M₀ S U))
