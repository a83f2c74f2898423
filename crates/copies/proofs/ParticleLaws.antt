-- Laws of the particles of a split: a particle with another mass, and copies behind the particles. Assumes nothing.
use Prim.Native.Nat.{ℕ, zero, suc, ◌+◌, ◌*◌, ◌-◌, ◌/◌, ◌≤◌, ◌<◌, zero-le}
use native.Mathlib.Nat.{le_of_suc-le-suc, not-suc-le-zero}
use native.Mathlib.Omega.{arith}
use native.Mathlib.Decide.{ℕ_discrete}
use native.Mathlib.Numerals.{add-one}
use mathlib.Core.Path.{◌≡◌, refl, sym, ap, ap₂, ◌∙◌}
use mathlib.Core.List.{List, [], ◌∷◌, ◌++◌, map, append-nil, append_assoc}
use lib.ListN.{length, get_or, set, length-set, get_or-append}
use lib.Dec.{eqb-zero-suc, eqb-suc-zero, eqb-suc-suc}
use lib.Ieee.{Float, nan}
use borrow.Author.Tests.{eq-eqb, ne_eqb}
use Rattle.lists.specs.Lists.{map_at_of, tab, up_to}
use Rattle.lists.proofs.Sifts.{map_tab, tab_ext}
use Rattle.lists.proofs.Stores.{tab_at}
use Rattle.lists.proofs.Rows.{rows_map, map_at_same, map_at_ext}
use Rattle.lists.proofs.Steps.{tab_step}
use Rattle.float.specs.Numbers.{inv_of}
use Rattle.columns.specs.Block.{cell}
use Rattle.columns.proofs.Cells.{store_same, store_row, store_col}
use Rattle.model.specs.Mesh.{Particle, blank}
use Rattle.model.specs.Split.{Opening, weight_of, mass_of, weighed, portion, only_at, copied}
use Rattle.mesh.specs.At.{particle_row, particles_at}
use Rattle.mesh.specs.Workers.{with_copy}
use Rattle.mesh.proofs.Lists.{particles_length}
use Rattle.mesh.proofs.Columns.{by_columns, by_columns_but}
use Rattle.mesh.specs.Widths.{point_columns}
use Rattle.split_plan.specs.Opened.{mass_by}
use Rattle.split_plan.specs.Answers.{WeightIs}
use Rattle.split_plan.proofs.Weights.{mass_by_lem}
use Rattle.copies.specs.Particles.{WeightedBy, ParticlesCopied, CopyRoom, Weighed}

-- ---- v with another mass

-- two stores, of mass and of inverse mass, in the row of v
module _ (v : ℕ) (m w : Float) (S : List Float) (here : v < length S / point_columns) where
  -- columns of so many places
  abbrev P : ℕ
  P = length S / point_columns

  -- with the mass stored
  abbrev S₁ : List Float
  S₁ = set S (4 * P + v) m

  -- with the inverse mass stored too
  abbrev S₂ : List Float
  S₂ = set S₁ (5 * P + v) w

  -- another row
  other_row : (c k : ℕ) → k < P → (k ≡ v → ⊥) → cell nan P S₂ c k ≡ cell nan P S c k
  other_row c k h ne = store_row nan P S₁ 5 v w c k h here ne ∙ store_row nan P S 4 v m c k h here ne

  -- another column
  other_col : (c : ℕ) → c < point_columns → (c ≡ 4 → ⊥) → (c ≡ 5 → ⊥) → cell nan P S₂ c v ≡ cell nan P S c v
  other_col c h no_mass no_inverse = store_col nan P S₁ 5 v w c v here here no_inverse ∙ store_col nan P S 4 v m c v here here no_mass

  -- row by row
  weigh_row : (R : ℕ) (roots : List ℕ) (k : ℕ) → k < P → particle_row P R S₂ roots k ≡ only_at v (weighed m w) k (particle_row P R S roots k)
  weigh_row R roots k h = by (ℕ_discrete k v)
    where
      by : Dec (k ≡ v) → particle_row P R S₂ roots k ≡ only_at v (weighed m w) k (particle_row P R S roots k)
      by (yes q) =
          rw (eq-eqb k v q, q)
          (by_columns_but _ (λ c. cell nan P S c v) m w _ _ _ _ other_col
          (store_col nan P S₁ 5 v w 4 v here here (λ e. omega arith) ∙ store_same nan P S 4 v m (omega arith))
          (store_same nan P S₁ 5 v w (simp length-set (omega arith)))
          refl
          refl)
      by (no q) =
          rw (ne_eqb k v q)
          (by_columns _ _ _ _ _ _ (λ c l. other_row c k h q) refl refl)

  -- the particles with the masses of v stored
  pub weighed_by : Weighed v m w S (set (set S (4 * (length S / point_columns) + v) m) (5 * (length S / point_columns) + v) w)
  unfolding particles_at
  weighed_by =
      record {
        particles =
            λ n roots h.
            let e : length S₂ ≡ length S = simp length-set in
            rw e
            (tab_ext n _ _ (λ k l. weigh_row (length roots / 2) roots k (omega arith)) ∙ sym (rows_map (only_at v (weighed m w)) n _));
      }

-- ---- copies behind the particles

-- at the head of the loop: g copies stand behind the n particles, for every opening of these weights
pub record Copying (v n count parts : ℕ) (total : Float) (groups : List ℕ) (measures points₀ : List Float) (roots₀ : List ℕ) (points : List Float) (roots : List ℕ) (g : ℕ) : Type 0 where
  pub below : g ≤ count - 1
  pub points_long : length points ≡ length points₀
  pub roots_long : length roots ≡ length roots₀
  pub behind :
      (O : Opening) → WeightedBy O v count parts total groups measures
      → particles_at (n + g) points roots ≡ particles_at n points₀ roots₀ ++ tab g (λ j. portion O (suc j) (get_or (particles_at n points₀ roots₀) v blank))

-- a copy of one of the first particles
with_copy_lem : (v : ℕ) (m w : Float) (A B : List Particle) → v < length A → with_copy v m w (A ++ B) ≡ A ++ (B ++ (weighed m w (get_or A v blank) ∷ []))
unfolding with_copy
with_copy_lem v m w A B h = rw (get_or-append A B blank v h) (append_assoc A B (weighed m w (get_or A v blank) ∷ []))

-- a change at a place of the first list leaves the second
only_first : {A : Type 0} (f : A → A) (v : ℕ) (l t : List A) → v < length l → map_at_of (only_at v f) (l ++ t) ≡ map_at_of (only_at v f) l ++ t
unfolding map_at_of
only_first f v [] t h = absurd (not-suc-le-zero h)
only_first {A} f zero (a ∷ l) t h =
    let same : (k : ℕ) (x : A) → only_at 0 f (suc k) x ≡ x = λ k x. rw (eqb-suc-zero k) in
    ap₂ ◌∷◌ refl (map_at_same _ (l ++ t) same ∙ ap (λ (s : List A). s ++ t) (sym (map_at_same _ l same)))
only_first {A} f (suc v) (a ∷ l) t h =
    let down : (s : List A) → map_at_of (λ k. only_at (suc v) f (suc k)) s ≡ map_at_of (only_at v f) s = λ s. map_at_ext _ _ s (λ k x. rw (eqb-suc-suc k v)) in
    ap₂ ◌∷◌ (rw (eqb-zero-suc v)) (down (l ++ t) ∙ only_first f v l t (le_of_suc-le-suc h) ∙ ap (λ (s : List A). s ++ t) (sym (down l)))

-- two changes at one place that agree on what stands there
pub only_same : {A : Type 0} (f g : A → A) (v : ℕ) (l : List A) (d : A) → v < length l → f (get_or l v d) ≡ g (get_or l v d) → map_at_of (only_at v f) l ≡ map_at_of (only_at v g) l
unfolding map_at_of
only_same f g v [] d h e = absurd (not-suc-le-zero h)
only_same f g zero (a ∷ l) d h e = ap₂ ◌∷◌ e (map_at_ext _ _ l (λ k x. rw (eqb-suc-zero k)))
only_same {A} f g (suc v) (a ∷ l) d h e =
    let down : (q : A → A) → map_at_of (λ k. only_at (suc v) q (suc k)) l ≡ map_at_of (only_at v q) l = λ q. map_at_ext _ _ l (λ k x. rw (eqb-suc-suc k v)) in
    ap₂ ◌∷◌ (rw (eqb-zero-suc v)) (down f ∙ only_same f g v l d (le_of_suc-le-suc h) e ∙ sym (down g))

-- the mass of v, as the program reads it
pub mass_read : (v n : ℕ) (points : List Float) (roots : List ℕ) → v < n → get_or points (4 * (length points / point_columns) + v) nan ≡ (get_or (particles_at n points roots) v blank).mass
unfolding particles_at cell
mass_read v n points roots h = ap (λ (p : Particle). p.mass) (sym (tab_at n (particle_row (length points / point_columns) (length roots / 2) points roots) v blank h))

module _ (v n count parts : ℕ) (total : Float) (groups : List ℕ) (measures points₀ : List Float) (roots₀ : List ℕ) where
  -- the particles before the split
  abbrev before : List Particle
  before = particles_at n points₀ roots₀

  -- v among them
  abbrev old : Particle
  old = get_or before v blank

  -- its mass, as the program reads it
  abbrev mass : Float
  mass = get_or points₀ (4 * (length points₀ / point_columns) + v) nan

  -- the loop at its head
  abbrev CopyingTo : List Float → List ℕ → ℕ → Type 0
  CopyingTo = Copying v n count parts total groups measures points₀ roots₀

  -- v with the mass of a group is the portion of the group
  portion_is :
      (O : Opening) → WeightedBy O v count parts total groups measures → v < n → (g : ℕ) (own m w : Float) → WeightIs g parts groups measures own → m ≡ mass_by mass own total count → w ≡ inv_of m
      → weighed m w old ≡ portion O g old
  unfolding portion
  portion_is O W here g own m w I em ew = ap₂ (λ (a b : Float). weighed a b old) q (ew ∙ ap inv_of q)
    where
      q : m ≡ mass_of O old.mass g
      q =
          em ∙ ap₂ (λ (a b : Float). mass_by a b total count) (mass_read v n points₀ roots₀ here) (I.is O W.grouped W.weighted)
          ∙ ap₂ (λ (t : Float) (c : ℕ). mass_by old.mass (weight_of O.fan g) t c) W.total_is (sym W.count_is)
          ∙ sym (mass_by_lem O old.mass g)

  -- before the first turn
  pub copying_start : CopyingTo points₀ roots₀ 0
  unfolding tab
  copying_start =
      let e : n + 0 ≡ n = omega arith in
      record { below = zero-le; points_long = refl; roots_long = refl; behind = λ O W. ap (λ (k : ℕ). particles_at k points₀ roots₀) e ∙ sym (append-nil before) }

  -- a turn appends one copy more
  pub copying_more :
      (points points' : List Float) (roots roots' : List ℕ) (g : ℕ) (own m w : Float) → CopyingTo points roots g → v < n → g < count - 1
      → WeightIs (g + 1) parts groups measures own → m ≡ mass_by mass own total count → w ≡ inv_of m
      → particles_at (n + g + 1) points' roots' ≡ with_copy v m w (particles_at (n + g) points roots) → length points' ≡ length points → length roots' ≡ length roots
      → CopyingTo points' roots' (g + 1)
  copying_more points points' roots roots' g own m w C here l I em ew q lp lr =
      let e : n + (g + 1) ≡ n + g + 1 = omega arith in
      let long : v < length before = rw (particles_length n points₀ roots₀) here in
      record {
        below = omega arith;
        points_long = lp ∙ C.points_long;
        roots_long = lr ∙ C.roots_long;
        behind =
            λ O W.
            let f : ℕ → Particle = λ j. portion O (suc j) old in
            let new : weighed m w old ≡ f g = portion_is O W here (g + 1) own m w I em ew ∙ ap (λ (k : ℕ). portion O k old) (add-one g) in
            ap (λ (k : ℕ). particles_at k points' roots') e ∙ q ∙ ap (with_copy v m w) (C.behind O W) ∙ with_copy_lem v m w before (tab g f) long
            ∙ ap (λ (p : Particle). before ++ (tab g f ++ (p ∷ []))) new
            ∙ ap (λ (t : List Particle). before ++ t) (sym (tab_step f g));
      }

  -- v with the portion of group 0, and the copies behind, as the model writes them
  copied_is :
      (O : Opening) → WeightedBy O v count parts total groups measures
      → map_at_of (only_at v (portion O 0)) before ++ tab (count - 1) (λ j. portion O (suc j) old) ≡ copied O before
  unfolding copied up_to
  copied_is O W =
      ap (λ (t : List Particle). map_at_of (only_at v (portion O 0)) before ++ t) (sym (map_tab (λ g. portion O (suc g) old) (count - 1) (λ k. k)))
      ∙ ap₂ (λ u c. map_at_of (only_at u (portion O 0)) before ++ map (λ g. portion O (suc g) (get_or before u blank)) (tab (c - 1) (λ k. k))) (sym W.at) (sym W.count_is)

  -- after the last turn, and with v weighed, the particles are those of the split
  pub copying_done :
      (points points' : List Float) (roots : List ℕ) (g : ℕ) (own m w : Float) → CopyRoom v n count parts (length groups) (length measures) (length points₀) (length roots₀)
      → CopyingTo points roots g → count - 1 ≤ g → WeightIs 0 parts groups measures own → m ≡ mass_by mass own total count → w ≡ inv_of m → Weighed v m w points points'
      → ParticlesCopied v n count parts total groups measures points₀ points' roots₀ roots
  copying_done points points' roots g own m w R C l I em ew D =
      let e : g ≡ count - 1 = omega (arith, C.below) in
      let k : n + count - 1 ≡ n + g = omega (arith, R.two) in
      let fits : n + g ≤ length points / point_columns = rw C.points_long (omega (arith, R.points)) in
      let long : v < length before = rw (particles_length n points₀ roots₀) R.here in
      record {
        particles =
            λ O W.
            let f : ℕ → Particle = λ j. portion O (suc j) old in
            ap (λ (j : ℕ). particles_at j points' roots) k ∙ D.particles (n + g) roots fits ∙ ap (map_at_of (only_at v (weighed m w))) (C.behind O W)
            ∙ only_first (weighed m w) v before (tab g f) long
            ∙ ap₂ (λ (s : List Particle) (j : ℕ). s ++ tab j f) (only_same (weighed m w) (portion O 0) v before blank long (portion_is O W R.here 0 own m w I em ew)) e
            ∙ copied_is O W;
      }
