-- Laws of links: edges linked from the last to the first by the sums of their ends, and what a run of other edges leaves out. Assumes nothing.
use Prim.Native.Nat.{ℕ, zero, suc, ◌+◌, ◌-◌, ◌/◌, ◌<◌, ◌≤◌}
use native.Mathlib.Omega.{arith}
use native.Mathlib.Decide.{ℕ_discrete}
use mathlib.Core.Logic.{◌⊎◌, inl, inr, ⊎_elim}
use mathlib.Core.Path.{◌≡◌, refl, sym, ◌∙◌, ap, subst}
use mathlib.Core.Bool.{Bool, true, false, ◌&&◌}
use mathlib.Core.List.{List, [], ◌∷◌, ◌++◌, append-nil}
use lib.ListN.{length, get_or, set, length-set}
use lib.Ieee.{Float}
use borrow.Author.Tests.{ne_eqb}
use Rattle.lists.specs.Lists.{pick, stands, sift, tab}
use Rattle.lists.proofs.Sifts.{and_true}
use Rattle.lists.proofs.Steps.{sift_step}
use Rattle.lists.proofs.Stores.{stored, tab_at, tab_length}
use Rattle.columns.proofs.Cells.{col_0, col_1}
use Rattle.model.specs.Mesh.{blank_triangle}
use Rattle.model.specs.Trace.{Sound}
use Rattle.model_laws.proofs.Laws.{all_in}
use Rattle.model_laws.proofs.Indexed.{sound_wide}
use Rattle.model_laws.proofs.Accepted.{accepted_indexed}
use Rattle.mesh.specs.At.{triangle_row, triangles_at, mesh_at}
use Rattle.mesh.specs.Given.{Lent}
use Rattle.mesh.specs.declared.Counts.{Counts}
use Rattle.mesh.specs.declared.Rooms.{Rooms}
use Rattle.work.specs.Places.{EndsIn}
use Rattle.work.specs.Working.{Ready}
use Rattle.work.proofs.Placed.{particles_count, ends_in}
use Rattle.tear.specs.Loads.{end_sum, FirstFrom, Linked, Numbered}
use Rattle.lists.proofs.Truths.{not_true}

-- ---- linking

-- in empty buckets no edge is linked
linked_start : (e : ℕ) (ends heads nexts : List ℕ) → ((s : ℕ) → s < 2048 → get_or heads s 0 ≡ e) → Linked e e ends heads nexts
linked_start e ends heads nexts h =
    record {
      head = λ s l.
          let q = h s l in
          record { from = omega (arith, q); inside = omega (arith, q); sums = λ k. absurd (omega (arith, q)); none = λ i a b p. omega (arith, q) };
      next = λ i a b. absurd (omega arith);
    }

-- an edge is the first from itself on with its sum
first_here : (j e : ℕ) (ends : List ℕ) → j < e → FirstFrom j (end_sum ends j) e ends j
first_here j e ends h = record { from = omega arith; inside = omega arith; sums = λ q. refl; none = λ i a b p. omega arith }

-- an edge of another sum is not the first
first_past : (j s e : ℕ) (ends : List ℕ) (k : ℕ) → (end_sum ends j ≡ s → ⊥) → FirstFrom (j + 1) s e ends k → FirstFrom j s e ends k
first_past j s e ends k n F =
    record {
      from = omega (arith, F.from);
      inside = F.inside;
      sums = F.sums;
      none = λ i a b p. elim (ℕ_discrete j i) [ yes q ↦ n (ap (end_sum ends) q ∙ p) | no q ↦ F.none i (omega arith) b p ];
    }

module _ (j e : ℕ) (ends heads nexts : List ℕ) (L : Linked (j + 1) e ends heads nexts) (h : j < e) (small : end_sum ends j < 2048) (long : 2048 ≤ length heads) (room : j < length nexts) where
  -- one edge more: it is the first of its bucket, and the first so far comes behind it
  linked_more : Linked j e ends (set heads (end_sum ends j) j) (set nexts j (get_or heads (end_sum ends j) 0))
  linked_more =
      let s = end_sum ends j in
      record {
        head = λ r l.
            ⊎_elim
            (λ w. subst (λ (k : ℕ). FirstFrom j r e ends k) (sym w.1) (subst (λ (a : ℕ). FirstFrom j a e ends j) (sym w.0) (first_here j e ends h)))
            (λ w. subst (λ (k : ℕ). FirstFrom j r e ends k) (sym w.1) (first_past j r e ends (get_or heads r 0) (λ q. w.0 (sym q)) (L.head r l)))
            (stored heads s j r (omega arith));
        next = λ i a b.
            ⊎_elim
            (λ w. subst (λ (k : ℕ). FirstFrom (i + 1) (end_sum ends i) e ends k) (sym w.1) (subst (λ (m : ℕ). FirstFrom (m + 1) (end_sum ends m) e ends (get_or heads s 0)) (sym w.0) (L.head s small)))
            (λ w. subst (λ (k : ℕ). FirstFrom (i + 1) (end_sum ends i) e ends k) (sym w.1) (L.next i (let n = w.0 in omega (arith, n)) b))
            (stored nexts j (get_or heads s 0) i room);
      }

-- at the head of the loop: the edges from j on are linked
pub record Linking (e : ℕ) (ends heads₀ nexts₀ heads nexts : List ℕ) (j : ℕ) : Type 0 where
  pub inside : j ≤ e
  pub heads_long : length heads ≡ length heads₀
  pub nexts_long : length nexts ≡ length nexts₀
  pub linked : Linked j e ends heads nexts

pub linking_start : (e : ℕ) (ends heads nexts : List ℕ) → ((s : ℕ) → s < 2048 → get_or heads s 0 ≡ e) → Linking e ends heads nexts heads nexts e
linking_start e ends heads nexts h = record { inside = omega arith; heads_long = refl; nexts_long = refl; linked = linked_start e ends heads nexts h }

-- the sum of two ends below 1,024
sum_small : (e : ℕ) (ends : List ℕ) (i : ℕ) → EndsIn 1024 e ends → i < e → end_sum ends i < 2047
sum_small e ends i B h =
    let C = length ends / 4 in
    let a : get_or ends i 0 < 1024 = subst (λ (x : ℕ). x < 1024) (col_0 0 C ends i) (B.first i h) in
    let b : get_or ends (C + i) 0 < 1024 = subst (λ (x : ℕ). x < 1024) (col_1 0 C ends i) (B.second i h) in
    omega arith

module _ (e : ℕ) (ends heads₀ nexts₀ heads nexts : List ℕ) (j : ℕ) (L : Linking e ends heads₀ nexts₀ heads nexts j) where
  -- the sum that a turn meets
  pub sum_met : EndsIn 1024 e ends → 0 < j → end_sum ends (j - 1) < 2047
  sum_met B h = sum_small e ends (j - 1) B (omega (arith, L.inside))

  -- the head that a turn reads is at least j: where it fits, the number of the edge does
  pub head_met : EndsIn 1024 e ends → 0 < j → j ≤ get_or heads (end_sum ends (j - 1)) 0
  head_met B h = let small = sum_met B h in (L.linked.head (end_sum ends (j - 1)) (omega (arith, small))).from

  -- a turn
  pub linking_more : EndsIn 1024 e ends → 2048 ≤ length heads₀ → e ≤ length nexts₀ → 0 < j → Linking e ends heads₀ nexts₀ (set heads (end_sum ends (j - 1)) (j - 1)) (set nexts (j - 1) (get_or heads (end_sum ends (j - 1)) 0)) (j - 1)
  linking_more B long room h =
      let i = j - 1 in
      let q : j ≡ i + 1 = omega arith in
      let small = sum_met B h in
      record {
        inside = omega (arith, L.inside);
        heads_long = length-set heads (end_sum ends i) i ∙ L.heads_long;
        nexts_long = length-set nexts i (get_or heads (end_sum ends i) 0) ∙ L.nexts_long;
        linked = linked_more i e ends heads nexts (subst (λ (k : ℕ). Linked k e ends heads nexts) q L.linked) (omega (arith, L.inside)) (omega (arith, small)) (omega (arith, L.heads_long)) (omega (arith, L.inside, L.nexts_long));
      }

  -- after the last turn
  pub linking_done : j ≤ 0 → Linked 0 e ends heads nexts
  linking_done h = let q : j ≡ 0 = omega arith in subst (λ (k : ℕ). Linked k e ends heads nexts) q L.linked

-- ---- edges of another sum

-- one of two ends
one_of : (x a b : ℕ) → stands x (a ∷ b ∷ []) ≡ true → (a ≡ x) ⊎ (b ≡ x)
one_of x a b q = by (ℕ_discrete a x) (ℕ_discrete b x)
  where
    by : Dec (a ≡ x) → Dec (b ≡ x) → (a ≡ x) ⊎ (b ≡ x)
    by (yes p) d = inl p
    by (no n) (yes p) = inr p
    by (no n) (no m) = let f : ◌≡◌ {A = Bool} false true = rw (ne_eqb a x n, ne_eqb b x m) at q in let z : ◌≡◌ {A = ℕ} 0 1 = cc in absurd (omega arith)

-- two that differ are the ends of an edge only if their sum is its own
pub other_sum : (x y a b : ℕ) → (x ≡ y → ⊥) → (a + b ≡ x + y → ⊥) → stands x (a ∷ b ∷ []) && stands y (a ∷ b ∷ []) ≡ false
other_sum x y a b differ n =
    not_true _
    (λ q.
    let p = and_true _ _ q in
    ⊎_elim
    (λ u. ⊎_elim (λ v. differ (sym u ∙ v)) (λ v. n (omega arith)) (one_of y a b p.1))
    (λ u. ⊎_elim (λ v. n (omega arith)) (λ v. differ (sym u ∙ v)) (one_of y a b p.1))
    (one_of x a b p.0))

-- a run of rows of which none passes changes nothing
pub sift_run : {A : Type 0} (p : A → Bool) (f : ℕ → A) (i d : ℕ) → ((j : ℕ) → i ≤ j → j < i + d → p (f j) ≡ false) → sift p (tab (i + d) f) ≡ sift p (tab i f)
sift_run p f i zero h = let e : i + 0 ≡ i = omega arith in ap (λ (n : ℕ). sift p (tab n f)) e
sift_run p f i (suc d) h =
    let e : i + suc d ≡ i + d + 1 = omega arith in
    let l = sift p (tab (i + d) f) in
    ap (λ (n : ℕ). sift p (tab n f)) e ∙ sift_step p f (i + d) ∙ ap (λ (t : Bool). l ++ pick t (f (i + d) ∷ []) []) (h (i + d) (omega arith) (omega arith)) ∙ append-nil l
    ∙ sift_run p f i d (λ j a b. h j a (omega arith))

-- ---- the numbers of a mesh whose indices fit

module _ (L : Rooms) (k : Counts) (points : List Float) (roots corners : List ℕ) (volumes : List Float) (ends : List ℕ) (lengths : List Float) (outline : List ℕ) (I : Lent)
    (R : Ready L k I (mesh_at k points roots corners volumes ends lengths outline)) where
  few_particles : k.particles ≤ 1024
  few_particles = omega (arith, R.counts.particles, R.rooms.few_particles)

  -- the corners of a triangle
  corners_few : (j : ℕ) → j < k.triangles → Sound 1024 (triangle_row (length corners / 3) (length volumes / 2) corners volumes j)
  unfolding mesh_at triangles_at
  corners_few j l =
      let row = triangle_row (length corners / 3) (length volumes / 2) corners volumes in
      let n = length (mesh_at k points roots corners volumes ends lengths outline).particles in
      let S : Sound n (row j) =
      subst (Sound n) (tab_at k.triangles row j blank_triangle l)
      (all_in (Sound n) (tab k.triangles row) j blank_triangle (omega (arith, tab_length k.triangles row)) (accepted_indexed (mesh_at k points roots corners volumes ends lengths outline) R.indices).triangles) in
      let q : n + (1024 - n) ≡ 1024 = omega (arith, few_particles, particles_count k points roots corners volumes ends lengths outline) in
      subst (λ (m : ℕ). Sound m (row j)) q (sound_wide n (1024 - n) (row j) S)

  pub numbered : Numbered k.triangles k.edges corners volumes ends
  numbered =
      let E = ends_in k points roots corners volumes ends lengths outline R.indices in
      record {
        few = omega (arith, R.counts.edges, R.rooms.few_edges);
        ends_in = record { first = λ j l. omega (arith, E.first j l, few_particles); second = λ j l. omega (arith, E.second j l, few_particles) };
        corners_in = corners_few;
      }
