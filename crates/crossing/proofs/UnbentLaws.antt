-- The marked bend edges go: masks by number, and the step that the definition takes. Assumes nothing.
use mathlib.Core.Path.{◌≡◌, refl, sym, ◌∙◌, ap, ap₂, subst}
use mathlib.Core.Bool.{Bool, true, false, not}
use mathlib.Core.List.{List, [], ◌∷◌, ◌++◌, map, map-append}
use Prim.Native.Nat.{ℕ, zero, suc, ◌+◌, ◌-◌, ◌/◌, ◌<◌, ◌≤◌}
use native.Mathlib.Omega.{arith}
use lib.Ieee.{Float}
use lib.Dec.{eqb}
use borrow.Author.Tests.{eq-eqb, ne_eqb}
use Rattle.work.proofs.Removals.{Counting, counting_start, counting_few, counting_step}
use lib.ListN.{length, get_or, length-append, length-map, replicate}
use Rattle.lists.specs.Lists.{pick, stands, sift, sift_at, keep, tab, up_to, padded}
use Rattle.lists.proofs.Stores.{tab_length}
use Rattle.lists.proofs.Walks.{sift_same}
use Rattle.model.specs.Mesh.{Edge, Mesh}
use Rattle.model.specs.Run.{Entry, edge, Run}
use Rattle.model.specs.Cut.{unbent, with_edges}
use Rattle.mesh.specs.At.{particles_at, triangles_at, edges_at, boundary_at, edge_row, side_row, mesh_at}
use Rattle.mesh.specs.Log.{Words, World, words_of, log_at, world_of, world_at}
use Rattle.mesh.specs.Given.{as_rooms}
use Rattle.mesh.specs.declared.Counts.{Counts}
use Rattle.mesh.specs.declared.Rooms.{Rooms}
use Rattle.mesh.proofs.Lists.{particles_length, edges_length, log_length, mesh_path, world_path}
use Rattle.work.specs.Working.{Within, Works}
use Rattle.work.specs.Removal.{marked, marked_of, gone_words, GoneTo}
use Rattle.work.specs.Ran.{Ran}
use Rattle.work.proofs.Runs.{room_enough, log_lacks, need_behind, StepTold, went_step}
use Rattle.crossing.specs.Unbent.{MarksOf, UnbentTold}
use Rattle.std.specs.Prelude.{Ok, Err}

-- ---- masks by number

-- rows that a test of their numbers passes
pick_rows : {A : Type 0} (t u : Bool) (a : A) (x : List A) (f : ℕ → A) (i : ℕ) (l : List ℕ) → t ≡ u → a ≡ f i → x ≡ map f l → pick t (a ∷ x) x ≡ map f (pick u (i ∷ l) l)
pick_rows {A} t true a x f i l c e h = ap (λ (b : Bool). pick b (a ∷ x) x) c ∙ ap₂ (λ (b : A) (z : List A). b ∷ z) e h
pick_rows t false a x f i l c e h = ap (λ (b : Bool). pick b (a ∷ x) x) c ∙ h

rows_numbered : {A : Type 0} (p : ℕ → Bool) (row : ℕ → A) (n : ℕ) (g : ℕ → A) (q : ℕ → Bool) (h : ℕ → ℕ) → ((k : ℕ) → q k ≡ p (h k)) → ((k : ℕ) → g k ≡ row (h k))
    → sift_at (λ j a. q j) (tab n g) ≡ map row (sift p (tab n h))
unfolding sift_at tab sift
rows_numbered p row zero g q h c e = refl
rows_numbered p row (suc n) g q h c e =
    pick_rows (q 0) (p (h 0)) (g 0) _ row (h 0) (sift p (tab n (λ k. h (suc k)))) (c 0) (e 0)
    (rows_numbered p row n (λ k. g (suc k)) (λ k. q (suc k)) (λ k. h (suc k)) (λ k. c (suc k)) (λ k. e (suc k)))

-- rows that a mask leaves
pick_kept : {A : Type 0} (t u : Bool) (a : A) (x y : List A) → t ≡ u → x ≡ y → pick t x (a ∷ x) ≡ pick (not u) (a ∷ y) y
pick_kept t true a x y c e = ap (λ (b : Bool). pick b x (a ∷ x)) c ∙ e
pick_kept {A} t false a x y c e = ap (λ (b : Bool). pick b x (a ∷ x)) c ∙ ap (λ (z : List A). a ∷ z) e

keep_numbered : {A : Type 0} (p : ℕ → Bool) (mask : List ℕ) (n : ℕ) (row : ℕ → A) → ((j : ℕ) → j < n → marked mask j ≡ p j) → keep mask (tab n row) ≡ sift_at (λ j a. not (p j)) (tab n row)
unfolding sift_at tab keep
keep_numbered p mask zero row h = refl
keep_numbered p [] (suc n) row h =
    pick_kept false (p 0) (row 0) (keep [] (tab n (λ k. row (suc k)))) (sift_at (λ j a. not (p (suc j))) (tab n (λ k. row (suc k)))) (h 0 (omega arith))
    (keep_numbered (λ k. p (suc k)) [] n (λ k. row (suc k)) (λ j l. h (suc j) (omega arith)))
keep_numbered p (b ∷ m) (suc n) row h =
    pick_kept (eqb b 1) (p 0) (row 0) (keep m (tab n (λ k. row (suc k)))) (sift_at (λ j a. not (p (suc j))) (tab n (λ k. row (suc k)))) (h 0 (omega arith))
    (keep_numbered (λ k. p (suc k)) m n (λ k. row (suc k)) (λ j l. h (suc j) (omega arith)))

-- a mask of zeros leaves all
zeros_keep : {A : Type 0} (mask : List ℕ) (n : ℕ) (row : ℕ → A) → ((j : ℕ) → j < n → marked mask j ≡ false) → keep mask (tab n row) ≡ tab n row
unfolding tab keep
zeros_keep mask zero row h = refl
zeros_keep {A} [] (suc n) row h = ap (λ (l : List A). row 0 ∷ l) (zeros_keep [] n (λ k. row (suc k)) (λ j l. h (suc j) (omega arith)))
zeros_keep {A} (b ∷ m) (suc n) row h =
    ap (λ (t : Bool). pick t (keep m (tab n (λ k. row (suc k)))) (row 0 ∷ keep m (tab n (λ k. row (suc k))))) (h 0 (omega arith))
    ∙ ap (λ (l : List A). row 0 ∷ l) (zeros_keep m n (λ k. row (suc k)) (λ j l. h (suc j) (omega arith)))

-- ---- counting

-- a number stands first in a list that it begins
stands_first : (i : ℕ) (l : List ℕ) → stands i (i ∷ l) ≡ true
stands_first i l = ap (λ (t : Bool). pick t true (stands i l)) (eq-eqb i i refl)

-- of a list that is sifted to nothing, nothing passes
sifted_none : (p : ℕ → Bool) (n : ℕ) (h : ℕ → ℕ) → length (sift p (tab n h)) ≡ 0 → (j : ℕ) → j < n → p (h j) ≡ true → ⊥
unfolding sift tab
sifted_none p zero h z j l e = absurd (omega arith)
sifted_none p (suc n) h z zero l e = absurd (let w : length (pick (p (h 0)) (h 0 ∷ sift p (tab n (λ k. h (suc k)))) (sift p (tab n (λ k. h (suc k))))) ≡ suc (length (sift p (tab n (λ k. h (suc k))))) = ap (λ (t : Bool). length (pick t (h 0 ∷ sift p (tab n (λ k. h (suc k)))) (sift p (tab n (λ k. h (suc k)))))) e in omega (arith, z, w))
sifted_none p (suc n) h z (suc j) l e = sifted_none p n (λ k. h (suc k)) (shorter (p (h 0)) (h 0) (sift p (tab n (λ k. h (suc k)))) z) j (omega arith) e
  where
    shorter : (t : Bool) (a : ℕ) (l : List ℕ) → length (pick t (a ∷ l) l) ≡ 0 → length l ≡ 0
    shorter true a l z = absurd (omega (arith, z))
    shorter false a l z = z

none_marked : (bends : List ℕ) (e : ℕ) → length (marked_of bends e) ≡ 0 → (j : ℕ) → j < e → marked bends j ≡ true → ⊥
unfolding marked_of up_to
none_marked bends e z j l m = sifted_none (marked bends) e (λ k. k) z j l m

-- nothing passes, and so nothing is left
sift_nothing : (p : ℕ → Bool) (n : ℕ) (h : ℕ → ℕ) → ((j : ℕ) → j < n → p (h j) ≡ false) → length (sift p (tab n h)) ≡ 0
unfolding sift tab
sift_nothing p zero h f = refl
sift_nothing p (suc n) h f =
    ap (λ (t : Bool). length (pick t (h 0 ∷ sift p (tab n (λ k. h (suc k)))) (sift p (tab n (λ k. h (suc k)))))) (f 0 (omega arith))
    ∙ sift_nothing p n (λ k. h (suc k)) (λ j l. f (suc j) (omega arith))

none_from_none : (bends : List ℕ) (e : ℕ) → MarksOf [] bends e → length (marked_of bends e) ≡ 0
unfolding marked_of up_to
none_from_none bends e T = sift_nothing (marked bends) e (λ k. k) (λ j l. T.told j l)

-- nothing is marked, and so no number is listed
none_listed : (ms bends : List ℕ) (e : ℕ) → MarksOf ms bends e → length (marked_of bends e) ≡ 0 → ms ≡ []
none_listed [] bends e M z = refl
none_listed (i ∷ is) bends e M z =
    let here : stands i (i ∷ is) ≡ true = stands_first i is in
    let low = M.inside i here in
    absurd (none_marked bends e z i low (M.told i low ∙ here))

-- ---- the step

module _ (i : ℕ) (is bends : List ℕ) (side_mask : List ℕ) (k : Counts) (points : List Float) (roots corners : List ℕ) (volumes : List Float) (ends : List ℕ) (lengths : List Float) (outline log : List ℕ)
    (T : MarksOf (i ∷ is) bends k.edges) (Z : (j : ℕ) → j < k.boundary → marked side_mask j ≡ false) where
  abbrev ms : List ℕ
  ms = i ∷ is

  abbrev M₀ : Mesh
  M₀ = mesh_at k points roots corners volumes ends lengths outline

  abbrev row : ℕ → Edge
  row = edge_row (length ends / 4) (length lengths / 4) ends lengths

  -- what is left, and what is logged
  left : Mesh → Mesh
  left M = with_edges M (sift_at (λ j e. not (stands j ms)) M.edges)

  gone : Mesh → List Entry
  gone M = map (λ (e : Edge). edge e.a e.b) (sift_at (λ j e. stands j ms) M.edges)

  left_is : ◌≡◌ {A = Mesh}
      (record { particles = particles_at k.particles points roots; triangles = triangles_at k.triangles corners volumes; edges = keep bends (edges_at k.edges ends lengths); boundary = keep side_mask (boundary_at k.boundary outline) })
      (left M₀)
  unfolding mesh_at edges_at boundary_at left sift_at
  left_is =
      mesh_path refl refl (keep_numbered (λ j. stands j ms) bends k.edges row T.told) (zeros_keep side_mask k.boundary (side_row (length outline / 2) outline) Z)

  words_of_lem : (l : List ℕ) → map words_of (map (λ (e : Edge). edge e.a e.b) (map row l)) ≡ map (gone_words ends) l
  words_of_lem [] = refl
  words_of_lem (j ∷ l) = ap (λ (t : List Words). gone_words ends j ∷ t) (words_of_lem l)

  gone_is : map words_of (gone M₀) ≡ map (gone_words ends) (marked_of bends k.edges)
  unfolding mesh_at edges_at marked_of up_to gone sift_at
  gone_is =
      ap (λ (l : List Edge). map words_of (map (λ (e : Edge). edge e.a e.b) l)) (rows_numbered (λ j. stands j ms) row k.edges row (λ j. stands j ms) (λ j. j) (λ j. refl) (λ j. refl))
      ∙ words_of_lem (sift (λ j. stands j ms) (tab k.edges (λ j. j)))
      ∙ ap (map (gone_words ends)) (sift_same (λ j. stands j ms) (marked bends) k.edges (λ j. j) (λ j l. sym (T.told j l)))

  module _ (L : Rooms) (W : Within k L) (R : Run) (X : world_at k points roots corners volumes ends lengths outline log ≡ world_of R.mesh R.log) where
    mesh_is : R.mesh ≡ M₀
    unfolding world_at
    mesh_is = sym (ap (λ (w : World). w.mesh) X)

    log_is : map words_of R.log ≡ log_at k.log log
    unfolding world_at
    log_is = sym (ap (λ (w : World). w.log) X)

    particles_count : length (left R.mesh).particles ≡ k.particles
    unfolding mesh_at left
    particles_count = ap (λ (M : Mesh). length M.particles) mesh_is ∙ particles_length k.particles points roots

    edges_count : length R.mesh.edges ≡ k.edges
    unfolding mesh_at
    edges_count = ap (λ (M : Mesh). length M.edges) mesh_is ∙ edges_length k.edges ends lengths

    boundary_count : length R.mesh.boundary ≡ k.boundary
    unfolding mesh_at boundary_at
    boundary_count = ap (λ (M : Mesh). length M.boundary) mesh_is ∙ tab_length k.boundary (side_row (length outline / 2) outline)

    log_count : length (R.log ++ gone R.mesh) ≡ k.log + length (marked_of bends k.edges)
    log_count =
        length-append R.log (gone R.mesh)
        ∙ ap₂ (λ (a b : ℕ). a + b) (sym (length-map R.log words_of) ∙ ap length log_is ∙ log_length k.log log)
        (ap (λ (M : Mesh). length (gone M)) mesh_is ∙ sym (length-map (gone M₀) words_of) ∙ ap length gone_is ∙ length-map (marked_of bends k.edges) (gone_words ends))

    module _ (ends' : List ℕ) (lengths' : List Float) (outline' log' : List ℕ) where
      told : (r : Ran) → GoneTo L k bends side_mask ends ends' lengths lengths' outline outline' log log' r
          → StepTold L R (left R.mesh) (gone R.mesh) (length R.mesh.edges) (length R.mesh.boundary) (λ q. world_at q points roots corners volumes ends' lengths' outline' log') r
      unfolding world_at mesh_at
      told (Err c) G = (
        log_lacks (as_rooms L) (need_behind R (left R.mesh) (gone R.mesh) (length R.mesh.edges) (length R.mesh.boundary))
            (omega (arith, particles_count, W.particles)) (omega (arith, edges_count, W.edges)) (omega (arith, boundary_count, W.boundary)) (omega (arith, log_count, G.1))
            ∙ sym G.0,
        omega (arith, G.0),
      )
      told (Ok q) G = (
        room_enough (as_rooms L) (need_behind R (left R.mesh) (gone R.mesh) (length R.mesh.edges) (length R.mesh.boundary))
            (omega (arith, particles_count, W.particles)) (omega (arith, edges_count, W.edges)) (omega (arith, boundary_count, W.boundary))
            (omega (arith, log_count, log_length q.log log', ap length G.entries, length-append (log_at k.log log) (map (gone_words ends) (marked_of bends k.edges)), log_length k.log log, length-map (marked_of bends k.edges) (gone_words ends), G.few_log)),
        record {
          particles = omega (arith, G.particles, W.particles);
          triangles = omega (arith, G.triangles, W.triangles);
          edges = omega (arith, G.few_edges, W.edges);
          boundary = omega (arith, G.few_boundary, W.boundary);
          log = G.few_log;
        },
        world_path
            (mesh_path (ap (λ (n : ℕ). particles_at n points roots) G.particles) (ap (λ (n : ℕ). triangles_at n corners volumes) G.triangles) G.edges G.boundary
            ∙ left_is ∙ ap left (sym mesh_is))
            (G.entries
            ∙ ap₂ (λ (a b : List Words). a ++ b) (sym log_is) (sym gone_is ∙ ap (λ (M : Mesh). map words_of (gone M)) (sym mesh_is))
            ∙ sym (map-append words_of R.log (gone R.mesh))),
      )

-- ---- the whole

unbent_works : (i : ℕ) (is bends side_mask : List ℕ) (k : Counts) (points : List Float) (roots corners : List ℕ) (volumes : List Float) (ends : List ℕ) (lengths : List Float) (outline log : List ℕ)
    → MarksOf (i ∷ is) bends k.edges → ((j : ℕ) → j < k.boundary → marked side_mask j ≡ false) → (L : Rooms) → Within k L → (ends' : List ℕ) (lengths' : List Float) (outline' log' : List ℕ) (r : Ran)
    → GoneTo L k bends side_mask ends ends' lengths lengths' outline outline' log log' r
    → Works (unbent (i ∷ is)) L (world_at k points roots corners volumes ends lengths outline log) (λ q. world_at q points roots corners volumes ends' lengths' outline' log') r
unfolding unbent left gone
unbent_works i is bends side_mask k points roots corners volumes ends lengths outline log T Z L W ends' lengths' outline' log' r G =
    record {
      went = λ R X z.
          went_step L R _ _ _ _ _ r z (told i is bends side_mask k points roots corners volumes ends lengths outline log T Z L W R X ends' lengths' outline' log' r G);
    }

unbent_stays : (L : Rooms) (k : Counts) (points : List Float) (roots corners : List ℕ) (volumes : List Float) (ends : List ℕ) (lengths : List Float) (outline log : List ℕ) → Within k L
    → Works (unbent []) L (world_at k points roots corners volumes ends lengths outline log) (λ q. world_at q points roots corners volumes ends lengths outline log) (Ok k)
unfolding unbent
unbent_stays L k points roots corners volumes ends lengths outline log W = record { went = λ R X z. (z, W, X) }

-- the marked edges went
pub bends_gone : (L : Rooms) (k : Counts) (bends side_mask ends : List ℕ) (lengths : List Float) (outline log ends' : List ℕ) (lengths' : List Float) (outline' log' : List ℕ) (r : Ran) → Within k L
    → (length (marked_of bends k.edges) ≡ 0 → ⊥) → ((j : ℕ) → j < k.boundary → marked side_mask j ≡ false)
    → GoneTo L k bends side_mask ends ends' lengths lengths' outline outline' log log' r → UnbentTold L k bends ends lengths outline log ends' lengths' outline' log' r
bends_gone L k bends side_mask ends lengths outline log ends' lengths' outline' log' r W some Z G = record { works = by }
  where
    by : (ms : List ℕ) (points : List Float) (roots corners : List ℕ) (volumes : List Float) → MarksOf ms bends k.edges
        → Works (unbent ms) L (world_at k points roots corners volumes ends lengths outline log) (λ q. world_at q points roots corners volumes ends' lengths' outline' log') r
    by [] points roots corners volumes T = absurd (some (none_from_none bends k.edges T))
    by (i ∷ is) points roots corners volumes T = unbent_works i is bends side_mask k points roots corners volumes ends lengths outline log T Z L W ends' lengths' outline' log' r G

-- nothing was marked, and nothing was done
pub bends_none : (L : Rooms) (k : Counts) (bends ends : List ℕ) (lengths : List Float) (outline log : List ℕ) → Within k L → length (marked_of bends k.edges) ≡ 0
    → UnbentTold L k bends ends lengths outline log ends lengths outline log (Ok k)
bends_none L k bends ends lengths outline log W z =
    record {
      works = λ ms points roots corners volumes T.
          subst (λ (l : List ℕ). Works (unbent l) L (world_at k points roots corners volumes ends lengths outline log) (λ q. world_at q points roots corners volumes ends lengths outline log) (Ok k)) (sym (none_listed ms bends k.edges T z))
          (unbent_stays L k points roots corners volumes ends lengths outline log W);
    }

-- ---- the count, mark by mark

pub record CountTo (marks : List ℕ) (n i count : ℕ) : Type 0 where
  pub inside : i ≤ n
  pub counting : Counting (marked marks) i count

pub count_start : (marks : List ℕ) (n : ℕ) → CountTo marks n 0 0
count_start marks n = record { inside = omega arith; counting = counting_start (marked marks) }

pub count_few : {marks : List ℕ} {n i count : ℕ} → CountTo marks n i count → count ≤ i
count_few {marks} {n} {i} {count} C = counting_few (marked marks) i count C.counting

pub count_took : {marks : List ℕ} {n i count count' : ℕ} → CountTo marks n i count → i < n → get_or marks i 0 ≡ 1 → count' ≡ count + 1 → CountTo marks n (i + 1) count'
count_took {marks} {n} {i} {count} C l e w =
    record {
      inside = omega arith;
      counting = subst (Counting (marked marks) (i + 1)) (sym w) (counting_step (marked marks) i count 1 C.counting (sym (ap (λ (t : Bool). pick t 1 0) (eq-eqb (get_or marks i 0) 1 e))));
    }

pub count_skipped : {marks : List ℕ} {n i count count' : ℕ} → CountTo marks n i count → i < n → (get_or marks i 0 ≡ 1 → ⊥) → count' ≡ count → CountTo marks n (i + 1) count'
count_skipped {marks} {n} {i} {count} C l e w =
    record {
      inside = omega arith;
      counting = subst (Counting (marked marks) (i + 1)) (let z : count + 0 ≡ _ = omega (arith, w) in z) (counting_step (marked marks) i count 0 C.counting (sym (ap (λ (t : Bool). pick t 1 0) (ne_eqb (get_or marks i 0) 1 e))));
    }

pub count_done : {marks : List ℕ} {n i count : ℕ} → CountTo marks n i count → n ≤ i → count ≡ length (marked_of marks n)
unfolding marked_of
count_done {marks} {n} {i} {count} C l = C.counting.counted ∙ ap (λ (m : ℕ). length (sift (marked marks) (up_to m))) (let z : i ≡ n = omega (arith, C.inside) in z)

-- a list of zeros marks nothing
pub zeros_mark : (n m : ℕ) (j : ℕ) → j < m → marked (replicate n 0) j ≡ false
zeros_mark n m j l = ap (λ (x : ℕ). eqb x 1) (zeros_at n j)
  where
    zeros_at : (n j : ℕ) → ◌≡◌ {A = ℕ} (get_or (replicate n 0) j 0) 0
    zeros_at zero j = refl
    zeros_at (suc n) zero = refl
    zeros_at (suc n) (suc j) = zeros_at n j
