-- The removal of straddlers across pieces, by its steps over the blocks: the masks mark what the definition takes away, and so the blocks hold the run behind it. Assumes nothing.
use mathlib.Core.Path.{◌≡◌, refl, sym, ◌∙◌, ap, ap₂, subst}
use mathlib.Core.Bool.{Bool, true, false, not, ◌&&◌}
use mathlib.Core.List.{List, [], ◌∷◌, ◌++◌, map, map-append}
use Prim.Native.Nat.{ℕ, ◌+◌, ◌/◌, ◌<◌, ◌≤◌}
use native.Mathlib.Omega.{arith}
use lib.Ieee.{Float}
use lib.ListN.{length, length-append, length-map}
use Rattle.lists.specs.Lists.{any, sift, keep, pairs, tab}
use Rattle.lists.proofs.Truths.{or_end}
use Rattle.lists.proofs.Stores.{tab_length, tab_at}
use Rattle.columns.proofs.Rows.{keep_sift}
use Rattle.model.specs.Mesh.{Edge, Side, Mesh, blank_edge}
use Rattle.model.specs.Elements.{Kind, Triangles, Straps, Nothing, Element, element?, elements_of}
use Rattle.model.specs.Run.{Entry, Run, step_to}
use Rattle.model.specs.Split.{gone_entries}
use Rattle.model.specs.Pieces.{body_labels, spans, spread, across?, without_straddlers, straddlers_gone, remove_straddlers_of}
use Rattle.elements.specs.Table.{elements_in}
use Rattle.elements.proofs.Found.{elements_in_lem}
use Rattle.mesh.specs.At.{particles_at, triangles_at, edges_at, boundary_at, edge_row, side_row, mesh_at}
use Rattle.mesh.specs.Log.{Words, World, words_of, log_at, world_of, world_at}
use Rattle.mesh.specs.Given.{as_rooms}
use Rattle.mesh.specs.declared.Counts.{Counts}
use Rattle.mesh.specs.declared.Rooms.{Rooms}
use Rattle.mesh.proofs.Lists.{particles_length, edges_length, log_length, mesh_path, world_path}
use Rattle.work.specs.Working.{Within, Went, WorksBeside}
use Rattle.work.specs.Places.{EndsIn, SidesIn}
use Rattle.straddlers.specs.Straddling.{across_by, PiecesTold, EdgesMarked, SidesMarked}
use Rattle.work.specs.Removal.{marked, marked_of, gone_words, GoneTo}
use Rattle.work.specs.Ran.{Ran}
use Rattle.work.proofs.Removals.{gone_words_lem}
use Rattle.work.proofs.Runs.{room_enough, log_lacks, need_behind, StepTold, went_step}
use Rattle.std.specs.Prelude.{Ok, Err}

-- ---- masks and sifts

not_not : (t : Bool) → t ≡ not (not t)
not_not true = refl
not_not false = refl

-- rows that a mask leaves, where it marks those that pass
mask_sift : {A : Type 0} (p : A → Bool) (d : A) (mask : List ℕ) (n : ℕ) (row : ℕ → A) → ((j : ℕ) → j < n → marked mask j ≡ p (row j)) → keep mask (tab n row) ≡ sift (λ a. not (p a)) (tab n row)
mask_sift p d mask n row h =
    keep_sift (λ a. not (p a)) d mask (tab n row)
    (λ k l.
    let b : k < n = omega (arith, tab_length n row) in
    h k b ∙ not_not (p (row k)) ∙ ap (λ a. not (not (p a))) (sym (tab_at n row k d b)))

-- ---- the definition's step

-- what is left of a mesh, and what is logged
unfoldable left_of : Kind → Mesh → Mesh
left_of K M = without_straddlers K (elements_of K M) (body_labels (elements_of K M)) M

unfoldable gone_of : Kind → Mesh → List Entry
gone_of K M = gone_entries (across? K (elements_of K M) (body_labels (elements_of K M))) M.edges

step_is : (K : Kind) (R : Run) → straddlers_gone K (elements_of K R.mesh) R ≡ step_to R (left_of K R.mesh) (gone_of K R.mesh) (length R.mesh.edges) (length R.mesh.boundary)
unfolding straddlers_gone left_of gone_of
step_is K R = refl

left_particles : (K : Kind) (M : Mesh) → (left_of K M).particles ≡ M.particles
unfolding left_of without_straddlers
left_particles K M = refl

-- of two corners
spread_two : (es : List Element) (ls : List ℕ) (x y : ℕ) → spread es ls (x ∷ y ∷ []) ≡ spans es ls x y
unfolding any pairs
spread_two es ls x y = or_end (spans es ls x y)

module _ (K : Kind) (k : Counts) (points : List Float) (roots corners : List ℕ) (volumes : List Float) (ends : List ℕ) (lengths : List Float) (outline log parent used edge_mask side_mask : List ℕ) (s : ℕ)
    (long : k.particles ≤ length parent) (EI : EndsIn k.particles k.edges ends) (Si : SidesIn k.particles k.boundary outline)
    (P : PiecesTold (elements_in K (triangles_at k.triangles corners volumes) (edges_at k.edges ends lengths)) parent used)
    (E : EdgesMarked K k.edges parent used ends edge_mask s) (S : SidesMarked k.boundary parent used outline side_mask) where
  abbrev M₀ : Mesh
  M₀ = mesh_at k points roots corners volumes ends lengths outline

  abbrev es : List Element
  es = elements_in K (triangles_at k.triangles corners volumes) (edges_at k.edges ends lengths)

  same_elements : elements_of K M₀ ≡ es
  unfolding mesh_at
  same_elements = elements_in_lem K M₀

  abbrev row : ℕ → Edge
  row = edge_row (length ends / 4) (length lengths / 4) ends lengths

  -- the masks mark what joins two pieces
  edge_mark : (j : ℕ) → j < k.edges → marked edge_mask j ≡ across? K es (body_labels es) (row j)
  unfolding across? across_by
  edge_mark j h =
      E.marks lengths j h
      ∙ ap (λ (t : Bool). not (element? K (row j)) && t) (sym (P.spans_are (row j).a (row j).b (omega (arith, EI.first j h)) (omega (arith, EI.second j h))))

  side_mark : (j : ℕ) → j < k.boundary → marked side_mask j ≡ spread es (body_labels es) (side_row (length outline / 2) outline j).corners
  side_mark j h = S.marks j h ∙ sym (P.spans_are _ _ (omega (arith, Si.first j h)) (omega (arith, Si.second j h))) ∙ sym (spread_two es (body_labels es) _ _)

  -- what they leave is what the definition leaves
  left_is : ◌≡◌ {A = Mesh}
      (record { particles = particles_at k.particles points roots; triangles = triangles_at k.triangles corners volumes; edges = keep edge_mask (edges_at k.edges ends lengths); boundary = keep side_mask (boundary_at k.boundary outline) })
      (left_of K M₀)
  unfolding left_of without_straddlers mesh_at edges_at boundary_at
  left_is =
      mesh_path refl refl
      (mask_sift (across? K es (body_labels es)) blank_edge edge_mask k.edges row edge_mark)
      (mask_sift (λ (s : Side). spread es (body_labels es) s.corners) (record { corners = 0 ∷ 0 ∷ [] }) side_mask k.boundary (side_row (length outline / 2) outline) side_mark)
      ∙ sym (ap (λ (l : List Element). without_straddlers K l (body_labels l) M₀) same_elements)

  -- and the marked edges are what it logs
  gone_is : map words_of (gone_of K M₀) ≡ map (gone_words ends) (marked_of edge_mask k.edges)
  unfolding gone_of mesh_at
  gone_is =
      ap (λ (l : List Element). map words_of (gone_entries (across? K l (body_labels l)) M₀.edges)) same_elements
      ∙ gone_words_lem (across? K es (body_labels es)) ends lengths edge_mask k.edges edge_mark

  module _ (L : Rooms) (W : Within k L) (R : Run) (X : world_at k points roots corners volumes ends lengths outline log ≡ world_of R.mesh R.log) where
    -- the run that the blocks hold
    mesh_is : R.mesh ≡ M₀
    unfolding world_at
    mesh_is = sym (ap (λ (w : World). w.mesh) X)

    log_is : map words_of R.log ≡ log_at k.log log
    unfolding world_at
    log_is = sym (ap (λ (w : World). w.log) X)

    -- the places that the step needs
    particles_count : length (left_of K R.mesh).particles ≡ k.particles
    unfolding mesh_at
    particles_count = ap length (left_particles K R.mesh) ∙ ap (λ (M : Mesh). length M.particles) mesh_is ∙ particles_length k.particles points roots

    edges_count : length R.mesh.edges ≡ k.edges
    unfolding mesh_at
    edges_count = ap (λ (M : Mesh). length M.edges) mesh_is ∙ edges_length k.edges ends lengths

    boundary_count : length R.mesh.boundary ≡ k.boundary
    unfolding mesh_at boundary_at
    boundary_count = ap (λ (M : Mesh). length M.boundary) mesh_is ∙ tab_length k.boundary (side_row (length outline / 2) outline)

    log_count : length (R.log ++ gone_of K R.mesh) ≡ k.log + length (marked_of edge_mask k.edges)
    log_count =
        length-append R.log (gone_of K R.mesh)
        ∙ ap₂ (λ (a b : ℕ). a + b) (sym (length-map R.log words_of) ∙ ap length log_is ∙ log_length k.log log)
        (ap (λ (M : Mesh). length (gone_of K M)) mesh_is ∙ sym (length-map (gone_of K M₀) words_of) ∙ ap length gone_is ∙ length-map (marked_of edge_mask k.edges) (gone_words ends))

    module _ (ends' : List ℕ) (lengths' : List Float) (outline' log' : List ℕ) where
      -- what the step came to
      told : (r : Ran) → GoneTo L k edge_mask side_mask ends ends' lengths lengths' outline outline' log log' r
          → StepTold L R (left_of K R.mesh) (gone_of K R.mesh) (length R.mesh.edges) (length R.mesh.boundary) (λ q. world_at q points roots corners volumes ends' lengths' outline' log') r
      unfolding world_at mesh_at
      told (Err c) G = (
        log_lacks (as_rooms L) (need_behind R (left_of K R.mesh) (gone_of K R.mesh) (length R.mesh.edges) (length R.mesh.boundary))
            (omega (arith, particles_count, W.particles)) (omega (arith, edges_count, W.edges)) (omega (arith, boundary_count, W.boundary)) (omega (arith, log_count, G.1))
            ∙ sym G.0,
        omega (arith, G.0),
      )
      told (Ok q) G = (
        room_enough (as_rooms L) (need_behind R (left_of K R.mesh) (gone_of K R.mesh) (length R.mesh.edges) (length R.mesh.boundary))
            (omega (arith, particles_count, W.particles)) (omega (arith, edges_count, W.edges)) (omega (arith, boundary_count, W.boundary))
            (omega (arith, log_count, log_length q.log log', ap length G.entries, length-append (log_at k.log log) (map (gone_words ends) (marked_of edge_mask k.edges)), log_length k.log log, length-map (marked_of edge_mask k.edges) (gone_words ends), G.few_log)),
        record {
          particles = omega (arith, G.particles, W.particles);
          triangles = omega (arith, G.triangles, W.triangles);
          edges = omega (arith, G.few_edges, W.edges);
          boundary = omega (arith, G.few_boundary, W.boundary);
          log = G.few_log;
        },
        world_path
            (mesh_path (ap (λ (n : ℕ). particles_at n points roots) G.particles) (ap (λ (n : ℕ). triangles_at n corners volumes) G.triangles) G.edges G.boundary
            ∙ left_is ∙ ap (left_of K) (sym mesh_is))
            (G.entries
            ∙ ap₂ (λ (a b : List Words). a ++ b) (sym log_is) (sym gone_is ∙ ap (λ (M : Mesh). map words_of (gone_of K M)) (sym mesh_is))
            ∙ sym (map-append words_of R.log (gone_of K R.mesh))),
      )

-- ---- the whole

-- where there are elements, the removal is its step
removal_is : (K : Kind) (R : Run) → (K ≡ Nothing → ⊥) → straddlers_gone K (elements_of K R.mesh) R ≡ remove_straddlers_of K R
unfolding remove_straddlers_of
removal_is Triangles R n = refl
removal_is Straps R n = refl
removal_is Nothing R n = absurd (n refl)

pub straddlers_gone_lem : (K : Kind) (L : Rooms) (k : Counts) (corners : List ℕ) (volumes : List Float) (ends : List ℕ) (lengths : List Float) (outline log parent used edge_mask side_mask : List ℕ) (s : ℕ)
    (ends' : List ℕ) (lengths' : List Float) (outline' log' : List ℕ) (r : Ran) → (K ≡ Nothing → ⊥) → Within k L → k.particles ≤ length parent
    → EndsIn k.particles k.edges ends → SidesIn k.particles k.boundary outline
    → PiecesTold (elements_in K (triangles_at k.triangles corners volumes) (edges_at k.edges ends lengths)) parent used
    → EdgesMarked K k.edges parent used ends edge_mask s → SidesMarked k.boundary parent used outline side_mask
    → GoneTo L k edge_mask side_mask ends ends' lengths lengths' outline outline' log log' r
    → WorksBeside (remove_straddlers_of K) L (λ points roots. world_at k points roots corners volumes ends lengths outline log)
    (λ points roots q. world_at q points roots corners volumes ends' lengths' outline' log') r
straddlers_gone_lem K L k corners volumes ends lengths outline log parent used em sm s ends' lengths' outline' log' r some W long EI Si P E S G =
    record {
      works =
          λ points roots.
          record {
            went =
                λ R X z.
                subst (λ (S : Run). Went L S (λ q. world_at q points roots corners volumes ends' lengths' outline' log') r) (sym (step_is K R) ∙ removal_is K R some)
                (went_step L R (left_of K R.mesh) (gone_of K R.mesh) (length R.mesh.edges) (length R.mesh.boundary) _ r z
                (told K k points roots corners volumes ends lengths outline log parent used em sm s long EI Si P E S L W R X ends' lengths' outline' log' r G));
          };
    }

-- a mesh of nothing stays
pub nothing_gone : (K : Kind) (L : Rooms) (k : Counts) (corners : List ℕ) (volumes : List Float) (ends : List ℕ) (lengths : List Float) (outline log : List ℕ) → K ≡ Nothing → Within k L
    → WorksBeside (remove_straddlers_of K) L (λ points roots. world_at k points roots corners volumes ends lengths outline log)
    (λ points roots q. world_at q points roots corners volumes ends lengths outline log) (Ok k)
unfolding remove_straddlers_of
nothing_gone K L k corners volumes ends lengths outline log e W =
    subst (λ (K : Kind). WorksBeside (remove_straddlers_of K) L (λ points roots. world_at k points roots corners volumes ends lengths outline log)
    (λ points roots q. world_at q points roots corners volumes ends lengths outline log) (Ok k)) (sym e) stays
  where
    stays : WorksBeside (remove_straddlers_of Nothing) L (λ points roots. world_at k points roots corners volumes ends lengths outline log)
        (λ points roots q. world_at q points roots corners volumes ends lengths outline log) (Ok k)
    stays = record { works = λ points roots. record { went = λ R X z. (z, W, X) } }
