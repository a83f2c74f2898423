-- Laws of all crossings in turn: the mesh stays one whose indices fit and keeps its edges' numbers, so each crossing can be done behind the others. Assumes nothing.
use Prim.Native.Nat.{ℕ, zero, suc, ◌+◌, ◌<◌, ◌≤◌}
use native.Mathlib.Omega.{arith}
use mathlib.Core.Path.{◌≡◌, refl, sym, ap, ◌∙◌, subst}
use mathlib.Core.Bool.{Bool, true, false}
use mathlib.Core.List.{List, [], ◌∷◌, ◌++◌, map}
use lib.ListN.{length, get_or, drop, take-append-drop}
use lib.Ieee.{Float, nan}
use Rattle.lists.specs.Lists.{pick, fold, tab}
use Rattle.lists.proofs.Sifts.{tab_take}
use Rattle.lists.proofs.Steps.{tab_step}
use Rattle.model.specs.Mesh.{Edge, blank_edge}
use Rattle.model.specs.Valid.{indices_fit_of}
use Rattle.model.specs.Trace.{All}
use Rattle.model.specs.Run.{Entry, Run, step_to}
use Rattle.model.specs.Calls.{first_fault}
use Rattle.model.specs.Cut.{Crossing, insertion_of, insertable, inserted_mesh, insert_step, Strapping, strapping, inserted_at, snapped_at, crossed}
use Rattle.model_laws.proofs.Laws.{all_in}
use Rattle.model_laws.proofs.Indexed.{Indexed}
use Rattle.model_laws.proofs.Rows.{Pair}
use Rattle.model_laws.proofs.Inserted.{inserted_indexed, more_edges}
use Rattle.model_laws.proofs.Accepted.{accepted_indexed, indexed_accepted}
use Rattle.mesh.specs.At.{mesh_at}
use Rattle.mesh.specs.Log.{World, world_of, words_of, world_at}
use Rattle.mesh.specs.Given.{Lent, as_rooms}
use Rattle.mesh.specs.Filled.{lent}
use Rattle.mesh.specs.declared.Counts.{Counts}
use Rattle.mesh.specs.declared.Rooms.{Rooms}
use Rattle.work.specs.Working.{Within, Roomed, Ready}
use Rattle.work.specs.Ran.{Ran}
use Rattle.work.proofs.Placed.{edges_count}
use Rattle.crossing.specs.Crossings.{crossed_in}
use Rattle.crossing.specs.Crossed.{ran_of, Crosses, CrossTold, CrossRoom, CrossingsIn}
use Rattle.crossing.proofs.CrossedLaws.{crosses_none, crosses_then, crosses_refused}
use Rattle.std.specs.Prelude.{Ok, Err}
use Rattle.mesh.specs.declared.refusals.Refusal.{Refusal}

-- ---- a crossing keeps the indices and the edges' numbers

-- the mesh is as it must be, and has n edges at least
abbrev Kept : ℕ → Strapping → Type 0
Kept n S = Indexed (ran_of S).mesh × (n ≤ length (ran_of S).mesh.edges)

inserted_kept : (f : Float) (R : Run) (bends snapped : List ℕ) (c : Crossing) (n : ℕ) → c.number < n → Indexed R.mesh → n ≤ length R.mesh.edges → Kept n (inserted_at f R bends snapped c)
unfolding inserted_at insert_step step_to insertion_of inserted_mesh
inserted_kept f R bends snapped c n u X w =
    let M = R.mesh in
    let I = insertion_of f M c in
    let P = all_in (λ (e : Edge). Pair (length M.particles) e.a e.b) M.edges c.number blank_edge (omega arith) X.edges in
    let e = more_edges M X I refl P in
    (inserted_indexed M X I refl P, omega (arith, e))

crossed_kept : (f : Float) (S : Strapping) (c : Crossing) (n : ℕ) → c.number < n → Kept n S → Kept n (crossed f S c)
unfolding crossed snapped_at
crossed_kept f (strapping R bends snapped) c n u Y = by (insertable f R.mesh c)
  where
    by : (b : Bool) → Kept n (pick b (inserted_at f R bends snapped c) (snapped_at R bends snapped c))
    by true = inserted_kept f R bends snapped c n u Y.0 Y.1
    by false = Y

all_kept : (f : Float) (n : ℕ) (S : Strapping) (l : List Crossing) → All (λ (c : Crossing). c.number < n) l → Kept n S → Kept n (fold (crossed f) S l)
unfolding fold
all_kept f n S [] h Y = Y
all_kept f n S (c ∷ l) h Y = all_kept f n (crossed f S c) l h.1 (crossed_kept f S c n h.0 Y)

-- ---- the run so far, and what its blocks are ready for

module _ (f : Float) (cs : List Crossing) (L : Rooms) (W : World) (at : Counts → World) (b s b' s' : List ℕ) (k : Counts) (F : Crosses f cs L W at b s b' s' (Ok k)) (l : List Entry) (words : W.log ≡ map words_of l) where
  -- a strap cut in the blocks at the start
  abbrev start : Strapping
  start = strapping (record { mesh = W.mesh; log = l; needs = [] }) [] []

  went_to : (first_fault (as_rooms L) (ran_of (fold (crossed f) start cs)).needs ≡ 0) × Within k L × (at k ≡ world_of (ran_of (fold (crossed f) start cs)).mesh (ran_of (fold (crossed f) start cs)).log)
  unfolding first_fault
  went_to = F.went start (λ i. record { mesh = W.mesh; log = words i }) refl

  -- its log
  abbrev pub entries_to : List Entry
  entries_to = (ran_of (fold (crossed f) start cs)).log

  pub words_to : (at k).log ≡ map words_of entries_to
  words_to = ap (λ (x : World). x.log) went_to.2

  module _ (k₀ : Counts) (I I' : Lent) (Y : Ready L k₀ I W.mesh) (inside : All (λ (c : Crossing). c.number < length W.mesh.edges) cs) where
    kept_to : Kept (length W.mesh.edges) (fold (crossed f) start cs)
    kept_to = all_kept f (length W.mesh.edges) start cs inside (accepted_indexed W.mesh Y.indices, omega arith)

    pub ready_to : I' ≡ I → Ready L k I' (at k).mesh
    ready_to e =
        record {
          rooms = subst (Roomed L) (sym e) Y.rooms;
          counts = went_to.1;
          indices = ap (λ (x : World). indices_fit_of x.mesh) went_to.2 ∙ indexed_accepted (ran_of (fold (crossed f) start cs)).mesh kept_to.0;
        }

    pub edges_to : length W.mesh.edges ≤ length (at k).mesh.edges
    edges_to =
        let e : length (at k).mesh.edges ≡ length (ran_of (fold (crossed f) start cs)).mesh.edges = ap (λ (x : World). length x.mesh.edges) went_to.2 in
        let h = kept_to.1 in
        omega arith

-- ---- the loop

-- what holds of each row holds of all
all_tab : {A : Type 0} (P : A → Type 0) (n : ℕ) (g : ℕ → A) → ((j : ℕ) → j < n → P (g j)) → All P (tab n g)
unfolding tab
all_tab P zero g h = tt
all_tab P (suc n) g h = (h 0 (omega arith), all_tab P n (λ j. g (suc j)) (λ j l. h (suc j) (omega arith)))

-- at the head of the loop: the first i crossings are done, and no room lacked
pub record CrossedTo (f : Float) (m : ℕ) (numbers : List ℕ) (ts : List Float) (L : Rooms) (k₀ : Counts) (points₀ : List Float) (roots₀ ends₀ : List ℕ) (lengths₀ : List Float) (outline₀ log₀ bends₀ snapped₀ : List ℕ)
    (points : List Float) (roots ends : List ℕ) (lengths : List Float) (outline log bends snapped : List ℕ) (k : Counts) (i : ℕ) : Type 0 where
  pub inside : i ≤ m
  pub same : lent points roots [] [] ends lengths outline log ≡ lent points₀ roots₀ [] [] ends₀ lengths₀ outline₀ log₀
  pub same_bends : length bends ≡ length bends₀
  pub same_snapped : length snapped ≡ length snapped₀
  pub told : CrossTold f (crossed_in i numbers ts) L k₀ points₀ roots₀ ends₀ lengths₀ outline₀ log₀ bends₀ snapped₀ points roots ends lengths outline log bends snapped (Ok k)

module _ (f : Float) (m : ℕ) (numbers : List ℕ) (ts : List Float) (L : Rooms) (k₀ : Counts) (points₀ : List Float) (roots₀ ends₀ : List ℕ) (lengths₀ : List Float) (outline₀ log₀ bends₀ snapped₀ : List ℕ)
    (X : CrossRoom L k₀ points₀ roots₀ ends₀ lengths₀ outline₀ log₀ (length bends₀) (length snapped₀)) (N : CrossingsIn m numbers (length ts) k₀ log₀) where
  pub on_start : CrossedTo f m numbers ts L k₀ points₀ roots₀ ends₀ lengths₀ outline₀ log₀ bends₀ snapped₀ points₀ roots₀ ends₀ lengths₀ outline₀ log₀ bends₀ snapped₀ k₀ 0
  unfolding tab
  on_start =
      record {
        inside = omega arith;
        same = refl;
        same_bends = refl;
        same_snapped = refl;
        told = record { crosses = λ cs vs. crosses_none f L {at = λ q. world_at q points₀ roots₀ cs vs ends₀ lengths₀ outline₀ log₀} k₀ X.ready.counts };
      }

  module _ (points : List Float) (roots ends : List ℕ) (lengths : List Float) (outline log bends snapped : List ℕ) (k : Counts) (i : ℕ)
      (O : CrossedTo f m numbers ts L k₀ points₀ roots₀ ends₀ lengths₀ outline₀ log₀ bends₀ snapped₀ points roots ends lengths outline log bends snapped k i) where
    -- the lent lengths, with those of the triangles
    long : lent points roots X.corners X.volumes ends lengths outline log ≡ lent points₀ roots₀ X.corners X.volumes ends₀ lengths₀ outline₀ log₀
    long =
        ap
        (λ (I : Lent).
        record { points = I.points; roots = I.roots; corners = length X.corners; volumes = length X.volumes; ends = I.ends; lengths = I.lengths; outline = I.outline; log = I.log })
        O.same

    all_inside : All (λ (c : Crossing). c.number < length (mesh_at k₀ points₀ roots₀ X.corners X.volumes ends₀ lengths₀ outline₀).edges) (crossed_in i numbers ts)
    all_inside =
        let low = O.inside in
        let e = edges_count k₀ points₀ roots₀ X.corners X.volumes ends₀ lengths₀ outline₀ in
        all_tab _ i _ (λ j l. let b : get_or numbers j 0 < k₀.edges = N.inside j (omega arith) in omega arith)

    pub on_room : CrossRoom L k points roots ends lengths outline log (length bends) (length snapped)
    unfolding world_at
    on_room =
        let eb = O.same_bends in
        let es = O.same_snapped in
        let hb = X.bends_long in
        let hs = X.snapped_long in
        record {
          corners = X.corners;
          volumes = X.volumes;
          ready = ready_to f (crossed_in i numbers ts) L _ _ _ _ _ _ k (O.told.crosses X.corners X.volumes) N.logged.entries N.logged.words k₀ _ _ X.ready all_inside long;
          bends_long = omega arith;
          snapped_long = omega arith;
        }

    pub on_number : i < m → get_or numbers i 0 < k.edges
    unfolding world_at
    on_number h =
        let e₀ = edges_count k₀ points₀ roots₀ X.corners X.volumes ends₀ lengths₀ outline₀ in
        let e = edges_count k points roots X.corners X.volumes ends lengths outline in
        let b = N.inside i h in
        let g = edges_to f (crossed_in i numbers ts) L _ _ _ _ _ _ k (O.told.crosses X.corners X.volumes) N.logged.entries N.logged.words k₀ _ (lent points roots X.corners X.volumes ends lengths outline log) X.ready all_inside in
        omega arith

    -- one crossing more
    abbrev here : Crossing
    here = record { number = get_or numbers i 0; t = get_or ts i nan }

    module _ (points' : List Float) (roots' ends' : List ℕ) (lengths' : List Float) (outline' log' bends' snapped' : List ℕ) (r : Ran)
        (G : CrossTold f (here ∷ []) L k points roots ends lengths outline log bends snapped points' roots' ends' lengths' outline' log' bends' snapped' r) where
      more : CrossTold f (crossed_in (i + 1) numbers ts) L k₀ points₀ roots₀ ends₀ lengths₀ outline₀ log₀ bends₀ snapped₀ points' roots' ends' lengths' outline' log' bends' snapped' r
      more =
          subst (λ (cs : List Crossing). CrossTold f cs L k₀ points₀ roots₀ ends₀ lengths₀ outline₀ log₀ bends₀ snapped₀ points' roots' ends' lengths' outline' log' bends' snapped' r)
          (sym (tab_step (λ j. record { number = get_or numbers j 0; t = get_or ts j nan }) i))
          (record { crosses = λ cs vs. crosses_then f L (O.told.crosses cs vs) (G.crosses cs vs) })

      pub on_step : (k' : Counts) → r ≡ Ok k' → i < m → lent points' roots' [] [] ends' lengths' outline' log' ≡ lent points roots [] [] ends lengths outline log → length bends' ≡ length bends → length snapped' ≡ length snapped
          → CrossedTo f m numbers ts L k₀ points₀ roots₀ ends₀ lengths₀ outline₀ log₀ bends₀ snapped₀ points' roots' ends' lengths' outline' log' bends' snapped' k' (i + 1)
      on_step k' e h same sb ss =
          record {
            inside = omega arith;
            same = same ∙ O.same;
            same_bends = sb ∙ O.same_bends;
            same_snapped = ss ∙ O.same_snapped;
            told = subst (λ (x : Ran). CrossTold f (crossed_in (i + 1) numbers ts) L k₀ points₀ roots₀ ends₀ lengths₀ outline₀ log₀ bends₀ snapped₀ points' roots' ends' lengths' outline' log' bends' snapped' x) e more;
          }

      -- a room lacks
      pub on_stop : (c : Refusal) → r ≡ Err c → i < m → CrossTold f (crossed_in m numbers ts) L k₀ points₀ roots₀ ends₀ lengths₀ outline₀ log₀ bends₀ snapped₀ points' roots' ends' lengths' outline' log' bends' snapped' r
      on_stop c e h =
          let rest : List Crossing = drop (i + 1) (crossed_in m numbers ts) in
          let all : crossed_in (i + 1) numbers ts ++ rest ≡ crossed_in m numbers ts =
          ap (λ (l : List Crossing). l ++ rest) (sym (tab_take (i + 1) m (λ j. record { number = get_or numbers j 0; t = get_or ts j nan }) (omega arith))) ∙ take-append-drop (i + 1) (crossed_in m numbers ts) in
          let stopped = subst (λ (x : Ran). CrossTold f (crossed_in (i + 1) numbers ts) L k₀ points₀ roots₀ ends₀ lengths₀ outline₀ log₀ bends₀ snapped₀ points' roots' ends' lengths' outline' log' bends' snapped' x) e more in
          subst (λ (cs : List Crossing). CrossTold f cs L k₀ points₀ roots₀ ends₀ lengths₀ outline₀ log₀ bends₀ snapped₀ points' roots' ends' lengths' outline' log' bends' snapped' r) all
          (subst (λ (x : Ran). CrossTold f (crossed_in (i + 1) numbers ts ++ rest) L k₀ points₀ roots₀ ends₀ lengths₀ outline₀ log₀ bends₀ snapped₀ points' roots' ends' lengths' outline' log' bends' snapped' x) (sym e)
          (record { crosses = λ cs vs. crosses_refused f L rest (stopped.crosses cs vs) }))

    pub on_done : m ≤ i → CrossTold f (crossed_in m numbers ts) L k₀ points₀ roots₀ ends₀ lengths₀ outline₀ log₀ bends₀ snapped₀ points roots ends lengths outline log bends snapped (Ok k)
    on_done h =
        let low = O.inside in
        let e : i ≡ m = omega arith in
        subst (λ (j : ℕ). CrossTold f (crossed_in j numbers ts) L k₀ points₀ roots₀ ends₀ lengths₀ outline₀ log₀ bends₀ snapped₀ points roots ends lengths outline log bends snapped (Ok k)) e O.told
