-- Laws of a whole crack: what a worker leaves is ready for the next, a crack keeps the number of triangles, the torn edges come one behind the other, and the end comes behind them all. Assumes nothing.
use Prim.Native.Nat.{ℕ, ◌+◌, ◌-◌, ◌/◌, ◌<◌, ◌≤◌}
use native.Mathlib.Omega.{arith}
use mathlib.Core.Path.{◌≡◌, refl, sym, ap, ◌∙◌, subst}
use mathlib.Core.Bool.{Bool, true, false, not}
use mathlib.Core.List.{List, [], ◌∷◌, ◌++◌, map, map-append}
use mathlib.Core.Option.{Option, none, some}
use borrow.Author.Tests.{ltb-true}
use native.Mathlib.Numerals.{add-one}
use lib.ListN.{length, get_or, take, drop, take-append-drop, length-drop}
use lib.Seq.{take-suc, get_or-take, get_or-drop, length-take-le}
use lib.Dec.{ltb}
use lib.Ieee.{Float}
use Rattle.lists.specs.Lists.{pick, sift, fold, empty}
use Rattle.lists.proofs.Sifts.{pick_by, sift_append, fold_append}
use Rattle.lists.proofs.Stores.{at_eq, tab_at, tab_length}
use Rattle.columns.specs.Block.{cell}
use Rattle.columns.proofs.Cells.{col_0, col_1}
use Rattle.model.specs.Mesh.{Mesh, Triangle, Edge, blank_edge}
use Rattle.model.specs.Elements.{Kind, Triangles, Straps, Nothing, edge_at}
use Rattle.model.specs.Valid.{indices_fit_of}
use Rattle.model.specs.Run.{Entry, Run, step_to, splits_of}
use Rattle.model.specs.Split.{Opening, splits?, rewired_triangles, at_longest, settled, split_made, split_step}
use Rattle.model.specs.Pieces.{remove_straddlers_of}
use Rattle.model.specs.Cut.{split_pinched_of}
use Rattle.model.specs.Crack.{Way, torn, loads_of, current_pair, crack_by, crack_pair, crack_edge, torn_ends, crack}
use Rattle.model.specs.Calls.{first_fault}
use Rattle.model_laws.proofs.Laws.{length_map_at}
use Rattle.model_laws.proofs.Steps.{Onward, onward_stay, onward_then, onward_pick, onward_fold, edge_onward, pinched_onward, straddlers_onward}
use Rattle.model_laws.proofs.Traced.{Still, still_torn}
use Rattle.model_laws.proofs.Indexed.{Indexed, edge_indexed, fold_indexed}
use Rattle.model_laws.proofs.Accepted.{accepted_indexed, indexed_accepted}
use Rattle.mesh.specs.At.{mesh_at, edge_row, edges_at}
use Rattle.mesh.specs.Log.{World, world_of, words_of, world_at}
use Rattle.mesh.specs.Given.{Lent, as_rooms}
use Rattle.mesh.specs.Filled.{lent}
use Rattle.mesh.specs.declared.Counts.{Counts}
use Rattle.mesh.specs.declared.Rooms.{Rooms}
use Rattle.work.specs.Working.{SettleRoom, Within, Roomed, Ready, Works}
use Rattle.work.specs.Places.{CornersIn, EndsIn, SidesIn}
use Rattle.work.specs.Ran.{Ran}
use Rattle.work.proofs.Placed.{corners_in, ends_in, sides_in}
use Rattle.work.proofs.Runs.{works_stay, works_as, works_then, works_refused, works_known}
use Rattle.elements.specs.Table.{kind_is}
use Rattle.elements.specs.declared.Kind.{Kind as Elemental}
use Rattle.elements.specs.declared.Kind.TheVariants.{Triangles as Facets, Straps as Segments, Nothing as Neither}
use Rattle.links.specs.Linked.{MeshLinked}
use Rattle.tear.specs.Loads.{LoadsRead}
use Rattle.crack.specs.Bodies.{NarrowRoom, EndsRoom, EndsKept, ends_listed, CracksTold, crack_turns, crack_end}
use Rattle.lists.proofs.Truths.{of_not, of_not_false}
use Rattle.std.specs.Prelude.{Ok, Err}
use Rattle.mesh.specs.declared.refusals.Refusal.{Refusal}

-- ---- what a worker leaves is ready for the next

module _ {f : Run → Run} {L : Rooms} {W : World} {at : Counts → World} {k : Counts} (F : Works f L W at (Ok k)) (l : List Entry) (words : W.log ≡ map words_of l) where
  -- a run that the blocks held
  abbrev begun : Run
  begun = record { mesh = W.mesh; log = l; needs = [] }

  went_to : (first_fault (as_rooms L) (f begun).needs ≡ 0) × Within k L × (at k ≡ world_of (f begun).mesh (f begun).log)
  unfolding first_fault
  went_to = F.went begun (λ i. record { mesh = W.mesh; log = words i }) refl

  pub left_within : Within k L
  left_within = went_to.1

  pub left_ready : ((R : Run) → Indexed R.mesh → Indexed (f R).mesh) → (k₀ : Counts) (I I' : Lent) → Ready L k₀ I W.mesh → I' ≡ I → Ready L k I' (at k).mesh
  left_ready keeps k₀ I I' Y same =
      record {
        rooms = subst (Roomed L) (sym same) Y.rooms;
        counts = left_within;
        indices = ap (λ (x : World). indices_fit_of x.mesh) went_to.2 ∙ indexed_accepted (f begun).mesh (keeps begun (accepted_indexed W.mesh Y.indices));
      }

  abbrev pub left_entries : List Entry
  left_entries = (f begun).log

  pub left_words : (at k).log ≡ map words_of left_entries
  left_words = ap (λ (x : World). x.log) went_to.2

  pub left_triangles : ((R : Run) → length (f R).mesh.triangles ≡ length R.mesh.triangles) → length (at k).mesh.triangles ≡ length W.mesh.triangles
  left_triangles keeps = ap (λ (x : World). length x.mesh.triangles) went_to.2 ∙ keeps begun

-- ---- a crack keeps the number of triangles

rewired_count : (K : Kind) (O : Opening) (ts : List Triangle) → length (rewired_triangles K O ts) ≡ length ts
unfolding rewired_triangles
rewired_count Triangles O ts = length_map_at _ ts
rewired_count Straps O ts = refl
rewired_count Nothing O ts = refl

step_count : (more : List Entry) (g : Mesh → Mesh) → Still g → (K : Kind) (O : Opening) (R : Run) → length (split_step more g K O R).mesh.triangles ≡ length R.mesh.triangles
unfolding split_step split_made step_to settled at_longest
step_count more g still K O R =
    pick_by (λ (S : Run). length S.mesh.triangles ≡ length R.mesh.triangles) (splits? O R.mesh) (ap length (still _).0 ∙ rewired_count K O R.mesh.triangles) refl

by_count : (K : Kind) (o : Option Way) (ab xy : ℕ × ℕ) (R : Run) → length (crack_by K o ab xy R).mesh.triangles ≡ length R.mesh.triangles
unfolding crack_by
by_count K none ab xy R = refl
by_count K (some w) ab xy R = step_count _ (torn w.opening xy) (still_torn w.opening xy) K w.opening R

pair_count : (K : Kind) (ls : List Float) (min : ℕ) (ab : ℕ × ℕ) (o : Option (ℕ × ℕ)) (R : Run) → length (crack_pair K ls min ab o R).mesh.triangles ≡ length R.mesh.triangles
unfolding crack_pair
pair_count K ls min ab none R = refl
pair_count K ls min ab (some xy) R = by_count K _ ab xy R

cracks_count : (K : Kind) (ls : List Float) (min : ℕ) (R : Run) (abs : List (ℕ × ℕ)) → length (fold (crack_edge K ls min) R abs).mesh.triangles ≡ length R.mesh.triangles
unfolding fold crack_edge
cracks_count K ls min R [] = refl
cracks_count K ls min R (ab ∷ abs) = cracks_count K ls min (crack_edge K ls min R ab) abs ∙ pair_count K ls min ab (current_pair K R ab) R

-- ---- the torn edges one behind the other

module _ (K : Kind) (min t : ℕ) (loads : List Float) (L : Rooms) where
  -- none
  pub cracks_none : {at : Counts → World} (k : Counts) → Within k L → CracksTold K min t [] loads L (at k) at (Ok k)
  unfolding fold
  cracks_none k b = record { works = λ ls h. works_stay k b }

  -- some behind others
  pub cracks_then : {W : World} {at at' : Counts → World} {k : Counts} {r : Ran} (abs cds : List (ℕ × ℕ)) → CracksTold K min t abs loads L W at (Ok k) → CracksTold K min t cds loads L (at k) at' r
      → CracksTold K min t (abs ++ cds) loads L W at' r
  cracks_then abs cds F G = record { works = λ ls h. works_as (λ R e. sym (fold_append (crack_edge K ls min) R abs cds)) (works_then (F.works ls h) (G.works ls h)) }

  -- a room lacks, and so it does whatever is to come
  pub cracks_refused : {W : World} {at at' : Counts → World} {c : Refusal} (abs cds : List (ℕ × ℕ)) → CracksTold K min t abs loads L W at (Err c) → CracksTold K min t (abs ++ cds) loads L W at' (Err c)
  cracks_refused {at = at} abs cds F =
      record {
        works = λ ls h.
            works_as (λ R e. sym (fold_append (crack_edge K ls min) R abs cds))
            (works_refused (λ (S : Run). fold (crack_edge K ls min) S cds) {at = at} (λ R. onward_fold (crack_edge K ls min) (edge_onward K ls min) (fold (crack_edge K ls min) R abs) cds) (F.works ls h));
      }

-- ---- the ends of listed edges

ends_append : (e : ℕ) (from to is js : List ℕ) → ends_listed e from to (is ++ js) ≡ ends_listed e from to is ++ ends_listed e from to js
unfolding ends_listed
ends_append e from to is js = ap (map (λ i. (get_or from i 0, get_or to i 0))) (sift_append (λ i. ltb i e) is js) ∙ map-append (λ i. (get_or from i 0, get_or to i 0)) (sift (λ i. ltb i e) is) (sift (λ i. ltb i e) js)

-- one more; all; and those of a mesh whose ends were kept
pub ends_step : (e : ℕ) (from to is : List ℕ) (i : ℕ) → i < length is → ends_listed e from to (take (i + 1) is) ≡ ends_listed e from to (take i is) ++ ends_listed e from to (get_or is i 0 ∷ [])
ends_step e from to is i h = ap (ends_listed e from to) (ap (λ (j : ℕ). take j is) (add-one i) ∙ take-suc is i 0 h) ∙ ends_append e from to (take i is) (get_or is i 0 ∷ [])

pub ends_rest : (e : ℕ) (from to is : List ℕ) (i : ℕ) → ends_listed e from to (take i is) ++ ends_listed e from to (drop i is) ≡ ends_listed e from to is
ends_rest e from to is i = sym (ends_append e from to (take i is) (drop i is)) ∙ ap (ends_listed e from to) (take-append-drop i is)

-- a part of a column that was copied to the front of a table
copied_at : (o n e : ℕ) (s t : List ℕ) → n ≡ e → o + e ≤ length s → take (length (take n (drop o s))) t ≡ take n (drop o s) → (i : ℕ) → i < e → get_or t i 0 ≡ get_or s (o + i) 0
copied_at o n e s t same fits h i l =
    let long : length (take n (drop o s)) ≡ n = length-take-le n (drop o s) (omega (arith, length-drop o s)) in
    sym (get_or-take (length (take n (drop o s))) t i 0 (omega arith)) ∙ ap (λ (x : List ℕ). get_or x i 0) h ∙ get_or-take n (drop o s) i 0 (omega arith) ∙ get_or-drop o s i 0

-- a part of a column whose numbers are below 1,024 fits 16 bits
part_narrow : (o n e : ℕ) (s : List ℕ) (ld : ℕ) → n ≡ e → o + e ≤ length s → e ≤ ld → ((i : ℕ) → i < e → get_or s (o + i) 0 < 1024) → NarrowRoom (take n (drop o s)) ld
part_narrow o n e s ld same fits room few =
    let long : length (take n (drop o s)) ≡ n = length-take-le n (drop o s) (omega (arith, length-drop o s)) in
    record {
      places = omega arith;
      fits = λ i l. let at : get_or (take n (drop o s)) i 0 ≡ get_or s (o + i) 0 = get_or-take n (drop o s) i 0 (omega arith) ∙ get_or-drop o s i 0 in omega (arith, few i (omega arith));
    }

-- the first two columns of the ends fit, and are kept
module _ (e : ℕ) (ends : List ℕ) (lf lt : ℕ) (P : EndsRoom e ends lf lt) where
  pub first_narrow : NarrowRoom (take e ends) lf
  first_narrow = part_narrow 0 e e ends lf refl (omega (arith, P.inside)) P.first (λ i l. subst (λ (x : ℕ). x < 1024) (col_0 0 (length ends / 4) ends i ∙ at_eq ends (omega arith)) (P.below.first i l))

  pub second_narrow : NarrowRoom (take (length ends / 4 + e - length ends / 4) (drop (length ends / 4) ends)) lt
  second_narrow = part_narrow (length ends / 4) (length ends / 4 + e - length ends / 4) e ends lt (omega arith) (omega (arith, P.inside)) P.second (λ i l. subst (λ (x : ℕ). x < 1024) (col_1 0 (length ends / 4) ends i) (P.below.second i l))

pub columns_kept : (e n : ℕ) (ends from to : List ℕ) → e ≤ length ends / 4 → n ≡ e → take (length (take e ends)) from ≡ take e ends → take (length (take n (drop (length ends / 4) ends))) to ≡ take n (drop (length ends / 4) ends)
    → EndsKept e ends from to
unfolding cell
columns_kept e n ends from to fits same f s =
    record {
      first = λ i l. copied_at 0 e e ends from refl (omega arith) f i l ∙ at_eq ends (omega arith);
      second = λ i l. copied_at (length ends / 4) n e ends to same (omega arith) s i l ∙ at_eq ends (omega arith);
    }

-- the ends of edge i, in a mesh and by the tables
abbrev ends_in_of : Mesh → ℕ → ℕ × ℕ
ends_in_of M i = ((edge_at M i).a, (edge_at M i).b)

abbrev ends_by : List ℕ → List ℕ → ℕ → ℕ × ℕ
ends_by from to i = (get_or from i 0, get_or to i 0)

module _ (M : Mesh) (e : ℕ) (ends from to : List ℕ) (lengths : List Float) (are : M.edges ≡ edges_at e ends lengths) (N : EndsKept e ends from to) where
  count : length M.edges ≡ e
  unfolding edges_at
  count = ap length are ∙ tab_length e _

  one : (i : ℕ) → i < e → ends_in_of M i ≡ ends_by from to i
  unfolding edges_at
  one i h =
      let row : edge_at M i ≡ edge_row (length ends / 4) (length lengths / 4) ends lengths i = ap (λ (es : List Edge). get_or es i blank_edge) are ∙ tab_at e _ i blank_edge h in
      λ j. ((ap (λ (x : Edge). x.a) row ∙ sym (N.first i h)) j, (ap (λ (x : Edge). x.b) row ∙ sym (N.second i h)) j)

  -- one more number of the list
  more : (t : Bool) (j : ℕ) → ltb j e ≡ t → (js : List ℕ) → map (ends_in_of M) js ≡ map (ends_by from to) js
      → map (ends_in_of M) (pick t (j ∷ js) js) ≡ map (ends_by from to) (pick t (j ∷ js) js)
  more true j q js h = λ k. one j (ltb-true j e q) k ∷ h k
  more false j q js h = h

  all_same : (js : List ℕ) → map (ends_in_of M) (sift (λ i. ltb i e) js) ≡ map (ends_by from to) (sift (λ i. ltb i e) js)
  unfolding sift
  all_same [] = refl
  all_same (j ∷ js) = more (ltb j e) j refl (sift (λ i. ltb i e) js) (all_same js)

  pub ends_torn : (is : List ℕ) → torn_ends M is ≡ ends_listed e from to is
  unfolding torn_ends ends_listed
  ends_torn is = ap (λ (n : ℕ). map (ends_in_of M) (sift (λ i. ltb i n) is)) count ∙ all_same is

-- ---- behind the torn edges

-- t tells whether anything split
module _ (K : Kind) {L : Rooms} {W : World} (t : Bool) (found : (S : Run) → W.log ≡ map words_of S.log → t ≡ not (empty (splits_of S.log))) where
  -- nothing did
  pub end_unsplit : {at : Counts → World} {r : Ran} → t ≡ false → Works (λ (S : Run). S) L W at r → Works (crack_end K) L W at r
  unfolding crack_end
  end_unsplit e F =
      works_as (λ S h. sym (ap (λ (s : Bool). pick s S (remove_straddlers_of K (split_pinched_of K S))) (of_not_false (empty (splits_of S.log)) (sym e ∙ found S (ap (λ (x : World). x.log) h))))) F

  -- something did: the pinched are split, and then the straddlers go
  end_split : {at : Counts → World} {r : Ran} → t ≡ true → Works (λ (S : Run). remove_straddlers_of K (split_pinched_of K S)) L W at r → Works (crack_end K) L W at r
  unfolding crack_end
  end_split e F =
      works_as (λ S h. sym (ap (λ (s : Bool). pick s S (remove_straddlers_of K (split_pinched_of K S))) (of_not (empty (splits_of S.log)) (sym e ∙ found S (ap (λ (x : World). x.log) h))))) F

  pub end_refused : {at at' : Counts → World} (r : Ran) (c : Refusal) → r ≡ Err c → t ≡ true → Works (split_pinched_of K) L W at r → Works (crack_end K) L W at' r
  end_refused {at} {at'} r c known e F =
      works_known (Err c) r (sym known) (end_split e (works_refused (remove_straddlers_of K) {at = at} {at' = at'} (λ R. straddlers_onward K (split_pinched_of K R)) (works_known r (Err c) known F)))

  pub end_done : {at at' : Counts → World} (r : Ran) (k : Counts) {s : Ran} → r ≡ Ok k → t ≡ true → Works (split_pinched_of K) L W at r → Works (remove_straddlers_of K) L (at k) at' s → Works (crack_end K) L W at' s
  end_done r k known e F G = end_split e (works_then (works_known r (Ok k) known F) G)

-- the pinched are split by the kind of the mesh: there are some of triangles alone
module _ (kind : Elemental) where
  pub pinched_linked : kind ≡ Facets → {t e b : ℕ} {corners ends outline links : List ℕ} → MeshLinked (kind_is kind) t e b corners ends outline links → MeshLinked Triangles t e b corners ends outline links
  pinched_linked q {t} {e} {b} {corners} {ends} {outline} {links} X = subst (λ (z : Elemental). MeshLinked (kind_is z) t e b corners ends outline links) q X

  pub pinched_split : {L : Rooms} {W : World} {at : Counts → World} {r : Ran} → kind ≡ Facets → Works (split_pinched_of Triangles) L W at r → Works (split_pinched_of (kind_is kind)) L W at r
  pinched_split {L} {W} {at} {r} q F = subst (λ (z : Elemental). Works (split_pinched_of (kind_is z)) L W at r) (sym q) F

  pub pinched_straps : {L : Rooms} (at : Counts → World) (k : Counts) → kind ≡ Segments → Within k L → Works (split_pinched_of (kind_is kind)) L (at k) at (Ok k)
  unfolding split_pinched_of
  pinched_straps {L} at k q w = subst (λ (z : Elemental). Works (split_pinched_of (kind_is z)) L (at k) at (Ok k)) (sym q) (works_stay k w)

  pub pinched_nothing : {L : Rooms} (at : Counts → World) (k : Counts) → kind ≡ Neither → Within k L → Works (split_pinched_of (kind_is kind)) L (at k) at (Ok k)
  unfolding split_pinched_of
  pinched_nothing {L} at k q w = subst (λ (z : Elemental). Works (split_pinched_of (kind_is z)) L (at k) at (Ok k)) (sym q) (works_stay k w)

-- the end goes on from what is before it
end_onward : (K : Kind) (S : Run) → Onward S (crack_end K S)
unfolding crack_end
end_onward K S = onward_pick (empty (splits_of S.log)) S S (remove_straddlers_of K (split_pinched_of K S)) (onward_stay S) (onward_then (pinched_onward K S) (straddlers_onward K (split_pinched_of K S)))

-- the removal of straddlers may begin where a mesh stands in the blocks
pub straddlers_room : (k : Counts) (R : Rooms) (p : List Float) (r c : List ℕ) (v : List Float) (e : List ℕ) (l : List Float) (o g : List ℕ) → Ready R k (lent p r c v e l o g) (mesh_at k p r c v e l o)
    → SettleRoom R k (length c) (length v) (length e) (length l) (length o) (length g) × CornersIn k.particles k.triangles c × EndsIn k.particles k.edges e × SidesIn k.particles k.boundary o
straddlers_room k R p r c v e l o g A =
    let Q = A.rooms in (
      record {
        counts = A.counts;
        few_particles = Q.few_particles;
        few_triangles = Q.few_triangles;
        few_edges = Q.few_edges;
        few_boundary = Q.few_boundary;
        few_log = Q.few_log;
        corners = Q.corners;
        volumes = Q.volumes;
        ends = Q.ends;
        lengths = Q.lengths;
        outline = Q.outline;
        log = Q.log;
      },
      corners_in k p r c v e l o A.indices,
      ends_in k p r c v e l o A.indices,
      sides_in k p r c v e l o A.indices,
    )

-- ---- what the torn edges leave

module _ (K : Kind) (min t : ℕ) (abs : List (ℕ × ℕ)) (loads : List Float) (L : Rooms) (W : World) (at : Counts → World) (k : Counts) (F : CracksTold K min t abs loads L W at (Ok k)) (l : List Entry) (words : W.log ≡ map words_of l) where
  -- by the loads that are in the table
  pub cracked : Works (λ (R : Run). fold (crack_edge K (take t loads) min) R abs) L W at (Ok k)
  cracked = F.works (take t loads) (λ q. refl)

  pub cracks_ready : (k₀ : Counts) (I I' : Lent) → Ready L k₀ I W.mesh → I' ≡ I → Ready L k I' (at k).mesh
  cracks_ready k₀ I I' Y same = left_ready cracked l words (λ R X. fold_indexed (crack_edge K (take t loads) min) (edge_indexed K (take t loads) min) R abs X) k₀ I I' Y same

  abbrev pub cracks_entries : List Entry
  cracks_entries = left_entries cracked l words

  pub cracks_words : (at k).log ≡ map words_of cracks_entries
  cracks_words = left_words cracked l words

  pub cracks_triangles : length (at k).mesh.triangles ≡ length W.mesh.triangles
  cracks_triangles = left_triangles cracked l words (λ R. cracks_count K (take t loads) min R abs)

-- ---- the whole

module _ (K : Kind) (min : ℕ) (is : List ℕ) (k : Counts) (points : List Float) (roots corners : List ℕ) (volumes : List Float) (ends : List ℕ) (lengths : List Float) (outline log : List ℕ) (from to : List ℕ) (loads : List Float)
    (N : EndsKept k.edges ends from to) (D : LoadsRead k.triangles k.edges corners volumes ends lengths loads) where
  abbrev held : Mesh
  held = mesh_at k points roots corners volumes ends lengths outline

  abbrev world : World
  world = world_at k points roots corners volumes ends lengths outline log

  -- the loads are the mesh's, and so are the ends
  loads_held : K ≡ Triangles → take k.triangles loads ≡ loads_of K held
  unfolding mesh_at
  loads_held q = D.are held refl refl ∙ ap (λ (x : Kind). loads_of x held) (sym q)

  ends_held : torn_ends held is ≡ ends_listed k.edges from to is
  unfolding mesh_at
  ends_held = ends_torn held k.edges ends from to lengths refl N is

  -- so the torn edges that were cracked by them are the mesh's
  pub turns_work : {L : Rooms} {at : Counts → World} {r : Ran} → CracksTold K min k.triangles (ends_listed k.edges from to is) loads L world at r → Works (crack_turns K min is) L world at r
  unfolding crack_turns world_at
  turns_work F =
      works_as
      (λ R e.
      ap (λ (abs : List (ℕ × ℕ)). fold (crack_edge K (loads_of K held) min) R abs) (sym ends_held)
      ∙ ap (λ (x : World). fold (crack_edge K (loads_of K x.mesh) min) R (torn_ends x.mesh is)) e)
      (F.works (loads_of K held) loads_held)

-- of an empty list there is nothing to crack
pub turns_none : (K : Kind) (min : ℕ) (is : List ℕ) {L : Rooms} {at : Counts → World} (k : Counts) → length is ≡ 0 → Within k L → Works (crack_turns K min is) L (at k) at (Ok k)
unfolding crack_turns torn_ends sift fold
turns_none K min [] k e w = works_stay k w
turns_none K min (i ∷ is) k e w = absurd (omega arith)

pub turns_indexed : (K : Kind) (min : ℕ) (is : List ℕ) (R : Run) → Indexed R.mesh → Indexed (crack_turns K min is R).mesh
unfolding crack_turns
turns_indexed K min is R X = fold_indexed (crack_edge K (loads_of K R.mesh) min) (edge_indexed K (loads_of K R.mesh) min) R (torn_ends R.mesh is) X

-- the end behind the torn edges is the whole
module _ (K : Kind) (min : ℕ) (is : List ℕ) where
  crack_is : (R : Run) → crack_end K (crack_turns K min is R) ≡ crack K min is R
  unfolding crack crack_end crack_turns
  crack_is R = refl

  module _ {L : Rooms} {W : World} {at : Counts → World} (r : Ran) (F : Works (crack_turns K min is) L W at r) where
    pub body_refused : {at' : Counts → World} (c : Refusal) → r ≡ Err c → Works (crack K min is) L W at' r
    body_refused {at'} c known =
        works_known (Err c) r (sym known)
        (works_as (λ R e. crack_is R) (works_refused (crack_end K) {at = at} {at' = at'} (λ R. end_onward K (crack_turns K min is R)) (works_known r (Err c) known F)))

    pub body_done : {at' : Counts → World} (k : Counts) {s : Ran} → r ≡ Ok k → Works (crack_end K) L (at k) at' s → Works (crack K min is) L W at' s
    body_done k known G = works_as (λ R e. crack_is R) (works_then (works_known r (Ok k) known F) G)

  -- no edge is torn, and nothing split: t tells whether anything did
  pub crack_none : {L : Rooms} (at : Counts → World) (k : Counts) (t : Bool) → ((S : Run) → (at k).log ≡ map words_of S.log → t ≡ not (empty (splits_of S.log))) → length is ≡ 0 → t ≡ false → Within k L
      → Works (crack K min is) L (at k) at (Ok k)
  crack_none at k t found e f w = works_as (λ R h. crack_is R) (works_then (turns_none K min is {at = at} k e w) (end_unsplit K t found {at = at} f (works_stay {at = at} k w)))
