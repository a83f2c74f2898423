-- What each worker asks and gives, from what a call asks and promises of its work; and the cut behind its marks. Assumes nothing.
use Prim.Native.Nat.{ℕ, ◌≤◌}
use native.Mathlib.Omega.{arith}
use mathlib.Core.Path.{◌≡◌, refl, sym, ◌∙◌, subst}
use mathlib.Core.List.{List, [], map}
use lib.ListN.{length, set, length-set}
use lib.Ieee.{Float}
use Rattle.model.specs.Elements.{Kind, kind_of}
use Rattle.model.specs.Run.{Entry, Run}
use Rattle.model.specs.Calls.{first_fault}
use Rattle.model.specs.Cut.{Blade, marked_by, cut_along, cut}
use Rattle.model_laws.proofs.Steps.{along_onward}
use Rattle.model_laws.proofs.Indexed.{Indexed}
use Rattle.model_laws.proofs.Marks.{marked_mesh}
use Rattle.mesh.specs.At.{mesh_at}
use Rattle.mesh.specs.Log.{World, words_of, world_at}
use Rattle.mesh.specs.Workers.{EdgeRoom}
use Rattle.mesh.specs.Filled.{lent}
use Rattle.mesh.specs.declared.Counts.{Counts}
use Rattle.mesh.specs.declared.Rooms.{Rooms}
use Rattle.elements.specs.declared.Kind.{Kind as KindCase}
use Rattle.elements.specs.Table.{kind_is, KindFound}
use Rattle.work.specs.Working.{Ready, Works, SettleRoom, Logged}
use Rattle.edge_drops.specs.Parted.{listed, world_parted, ListingAfter}
use Rattle.edge_drops.proofs.PartedLaws.{cleared, none_listed, works_unlisted}
use Rattle.split.specs.Tables.{SidesGiven}
use Rattle.work.specs.Places.{CornersIn, EndsIn, SidesIn}
use Rattle.work.specs.Ran.{Ran}
use Rattle.work.proofs.Runs.{works_then, works_refused, works_known}
use Rattle.work.proofs.Placed.{corners_in, ends_in, sides_in}
use Rattle.blade.specs.declared.Point.{Point}
use Rattle.marks.specs.Marking.{blade_by}
use Rattle.marks.specs.declared.Rule.{Rule}
use Rattle.mesh_calls.specs.Jobs.{rule_in_of, job_run}
use Rattle.perform.specs.Asks.{JobAsked}
use Rattle.mesh_calls.specs.declared.Job.{Job}
use Rattle.mesh_calls.specs.declared.Job.TheVariants.{Split}
use Rattle.std.specs.Prelude.{Ok, Err}
use Rattle.mesh.specs.declared.refusals.Refusal.{Refusal}

module _ (k : Counts) (R : Rooms) (p : List Float) (r c : List ℕ) (v : List Float) (e : List ℕ) (l : List Float) (o g : List ℕ) where
  -- the kind that was found is that of the mesh in the blocks
  kind_found : (kind : KindCase) → KindFound k.triangles k.edges e kind → kind_is kind ≡ kind_of (mesh_at k p r c v e l o)
  unfolding kind_of mesh_at
  kind_found kind F = F.is c v l

  -- straddlers may be removed
  pub straddlers_room : Ready R k (lent p r c v e l o g) (mesh_at k p r c v e l o)
      → SettleRoom R k (length c) (length v) (length e) (length l) (length o) (length g) × CornersIn k.particles k.triangles c × EndsIn k.particles k.edges e × SidesIn k.particles k.boundary o
  straddlers_room A =
      let Q = A.rooms in (
        record {
          counts = A.counts;
          few_particles = Q.few_particles;
          few_triangles = Q.few_triangles;
          few_edges = Q.few_edges;
          few_boundary = Q.few_boundary;
          few_log = Q.few_log;
          corners = Q.corners;
          volumes = Q.volumes;
          ends = Q.ends;
          lengths = Q.lengths;
          outline = Q.outline;
          log = Q.log;
        },
        corners_in k p r c v e l o A.indices,
        ends_in k p r c v e l o A.indices,
        sides_in k p r c v e l o A.indices,
      )

  module _ (job j : Job) (arm : job ≡ j) (ls : List ℕ) (kind : KindCase) (F : KindFound k.triangles k.edges e kind) where
    -- a job is done by the worker of the arm that names it, for the kind that was found
    pub job_works : {W : World} {then : Counts → World} {ran : Ran} → Works (job_run j ls (kind_is kind)) R W then ran → Works (job_run job ls (kind_of (mesh_at k p r c v e l o))) R W then ran
    job_works {W} {then} {ran} done =
        subst (λ (x : Job). Works (job_run x ls (kind_of (mesh_at k p r c v e l o))) R W then ran) (sym arm)
        (subst (λ (K : Kind). Works (job_run j ls K) R W then ran) (kind_found kind F) done)

    -- sides are given for that kind
    pub split_given : (at : ℕ) → j ≡ Split at → JobAsked job ls (mesh_at k p r c v e l o) → SidesGiven (kind_is kind) (mesh_at k p r c v e l o) at ls
    split_given at q S =
        subst (λ (K : Kind). SidesGiven K (mesh_at k p r c v e l o) at ls) (sym (kind_found kind F))
        (subst (λ (x : Job). JobAsked x ls (mesh_at k p r c v e l o)) (arm ∙ q) S)

-- ---- nothing is listed

-- where it is done, the counts are within the rooms, so no edge is listed of those that have room
unlisted : {f : Run → Run} {L : Rooms} {W : World} {at : Counts → World} (le ll : ℕ) (list : List ℕ) (ran : Ran) → 2049 ≤ length list → listed list ≡ 0 → L.edges ≤ 2048 → EdgeRoom L.edges le ll
    → (entries : List Entry) → W.log ≡ map words_of entries → Works f L W at ran → ListingAfter le ll list ran
unfolding first_fault
unlisted le ll list (Err c) long none few room entries q F = tt
unlisted {W = W} le ll list (Ok k) long none few room entries q F =
    let R : Run = record { mesh = W.mesh; log = entries; needs = [] } in
    let H = (F.went R (λ i. record { mesh = W.mesh; log = q i }) refl).1.edges in
    none_listed [] [] list none k.edges le ll long (omega arith) (record { ends = omega (arith, room.ends); lengths = omega (arith, room.lengths) })

module _ (k : Counts) (R : Rooms) (p : List Float) (r c : List ℕ) (v : List Float) (e : List ℕ) (l : List Float) (o g : List ℕ)
    (A : Ready R k (lent p r c v e l o g) (mesh_at k p r c v e l o)) (G : Logged k.log g) where
  -- the list was told so before a worker that leaves it alone
  pub parts_unlisted : {f : Run → Run} (p' : List Float) (r' c' e' : List ℕ) (l' : List Float) (o' g' list : List ℕ) (ran : Ran) → 2049 ≤ length list → length e' ≡ length e → length l' ≡ length l
      → Works f R (world_at k p r c v e l o g) (λ q. world_at q p' r' c' v e' l' o' g') ran
      → Works f R (world_at k p r c v e l o g) (λ q. world_parted q p' r' c' v e' l' o' g' (set list 2048 0)) ran × ListingAfter (length e') (length l') (set list 2048 0) ran
  unfolding world_at
  parts_unlisted p' r' c' e' l' o' g' list ran long le ll F =
      let Q = A.rooms in
      let none = cleared list long in (
        works_unlisted p' r' c' v e' l' o' g' (set list 2048 0) ran none F,
        unlisted (length e') (length l') (set list 2048 0) ran (omega (arith, length-set list 2048 0)) none Q.few_edges
            (record { ends = omega (arith, Q.ends); lengths = omega (arith, Q.lengths) }) G.entries G.words F,
      )

-- where a room lacks the blocks may be read as any world
pub works_any : {f : Run → Run} {L : Rooms} {W : World} {at at' : Counts → World} (ran : Ran) (c : Refusal) → ran ≡ Err c → Works f L W at ran → Works f L W at' ran
works_any {f} {L} {W} {at} {at'} ran c known F =
    let G : Works f L W at (Err c) = works_known ran (Err c) known F in
    works_known (Err c) ran (sym known) (record { went = λ R e z. G.went R e z })

-- ---- the cut behind its marks

-- the rule that was found is that of the edition
pub cut_ruled : (K : Kind) (rule : Rule) (n : ℕ) (b0 b1 : Point) (f : Float) {L : Rooms} {W : World} {then : Counts → World} {ran : Ran} → rule ≡ rule_in_of n
    → Works (cut K (blade_by rule b0 b1) f) L W then ran → Works (cut K (blade_by (rule_in_of n) b0 b1) f) L W then ran
cut_ruled K rule n b0 b1 f {L} {W} {then} {ran} e done = subst (λ (r : Rule). Works (cut K (blade_by r b0 b1) f) L W then ran) e done

-- marks keep the mesh as it is
pub marked_indexed : (K : Kind) (B : Blade) (R : Run) → Indexed R.mesh → Indexed (marked_by K B R).mesh
marked_indexed K B R X = subst Indexed (sym (marked_mesh K B R)) X

module _ (K : Kind) (B : Blade) (f : Float) {L : Rooms} {W : World} {at : Counts → World} {ran : Ran} (F : Works (marked_by K B) L W at ran) where
  -- without room for them there is no cut
  pub marks_refused : {then : Counts → World} (c : Refusal) → ran ≡ Err c → Works (cut K B f) L W then ran
  unfolding cut
  marks_refused {then} c known =
      let G : Works (λ (R : Run). cut_along K B f (marked_by K B R)) L W then (Err c) = works_refused (cut_along K B f) (λ R. along_onward K B f (marked_by K B R)) (works_known ran (Err c) known F) in
      works_known (Err c) ran (sym known) (record { went = G.went })

  -- else the mesh is cut behind them
  pub marks_done : {then : Counts → World} {s : Ran} (k : Counts) → ran ≡ Ok k → Works (cut_along K B f) L (at k) then s → Works (cut K B f) L W then s
  unfolding cut
  marks_done {then} {s} k known C = record { went = (works_then (works_known ran (Ok k) known F) C).went }
