-- The split of a snapped end: it is the plain split, and then every edge with an end behind the particles of before is slack. Assumes nothing.
use mathlib.Core.Path.{◌≡◌, refl, sym, ◌∙◌, ap, subst}
use mathlib.Core.Bool.{Bool, true, false, false≢true, ◌||◌}
use mathlib.Core.List.{List, [], ◌∷◌, map}
use Prim.Native.Nat.{ℕ, ◌+◌, ◌-◌, ◌/◌, ◌<◌, ◌≤◌}
use native.Mathlib.Omega.{arith}
use native.Mathlib.Decide.{dec_le}
use borrow.Author.Tests.{le-leb, lt-leb, eqb-true}
use lib.Dec.{leb, eqb}
use lib.ListN.{length, get_or, length-map}
use lib.Ieee.{Float}
use Rattle.lists.specs.Lists.{pick, stands, any, up_to}
use Rattle.lists.proofs.Sifts.{stands_get, stands_none, up_to_length, up_to_at}
use Rattle.lists.proofs.Stores.{map_at}
use Rattle.blade.specs.declared.Point.{Point}
use Rattle.model.specs.Mesh.{Edge, Mesh}
use Rattle.model.specs.Trace.{All}
use Rattle.model.specs.Run.{Entry, Run, step_to, with_mesh}
use Rattle.model.specs.Split.{Opening, opening_of, splits?, made, at_longest, settled, split_made, split_step, split_by_sides_of}
use Rattle.model.specs.Cut.{slack, slackened, with_edges, at_copy}
use Rattle.model.specs.Calls.{first_fault}
use Rattle.model_laws.proofs.Laws.{all_over}
use Rattle.model_laws.proofs.Traced.{copied_length}
use Rattle.model_laws.proofs.Indexed.{Indexed, Ends, sides_indexed}
use Rattle.model_laws.proofs.Accepted.{accepted_indexed}
use Rattle.mesh.specs.Log.{World, world_of, world_at, words_of}
use Rattle.mesh.specs.At.{mesh_at}
use Rattle.mesh.specs.Given.{Lent, as_rooms}
use Rattle.mesh.specs.declared.Counts.{Counts}
use Rattle.mesh.specs.declared.Rooms.{Rooms}
use Rattle.work.specs.Working.{Within, Ready, Went, Works, Logged}
use Rattle.work.proofs.Placed.{particles_count}
use Rattle.work.specs.Ran.{Ran}
use Rattle.model.specs.Elements.{Kind}
use Rattle.work.proofs.Runs.{works_known}
use Rattle.slack.specs.Slack.{beyond, slack_beyond, SlackFrom, EdgesHere}
use Rattle.lists.proofs.Truths.{or_end, of_not_false}
use Rattle.cut.specs.declared.facets.Parting.{Parting}
use Rattle.cut.specs.declared.facets.Parting.TheVariants.{Free, Blade as BladeFrom, Snapped}
use Rattle.cut.specs.Running.{sides_in, split_by_of, split_in, slackens?}
use Rattle.cut.proofs.RunLaws.{by_indexed}
use Rattle.std.specs.Prelude.{Ok, Err}
use Rattle.mesh.specs.declared.refusals.Refusal.{Refusal}

-- ---- the copies of a split

made_length : (O : Opening) → length (made O) ≡ O.count - 1
unfolding made
made_length O = length-map (up_to (O.count - 1)) _ ∙ up_to_length (O.count - 1)

made_at : (O : Opening) (k : ℕ) → k < O.count - 1 → get_or (made O) k 0 ≡ O.before + k
unfolding made
made_at O k h =
    map_at (λ g. O.before + g) (up_to (O.count - 1)) k 0 0 (omega (arith, up_to_length (O.count - 1)))
    ∙ ap (λ g. O.before + g) (up_to_at (O.count - 1) k h)

-- they are the particles behind those of before
made_stands : (O : Opening) (w : ℕ) → w < O.before + (O.count - 1) → stands w (made O) ≡ leb O.before w
made_stands O w h = by (stands w (made O)) refl
  where
    by : (t : Bool) → stands w (made O) ≡ t → t ≡ leb O.before w
    by true e =
        let s = stands_get w (made O) e in
        let n = made_length O in
        let b : s.0 < O.count - 1 = omega (arith, s.1.0) in
        sym (le-leb O.before w (omega (arith, made_at O s.0 b, s.1.1)))
    by false e =
        elim (dec_le O.before w) [
          | yes l ↦
              let n = made_length O in
              let b : w - O.before < O.count - 1 = omega arith in
              absurd (stands_none w (made O) (w - O.before) e (omega arith) (let m = made_at O (w - O.before) b in omega arith))
          | no n ↦ sym (lt-leb O.before w (omega (arith, n)))
        ]

-- so the edges at them are those with an end there
copy_beyond : (O : Opening) (e : Edge) → Ends (O.before + (O.count - 1)) e → at_copy O e ≡ beyond O.before e
unfolding any beyond
copy_beyond O e P =
    (λ i. made_stands O e.a P.first i || (made_stands O e.b P.second i || false))
    ∙ ap (λ (s : Bool). leb O.before e.a || s) (or_end (leb O.before e.b))

-- an edge of the particles before has no end there
none_beyond : (n : ℕ) (e : Edge) → Ends n e → beyond n e ≡ false
unfolding beyond
none_beyond n e P = λ i. lt-leb n e.a P.first i || lt-leb n e.b P.second i

-- ---- slack edges

abbrev slack_if : (Edge → Bool) → Edge → Edge
slack_if p e = pick (p e) (slack e) e

slack_same : (p q : Edge → Bool) (es : List Edge) → All (λ (e : Edge). p e ≡ q e) es → map (slack_if p) es ≡ map (slack_if q) es
slack_same p q [] h = refl
slack_same p q (e ∷ es) h = λ i. pick (h.0 i) (slack e) e ∷ slack_same p q es h.1 i

slack_stays : (p : Edge → Bool) (es : List Edge) → All (λ (e : Edge). p e ≡ false) es → map (slack_if p) es ≡ es
slack_stays p [] h = refl
slack_stays p (e ∷ es) h = λ i. pick (h.0 i) (slack e) e ∷ slack_stays p es h.1 i

-- a run whose edges at `from` or behind are slack; and a world
abbrev pub slack_run : ℕ → Run → Run
slack_run from S = with_mesh (slackened (beyond from) S.mesh) S

abbrev pub slack_world : ℕ → World → World
slack_world from W = record { mesh = slackened (beyond from) W.mesh; log = W.log }

-- nothing is slack where no edge has an end there
slack_idle : (R : Run) → Indexed R.mesh → R ≡ slack_run (length R.mesh.particles) R
unfolding slackened
slack_idle R X =
    let n = length R.mesh.particles in
    let e = slack_stays (beyond n) R.mesh.edges (all_over (Ends n) (λ (e : Edge). beyond n e ≡ false) (none_beyond n) R.mesh.edges X.edges) in
    sym (λ i. with_mesh (with_edges R.mesh (e i)) R)

-- ---- the split

module _ (K : Kind) (O : Opening) (R : Run) (before : O.before ≡ length R.mesh.particles) where
  after : Mesh
  after = settled K O (at_longest K O R.mesh)

  after_count : length after.particles ≡ O.before + (O.count - 1)
  unfolding after settled at_longest
  after_count = copied_length O R.mesh.particles ∙ ap (λ n. n + (O.count - 1)) (sym before)

  after_edges : Indexed after → map (slack_if (at_copy O)) after.edges ≡ map (slack_if (beyond O.before)) after.edges
  after_edges X =
      slack_same (at_copy O) (beyond O.before) after.edges
      (all_over (Ends (length after.particles)) (λ (e : Edge). at_copy O e ≡ beyond O.before e)
      (λ e P. copy_beyond O e (subst (λ n. Ends n e) after_count P)) after.edges X.edges)

  made_slack : Indexed after → split_made [] (slackened (at_copy O)) K O R ≡ slack_run O.before (split_made [] (λ M. M) K O R)
  unfolding split_made step_to slackened after
  made_slack X = λ i. with_mesh (with_edges after (after_edges X i)) (split_made [] (λ M. M) K O R)

module _ (b0 b1 : Point) (K : Kind) (R : Run) (v : ℕ) (X : Indexed R.mesh) where
  opening : Opening
  opening = opening_of K R.mesh v (sides_in (Snapped b0 b1) K R.mesh v)

  opening_before : opening.before ≡ length R.mesh.particles
  unfolding opening opening_of
  opening_before = refl

  -- where v splits
  split_known : splits? opening R.mesh ≡ true → Indexed (after K opening R opening_before)
  unfolding opening after split_by_sides_of split_step split_made step_to
  split_known e =
      subst (λ (t : Bool). Indexed (pick t (split_made [] (λ M. M) K opening R) R).mesh) e
      (sides_indexed K v (sides_in (Snapped b0 b1) K R.mesh v) R X)

  snapped_is : split_in (Snapped b0 b1) K R v ≡ slack_run (length R.mesh.particles) (split_by_of (Snapped b0 b1) K R v)
  unfolding split_in split_by_of split_by_sides_of split_step opening
  snapped_is = by (splits? opening R.mesh) refl
    where
      by : (t : Bool) → splits? opening R.mesh ≡ t → pick t (split_made [] (slackened (at_copy opening)) K opening R) R ≡ slack_run (length R.mesh.particles) (pick t (split_made [] (λ M. M) K opening R) R)
      by true e =
          made_slack K opening R opening_before (split_known e)
          ∙ ap (λ n. slack_run n (split_made [] (λ M. M) K opening R)) opening_before
      by false e = slack_idle R X

-- ---- over the blocks

-- how many particles a world has
world_count : (q : Counts) (points : List Float) (roots corners : List ℕ) (volumes : List Float) (ends : List ℕ) (lengths : List Float) (outline log : List ℕ) → length (world_at q points roots corners volumes ends lengths outline log).mesh.particles ≡ q.particles
unfolding world_at
world_count q points roots corners volumes ends lengths outline log = particles_count q points roots corners volumes ends lengths outline

-- a worker that lacks room lacks it wherever it would have gone
known_refused : {f : Run → Run} {L : Rooms} {W : World} {at at' : Counts → World} (r : Ran) (c : Refusal) → r ≡ Err c → Works f L W at r → Works f L W at' r
known_refused {f} {L} {W} {at} {at'} r c known F =
    works_known (Err c) r (sym known) (record { went = λ R e z. subst (Went L (f R) at) known (F.went R e z) })

-- the blocks behind the slackening
pub slack_world_lem : (from : ℕ) (k : Counts) (points : List Float) (roots corners : List ℕ) (volumes : List Float) (ends : List ℕ) (lengths lengths' : List Float) (outline log : List ℕ) → SlackFrom from k.edges ends lengths lengths'
    → world_at k points roots corners volumes ends lengths' outline log ≡ slack_world from (world_at k points roots corners volumes ends lengths outline log)
unfolding world_at mesh_at slackened slack_beyond
slack_world_lem from k points roots corners volumes ends lengths lengths' outline log S =
    λ i. record { mesh = with_edges (mesh_at k points roots corners volumes ends lengths outline) (S.edges i); log = (world_at k points roots corners volumes ends lengths outline log).log }

module _ (b0 b1 : Point) (K : Kind) (v : ℕ) {L : Rooms} {W : World} {at : Counts → World} (r : Ran) (F : Works (λ (R : Run). split_by_of (Snapped b0 b1) K R v) L W at r) where
  -- the plain split came to k
  module _ (k : Counts) (known : r ≡ Ok k) where
    went_on : (R : Run) → W ≡ world_of R.mesh R.log → first_fault (as_rooms L) R.needs ≡ 0 → Went L (split_by_of (Snapped b0 b1) K R v) at (Ok k)
    went_on R e z = subst (Went L (split_by_of (Snapped b0 b1) K R v) at) known (F.went R e z)

  -- a run in the blocks, with slack edges
  module _ (fit : Indexed W.mesh) (R : Run) (held : W ≡ world_of R.mesh R.log) where
    snap_run : split_in (Snapped b0 b1) K R v ≡ slack_run (length W.mesh.particles) (split_by_of (Snapped b0 b1) K R v)
    snap_run =
        let m = ap (λ (x : World). x.mesh) held in
        snapped_is b0 b1 K R v (subst Indexed m fit)
        ∙ ap (λ (M : Mesh). slack_run (length M.particles) (split_by_of (Snapped b0 b1) K R v)) (sym m)

  pub snap_refused : {at' : Counts → World} (c : Refusal) → r ≡ Err c → Indexed W.mesh → Works (λ (R : Run). split_in (Snapped b0 b1) K R v) L W at' r
  snap_refused {at'} c known fit =
      subst (λ (x : Ran). Works (λ (R : Run). split_in (Snapped b0 b1) K R v) L W at' x) (sym known)
      (record {
        went = λ R e z.
            subst (λ (S : Run). Went L S at' (Err c)) (sym (snap_run fit R e))
            (subst (Went L (split_by_of (Snapped b0 b1) K R v) at) known (F.went R e z));
      })

  pub snap_done : {at' : Counts → World} (k : Counts) → r ≡ Ok k → Indexed W.mesh → at' k ≡ slack_world (length W.mesh.particles) (at k) → Works (λ (R : Run). split_in (Snapped b0 b1) K R v) L W at' (Ok k)
  snap_done {at'} k known fit E =
      record {
        went = λ R e z.
            let h = went_on k known R e z in
            subst (λ (S : Run). Went L S at' (Ok k)) (sym (snap_run fit R e)) (h.0, h.1, E ∙ ap (slack_world (length W.mesh.particles)) h.2);
      }

  -- the plain split made no copy
  pub snap_idle : (k : Counts) → r ≡ Ok k → Indexed W.mesh → length (at k).mesh.particles ≡ length W.mesh.particles → Works (λ (R : Run). split_in (Snapped b0 b1) K R v) L W at (Ok k)
  snap_idle k known fit same =
      record {
        went = λ R e z.
            let h = went_on k known R e z in
            let S = split_by_of (Snapped b0 b1) K R v in
            let X = by_indexed (Snapped b0 b1) K R v (subst Indexed (ap (λ (x : World). x.mesh) e) fit) in
            subst (λ (T : Run). Went L T at (Ok k))
            (slack_idle S X ∙ ap (λ n. slack_run n S) (sym (ap (λ (x : World). length x.mesh.particles) h.2) ∙ same) ∙ sym (snap_run fit R e)) h;
      }

-- a split that came to k is within the rooms
by_within : (w : Parting) (K : Kind) (v : ℕ) {L : Rooms} {W : World} {at : Counts → World} (r : Ran) → Works (λ (R : Run). split_by_of w K R v) L W at r → (k : Counts) → r ≡ Ok k → (l : List Entry) → W.log ≡ map words_of l → Within k L
unfolding first_fault
by_within w K v {L} {W} {at} r F k known l e =
    let R : Run = record { mesh = W.mesh; log = l; needs = [] } in
    (subst (Went L (split_by_of w K R v) at) known (F.went R (λ i. record { mesh = W.mesh; log = e i }) refl)).1

-- the same of any parting
module _ (K : Kind) (v : ℕ) {L : Rooms} {W : World} {at : Counts → World} (r : Ran) where
  pub in_refused : (w : Parting) {at' : Counts → World} (c : Refusal) → r ≡ Err c → Indexed W.mesh → Works (λ (R : Run). split_by_of w K R v) L W at r → Works (λ (R : Run). split_in w K R v) L W at' r
  unfolding split_in
  in_refused Free {at'} c known fit F = known_refused {at = at} {at' = at'} r c known F
  in_refused (BladeFrom rule b0 b1) {at'} c known fit F = known_refused {at = at} {at' = at'} r c known F
  in_refused (Snapped b0 b1) c known fit F = snap_refused b0 b1 K v r F c known fit

  -- nothing is made slack
  pub in_plain : (w : Parting) (k : Counts) (before after : ℕ) → r ≡ Ok k → Indexed W.mesh → length W.mesh.particles ≡ before → length (at k).mesh.particles ≡ after → slackens? w before after ≡ false
      → Works (λ (R : Run). split_by_of w K R v) L W at r → Works (λ (R : Run). split_in w K R v) L W at (Ok k)
  unfolding split_in
  in_plain Free k b a known fit f g s F = works_known r (Ok k) known F
  in_plain (BladeFrom rule b0 b1) k b a known fit f g s F = works_known r (Ok k) known F
  in_plain (Snapped b0 b1) k b a known fit f g s F = snap_idle b0 b1 K v r F k known fit (g ∙ sym (eqb-true b a (of_not_false (eqb b a) (sym s))) ∙ sym f)

  -- the edges at the copies are
  pub in_slack : (w : Parting) {at' : Counts → World} (k : Counts) (before after : ℕ) → r ≡ Ok k → Indexed W.mesh → length W.mesh.particles ≡ before → slackens? w before after ≡ true → at' k ≡ slack_world before (at k)
      → Works (λ (R : Run). split_by_of w K R v) L W at r → Works (λ (R : Run). split_in w K R v) L W at' (Ok k)
  in_slack Free k b a known fit f s E F = absurd (false≢true s)
  in_slack (BladeFrom rule b0 b1) k b a known fit f s E F = absurd (false≢true s)
  in_slack (Snapped b0 b1) k b a known fit f s E F = snap_done b0 b1 K v r F k known fit (E ∙ ap (λ n. slack_world n (at k)) (sym f))

module _ (w : Parting) (K : Kind) (v : ℕ) (k : Counts) (points : List Float) (roots corners : List ℕ) (volumes : List Float) (ends : List ℕ) (lengths : List Float) (outline log : List ℕ) (L : Rooms) (I : Lent)
    (Y : Ready L k I (mesh_at k points roots corners volumes ends lengths outline)) where
  abbrev world : World
  world = world_at k points roots corners volumes ends lengths outline log

  abbrev plain : Run → Run
  plain R = split_by_of w K R v

  abbrev slacked : Run → Run
  slacked R = split_in w K R v

  fit : Indexed world.mesh
  unfolding world_at
  fit = accepted_indexed (mesh_at k points roots corners volumes ends lengths outline) Y.indices

  count : length world.mesh.particles ≡ k.particles
  unfolding world_at
  count = particles_count k points roots corners volumes ends lengths outline

  -- the plain split lacks room
  pub blocks_refused : {at at' : Counts → World} (r : Ran) (c : Refusal) → r ≡ Err c → Works plain L world at r → Works slacked L world at' r
  blocks_refused {at} {at'} r c known F = in_refused K v {at = at} r w {at' = at'} c known fit F

  -- nothing is made slack
  pub blocks_plain : (points' : List Float) (roots' corners' : List ℕ) (ends' : List ℕ) (lengths' : List Float) (outline' log' : List ℕ) (r : Ran) (next : Counts) → r ≡ Ok next → slackens? w k.particles next.particles ≡ false
      → Works plain L world (λ q. world_at q points' roots' corners' volumes ends' lengths' outline' log') r → Works slacked L world (λ q. world_at q points' roots' corners' volumes ends' lengths' outline' log') (Ok next)
  blocks_plain points' roots' corners' ends' lengths' outline' log' r next known s F = in_plain K v r w next k.particles next.particles known fit count (world_count next points' roots' corners' volumes ends' lengths' outline' log') s F

  -- its edges are there
  pub blocks_edges : {at : Counts → World} (r : Ran) (next : Counts) → r ≡ Ok next → Works plain L world at r → Logged k.log log → (le ll : ℕ) → le ≡ I.ends → ll ≡ I.lengths → EdgesHere next.edges le ll
  unfolding world_at
  blocks_edges r next known F G le ll e f =
      let b : next.edges ≤ L.edges = (by_within w K v r F next known G.entries G.words).edges in
      let a : L.edges ≤ I.ends / 4 = Y.rooms.ends in
      let d : L.edges ≤ I.lengths / 4 = Y.rooms.lengths in
      record { ends = omega arith; lengths = omega arith }

  -- they are slack behind it
  pub blocks_slack : (points' : List Float) (roots' corners' : List ℕ) (ends' : List ℕ) (lengths' lengths'' : List Float) (outline' log' : List ℕ) (r : Ran) (next : Counts) → r ≡ Ok next → slackens? w k.particles next.particles ≡ true
      → Works plain L world (λ q. world_at q points' roots' corners' volumes ends' lengths' outline' log') r → SlackFrom k.particles next.edges ends' lengths' lengths''
      → Works slacked L world (λ q. world_at q points' roots' corners' volumes ends' lengths'' outline' log') (Ok next)
  blocks_slack points' roots' corners' ends' lengths' lengths'' outline' log' r next known s F S =
      in_slack K v r w next k.particles next.particles known fit count s (slack_world_lem k.particles next points' roots' corners' volumes ends' lengths' lengths'' outline' log' S) F
